-- Evidence (document 02, b): records that each name two rows which break a dependency. Records as bytes, and when one
-- is true: in the words of the document, and beside it the test that computes. That the two say the same is shown in
-- proofs/Tests.antt of `evidence`.
use Rattle.std.specs.Prelude.{ℕ, zero, suc, ◌+◌, ◌/◌, ◌%◌, ◌<◌, ◌≡◌, Bool, true, false, not, ◌&&◌, ◌||◌, List, []}
use Rattle.std.specs.Prelude.{◌∷◌, ◌++◌, T, eqb, ltb, length}
use Rattle.model.specs.Bytes.{byte_at, u16_at, bytes2}
use Rattle.model.specs.Catalogue.{rows}
use Rattle.model.specs.View.{In, AgreeOn, agree_right, is_in, agree_on}
use Rattle.model.specs.Target.{view}
use Rattle.model.specs.Question.{sides_code}
use Rattle.model.specs.declared.Evidence.{Evidence}

-- a record: target (1 byte), right (1), a column set (2), two rows (2 each)
abbrev pub evidence_bytes : ℕ
evidence_bytes = 8

unfoldable pub record_bytes : Evidence → List ℕ
record_bytes e = e.target ∷ e.right ∷ (bytes2 e.set ++ (bytes2 e.first ++ bytes2 e.second))

unfoldable pub record_at : List ℕ → ℕ → Evidence
record_at bytes i =
    record {
      target = byte_at bytes i;
      right = byte_at bytes (i + 1);
      set = u16_at bytes (i + 2);
      first = u16_at bytes (i + 4);
      second = u16_at bytes (i + 6);
    }

-- the records' bytes one after the other
unfoldable pub records_bytes : List Evidence → List ℕ
records_bytes [] = []
records_bytes (e ∷ es) = record_bytes e ++ records_bytes es

-- n records from byte i on
unfoldable pub records_from : List ℕ → ℕ → ℕ → List Evidence
records_from bytes zero i = []
records_from bytes (suc n) i = record_at bytes i ∷ records_from bytes n (i + evidence_bytes)

-- how many whole records there are, all of them, and whether no broken one comes last
unfoldable pub record_count : List ℕ → ℕ
record_count bytes = length bytes / evidence_bytes

unfoldable pub records_held : List ℕ → List Evidence
records_held bytes = records_from bytes (record_count bytes) 0

unfoldable pub unbroken : List ℕ → Bool
unbroken bytes = eqb (length bytes % evidence_bytes) 0

-- a record is true: 8 to 10 allow its target, set and right, both rows exist, its right is not in its set, and its
-- rows, in either order, agree on the set and disagree on the right
pub record TrueRecord (cat : List ℕ) (e : Evidence) : Type 0 where
  pub allowed : sides_code cat e.target e.set e.right ≡ 0
  pub first_exists : e.first < rows cat e.target
  pub second_exists : e.second < rows cat e.target
  pub outside : In e.right e.set → ⊥
  pub agree : AgreeOn (view cat e.target) e.set e.first e.second
  pub disagree : T (agree_right (view cat e.target) e.right e.first e.second) → ⊥

unfoldable pub is_true_record : List ℕ → Evidence → Bool
is_true_record cat e =
    eqb (sides_code cat e.target e.set e.right) 0
    && (ltb e.first (rows cat e.target)
    && (ltb e.second (rows cat e.target)
    && (not (is_in e.right e.set)
    && (agree_on (view cat e.target) e.set e.first e.second
    && not (agree_right (view cat e.target) e.right e.first e.second)))))

-- what holds of every element of a list, and of one of them
unfoldable pub all_in : {A : Type 0} → (A → Bool) → List A → Bool
all_in f [] = true
all_in f (x ∷ xs) = f x && all_in f xs

unfoldable pub some_in : {A : Type 0} → (A → Bool) → List A → Bool
some_in f [] = false
some_in f (x ∷ xs) = f x || some_in f xs
