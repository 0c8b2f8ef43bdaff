-- The tables of a text, of its rows or of its tags, are those of the shape, but for their rows.
use Prim.Native.Nat.{ℕ, zero, suc, ◌+◌, ◌<◌}
use mathlib.Core.Path.{◌≡◌, refl, sym, ap, ◌∙◌}
use mathlib.Core.List.{List, [], ◌∷◌}
use native.Mathlib.Nat.{zero-add}
use native.Mathlib.Omega.{arith}
use lib.ListN.{length}
use Rattle.model.specs.Bounds.{no_parent}
use Rattle.model.specs.Catalogue.{tables, columns, parent}
use Rattle.model.specs.Encode.{Content, content}
use Rattle.model.specs.Forest.{Forest, rows_in, contents_in, contents_of}
use Rattle.model.specs.Convert.{Tag, table_from, contents_from}
use Rattle.encoding.specs.Sound.{Shaped, table_of}

-- tables that are made one for each number, `make n i` those of n numbers from i on
module _ (table : ℕ → Content) (make : ℕ → ℕ → List Content) (none : (i : ℕ) → make 0 i ≡ [])
    (more : (n i : ℕ) → make (suc n) i ≡ table i ∷ make n (suc i)) where
  made_length : (n i : ℕ) → length (make n i) ≡ n
  made_length zero i = ap length (none i)
  made_length (suc n) i = ap length (more n i) ∙ ap suc (made_length n (suc i))

  made_at : (n i k : ℕ) → k < n → table_of (make n i) k ≡ table (i + k)
  made_at zero i k l = absurd (omega arith)
  made_at (suc n) i zero l = ap (λ (ts : List Content). table_of ts 0) (more n i) ∙ ap table (omega arith)
  made_at (suc n) i (suc k) l =
      ap (λ (ts : List Content). table_of ts (suc k)) (more n i) ∙ made_at n (suc i) k (omega arith)
      ∙ ap table (omega arith)

  made_from : (n k : ℕ) → k < n → table_of (make n 0) k ≡ table k
  made_from n k l = made_at n 0 k l ∙ ap table (zero-add k)

  made_shaped : (shape : List ℕ) → ((i : ℕ) → (table i).columns ≡ columns shape i)
      → ((i : ℕ) → (table i).parent ≡ parent shape i) → Shaped shape (make (tables shape) 0)
  made_shaped shape c p =
      record {
        count = sym (made_length (tables shape) 0);
        columns_same = λ i l.
            ap (λ (t : Content). t.columns) (made_from (tables shape) i (omega (arith, made_length (tables shape) 0)))
            ∙ c i;
        parent_same = λ i l.
            ap (λ (t : Content). t.parent) (made_from (tables shape) i (omega (arith, made_length (tables shape) 0)))
            ∙ p i;
      }

-- the tables of a text: of its rows, and of its tags
module _ (shape : List ℕ) (f : Forest) where
  table_in : ℕ → Content
  table_in i = content (columns shape i) (parent shape i) (rows_in (columns shape i) i f no_parent [])

  pub contents_table : (i : ℕ) → i < tables shape
      → table_of (contents_of shape f) i
      ≡ content (columns shape i) (parent shape i) (rows_in (columns shape i) i f no_parent [])
  unfolding contents_of contents_in table_in
  contents_table i l = made_from table_in (contents_in shape f) (λ j. refl) (λ n j. refl) (tables shape) i l

  pub contents_shaped : Shaped shape (contents_of shape f)
  unfolding contents_of contents_in table_in
  contents_shaped =
      made_shaped table_in (contents_in shape f) (λ i. refl) (λ n i. refl) shape (λ i. refl) (λ i. refl)

module _ (shape : List ℕ) (tags : List Tag) where
  pub tags_table : (i : ℕ) → i < tables shape
      → table_of (contents_from shape tags (tables shape) 0) i ≡ table_from shape tags i
  unfolding contents_from
  tags_table i l =
      made_from (table_from shape tags) (contents_from shape tags) (λ j. refl) (λ n j. refl) (tables shape) i l

  pub tags_shaped : Shaped shape (contents_from shape tags (tables shape) 0)
  unfolding contents_from table_from
  tags_shaped =
      made_shaped (table_from shape tags) (contents_from shape tags) (λ i. refl) (λ n i. refl) shape
      (λ i. refl) (λ i. refl)
