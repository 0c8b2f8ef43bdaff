-- A reading entry by entry: its answers are the file's entries in order, then none, for every file.
use Prim.Native.Nat.{ℕ, zero, suc, ◌-◌, ◌<◌, min}
use mathlib.Core.Path.{◌≡◌, sym, ap, ap₂, ◌∙◌}
use mathlib.Core.List.{List, [], ◌∷◌}
use native.Mathlib.Omega.{arith}
use native.Mathlib.Decide.{dec_lt}
use lib.ListN.{length}
use Rattle.std.specs.Prelude.{Result, Ok, Err}
use denote.Ref.{Bor}
use Rattle.columns.proofs.Test.{if_eq_yes, if_eq_no, if_lt_yes, if_lt_no}
use Rattle.model.specs.Reply.{refused, answered, reply_of, open_reply}
use Rattle.model.specs.Reading.{count_in, distance_in, entries_read, front_read, read_code, open_meaning, read_at}
use Rattle.model.specs.declared.Entry.{Entry}
use Rattle.model.specs.declared.Opened.{Opened}
use Rattle.model.specs.declared.Refusal.{Refusal}
use Rattle.entries.proofs.Entries.{read_past}
use Rattle.unpacking.specs.Reading.{entries_by, front_by, after_in}
use Rattle.packed.specs.Reading.{Begun, entry_next, reader_after, Reads}
use Rattle.packed.specs.declared.Reader.{Reader}
use Rattle.packed.proofs.Opening.{answered_by, refused_by}

-- a reply says whether there is a ground
module _ (file : List ℕ) where
  accepts : {v : List ℕ} → answered v ≡ open_meaning file → read_code file ≡ 0
  unfolding open_meaning
  accepts p = (answered_by (read_code file) (count_in file ∷ (length file - distance_in file) ∷ []) p).0

  refuses : {k : ℕ} → refused k ≡ open_meaning file → read_code file ≡ 0 → ⊥
  unfolding open_meaning
  refuses p = (refused_by (read_code file) (count_in file ∷ (length file - distance_in file) ∷ []) p).1

  -- so what may be read by the answer is what may be read of the file
  pub entries_by_lem : (a : Result Opened Refusal) → open_reply a ≡ open_meaning file
      → entries_by a file ≡ entries_read file
  unfolding entries_by entries_read
  entries_by_lem (Ok o) p = sym (if_eq_yes _ (accepts p))
  entries_by_lem (Err r) p = sym (if_eq_no _ (refuses p))

  pub front_by_lem : (a : Result Opened Refusal) → open_reply a ≡ open_meaning file → front_by a file ≡ front_read file
  unfolding front_by front_read
  front_by_lem (Ok o) p = sym (if_eq_yes _ (accepts p))
  front_by_lem (Err r) p = sym (if_eq_no _ (refuses p))

-- a reading of any entries goes on to their end and stays there
after_min : (es : List Entry) (n : ℕ) → after_in es (min n (length es)) ≡ min (suc n) (length es)
unfolding after_in
after_min es n = go (dec_lt n (length es))
  where
    go : Dec (n < length es) → after_in es (min n (length es)) ≡ min (suc n) (length es)
    go (yes h) = if_lt_yes _ (omega arith) ∙ omega arith
    go (no h) = if_lt_no _ (omega arith) ∙ omega arith

read_min : (es : List Entry) (n : ℕ) → read_at es (min n (length es)) ≡ read_at es n
read_min es n = go (dec_lt n (length es))
  where
    go : Dec (n < length es) → read_at es (min n (length es)) ≡ read_at es n
    go (yes h) = let p : min n (length es) ≡ n = omega arith in ap (read_at es) p
    go (no h) = read_past es (min n (length es)) (omega arith) ∙ sym (read_past es n (omega arith))

module _ (f : Bor (List ℕ)) (r : Reader) (h : Begun f r) where
  -- the file and the answer stay as they were
  over : (n : ℕ) → (reader_after n r).list ≡ f
  over zero = h.over
  over (suc n) = over n

  reply : (n : ℕ) → open_reply (reader_after n r).answer ≡ open_meaning f.now
  reply zero = h.reply
  reply (suc n) = reply n

  held : (n : ℕ) → entries_by (reader_after n r).answer (reader_after n r).list.now ≡ entries_read f.now
  held n = ap (λ (g : Bor (List ℕ)). entries_by (reader_after n r).answer g.now) (over n)
      ∙ entries_by_lem f.now (reader_after n r).answer (reply n)

  position : (n : ℕ) → (reader_after n r).at ≡ min n (length (entries_read f.now))
  position zero = h.first ∙ omega arith
  position (suc n) = ap₂ after_in (held n) (position n) ∙ after_min (entries_read f.now) n

  answers : (n : ℕ) → entry_next (reader_after n r) ≡ read_at (entries_read f.now) n
  answers n = ap₂ read_at (held n) (position n) ∙ read_min (entries_read f.now) n

  -- every file is read so by the reader that begins on it
  pub reading : Reads f r
  reading =
      record {
        entries = answers;
        ends = λ n l. answers n ∙ read_past (entries_read f.now) n l;
        opened = reply;
        front = λ n. ap (λ (g : Bor (List ℕ)). front_by (reader_after n r).answer g.now) (over n)
            ∙ front_by_lem f.now (reader_after n r).answer (reply n);
      }

-- the reader of a refused file and that of an accepted one, an empty list for one, differ in what `open` answered
pub refused_differs : (f g : Bor (List ℕ)) (r s : Reader) → Begun f r → Begun g s → (read_code f.now ≡ 0 → ⊥)
    → read_code g.now ≡ 0
    → r.answer ≡ s.answer → ⊥
unfolding open_meaning reply_of
refused_differs f g r s h k n e p =
    let q : open_meaning f.now ≡ open_meaning g.now = sym h.reply ∙ ap open_reply p ∙ k.reply in
    n (accepts f.now (sym (if_eq_yes _ e) ∙ sym q))
