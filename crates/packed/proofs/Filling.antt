-- What reading from an index on into a run answers, and the run then: a refusal, or the part of the file's entries.
use Prim.Native.Nat.{ℕ, ◌-◌}
use mathlib.Core.Path.{◌≡◌, refl, sym, ap, ap₂, ◌∙◌}
use mathlib.Core.List.{List, [], ◌∷◌}
use lib.ListN.{length, take, drop}
use Rattle.columns.proofs.Test.{if_eq_yes, is_if_ne}
use Rattle.model.specs.Calls.{run_after}
use Rattle.model.specs.Refusal.{number}
use Rattle.model.specs.Reply.{answered, refused}
use Rattle.model.specs.Entries.{entries_from}
use Rattle.model.specs.Reading.{count_in, distance_in, entries_held, read_code, open_meaning}
use Rattle.model.specs.Reading.{entries_read, read_from, read_meaning, run_read}
use Rattle.model.specs.declared.Entry.{Entry}
use Rattle.model.specs.declared.Refusal.{Refusal}
use Rattle.model.proofs.Grounds.{reply_refused, reply_answered}
use Rattle.unpacking.specs.Part.{part_from}
use Rattle.packed.proofs.Opening.{opened, refused_by}

module _ (file : List ℕ) (from : ℕ) (run : List Entry) where
  pub reads_not : (r : Refusal) → refused (number r) ≡ open_meaning file
      → (refused (number r) ≡ read_meaning file from (length run)) × (run ≡ run_read file from run)
  unfolding open_meaning read_meaning run_read run_after
  reads_not r q =
      let o = refused_by (read_code file) (count_in file ∷ (length file - distance_in file) ∷ []) q in
      (reply_refused _ o.0 (λ z. o.1 (sym o.0 ∙ z)), is_if_ne _ o.1 refl)

  module _ {k p : ℕ} (q : answered (k ∷ p ∷ []) ≡ open_meaning file) where
    part_read : part_from file k p from (length run) ≡ read_from file from (length run)
    unfolding read_from entries_read entries_held
    part_read =
        let o = opened file q in
        ap (λ (es : List Entry). take (length run) (drop from es))
        (ap₂ (entries_from file) o.count o.place ∙ sym (if_eq_yes [] o.sound))

    pub reads : {n : ℕ} {run' : List Entry} → n ≡ length (part_from file k p from (length run))
        → run' ≡ run_after 0 (part_from file k p from (length run)) run
        → (answered (n ∷ []) ≡ read_meaning file from (length run)) × (run' ≡ run_read file from run)
    unfolding read_meaning run_read
    reads e f =
        let z = (opened file q).sound in (
          ap (λ (m : ℕ). answered (m ∷ [])) (e ∙ ap length part_read) ∙ reply_answered _ z,
          f ∙ ap₂ (λ (c : ℕ) (es : List Entry). run_after c es run) (sym z) part_read,
        )
