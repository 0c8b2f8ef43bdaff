-- What packing answers, and the output then: a refusal, or the list.
use Prim.Native.Nat.{ℕ, ◌≤◌}
use mathlib.Core.Path.{◌≡◌, refl, sym, ap, ◌∙◌}
use mathlib.Core.List.{List, [], ◌∷◌, ◌++◌}
use lib.ListN.{length, drop}
use Rattle.columns.proofs.Test.{is_if_eq, is_if_ne}
use Rattle.model.specs.Refusal.{number}
use Rattle.model.specs.Reply.{refused, answered}
use Rattle.model.specs.Entries.{entries_code}
use Rattle.model.specs.Packing.{packed, distance_of, output_code, pack_code, pack_meaning, output_after}
use Rattle.model.specs.declared.Entry.{Entry}
use Rattle.model.specs.declared.Refusal.{Refusal}
use Rattle.model.specs.declared.Refusal.TheVariants.{OutputTooShort}
use Rattle.model.proofs.Codes.{number_pos, refused_first, passed_first}
use Rattle.model.proofs.Grounds.{reply_refused, reply_answered}
use Rattle.entries.proofs.Grounds.{no_lt}

-- no ground by 16: there is room
pub has_room : (k room : ℕ) → 0 ≡ output_code k room → distance_of k ≤ room
unfolding output_code
has_room k room h = (no_lt room (distance_of k) (number OutputTooShort) 0 (number_pos OutputTooShort) (sym h)).0

module _ (es : List Entry) (o : List ℕ) where
  refused_by_code : (r : Refusal) → number r ≡ pack_code es (length o)
      → (refused (number r) ≡ pack_meaning es (length o)) × (o ≡ output_after es o)
  unfolding pack_meaning output_after
  refused_by_code r e = (reply_refused _ e (number_pos r), is_if_ne _ (λ z. number_pos r (e ∙ z)) refl)

  -- 15
  pub not_entries : (r : Refusal) → number r ≡ entries_code es
      → (refused (number r) ≡ pack_meaning es (length o)) × (o ≡ output_after es o)
  unfolding pack_code
  not_entries r e = refused_by_code r (refused_first r _ e)

  module _ (h : 0 ≡ entries_code es) where
    -- 16
    pub not_room : (r : Refusal) → number r ≡ output_code (length es) (length o)
        → (refused (number r) ≡ pack_meaning es (length o)) × (o ≡ output_after es o)
    unfolding pack_code
    not_room r e = refused_by_code r (passed_first h e)

    -- the list
    pub packs : 0 ≡ output_code (length es) (length o) → {n : ℕ} {out : List ℕ} → n ≡ distance_of (length es)
        → out ≡ packed es ++ drop (distance_of (length es)) o
        → (answered (n ∷ []) ≡ pack_meaning es (length o)) × (out ≡ output_after es o)
    unfolding pack_code pack_meaning output_after
    packs e p q =
        let z = sym (passed_first h e) in
        (ap (λ (m : ℕ). answered (m ∷ [])) p ∙ reply_answered _ z, is_if_eq _ z q)
