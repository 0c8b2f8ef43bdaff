-- What opening a file answers, ground by ground: 14 by its three tests, then 15, then the list. And back: what an
-- answer tells of the file.
use Prim.Native.Nat.{ℕ, ◌+◌, ◌-◌, ◌≤◌}
use mathlib.Core.Path.{◌≡◌, sym, ap, ap₂, ◌∙◌}
use mathlib.Core.List.{List, [], ◌∷◌}
use native.Mathlib.Decide.{ℕ_discrete}
use native.Mathlib.Omega.{arith}
use lib.ListN.{length, get_or}
use Rattle.columns.proofs.Test.{if_eq_yes, if_eq_no}
use Rattle.model.specs.Refusal.{number}
use Rattle.model.specs.Reply.{Reply, refused, answered, reply_of}
use Rattle.model.specs.Entries.{entries_from, entries_code}
use Rattle.model.specs.Packing.{trailer_bytes, distance_of}
use Rattle.model.specs.Reading.{entries_held, count_in, distance_in, tail_code, read_code, open_meaning}
use Rattle.model.specs.declared.Refusal.TheVariants.{NoList, BadEntry}
use Rattle.model.proofs.Grounds.{or_else_left}
use Rattle.model.proofs.Grounds.{is_this, or_else_next, reply_refused, reply_answered}
use Rattle.entries.proofs.Checks.{bad_some}
use Rattle.packed.proofs.Trailer.{list_some, listed, lists, unlisted}

-- 14
pub no_list : (file : List ℕ) {d k : ℕ} → d ≡ distance_in file → k ≡ count_in file
    → (trailer_bytes ≤ length file → d ≡ distance_of k → d ≤ length file → ⊥)
    → refused (number NoList) ≡ open_meaning file
unfolding open_meaning read_code
no_list file {d} {k} p q n =
    let e = unlisted file (λ l. n l.trailer (p ∙ l.distance ∙ ap distance_of (sym q)) (omega (arith, l.fits))) in
    reply_refused _ (is_this _ e list_some) list_some

-- 15, and the list
module _ (file : List ℕ) {d k : ℕ} (h : trailer_bytes ≤ length file) (p : d ≡ distance_in file) (q : k ≡ count_in file)
    (e : d ≡ distance_of k) (l : d ≤ length file) where
  is_list : tail_code file ≡ 0
  is_list =
      lists file (record { trailer = h; distance = sym p ∙ e ∙ ap distance_of q; fits = omega arith })

  checked : entries_code (entries_from file k (length file - d)) ≡ read_code file
  unfolding read_code entries_held
  checked = ap entries_code (ap₂ (λ (m n : ℕ). entries_from file m (length file - n)) q p)
      ∙ sym (or_else_next _ is_list)

  pub bad_list : number BadEntry ≡ entries_code (entries_from file k (length file - d))
      → refused (number BadEntry) ≡ open_meaning file
  unfolding open_meaning
  bad_list r = reply_refused _ (r ∙ checked) bad_some

  pub good_list : 0 ≡ entries_code (entries_from file k (length file - d))
      → answered (k ∷ (length file - d) ∷ []) ≡ open_meaning file
  unfolding open_meaning
  good_list r =
      ap₂ (λ (m n : ℕ). answered (m ∷ (length file - n) ∷ [])) q p ∙ reply_answered _ (sym (r ∙ checked))

-- ---- a reply tells its code and its values, and so what opening answered tells what the file is
abbrev values_in : Reply → List ℕ
values_in (refused n) = []
values_in (answered vs) = vs

abbrev number_in : Reply → ℕ
number_in (refused n) = n
number_in (answered vs) = 0

pub answered_by : (code : ℕ) (values : List ℕ) {v : List ℕ} → answered v ≡ reply_of code values
    → (code ≡ 0) × (v ≡ values)
unfolding reply_of
answered_by code values {v} p = go (ℕ_discrete code 0)
  where
    go : Dec (code ≡ 0) → (code ≡ 0) × (v ≡ values)
    go (yes e) = (e, ap values_in (p ∙ if_eq_yes _ e))
    go (no n) =
        let q : answered v ≡ refused code = p ∙ if_eq_no _ n in
        let z : ◌≡◌ {A = ℕ} 0 1 = cc in absurd (omega arith)

pub refused_by : (code : ℕ) (values : List ℕ) {n : ℕ} → refused n ≡ reply_of code values → (n ≡ code) × (code ≡ 0 → ⊥)
unfolding reply_of
refused_by code values {n} p = go (ℕ_discrete code 0)
  where
    go : Dec (code ≡ 0) → (n ≡ code) × (code ≡ 0 → ⊥)
    go (no m) = (ap number_in (p ∙ if_eq_no _ m), m)
    go (yes e) =
        let q : refused n ≡ answered values = p ∙ if_eq_yes _ e in
        let z : ◌≡◌ {A = ℕ} 0 1 = cc in absurd (omega arith)

-- what a file is that `open` accepts: k entries from a position on, and the trailer
pub record Opened (file : List ℕ) (k first : ℕ) : Type 0 where
  pub sound : read_code file ≡ 0
  pub count : k ≡ count_in file
  pub place : first ≡ length file - distance_in file
  pub inside : first + distance_of k ≡ length file

pub opened : (file : List ℕ) {k first : ℕ} → answered (k ∷ first ∷ []) ≡ open_meaning file → Opened file k first
unfolding open_meaning read_code
opened file {k} {first} p =
    let q = answered_by (read_code file) (count_in file ∷ (length file - distance_in file) ∷ []) p in
    let l = listed file (or_else_left (tail_code file) _ q.0) in
    let m : k ≡ count_in file = ap (λ (v : List ℕ). get_or v 0 0) q.1 in
    let n : first ≡ length file - distance_in file = ap (λ (v : List ℕ). get_or v 1 0) q.1 in
    record { sound = q.0; count = m; place = n; inside = omega (arith, l.distance, l.fits) }
