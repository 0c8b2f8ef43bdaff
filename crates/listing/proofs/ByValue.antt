-- The run by value of `list_filled`, over plain values: what it is before and after the call of `list`.
use mathlib.Core.Path.{◌≡◌, sym, ◌∙◌, ap, ap₂, subst}
use Prim.Native.Nat.{ℕ, zero, suc, ◌+◌, ◌-◌, ◌≤◌, ◌<◌}
use native.Mathlib.Omega.{arith}
use native.Mathlib.Nat.{zero-add, suc-add}
use mathlib.Core.Logic.{◌⊎◌, inl, inr}
use mathlib.Core.List.{List, ◌∷◌, ◌++◌}
use lib.ListN.{length, take, drop, replicate, length-replicate, length-append}
use lib.Seq.{take_at, drop_at}
use Rattle.columns.specs.Test.{if_lt}
use Rattle.columns.proofs.Test.{if_lt_yes, if_lt_no}
use Rattle.model.specs.Entry.{entry}
use Rattle.model.specs.Reply.{list_reply}
use Rattle.model.specs.declared.Entry.{Entry}
use Rattle.std.specs.Prelude.{Result, min}
use Rattle.model.specs.declared.Progress.{Progress}
use Rattle.model.specs.declared.Refusal.{Refusal}
use Rattle.model.proofs.Calls.{le_or_lt}
use Rattle.model.specs.List.{ListMeaning}
use Rattle.model.specs.Calls.{seen}
use Rattle.listing.specs.Filled.{run_bound, cap, FilledBy}

abbrev pub zeros : Entry
zeros = entry 0 0 0

pub cap_within : (room : ℕ) → cap room ≤ run_bound
unfolding cap
cap_within room = go (le_or_lt run_bound room)
  where
    go : (run_bound ≤ room) ⊎ (room < run_bound) → cap room ≤ run_bound
    go (inl h) = rw (if_lt_no room h) (omega arith)
    go (inr h) = rw (if_lt_yes run_bound h) (omega arith)

-- the less of the two is what the run holds
pub min_cap : (room : ℕ) {k : ℕ} → k ≡ min room run_bound → k ≡ cap room
unfolding cap
min_cap room {k} e = go (le_or_lt run_bound room)
  where
    go : (run_bound ≤ room) ⊎ (room < run_bound) → k ≡ if_lt room run_bound room run_bound
    go (inl h) = rw (if_lt_no room h) (omega arith)
    go (inr h) = rw (if_lt_yes run_bound h) (omega arith)

replicate_add : {A : Type 0} (m n : ℕ) (a : A) → replicate (m + n) a ≡ replicate m a ++ replicate n a
replicate_add zero n a = ap (λ (k : ℕ). replicate k a) (zero-add n)
replicate_add {A} (suc m) n a =
    ap (λ (k : ℕ). replicate k a) (suc-add m n) ∙ ap (λ (l : List A). a ∷ l) (replicate_add m n a)

abbrev pub fresh : ℕ → List Entry
fresh room = replicate (cap room) zeros

abbrev pub rest : ℕ → List Entry
rest room = replicate (run_bound - cap room) zeros

pub run_parts : (room : ℕ) → replicate run_bound zeros ≡ fresh room ++ rest room
run_parts room =
    let e : cap room + (run_bound - cap room) ≡ run_bound = omega (arith, cap_within room) in
    ap (λ (n : ℕ). replicate n zeros) (sym e) ∙ replicate_add (cap room) (run_bound - cap room) zeros

pub run_length : (room : ℕ) (ys : List Entry) → length ys ≡ length (fresh room) → length (ys ++ rest room) ≡ run_bound
run_length room ys e =
    omega (
      arith,
      length-append ys (rest room),
      length-replicate (cap room) zeros,
      length-replicate
          (run_bound - cap room) zeros,
      cap_within room,
    )

pub filled_by : (cat : List ℕ) (place budget room : ℕ) (words : List ℕ) (a : Result Progress Refusal) (ys : List Entry) (ws : List ℕ)
    → length ys ≡ length (fresh room) → ListMeaning cat (seen place budget (fresh room) words (list_reply a) ys ws)
    → FilledBy cat place budget room words a (ys ++ rest room) ws
filled_by cat place budget room words a ys ws e l =
    let n : length ys ≡ cap room = e ∙ length-replicate (cap room) zeros in
    record {
      listed =
          subst (λ (zs : List Entry). ListMeaning cat (seen place budget (fresh room) words (list_reply a) zs ws))
          (sym (take_at ys (rest room) (cap room) n)) l;
      others = drop_at ys (rest room) (cap room) n;
    }

-- what a slice of the first records of a run of zero entries is, and what stays behind it
module _ (room k : ℕ) (zs : List Entry) (z : zs ≡ replicate run_bound zeros) (e : k ≡ cap room) where
  parted : zs ≡ fresh room ++ rest room
  parted = z ∙ run_parts room

  pub taken : take k zs ≡ fresh room
  taken = ap₂ take e parted ∙ take_at (fresh room) (rest room) (cap room) (length-replicate (cap room) zeros)

  pub behind : drop k zs ≡ rest room
  behind = ap₂ drop e parted ∙ drop_at (fresh room) (rest room) (cap room) (length-replicate (cap room) zeros)

  pub taken_length : k ≡ length (take k zs)
  taken_length = e ∙ sym (ap length taken ∙ length-replicate (cap room) zeros)

  pub filled_from : (cat : List ℕ) (place budget : ℕ) (words : List ℕ) (a : Result Progress Refusal) (ys : List Entry) (ws : List ℕ)
      → length ys ≡ length (take k zs) → ListMeaning cat (seen place budget (take k zs) words (list_reply a) ys ws)
      → FilledBy cat place budget room words a (ys ++ drop k zs) ws
  filled_from cat place budget words a ys ws n m =
      subst (λ (r : List Entry). FilledBy cat place budget room words a (ys ++ r) ws) (sym behind)
      (filled_by cat place budget room words a ys ws (n ∙ ap length taken)
      (subst (λ (r : List Entry). ListMeaning cat (seen place budget r words (list_reply a) ys ws)) taken m))
