-- An entry and a record are for a target and a right by the two bytes that they begin with.
use Prim.Native.Nat.{ℕ, ◌+◌}
use mathlib.Core.Path.{◌≡◌, subst}
use mathlib.Core.Logic.{◌↔◌}
use mathlib.Core.Bool.{Bool, true}
use mathlib.Core.List.{List}
use Rattle.model.specs.Bytes.{byte_at}
use Rattle.model.specs.Entries.{entry_at}
use Rattle.model.specs.Evidence.{record_at}
use Rattle.model.specs.Contains.{EntryFor}
use Rattle.model.specs.Verify.{RecordFor}

module _ (bytes : List ℕ) (target right : ℕ) {at place : ℕ} (e : at ≡ place) {r : Bool}
    (is : (r ≡ true) ↔ ((byte_at bytes at ≡ target) × (byte_at bytes (at + 1) ≡ right))) where
  pub entry_for : (r ≡ true) ↔ EntryFor target right (entry_at bytes place)
  unfolding entry_at
  entry_for = subst (λ (p : ℕ). (r ≡ true) ↔ ((byte_at bytes p ≡ target) × (byte_at bytes (p + 1) ≡ right))) e is

  pub record_for : (r ≡ true) ↔ RecordFor target right (record_at bytes place)
  unfolding record_at
  record_for = subst (λ (p : ℕ). (r ≡ true) ↔ ((byte_at bytes p ≡ target) × (byte_at bytes (p + 1) ≡ right))) e is
