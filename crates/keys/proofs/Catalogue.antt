-- Keys laid from an accepted catalogue are right for the target.
use Prim.Native.Nat.{ℕ, ◌-◌, ◌^◌, ◌<◌}
use mathlib.Core.Path.{◌≡◌, sym, subst}
use mathlib.Core.List.{List}
use Rattle.model.specs.Catalogue.{tables, rows, visible}
use Rattle.model.specs.Check.{Accepted}
use Rattle.model.specs.Target.{view}
use Rattle.model.specs.View.{View}
use Rattle.model.proofs.Check.{accepted_rows, accepted_visible}
use Rattle.model.proofs.Target.{view_equivalence}
use Rattle.leaders.specs.Keys.{LaidFor, Keyed}
use Rattle.leaders.proofs.Keys.{laid_keyed}

pub laid_catalogue : (cat : List ℕ) (target set : ℕ) (keys : List ℕ) → Accepted cat → target < tables cat
    → LaidFor (view cat target) set keys → Keyed (view cat target) set (visible cat target) (rows cat target) keys
laid_catalogue cat target set keys ok h laid =
    laid_keyed (view cat target) set keys (view_equivalence cat target) (accepted_visible cat ok target h)
    (accepted_rows cat ok target h) laid

-- those of all members, laid for the set of all of them
pub laid_all : (cat : List ℕ) (target n m : ℕ) (keys : List ℕ) → Accepted cat → target < tables cat
    → n ≡ visible cat target → m ≡ 2 ^ n → LaidFor (view cat target) (m - 1) keys
    → Keyed (view cat target) (2 ^ n - 1) n (rows cat target) keys
laid_all cat target n m keys ok l e f laid =
    subst (λ (k : ℕ). Keyed (view cat target) (2 ^ n - 1) k (rows cat target) keys) (sym e)
    (laid_catalogue cat target (2 ^ n - 1) keys ok l
    (subst (λ (k : ℕ). LaidFor (view cat target) (k - 1) keys) f laid))

-- the same with the numbers of members and rows as they were read
pub keyed_for : (v : View) {n m end rows : ℕ} {keys : List ℕ} → n ≡ m → end ≡ rows → Keyed v (2 ^ m - 1) m rows keys
    → Keyed v (2 ^ n - 1) n end keys
keyed_for v {n} {rows = rows} {keys = keys} d e keyed =
    subst (λ (k : ℕ). Keyed v (2 ^ n - 1) n k keys) (sym e)
    (subst (λ (k : ℕ). Keyed v (2 ^ k - 1) k rows keys) (sym d) keyed)
