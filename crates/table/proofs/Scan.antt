-- The scan: words that hold at each agree set that occurs what it breaks, and 0 at any other, are what `Scanned`
-- speaks of.
use Prim.Native.Nat.{ℕ, suc, ◌-◌, ◌^◌, ◌≤◌, ◌<◌}
use mathlib.Core.Path.{◌≡◌, sym, ap, ◌∙◌}
use mathlib.Core.Logic.{◌↔◌}
use mathlib.Core.Bool.{Bool, true, false}
use mathlib.Core.List.{List}
use native.Mathlib.Nat.{two-pow-succ}
use native.Mathlib.Omega.{arith}
use lib.Dec.{T}
use Rattle.columns.specs.Set.{bit}
use Rattle.columns.specs.Test.{pick}
use Rattle.model.specs.View.{View}
use Rattle.table.specs.Words.{word}
use Rattle.table.specs.Broken.{Occurs, broken_by, Scanned}
use Rattle.columns.proofs.Bits.{bit_complement}
use Rattle.table.proofs.Bits.{bit_none}

-- its bits
broken_bit : (n s a : ℕ) → s < 2 ^ n → a ≤ n → bit (broken_by n s) a ≡ 1 - bit s a
broken_bit n s a l h = bit_complement (suc n) s a (omega (arith, two-pow-succ n)) (omega arith)

noted_bit : (n s a : ℕ) (t : Bool) → s < 2 ^ n → a ≤ n → (bit (pick t (broken_by n s) 0) a ≡ 1) ↔ (T t × (bit s a ≡ 0))
noted_bit n s a true l h =
    (λ e. (tt, omega (arith, broken_bit n s a l h)), λ f. omega (arith, f.1, broken_bit n s a l h))
noted_bit n s a false l h = (λ e. absurd (omega (arith, bit_none a)), λ f. absurd f.0)

pub noted_scanned : (v : View) (seen : ℕ → Bool) (ws : List ℕ)
    → ((s : ℕ) → s < 2 ^ v.members → T (seen s) ↔ Occurs v s)
    → ((s : ℕ) → s < 2 ^ v.members → word ws s ≡ pick (seen s) (broken_by v.members s) 0)
    → Scanned v ws
noted_scanned v seen ws occurs noted s a l h =
    let is = ap (λ (w : ℕ). bit w a) (noted s l) in
    let by = noted_bit v.members s a (seen s) l h in (
      λ e. let f = by.0 (sym is ∙ e) in ((occurs s l).0 f.0, f.1),
      λ f. is ∙ by.1 ((occurs s l).1 f.0, f.1),
    )
