-- `rights::backed` meets its contract, whatever the words hold.
use Prim.Native.Nat.{ℕ, ◌+◌}
use mathlib.Core.Path.{sym, ap, subst, ◌∙◌}
use native.Mathlib.Omega.{arith}
use Rattle.std.specs.Prelude.{eqb}
use lib.Pow.{pow_mono}
use Rattle.columns.specs.Set.{bit}
use Rattle.table.specs.Words.{word}
use Rattle.planes.specs.Bits.{plane_bit}
use Rattle.planes.proofs.Bits.{power_words}
use Rattle.planes.proofs.Backed.{two_planes}
use Rattle.passing.specs.declared.Held.{Held}
use Rattle.rights.specs.Ready.{Readable, BackedBy}
use Rattle.rights.proofs.Held.{table_backed, seeds_backed}
use Rattle.rights.proofs.backed.Goals as goal

pub bounds-work-left : goal.bounds-work-left
bounds-work-left c =
    let s = c in
    let h = subst (λ (held : Held). Readable held s.args.n s.args.work.now) c.in-Table.is
    s.requires.2 in
    omega (arith, s.requires.1)

pub overflow_add-power : goal.overflow_add-power
overflow_add-power c =
    let s = c in
    record { fits = omega (arith, c.power.ensures, s.requires.1, pow_mono {i = s.args.n} {j = 16} s.requires.0) }

pub bit_at-requires : goal.bit_at-requires
bit_at-requires c =
    let s = c in
    let h = subst (λ (held : Held). Readable held s.args.n s.args.work.now) c.in-Seeds.is
    s.requires.2 in
    let l = h.1.one in
    omega (arith, c.power.ensures, s.requires.1, power_words s.args.n h.0, two_planes s.args.n h.0)

pub returns-in-Table : goal.returns-in-Table
returns-in-Table c =
    let s = c in
    let words = s.args.work.now in
    subst (λ (held : Held). BackedBy s.args.n s.args.left held words
    (eqb (bit (word words s.args.left) (s.args.n + 1)) 1))
    (sym c.in-Table.is)
    (table_backed s.args.n s.args.left words s.requires.1)

pub returns-in-Seeds : goal.returns-in-Seeds
returns-in-Seeds c =
    let s = c in
    let words = s.args.work.now in
    subst (λ (held : Held). BackedBy s.args.n s.args.left held words (eqb c.bit_at.result 1))
    (sym c.in-Seeds.is)
    (seeds_backed s.args.n s.args.left _ words s.requires.1
    (c.bit_at.ensures ∙ ap (λ (p : ℕ). plane_bit words (p + s.args.left)) c.power.ensures))
