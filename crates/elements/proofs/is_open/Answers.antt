-- `elements::is_open` meets its contract.
use Prim.Native.Nat.{ℕ}
use mathlib.Core.Path.{sym, ap, ◌∙◌}
use mathlib.Core.Bool.{not}
use native.Mathlib.Omega.{arith}
use borrow.Author.Tests.{eq-eqb, ne_eqb}
use lib.Dec.{eqb}
use Rattle.model.specs.Bytes.{byte_at}
use Rattle.model.specs.Xml.{less, slash}
use Rattle.model.specs.Form.{is_open}
use Rattle.scanner.proofs.Progress.{byte_inside}
use Rattle.elements.proofs.is_open.Goals as goal

pub returns-then-byte_at-ne60 : goal.returns-then-byte_at-ne60
unfolding is_open
returns-then-byte_at-ne60 c =
    let a = c.args in
    simp (ne_eqb (byte_at a.s.now a.p) less (λ z. c.if-byte_at-ne60.true (c.byte_at.ensures ∙ z)))

pub overflow_add-p : goal.overflow_add-p
overflow_add-p c =
    let a = c.args in
    omega (arith, byte_inside a.s.now a.p (λ z. omega (arith, c.byte_at.ensures ∙ z)))

pub returns : goal.returns
unfolding is_open
returns c =
    let a = c.args in
    simp (eq-eqb (byte_at a.s.now a.p) less (sym c.byte_at.ensures ∙ c.if-byte_at-ne60.false))
    (ap (λ (x : ℕ). not (eqb x slash)) c.byte_at-2.ensures)
