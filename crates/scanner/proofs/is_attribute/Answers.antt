-- `scanner::is_attribute` meets its contract.
use Prim.Native.Nat.{ℕ}
use mathlib.Core.Path.{sym, ap, ◌∙◌}
use lib.Dec.{eqb}
use borrow.Author.Tests.{eq-eqb, ne_eqb}
use Rattle.model.specs.Bytes.{byte_at}
use Rattle.model.specs.Form.{is_attribute, skip}
use Rattle.scanner.proofs.is_attribute.Goals as goal

pub returns-then-q-p : goal.returns-then-q-p
unfolding is_attribute
returns-then-q-p c =
    let a = c.args in
    simp (eq-eqb (skip a.s.now a.p) a.p (sym c.skip-q.ensures ∙ c.if-q-p.true))

pub returns : goal.returns
unfolding is_attribute
returns c =
    let a = c.args in
    let e = c.skip-q.ensures in
    simp (ne_eqb (skip a.s.now a.p) a.p (λ z. c.if-q-p.false (e ∙ z)))
    (ap (λ (x : ℕ). eqb x 99) (c.byte_at.ensures ∙ ap (byte_at a.s.now) e))
