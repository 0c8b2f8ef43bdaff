-- The answers of `elements::content` and `elements::element`.
use Prim.Native.Nat.{ℕ, ◌-◌}
use mathlib.Core.Path.{sym, ap, ◌∙◌}
use native.Mathlib.Omega.{arith}
use Rattle.model.specs.Form.{table_of, content_by, element_at}
use Rattle.model.specs.Convert.{taken}
use Rattle.scanner.proofs.Read.{none_given, read_at}
use Rattle.scanner.proofs.Progress.{skip_low}
use Rattle.elements.proofs.Progress.{tag_on}
use Rattle.elements.proofs.Inside.{content_begun, content_done, content_fails, content_more, content_nearer}
use Rattle.elements.proofs.Rest.{rest_empty, rest_none, rest_bad, rest_filled}
use Rattle.elements.proofs.Row.{element_none, element_unfit, element_fit}
use Rattle.elements.proofs.+content_element.Goals as goal

pub content-loop-q-init : goal.content-loop-q-init
content-loop-q-init t c =
    (content_begun _ _ _ _ c.args.p c.skip-q.ensures, omega (arith, skip_low c.args.s.now c.args.p, c.skip-q.ensures))

pub content-returns-in_err-end-clause-place : goal.content-returns-in_err-end-clause-place
content-returns-in_err-end-clause-place t c =
    none_given c.from_residual.ensures
    (sym (content_fails _ _ _ _ c.loop-q.q c.is_open.ensures c.loop-q-test.true c.in_err-end.ensures.place)
    ∙ c.loop-q.invariant.0)

pub content-loop-q-smaller : goal.content-loop-q-smaller
content-loop-q-smaller t c =
    omega (
      arith,
      content_nearer _ _ _ _ c.loop-q.q c.is_open.ensures c.loop-q-test.true
          c.in_ok-end.ensures.place c.in_ok-end.ensures.onward c.skip-q-in-loop-q.ensures,
    )

pub content-loop-q-preserved : goal.content-loop-q-preserved
content-loop-q-preserved t c = (
  sym (content_more _ _ _ _ c.loop-q.q c.is_open.ensures c.loop-q-test.true
      c.in_ok-end.ensures.place c.in_ok-end.ensures.onward c.skip-q-in-loop-q.ensures)
      ∙ c.loop-q.invariant.0,
  omega (
    arith,
    content_nearer _ _ _ _ c.loop-q.q c.is_open.ensures c.loop-q-test.true
        c.in_ok-end.ensures.place c.in_ok-end.ensures.onward c.skip-q-in-loop-q.ensures,
  ),
)

pub content-returns-clause-place : goal.content-returns-clause-place
content-returns-clause-place t c =
    sym (content_done _ _ _ _ c.loop-q.q c.is_open.ensures c.loop-q-test.false) ∙ c.loop-q.invariant.0

pub element-returns-then-depth-eq0-clause-place : goal.element-returns-then-depth-eq0-clause-place
unfolding element_at
element-returns-then-depth-eq0-clause-place t c =
    let a = c.args in
    ap (λ (n : ℕ). element_at a.s.now (taken a.strict a.shape.now) n a.up a.p) (sym c.if-depth-eq0.true)

pub element-returns-in_err-end-clause-place : goal.element-returns-in_err-end-clause-place
element-returns-in_err-end-clause-place t c =
    none_given c.from_residual.ensures (element_none _ _ _ _ _ c.if-depth-eq0.false c.in_err-end.ensures.place)

pub element-overflow_add-p : goal.element-overflow_add-p
element-overflow_add-p t c =
    let e = c.in_ok-end.ensures in
    omega (arith, tag_on c.args.s.now c.args.p (sym e.place) (λ z. omega (arith, e.onward)))

pub element-returns-then-not-is_taken-clause-place : goal.element-returns-then-not-is_taken-clause-place
element-returns-then-not-is_taken-clause-place t c =
    element_unfit _ _ _ _ _ c.if-depth-eq0.false c.in_ok-end.ensures.place c.in_ok-end.ensures.onward
    c.is_taken.ensures c.if-not-is_taken.true

pub element-returns-then-byte_at-eq47-clause-place : goal.element-returns-then-byte_at-eq47-clause-place
element-returns-then-byte_at-eq47-clause-place t c =
    element_fit _ _ _ _ _ c.if-depth-eq0.false c.in_ok-end.ensures.place c.in_ok-end.ensures.onward
    c.is_taken.ensures c.if-not-is_taken.false
    (rest_empty _ _ _ _ c.byte_at.ensures c.if-byte_at-eq47.true c.expect.ensures.place)

pub element-returns-in_err-inside-clause-place : goal.element-returns-in_err-inside-clause-place
element-returns-in_err-inside-clause-place t c =
    none_given c.from_residual-in_err-inside.ensures
    (element_fit _ _ _ _ _ c.if-depth-eq0.false c.in_ok-end.ensures.place c.in_ok-end.ensures.onward
    c.is_taken.ensures c.if-not-is_taken.false
    (rest_none _ _ _ _ c.byte_at.ensures c.if-byte_at-eq47.false c.in_err-inside.ensures.place))

pub element-returns-in_err-last-clause-place : goal.element-returns-in_err-last-clause-place
unfolding table_of
element-returns-in_err-last-clause-place t c =
    let a = c.args in
    let s = a.s.now in
    none_given c.from_residual-in_err-last.ensures
    (element_fit _ _ _ _ _ c.if-depth-eq0.false c.in_ok-end.ensures.place c.in_ok-end.ensures.onward
    c.is_taken.ensures c.if-not-is_taken.false
    (rest_bad _ _ _ _ c.byte_at.ensures c.if-byte_at-eq47.false
    c.in_ok-inside.ensures.place c.in_ok-inside.ensures.onward
    (read_at
    (λ n. content_by s (element_at s (taken a.strict a.shape.now) (a.depth - 1) n) c.in_ok-inside.inside)
    c.in_err-last.ensures.place c.number_at.ensures)))

pub element-returns-clause-place : goal.element-returns-clause-place
unfolding table_of
element-returns-clause-place t c =
    let a = c.args in
    let s = a.s.now in
    element_fit _ _ _ _ _ c.if-depth-eq0.false c.in_ok-end.ensures.place c.in_ok-end.ensures.onward
    c.is_taken.ensures c.if-not-is_taken.false
    (rest_filled _ _ _ _ c.byte_at.ensures c.if-byte_at-eq47.false
    c.in_ok-inside.ensures.place c.in_ok-inside.ensures.onward
    (read_at
    (λ n. content_by s (element_at s (taken a.strict a.shape.now) (a.depth - 1) n) c.in_ok-inside.inside)
    c.in_ok-last.ensures.place c.number_at.ensures)
    c.in_ok-last.ensures.onward c.row_end.ensures.place)
