-- The answers of `keys::lay`.
use Prim.Native.Nat.{ℕ, ◌%◌}
use mathlib.Core.Path.{refl, sym, ap, ◌∙◌}
use native.Mathlib.Omega.{arith}
use Rattle.model.proofs.Check.{accepted_rows}
use Rattle.climb.proofs.Table.{entry_read, head_read}
use Rattle.keys.proofs.Laying.{laying_begun, own_left, few_left, rows_within, laying_done, parent_lower, laying_next}
use Rattle.keys.proofs.lay.Goals as goal

pub own_rows-requires : goal.own_rows-requires
own_rows-requires c = (
  omega (arith, c.rows-end.ensures.is, accepted_rows _ c.args.target.accepted c.args.target.table c.args.target.known),
  refl,
)

pub climb-init : goal.climb-init
climb-init c =
    laying_begun _ _ _ _ _ _ _ _ c.args.target.known c.members-above.ensures.is c.rows-end.ensures.is refl c.requires
    c.own_rows.ensures

pub overflow_mul-at : goal.overflow_mul-at
overflow_mul-at c =
    omega (
      arith,
      entry_read _ c.args.target.accepted c.climb.invariant.table c.trailer-first.ensures,
    )

pub overflow_add-first : goal.overflow_add-first
overflow_add-first c =
    omega (
      arith,
      entry_read _ c.args.target.accepted c.climb.invariant.table c.trailer-first.ensures,
    )

pub code_at-o-requires : goal.code_at-o-requires
code_at-o-requires c =
    entry_read _ c.args.target.accepted c.climb.invariant.table c.trailer-first.ensures

pub short_at-c-requires : goal.short_at-c-requires
short_at-c-requires c =
    omega (
      arith,
      head_read _ c.args.target.accepted c.climb.invariant.table c.trailer-first.ensures c.code_at-o.ensures,
    )

pub overflow_sub-above : goal.overflow_sub-above
overflow_sub-above c =
    own_left _ c.args.target.accepted c.climb.invariant c.trailer-first.ensures
    c.code_at-o.ensures c.short_at-c.ensures

pub lay_table-requires : goal.lay_table-requires
lay_table-requires c = record {
  o_bound = (
    omega arith,
    omega (
      arith,
      own_left _ c.args.target.accepted c.climb.invariant c.trailer-first.ensures
          c.code_at-o.ensures c.short_at-c.ensures,
      few_left _ c.args.target.accepted c.climb.invariant c.trailer-first.ensures
          c.code_at-o.ensures c.short_at-c.ensures,
    ),
    omega (arith, c.rows-end.ensures.is, accepted_rows _ c.args.target.accepted c.args.target.table c.args.target.known),
    c.climb.invariant.long,
  );
  by_index = λ q h.
      rows_within _ c.args.target.accepted c.climb.invariant c.trailer-first.ensures
      c.code_at-o.ensures c.short_at-c.ensures q
      (omega (arith, c.rows-end.ensures.is));
}

pub power-requires : goal.power-requires
power-requires c =
    omega (
      arith,
      few_left _ c.args.target.accepted c.climb.invariant c.trailer-first.ensures
          c.code_at-o.ensures c.short_at-c.ensures,
    )

pub returns-then-set-power-eq0 : goal.returns-then-set-power-eq0
returns-then-set-power-eq0 c = (
  c.lay_table.ensures.same_length ∙ c.climb.invariant.long,
  laying_done _ c.args.target.accepted c.climb.invariant c.trailer-first.ensures
      c.code_at-o.ensures c.short_at-c.ensures _ _ c.rows-end.ensures.is c.lay_table.ensures
      (ap (λ (x : ℕ). c.args.set % x) (sym c.power.ensures) ∙ c.if-set-power-eq0.true),
)

pub parent_rows-requires : goal.parent_rows-requires
parent_rows-requires c = record {
  end_le_row_bound = (omega (arith, c.rows-end.ensures.is, accepted_rows _ c.args.target.accepted c.args.target.table c.args.target.known), c.climb.invariant.wide);
  by_index = λ q h.
      omega (
        arith,
        rows_within _ c.args.target.accepted c.climb.invariant c.trailer-first.ensures
            c.code_at-o.ensures c.short_at-c.ensures q
            (omega (arith, c.rows-end.ensures.is)),
      );
}

pub short_at-at-requires : goal.short_at-at-requires
short_at-at-requires c =
    omega (
      arith,
      head_read _ c.args.target.accepted c.climb.invariant.table c.trailer-first.ensures c.code_at-o.ensures,
    )

pub climb-smaller : goal.climb-smaller
climb-smaller c =
    parent_lower _ c.args.target.accepted c.climb.invariant c.trailer-first.ensures
    c.code_at-o.ensures c.short_at-c.ensures _ c.short_at-at.ensures
    (λ e. c.if-set-power-eq0.false (ap (λ (x : ℕ). c.args.set % x) c.power.ensures ∙ e))

pub climb-preserved : goal.climb-preserved
climb-preserved c =
    laying_next _ c.args.target.accepted c.climb.invariant c.trailer-first.ensures
    c.code_at-o.ensures c.short_at-c.ensures _ _ _ _ c.rows-end.ensures.is c.lay_table.ensures
    (λ e. c.if-set-power-eq0.false (ap (λ (x : ℕ). c.args.set % x) c.power.ensures ∙ e))
    c.short_at-at.ensures c.parent_rows.ensures
