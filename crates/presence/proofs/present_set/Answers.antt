-- The answers of `presence::present_set`.
use native.Mathlib.Omega.{arith}
use Rattle.climb.proofs.Table.{entry_read, head_read}
use Rattle.presence.proofs.Climbing.{climbing_begun, own_left, few_left, set_small, here_within}
use Rattle.presence.proofs.Climbing.{climbing_done, parent_lower, climbing_next}
use Rattle.presence.proofs.present_set.Goals as goal

pub climb-init : goal.climb-init
climb-init c = climbing_begun _ _ _ _ c.args.target.known c.requires.0 c.requires.1

pub overflow_mul-at : goal.overflow_mul-at
overflow_mul-at c =
    omega (
      arith,
      entry_read _ c.args.target.accepted c.climb.invariant.table c.trailer-first.ensures,
    )

pub overflow_add-first : goal.overflow_add-first
overflow_add-first c =
    omega (
      arith,
      entry_read _ c.args.target.accepted c.climb.invariant.table c.trailer-first.ensures,
    )

pub code_at-o-requires : goal.code_at-o-requires
code_at-o-requires c =
    entry_read _ c.args.target.accepted c.climb.invariant.table c.trailer-first.ensures

pub short_at-c-requires : goal.short_at-c-requires
short_at-c-requires c =
    omega (
      arith,
      head_read _ c.args.target.accepted c.climb.invariant.table c.trailer-first.ensures c.code_at-o.ensures,
    )

pub overflow_sub-above : goal.overflow_sub-above
overflow_sub-above c =
    own_left _ c.args.target.accepted _ c.args.target.known c.climb.invariant c.trailer-first.ensures
    c.code_at-o.ensures c.short_at-c.ensures

pub overflow_mul-here-in-climb : goal.overflow_mul-here-in-climb
overflow_mul-here-in-climb c =
    omega (
      arith,
      here_within _ c.args.target.accepted _ c.args.target.known c.climb.invariant c.trailer-first.ensures
          c.code_at-o.ensures c.short_at-c.ensures,
    )

pub overflow_add-here-in-climb-2 : goal.overflow_add-here-in-climb-2
overflow_add-here-in-climb-2 c =
    omega (
      arith,
      here_within _ c.args.target.accepted _ c.args.target.known c.climb.invariant c.trailer-first.ensures
          c.code_at-o.ensures c.short_at-c.ensures,
    )

pub overflow_add-here-in-climb-3 : goal.overflow_add-here-in-climb-3
overflow_add-here-in-climb-3 c =
    omega (
      arith,
      here_within _ c.args.target.accepted _ c.args.target.known c.climb.invariant c.trailer-first.ensures
          c.code_at-o.ensures c.short_at-c.ensures,
    )

pub join_cells-set-requires : goal.join_cells-set-requires
join_cells-set-requires c = (
  omega (
    arith,
    here_within _ c.args.target.accepted _ c.args.target.known c.climb.invariant c.trailer-first.ensures
        c.code_at-o.ensures c.short_at-c.ensures,
  ),
  omega (
    arith,
    own_left _ c.args.target.accepted _ c.args.target.known c.climb.invariant c.trailer-first.ensures
        c.code_at-o.ensures c.short_at-c.ensures,
    few_left _ c.args.target.accepted _ c.args.target.known c.climb.invariant c.trailer-first.ensures
        c.code_at-o.ensures c.short_at-c.ensures,
  ),
  set_small _ c.args.target.accepted _ c.args.target.known c.climb.invariant c.trailer-first.ensures
      c.code_at-o.ensures c.short_at-c.ensures,
)

pub returns-then-above-eq0 : goal.returns-then-above-eq0
returns-then-above-eq0 c =
    climbing_done _ c.args.target.accepted _ c.args.target.known c.climb.invariant c.trailer-first.ensures
    c.code_at-o.ensures c.short_at-c.ensures c.join_cells-set.ensures c.if-above-eq0.true

pub short_at-row-requires : goal.short_at-row-requires
short_at-row-requires c =
    omega (
      arith,
      here_within _ c.args.target.accepted _ c.args.target.known c.climb.invariant c.trailer-first.ensures
          c.code_at-o.ensures c.short_at-c.ensures,
    )

pub short_at-at-requires : goal.short_at-at-requires
short_at-at-requires c =
    omega (
      arith,
      head_read _ c.args.target.accepted c.climb.invariant.table c.trailer-first.ensures c.code_at-o.ensures,
    )

pub climb-smaller : goal.climb-smaller
climb-smaller c =
    parent_lower _ c.args.target.accepted _ c.args.target.known c.climb.invariant c.trailer-first.ensures
    c.code_at-o.ensures c.short_at-c.ensures c.join_cells-set.ensures _ c.short_at-at.ensures c.if-above-eq0.false

pub climb-preserved : goal.climb-preserved
climb-preserved c =
    climbing_next _ c.args.target.accepted _ c.args.target.known c.climb.invariant c.trailer-first.ensures
    c.code_at-o.ensures c.short_at-c.ensures c.join_cells-set.ensures _ _ c.if-above-eq0.false c.short_at-at.ensures
    c.short_at-row.ensures
