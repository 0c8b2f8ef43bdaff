-- `partition::given` meets its contract.
use Prim.Native.Nat.{ℕ, ◌+◌, ◌%◌, ◌^◌, ◌≤◌}
use mathlib.Core.Path.{◌≡◌, sym, ap, subst, ◌∙◌}
use mathlib.Core.Bool.{Bool, true}
use mathlib.Core.List.{List}
use native.Mathlib.Numerals.{add-one}
use Rattle.columns.specs.Bound.{column_bound}
use Rattle.partition.specs.Partition.{Led, Given}
use Rattle.partition.proofs.Rights.{led_back, given_all, given_some}
use Rattle.partition.proofs.given.Goals as goal

-- every row leads itself
all : (keys : List ℕ) (n end x : ℕ) (leaders : List ℕ) (alone : Bool) (wanted p : ℕ) → n ≤ column_bound
    → Led keys n end x leaders alone → alone ≡ true → p ≡ 2 ^ (n + 1) → Given keys n end x wanted (wanted % p)
all keys n end x leaders alone wanted p few led e is =
    subst (λ (p : ℕ). Given keys n end x wanted (wanted % p)) (sym (is ∙ ap (λ (m : ℕ). 2 ^ m) (add-one n)))
    (given_all keys n end x leaders alone few led wanted e)

pub returns-then-leaders_of : goal.returns-then-leaders_of
returns-then-leaders_of c =
    all _ _ _ _ _ _ _ _ c.args.keys.few c.leaders_of.ensures c.if-leaders_of.true c.power.ensures

pub given_members-requires : goal.given_members-requires
given_members-requires c = record { back = led_back _ _ _ _ _ _ c.leaders_of.ensures }

pub returns : goal.returns
returns c =
    given_some _ _ _ _ _ _ c.args.keys.few c.leaders_of.ensures _ _
    c.if-leaders_of.false
    c.given_members.ensures
