-- When the sets of a target are covered, step by step (document 02, b, d and e).
use Rattle.std.specs.Prelude.{ℕ, ◌^◌, ◌<◌, ◌≡◌, List}
use Rattle.columns.specs.Set.{bit}
use Rattle.model.specs.Rights.{right_at}
use Rattle.model.specs.Verify.{Candidate, Covered}
use Rattle.model.specs.View.{View, Backed}
use Rattle.model.specs.declared.Entry.{Entry}
use Rattle.model.specs.declared.Evidence.{Evidence}

-- each set of n columns that is backed in a view and without the right of bit a is covered
abbrev pub RightCovered : View → List Entry → List Evidence → ℕ → ℕ → ℕ → Type 0
RightCovered v es rs target n a =
    (x : ℕ) → x < 2 ^ n → bit x a ≡ 0 → Backed v x → Covered es rs target (right_at n a) x

-- each candidate of a target is covered
abbrev pub TargetCovered : List ℕ → List Entry → List Evidence → ℕ → Type 0
TargetCovered cat es rs target = (x right : ℕ) → Candidate cat target x right → Covered es rs target right x
