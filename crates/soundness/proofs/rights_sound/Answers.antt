-- The answers of `soundness::rights_sound`.
use Prim.Native.Nat.{ℕ, ◌≤◌}
use mathlib.Core.Path.{ap}
use mathlib.Core.Bool.{not}
use native.Mathlib.Omega.{arith}
use Rattle.evidence.proofs.Answers.{says_yes, says_no, said_yes, said_no, below_more}
use Rattle.marks.specs.Run.{entries_of}
use Rattle.soundness.proofs.Laws.{SoundAt}
use Rattle.soundness.proofs.rights_sound.Goals as goal

pub loop-a-init : goal.loop-a-init
loop-a-init c = λ k l i. absurd (omega arith)

pub returns-then-not-right_sound : goal.returns-then-not-right_sound
returns-then-not-right_sound c v en eq sown there =
    says_no (λ h. said_no (c.right_sound.ensures v en eq sown there) (ap not c.if-not-right_sound.true)
    (h _ (omega arith) (omega arith)))

pub loop-a-preserved : goal.loop-a-preserved
loop-a-preserved c =
    let a = c.args in
    let Sound : ℕ → Type 0 =
    λ k. a.low ≤ k → SoundAt (entries_of a.list) a.target a.n a.m a.seeds.now a.backed.now k in
    below_more {P = Sound} c.loop-a.invariant
    (λ l v en eq sown there.
    said_yes (c.right_sound.ensures v en eq sown there) (ap not c.if-not-right_sound.false))

pub returns : goal.returns
returns c v en eq sown there =
    says_yes (λ a u l. c.loop-a.invariant a (omega arith) l v en eq sown there)
