-- The answers of `marks::entries_sound`.
use Prim.Native.Nat.{ℕ}
use mathlib.Core.Path.{ap}
use mathlib.Core.Bool.{not}
use native.Mathlib.Omega.{arith}
use Rattle.filled.proofs.Below.{below_more}
use Rattle.evidence.proofs.Answers.{says_yes, says_no, said_no, said_yes}
use Rattle.evidence.proofs.Lists.{each_entry}
use Rattle.marks.specs.Listed.{NarrowLeft, SoundBy}
use Rattle.marks.specs.Run.{entry_of}
use Rattle.marks.proofs.entries_sound.Goals as goal

pub loop-i-init : goal.loop-i-init
loop-i-init c = λ k l. absurd (omega arith)

pub entry_sound-requires : goal.entry_sound-requires
entry_sound-requires c =
    let a = c.args in
    let narrow = each_entry (NarrowLeft a.m a.target a.right) a.list.file.now a.list.count a.list.first in (
      c.requires.0,
      c.requires.1,
      c.requires.2,
      c.requires.3,
      omega arith,
      narrow.0 c.requires.4 _ (omega arith),
    )

pub returns-then-not-entry_sound : goal.returns-then-not-entry_sound
returns-then-not-entry_sound c =
    let a = c.args in
    let all = each_entry (SoundBy a.backed.now a.broken.now a.keys.now a.lefts.now a.m a.target a.right)
    a.list.file.now a.list.count a.list.first in
    says_no (λ f. said_no c.entry_sound.ensures (ap not c.if-not-entry_sound.true) (all.0 f _ (omega arith)))

pub loop-i-preserved : goal.loop-i-preserved
loop-i-preserved c =
    let a = c.args in
    let Sound : ℕ → Type 0 =
    λ i. SoundBy a.backed.now a.broken.now a.keys.now a.lefts.now a.m a.target a.right (entry_of a.list i) in
    below_more {P = Sound} c.loop-i.invariant
    (said_yes {P = Sound c.loop-i.i} c.entry_sound.ensures (ap not c.if-not-entry_sound.false))

pub returns : goal.returns
returns c =
    let a = c.args in
    let all = each_entry (SoundBy a.backed.now a.broken.now a.keys.now a.lefts.now a.m a.target a.right)
    a.list.file.now a.list.count a.list.first in
    says_yes (all.1 (λ k l. c.loop-i.invariant k (omega arith)))
