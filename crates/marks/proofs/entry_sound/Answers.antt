-- `marks::entry_sound` meets its contract: the left that was read is that of the entry.
use Prim.Native.Nat.{ℕ, ◌^◌, ◌<◌}
use mathlib.Core.Bool.{not}
use mathlib.Core.Path.{ap, sym, subst, ◌∙◌}
use Rattle.model.specs.declared.Entry.{Entry}
use Rattle.evidence.proofs.Answers.{says_yes, said_no, said_yes, same_answer}
use Rattle.marks.specs.Listed.{SoundLeft}
use Rattle.marks.proofs.For.{entry_for}
use Rattle.marks.proofs.entry_sound.Goals as goal

pub returns-then-not-is_for : goal.returns-then-not-is_for
returns-then-not-is_for c =
    let is = entry_for c.args.list.file.now c.args.target c.args.right c.place.ensures c.is_for.ensures in
    says_yes (λ i. absurd (said_no is (ap not c.if-not-is_for.true) i))

pub is_sound-requires : goal.is_sound-requires
is_sound-requires c =
    let is = entry_for c.args.list.file.now c.args.target c.args.right c.place.ensures c.is_for.ensures in
    let e = c.from-left.ensures ∙ ap (λ (e : Entry). e.left) c.entry.ensures in
    let l = c.requires.5 (said_yes is (ap not c.if-not-is_for.false)) in
    (c.requires.0, c.requires.1, c.requires.2, c.requires.3, subst (λ (x : ℕ). x < 2 ^ c.args.m) (sym e) l)

pub returns : goal.returns
returns c =
    let a = c.args in
    let is = entry_for a.list.file.now a.target a.right c.place.ensures c.is_for.ensures in
    let e = c.from-left.ensures ∙ ap (λ (e : Entry). e.left) c.entry.ensures in
    let Sound = SoundLeft a.backed.now a.broken.now a.keys.now a.lefts.now a.m a.right in
    same_answer (λ s i. subst Sound e s)
    (λ s. subst Sound (sym e) (s (said_yes is (ap not c.if-not-is_for.false)))) c.is_sound.ensures
