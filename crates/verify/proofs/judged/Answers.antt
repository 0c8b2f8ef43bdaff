-- `verify::judged` meets its contract.
use mathlib.Core.Path.{ap, subst}
use mathlib.Core.List.{List}
use mathlib.Core.Bool.{not}
use Rattle.model.specs.Verify.{CoveredSets}
use Rattle.model.specs.declared.Evidence.{Evidence}
use Rattle.evidence.proofs.Answers.{said_yes, said_no}
use Rattle.marks.specs.Run.{entries_of}
use Rattle.verify.proofs.Laws.{count_is, each_true, refused_17, refused_18, refused_19, accepted_from}
use Rattle.verify.proofs.judged.Goals as goal

pub records_true-requires : goal.records_true-requires
records_true-requires c = (c.requires, c.of-records.ensures)

pub returns-then-not-records_true : goal.returns-then-not-records_true
returns-then-not-records_true c =
    refused_17 c.args.cat.now _ c.args.bytes.now (said_no c.records_true.ensures (ap not c.if-not-records_true.true))

pub returns-then-not-entries_sound : goal.returns-then-not-entries_sound
returns-then-not-entries_sound c =
    refused_18 c.args.cat.now _ c.args.bytes.now
    (said_yes c.records_true.ensures (ap not c.if-not-records_true.false))
    (said_no c.entries_sound.ensures (ap not c.if-not-entries_sound.true))

pub sets_covered-requires : goal.sets_covered-requires
sets_covered-requires c = (
  c.requires,
  said_yes c.entries_sound.ensures (ap not c.if-not-entries_sound.false),
  each_true c.args.cat.now c.args.bytes.now c.of-records.ensures
      (said_yes c.records_true.ensures (ap not c.if-not-records_true.false)),
)

pub returns-then-not-sets_covered : goal.returns-then-not-sets_covered
returns-then-not-sets_covered c =
    let a = c.args in
    refused_19 a.cat.now _ a.bytes.now (said_yes c.records_true.ensures (ap not c.if-not-records_true.false))
    (said_yes c.entries_sound.ensures (ap not c.if-not-entries_sound.false))
    (subst (λ (rs : List Evidence). CoveredSets a.cat.now (entries_of a.list) rs → ⊥) c.of-records.ensures
    (said_no c.sets_covered.ensures (ap not c.if-not-sets_covered.true)))

pub returns : goal.returns
returns c =
    let a = c.args in
    accepted_from a.cat.now a.list.file.now a.bytes.now a.list.count a.list.first _
    (count_is c.of-records.result.bytes.now a.bytes.now _ c.of-records.ensures)
    (said_yes c.records_true.ensures (ap not c.if-not-records_true.false))
    (said_yes c.entries_sound.ensures (ap not c.if-not-entries_sound.false))
    (subst (CoveredSets a.cat.now (entries_of a.list)) c.of-records.ensures
    (said_yes c.sets_covered.ensures (ap not c.if-not-sets_covered.false)))
