-- `dependency::ask` meets its contract: a ground is the refusal, else the answer is told.
use mathlib.Core.Path.{refl}
use Rattle.model.specs.Question.{ask_meaning}
use Rattle.model.specs.Reply.{ask_reply}
use Rattle.model.proofs.Codes.{handed_reply}
use Rattle.dependency.proofs.Replies.{question_posed, ask_told, words_kept, words_zeroed}
use Rattle.dependency.proofs.ask.Goals as goal

pub returns-in_err-check : goal.returns-in_err-check
unfolding ask_meaning
returns-in_err-check c = record {
  result_value = handed_reply ask_reply (λ e. refl) _ _ _ c.from_residual.ensures.1 c.in_err-check.ensures;
  work_after = words_kept _ _ c.in_err-check.ensures;
}

pub holds-requires : goal.holds-requires
holds-requires c = question_posed _ _ _ _ _ c.in_ok-check.ensures

pub returns : goal.returns
returns c = record {
  result_value = ask_told _ _ _ _ _ c.in_ok-check.ensures _ c.holds.ensures;
  work_after = words_zeroed _ c.in_ok-check.ensures c.zero_words.ensures;
}
