-- `dependency::pair` meets its contract: a ground is the refusal, else the answer is told.
use mathlib.Core.Path.{refl}
use Rattle.model.specs.Question.{pair_meaning}
use Rattle.model.specs.Reply.{pair_reply}
use Rattle.model.proofs.Codes.{handed_reply}
use Rattle.dependency.proofs.Replies.{question_posed, pair_answer_told, words_kept, words_zeroed}
use Rattle.dependency.proofs.pair.Goals as goal

pub returns-in_err-check : goal.returns-in_err-check
unfolding pair_meaning
returns-in_err-check c = record {
  result_value = handed_reply pair_reply (λ e. refl) _ _ _ c.from_residual.ensures.1 c.in_err-check.ensures;
  work_after = words_kept _ _ c.in_err-check.ensures;
}

pub breaking_pair-requires : goal.breaking_pair-requires
breaking_pair-requires c = question_posed _ _ _ _ _ c.in_ok-check.ensures

pub returns : goal.returns
returns c = record {
  result_value = pair_answer_told _ _ _ _ _ c.in_ok-check.ensures _ c.breaking_pair.ensures;
  work_after = words_zeroed _ c.in_ok-check.ensures c.zero_words.ensures;
}
