-- What a question's code says: which refusal it is, what is known where there is none, and what is then replied.
use Prim.Native.Nat.{ℕ, ◌^◌, ◌≤◌, ◌<◌}
use mathlib.Core.Path.{◌≡◌, refl, sym, ap, ◌∙◌}
use mathlib.Core.List.{List, [], ◌∷◌}
use mathlib.Core.Bool.{Bool, true, false}
use native.Mathlib.Omega.{arith}
use lib.Dec.{lit≤}
use lib.ListN.{length, replicate}
use Rattle.std.specs.Prelude.{Ok, Option, Some, None}
use Rattle.columns.specs.Test.{pick, if_eq, if_lt}
use Rattle.columns.proofs.Test.{if_eq_yes, if_eq_no, if_lt_no}
use Rattle.model.specs.Bounds.{row}
use Rattle.model.specs.Catalogue.{tables, visible, inherited}
use Rattle.model.specs.Check.{check_code}
use Rattle.model.specs.Refusal.{number}
use Rattle.model.specs.declared.Refusal.{Refusal}
use Rattle.model.specs.declared.Refusal.TheVariants.{TooFewWords, UnknownRight}
use Rattle.model.specs.declared.RowPair.{RowPair}
use Rattle.model.specs.Reply.{refused, answered, ask_reply, pair_reply, words_after}
use Rattle.model.specs.Question.{target_code, left_side_code, right_side_code, sides_code, words_code}
use Rattle.model.specs.Question.{question_code, ask_meaning, pair_meaning}
use Rattle.model.specs.View.{holds}
use Rattle.model.specs.Pair.{first_pair}
use Rattle.model.specs.Target.{view}
use Rattle.model.proofs.Codes.{number_pos}
use Rattle.model.proofs.Grounds.{or_else_left, or_else_both, if_lt_passes, if_lt_fails, if_eq_le, if_lt_le, or_else_le}
use Rattle.model.proofs.Grounds.{reply_refused, reply_answered}
use Rattle.grounds.proofs.Sound.{check_code_le}
use Rattle.search.specs.Strays.{rows_found}
use Rattle.dependency.specs.Posed.{Posed}

module _ (cat : List ℕ) (target left right words : ℕ) where
  -- a question's code is 0 or the number of one of its refusals, of which the last is for too few words
  pub question_le : question_code cat target left right words ≤ number TooFewWords
  unfolding question_code sides_code target_code left_side_code right_side_code words_code
  question_le =
      let c = check_code_le cat in
      or_else_le (omega arith)
      (or_else_le
      (or_else_le (if_lt_le _ _ (lit≤ tt) (lit≤ tt))
      (or_else_le (if_lt_le _ _ (lit≤ tt) (lit≤ tt))
      (if_eq_le _ _ (lit≤ tt) (if_lt_le _ _ (lit≤ tt) (if_lt_le _ _ (lit≤ tt) (lit≤ tt))))))
      (if_lt_le _ _ (lit≤ tt) (lit≤ tt)))

  -- where there is no ground, the question is posed as it must be
  pub posed : question_code cat target left right words ≡ 0 → Posed cat target left right
  unfolding question_code sides_code target_code left_side_code right_side_code
  posed e =
      let check = or_else_both (check_code cat) _ e in
      let table = or_else_both (target_code cat target) _ (or_else_left (sides_code cat target left right) _ check.1) in
      let sides = or_else_both (left_side_code cat target left) (right_side_code cat target right) table.1 in
      record {
        accepted = check.0;
        target = if_lt_passes target (tables cat) _ _ (omega arith) table.0;
        left = if_lt_passes left (2 ^ visible cat target) _ _ (omega arith) sides.0;
        right = λ n. own n sides.1;
      }
    where
      own : (right ≡ row → ⊥)
          → if_eq right row 0 (if_lt right (inherited cat target) (number UnknownRight)
          (if_lt right (visible cat target) 0 (number UnknownRight))) ≡ 0 → right < visible cat target
      own n e =
          let f = sym (if_eq_no 0 n) ∙ e in
          let g = if_lt_fails right (inherited cat target) _ _ (omega arith) f in
          if_lt_passes right (visible cat target) _ _ (omega arith) (sym (if_lt_no (number UnknownRight) g) ∙ f)

  -- what is replied
  pub ask_meant : question_code cat target left right words ≡ 0
      → answered (pick (holds (view cat target) left right) 1 0 ∷ []) ≡ ask_meaning cat target left right words
  unfolding ask_meaning
  ask_meant z = reply_answered _ z

  pub pair_meant : question_code cat target left right words ≡ 0
      → answered (first_pair (view cat target) left right) ≡ pair_meaning cat target left right words
  unfolding pair_meaning
  pair_meant z = reply_answered _ z

  -- the same of any code that is the question's: a refusal, and rows that are told
  pub pair_refused : {code : ℕ} (r : Refusal) → code ≡ question_code cat target left right words → (code ≡ 0 → ⊥)
      → number r ≡ code → refused (number r) ≡ pair_meaning cat target left right words
  unfolding pair_meaning
  pair_refused r e n f = reply_refused _ (f ∙ e) (λ z. n (sym f ∙ z))

  pub pair_told : {code : ℕ} {told : List ℕ} → code ≡ question_code cat target left right words → code ≡ 0
      → told ≡ first_pair (view cat target) left right → answered told ≡ pair_meaning cat target left right words
  pair_told e z f = ap answered f ∙ pair_meant (sym e ∙ z)

-- an answer as a reply
ask_answered : (told : Bool) → ask_reply (Ok told) ≡ answered (pick told 1 0 ∷ [])
ask_answered true = refl
ask_answered false = refl

pair_answered : (told : Option RowPair) → pair_reply (Ok told) ≡ answered (rows_found told)
pair_answered (Some p) = refl
pair_answered None = refl

module _ (cat : List ℕ) (target left right words : ℕ) (z : 0 ≡ question_code cat target left right words) where
  pub question_posed : Posed cat target left right
  question_posed = posed cat target left right words (sym z)

  pub ask_told : (told : Bool) → told ≡ holds (view cat target) left right
      → ask_reply (Ok told) ≡ ask_meaning cat target left right words
  ask_told told f =
      ask_answered told ∙ ap (λ (h : Bool). answered (pick h 1 0 ∷ [])) f ∙ ask_meant cat target left right words (sym z)

  pub pair_answer_told : (told : Option RowPair) → rows_found told ≡ first_pair (view cat target) left right
      → pair_reply (Ok told) ≡ pair_meaning cat target left right words
  pair_answer_told told f = pair_answered told ∙ pair_told cat target left right words refl (sym z) f

-- the work words afterwards
pub words_kept : {code : ℕ} (words : List ℕ) (why : Refusal) → number why ≡ code → words ≡ words_after code words
unfolding words_after
words_kept words why e = sym (if_eq_no (replicate (length words) 0) (λ z. number_pos why (e ∙ z)))

pub words_zeroed : {code : ℕ} {u : List ℕ} (words : List ℕ) → 0 ≡ code → u ≡ replicate (length words) 0
    → u ≡ words_after code words
unfolding words_after
words_zeroed words z f = f ∙ sym (if_eq_yes words (sym z))
