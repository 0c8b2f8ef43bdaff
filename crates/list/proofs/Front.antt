-- The first bytes of an input, and what is printed for all of it.
use Rattle.std.proofs.Common.{ℕ, ◌+◌, ◌-◌, ◌≤◌, ◌<◌, ◌≡◌, List, [], ◌++◌, length, take, drop, Some, None, IfSome}
use Rattle.std.proofs.Common.{refl, ap, sym, subst, ◌∙◌, arith, append-nil, length-append, length-take-le}
use Rattle.std.proofs.Common.{length-drop, take-add, take-take, take_at, drop_at}
use Rattle.std.proofs.lemmas.Slice.{take-put_mid}
use borrow.Rule.Slice.PartMut.{put_mid, same_len_mid}
use Rattle.std.proofs.KnownBytes.{Appends-nil}
use Rattle.std.specs.Io.KnownBytes.{Appends, Consumes, IsAtEnd}
use mathlib.Core.Logic.{⊎_elim}
use Rattle.std.specs.declared.option.Option.{Option}
use Rattle.model.specs.Bounds.{file_bound}
use Rattle.model.specs.Text.{answer_text}
use Rattle.model.proofs.Calls.{le_or_lt}
use Rattle.pages.proofs.Whole.{answer_long}
use Rattle.text.specs.Written.{AppendsFirst}

-- bytes put behind the first i: the first of all are those, and the first of what was put
pub put_front : (a ys : List ℕ) (i k n : ℕ) → i + k ≤ length a → length ys ≡ k → n ≤ k
    → take (i + n) (put_mid i k a ys) ≡ take i a ++ take n ys
put_front a ys i k n fits long few =
    let first = length-take-le i a (omega arith) in
    sym (take-take (i + n) (i + k) (put_mid i k a ys) (omega arith))
    ∙ ap (take (i + n)) (take-put_mid i k a ys (i + k) (omega arith) (omega arith))
    ∙ take-add i n (take i a ++ ys)
    ∙ (λ j. take_at (take i a) ys i first j ++ take n (drop_at (take i a) ys i first j))

-- and they are as many as before
pub put_long : (a ys : List ℕ) (i k : ℕ) → i + k ≤ length a → length ys ≡ k → length (put_mid i k a ys) ≡ length a
put_long a ys i k fits long =
    same_len_mid i k a ys (omega (arith, length-take-le k (drop i a) (omega (arith, length-drop i a))))

-- all of the others are as many as they are
pub rest_long : (a : List ℕ) (i : ℕ) → i ≤ length a → length (take (length a - i) (drop i a)) ≡ length a - i
rest_long a i h = length-take-le (length a - i) (drop i a) (omega (arith, length-drop i a))

-- the bytes of a longer input do not matter, and those of a shorter one are all there
pub same_answer : (a b : Option (List ℕ)) (bytes : List ℕ) (n : ℕ) → length bytes ≡ file_bound + 1 → n ≤ length bytes
    → Consumes a b (take n bytes) → (n < length bytes → IsAtEnd b)
    → IfSome a (λ input. answer_text (take n bytes) ≡ answer_text input)
same_answer None b bytes n long within c e = tt
same_answer (Some xs) None bytes n long within c e = absurd c
same_answer (Some xs) (Some ys) bytes n long within c e =
    ⊎_elim
    (λ l.
    let full : length (take n bytes) ≡ file_bound + 1 = length-take-le n bytes within ∙ omega arith in
    sym (answer_long (take n bytes) (omega (arith, full)))
    ∙ answer_long xs (omega (arith, full, ap length c, length-append (take n bytes) ys)))
    (λ l. ap answer_text (sym (append-nil (take n bytes)) ∙ ap (λ r. take n bytes ++ r) (sym (e l)) ∙ sym c))
    (le_or_lt (length bytes) n)

pub whole_answer : (a : Option (List ℕ)) (c d : Option (List ℕ)) (shown : List ℕ)
    → IfSome a (λ input. answer_text shown ≡ answer_text input) → Appends c d (answer_text shown)
    → IfSome a (λ input. Appends c d (answer_text input))
whole_answer None c d shown e t = tt
whole_answer (Some xs) c d shown e t = subst (Appends c d) e t

pub torn_answer : (a : Option (List ℕ)) (c d : Option (List ℕ)) (shown : List ℕ)
    → IfSome a (λ input. answer_text shown ≡ answer_text input) → AppendsFirst c d (answer_text shown)
    → IfSome a (λ input. AppendsFirst c d (answer_text input))
torn_answer None c d shown e t = tt
torn_answer (Some xs) c d shown e t = subst (AppendsFirst c d) e t

-- nothing was printed
pub none_answer : (a c : Option (List ℕ)) → IfSome a (λ input. AppendsFirst c c (answer_text input))
none_answer None c = tt
none_answer (Some xs) c = (0, Appends-nil c)
