-- The checks of 15 step by step: one entry, an entry behind the one before, and the entries of a list or of a file that
-- are left.
use Prim.Native.Nat.{ℕ, zero, suc, ◌+◌, ◌-◌, ◌*◌, ◌≤◌, ◌<◌}
use mathlib.Core.Path.{◌≡◌, refl, sym, ap, ◌∙◌}
use mathlib.Core.List.{List, [], ◌∷◌}
use mathlib.Core.Bool.{Bool, true, false, not}
use lib.ListN.{length, take, drop}
use native.Mathlib.Numerals.{sub-one}
use native.Mathlib.Omega.{arith}
use Rattle.std.specs.Prelude.{Option, Some, None, MatchOption}
use Rattle.columns.specs.Bound.{column_bound}
use Rattle.columns.specs.Set.{member_of}
use Rattle.columns.specs.Test.{pick}
use Rattle.columns.proofs.Test.{is_if_eq, is_if_ne, is_if_not_le}
use Rattle.model.specs.Entry.{earlier}
use Rattle.model.specs.Bounds.{table_bound, row}
use Rattle.model.specs.Refusal.{number, or_else}
use Rattle.model.specs.Entries.{entry_bytes, entry_at, entries_from, entry_code, later_code, rest_code, entries_code}
use Rattle.model.specs.declared.Entry.{Entry}
use Rattle.model.specs.declared.Refusal.TheVariants.{BadEntry}
use Rattle.entries.specs.declared.rank.Ranked.{Ranked}
use Rattle.entries.specs.Verdict.{bad_unless, entry_in, code_after, codes_after}
use Rattle.entries.proofs.OneEntry.{entry_cut}
use Rattle.model.proofs.Grounds.{or_else_next, or_else_assoc, is_this, is_next}

-- 15 is a ground
pub bad_some : number BadEntry ≡ 0 → ⊥
bad_some z = omega arith

-- one entry
pub right_row : (e : Entry) → e.target < table_bound → e.right ≡ row → 0 ≡ entry_code e
unfolding entry_code
right_row e h r = is_if_not_le _ h (is_if_eq _ r refl)

not_member : (t : Bool) → bad_unless (not t) ≡ pick t (number BadEntry) 0
not_member true = refl
not_member false = refl

pub right_column : (e : Entry) {t : Bool} → e.target < table_bound → (e.right ≡ row → ⊥) → e.right < column_bound
    → t ≡ member_of e.left e.right
    → bad_unless (not t) ≡ entry_code e
unfolding entry_code
right_column e {t} h r l m =
    is_if_not_le _ h (is_if_ne _ r (is_if_not_le _ l (not_member t ∙ ap (λ (u : Bool). pick u (number BadEntry) 0) m)))

-- an entry behind the one before, or with none before
pub alone_bad : (b : Option Entry) (e : Entry) → number BadEntry ≡ entry_code e → number BadEntry ≡ code_after b e
alone_bad None e p = p
alone_bad (Some d) e p = is_this _ p bad_some

not_bad : (t : Bool) → bad_unless t ≡ pick t 0 (number BadEntry)
not_bad true = refl
not_bad false = refl

pub alone_fine : {P : Entry → Type 0} (b : Option Entry) (e : Entry) (t : Bool) → 0 ≡ entry_code e
    → MatchOption b (t ≡ true) P → ((d : Entry) → P d → t ≡ earlier d e) → bad_unless t ≡ code_after b e
unfolding later_code
alone_fine None e t p q f = ap bad_unless q ∙ p
alone_fine (Some d) e t p q f =
    is_next _ (sym p) (not_bad t ∙ ap (λ (u : Bool). pick u 0 (number BadEntry)) (f d q))

-- the same where the one before has its rank
pub ranked_fine : {P : Ranked → Type 0} (b : Option Ranked) (e : Entry) (t : Bool) → 0 ≡ entry_code e
    → MatchOption b (t ≡ true) P → ((d : Ranked) → P d → t ≡ earlier d.it e)
    → bad_unless t ≡ code_after (entry_in b) e
ranked_fine None e t p q f = alone_fine {P = λ d. t ≡ earlier d e} None e t p q (λ d h. h)
ranked_fine (Some d) e t p q f = alone_fine {P = λ d. t ≡ earlier d e} (Some d.it) e t p (f d q) (λ d h. h)

-- the entries that are left, after the first of them
next_code : (b : Option Entry) (e : Entry) (es : List Entry)
    → codes_after b (e ∷ es) ≡ or_else (code_after b e) (codes_after (Some e) es)
unfolding entries_code rest_code
next_code None e es = refl
next_code (Some d) e es = or_else_assoc _ _ _

pub next_bad : (b : Option Entry) (e : Entry) (es : List Entry) → number BadEntry ≡ code_after b e
    → number BadEntry ≡ codes_after b (e ∷ es)
next_bad b e es p = is_this _ p bad_some ∙ sym (next_code b e es)

pub next_fine : (b : Option Entry) (e : Entry) (es : List Entry) → 0 ≡ code_after b e
    → codes_after b (e ∷ es) ≡ codes_after (Some e) es
next_fine b e es p = next_code b e es ∙ or_else_next _ (sym p)

pub none_left : (b : Option Entry) → 0 ≡ codes_after b []
unfolding entries_code rest_code
none_left None = refl
none_left (Some d) = refl

-- the entries of a file that are left, of n from byte p on
from_step : (file : List ℕ) (n i : ℕ) → 0 < n
    → entries_from file n i ≡ entry_at file i ∷ entries_from file (n - 1) (i + entry_bytes)
unfolding entries_from
from_step file zero i h = absurd (omega arith)
from_step file (suc n) i h = simp sub-one

pub left_from : (file : List ℕ) (n p i : ℕ) {e : Entry} → i < n → p + entry_bytes * n ≤ length file
    → e
    ≡ entry_at (take (p + entry_bytes * i + entry_bytes - (p + entry_bytes * i)) (drop (p + entry_bytes * i) file)) 0
    → entries_from file (n - i) (p + entry_bytes * i)
    ≡ e ∷ entries_from file (n - (i + 1)) (p + entry_bytes * (i + 1))
left_from file n p i h l q =
    let m : n - i - 1 ≡ n - (i + 1) = omega arith in
    let r : p + entry_bytes * i + entry_bytes ≡ p + entry_bytes * (i + 1) = omega arith in
    rw (from_step file (n - i) (p + entry_bytes * i) (omega arith), m, r, q, entry_cut file (p + entry_bytes * i) (omega arith))
    refl

pub none_from : (file : List ℕ) (n p i : ℕ) → n ≤ i → entries_from file (n - i) p ≡ []
unfolding entries_from
none_from file n p i h = let e : n - i ≡ 0 = omega arith in ap (λ (k : ℕ). entries_from file k p) e
