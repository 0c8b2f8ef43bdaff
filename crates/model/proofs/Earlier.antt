-- The order of entries: the test says what the proposition says, no entry stands before itself, and an ordered list has
-- each entry once and is told by its members.
use Prim.Native.Nat.{ℕ, ◌<◌}
use mathlib.Core.Path.{◌≡◌, refl, sym, ap, ap₂, subst, ◌∙◌}
use mathlib.Core.Logic.{◌⊎◌, inl, inr, ⊎_elim, ◌↔◌}
use mathlib.Core.List.Memᴰ
use mathlib.Core.List.{List, [], ◌∷◌, ◌++◌, Memᴰ}
use mathlib.Core.Bool.{Bool, ◌&&◌}
use native.Mathlib.Omega.{arith}
use lib.Dec.{T, ltb, eqb, ltb→lt, lt→ltb}
use Rattle.columns.specs.Set.{size_of}
use Rattle.columns.specs.Order.{Precedes}
use Rattle.columns.proofs.Lists.{precedes_irrefl, precedes_trans}
use Rattle.model.specs.Entry.{Earlier, earlier, then_below, Ordered, Once}
use Rattle.model.specs.declared.Entry.{Entry}
use Rattle.model.proofs.Truth.{and_is, or_is, eqb_is}

-- one step of a lexicographic order
pub then_below_is : (m n : ℕ) (rest : Bool) → T (then_below m n rest) ↔ ((m < n) ⊎ ((m ≡ n) × T rest))
then_below_is m n rest =
    (λ t. there ((or_is (ltb m n) (eqb m n && rest)).0 t), λ h. (or_is (ltb m n) (eqb m n && rest)).1 (back h))
  where
    there : T (ltb m n) ⊎ T (eqb m n && rest) → (m < n) ⊎ ((m ≡ n) × T rest)
    there (inl l) = inl (ltb→lt m n l)
    there (inr r) = let h = (and_is (eqb m n) rest).0 r in inr ((eqb_is m n).0 h.0, h.1)

    back : (m < n) ⊎ ((m ≡ n) × T rest) → T (ltb m n) ⊎ T (eqb m n && rest)
    back (inl l) = inl (lt→ltb m n l)
    back (inr h) = inr ((and_is (eqb m n) rest).1 ((eqb_is m n).1 h.0, h.1))

pub earlier_is : (e f : Entry) → T (earlier e f) ↔ Earlier e f
unfolding earlier
earlier_is e f = (
  λ t. target ((then_below_is e.target f.target sizes).0 t),
  λ h. (then_below_is e.target f.target sizes).1 (target⁻ h),
)
  where
    rights : Bool
    rights = ltb e.right f.right

    lefts : Bool
    lefts = then_below e.left f.left rights

    sizes : Bool
    sizes = then_below (size_of e.left) (size_of f.left) lefts

    Rest : Type 0
    Rest = Precedes e.left f.left ⊎ ((e.left ≡ f.left) × (e.right < f.right))

    left : size_of e.left ≡ size_of f.left → (e.left < f.left) ⊎ ((e.left ≡ f.left) × T rights) → Rest
    left s (inl l) = inl (inr (s, l))
    left s (inr h) = inr (h.0, ltb→lt e.right f.right h.1)

    size : (size_of e.left < size_of f.left) ⊎ ((size_of e.left ≡ size_of f.left) × T lefts) → Rest
    size (inl l) = inl (inl l)
    size (inr h) = left h.0 ((then_below_is e.left f.left rights).0 h.1)

    target : (e.target < f.target) ⊎ ((e.target ≡ f.target) × T sizes) → Earlier e f
    target (inl l) = inl l
    target (inr h) = inr (h.0, size ((then_below_is (size_of e.left) (size_of f.left) lefts).0 h.1))

    rest⁻ : Rest → (size_of e.left < size_of f.left) ⊎ ((size_of e.left ≡ size_of f.left) × T lefts)
    rest⁻ (inl (inl l)) = inl l
    rest⁻ (inl (inr h)) = inr (h.0, (then_below_is e.left f.left rights).1 (inl h.1))
    rest⁻ (inr h) =
        inr (
          ap size_of h.0,
          (then_below_is e.left f.left rights).1
              (inr (h.0, lt→ltb e.right f.right h.1)),
        )

    target⁻ : Earlier e f → (e.target < f.target) ⊎ ((e.target ≡ f.target) × T sizes)
    target⁻ (inl l) = inl l
    target⁻ (inr h) = inr (h.0, (then_below_is (size_of e.left) (size_of f.left) lefts).1 (rest⁻ h.1))

-- a strict order
pub earlier_irreflexive : (e : Entry) → Earlier e e → ⊥
earlier_irreflexive e (inl l) = omega arith
earlier_irreflexive e (inr (t, inl p)) = precedes_irrefl e.left p
earlier_irreflexive e (inr (t, inr h)) = let l = h.1 in omega arith

pub earlier_transitive : (e f g : Entry) → Earlier e f → Earlier f g → Earlier e g
earlier_transitive e f g (inl l) (inl m) = inl (omega arith)
earlier_transitive e f g (inl l) (inr m) = inl (omega arith)
earlier_transitive e f g (inr l) (inl m) = inl (omega arith)
earlier_transitive e f g (inr (t, inl p)) (inr (u, inl q)) =
    inr (t ∙ u, inl (precedes_trans e.left f.left g.left p q))
earlier_transitive e f g (inr (t, inl p)) (inr (u, inr q)) =
    inr (t ∙ u, inl (subst (λ (x : ℕ). Precedes e.left x) q.0 p))
earlier_transitive e f g (inr (t, inr p)) (inr (u, inl q)) =
    inr (t ∙ u, inl (subst (λ (x : ℕ). Precedes x g.left) (sym p.0) q))
earlier_transitive e f g (inr (t, inr p)) (inr (u, inr q)) =
    let l = p.1 in
    let m = q.1 in
    inr (t ∙ u, inr (p.0 ∙ q.0, omega arith))

-- in order, so once
pub ordered_once : (es : List Entry) → Ordered es → Once es
ordered_once [] h = tt
ordered_once (e ∷ es) h = (λ m. earlier_irreflexive e (h.0 e m), ordered_once es h.1)

pub ordered_append : (es fs : List Entry) → Ordered es → Ordered fs
    → ((e f : Entry) → Memᴰ e es → Memᴰ f fs → Earlier e f) → Ordered (es ++ fs)
ordered_append [] fs oe of h = of
ordered_append (e ∷ es) fs oe of h = (
  λ f m.
      ⊎_elim (λ (n : Memᴰ f es). oe.0 f n) (λ (n : Memᴰ f fs). h e f (Memᴰ.head refl) n)
      (Memᴰ.append_cases es m),
  ordered_append es fs oe.1 of (λ d f m n. h d f (Memᴰ.tail m) n),
)

-- not both stand before the other
pub earlier_asymmetric : (e f : Entry) → Earlier e f → Earlier f e → ⊥
earlier_asymmetric e f h k = earlier_irreflexive e (earlier_transitive e f e h k)

-- two ordered lists with the same members are equal: their first ones are, and a later member of one is a later member
-- of the other
same_first : (e f : Entry) (es fs : List Entry) → Ordered (e ∷ es) → Ordered (f ∷ fs)
    → (e ≡ f) ⊎ Memᴰ e fs → (f ≡ e) ⊎ Memᴰ f es → e ≡ f
same_first e f es fs oe of (inl p) n = p
same_first e f es fs oe of (inr m) (inl q) = sym q
same_first e f es fs oe of (inr m) (inr n) = absurd (earlier_asymmetric e f (oe.0 f n) (of.0 e m))

later_member : (e f g : Entry) (es fs : List Entry) → e ≡ f → Ordered (e ∷ es) → Memᴰ g es
    → (g ≡ f) ⊎ Memᴰ g fs → Memᴰ g fs
later_member e f g es fs p oe m (inl q) =
    absurd (earlier_irreflexive g (subst (λ (x : Entry). Earlier x g) (p ∙ sym q) (oe.0 g m)))
later_member e f g es fs p oe m (inr n) = n

pub ordered_same : (es fs : List Entry) → Ordered es → Ordered fs → ((g : Entry) → Memᴰ g es → Memᴰ g fs)
    → ((g : Entry) → Memᴰ g fs → Memᴰ g es) → es ≡ fs
ordered_same [] [] oe of there back = refl
ordered_same [] (f ∷ fs) oe of there back = absurd (Memᴰ.not-nil (back f (Memᴰ.head refl)))
ordered_same (e ∷ es) [] oe of there back = absurd (Memᴰ.not-nil (there e (Memᴰ.head refl)))
ordered_same (e ∷ es) (f ∷ fs) oe of there back =
    let p =
    same_first e f es fs oe of (Memᴰ.cases_cons (there e (Memᴰ.head refl)))
    (Memᴰ.cases_cons (back f (Memᴰ.head refl))) in
    ap₂ (λ (g : Entry) (gs : List Entry). g ∷ gs) p
    (ordered_same es fs oe.1 of.1
    (λ g m. later_member e f g es fs p oe m (Memᴰ.cases_cons (there g (Memᴰ.tail m))))
    (λ g m. later_member f e g fs es (sym p) of m (Memᴰ.cases_cons (back g (Memᴰ.tail m)))))
