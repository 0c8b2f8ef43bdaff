-- Nothing is lost: of a backed left side a dependency holds exactly if the left side contains a left that is listed for
-- its right, or a listed key. For any listing whose rights have the row, and for the ordinary one of a catalogue.
use Prim.Native.Nat.{ℕ, ◌^◌, ◌≤◌, ◌<◌}
use mathlib.Core.Path.{◌≡◌, refl, sym, subst, ◌∙◌}
use mathlib.Core.Logic.{◌⊎◌, inl, inr, ⊎_elim}
use mathlib.Core.List.{List, Memᴰ}
use native.Mathlib.Omega.{arith}
use Rattle.columns.specs.Bound.{column_bound}
use Rattle.columns.proofs.Bits.{bit_past}
use Rattle.model.specs.Bounds.{row}
use Rattle.model.specs.Check.{Accepted}
use Rattle.model.specs.View.{Equivalence, In, Holds, Backed}
use Rattle.model.specs.Listed.{Listed}
use Rattle.model.specs.Listing.{Listing, width_of, rights_of, cells, Bounded, RowRight, ordinary}
use Rattle.model.specs.Calls.{flat}
use Rattle.model.specs.Contains.{ContainsListed, ContainsKey, NothingLost}
use Rattle.model.specs.Entry.{entry}
use Rattle.model.specs.declared.Entry.{Entry}
use Rattle.model.proofs.View.{more_holds}
use Rattle.model.proofs.Backed.{backed_within}
use Rattle.model.proofs.Minimal.{contains_minimal, key_gives}
use Rattle.model.proofs.Listed.{listed_or_key}
use Rattle.model.proofs.Target.{view_equivalence}
use Rattle.model.proofs.Rights.{ordinary_row, ordinary_bounded}
use Rattle.model.proofs.Listing.{stands_is}

-- the row is no member of a set of few columns
pub row_outside : (n x : ℕ) → n ≤ column_bound → x < 2 ^ n → In row x → ⊥
row_outside n x few l i =
    let o : ◌≡◌ {A = ℕ} 0 1 = sym (bit_past x n row l (omega arith)) ∙ i in
    omega arith

module _ (l : Listing) (bounded : Bounded l)
    (equal : (target : ℕ) → target < l.targets → Equivalence (l.view target)) (rowed : RowRight l) where
  abbrev es : List Entry
  es = flat (cells l)

  module _ (target x right : ℕ) (known : target < l.targets) (small : x < 2 ^ width_of l target)
      (is : Memᴰ right (rights_of l target)) (out : In right x → ⊥) (there : Backed (l.view target) x) where
    -- what holds contains a minimal left, which is backed, and is listed or a listed key
    found : Holds (l.view target) x right → ContainsListed es target right x ⊎ ContainsKey es target x
    found h =
        let m = contains_minimal (l.view target) right x h out in
        let u = m.1 in
        let low : m.0 < 2 ^ width_of l target = omega (arith, small) in
        let b = backed_within (l.view target) x m.0 (λ k l i. m.2 k i) there in
        ⊎_elim
        (λ (s : Listed (l.view target) m.0 right).
        inl (entry target m.0 right, stands m.0 right low is s, (refl, refl), m.2))
        (λ (s : Listed (l.view target) m.0 row).
        inr (entry target m.0 row, stands m.0 row low (rowed target known) s, (refl, refl), m.2))
        (listed_or_key (l.view target) (equal target known) m.0 right
        (row_outside (width_of l target) m.0 (bounded.members target known) low) b m.3)
      where
        stands : (y a : ℕ) → y < 2 ^ width_of l target → Memᴰ a (rights_of l target)
            → Listed (l.view target) y a → Memᴰ (entry target y a) es
        stands y a low i s =
            (stands_is l (entry target y a)).1 (record { target = known; left = low; right = i; listed = s })

    -- and what is listed holds
    listed_holds : (a : ℕ) → ContainsListed es target a x → Holds (l.view target) x a
    listed_holds a c =
        let e = c.0 in
        let s = ((stands_is l e).0 c.1).listed.minimal.holds in
        more_holds (l.view target) e.left x a (λ k l i. c.3 k i)
        (subst (λ (b : ℕ). Holds (l.view target) e.left b) c.2.1
        (subst (λ (t : ℕ). Holds (l.view t) e.left e.right) c.2.0 s))

    given : ContainsListed es target right x ⊎ ContainsKey es target x → Holds (l.view target) x right
    given (inl c) = listed_holds right c
    given (inr c) = key_gives (l.view target) (equal target known) x right (listed_holds row c)

  pub nothing_lost : NothingLost l
  nothing_lost target x right known small is out there =
      (found target x right known small is out there, given target x right known small is out there)

pub ordinary_nothing_lost : (cat : List ℕ) → Accepted cat → NothingLost (ordinary cat)
ordinary_nothing_lost cat ok =
    nothing_lost (ordinary cat) (ordinary_bounded cat ok) (λ target known. view_equivalence cat target)
    (ordinary_row cat)
