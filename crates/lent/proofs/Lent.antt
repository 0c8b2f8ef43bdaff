-- A lent slice that a walk keeps open for a while: its elements are the walk's own, and are lent on for a call and
-- come back.
--     Opened        what closes the slice again, whose list was ys when it was opened
--     opens, shuts  from the slice to its elements, and back at another list of the same length
--     lends, back   the elements as a slice of a lifetime of the call, under a new name; and what they are once it has
--                   ended
--     shares, unshared   the same as a shared slice, whose elements stay as they are. It holds what a `&` to each
--                   element holds, so `shares` takes that an element is lent so, with no token
--     shares_by     the same by tokens, which come back: of any type that can be shared
--     shares_out    the elements as one family of shares, of any type at all
-- Assumes `Logic`.
use mathlib.Core.Path.{◌≡◌, refl, sym, ap, subst}
use Prim.Native.Nat.{ℕ, ◌+◌}
use mathlib.Core.List.{List, [], ◌∷◌}
use lib.ListN.{length}
use seplogic.Ra.Ura.{Ura}
use base.Fraction.{full_share}
use mir.Syntax.{Lifetime}
use base.Logic.{SProp, ent, sep, ex, via}
use base.Fml.{Lft, GName, Share, Fml, fsep, flft, fdead, fobs, fauth, flent, fobor, fhide, fshr_bor, Incl}
use ghost.Rules.{Toks, span}
use types.Logic.{Logic, sem, lfts}
use types.Kit.{‵, raw, ◌⊛◌, later, ◌$◌, ◌∵◌, !, qed, by, move, use1, use3, drop, split, fsplit, fjoin, feq_i, frame}
use types.Kit.{await, updating, now as at_once, done}
use types.SemTy.{Arr}
use types.Share.{arr_parts}
use types.Tokens.{lent_back}
use denote.RattleType.{RattleType}
use denote.Shadow.{pure_i}
use denote.Memory.{mem, part_at, shared_of, shares as parts_of}
use denote.Ref.{Bor, MutBor}
use denote.Slice.{slice_val, ShrSlice, MutSlice, heres, Room, finally, mut_slice_at, shr_slice_at, coded_holeys}
use denote.Slice.{elements_shared}
use denote.Lends.{Lent as LentAs, Lent-nothing, Lent-one, Lent-both, Lent-map}
use denote.Shares.{Shares}
use denote.Lend.{Held, lends_slice, slice_back, lends_shr_slice}
use denote.Index.{row, whole_out, whole_in, opens_slice, closes_slice}

module _ (R : RattleType) (b o : ℕ) where
  abbrev pub ref : GName → List R.Denot → MutBor (List R.Denot)
  ref γ ys = record { ref_ptr = (b, o); ghost_name = γ; now = ys }

  abbrev pub row_at : List R.Denot → Fml
  row_at ys = row R full_share ys b o

  abbrev pub Opened : Lft → Share → GName → List R.Denot → Fml
  Opened κ q γ ys =
      fsep (fobor κ q (Held R (length ys) b o γ))
      (fsep (fobs γ ((coded_holeys R).code (heres R ys))) (fauth γ ((coded_holeys R).code (heres R ys))))

  -- a shared slice of them, and what is lent with it
  abbrev pub shr_ref : List R.Denot → Bor (List R.Denot)
  shr_ref ys = record { ref_ptr = (b, o); now = ys }

  abbrev pub Shared : Lifetime → Lft → List R.Denot → ℕ → Fml
  Shared ℓ κ' ys n = (ShrSlice ℓ κ' R).own_val (shr_ref ys) (slice_val (b, o) n ∷ [])

  abbrev pub counted : List R.Denot → Share → Fml
  counted ys q = (arr_parts (parts_of R) (length ys)).part q ys b o

  abbrev pub Sharing : Lft → List R.Denot → Fml
  Sharing κ' ys = flent κ' (counted ys full_share)

  abbrev pub Lending : Lft → GName → List R.Denot → Fml
  Lending κ' δ ys = flent κ' (Held R (length ys) b o δ)

  module _ {M : Type 1} {𝓤 : Ura M} (𝓛 : Logic 𝓤) (ℓ : Lifetime) where
    -- what the slice owns, with the count n in its machine value
    open 𝓛 use {H, A}

    abbrev pub Owns : Lft → GName → List R.Denot → ℕ → SProp 𝓤
    Owns κ γ ys n = sem 𝓛 ((MutSlice ℓ κ R).own_val (ref γ ys) (slice_val (b, o) n ∷ []))

    pub opens : (κ : Lft) (q : Share) (γ : GName) (ys : List R.Denot)
        → ent 𝓤 (sep 𝓤 (Owns κ γ ys (length ys)) (A.lft κ q)) (H.⇛ (sep 𝓤 (sem 𝓛 (row_at ys)) (sem 𝓛
        (Opened κ q γ ys))))
    opens κ q γ ys =
        qed 𝓛 (‵ ((MutSlice ℓ κ R).own_val (ref γ ys) (slice_val (b, o) (length ys) ∷ [])) ∷ ‵ (flft κ q) ∷ []) ∵
        updating ! $ fsplit ! $ drop ! $ fsplit ! $ opens_slice ! tt R ys b o $ at_once ! $ frame ! $
        move ! (1 ∷ 2 ∷ []) $ fjoin ! $ move ! (1 ∷ 0 ∷ []) $ fjoin ! $ done !

    pub shuts : (κ : Lft) (q : Share) (γ : GName) (ys zs : List R.Denot) → Room R (length ys) → length zs ≡ length ys
        → ent 𝓤 (sep 𝓤 (sem 𝓛 (row_at zs)) (sem 𝓛 (Opened κ q γ ys))) (H.⇛ (sep 𝓤 (Owns κ γ zs (length ys))
        (A.lft κ q)))
    shuts κ q γ ys zs room e =
        qed 𝓛 (‵ (row_at zs) ∷ ‵ (Opened κ q γ ys) ∷ []) ∵ updating ! $
        move ! (1 ∷ []) $ fsplit ! $ move ! (1 ∷ []) $ fsplit ! $ move ! (3 ∷ 2 ∷ 0 ∷ 1 ∷ []) $
        closes_slice ! tt R ys zs e b o $ at_once ! $ fjoin ! $
        pure_i ! (mut_slice_at R (ref γ zs) (slice_val (b, o) (length ys) ∷ [])) (tt, (tt, tt))
        (ap (λ (m : ℕ). slice_val (b, o) m ∷ []) (sym e), subst (Room R) (sym e) room) $ fjoin ! $ done !

    pub lends : (κ' : Lft) (ys : List R.Denot) (n : ℕ) → length ys ≡ n → Room R n
        → ent 𝓤 (sem 𝓛 (row_at ys)) (H.⇛ (ex 𝓤 (λ (δ : GName). sep 𝓤 (Owns κ' δ ys n) (sem 𝓛
        (Lending κ' δ ys)))))
    lends κ' ys n e =
        subst
        (λ (m : ℕ). Room R m → ent 𝓤 (sem 𝓛 (row_at ys)) (H.⇛ (ex 𝓤 (λ (δ : GName). sep 𝓤 (Owns κ' δ ys m)
        (sem 𝓛 (Lending κ' δ ys))))))
        e (λ room. via 𝓤 _ (whole_in 𝓛 R ys b o) (lends_slice 𝓛 R ℓ κ' ys b o room))

  module _ {M : Type 1} {𝓤 : Ura M} (𝓛 : Logic 𝓤) where
    open 𝓛 use {H, A}

    pub back : (κ' : Lft) (δ : GName) (ys zs : List R.Denot)
        → ent 𝓤 (sep 𝓤 (A.dead κ') (sep 𝓤 (sem 𝓛 (Lending κ' δ ys)) (sem 𝓛 (finally R δ zs)))) (H.⇛
        (sem 𝓛 (row_at zs)))
    back κ' δ ys zs =
        qed 𝓛 (‵ (fdead κ') ∷ ‵ (Lending κ' δ ys) ∷ ‵ (finally R δ zs) ∷ []) ∵ updating ! $
        use3 𝓛 (later (‵ ((Arr (mem R) (length ys)).own_at zs b o))) (slice_back 𝓛 R κ' δ zs (length ys) b o) $
        await ! tt $
        fsplit ! $ drop ! $ use1 𝓛 (‵ (row_at zs)) (whole_out 𝓛 R zs b o) $ at_once ! $ done !

    -- each element is lent with no token, as one of a type that is Copy is (`lends` of `denote.Copied`)
    abbrev pub LentEach : Type 1
    LentEach = (x : R.Denot) (b o : ℕ) → LentAs 𝓛 (part_at R full_share x b o) (shared_of R x b o)

    -- elements that are lent one by one are lent side by side
    elements_lend : LentEach → (ys : List R.Denot) (b o : ℕ)
        → LentAs 𝓛 (row R full_share ys b o) (elements_shared R ys b o)
    elements_lend lend [] b o = Lent-nothing 𝓛
    elements_lend lend (y ∷ ys) b o =
        Lent-both 𝓛 (part_at R full_share y b o) (row R full_share ys b (o + (mem R).size)) (shared_of R y b o)
        (elements_shared R ys b (o + (mem R).size)) (lend y b o) (elements_lend lend ys b (o + (mem R).size))

    row_lends : LentEach → (ys : List R.Denot) → LentAs 𝓛 (counted ys full_share) (elements_shared R ys b o)
    row_lends lend ys =
        Lent-map 𝓛 (counted ys full_share) (row_at ys) (elements_shared R ys b o)
        (qed 𝓛 (‵ (counted ys full_share) ∷ []) ∵ fsplit ! $ drop ! $ done !)
        (qed 𝓛 (‵ (row_at ys) ∷ []) ∵ feq_i ! ℕ (length ys) (length ys) refl $ done !)
        (elements_lend lend ys b o)

    pub shares : (ℓ : Lifetime) (κ' : Lft) (ys : List R.Denot) (n : ℕ) → length ys ≡ n → Room R n → LentEach
        → ent 𝓤 (sem 𝓛 (row_at ys)) (H.⇛ (sep 𝓤 (sem 𝓛 (Shared ℓ κ' ys n)) (sem 𝓛 (Sharing κ' ys))))
    shares ℓ κ' ys n e room lend =
        subst
        (λ (m : ℕ). Room R m → ent 𝓤 (sem 𝓛 (row_at ys)) (H.⇛ (sep 𝓤 (sem 𝓛 (Shared ℓ κ' ys m))
        (sem 𝓛 (Sharing κ' ys)))))
        e
        (λ fits. qed 𝓛 (‵ (row_at ys) ∷ []) ∵ updating ! $ feq_i ! ℕ (length ys) (length ys) refl $ fjoin ! $
        use1 𝓛 (later (‵ (fhide (elements_shared R ys b o κ')) ⊛ ‵ (Sharing κ' ys))) (row_lends lend ys κ') $
        await ! tt $ split ! $ at_once ! $
        pure_i ! (shr_slice_at R (shr_ref ys) (slice_val (b, o) (length ys) ∷ [])) (tt, (tt, tt)) (refl, fits) $
        fjoin ! $ done !)
        room

    -- of any type that can be shared, by tokens within its lifetimes and within κ', which come back
    pub shares_by : (ℓ : Lifetime) (κ' : Lft) (ys : List R.Denot) (n : ℕ) → length ys ≡ n → Room R n → (l : Lft)
        → Shares 𝓛 R l → (ts : Toks) → Incl (span ts) l → Incl (span ts) κ'
        → ent 𝓤 (sep 𝓤 (sem 𝓛 (row_at ys)) (lfts 𝓛 ts)) (H.⇛ (sep 𝓤 (sep 𝓤 (sem 𝓛 (Shared ℓ κ' ys n))
        (sem 𝓛 (Sharing κ' ys))) (lfts 𝓛 ts)))
    shares_by ℓ κ' ys n e room l law ts inside within =
        subst
        (λ (m : ℕ). Room R m → ent 𝓤 (sep 𝓤 (sem 𝓛 (row_at ys)) (lfts 𝓛 ts)) (H.⇛
        (sep 𝓤 (sep 𝓤 (sem 𝓛 (Shared ℓ κ' ys m)) (sem 𝓛 (Sharing κ' ys))) (lfts 𝓛 ts))))
        e
        (λ fits. qed 𝓛 (‵ (row_at ys) ∷ raw (lfts 𝓛 ts) ∷ []) ∵ feq_i ! ℕ (length ys) (length ys) refl $ fjoin ! $
        by ! (lends_shr_slice 𝓛 R ℓ κ' full_share ys b o fits l law ts inside within))
        room

    -- of any type at all, as one family of shares, whatever a `&` to an element holds
    pub shares_out : (κ' : Lft) (ys : List R.Denot)
        → ent 𝓤 (sem 𝓛 (row_at ys)) (H.⇛ (sep 𝓤 (sem 𝓛 (fshr_bor κ' (counted ys))) (sem 𝓛 (Sharing κ' ys))))
    shares_out κ' ys =
        qed 𝓛 (‵ (row_at ys) ∷ []) ∵ feq_i ! ℕ (length ys) (length ys) refl $ fjoin ! $
        by ! (Lent-one 𝓛 (counted ys) full_share κ')

    pub unshared : (κ' : Lft) (ys : List R.Denot)
        → ent 𝓤 (sep 𝓤 (A.dead κ') (sem 𝓛 (Sharing κ' ys))) (H.⇛ (sem 𝓛 (row_at ys)))
    unshared κ' ys =
        qed 𝓛 (‵ (fdead κ') ∷ ‵ (Sharing κ' ys) ∷ []) ∵ updating ! $ lent_back ! tt $ fsplit ! $ drop ! $ at_once ! $
        done !
