-- A local array in a walk: its elements one by one, as a row that can be cut in two and joined, and the array again.
-- Assumes `Logic`.
--     row_cut, row_join    a row of xs and ys is a row of xs and, behind it, one of ys
--     array_row, array_in  a local array of n elements is a row of them, and a row of n elements is a local array
--     array_out            the same of an array that repeats one element
--     array_under          the relation of an array, with each element seen through a function
use Prim.Native.Nat.{ℕ, zero, suc, ◌+◌}
use mathlib.Core.Path.{◌≡◌, refl, ◌∙◌, subst}
use mathlib.Core.List.{List, [], ◌∷◌, ◌++◌, map}
use lib.ListN.{length, replicate, length-map}
use seplogic.Ra.Ura.{Ura}
use base.Fraction.{full_share}
use mir.Syntax.{ty_array}
use mir.Val.{Val}
use base.Logic.{ent, sep, guard}
use base.Fml.{Fml, fsep, fat}
use types.Logic.{Logic, sem}
use types.Kit.{‵, ◌⊛◌, ◌$◌, ◌∵◌, !, qed, move, use1, use2, drop, split, rewrite, check, fsplit, fjoin, fpick}
use types.Kit.{fpack, feq_i, frame, by, done}
use types.Share.{arr_parts}
use denote.RattleType.{RattleType}
use denote.Shadow.{shadow}
use denote.Laws.{Is, Tells, Copy, shows}
use denote.Memory.{lone, cell_at, part_at, part_of, mem, shares}
use denote.Array.{Array, each, array_val, Array-Tells, Array-repeat}
use denote.ArrayMemory.{Single, Array-apart, Array-whole}
use denote.Index.{row, place}
use denote.Steps.{nothing, peeks}

module _ {M : Type 1} {𝓤 : Ura M} (𝓛 : Logic 𝓤) (R : RattleType) where
  open 𝓛 use {H}

  abbrev row_at : List R.Denot → ℕ → ℕ → Fml
  row_at xs b o = row R full_share xs b o

  pub row_cut : (xs ys : List R.Denot) (b o : ℕ)
      → ent 𝓤 (sem 𝓛 (row_at (xs ++ ys) b o)) (sep 𝓤 (sem 𝓛 (row_at xs b o)) (sem 𝓛 (row_at ys b (place
      (mem R).size o (length xs)))))
  row_cut [] ys b o = qed 𝓛 (‵ (row_at ys b o) ∷ []) ∵ nothing ! $ frame ! $ done !
  row_cut (x ∷ xs) ys b o =
      qed 𝓛 (‵ (row_at (x ∷ (xs ++ ys)) b o) ∷ []) ∵ fsplit ! $ move ! (1 ∷ []) $
      use1 𝓛 (‵ (row_at xs b (o + (mem R).size)) ⊛ ‵ (row_at ys b (place (mem R).size (o + (mem R).size) (length xs))))
      (row_cut xs ys b (o + (mem R).size)) $
      split ! $ move ! (2 ∷ 0 ∷ []) $ fjoin ! $ frame ! $ done !

  pub row_join : (xs ys : List R.Denot) (b o : ℕ)
      → ent 𝓤 (sep 𝓤 (sem 𝓛 (row_at xs b o)) (sem 𝓛 (row_at ys b (place (mem R).size o (length xs)))))
      (sem 𝓛 (row_at (xs ++ ys) b o))
  row_join [] ys b o = qed 𝓛 (‵ (row_at [] b o) ∷ ‵ (row_at ys b o) ∷ []) ∵ drop ! $ done !
  row_join (x ∷ xs) ys b o =
      qed 𝓛 (‵ (row_at (x ∷ xs) b o) ∷ ‵ (row_at ys b (place (mem R).size (o + (mem R).size)
      (length xs))) ∷ []) ∵ fsplit ! $ move ! (1 ∷ 2 ∷ []) $
      use2 𝓛 (‵ (row_at (xs ++ ys) b (o + (mem R).size))) (row_join xs ys b (o + (mem R).size)) $
      move ! (1 ∷ 0 ∷ []) $ fjoin ! $ done !

  module _ (one : Single R.mir) (val : R.Denot → Val) (tells : Tells R (Is R) (λ x. val x ∷ [])) (n l : ℕ) where
    pub array_row : (xs : List R.Denot) (v : Val)
        → ent 𝓤 (sep 𝓤 (H.at full_share (ty_array (lone R.mir) n) l 0 v) (sem 𝓛 ((Array R n).own_val xs (v ∷ []))))
        (sem 𝓛 (row_at xs l 0))
    unfolding part_of
    array_row xs v =
        qed 𝓛 (‵ (fat full_share (ty_array (lone R.mir) n) l 0 v) ∷ ‵ ((Array R n).own_val xs (v ∷ [])) ∷ []) ∵
        use1 𝓛 (‵ (cell_at full_share (Array R n).mir (v ∷ []) l 0))
        (𝓛.laws.at_raw full_share (ty_array (lone R.mir) n) l 0 v) $ fjoin ! $
        fpack ! (List Val) (λ vs. fsep (cell_at full_share (Array R n).mir vs l 0) ((Array R n).own_val xs vs))
        (v ∷ []) $
        use1 𝓛 (‵ ((arr_parts (shares R) n).part full_share xs l 0))
        (Array-apart 𝓛 R full_share one n xs l 0) $
        fsplit ! $ drop ! $ done !

    pub array_out : Copy 𝓛 R → (x : R.Denot) (u : Val)
        → ent 𝓤 (sep 𝓤 (H.at full_share (ty_array (lone R.mir) n) l 0 (array_val (replicate n u))) (sem 𝓛
        (R.own_val x (u ∷ []))))
        (sem 𝓛 (row_at (replicate n x) l 0))
    array_out copy x u =
        qed 𝓛 (‵ (fat full_share (ty_array (lone R.mir) n) l 0 (array_val (replicate n u))) ∷ ‵ (R.own_val x
        (u ∷ [])) ∷ []) ∵
        move ! (1 ∷ []) $
        use1 𝓛 (‵ ((Array R n).own_val (replicate n x) (array_val (replicate n u) ∷ [])))
        (Array-repeat 𝓛 R copy n x u) $
        move ! (1 ∷ 0 ∷ []) $ by ! (array_row (replicate n x) (array_val (replicate n u)))

    pub array_in : (xs : List R.Denot) → length xs ≡ n
        → ent 𝓤 (sem 𝓛 (row_at xs l 0))
        (guard 𝓤 (Is (Array R n) xs (array_val (map val xs) ∷ [])) (H.at full_share (ty_array (lone R.mir) n) l 0
        (array_val (map val xs))))
    unfolding part_of
    array_in xs e =
        qed 𝓛 (‵ (row_at xs l 0) ∷ []) ∵ feq_i ! ℕ (length xs) n e $ fjoin ! $
        use1 𝓛 (‵ (part_at (Array R n) full_share xs l 0)) (Array-whole 𝓛 R full_share n xs l 0) $
        fpick ! (λ vs. fsplit ! $ move ! (1 ∷ []) $
        peeks ! (Array R n) (Is (Array R n)) (shows 𝓛 (Array R n)) xs vs (λ is. drop ! $
        rewrite ! 0 (λ (us : List Val). ‵ (cell_at full_share (Array R n).mir us l 0)) (Array-Tells R
        (λ x. val x ∷ []) tells n xs vs is) refl $
        use1 𝓛 (‵ (fat full_share (ty_array (lone R.mir) n) l 0 (array_val (map val xs))))
        (𝓛.laws.raw_at full_share (ty_array (lone R.mir) n) l 0 (array_val (map val xs))) $
        check ! (subst (Is (Array R n) xs) (Array-Tells R (λ x. val x ∷ []) tells n xs vs is) is) $ done !))

each_under : {D X : Type 0} (f : X → List Val → Fml) (to : D → X) (xs : List D) (us : List Val)
    → shadow (each D (λ d. f (to d)) xs us) → shadow (each X f (map to xs) us)
each_under f to [] [] s = s
each_under f to [] (u ∷ us) s = s
each_under f to (x ∷ xs) [] s = s
each_under f to (x ∷ xs) (u ∷ us) s = (s.0, each_under f to xs us s.1)

pub array_under : (S : RattleType) {D : Type 0} (to : D
    → S.Denot) (n : ℕ) (xs : List D) (us : List Val) (vs : List Val)
    → (vs ≡ array_val us ∷ []) × (length xs ≡ n) → shadow (each D (λ d. S.own_val (to d)) xs us)
    → Is (Array S n) (map to xs) vs
array_under S to n xs us vs e s = (us, ((e.0, length-map xs to ∙ e.1), each_under S.own_val to xs us s))

pub each_replicate : {D : Type 0} (f : D → List Val → Fml) (n : ℕ) (x : D) (u : Val) → shadow (f x (u ∷ []))
    → shadow (each D f (replicate n x) (replicate n u))
each_replicate f zero x u s = tt
each_replicate f (suc n) x u s = (s, each_replicate f n x u s)
