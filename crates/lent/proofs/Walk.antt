-- How every walk by hand ends: its locals are freed, and the walk is the function's theorem. Assumes `Logic`.
--     Cell, full, empty   a local at its end: it holds a value, or none
--     leaves              every local is freed, whatever it holds: `full ◂ empty ◂ .. ◂ tt` from local 0 on. Behind p
--                         entries of the context stands local 0, behind p - 2 local 1, and so on, as they were
--                         allocated
--     met                 a function meets its contract by a walk with the parameters' machine values written out
use Prim.Native.Nat.{ℕ, zero, suc}
use mathlib.Core.Path.{refl}
use mathlib.Core.List.{List, [], ◌∷◌}
use seplogic.Ra.Ura.{Ura}
use base.Fraction.{full_share}
use mir.Syntax.{Ty, Fn}
use mir.Val.{Val}
use base.Logic.{ent, sep, via}
use base.Fml.{fat, froom, fdies}
use prog.Wp.{Env, Tables, WpFn}
use types.Logic.{Logic}
use contract.Lifetimes.{Lfts, Shares, AllOutlive}
use types.Kit.{Goal, Item, Seq, Step, step, nth, del, sel⊢, frees, ‵, ◌$◌, move}
use types.Run.{forget, free1, free0}
use sound.WpLaws.{WpFn-mono}
use denote.RattleType.{flat}
use denote.Laws.{Spells, valss, Tellss, Ises, Are}
use denote.Signature.{types_at}
use denote.Triple.Entry.{Args, on_entry}
use denote.Triple.Spec.{Meets}
use denote.Triple.Clauses.{Ended, Clauses, closing}
use denote.Triple.Walked.{Stays, AllGo, walk_of, walked, walk_Meets}

-- two entries of a context are a local of the type τ at l
pub data Cell {M : Type 1} {𝓤 : Ura M} : Item 𝓤 → Item 𝓤 → Ty → ℕ → Type 2 where
  full : {τ : Ty} {l : ℕ} {v : Val} → Cell (‵ (fat full_share τ l 0 v)) (‵ (fdies τ l)) τ l
  empty : {τ : Ty} {l : ℕ} → Cell (‵ (froom τ l 0)) (‵ (fdies τ l)) τ l

-- the cells of locals one after the other, closed by `tt`
infixr 5 ◌◂◌
abbrev pub ◌◂◌ : {A B : Type 2} → A → B → A × B
x ◂ y = (x, y)

abbrev two_less : ℕ → ℕ
two_less zero = zero
two_less (suc zero) = zero
two_less (suc (suc p)) = p

module _ {M : Type 1} {𝓤 : Ura M} (𝓛 : Logic 𝓤) where
  -- the entries behind p are the locals, local 0 first; and the context without them
  open 𝓛 use {H}

  abbrev pub Cells : ℕ → Env 𝓤 H → List (Item 𝓤) → Type 2
  Cells p [] Γ = Unit {2}
  Cells p ((τ, l) ∷ E) Γ =
      Cell (nth 𝓛 p (del 𝓛 (suc p) Γ)) (nth 𝓛 (suc p) Γ) τ l
      × Cells (two_less p) E (del 𝓛 p (del 𝓛 (suc p) Γ))

  abbrev pub without : ℕ → Env 𝓤 H → List (Item 𝓤) → List (Item 𝓤)
  without p [] Γ = Γ
  without p (e ∷ E) Γ = without (two_less p) E (del 𝓛 p (del 𝓛 (suc p) Γ))

module _ {M : Type 1} {𝓤 : Ura M} {𝓛 : Logic 𝓤} {K : Type 0} where
  open 𝓛 use {H}

  leave : K → {i j : Item 𝓤} {τ : Ty} {l : ℕ} {E : Env 𝓤 H} {G : Goal 𝓤 H} {Γ : List (Item 𝓤)} → Cell i j τ l
      → Seq K 𝓛 Γ (frees E G) → Seq K 𝓛 (j ∷ i ∷ Γ) (frees ((τ, l) ∷ E) G)
  leave k full s = forget k 1 refl $ move k (1 ∷ 0 ∷ []) $ free1 k $ s
  leave k empty s = move k (1 ∷ 0 ∷ []) $ free1 k $ s

  pub leaves : K → (p : ℕ) {E : Env 𝓤 H} {G : Goal 𝓤 H} {Γ : List (Item 𝓤)} → Cells 𝓛 p E Γ
      → Step K 𝓛 (without 𝓛 p E Γ) G Γ (frees E G)
  leaves k p {E = E} {Γ = Γ} cells = step (λ s. go p E Γ cells s)
    where
      go : (p : ℕ) (E : Env 𝓤 H) {G : Goal 𝓤 H} (Γ : List (Item 𝓤)) → Cells 𝓛 p E Γ
          → Seq K 𝓛 (without 𝓛 p E Γ) G → Seq K 𝓛 Γ (frees E G)
      go p [] Γ cells s = free0 k $ s
      go p ((τ, l) ∷ E) Γ cells s =
          record {
            prf =
                via 𝓤 _ (sel⊢ 𝓛 (suc p ∷ p ∷ []) Γ)
                (leave k cells.0 (go (two_less p) E _ cells.1 s)).prf;
          }

module _ {M : Type 1} {𝓤 : Ura M} (𝓛 : Logic 𝓤) (T : Ended)
    (hs : Stays T.signature.params T.kept)
    (gs : AllGo 𝓛 T.signature.lifetimes T.signature.params T.kept hs) (c : Clauses 𝓤 T)
    (𝓣 : Tables 𝓤 𝓛.H) (f : Fn) where
  open 𝓛 use {H}

  pub met : (sp : (κs : Lfts T.signature.lifetimes) → Spells (types_at T.signature.params κs))
      → ((κs : Lfts T.signature.lifetimes)
      → Tellss (types_at T.signature.params κs) (Ises (types_at T.signature.params κs)) (sp κs))
      → ((κs : Lfts T.signature.lifetimes) (qs : Shares T.signature.lifetimes)
      (bounds : AllOutlive T.signature.lifetimes T.signature.outlives κs) (a : Args T.signature κs)
      (g : (c κs a).ghost)
      → Are (types_at T.signature.params κs) (Ises (types_at T.signature.params κs)) a
      (valss (types_at T.signature.params κs) (sp κs) a)
      → ent 𝓤 (sep 𝓤 (on_entry 𝓛 T.signature κs qs a (valss (types_at T.signature.params κs) (sp κs) a))
      ((c κs a).requires g))
      (WpFn 𝓤 H 𝓣.C 𝓣.Λ f
      (flat (types_at T.signature.params κs) (valss (types_at T.signature.params κs) (sp κs) a))
      ((walk_of 𝓛 T hs c).post ((κs, qs, bounds, a, valss (types_at T.signature.params κs) (sp κs) a), g))))
      → Meets 𝓛 T.signature (WpFn 𝓤 H 𝓣.C 𝓣.Λ f) (closing 𝓛 T c)
  met sp tells walk =
      walk_Meets 𝓛 T hs gs c (WpFn 𝓤 H 𝓣.C 𝓣.Λ f) (WpFn-mono 𝓤 H 𝓛.laws 𝓣 f)
      (walked 𝓛 T hs c (WpFn 𝓤 H 𝓣.C 𝓣.Λ f) sp tells walk)
