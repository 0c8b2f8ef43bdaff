-- What a call asks of a walk by hand and what it hands back, for every callee: two laws in place of two for each.
--     Hands     of the machine value v of an answer r: what the contract says of r, the plain facts of the last values
--               (a slice is as long as before), that v is the value of r, and that both are lawful
--     asks      a call asks the tokens and what its arguments own
--     told      after a call the walk has the tokens, what the answer owns at its value, and the last values, and it
--               learns `Hands`
--     calls, calls_last    both, around a call; `calls_last` where it is the last statement of its part
-- The callee's contract is `closing` of its clauses, as every generated `spec` is. Assumes `Logic`.
use Prim.Native.Nat.{ℕ, zero, suc}
use mathlib.Core.Path.{◌≡◌, refl, ap, subst}
use mathlib.Core.List.{List, [], ◌∷◌}
use seplogic.Ra.Ura.{Ura}
use mir.Syntax.{Callee as Function, Place, Opd as Operand, Body, seq, call}
use mir.Val.{Val}
use base.Logic.{ent, sep, emp, guard_i, id⊢}
use base.Fml.{Fml, ftrue, flft}
use prog.Wp.{Env, Calls, Loops}
use types.Logic.{Logic, sem}
use contract.Lifetimes.{Lfts, Shares, toks}
use contract.Monad.{fact, fact_use}
use sound.WpLaws.{FmC}
use types.Kit.{Post, Goal, Soaks, runs, lands, settles, Item, Seq, mean, ‵, raw, ◌⊛◌, given, some, later, ◌$◌}
use types.Kit.{◌∵◌, ! }
use types.Kit.{qed, by, move, use0, use1, use2}
use types.Kit.{split, join, pick, learn, rewrite, frame, await, done}
use denote.RattleType.{RattleType, owns}
use denote.Shadow.{shadow, shows_shadow}
use denote.Laws.{Is, Tells, shows}
use denote.Steps.{only, peeks, heard}
use denote.Signature.{type_at, types_at}
use denote.Triple.Entry.{alive}
use types.Run.{Opds}
use denote.Triple.Statement.{Contract, Triple}
use denote.Triple.Call.{calls_at, calls_at_last}
use denote.Triple.Spec.{triple_of}
use denote.Triple.Clauses.{Ended, Clauses, Lasts, at_exit, lasts, closing}

-- what is had of an answer: S is what the contract says of it, L the plain facts of the last values
pub record Hands (R : RattleType) (val : R.Denot → Val) (S : Type 0) (L : Type 0) (v : Val) (r : R.Denot) : Type 0
  where
    pub ensured : S
    pub kept : L
    pub value : v ≡ val r
    pub typed : Is R r (v ∷ [])
    pub settled : Is R r (val r ∷ [])

-- the tokens of a call's lifetimes, one by one
abbrev pub tokens : {M : Type 1} (𝓤 : Ura M) (n : ℕ) → Lfts n → Shares n → Item 𝓤
tokens 𝓤 zero κs qs = ‵ ftrue
tokens 𝓤 (suc n) κs qs = ‵ (flft κs.0 qs.0) ⊛ tokens 𝓤 n κs.1 qs.1

module _ {M : Type 1} {𝓤 : Ura M} (𝓛 : Logic 𝓤) where
  tokens_out : (n : ℕ) (κs : Lfts n) (qs : Shares n) → ent 𝓤 (toks 𝓛 n κs qs) (mean 𝓛 (tokens 𝓤 n κs qs))
  tokens_out zero κs qs = id⊢ 𝓤 _
  tokens_out (suc n) κs qs =
      qed 𝓛 (‵ (flft κs.0 qs.0) ∷ raw (toks 𝓛 n κs.1 qs.1) ∷ []) ∵
      frame ! $ by ! (tokens_out n κs.1 qs.1)

  tokens_in : (n : ℕ) (κs : Lfts n) (qs : Shares n) → ent 𝓤 (mean 𝓛 (tokens 𝓤 n κs qs)) (toks 𝓛 n κs qs)
  tokens_in zero κs qs = id⊢ 𝓤 _
  tokens_in (suc n) κs qs =
      qed 𝓛 (‵ (flft κs.0 qs.0) ∷ tokens 𝓤 n κs.1 qs.1 ∷ []) ∵
      frame ! $ by ! (tokens_in n κs.1 qs.1)

module _ {M : Type 1} {𝓤 : Ura M} (𝓛 : Logic 𝓤) (T : Ended) (c : Clauses 𝓤 T) where
  abbrev pub Callee : Contract 𝓤
  Callee = triple_of 𝓛 T.signature (closing 𝓛 T c)

  module _ (x : Callee.Ghost) where
    -- the tokens, and what the arguments own
    abbrev pub tokens_of : Item 𝓤
    tokens_of = tokens 𝓤 T.signature.lifetimes x.0.0 x.0.1

    abbrev pub args_own : Fml
    args_own = owns (types_at T.signature.params x.0.0) x.0.3 x.0.4

    -- the answer's type, and the last values
    abbrev pub Answer : RattleType
    Answer = type_at T.signature.result x.0.0

    abbrev pub Last : Type 0
    Last = Lasts T x.0.0 x.0.3

    abbrev pub last_own : Last → Fml
    last_own ws = lasts T x.0.0 x.0.3 ws

    -- what the contract says of an answer is S
    abbrev pub Says : (Answer.Denot → Last → Type 0) → Type 1
    Says S =
        (r : Answer.Denot) (ws : Last)
        → ent 𝓤 ((c x.0.0 x.0.3).ensures x.1 r (at_exit T x.0.0 x.0.3 ws)) (fact 𝓤 (S r ws))

    abbrev pub Handed : (Answer.Denot → Val) → (Answer.Denot → Last → Type 0) → Val → Answer.Denot → Last → Type 0
    Handed val S v r ws = Hands Answer val (S r ws) (shadow (last_own ws)) v r

    -- what the walk has after the call
    abbrev pub Back : (Answer.Denot → Val) → Answer.Denot → Last → List (Item 𝓤) → List (Item 𝓤)
    Back val r ws Γ = tokens_of ∷ ‵ (Answer.own_val r (val r ∷ [])) ∷ ‵ (last_own ws) ∷ Γ

    pub asks : ent 𝓤 (emp 𝓤) ((c x.0.0 x.0.3).requires x.1)
        → ent 𝓤 (sep 𝓤 (mean 𝓛 tokens_of) (sem 𝓛 args_own)) (Callee.pre x)
    asks had =
        qed 𝓛 (tokens_of ∷ ‵ args_own ∷ []) ∵
        use1 𝓛 (raw (alive 𝓛 T.signature x.0.0 x.0.1))
        (tokens_in 𝓛 T.signature.lifetimes x.0.0 x.0.1) $ join ! $
        use0 𝓛 (raw ((c x.0.0 x.0.3).requires x.1)) had $ move ! (1 ∷ 0 ∷ []) $ join ! $ done !

-- around a call with the operands xs, where `after v` is to be shown once it has answered v
abbrev pub Around : {M : Type 1} {𝓤 : Ura M} (𝓛 : Logic 𝓤) (K : Type 0)
    (Γ : List (Item 𝓤))
    (E : Env 𝓤 𝓛.H) (xs : List Operand) (T : Ended) (c : Clauses 𝓤 T) → (Val → Goal 𝓤 𝓛.H) → Goal 𝓤 𝓛.H → Type 2
Around {𝓤 = 𝓤} 𝓛 K Γ E xs T c after G =
    (x : (Callee 𝓛 T c).Ghost) → ent 𝓤 (emp 𝓤) ((c x.0.0 x.0.3).requires x.1)
    → Opds K 𝓛 (raw ((Callee 𝓛 T c).pre x) ∷ Γ) E xs ((Callee 𝓛 T c).args x)
    → (val : (Answer 𝓛 T c x).Denot → Val)
    → Tells (Answer 𝓛 T c x) (Is (Answer 𝓛 T c x)) (λ r. val r ∷ [])
    → (S : (Answer 𝓛 T c x).Denot → Last 𝓛 T c x → Type 0) → Says 𝓛 T c x S
    → ((v : Val) (r : (Answer 𝓛 T c x).Denot) (ws : Last 𝓛 T c x) → Handed 𝓛 T c x val S v r ws
    → Seq K 𝓛 (Back 𝓛 T c x val r ws Γ) (after v))
    → Seq K 𝓛 (tokens_of 𝓛 T c x ∷ ‵ (args_own 𝓛 T c x) ∷ Γ) G

module _ {M : Type 1} {𝓤 : Ura M} {𝓛 : Logic 𝓤} {K : Type 0} {Γ : List (Item 𝓤)} where
  open 𝓛 use {H}

  pub told : {G : Goal 𝓤 H} → K → Soaks G → (T : Ended) (c : Clauses 𝓤 T) (x : (Callee 𝓛 T c).Ghost)
      (val : (Answer 𝓛 T c x).Denot → Val)
      → Tells (Answer 𝓛 T c x) (Is (Answer 𝓛 T c x)) (λ r. val r ∷ [])
      → (S : (Answer 𝓛 T c x).Denot → Last 𝓛 T c x → Type 0) → Says 𝓛 T c x S → (v : Val)
      → ((r : (Answer 𝓛 T c x).Denot) (ws : Last 𝓛 T c x) → Handed 𝓛 T c x val S v r ws
      → Seq K 𝓛 (Back 𝓛 T c x val r ws Γ) G)
      → Seq K 𝓛 (raw ((Callee 𝓛 T c).post x v) ∷ Γ) G
  told k z T c x val tells S said v go =
      let R = Answer 𝓛 T c x in
      use1 𝓛 (later (some (λ (r : R.Denot).
      (raw (alive 𝓛 T.signature x.0.0 x.0.1) ⊛ ‵ (R.own_val r (v ∷ [])))
      ⊛ some (λ (ws : Last 𝓛 T c x). ‵ (last_own 𝓛 T c x ws)
      ⊛ raw ((c x.0.0 x.0.3).ensures x.1 r (at_exit T x.0.0 x.0.3 ws))))))
      (id⊢ 𝓤 _) $ await k z $ pick k (λ r. split k $ move k (1 ∷ []) $ pick k (λ ws.
      split k $ move k (1 ∷ []) $ use1 𝓛 (raw (fact 𝓤 (S r ws))) (said r ws) $ heard k (S r ws) (λ ensured.
      -- [the last values; the tokens with the answer]
      let P = last_own 𝓛 T c x ws in
      use1 𝓛 (given (shadow P) (‵ P))
      (fact_use 𝓤 (shadow P) (shows_shadow 𝓛 P) (λ p. guard_i 𝓤 (shadow P) (sem 𝓛 P) p)) $
      learn k (λ kept. move k (1 ∷ []) $ split k $
      use1 𝓛 (tokens_of 𝓛 T c x) (tokens_out 𝓛 T.signature.lifetimes x.0.0 x.0.1) $
      move k (1 ∷ []) $ peeks k R (Is R) (shows 𝓛 R) r (v ∷ []) (λ is.
      rewrite k 0 (λ (us : List Val). ‵ (R.own_val r us)) (tells r (v ∷ []) is) refl $
      move k (1 ∷ 0 ∷ []) $
      go r ws (record {
        ensured = ensured;
        kept = kept;
        value = ap only (tells r (v ∷ []) is);
        typed = is;
        settled = subst (Is R r) (tells r (v ∷ []) is) is;
      }))))))

  module _ {E : Env 𝓤 H} {C : Calls 𝓤 H} {Λ : Loops 𝓤 H} {f : Function} {xs : List Operand} {d : Place} {q : Post 𝓤 H}
    where
      pub calls : K → FmC 𝓤 H 𝓛.laws C → {rest : Body} (T : Ended) (c : Clauses 𝓤 T)
          → Triple 𝓤 (C f) (Callee 𝓛 T c)
          → Around 𝓛 K Γ E xs T c (λ v. lands C Λ E d v rest q) (runs C Λ E (seq (call f xs d) rest) q)
      calls k fm T c known x had os val tells S said go =
          use2 𝓛 (raw ((Callee 𝓛 T c).pre x)) (asks 𝓛 T c x had) $
          calls_at k fm (Callee 𝓛 T c) known x os (λ v. told k tt T c x val tells S said v (go v))

      pub calls_last : K → FmC 𝓤 H 𝓛.laws C → (T : Ended) (c : Clauses 𝓤 T) → Triple 𝓤 (C f) (Callee 𝓛 T c)
          → Around 𝓛 K Γ E xs T c (λ v. settles E d v q) (runs C Λ E (call f xs d) q)
      calls_last k fm T c known x had os val tells S said go =
          use2 𝓛 (raw ((Callee 𝓛 T c).pre x)) (asks 𝓛 T c x had) $
          calls_at_last k fm (Callee 𝓛 T c) known x os (λ v. told k tt T c x val tells S said v (go v))
