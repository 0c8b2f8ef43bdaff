-- The columns of one table, laid one after the other from the last on.
use Prim.Native.Nat.{ℕ, ◌+◌, ◌-◌, ◌*◌, ◌≤◌, ◌<◌}
use mathlib.Core.Path.{◌≡◌, refl, ap, subst, ◌∙◌}
use mathlib.Core.Bool.{Bool}
use mathlib.Core.List.{List}
use native.Mathlib.Decide.{ℕ_discrete}
use native.Mathlib.Omega.{arith}
use lib.ListN.{get_or}
use Rattle.columns.specs.Set.{bit}
use Rattle.model.specs.Bounds.{row_bound}
use Rattle.model.specs.View.{In}
use Rattle.leaders.specs.Keys.{key_at}
use Rattle.grouping.specs.Grouped.{Grouped}
use Rattle.filled.specs.Filled.{Filled}
use Rattle.keys.specs.Column.{leader_by, AgreeWords, LaidTable}
use Rattle.keys.proofs.Words.{leader_by_words}

module _ (cat : List ℕ) (o c low : ℕ) (reached : List ℕ) (end set : ℕ) (before : List ℕ) where
  pub table_begun : LaidTable cat o c low reached end set c before before
  table_begun = record { same_length = refl; laid = λ i q l h. absurd (omega arith); kept = λ k q l. refl }

  -- a column that is not in the set is passed
  pub table_passed : (j : ℕ) (keys : List ℕ) → bit set (low + (j - 1)) ≡ 0
      → LaidTable cat o c low reached end set j before keys → LaidTable cat o c low reached end set (j - 1) before keys
  table_passed j keys none h = record {
    same_length = h.same_length;
    laid = λ i q li hi n lq. at i q li hi n lq (ℕ_discrete (j - 1) i);
    kept = h.kept;
  }
    where
      at : (i q : ℕ) → j - 1 ≤ i → i < c → In (low + i) set → q < end → Dec (j - 1 ≡ i)
          → key_at keys (low + i) q ≡ leader_by cat (o + 8 + 4 * i) (2 + 4 * c) reached q
      at i q li hi n lq (yes e) = absurd (omega (arith, none, ap (λ (i : ℕ). bit set (low + i)) e))
      at i q li hi n lq (no d) = h.laid i q (omega arith) hi n lq

  -- the keys of another are the leaders by its words
  pub table_more : (j : ℕ) (words leaders keys after : List ℕ) {r : Bool} → 0 < j → j ≤ c → end ≤ row_bound
      → AgreeWords cat (o + 8 + 4 * (j - 1)) (2 + 4 * c) reached end words → Grouped words end leaders r
      → Filled ((low + (j - 1)) * row_bound) ((low + (j - 1)) * row_bound + end)
      (λ i. get_or leaders (i - (low + (j - 1)) * row_bound) 0) keys after
      → LaidTable cat o c low reached end set j before keys → LaidTable cat o c low reached end set (j - 1) before after
  table_more j words leaders keys after p l short w g put h = record {
    same_length = put.same_length ∙ h.same_length;
    laid = λ i q li hi n lq. at i q li hi n lq (ℕ_discrete (j - 1) i);
    kept = λ k q lk. put.past (k * row_bound + q) (omega arith) ∙ h.kept k q lk;
  }
    where
      place : (q : ℕ) → (low + (j - 1)) * row_bound + q - (low + (j - 1)) * row_bound ≡ q
      place q = omega arith

      at : (i q : ℕ) → j - 1 ≤ i → i < c → In (low + i) set → q < end → Dec (j - 1 ≡ i)
          → key_at after (low + i) q ≡ leader_by cat (o + 8 + 4 * i) (2 + 4 * c) reached q
      at i q li hi n lq (yes e) =
          subst (λ (i : ℕ). key_at after (low + i) q ≡ leader_by cat (o + 8 + 4 * i) (2 + 4 * c) reached q) e
          (put.inside ((low + (j - 1)) * row_bound + q) (omega arith) (omega arith)
          ∙ ap (λ (i : ℕ). get_or leaders i 0) (place q) ∙ g.leaders q lq
          ∙ leader_by_words cat (o + 8 + 4 * (j - 1)) (2 + 4 * c) reached end words w q lq)
      at i q li hi n lq (no d) = put.past ((low + i) * row_bound + q) (omega arith) ∙ h.laid i q (omega arith) hi n lq
