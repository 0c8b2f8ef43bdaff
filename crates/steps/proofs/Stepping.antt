-- What `step` shows, over plain values: where it stands between two sets, the last step, and one that puts an entry.
use Prim.Native.Nat.{ℕ, ◌^◌, ◌≤◌, ◌<◌}
use mathlib.Core.Path.{◌≡◌, refl, sym, ap, subst, ◌∙◌}
use mathlib.Core.List.{List, ◌++◌}
use native.Mathlib.Omega.{arith}
use lib.Pow.{pow_mono}
use lib.ListN.{length, drop, replicate}
use Rattle.columns.specs.Bound.{column_bound}
use Rattle.columns.proofs.Test.{if_eq_yes}
use Rattle.model.specs.Calls.{written, work_after}
use Rattle.model.specs.Listing.{Listing, width_of, cells}
use Rattle.model.specs.declared.Entry.{Entry}
use Rattle.std.specs.Prelude.{Some, None, Ok}
use Rattle.walk.specs.Meaning.{ahead, final, Good}
use Rattle.walk.specs.Walks.{Same, Goes}
use Rattle.passing.specs.declared.Walk.{Walk}
use Rattle.walk.proofs.Places.{chosen_lt}
use Rattle.steps.specs.Putting.{Puttable, put_from}
use Rattle.steps.specs.Steps.{WordsBegun, WordsStepped, Went}
use Rattle.steps.specs.declared.Stepped.{Stepped}
use Rattle.steps.specs.declared.Stepped.TheVariants.{Put, Done}
use Rattle.steps.proofs.Putting.{put_entries}

-- words that a step left are as they must be since the call began
pub kept_after : (l : Listing) (code : ℕ) (words mid : List ℕ) (s : Stepped) (now : List ℕ) → code ≡ 0
    → length mid ≡ length words
    → WordsStepped l mid s now → WordsBegun l code words (Ok s) now
unfolding work_after
kept_after l code words mid (Put e w) now z same m = (z, m)
kept_after l code words mid (Done a) now z same m = m ∙ ap (λ (k : ℕ). replicate k 0) same ∙ sym (if_eq_yes _ z)

-- where a walk stands between two steps
pub record Stepping (l : Listing) (w v : Walk) (words now : List ℕ) : Type 0 where
  pub good : Good l v now
  pub same : Same l w v
  pub length : length now ≡ length words

module _ (l : Listing) (w : Walk) (words : List ℕ) where
  pub stepping_begun : Good l w words → Stepping l w w words words
  stepping_begun g = record { good = g; same = record { put = refl; reply = refl }; length = refl }

  module _ (v : Walk) (now : List ℕ) (s : Stepping l w v words now) where
    pub stepping_on : (u : Walk) (after : List ℕ) → Goes l v (Some u) after → length after ≡ length now
        → Stepping l w u words after
    stepping_on u after g k =
        record {
          good = g.0;
          same = record { put = g.1.put ∙ s.same.put; reply = g.1.reply ∙ s.same.reply };
          length = k ∙ s.length;
        }

    -- nothing is left
    pub step_done : (after : List ℕ) → Goes l v None after → (zeroed : List ℕ) → zeroed ≡ replicate (length after) 0
        → length after ≡ length now → Went l w words (Done (record { place = v.place; passed = v.passed; count = v.count }))
        zeroed
    step_done after g zeroed z k =
        record {
          put = sym g.put ∙ s.same.put;
          reply = sym g.reply ∙ s.same.reply;
          kept = z ∙ ap (λ (n : ℕ). replicate n 0) (k ∙ s.length);
        }

    -- an entry is put
    pub puts : 0 < v.pending → Puttable v
    puts some =
        let t = s.good.stands.set.target in
        let n = s.good.sound.bounded.members v.target t in
        let x = chosen_lt l v.target v.left s.good.stands.index s.good.stands.set in
        let p : 2 ^ width_of l v.target ≤ 2 ^ column_bound = pow_mono n in
        record {
          target = omega (arith, s.good.sound.bounded.targets);
          left = omega arith;
          members = omega (arith, s.good.sound.members);
          some = some;
          pending = s.good.pending;
        }

    pub step_put : (r : Stepped) → r ≡ put_from v → 0 < v.pending → Went l w words r now
    unfolding put_from ahead final
    step_put r e some = subst (λ (q : Stepped). Went l w words q now) (sym e) (record {
      put =
          ap (λ (es : List Entry). es ++ written v.budget v.room (drop v.place (cells l)))
          (sym (put_entries v (puts some))) ∙ s.same.put;
      reply = s.same.reply;
      kept =
          record {
            sound =
                record {
                  bounded = s.good.sound.bounded;
                  enough = s.good.sound.enough;
                  members = s.good.sound.members;
                  passed = s.good.sound.passed;
                  counted = s.good.sound.counted;
                };
            stands = s.good.stands;
            pending = omega (arith, s.good.pending);
            ready = s.good.ready;
          };
    })
