-- The loop of `list`, over plain values: where it stands before each turn, what a turn that puts an entry does to it,
-- and what it shows when nothing is left. It looks into no definition of specs/Meaning.antt of `walk`, so a change
-- there leaves it as it is.
use Prim.Native.Nat.{ℕ, zero, suc, ◌+◌, ◌-◌, ◌≤◌, ◌<◌}
use native.Mathlib.Omega.{arith}
use mathlib.Core.Path.{◌≡◌, refl, sym, ◌∙◌, ap, ap₂, subst}
use mathlib.Core.List.{List, [], ◌∷◌, ◌++◌, append-nil, append_assoc}
use lib.ListN.{length, drop, set, length-append, length-drop}
use Rattle.columns.proofs.Test.{if_eq_yes, if_eq_no}
use Rattle.model.specs.Calls.{run_after}
use Rattle.model.specs.Reply.{reply_of, list_reply}
use Rattle.model.specs.declared.Entry.{Entry}
use Rattle.std.specs.Prelude.{Ok, Err}
use Rattle.model.specs.declared.Progress.{Progress}
use Rattle.model.specs.declared.Refusal.{Refusal}
use Rattle.passing.specs.declared.Walk.{Walk}
use Rattle.steps.specs.declared.Stepped.{Stepped}
use Rattle.steps.specs.declared.Stepped.TheVariants.{Put, Done}
use Rattle.model.specs.Listing.{Listing, cells}
use Rattle.model.specs.List.{first_code, CallMeaning}
use Rattle.walk.specs.Meaning.{Good}
use Rattle.steps.specs.Steps.{due, to_put, reply_to, WordsBegun, Begins, Began, Went, whole, values}
use Rattle.model.specs.Calls.{seen}
use Rattle.steps.proofs.Stepping.{kept_after}
use Rattle.listing.proofs.Lists.{set_next}

module _ (l : Listing) (code : ℕ) (es : List Entry) (vs : List ℕ) (run : List Entry) (words : List ℕ) where
  -- where the walk stands: what comes next, what is put, and the words
  pub record Facts (s : Stepped) (put : List Entry) (now : List ℕ) : Type 0 where
    pub all : put ++ to_put l s ≡ due code es
    pub fits : length (due code es) ≤ length run
    pub reply : reply_to l s ≡ reply_of code vs
    pub same : length now ≡ length words
    pub kept : WordsBegun l code words (Ok s) now

  -- the run, with what is put before what was there
  abbrev pub run_with : List Entry → List Entry
  run_with put = put ++ drop (length put) run

  -- where the loop stands: `n` records are written, those of `put`, and `ys` is the run
  pub record Standing (s : Stepped) (n : ℕ) (ys : List Entry) (now : List ℕ) : Type 0 where
    pub put : List Entry
    pub counted : n ≡ length put
    pub written : ys ≡ run_with put
    pub facts : Facts s put now

  pub begun : (s : Stepped) (now : List ℕ) → Begins l code es vs (length run) words (Ok s) now
      → length now ≡ length words → Facts s [] now
  begun s now b k =
      record {
        all = b.put;
        fits = subst (λ (z : List Entry). length z ≤ length run) b.put b.fits;
        reply = b.reply;
        same = k;
        kept = b.kept;
      }

  pub put_within : (put : List Entry) (s : Stepped) (now : List ℕ) → Facts s put now
      → length put + length (to_put l s) ≤ length run
  put_within put s now f = omega (arith, length-append put (to_put l s), ap length f.all, f.fits)

  pub run_with_length : (put : List Entry) (s : Stepped) (now : List ℕ) → Facts s put now
      → length (run_with put) ≡ length run
  run_with_length put s now f =
      omega (arith, length-append put (drop (length put) run), length-drop (length put) run, put_within put s now f)

  module _ (put : List Entry) (now : List ℕ) (e : Entry) (w : Walk) (f : Facts (Put e w) put now) where
    pub room_left : length put < length run
    room_left = omega (arith, put_within put (Put e w) now f)

    pub run_next : set (run_with put) (length put) e ≡ run_with (put ++ e ∷ [])
    run_next = set_next put run e room_left

    pub one_more : length put + 1 ≡ length (put ++ e ∷ [])
    one_more = sym (length-append put (e ∷ []))

    pub nearer : length run - length (put ++ e ∷ []) < length run - length put
    nearer = omega (arith, room_left, length-append put (e ∷ []))

    pub no_ground : code ≡ 0
    no_ground = f.kept.0

    pub good : Good l w now
    good = f.kept.1

    pub goes_on : (s : Stepped) (then : List ℕ) → Went l w now s then → length then ≡ length now
        → Facts s (put ++ e ∷ []) then
    goes_on s then g k =
        record {
          all = append_assoc put (e ∷ []) (to_put l s) ∙ ap (λ (z : List Entry). put ++ e ∷ z) g.put ∙ f.all;
          fits = f.fits;
          reply = g.reply ∙ f.reply;
          same = k ∙ f.same;
          kept = kept_after l code words now s then f.kept.0 f.same g.kept;
        }

    pub stands_next : (n : ℕ) (ys : List Entry) → n ≡ length put → ys ≡ run_with put → (s : Stepped) (then : List ℕ)
        → Went l w now s then → length then ≡ length now → Standing s (n + 1) (set ys n e) then
    stands_next n ys c r s then g k =
        record {
          put = put ++ e ∷ [];
          counted = ap (λ (m : ℕ). m + 1) c ∙ one_more;
          written = ap₂ (λ (zs : List Entry) (m : ℕ). set zs m e) r c ∙ run_next;
          facts = goes_on s then g k;
        }

  due_after : (c : ℕ) → run_with (due c es) ≡ run_after c es run
  unfolding due run_after
  due_after zero = ap run_with (if_eq_yes [] refl) ∙ sym (if_eq_yes run refl)
  due_after (suc c) = ap run_with (if_eq_no es (λ e. omega arith)) ∙ sym (if_eq_no (run_with es) (λ e. omega arith))

  pub written_all : (put : List Entry) (now : List ℕ) (a : Progress) → Facts (Done a) put now
      → run_with put ≡ run_after code es run
  written_all put now a f = ap run_with (sym (append-nil put) ∙ f.all) ∙ due_after code

-- a call that is refused puts nothing
pub refuses : (before : ℕ) (l : Listing) (place budget : ℕ) (run : List Entry) (words now : List ℕ) (r : Refusal)
    → Began before l place budget (length run) words (Err r) now
    → CallMeaning before l (seen place budget run words (list_reply (Err r)) run now)
refuses before l place budget run words now r b =
    let es = whole l place budget (length run) in
    record {
      reply = b.reply;
      run = ap (run_with l 0 es [] run words) b.put ∙ due_after l 0 es [] run words _;
      work = b.kept;
    }

-- when nothing is left the call did what it must
pub lists : (before : ℕ) (l : Listing) (place budget : ℕ) (run : List Entry) (words : List ℕ) (put : List Entry)
    (now : List ℕ)
    (a : Progress)
    → Facts l (first_code before (cells l) place budget (length run) (length words)) (whole l place budget (length run))
    (values l place budget (length run)) run words (Done a) put now
    → CallMeaning before l (seen place budget run words (list_reply (Ok a)) (put ++ drop (length put) run) now)
lists before l place budget run words put now a f =
    record { reply = f.reply; run = written_all l _ _ _ run words put now a f; work = f.kept }
