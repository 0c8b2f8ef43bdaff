-- Bytes written part after part into an output.
use Prim.Native.Nat.{ℕ, suc, ◌+◌, ◌≤◌}
use mathlib.Core.Path.{◌≡◌, refl, sym, ap, ◌∙◌}
use mathlib.Core.List.{List, [], ◌∷◌, ◌++◌}
use native.Mathlib.Nat.{add-zero, zero-add}
use native.Mathlib.Omega.{arith}
use lib.ListN.{length, set, drop, length-append}
use lib.Seq.{sets, sets-eq, length-sets}
use Rattle.sheets.specs.Put.{Put}

-- some bytes and others are written at once, or the others behind the first
sets_append : (l : List ℕ) (i : ℕ) (xs ys : List ℕ) → sets l i (xs ++ ys) ≡ sets (sets l i xs) (i + length xs) ys
sets_append l i [] ys = ap (λ (k : ℕ). sets l k ys) (sym (add-zero i))
sets_append l i (x ∷ xs) ys =
    let e : suc i + length xs ≡ i + suc (length xs) = omega arith in
    sets_append (set l i x) (suc i) xs ys ∙ ap (λ (k : ℕ). sets (sets (set l i x) (suc i) xs) k ys) e

pub puts_both : (l m n xs ys : List ℕ) (i j : ℕ) → m ≡ sets l i xs → j ≡ i + length xs → n ≡ sets m j ys
    → n ≡ sets l i (xs ++ ys)
puts_both l m n xs ys i j e f g =
    g ∙ ap (λ (k : ℕ). sets m k ys) f ∙ ap (λ (w : List ℕ). sets w (i + length xs) ys) e ∙ sym (sets_append l i xs ys)

-- what is written has the length that there was
pub put_length : (l m xs : List ℕ) (i : ℕ) → m ≡ sets l i xs → length m ≡ length l
put_length l m xs i e = ap length e ∙ length-sets l i xs

-- bytes written at the start stand there, before what there was behind
pub put_front : (l m xs : List ℕ) → m ≡ sets l 0 xs → length xs ≤ length l → m ≡ xs ++ drop (length xs) l
put_front l m xs e h =
    e ∙ sets-eq xs l 0 (omega arith) ∙ ap (λ (k : ℕ). xs ++ drop k l) (zero-add (length xs))

pub put_none : (l : List ℕ) (at : ℕ) {xs : List ℕ} → xs ≡ [] → Put l at xs l at
put_none l at e =
    record { written = sym (ap (sets l at) e); end = omega (arith, ap length e) }

-- Writing goes on: what is ahead, written over what there is now, is the whole written over what there was.
pub record Writing (before : List ℕ) (at : ℕ) (whole there : List ℕ) (to : ℕ) (ahead : List ℕ) : Type 0 where
  pub same : sets there to ahead ≡ sets before at whole
  pub end : to + length ahead ≡ at + length whole
  pub size : length there ≡ length before

pub writing_begun : (before : List ℕ) (at : ℕ) {whole ahead : List ℕ} → ahead ≡ whole
    → Writing before at whole before at ahead
writing_begun before at e = record { same = ap (sets before at) e; end = ap (λ l. at + length l) e; size = refl }

module _ {before : List ℕ} {at : ℕ} {whole there : List ℕ} {to : ℕ} {ahead : List ℕ}
    (w : Writing before at whole there to ahead) where
  -- there is room for what is next
  pub writing_room : (part rest : List ℕ) → ahead ≡ part ++ rest → at + length whole ≤ length before
      → to + length part ≤ length there
  writing_room part rest e h =
      let a = w.end in let b = w.size in
      omega (arith, ap length e, length-append part rest)

  pub writing_more : (part rest : List ℕ) → ahead ≡ part ++ rest → {after : List ℕ} {behind : ℕ}
      → Put there to part after behind → Writing before at whole after behind rest
  writing_more part rest e {after} {behind} p =
      record {
        same = puts_both there after (sets after behind rest) part rest to behind p.written p.end refl
            ∙ sym (ap (sets there to) e) ∙ w.same;
        end = let a = w.end in let b = p.end in omega (arith, ap length e, length-append part rest);
        size = put_length there after part to p.written ∙ w.size;
      }

  pub writing_done : ahead ≡ [] → Put before at whole there to
  writing_done e =
      record {
        written = sym (ap (sets there to) e) ∙ w.same;
        end = let a = w.end in omega (arith, ap length e);
      }
