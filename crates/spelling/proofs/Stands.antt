-- Words that stand in a text: cut, joined, and what they are.
use Prim.Native.Nat.{ℕ, ◌+◌, ◌-◌, ◌≤◌, ◌<◌}
use mathlib.Core.Path.{◌≡◌, refl, sym, ap, ◌∙◌}
use mathlib.Core.List.{List, [], ◌∷◌, ◌++◌, append-nil, append_assoc}
use native.Mathlib.Nat.{add-zero}
use native.Mathlib.Numerals.{add-one}
use native.Mathlib.Omega.{arith}
use lib.ListN.{length, take, drop, length-append}
use lib.Seq.{drop-append_seam, drop-cons, drop-drop, drop-length, get_or-drop, take_at}
use Rattle.model.specs.Bytes.{byte_at}
use Rattle.readers.specs.Stands.{Stands}

-- what is behind a word
behind : (s : List ℕ) (p : ℕ) (u rest : List ℕ) → drop p s ≡ u ++ rest → drop (p + length u) s ≡ rest
behind s p u rest e =
    sym (drop-drop (length u) p s) ∙ (ap (λ (l : List ℕ). drop (length u) l) e ∙ drop-append_seam u rest)

-- a word of two parts is one part and then the other
pub stands_cut : (s : List ℕ) (p : ℕ) (u v : List ℕ) (q : ℕ) → Stands s p (u ++ v) q
    → Stands s p u (p + length u) × Stands s (p + length u) v q
stands_cut s p u v q h = (
  record { end = refl; within = omega (arith, sizes); text = whole ∙ ap (λ (l : List ℕ). u ++ l) (sym later) },
  record { end = omega (arith, sizes); within = h.within; text = later },
)
  where
    sizes : length (u ++ v) ≡ length u + length v
    sizes = length-append u v

    whole : drop p s ≡ u ++ (v ++ drop q s)
    whole = h.text ∙ append_assoc u v (drop q s)

    later : drop (p + length u) s ≡ v ++ drop q s
    later = behind s p u (v ++ drop q s) whole

-- and the other way
pub stands_join : {s : List ℕ} {p : ℕ} {u : List ℕ} {m : ℕ} {v : List ℕ} {q : ℕ} → Stands s p u m → Stands s m v q
    → Stands s p (u ++ v) q
stands_join {s} {p} {u} {m} {v} {q} a b = record {
  end = omega (arith, length-append u v);
  within = b.within;
  text = a.text ∙ (ap (λ (l : List ℕ). u ++ l) b.text ∙ sym (append_assoc u v (drop q s)));
}

-- the empty word
pub stands_none : (s : List ℕ) (p : ℕ) → p ≤ length s → Stands s p [] p
stands_none s p l = record { end = omega arith; within = l; text = refl }

pub none_stands : {s : List ℕ} {p q : ℕ} → Stands s p [] q → q ≡ p
none_stands h = omega arith

-- a word of one byte
pub stands_one : (s : List ℕ) (p : ℕ) → p < length s → Stands s p (byte_at s p ∷ []) (p + 1)
stands_one s p l = record { end = refl; within = omega arith; text = rw add-one (drop-cons s p 0 l) }

-- a word that ends one further is one byte
pub stands_only : {s : List ℕ} {p x : ℕ} (l : List ℕ) {q : ℕ} → Stands s p (x ∷ l) q → q ≡ p + 1 → l ≡ []
stands_only [] h e = refl
stands_only (y ∷ l) h e = absurd (omega arith)

-- the byte that what is left of a text begins with
pub byte_behind : (s : List ℕ) (p : ℕ) → byte_at (drop p s) 0 ≡ byte_at s p
byte_behind s p = get_or-drop p s 0 0 ∙ ap (λ (i : ℕ). byte_at s i) (add-zero p)

-- the first byte of a word
pub stands_byte : {s : List ℕ} {p x : ℕ} {w : List ℕ} {q : ℕ} → Stands s p (x ∷ w) q → byte_at s p ≡ x
stands_byte {s} {p} h = sym (byte_behind s p) ∙ ap (λ (l : List ℕ). byte_at l 0) h.text

-- a word that is not empty is inside the text, and ends behind its beginning
pub stands_inside : {s : List ℕ} {p x : ℕ} {w : List ℕ} {q : ℕ} → Stands s p (x ∷ w) q → p < length s
stands_inside h = omega arith

pub stands_grows : {s : List ℕ} {p x : ℕ} {w : List ℕ} {q : ℕ} → Stands s p (x ∷ w) q → p < q
stands_grows h = omega arith

-- the bytes behind the first
pub stands_rest : {s : List ℕ} {p x : ℕ} {w : List ℕ} {q : ℕ} → Stands s p (x ∷ w) q → Stands s (p + 1) w q
stands_rest {s} {p} {x} {w} {q} h = (stands_cut s p (x ∷ []) w q h).1

-- the whole text
pub stands_whole : {s w : List ℕ} → Stands s 0 w (length s) → w ≡ s
stands_whole {s} {w} h = sym (h.text ∙ (ap (λ (l : List ℕ). w ++ l) (drop-length s) ∙ append-nil w))

pub whole_stands : (s : List ℕ) → Stands s 0 s (length s)
whole_stands s = record {
  end = omega arith;
  within = omega arith;
  text = sym (ap (λ (l : List ℕ). s ++ l) (drop-length s) ∙ append-nil s);
}

-- a word is what is cut out of the text
pub stands_word : {s : List ℕ} {a : ℕ} {w : List ℕ} {b : ℕ} → Stands s a w b → take (b - a) (drop a s) ≡ w
stands_word {s} {a} {w} {b} h =
    ap (λ (l : List ℕ). take (b - a) l) h.text ∙ take_at w (drop b s) (b - a) (omega arith)
