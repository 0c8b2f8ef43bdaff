-- A text in parts: white space, the catalogue's tag and white space in it, its rest from c to d, and white space.
use Prim.Native.Nat.{ℕ, ◌+◌}
use mathlib.Core.Path.{◌≡◌, refl, sym, ap, subst, ◌∙◌}
use mathlib.Core.List.{List, [], ◌∷◌, ◌++◌, append_assoc}
use native.Mathlib.Omega.{arith}
use lib.ListN.{length, drop, get_or-eq_default}
use Rattle.model.specs.Xml.{is_white, White, open_catalogue, catalogue_name, greater, close}
use Rattle.model.specs.Form.{skip, word_at}
use Rattle.readers.specs.Stands.{Stands}
use Rattle.numerals.specs.Tagged.{TagEnd}
use Rattle.spelling.proofs.Stands.{stands_cut, stands_join, stands_byte}
use Rattle.spelling.proofs.Small.{skip_complete, word_complete}
use Rattle.grammar.proofs.Tag.{tag_ends_at}

pub record Whole (s : List ℕ) (c d : ℕ) : Type 0 where
  pub a : ℕ
  pub b : ℕ
  pub before : List ℕ
  pub within : List ℕ
  pub behind : List ℕ
  pub white_before : White before
  pub white_within : White within
  pub white_behind : White behind
  pub stands_before : Stands s 0 before a
  pub tag : Stands s a open_catalogue b
  pub stands_within : Stands s b within c
  pub stands_behind : Stands s d behind (length s)

-- the parts in one
pub whole_join : {s : List ℕ} {c d : ℕ} (w : Whole s c d) {rest : List ℕ} → Stands s c rest d
    → Stands s 0 (w.before ++ (open_catalogue ++ (w.within ++ (rest ++ w.behind)))) (length s)
whole_join w h =
    stands_join w.stands_before
    (stands_join w.tag (stands_join w.stands_within (stands_join h w.stands_behind)))

-- and cut
pub whole_cut : (s w u rest v : List ℕ) → White w → White u → White v
    → Stands s 0 (w ++ (open_catalogue ++ (u ++ (rest ++ v)))) (length s)
    → (c : ℕ) × (d : ℕ) × Whole s c d × Stands s c rest d
whole_cut s w u rest v hw hu hv h =
    let a = 0 + length w in
    let b = a + 10 in
    let c = b + length u in
    let first = stands_cut s 0 w (open_catalogue ++ (u ++ (rest ++ v))) (length s) h in
    let second = stands_cut s a open_catalogue (u ++ (rest ++ v)) (length s) first.1 in
    let third = stands_cut s b u (rest ++ v) (length s) second.1 in
    let last = stands_cut s c rest v (length s) third.1 in (
      c,
      c + length rest,
      record {
        a = a;
        b = b;
        before = w;
        within = u;
        behind = v;
        white_before = hw;
        white_within = hu;
        white_behind = hv;
        stands_before = first.0;
        tag = second.0;
        stands_within = third.0;
        stands_behind = last.1;
      },
      last.0,
    )

-- The same where the rest is `>`, content and the end tag: the white space behind it stands inside the brackets of the
-- form.
end_assoc : (inner u v : List ℕ) → (inner ++ (close ++ (catalogue_name ++ (u ++ (greater ∷ []))))) ++ v
    ≡ inner ++ (close ++ (catalogue_name ++ (u ++ (greater ∷ v))))
end_assoc inner u v =
    append_assoc inner (close ++ (catalogue_name ++ (u ++ (greater ∷ [])))) v
    ∙ ap (λ (l : List ℕ). inner ++ (close ++ (catalogue_name ++ l))) (append_assoc u (greater ∷ []) v)

pub filled_join : {s : List ℕ} {c d : ℕ} (w : Whole s c d) (inner u : List ℕ)
    → Stands s c (greater ∷ (inner ++ (close ++ (catalogue_name ++ (u ++ (greater ∷ [])))))) d
    → Stands s 0
    (w.before ++ (open_catalogue ++ (w.within
    ++ (greater ∷ (inner ++ (close ++ (catalogue_name ++ (u ++ (greater ∷ w.behind)))))))))
    (length s)
filled_join {s} w inner u h =
    subst (λ (l : List ℕ). Stands s 0 (w.before ++ (open_catalogue ++ (w.within ++ (greater ∷ l)))) (length s))
    (end_assoc inner u w.behind) (whole_join w h)

pub filled_cut : (s w u inner v x : List ℕ) → White w → White u → White x
    → Stands s 0
    (w ++ (open_catalogue ++ (u ++ (greater ∷ (inner ++ (close ++ (catalogue_name ++ (v ++ (greater ∷ x)))))))))
    (length s)
    → (c : ℕ) × (d : ℕ) × Whole s c d
    × Stands s c (greater ∷ (inner ++ (close ++ (catalogue_name ++ (v ++ (greater ∷ [])))))) d
filled_cut s w u inner v x hw hu hx h =
    whole_cut s w u (greater ∷ (inner ++ (close ++ (catalogue_name ++ (v ++ (greater ∷ [])))))) x hw hu hx
    (subst (λ (l : List ℕ). Stands s 0 (w ++ (open_catalogue ++ (u ++ (greater ∷ l)))) (length s))
    (sym (end_assoc inner v x)) h)

-- the positions of the parts are read
module _ {s : List ℕ} {c d : ℕ} (w : Whole s c d) where
  pub tag_at_lem : word_at s open_catalogue (skip s 0) ≡ w.b
  tag_at_lem =
      ap (word_at s open_catalogue)
      (skip_complete w.stands_before w.white_before (ap is_white (stands_byte w.tag)))
      ∙ word_complete w.tag

  pub rest_at_lem : TagEnd (drop c s) → skip s w.b ≡ c
  rest_at_lem e = skip_complete w.stands_within w.white_within (tag_ends_at is_white refl refl s c e)

  pub end_at_lem : skip s d ≡ length s
  end_at_lem =
      skip_complete w.stands_behind w.white_behind
      (ap is_white (get_or-eq_default s 0 {n = length s} (omega arith)))
