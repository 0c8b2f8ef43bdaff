-- The pages that a writer took: what they are and what is still to come make the whole text.
use Rattle.std.proofs.Common.{ℕ, ◌+◌, ◌≤◌, ◌<◌, ◌≡◌, List, [], ◌++◌, length, take, drop, refl, ap, sym, subst, ◌∙◌}
use Rattle.std.proofs.Common.{arith, append_assoc, append-nil, length-append, take-append-drop}
use Rattle.std.proofs.KnownBytes.{Appends-trans}
use Rattle.std.specs.Io.KnownBytes.{Appends}
use lib.Seq.{take-append_seam}
use Rattle.std.specs.declared.option.Option.{Option}
use Rattle.columns.specs.Test.{if_le}
use Rattle.columns.proofs.Test.{if_le_yes}
use Rattle.text.specs.Written.{AppendsFirst, front}
use Rattle.pages.specs.Pages.{Paged, rest}
use Rattle.pages.specs.declared.Page.{Page}
use Rattle.pages.proofs.Whole.{paged_counts}

-- some bytes were taken, and others are still to come
pub record Printed (old new : Option (List ℕ)) (others text : List ℕ) (count : ℕ) : Type 0 where
  pub bytes : List ℕ
  pub taken : Appends old new bytes
  pub whole : bytes ++ others ≡ text
  pub counted : count + length others ≡ length text

-- a page that fits the buffer is its first bytes
page_front : (p : Page) (out : List ℕ) → p.len ≤ length out → front p.len out ≡ take p.len out
page_front p out h = if_le_yes [] h

-- the first page
pub printed_first : (cat text out : List ℕ) (p : Page) (r : ℕ) (a b : Option (List ℕ)) → Paged cat text out p
    → Appends a b (front p.len out) → r ≡ if_le p.len (length out) p.len 0
    → Printed a b (rest cat p.place p.last) text r
printed_first cat text out p r a b g t e = record {
  bytes = take p.len out;
  taken = subst (Appends a b) (page_front p out g.within) t;
  whole = g.is;
  counted = paged_counts cat text out p r g e;
}

-- one page more
pub printed_more : (cat others text out : List ℕ) (p : Page) (s r : ℕ) (a b c : Option (List ℕ))
    → Printed a b others text s → Paged cat others out p → Appends b c (front p.len out)
    → r ≡ if_le p.len (length out) p.len 0 → Printed a c (rest cat p.place p.last) text (s + r)
printed_more cat others text out p s r a b c before g t e = record {
  bytes = before.bytes ++ take p.len out;
  taken =
      Appends-trans a b c before.bytes (take p.len out) before.taken (subst (Appends b c) (page_front p out g.within) t);
  whole =
      append_assoc before.bytes (take p.len out) (rest cat p.place p.last)
      ∙ ap (λ l. before.bytes ++ l) g.is
      ∙ before.whole;
  counted = omega (arith, paged_counts cat others out p r g e, before.counted);
}

-- nothing is still to come
pub printed_whole : (text : List ℕ) (s : ℕ) (others : List ℕ) (a b : Option (List ℕ)) → Printed a b others text s
    → others ≡ [] → Appends a b text
printed_whole text s others a b before e =
    subst (Appends a b)
    (sym (append-nil before.bytes) ∙ ap (λ l. before.bytes ++ l) (sym e) ∙ before.whole) before.taken

pub printed_count : (text : List ℕ) (s : ℕ) (others : List ℕ) (a b : Option (List ℕ)) → Printed a b others text s
    → others ≡ [] → s ≡ length text
printed_count text s others a b before e = omega (arith, before.counted, ap length e)

-- some bytes, and then the first k of others: the first bytes of the whole
first_of : (bytes others tail : List ℕ) (k : ℕ)
    → take (length (bytes ++ take k others)) (bytes ++ (others ++ tail)) ≡ bytes ++ take k others
first_of bytes others tail k =
    ap (take (length (bytes ++ take k others)))
    (sym (append_assoc bytes (take k others) (drop k others ++ tail)
    ∙ ap (λ l. bytes ++ l)
    (sym (append_assoc (take k others) (drop k others) tail) ∙ ap (λ l. l ++ tail) (take-append-drop k others))))
    ∙ take-append_seam (bytes ++ take k others) (drop k others ++ tail)

-- a page of which some is taken: the first, and one more
pub torn_first : (cat text out : List ℕ) (p : Page) (a b : Option (List ℕ)) → Paged cat text out p
    → AppendsFirst a b (front p.len out) → AppendsFirst a b text
torn_first cat text out p a b g t =
    let k = t.0 in
    let page = take p.len out in (
      length (take k page),
      subst (Appends a b)
          (ap (take k) (page_front p out g.within)
          ∙ sym (ap (take (length (take k page))) (sym g.is) ∙ first_of [] page (rest cat p.place p.last) k)) t.1,
    )

pub torn_more : (cat others text out : List ℕ) (p : Page) (s : ℕ) (a b c : Option (List ℕ))
    → Printed a b others text s → Paged cat others out p → AppendsFirst b c (front p.len out) → AppendsFirst a c text
torn_more cat others text out p s a b c before g t =
    let k = t.0 in
    let page = take p.len out in
    let both = before.bytes ++ take k page in (
      length both,
      subst (Appends a c)
          (sym (ap (take (length both)) (sym before.whole ∙ ap (λ l. before.bytes ++ l) (sym g.is))
          ∙ first_of before.bytes page (rest cat p.place p.last) k))
          (Appends-trans a b c before.bytes (take k page) before.taken
          (subst (Appends b c) (ap (take k) (page_front p out g.within)) t.1)),
    )
