-- Every forest of rows that a text can stand for has a text: the plain printing. And a text stands for no others.
use Prim.Native.Nat.{ℕ, zero, suc}
use mathlib.Core.Logic.{◌↔◌}
use mathlib.Core.List.{List, [], ◌∷◌}
use lib.Dec.{T}
use Rattle.model.specs.Bounds.{table_bound}
use Rattle.model.specs.Forest.{Cells, Forest, none, tree}
use Rattle.model.specs.Xml.{is_fresh, attribute, Attributes, Element, Content, blank, more, Document}
use Rattle.model.specs.Form.{is_distinct}
use Rattle.model.proofs.Truth.{and_is, true_is}
use Rattle.numerals.proofs.Tagged.{attributes_loose, attributes_distinct, loose_small}
use Rattle.standing.specs.Tags.{SmallCells}
use Rattle.conversion.specs.Printed.{Printable, space, quote, attribute_text, cells_text, inside_text, rows_text}
use Rattle.conversion.specs.Printed.{printed}

-- attributes of columns that differ, with values that a cell can have
cells_printed : (cs : Cells) → T (is_distinct cs) → SmallCells cs → Attributes (cells_text cs) cs
unfolding is_distinct attribute_text cells_text
cells_printed [] t s = Attributes.no_more
cells_printed (c ∷ cs) t s =
    let h = (and_is (is_fresh c.0 cs) (is_distinct cs)).0 t in
    Attributes.one_more (attribute space [] [] [] quote c.0 c.1 tt tt tt tt tt s.0)
    (cells_printed cs h.1 s.1) h.0

-- rows
rows_printed : (d : ℕ) (f : Forest) → Printable d f → Content d (rows_text f) f
unfolding rows_text inside_text
rows_printed d none h = blank [] tt
rows_printed zero (tree n cs inside after) h = absurd h
rows_printed (suc d) (tree n cs none after) h =
    more [] tt (Element.empty (cells_printed cs h.0 h.1) [] tt) (rows_printed (suc d) after h.3)
rows_printed (suc d) (tree n cs (tree m ds i a) after) h =
    more [] tt
    (Element.filled (cells_printed cs h.0 h.1) [] tt (rows_printed d (tree m ds i a) h.2) [] tt)
    (rows_printed (suc d) after h.3)

-- the whole text
pub printed_means : (f : Forest) → Printable table_bound f → Document (printed f) f
unfolding printed inside_text
printed_means none h = Document.empty [] [] [] tt tt tt
printed_means (tree n cs inside after) h =
    Document.filled [] [] [] [] tt tt tt tt (rows_printed table_bound (tree n cs inside after) h)

-- a row with others behind it
row_before : (d n : ℕ) (cs : Cells) (inside after : Forest) → Printable d (tree n cs inside none) → Printable d after
    → Printable d (tree n cs inside after)
row_before zero n cs inside after h g = h
row_before (suc d) n cs inside after h g = (h.0, h.1, h.2, g)

attributes_printable : {l : List ℕ} {cs : Cells} → Attributes l cs → T (is_distinct cs) × SmallCells cs
attributes_printable at = (true_is (attributes_distinct at), loose_small (attributes_loose at))

content_printable : {d : ℕ} {l : List ℕ} {f : Forest} → Content d l f → Printable d f
content_printable c =
    elim c as (λ d l table cells inside e. Printable d (tree table cells inside none)) (λ d l f c. Printable d f) [
      | Element.empty at w h ↦ ((attributes_printable at).0, (attributes_printable at).1, tt, tt)
      | Element.filled at w h (c → ih) u k ↦ ((attributes_printable at).0, (attributes_printable at).1, ih, tt)
      | blank w h ↦ tt
      | more {d} {table} {cells} {inside} {after} w h (e → one) (c → others) ↦
          row_before d table cells inside after one others
    ]

pub means_printable : {text : List ℕ} {f : Forest} → Document text f → Printable table_bound f
means_printable (Document.empty w u v hw hu hv) = tt
means_printable (Document.filled w u v x hw hu hv hx c) = content_printable c

-- so the rows that have a text are the printable ones
pub printable_exactly : (f : Forest) → Printable table_bound f ↔ ((text : List ℕ) × Document text f)
printable_exactly f = (λ h. (printed f, printed_means f h), λ r. means_printable r.1)
