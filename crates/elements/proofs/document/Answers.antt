-- `elements::document` meets its contract.
use Prim.Native.Nat.{ℕ}
use mathlib.Core.Path.{◌≡◌, sym, ap, ◌∙◌}
use mathlib.Core.Bool.{Bool, not}
use native.Mathlib.Decide.{ℕ_discrete}
use native.Mathlib.Omega.{arith}
use borrow.Author.Tests.{eq-eqb, ne_eqb}
use lib.Dec.{eqb}
use lib.ListN.{length}
use Rattle.columns.specs.Test.{if_eq}
use Rattle.columns.proofs.Test.{if_eq_yes, if_eq_no}
use Rattle.model.specs.Bounds.{table_bound, no_parent}
use Rattle.model.specs.Xml.{open_catalogue, catalogue_name}
use Rattle.model.specs.Form.{word_at, rest_at, content_by, element_at, document_at}
use Rattle.model.specs.Convert.{taken}
use Rattle.scanner.proofs.Read.{none_read, some_read, read_at}
use Rattle.elements.proofs.document.Goals as goal

-- a reader has read something
abbrev is_read : ℕ → Bool
is_read x = not (eqb x 0)

tested : (a b : ℕ) → eqb a b ≡ is_read (if_eq a b 1 0)
tested a b = at (ℕ_discrete a b)
  where
    at : Dec (a ≡ b) → eqb a b ≡ is_read (if_eq a b 1 0)
    at (yes e) = eq-eqb a b e ∙ sym (ap is_read (if_eq_yes 0 e))
    at (no n) = ne_eqb a b n ∙ sym (ap is_read (if_eq_no 1 n))

pub returns-in_default : goal.returns-in_default
unfolding document_at
returns-in_default c =
    ap is_read (none_read _ (read_at (word_at c.args.s.now open_catalogue) c.in_default.ensures.place c.skip.ensures))

pub returns-in_default-root_end : goal.returns-in_default-root_end
unfolding document_at
returns-in_default-root_end c =
    let a = c.args in
    let s = a.s.now in
    ap is_read
    (some_read {p = c.skip.result} _ (read_at (word_at s open_catalogue) c.in-Some.ensures.place c.skip.ensures)
    (omega (arith, c.in-Some.ensures.onward))
    (none_read _
    (read_at
    (rest_at s (content_by s (element_at s (taken a.strict a.shape.now) table_bound no_parent)) catalogue_name)
    c.in_default-root_end.ensures.place c.skip-2.ensures)))

pub returns : goal.returns
unfolding document_at
returns c =
    let a = c.args in
    let s = a.s.now in
    tested c.skip-3.result (length s)
    ∙ ap is_read
    (some_read {p = c.skip.result} _ (read_at (word_at s open_catalogue) c.in-Some.ensures.place c.skip.ensures)
    (omega (arith, c.in-Some.ensures.onward))
    (some_read _
    (read_at
    (rest_at s (content_by s (element_at s (taken a.strict a.shape.now) table_bound no_parent)) catalogue_name)
    c.in-Some-root_end.ensures.place c.skip-2.ensures)
    c.in-Some-root_end.ensures.onward (ap (λ (x : ℕ). if_eq x (length s) 1 0) c.skip-3.ensures)))
