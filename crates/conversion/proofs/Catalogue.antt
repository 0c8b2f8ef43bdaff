-- What a conversion gives: the catalogue of the text's rows is accepted and holds them in the tables of the shape; it
-- stands at the start of the output, and its length is returned. A refusal leaves the output as it was.
use Prim.Native.Nat.{ℕ, ◌≤◌, ◌<◌}
use mathlib.Core.Path.{◌≡◌, refl, sym, ap, subst, ◌∙◌}
use mathlib.Core.List.{List, [], ◌∷◌, ◌++◌}
use native.Mathlib.Omega.{arith}
use lib.ListN.{length, drop, get_or, length-append, length-drop}
use Rattle.columns.proofs.Test.{if_eq_yes, if_eq_no}
use Rattle.model.specs.Reply.{answered}
use Rattle.model.specs.Catalogue.{tables, columns, parent}
use Rattle.model.specs.Check.{Accepted}
use Rattle.model.specs.Encode.{Content, content}
use Rattle.model.specs.Forest.{Forest, Fits, contents_of}
use Rattle.model.specs.Convert.{convert_code, convert_meaning, converted_output}
use Rattle.model.proofs.Check.{accepted_parent}
use Rattle.model.proofs.Grounds.{reply_refused, reply_answered}
use Rattle.encoding.specs.Sound.{Sound, SoundRows, table_of}
use Rattle.encoding.proofs.Contents.{encoded_tables, encoded_columns, encoded_parent, encoded_rows, encoded_parent_row}
use Rattle.encoding.proofs.Contents.{encoded_cell}
use Rattle.encoding.proofs.Accepted.{encode_accepted}
use Rattle.encoding.proofs.Shaped.{shaped_sound, visible_same}
use Rattle.encoding.proofs.Made.{contents_table, contents_shaped}
use Rattle.standing.specs.Tags.{rows_of, Small}
use Rattle.standing.proofs.Sound.{forest_count, codes_at, small_at, root_at, parent_at}
use Rattle.numerals.proofs.Tags.{document_small}
use Rattle.conversion.specs.Conversion.{FewRows, catalogue_of, Converts, IsCatalogue, ConvertedAs}
use Rattle.conversion.specs.Refusals.{Left}
use Rattle.conversion.proofs.Fitting.{converted_is}
use Rattle.conversion.proofs.Refusals.{converts_exactly}

module _ (shape : List ℕ) (ok : Accepted shape) (f : Forest) (fits : Fits shape f) (small : Small f)
    (few : FewRows shape f) where
  -- the rows of each table are sound
  rows_sound : (t : ℕ) → t < tables shape
      → SoundRows (contents_of shape f) t (content (columns shape t) (parent shape t) (rows_of shape f t))
  rows_sound t l =
      record {
        few = few t l;
        even = codes_at shape ok f fits t l;
        small = λ k c h i. small_at shape ok f fits t l small k c h i;
        root = root_at shape ok f fits t l;
        below = λ h k i.
            let p = accepted_parent shape ok t l h in
            let up : parent shape t < tables shape = omega arith in
            omega (
              arith,
              parent_at shape ok f fits t l h k i,
              forest_count shape ok f fits (parent shape t) up,
              ap (λ (c : Content). length c.rows) (contents_table shape f (parent shape t) up),
            );
      }

  tables_sound : Sound (contents_of shape f)
  tables_sound =
      shaped_sound shape (contents_of shape f) ok (contents_shaped shape f)
      (λ t l. let h : t < tables shape = omega (arith, (contents_shaped shape f).count) in
      subst (SoundRows (contents_of shape f) t) (sym (contents_table shape f t h)) (rows_sound t h))

  -- a table of the shape is one of the contents, and a row of the text one of its rows
  there : (t : ℕ) → t < tables shape → t < length (contents_of shape f)
  there t l = omega (arith, (contents_shaped shape f).count)

  row_there : (t k : ℕ) → t < tables shape → k < length (rows_of shape f t)
      → k < length (table_of (contents_of shape f) t).rows
  row_there t k l = subst (λ (c : Content). k < length c.rows) (sym (contents_table shape f t l))

  -- so all is read back from their file
  is_catalogue : IsCatalogue shape f (catalogue_of shape f)
  is_catalogue =
      let ts = contents_of shape f in
      record {
        accepted = encode_accepted ts tables_sound;
        tables_same = encoded_tables ts tables_sound ∙ sym (contents_shaped shape f).count;
        columns_same = λ t l.
            encoded_columns ts tables_sound t (there t l)
            ∙ ap (λ (c : Content). c.columns) (contents_table shape f t l);
        parent_same = λ t l.
            encoded_parent ts tables_sound t (there t l)
            ∙ ap (λ (c : Content). c.parent) (contents_table shape f t l);
        visible_same = λ t l. visible_same shape ts ok (contents_shaped shape f) tables_sound t (there t l);
        rows_as = λ t l.
            encoded_rows ts tables_sound t (there t l)
            ∙ ap (λ (c : Content). length c.rows) (contents_table shape f t l);
        parent_row_as = λ t k l h.
            encoded_parent_row ts tables_sound t (there t l) k (row_there t k l h)
            ∙ ap (λ (c : Content). (get_or c.rows k (0, [])).0) (contents_table shape f t l);
        cell_as = λ t k c l h i.
            encoded_cell ts tables_sound t (there t l) k (row_there t k l h) c
            (subst (λ (s : Content). c < s.columns) (sym (contents_table shape f t l)) i)
            ∙ ap (λ (s : Content). get_or (get_or s.rows k (0, [])).1 c 0) (contents_table shape f t l);
      }

-- a list whose start is written over keeps its length
start_kept : (start out : List ℕ) → length start ≤ length out → length (start ++ drop (length start) out) ≡ length out
start_kept start out l = simp (length-append, length-drop) (omega arith)

module _ (shape text out : List ℕ) where
  -- a conversion
  pub converted_catalogue : (f : Forest) → Converts shape text (length out) f → ConvertedAs shape text out f
  unfolding converted_output convert_meaning
  converted_catalogue f h =
      let fine = (converts_exactly shape text (length out)).1 (f, h) in
      let made = converted_is shape text h.accepted f h.form h.fits in
      let written : converted_output shape text out ≡ catalogue_of shape f ++ drop (length (catalogue_of shape f)) out
      = if_eq_yes out fine ∙ ap (λ (l : List ℕ). l ++ drop (length l) out) made in
      record {
        made = made;
        catalogue =
            is_catalogue shape h.accepted f h.fits (document_small h.form) h.few;
        written = written;
        length_kept = ap length written ∙ start_kept (catalogue_of shape f) out h.short;
        reply = sym (reply_answered _ fine) ∙ ap (λ (l : List ℕ). answered (length l ∷ [])) made;
      }

  -- a refusal
  pub refused_leaves : (convert_code shape text (length out) ≡ 0 → ⊥) → Left shape text out
  unfolding converted_output convert_meaning
  refused_leaves n =
      record {
        output = if_eq_no _ n;
        reply = sym (reply_refused _ refl n);
      }
