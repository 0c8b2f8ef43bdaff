-- Tables that are those of an accepted catalogue, but for their rows: they are sound if their rows are, and they have
-- its visible columns.
use Prim.Native.Nat.{ℕ, ◌<◌}
use mathlib.Core.Path.{◌≡◌, ap, ◌∙◌}
use mathlib.Core.List.{List}
use native.Mathlib.Omega.{arith}
use lib.ListN.{length}
use Rattle.model.specs.Catalogue.{tables, parent, visible}
use Rattle.model.specs.Check.{Accepted}
use Rattle.model.specs.Encode.{Content, encode}
use Rattle.model.proofs.Check.{accepted_some, accepted_tables, accepted_columns, accepted_parent, accepted_root}
use Rattle.model.proofs.Check.{accepted_visible}
use Rattle.encoding.specs.Sound.{Shaped, Sound, SoundRows, table_of, visible_of}
use Rattle.encoding.proofs.Visible.{visible_as}
use Rattle.encoding.proofs.Accepted.{encoded_visible}

module _ (shape : List ℕ) (ts : List Content) (ok : Accepted shape) (shaped : Shaped shape ts) where
  -- a table of the contents is one of the shape
  there : {i : ℕ} → i < length ts → i < tables shape
  there l = omega (arith, shaped.count)

  -- the visible columns are those of the shape
  pub visible_shaped : (i : ℕ) → i < length ts → visible_of ts i ≡ visible shape i
  visible_shaped i l = visible_as shape ts shaped (λ j m h. accepted_parent shape ok j (there m) h) i l

  -- sound if the rows are
  pub shaped_sound : ((i : ℕ) → i < length ts → SoundRows ts i (table_of ts i)) → Sound ts
  shaped_sound h =
      record {
        some = omega (arith, shaped.count, accepted_some shape ok);
        few = omega (arith, shaped.count, accepted_tables shape ok);
        each = λ i l.
            record {
              narrow = omega (arith, shaped.columns_same i l, accepted_columns shape ok i (there l));
              root = λ z.
                  shaped.parent_same i l ∙ ap (parent shape) z ∙ accepted_root shape ok;
              below = λ p. omega (arith, shaped.parent_same i l, accepted_parent shape ok i (there l) p);
              lines = h i l;
            };
        narrow = λ i l. omega (arith, visible_shaped i l, accepted_visible shape ok i (there l));
      }

  pub visible_same : Sound ts → (i : ℕ) → i < length ts → visible (encode ts) i ≡ visible shape i
  visible_same sound i l = encoded_visible ts sound i l ∙ visible_shaped i l
