-- Exactly the texts of specs/Xml are taken by 20, and each stands for one forest of rows: so every printing of some
-- rows, with white space wherever it is allowed and either way to end an empty element, is read back as these.
use Prim.Native.Nat.{ℕ}
use mathlib.Core.Path.{◌≡◌}
use mathlib.Core.Logic.{◌↔◌}
use mathlib.Core.Bool.{false}
use mathlib.Core.List.{List, []}
use native.Mathlib.Omega.{arith}
use Rattle.model.specs.Bounds.{no_parent}
use Rattle.model.specs.Refusal.{number}
use Rattle.model.specs.Forest.{Forest}
use Rattle.model.specs.Xml.{Document}
use Rattle.model.specs.Form.{document_at}
use Rattle.model.specs.Convert.{taken, form_code}
use Rattle.model.specs.declared.Refusal.TheVariants.{BadText}
use Rattle.standing.proofs.Taken.{all_taken}
use Rattle.grammar.proofs.Document.{document_sound, document_complete}
use Rattle.grammar.proofs.Unique.{meaning_unique}
use Rattle.conversion.specs.Printed.{ReadBack}
use Rattle.conversion.specs.Refusals.{NoForm}
use Rattle.conversion.proofs.Ground.{Ground, ground_as, ground_eq, none_exactly}

-- 20: none if the text stands for some rows
pub form_ground : (text : List ℕ)
    → Ground ((f : Forest) × Document text f) (NoForm text) (number BadText) (form_code text)
unfolding form_code
form_ground text =
    ground_as
    (λ n. let r = document_sound text (taken false []) n in (r.0, r.1))
    (λ z f d. let e = document_complete text (taken false []) f d (all_taken [] no_parent f) in omega arith)
    (ground_eq (document_at text (taken false [])) 0 (number BadText))

-- a text is taken exactly if it stands for some rows
pub form_exactly : (text : List ℕ) → (form_code text ≡ 0) ↔ ((f : Forest) × Document text f)
form_exactly text = none_exactly (omega arith) (λ r n. n r.0 r.1) (form_ground text)

-- and any printing of rows, which a derivation of specs/Xml is, is read back as these rows
pub reads_back : (text : List ℕ) (f : Forest) → Document text f → ReadBack text f
reads_back text f d =
    record { taken = (form_exactly text).1 (f, d); only = λ g e. meaning_unique text g f e d }
