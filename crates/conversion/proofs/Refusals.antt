-- A text is converted exactly if it is of the form, its rows fit the shape, and there is room; and it is refused by
-- each number exactly as specs/Refusals says.
use Prim.Native.Nat.{ℕ, ◌≤◌, ◌<◌}
use mathlib.Core.Path.{◌≡◌, refl, sym, subst, ◌∙◌}
use mathlib.Core.Logic.{inl, inr, ◌↔◌}
use mathlib.Core.List.{List}
use native.Mathlib.Decide.{ℕ_discrete}
use native.Mathlib.Omega.{arith}
use Rattle.model.specs.Refusal.{number}
use Rattle.model.specs.Check.{Accepted, check_code}
use Rattle.model.specs.Forest.{Forest}
use Rattle.model.specs.Xml.{Document}
use Rattle.model.specs.Convert.{form_code, fit_code, full_code, convert_code}
use Rattle.model.specs.declared.Refusal.TheVariants.{BadParentRow, BadText, UnfitText, NoRoom}
use Rattle.model.proofs.Grounds.{or_else_next, or_else_first}
use Rattle.grounds.proofs.Sound.{check_code_le}
use Rattle.conversion.specs.Conversion.{Converts}
use Rattle.conversion.specs.Refusals.{NoForm, Misfits, Overfills, BadlyFormed, Unfit, TooLarge, ConvertCode}
use Rattle.conversion.specs.Refusals.{RefusedExactly}
use Rattle.conversion.proofs.Ground.{Ground, none_exactly, own_exactly}
use Rattle.conversion.proofs.Form.{form_ground, form_exactly}
use Rattle.conversion.proofs.Fitting.{Fitting, Roomy, fit_ground, full_ground}

-- what excludes each other: under 21, and under 22
fits_apart : (shape : List ℕ) (f : Forest) → Fitting shape f → Misfits shape f → ⊥
fits_apart shape f p (inl h) = let l = h.2 in omega (arith, p.0 h.0 h.1)
fits_apart shape f p (inr n) = n p.1

room_apart : (shape : List ℕ) (room : ℕ) (f : Forest) → Roomy shape room f → Overfills shape room f → ⊥
room_apart shape room f p (inl h) = let l = h.2 in omega (arith, p.0 h.0 h.1)
room_apart shape room f p (inr l) = let h = p.1 in omega arith

-- what a conversion comes to, by its code
data Outcome (shape text : List ℕ) (room : ℕ) : ℕ → Type 0 where
  of_shape : (check_code shape ≡ 0 → ⊥) → Outcome shape text room (check_code shape)
  bad_text_lem : BadlyFormed shape text → Outcome shape text room (number BadText)
  unfit_text_lem : (f : Forest) → Unfit shape text f → Outcome shape text room (number UnfitText)
  no_room_lem : (f : Forest) → TooLarge shape text room f → Outcome shape text room (number NoRoom)
  converts : (f : Forest) → Converts shape text room f → Outcome shape text room 0

module _ (shape text : List ℕ) (room : ℕ) where
  -- the ground that counts: the shape's, 20, 21 or 22
  by_shape : (check_code shape ≡ 0 → ⊥) → convert_code shape text room ≡ check_code shape
  unfolding convert_code
  by_shape n = or_else_first _ n

  by_form : Accepted shape → (form_code text ≡ 0 → ⊥) → convert_code shape text room ≡ form_code text
  unfolding convert_code
  by_form ok n = or_else_next _ ok ∙ or_else_first _ n

  by_fit : Accepted shape → form_code text ≡ 0 → (fit_code shape text ≡ 0 → ⊥)
      → convert_code shape text room ≡ fit_code shape text
  unfolding convert_code
  by_fit ok z n = or_else_next _ ok ∙ or_else_next _ z ∙ or_else_first _ n

  by_full : Accepted shape → form_code text ≡ 0 → fit_code shape text ≡ 0
      → convert_code shape text room ≡ full_code shape text room
  unfolding convert_code
  by_full ok z y = or_else_next _ ok ∙ or_else_next _ z ∙ or_else_next _ y

  -- rows that fit leave 22
  by_room : Accepted shape → (f : Forest) → Document text f → Fitting shape f
      → convert_code shape text room ≡ full_code shape text room
  by_room ok f form fits =
      by_full ok ((form_exactly text).1 (f, form))
      ((none_exactly (omega arith) (fits_apart shape f) (fit_ground shape text ok f form)).1 fits)

  -- each outcome has its code
  gives : {n : ℕ} → Outcome shape text room n → convert_code shape text room ≡ n
  gives (of_shape n) = by_shape n
  gives (bad_text_lem h) =
      let e = (own_exactly (omega arith) (λ r n. n r.0 r.1) (form_ground text)).1 h.no_form in
      by_form h.accepted (λ z. omega arith) ∙ e
  gives (unfit_text_lem f h) =
      let e = (own_exactly (omega arith) (fits_apart shape f) (fit_ground shape text h.accepted f h.form)).1
      h.unfit in
      by_fit h.accepted ((form_exactly text).1 (f, h.form)) (λ z. omega arith) ∙ e
  gives (no_room_lem f h) =
      by_room h.accepted f h.form (h.empty, h.fits)
      ∙ (own_exactly (omega arith) (room_apart shape room f)
      (full_ground shape text h.accepted f h.form h.fits room)).1 h.large
  gives (converts f h) =
      by_room h.accepted f h.form (h.empty, h.fits)
      ∙ (none_exactly (omega arith) (room_apart shape room f)
      (full_ground shape text h.accepted f h.form h.fits room)).1 (h.few, h.short)

  -- and there is one: the grounds are tried in order
  abbrev Some : Type 0
  Some = (n : ℕ) × Outcome shape text room n

  after_fit : Accepted shape → (f : Forest) → Document text f → Fitting shape f → {code : ℕ}
      → Ground (Roomy shape room f) (Overfills shape room f) (number NoRoom) code → Some
  after_fit ok f form fits (inl h) = (
    0,
    converts f
        (record { accepted = ok; empty = fits.0; form = form; fits = fits.1; few = h.0.0; short = h.0.1 }),
  )
  after_fit ok f form fits (inr h) =
      (_, no_room_lem f (record { accepted = ok; form = form; empty = fits.0; fits = fits.1; large = h.0 }))

  after_form : (ok : Accepted shape) (f : Forest) → Document text f → {code : ℕ}
      → Ground (Fitting shape f) (Misfits shape f) (number UnfitText) code → Some
  after_form ok f form (inl h) =
      after_fit ok f form h.0 (full_ground shape text ok f form h.0.1 room)
  after_form ok f form (inr h) = (_, unfit_text_lem f (record { accepted = ok; form = form; unfit = h.0 }))

  after_shape : (ok : Accepted shape) → {code : ℕ}
      → Ground ((f : Forest) × Document text f) (NoForm text) (number BadText) code → Some
  after_shape ok (inl h) = after_form ok h.0.0 h.0.1 (fit_ground shape text ok h.0.0 h.0.1)
  after_shape ok (inr h) = (_, bad_text_lem (record { accepted = ok; no_form = h.0 }))

  some_outcome : Dec (check_code shape ≡ 0) → Some
  some_outcome (yes ok) = after_shape ok (form_ground text)
  some_outcome (no n) = (_, of_shape n)

  outcome : {n : ℕ} → convert_code shape text room ≡ n → Outcome shape text room n
  outcome e =
      let o = some_outcome (ℕ_discrete (check_code shape) 0) in
      subst (Outcome shape text room) (sym (gives o.1) ∙ e) o.1

  -- so each number says one thing
  is_converts : {n : ℕ} → Outcome shape text room n → n ≡ 0 → (f : Forest) × Converts shape text room f
  is_converts (of_shape n) e = absurd (n e)
  is_converts (bad_text_lem h) e = absurd (omega arith)
  is_converts (unfit_text_lem f h) e = absurd (omega arith)
  is_converts (no_room_lem f h) e = absurd (omega arith)
  is_converts (converts f h) e = (f, h)

  is_shape : {n : ℕ} → Outcome shape text room n → 0 < n → n ≤ number BadParentRow → check_code shape ≡ n
  is_shape (of_shape n) l h = refl
  is_shape (bad_text_lem b) l h = absurd (omega arith)
  is_shape (unfit_text_lem f u) l h = absurd (omega arith)
  is_shape (no_room_lem f r) l h = absurd (omega arith)
  is_shape (converts f c) l h = absurd (omega arith)

  is_bad : {n : ℕ} → Outcome shape text room n → n ≡ number BadText → BadlyFormed shape text
  is_bad (of_shape n) e = absurd (omega (arith, check_code_le shape))
  is_bad (bad_text_lem h) e = h
  is_bad (unfit_text_lem f h) e = absurd (omega arith)
  is_bad (no_room_lem f h) e = absurd (omega arith)
  is_bad (converts f h) e = absurd (omega arith)

  is_unfit : {n : ℕ} → Outcome shape text room n → n ≡ number UnfitText → (f : Forest) × Unfit shape text f
  is_unfit (of_shape n) e = absurd (omega (arith, check_code_le shape))
  is_unfit (bad_text_lem h) e = absurd (omega arith)
  is_unfit (unfit_text_lem f h) e = (f, h)
  is_unfit (no_room_lem f h) e = absurd (omega arith)
  is_unfit (converts f h) e = absurd (omega arith)

  is_large : {n : ℕ} → Outcome shape text room n → n ≡ number NoRoom → (f : Forest) × TooLarge shape text room f
  is_large (of_shape n) e = absurd (omega (arith, check_code_le shape))
  is_large (bad_text_lem h) e = absurd (omega arith)
  is_large (unfit_text_lem f h) e = absurd (omega arith)
  is_large (no_room_lem f h) e = (f, h)
  is_large (converts f h) e = absurd (omega arith)

  is_code : {n : ℕ} → Outcome shape text room n → ConvertCode n
  is_code (of_shape n) = inl (check_code_le shape)
  is_code (bad_text_lem h) = inr (inl refl)
  is_code (unfit_text_lem f h) = inr (inr (inl refl))
  is_code (no_room_lem f h) = inr (inr (inr refl))
  is_code (converts f h) = inl (omega arith)

  shape_given : (n : ℕ) → 0 < n → check_code shape ≡ n → convert_code shape text room ≡ n
  shape_given n l e = by_shape (λ (z : check_code shape ≡ 0). omega arith) ∙ e

  -- a text is converted exactly if it stands for rows for which specs/Conversion says so
  pub converts_exactly : (convert_code shape text room ≡ 0) ↔ ((f : Forest) × Converts shape text room f)
  converts_exactly = (λ e. is_converts (outcome e) refl, λ h. gives (converts h.0 h.1))

  -- and refused by each number exactly as specs/Refusals says
  pub refused_exactly : RefusedExactly shape text room
  refused_exactly =
      record {
        shapes = λ n l h. (λ e. is_shape (outcome e) l h, shape_given n l);
        bad_text = (λ e. is_bad (outcome e) refl, λ h. gives (bad_text_lem h));
        unfit_text = (λ e. is_unfit (outcome e) refl, λ h. gives (unfit_text_lem h.0 h.1));
        no_room = (λ e. is_large (outcome e) refl, λ h. gives (no_room_lem h.0 h.1));
        no_other = is_code (outcome refl);
      }
