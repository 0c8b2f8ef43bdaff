-- Evidence records as bytes: records that are written are read back, none is broken, and they are as many.
use Prim.Native.Nat.{ℕ, zero, suc, ◌+◌, ◌*◌, ◌%◌, ◌≤◌}
use mathlib.Core.Path.{◌≡◌, refl, ap, ◌∙◌}
use mathlib.Core.List.Memᴰ
use mathlib.Core.List.{List, [], ◌∷◌, ◌++◌}
use native.Mathlib.Nat.{add_assoc}
use native.Mathlib.Omega.{arith}
use lib.Dec.{T}
use lib.ListN.{length, length-append, get_or-eq_default}
use Rattle.file.proofs.Past.{u16_past}
use Rattle.file.proofs.Numbers.{byte_after, u16_after, u16_of_bytes2}
use Rattle.model.specs.Bytes.{u16_at, bytes2, Bytes}
use Rattle.model.specs.Evidence.{evidence_bytes, record_bytes, record_at, records_bytes, records_from, record_count}
use Rattle.model.specs.Evidence.{records_held, unbroken}
use Rattle.model.specs.declared.Evidence.{Evidence}
use Rattle.model.proofs.Truth.{eqb_is}
use Rattle.evidence.specs.Small.{SmallRecord, SmallRecords}

-- past the end
pub record_past : (bytes : List ℕ) (i : ℕ) → length bytes ≤ i
    → ◌≡◌ {A = Evidence} (record { target = 0; right = 0; set = 0; first = 0; second = 0 }) (record_at bytes i)
unfolding record_at
record_past bytes i h =
    cc (
      get_or-eq_default bytes 0 h,
      get_or-eq_default bytes 0 {n = i + 1} (omega arith),
      u16_past bytes (i + 2) (omega arith),
      u16_past bytes (i + 4) (omega arith),
      u16_past bytes (i + 6) (omega arith),
    )

-- one record: how many bytes it has, that they are bytes, and that it is read back behind any bytes
pub length_record : (e : Evidence) → length (record_bytes e) ≡ evidence_bytes
unfolding record_bytes bytes2
length_record e = refl

pub record_after : (xs ys : List ℕ) (i : ℕ) → record_at (xs ++ ys) (length xs + i) ≡ record_at ys i
unfolding record_at
record_after xs ys i = simp (add_assoc, byte_after xs ys, u16_after)

fields_same : (t a s f g x y z : ℕ) → x ≡ s → y ≡ f → z ≡ g
    → ◌≡◌ {A = Evidence} (record { target = t; right = a; set = x; first = y; second = z })
    (record { target = t; right = a; set = s; first = f; second = g })
fields_same t a s f g x y z p q r = cc

pub record_back : (e : Evidence) (ys : List ℕ) → SmallRecord e → record_at (record_bytes e ++ ys) 0 ≡ e
unfolding record_at record_bytes bytes2 u16_at
record_back e ys s =
    fields_same e.target e.right e.set e.first e.second _ _ _
    (u16_of_bytes2 e.set [] s.set)
    (u16_of_bytes2 e.first [] s.first)
    (u16_of_bytes2 e.second [] s.second)

pub two_bytes : (n : ℕ) (ys : List ℕ) → Bytes ys → Bytes (bytes2 n ++ ys)
unfolding bytes2
two_bytes n ys b = (omega arith, (omega arith, b))

record_bytes_lem : (e : Evidence) (ys : List ℕ) → SmallRecord e → Bytes ys → Bytes (record_bytes e ++ ys)
unfolding record_bytes bytes2
record_bytes_lem e ys s b =
    let c = two_bytes e.second ys b in
    let d = two_bytes e.first (bytes2 e.second ++ ys) c in
    (s.target, (s.right, two_bytes e.set (bytes2 e.first ++ (bytes2 e.second ++ ys)) d))

-- records one after the other, behind a front
pub records_after : (xs ys : List ℕ) (n i : ℕ) → records_from (xs ++ ys) n (length xs + i) ≡ records_from ys n i
unfolding records_from
records_after xs ys zero i = refl
records_after xs ys (suc n) i = simp (add_assoc, record_after xs ys i, records_after xs ys n (i + evidence_bytes))

next_records : (e : Evidence) (ys : List ℕ) (n : ℕ)
    → records_from (record_bytes e ++ ys) n evidence_bytes ≡ records_from ys n 0
next_records e ys n =
    let p : evidence_bytes ≡ length (record_bytes e) + 0 = omega (arith, length_record e) in
    ap (records_from (record_bytes e ++ ys) n) p ∙ records_after (record_bytes e) ys n 0

pub length_records : (rs : List Evidence) → length (records_bytes rs) ≡ evidence_bytes * length rs
unfolding records_bytes
length_records [] = refl
length_records (e ∷ rs) =
    omega (arith, length-append (record_bytes e) (records_bytes rs), length_record e, length_records rs)

pub records_from_lem : (rs : List Evidence) → SmallRecords rs → records_from (records_bytes rs) (length rs) 0 ≡ rs
unfolding records_from records_bytes
records_from_lem [] s = refl
records_from_lem (e ∷ rs) s =
    cc (
      record_back e (records_bytes rs) (s e (Memᴰ.head refl)),
      next_records e (records_bytes rs) (length rs),
      records_from_lem rs (λ f m. s f (Memᴰ.tail m)),
    )

-- what is written is read back: as many records, none broken, and the same
pub record_count_lem : (rs : List Evidence) → record_count (records_bytes rs) ≡ length rs
unfolding record_count
record_count_lem rs = omega (arith, length_records rs)

pub records_unbroken : (rs : List Evidence) → T (unbroken (records_bytes rs))
unfolding unbroken
records_unbroken rs = (eqb_is (length (records_bytes rs) % evidence_bytes) 0).1 (omega (arith, length_records rs))

pub records_back : (rs : List Evidence) → SmallRecords rs → records_held (records_bytes rs) ≡ rs
unfolding records_held
records_back rs s = ap (λ (n : ℕ). records_from (records_bytes rs) n 0) (record_count_lem rs) ∙ records_from_lem rs s

-- what is written is bytes
pub records_bytes_lem : (rs : List Evidence) → SmallRecords rs → Bytes (records_bytes rs)
unfolding records_bytes
records_bytes_lem [] s = tt
records_bytes_lem (e ∷ rs) s =
    record_bytes_lem e (records_bytes rs) (s e (Memᴰ.head refl)) (records_bytes_lem rs (λ f m. s f (Memᴰ.tail m)))
