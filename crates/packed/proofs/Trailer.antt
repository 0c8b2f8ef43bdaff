-- The trailer's two numbers are read back behind any bytes; and a list that is one (no ground by 14) has the trailer
-- that its numbers say.
use Prim.Native.Nat.{ℕ, ◌+◌, ◌-◌, ◌≤◌, ◌<◌}
use mathlib.Core.Path.{◌≡◌, refl, ap, ◌∙◌}
use native.Mathlib.Decide.{dec_lt, ℕ_discrete}
use mathlib.Core.List.{List, [], ◌++◌}
use native.Mathlib.Omega.{arith}
use lib.ListN.{length, length-append}
use Rattle.columns.specs.Test.{if_eq, if_lt}
use Rattle.columns.proofs.Test.{if_eq_yes, if_lt_no, is_if_eq, is_if_ne, is_if_lt, is_if_not_lt}
use Rattle.model.specs.Bytes.{u32_at, bytes4}
use Rattle.model.specs.Refusal.{number}
use Rattle.model.specs.Packing.{trailer_bytes, distance_of}
use Rattle.model.specs.Reading.{count_in, distance_in, tail_code}
use Rattle.model.specs.declared.Refusal.TheVariants.{NoList}
use Rattle.entries.proofs.Grounds.{no_lt, no_ne}
use Rattle.file.proofs.Numbers.{u32_after, u32_of_bytes4}

pub length_trailer : (xs : List ℕ) (k d : ℕ) → length (xs ++ (bytes4 k ++ bytes4 d)) ≡ length xs + trailer_bytes
unfolding bytes4
length_trailer xs k d = length-append xs (bytes4 k ++ bytes4 d)

pub count_of : (xs : List ℕ) (k d : ℕ) → k < 4294967296 → count_in (xs ++ (bytes4 k ++ bytes4 d)) ≡ k
unfolding count_in
count_of xs k d h =
    let p : length (xs ++ (bytes4 k ++ bytes4 d)) - trailer_bytes ≡ length xs + 0 =
    omega (arith, length_trailer xs k d) in
    ap (u32_at (xs ++ (bytes4 k ++ bytes4 d))) p
    ∙ u32_after xs (bytes4 k ++ bytes4 d) 0
    ∙ u32_of_bytes4 k (bytes4 d) h

second_word : (k d : ℕ) → d < 4294967296 → u32_at (bytes4 k ++ bytes4 d) 4 ≡ d
unfolding bytes4
second_word k d h = u32_after (bytes4 k) (bytes4 d) 0 ∙ u32_of_bytes4 d [] h

pub distance_of_lem : (xs : List ℕ) (k d : ℕ) → d < 4294967296 → distance_in (xs ++ (bytes4 k ++ bytes4 d)) ≡ d
unfolding distance_in
distance_of_lem xs k d h =
    let p : length (xs ++ (bytes4 k ++ bytes4 d)) - 4 ≡ length xs + 4 = omega (arith, length_trailer xs k d) in
    ap (u32_at (xs ++ (bytes4 k ++ bytes4 d))) p ∙ u32_after xs (bytes4 k ++ bytes4 d) 4 ∙ second_word k d h

-- 14 is a ground, and what it leaves
pub list_some : number NoList ≡ 0 → ⊥
list_some z = omega arith

pub record Tailed (file : List ℕ) : Type 0 where
  pub trailer : trailer_bytes ≤ length file
  pub distance : distance_in file ≡ distance_of (count_in file)
  pub fits : distance_in file ≤ length file

pub listed : (file : List ℕ) → tail_code file ≡ 0 → Tailed file
unfolding tail_code
listed file h =
    let p = no_lt (length file) trailer_bytes (number NoList) _ list_some h in
    let q = no_ne (distance_in file) (distance_of (count_in file)) _ (number NoList) list_some p.1 in
    let r = no_lt (length file) (distance_in file) (number NoList) 0 list_some q.1 in
    record { trailer = p.0; distance = q.0; fits = r.0 }

pub lists : (file : List ℕ) → Tailed file → tail_code file ≡ 0
unfolding tail_code
lists file l = if_lt_no (number NoList) l.trailer ∙ if_eq_yes (number NoList) l.distance
    ∙ if_lt_no (number NoList) l.fits

-- else there is a ground
pub unlisted : (file : List ℕ) → (Tailed file → ⊥) → number NoList ≡ tail_code file
unfolding tail_code
unlisted file n = first (dec_lt (length file) trailer_bytes)
  where
    last : trailer_bytes ≤ length file → distance_in file ≡ distance_of (count_in file)
        → Dec (length file < distance_in file)
        → number NoList ≡ if_lt (length file) (distance_in file) (number NoList) 0
    last h e (yes l) = is_if_lt _ l refl
    last h e (no m) = absurd (n (record { trailer = h; distance = e; fits = omega arith }))

    next : trailer_bytes ≤ length file → Dec (distance_in file ≡ distance_of (count_in file))
        → number NoList
        ≡ if_eq (distance_in file) (distance_of (count_in file))
        (if_lt (length file) (distance_in file) (number NoList) 0)
        (number NoList)
    next h (yes e) = is_if_eq _ e (last h e (dec_lt (length file) (distance_in file)))
    next h (no m) = is_if_ne _ m refl

    first : Dec (length file < trailer_bytes) → number NoList ≡ tail_code file
    first (yes h) = is_if_lt _ h refl
    first (no m) = is_if_not_lt _ (omega arith)
        (next (omega arith) (ℕ_discrete (distance_in file) (distance_of (count_in file))))
