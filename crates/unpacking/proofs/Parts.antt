-- The part of the entries that is read from an index on, and the run while they are stored.
use Prim.Native.Nat.{ℕ, zero, suc, ◌+◌, ◌-◌, ◌*◌, ◌≤◌, ◌<◌, min}
use mathlib.Core.Path.{◌≡◌, refl, sym, ap, ap₂, ◌∙◌}
use mathlib.Core.List.{List, [], ◌∷◌, ◌++◌, append-nil}
use native.Mathlib.Omega.{arith}
use lib.ListN.{length, take, drop, set, drop_of_length-le}
use lib.Seq.{length-take-le}
use Rattle.columns.proofs.Test.{is_if_eq}
use Rattle.model.specs.Calls.{run_after}
use Rattle.model.specs.Entries.{entry_bytes, entry_at, entries_from}
use Rattle.model.specs.declared.Entry.{Entry}
use Rattle.entries.proofs.Entries.{length_from}
use Rattle.unpacking.specs.Part.{part_from}

take_from : (file : List ℕ) (n k p : ℕ) → take n (entries_from file k p) ≡ entries_from file (min n k) p
unfolding entries_from
take_from file zero k p = let e : min 0 k ≡ 0 = omega arith in ap (λ (m : ℕ). entries_from file m p) (sym e)
take_from file (suc n) zero p = let e : min (suc n) 0 ≡ 0 = omega arith in
    ap (λ (m : ℕ). entries_from file m p) (sym e)
take_from file (suc n) (suc k) p =
    let e : min (suc n) (suc k) ≡ suc (min n k) = omega arith in
    ap (λ (es : List Entry). entry_at file p ∷ es) (take_from file n k (p + entry_bytes))
    ∙ ap (λ (m : ℕ). entries_from file m p) (sym e)

drop_from : (file : List ℕ) (i k p : ℕ)
    → drop i (entries_from file k p) ≡ entries_from file (k - i) (p + entry_bytes * min i k)
unfolding entries_from
drop_from file zero k p =
    let m : k ≡ k - 0 = omega arith in
    let q : p ≡ p + entry_bytes * min 0 k = omega arith in
    ap₂ (entries_from file) m q
drop_from file (suc i) zero p =
    let m : 0 ≡ 0 - suc i = omega arith in
    ap (λ (n : ℕ). entries_from file n (p + entry_bytes * min (suc i) 0)) m
drop_from file (suc i) (suc k) p =
    let m : k - i ≡ suc k - suc i = omega arith in
    let q : p + entry_bytes + entry_bytes * min i k ≡ p + entry_bytes * min (suc i) (suc k) = omega arith in
    drop_from file i k (p + entry_bytes) ∙ ap₂ (entries_from file) m q

-- so many entries, and the first of them
pub part_is : (file : List ℕ) (k p from room : ℕ) {n at : ℕ} → n ≡ min (k - min from k) room
    → at ≡ p + entry_bytes * min from k
    → part_from file k p from room ≡ entries_from file n at
part_is file k p from room {n} {at} e q =
    let m : min room (k - from) ≡ n = omega arith in
    ap (take room) (drop_from file from k p)
    ∙ take_from file room (k - from) (p + entry_bytes * min from k)
    ∙ ap₂ (entries_from file) m (sym q)

-- one more entry is stored
set_next : (file : List ℕ) (p : ℕ) (run : List Entry) (n : ℕ) {e : Entry} → n < length run
    → e ≡ entry_at file (p + entry_bytes * n)
    → set (entries_from file n p ++ drop n run) n e ≡ entries_from file (suc n) p ++ drop (suc n) run
unfolding entries_from
set_next file p [] n h q = absurd (omega arith)
set_next file p (x ∷ run) zero h q = ap (λ (d : Entry). d ∷ run) (q ∙ ap (entry_at file) (omega arith))
set_next file p (x ∷ run) (suc n) h q =
    ap (λ (es : List Entry). entry_at file p ∷ es)
    (set_next file (p + entry_bytes) run n (omega arith) (q ∙ ap (entry_at file) (omega arith)))

pub stores_next : (file : List ℕ) (p : ℕ) (run : List Entry) (n : ℕ) {e : Entry} {items : List Entry} → n < length items
    → items ≡ entries_from file n p ++ drop n run → length items ≡ length run
    → e ≡ entry_at file (p + entry_bytes * n)
    → set items n e ≡ entries_from file (n + 1) p ++ drop (n + 1) run
stores_next file p run n {e} {items} h s l q =
    let m : suc n ≡ n + 1 = omega arith in
    ap (λ (es : List Entry). set es n e) s
    ∙ set_next file p run n (omega arith) q
    ∙ ap (λ (k : ℕ). entries_from file k p ++ drop k run) m

-- all are stored
pub stored : (file : List ℕ) (n p : ℕ) (run : List Entry) {es items : List Entry} {m : ℕ} → es ≡ entries_from file n p
    → n ≤ length run → m ≡ length (take n run) → items ≡ entries_from file m p ++ drop m (take n run)
    → items ++ drop n run ≡ run_after 0 es run
unfolding run_after
stored file n p run {es} {items} {m} e h f s =
    let whole : items ≡ es =
    s ∙ ap (λ (ds : List Entry). entries_from file m p ++ ds) (drop_of_length-le (take n run) (omega arith))
    ∙ append-nil (entries_from file m p) ∙ ap (λ (k : ℕ). entries_from file k p) (f ∙ length-take-le n run h) ∙ sym e in
    let l : n ≡ length es = sym (ap length e ∙ length_from file n p) in
    is_if_eq _ refl (ap₂ (λ (ds : List Entry) (k : ℕ). ds ++ drop k run) whole l)
