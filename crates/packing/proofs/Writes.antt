-- What is written: an entry's bytes, an entry behind those before it, and the trailer behind all.
use Prim.Native.Nat.{ℕ, ◌+◌, ◌*◌, ◌≤◌, ◌<◌}
use mathlib.Core.Path.{◌≡◌, refl, sym, ap, ◌∙◌}
use mathlib.Core.List.{List, [], ◌∷◌, ◌++◌, append_assoc, append-nil}
use native.Mathlib.Numerals.{add-one}
use native.Mathlib.Omega.{arith}
use lib.ListN.{length, length-append, length-drop, get_or, take, drop}
use lib.Seq.{sets, sets-eq, take-append_seam, drop-append-add, drop-drop, take-suc, length-take-le, drop-cons, take_all}
use Rattle.model.specs.Bytes.{bytes4}
use Rattle.model.specs.Entry.{entry}
use Rattle.model.specs.Entries.{entry_bytes, bytes_of, entries_bytes}
use Rattle.model.specs.Packing.{trailer_bytes, distance_of, packed}
use Rattle.model.specs.declared.Entry.{Entry}
use Rattle.entries.proofs.OneEntry.{length_entry}
use Rattle.entries.proofs.Entries.{length_entries}

-- a run of k stores behind a front of n bytes
sets_behind : (p t vs : List ℕ) (n k : ℕ) → length p ≡ n → length vs ≡ k → k ≤ length t
    → sets (p ++ t) n vs ≡ p ++ (vs ++ drop k t)
sets_behind p t vs n k e f h =
    rw (← e, ← f)
    (sets-eq vs (p ++ t) (length p) (omega (arith, length-append p t))
    ∙ rw (take-append_seam p t, drop-append-add p t (length vs)) (append_assoc p vs (drop (length vs) t)))

-- the bytes of entries one after the other
bytes_append : (es fs : List Entry) → entries_bytes (es ++ fs) ≡ entries_bytes es ++ entries_bytes fs
unfolding entries_bytes
bytes_append [] fs = refl
bytes_append (e ∷ es) fs =
    rw (bytes_append es fs) (sym (append_assoc (bytes_of e) (entries_bytes es) (entries_bytes fs)))

bytes_one : (e : Entry) → entries_bytes (e ∷ []) ≡ bytes_of e
unfolding entries_bytes
bytes_one e = append-nil (bytes_of e)

bytes_more : (es : List Entry) (i : ℕ) → i < length es
    → entries_bytes (take (i + 1) es) ≡ entries_bytes (take i es) ++ bytes_of (get_or es i (entry 0 0 0))
bytes_more es i h =
    rw (add-one i, take-suc es i (entry 0 0 0) h)
    (bytes_append (take i es) (get_or es i (entry 0 0 0) ∷ [])
    ∙ ap (λ (l : List ℕ). entries_bytes (take i es) ++ l) (bytes_one (get_or es i (entry 0 0 0))))

bytes_length : (es : List Entry) (i : ℕ) → i ≤ length es → length (entries_bytes (take i es)) ≡ entry_bytes * i
bytes_length es i h = length_entries (take i es) ∙ ap (λ (n : ℕ). entry_bytes * n) (length-take-le i es h)

-- one more entry is written
pub writes_entry : (es : List Entry) (o out : List ℕ) (i : ℕ) {e : Entry} → i < length es
    → entry_bytes * length es ≤ length o
    → e ≡ get_or es i (entry 0 0 0) → out ≡ entries_bytes (take i es) ++ drop (entry_bytes * i) o
    → sets out (entry_bytes * i) (bytes_of e) ≡ entries_bytes (take (i + 1) es) ++ drop (entry_bytes * (i + 1)) o
writes_entry es o out i {e} h room p q =
    let f = get_or es i (entry 0 0 0) in
    let s : entry_bytes * i + entry_bytes ≡ entry_bytes * (i + 1) = omega arith in
    rw (q, p, bytes_more es i h, ← s, ← drop-drop entry_bytes (entry_bytes * i) o)
    (sets_behind (entries_bytes (take i es)) (drop (entry_bytes * i) o) (bytes_of f) (entry_bytes * i) entry_bytes
    (bytes_length es i (omega arith)) (length_entry f) (omega (arith, length-drop (entry_bytes * i) o))
    ∙ sym (append_assoc (entries_bytes (take i es)) (bytes_of f) (drop entry_bytes (drop (entry_bytes * i) o))))

-- the trailer is written behind all: the count behind the entries, and the distance behind both
-- an output with the trailer behind k entries: their number, and the distance
abbrev pub with_trailer : List ℕ → ℕ → List ℕ
with_trailer out k = sets (sets out (entry_bytes * k) (bytes4 k)) (entry_bytes * k + 4) (bytes4 (distance_of k))

pub writes_trailer : (es : List Entry) (o out : List ℕ) (k : ℕ) → length es ≡ k → distance_of k ≤ length o
    → out ≡ entries_bytes es ++ drop (entry_bytes * k) o → with_trailer out k ≡ packed es ++ drop (distance_of k) o
unfolding packed bytes4
writes_trailer es o out k e h q =
    let rest = drop (entry_bytes * k) o in
    let long : length (entries_bytes es) ≡ entry_bytes * k = length_entries es ∙ ap (λ (n : ℕ). entry_bytes * n) e in
    let one =
    sets_behind (entries_bytes es) rest (bytes4 k) (entry_bytes * k) 4 long refl
    (omega (arith, length-drop (entry_bytes * k) o)) in
    let two =
    sets_behind (entries_bytes es ++ bytes4 k) (drop 4 rest) (bytes4 (distance_of k)) (entry_bytes * k + 4) 4
    (omega (arith, length-append (entries_bytes es) (bytes4 k))) refl
    (omega (arith, length-drop (entry_bytes * k) o, length-drop 4 rest)) in
    let behind : drop 4 (drop 4 rest) ≡ drop (distance_of k) o =
    drop-drop 4 4 rest ∙ drop-drop trailer_bytes (entry_bytes * k) o in
    ap (λ (l : List ℕ). with_trailer l k) q
    ∙ ap (λ (l : List ℕ). sets l (entry_bytes * k + 4) (bytes4 (distance_of k)))
    (one ∙ sym (append_assoc (entries_bytes es) (bytes4 k) (drop 4 rest)))
    ∙ two
    ∙ ap (λ (l : List ℕ). (entries_bytes es ++ bytes4 k) ++ (bytes4 (distance_of k) ++ l)) behind
    ∙ append_assoc (entries_bytes es) (bytes4 k) (bytes4 (distance_of k) ++ drop (distance_of k) o)
    ∙ sym (append_assoc (entries_bytes es) (bytes4 k ++ bytes4 (distance_of k)) (drop (distance_of k) o))
    ∙ ap (λ (n : ℕ). (entries_bytes es ++ (bytes4 n ++ bytes4 (distance_of n))) ++ drop (distance_of k) o) (sym e)

-- behind the loop over the entries all are written
pub all_written : (es : List Entry) (o out : List ℕ) (i : ℕ) → length es ≤ i → i ≤ length es
    → out ≡ entries_bytes (take i es) ++ drop (entry_bytes * i) o
    → out ≡ entries_bytes es ++ drop (entry_bytes * length es) o
all_written es o out i h l q =
    let e : i ≡ length es = omega arith in
    q ∙ ap (λ (n : ℕ). entries_bytes (take n es) ++ drop (entry_bytes * n) o) e
    ∙ ap (λ (x : List Entry). entries_bytes x ++ drop (entry_bytes * length es) o)
    (take_all (length es) es (omega arith))

-- the first of the entries that are left
pub left_in : (es : List Entry) (i : ℕ) {e : Entry} → i < length es → e ≡ get_or es i (entry 0 0 0)
    → drop i es ≡ e ∷ drop (i + 1) es
left_in es i h q = rw (q, add-one i) (drop-cons es i (entry 0 0 0) h)
