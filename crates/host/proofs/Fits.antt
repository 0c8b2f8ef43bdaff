-- The values of answers fit a signed number, as no slice is longer: `pack` writes at most the output's bytes, and
-- `read`
-- reads at most as many entries as the run has records.
use mathlib.Core.Path.{◌≡◌, sym, subst}
use Prim.Native.Nat.{ℕ, ◌≤◌, ◌<◌, ◌^◌}
use native.Mathlib.Omega.{arith}
use mathlib.Core.List.{List}
use lib.ListN.{length, length-take, drop as dropped}
use Rattle.model.specs.Reply.{Reply}
use Rattle.model.specs.Packing.{distance_of, output_code, pack_code, pack_meaning}
use Rattle.model.specs.Entries.{entries_code}
use Rattle.model.specs.Reading.{read_code, entries_read, read_from, read_meaning}
use Rattle.model.specs.declared.Entry.{Entry}
use Rattle.model.proofs.Grounds.{or_else_right, if_lt_fails}
use Rattle.numbers.specs.Number.{value_or}
use Rattle.numbers.proofs.Numbers.{reply_fits}

written_within : (es : List Entry) (room : ℕ) → pack_code es room ≡ 0 → distance_of (length es) ≤ room
unfolding pack_code output_code
written_within es room e =
    if_lt_fails room (distance_of (length es)) _ _ (omega arith) (or_else_right (entries_code es) _ e)

pack_meaning_fits : (es : List Entry) (room : ℕ) → room < 2 ^ 63 → value_or 0 0 (pack_meaning es room) < 2 ^ 63
unfolding pack_meaning
pack_meaning_fits es room l =
    reply_fits (pack_code es room) (distance_of (length es)) (λ z. omega (arith, written_within es room z))

read_within : (file : List ℕ) (from room : ℕ) → length (read_from file from room) ≤ room
unfolding read_from
read_within file from room = omega (arith, length-take room (dropped from (entries_read file)))

read_meaning_fits : (file : List ℕ) (from room : ℕ) → room < 2 ^ 63 → value_or 0 0 (read_meaning file from room) < 2 ^ 63
unfolding read_meaning
read_meaning_fits file from room l =
    reply_fits (read_code file) (length (read_from file from room)) (λ z. omega (arith, read_within file from room))

pub pack_fits : (es : List Entry) (room : ℕ) (r : Reply) → room < 2 ^ 63 → r ≡ pack_meaning es room
    → value_or 0 0 r < 2 ^ 63
pack_fits es room r l e = subst (λ (s : Reply). value_or 0 0 s < 2 ^ 63) (sym e) (pack_meaning_fits es room l)

pub read_fits : (file : List ℕ) (from room : ℕ) (r : Reply) → room < 2 ^ 63 → r ≡ read_meaning file from room
    → value_or 0 0 r < 2 ^ 63
read_fits file from room r l e =
    subst (λ (s : Reply). value_or 0 0 s < 2 ^ 63) (sym e) (read_meaning_fits file from room l)
