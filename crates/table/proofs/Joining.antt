-- Joining columns in place: where the left side with column k stands in a block, what a block of a column and columns
-- one after the other leave, and that columns so joined are closed over.
use Prim.Native.Nat.{ℕ, zero, suc, ◌+◌, ◌-◌, ◌*◌, ◌%◌, ◌^◌, ◌≤◌, ◌<◌}
use mathlib.Core.Path.{◌≡◌, refl, sym, ap, ap₂, ◌∙◌, subst}
use mathlib.Core.List.{List}
use native.Mathlib.Decide.{dec_lt}
use native.Mathlib.Nat.{two-pow-succ}
use native.Mathlib.Omega.{arith}
use lib.Bits.{bit_or, or_zero_r, or_self, or_lt, or_block, or_shifted_r}
use lib.ListN.{length}
use lib.Pow.{pow-lt}
use lib.Seq.{ext_get_or}
use Rattle.table.specs.Words.{word, with_column, with_columns, BlockJoined, ColumnJoined}
use Rattle.table.specs.Words.{ColumnsJoined}
use Rattle.table.proofs.Bits.{or_ge_left, with_below}
use Rattle.table.proofs.Closing.{ClosedBelow, close_begun, close_more}
use Rattle.filled.specs.Filled.{Filled}
use Rattle.filled.proofs.Filled.{filled_then}
use Rattle.table.proofs.Replacing.{filled_some, or_in_block}
use Rattle.table.proofs.Replacing.{Replacing, replacing_more}

-- column k is 2 ^ k further on in the first half, and is there in the second
first_half : (k a y : ℕ) → a % 2 ^ suc k ≡ 0 → a ≤ y → y < a + 2 ^ k → bit_or y (2 ^ k) ≡ y + 2 ^ k
first_half k a y e l h =
    let p = two-pow-succ k in
    let o = or_in_block (suc k) a (2 ^ k) y e (omega arith) l (omega arith) in
    let s = or_shifted_r 1 k (y - a) (omega arith) in
    let i : bit_or (y - a) (2 ^ k) ≡ bit_or (y - a) (1 * 2 ^ k) = ap (bit_or (y - a)) (omega arith) in
    omega arith

second_half : (k a y : ℕ) → a % 2 ^ suc k ≡ 0 → a + 2 ^ k ≤ y → y < a + 2 ^ k + 2 ^ k → bit_or y (2 ^ k) ≡ y
second_half k a y e l h =
    let p = two-pow-succ k in
    let d = y - a - 2 ^ k in
    let o = or_in_block (suc k) a (2 ^ k) y e (omega arith) (omega arith) (omega arith) in
    let s : bit_or (1 * 2 ^ k + d) (1 * 2 ^ k + 0) ≡ 1 * 2 ^ k + bit_or d 0 =
    or_block k 1 1 d 0 (omega arith) (omega arith) in
    let f : y - a ≡ 1 * 2 ^ k + d = omega arith in
    let g : 2 ^ k ≡ 1 * 2 ^ k + 0 = omega arith in
    let i : bit_or (y - a) (2 ^ k) ≡ bit_or (1 * 2 ^ k + d) (1 * 2 ^ k + 0) = ap₂ bit_or f g in
    omega (arith, or_zero_r d)

-- a block of a column joined: its second half has what it had
pub block_joined : (k a b column : ℕ) (before after : List ℕ) → column ≡ 2 ^ k → a % 2 ^ suc k ≡ 0
    → b ≡ a + column + column → BlockJoined a column before after
    → Filled a b (with_column k (word before)) before after
block_joined k a b column before after c e i r =
    record {
      same_length = r.same_length;
      inside = λ y l h. at y l h (dec_lt y (a + column));
      below = r.below;
      past = λ y l. r.past y (omega arith);
    }
  where
    at : (y : ℕ) → a ≤ y → y < b → Dec (y < a + column) → word after y ≡ with_column k (word before) y
    at y l h (yes f) =
        let j : y + column ≡ bit_or y (2 ^ k) = omega (arith, first_half k a y e l (omega arith)) in
        r.inside y l f ∙ ap (λ (z : ℕ). bit_or (word before y) (word before z)) j
    at y l h (no f) =
        let j = second_half k a y e (omega arith) (omega arith) in
        r.past y (omega arith) ∙ sym (or_self (word before y))
        ∙ ap (λ (z : ℕ). bit_or (word before y) (word before z)) (sym j)

-- from b on, the words with a column, or with columns, are told by the words from b on
column_same : (k b : ℕ) (f g : ℕ → ℕ) → ((y : ℕ) → b ≤ y → f y ≡ g y)
    → (y : ℕ) → b ≤ y → with_column k f y ≡ with_column k g y
column_same k b f g same y l = ap₂ bit_or (same y l) (same (bit_or y (2 ^ k)) (omega (arith, or_ge_left y (2 ^ k))))

columns_same : (k b : ℕ) (f g : ℕ → ℕ) → ((y : ℕ) → b ≤ y → f y ≡ g y)
    → (y : ℕ) → b ≤ y → with_columns k f y ≡ with_columns k g y
unfolding with_columns
columns_same zero b f g same = same
columns_same (suc k) b f g same = column_same k b (with_columns k f) (with_columns k g) (columns_same k b f g same)

-- a column is joined in one part, and then in the next
pub parts_joined : (k a b c : ℕ) (before mid after : List ℕ) → a ≤ b → b ≤ c
    → Filled a b (with_column k (word before)) before mid → Filled b c (with_column k (word mid)) mid after
    → Filled a c (with_column k (word before)) before after
parts_joined k a b c before mid after l m r t =
    filled_then a b c (with_column k (word before)) (with_column k (word mid)) before mid after l m r t
    (λ y i j. column_same k b (word mid) (word before) r.past y i)

-- one column more is joined, in a part that has its left sides with this column
pub columns_more : (k a b : ℕ) (before mid after : List ℕ) → ((y : ℕ) → a ≤ y → y < b → bit_or y (2 ^ k) < b)
    → ColumnsJoined a b k before mid → Filled a b (with_column k (word mid)) mid after
    → ColumnsJoined a b (suc k) before after
unfolding with_columns
columns_more k a b before mid after within r t =
    record {
      same_length = t.same_length ∙ r.same_length;
      inside = λ y l h.
          t.inside y l h ∙ ap₂ bit_or (r.inside y l h)
          (r.inside (bit_or y (2 ^ k)) (omega (arith, or_ge_left y (2 ^ k))) (within y l h));
      below = λ y l. t.below y l ∙ r.below y l;
      past = λ y l. t.past y l ∙ r.past y l;
    }

-- the pass of a column, and that of the three lowest columns
pub column_pass : (n k end column start : ℕ) (before mid after : List ℕ) → column ≡ 2 ^ k → start < end
    → Replacing n (suc k) end start (with_column k (word before)) before mid → BlockJoined start column mid after
    → Replacing n (suc k) end (start + 2 * column) (with_column k (word before)) before after
column_pass n k end column start before mid after c h p b =
    replacing_more n (suc k) end start (start + 2 * column) (with_column k (word before)) (with_column k (word mid))
    before mid after h (omega (arith, two-pow-succ k)) p
    (block_joined k start (start + 2 * column) column mid after c p.aligned (omega arith) b)
    (column_same k start (word mid) (word before) p.words.past)

pub columns_pass : (n m end start : ℕ) (before mid after : List ℕ) → start < end
    → Replacing n m end start (with_columns m (word before)) before mid
    → ColumnsJoined start (start + 2 ^ m) m mid after
    → Replacing n m end (start + 2 ^ m) (with_columns m (word before)) before after
columns_pass n m end start before mid after h p r =
    replacing_more n m end start (start + 2 ^ m) (with_columns m (word before)) (with_columns m (word mid))
    before mid after h refl p r (columns_same m start (word mid) (word before) p.words.past)

pub column_joined : (n k : ℕ) (before after : List ℕ) → Filled 0 (2 ^ n) (with_column k (word before)) before after
    → ColumnJoined n k before after
column_joined n k before after r =
    record {
      same_length = r.same_length;
      joined = λ y b. r.inside y (omega arith) b;
      past = r.past;
    }

-- no column joined
pub columns_none : (a b : ℕ) (ws : List ℕ) → ColumnsJoined a b 0 ws ws
unfolding with_columns
columns_none a b ws =
    record { same_length = refl; inside = λ y l h. refl; below = λ y l. refl; past = λ y l. refl }

-- eight words joined by blocks: four of column 0, two of column 1 and one of column 2
pub eight_joined : (a : ℕ) (w0 w1 w2 w3 w4 w5 w6 w7 : List ℕ) → a % 8 ≡ 0
    → BlockJoined a 1 w0 w1 → BlockJoined (a + 2) 1 w1 w2 → BlockJoined (a + 4) 1 w2 w3 → BlockJoined (a + 6) 1 w3 w4
    → BlockJoined a 2 w4 w5 → BlockJoined (a + 4) 2 w5 w6 → BlockJoined a 4 w6 w7
    → ColumnsJoined a (a + 8) 3 w0 w7
eight_joined a w0 w1 w2 w3 w4 w5 w6 w7 e b0 b1 b2 b3 b4 b5 b6 =
    let c0 = block_joined 0 a (a + 2) 1 w0 w1 refl (omega arith) (omega arith) b0 in
    let c1 = block_joined 0 (a + 2) (a + 4) 1 w1 w2 refl (omega arith) (omega arith) b1 in
    let c2 = block_joined 0 (a + 4) (a + 6) 1 w2 w3 refl (omega arith) (omega arith) b2 in
    let c3 = block_joined 0 (a + 6) (a + 8) 1 w3 w4 refl (omega arith) (omega arith) b3 in
    let c4 = block_joined 1 a (a + 4) 2 w4 w5 refl (omega arith) (omega arith) b4 in
    let c5 = block_joined 1 (a + 4) (a + 8) 2 w5 w6 refl (omega arith) (omega arith) b5 in
    let c6 = block_joined 2 a (a + 8) 4 w6 w7 refl (omega arith) (omega arith) b6 in
    let low = parts_joined 0 a (a + 4) (a + 6) w0 w2 w3 (omega arith) (omega arith)
    (parts_joined 0 a (a + 2) (a + 4) w0 w1 w2 (omega arith) (omega arith) c0 c1) c2 in
    let one = columns_more 0 a (a + 8) w0 w0 w4 (within 0 (omega arith)) (columns_none a (a + 8) w0)
    (parts_joined 0 a (a + 6) (a + 8) w0 w3 w4 (omega arith) (omega arith) low c3) in
    let two = columns_more 1 a (a + 8) w0 w4 w6 (within 1 (omega arith)) one
    (parts_joined 1 a (a + 4) (a + 8) w4 w5 w6 (omega arith) (omega arith) c4 c5) in
    columns_more 2 a (a + 8) w0 w6 w7 (within 2 (omega arith)) two c6
  where
    within : (k : ℕ) → k < 3 → (y : ℕ) → a ≤ y → y < a + 8 → bit_or y (2 ^ k) < a + 8
    within k l y g h =
        omega (arith, or_in_block 3 a (2 ^ k) y e (pow-lt l) g h, or_lt 3 (y - a) (2 ^ k) (omega arith) (pow-lt l))

-- the first k columns joined one after the other are closed over
pub columns_closed : (n k : ℕ) (before after : List ℕ) → k ≤ n → 2 ^ n ≤ length before
    → ColumnsJoined 0 (2 ^ n) k before after → ClosedBelow n k before after
unfolding with_columns
columns_closed n zero before after h l r =
    subst (λ (ws : List ℕ). ClosedBelow n 0 before ws)
    (ext_get_or 0 before after (sym r.same_length) (λ y b. sym (at y (dec_lt y (2 ^ n)))))
    (close_begun n before)
  where
    at : (y : ℕ) → Dec (y < 2 ^ n) → word after y ≡ word before y
    at y (yes b) = r.inside y (omega arith) b
    at y (no b) = r.past y (omega arith)
columns_closed n (suc k) before after h l r =
    let some = filled_some (2 ^ n) (with_columns k (word before)) before l in
    let mid = some.0 in
    let m = some.1 in
    close_more n k before mid after (omega arith) (columns_closed n k before mid (omega arith) l m)
    (record {
      same_length = r.same_length ∙ sym m.same_length;
      joined = λ y b.
          r.inside y (omega arith) b
          ∙ sym (ap₂ bit_or (m.inside y (omega arith) b)
          (m.inside (bit_or y (2 ^ k)) (omega arith) (with_below n y k b (omega arith))));
      past = λ y b. r.past y b ∙ sym (m.past y b);
    })
