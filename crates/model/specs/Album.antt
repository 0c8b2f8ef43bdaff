-- The album catalogue of document 01, the small catalogues of its cases K6 to K9, one for the first breaking pair, two
-- for left sides that are not backed, two for keys and what they give, and one for lists with evidence, as bytes.
use Rattle.std.specs.Prelude.{ℕ, List, [], ◌∷◌, ◌++◌}
use Rattle.model.specs.Bounds.{no_parent, missing}
use Rattle.model.specs.Encode.{content, encode}

-- table 0 has one column and the rows 5, 5, missing; table 1 has parent 0, two columns and four rows. 84 bytes
unfoldable pub album : List ℕ
album =
    encode
    (content 1 no_parent ((no_parent, 5 ∷ []) ∷ (no_parent, 5 ∷ []) ∷ (no_parent, missing ∷ []) ∷ [])
    ∷ content 2 0 ((0, 1 ∷ 7 ∷ []) ∷ (1, 3 ∷ 7 ∷ []) ∷ (2, 1 ∷ 8 ∷ []) ∷ (2, 2 ∷ 8 ∷ []) ∷ [])
    ∷ [])

-- what the listing program prints for it: `tables 2 sets 10 entries 3`, `1 1 2`, `1 3 row` and `1 6 row`, each with a
-- line feed
abbrev pub album_lines : List ℕ
album_lines =
    (116 ∷ 97 ∷ 98 ∷ 108 ∷ 101 ∷ 115 ∷ 32 ∷ 50 ∷ 32 ∷ 115 ∷ 101 ∷ 116 ∷ 115 ∷ 32 ∷ 49 ∷ 48 ∷ 32 ∷ 101 ∷ 110 ∷ 116 ∷ 114
    ∷ 105 ∷ 101 ∷ 115 ∷ 32 ∷ 51 ∷ 10 ∷ [])
    ++ (49 ∷ 32 ∷ 49 ∷ 32 ∷ 50 ∷ 10 ∷ [])
    ++ (49 ∷ 32 ∷ 51 ∷ 32 ∷ 114 ∷ 111 ∷ 119 ∷ 10 ∷ [])
    ++ (49 ∷ 32 ∷ 54 ∷ 32 ∷ 114 ∷ 111 ∷ 119 ∷ 10 ∷ [])

-- K6: one column and no rows
unfoldable pub no_rows : List ℕ
no_rows = encode (content 1 no_parent [] ∷ [])

-- K7: one column and one row, whose cell is missing
unfoldable pub one_missing : List ℕ
one_missing = encode (content 1 no_parent ((no_parent, missing ∷ []) ∷ []) ∷ [])

-- K8: one column and two rows, both cells missing
unfoldable pub both_missing : List ℕ
both_missing = encode (content 1 no_parent ((no_parent, missing ∷ []) ∷ (no_parent, missing ∷ []) ∷ []) ∷ [])

-- K9: a root with one row, and under it a table with two equal rows; all cells are present
unfoldable pub equal_rows : List ℕ
equal_rows =
    encode
    (content 1 no_parent ((no_parent, 5 ∷ []) ∷ [])
    ∷ content 1 0 ((0, 7 ∷ []) ∷ (0, 7 ∷ []) ∷ [])
    ∷ [])

-- a root with one row, and under it a table with two rows: the empty set is a key of the root, {1} one below it
unfoldable pub key_below : List ℕ
key_below =
    encode
    (content 1 no_parent ((no_parent, 5 ∷ []) ∷ [])
    ∷ content 1 0 ((0, 7 ∷ []) ∷ (0, 8 ∷ []) ∷ [])
    ∷ [])

-- two columns and four rows, of which none has both cells: {0} and {1} are backed, {0, 1} is not
unfoldable pub parted : List ℕ
parted =
    encode
    (content 2 no_parent
    ((no_parent, 1 ∷ missing ∷ []) ∷ (no_parent, 1 ∷ missing ∷ []) ∷ (no_parent, missing ∷ 1 ∷ [])
    ∷ (no_parent, missing ∷ 1 ∷ []) ∷ [])
    ∷ [])

-- a root with one row, whose cell is missing, and under it a table with two equal rows
unfoldable pub lost_above : List ℕ
lost_above =
    encode
    (content 1 no_parent ((no_parent, missing ∷ []) ∷ [])
    ∷ content 1 0 ((0, 7 ∷ []) ∷ (0, 7 ∷ []) ∷ [])
    ∷ [])

-- three columns and three rows: {0} is a key, and so is {1, 2}; {1} and {2} give nothing
unfoldable pub two_keys : List ℕ
two_keys =
    encode
    (content 3 no_parent
    ((no_parent, 1 ∷ 1 ∷ 1 ∷ []) ∷ (no_parent, 2 ∷ 1 ∷ 2 ∷ []) ∷ (no_parent, 3 ∷ 2 ∷ 1 ∷ []) ∷ [])
    ∷ [])

-- two columns and two equal rows: the empty set gives both columns, and there is no key
unfoldable pub twins : List ℕ
twins = encode (content 2 no_parent ((no_parent, 1 ∷ 2 ∷ []) ∷ (no_parent, 1 ∷ 2 ∷ []) ∷ []) ∷ [])

-- two columns and six rows: {0} does not give 1 among the rows 0, 4 and 5, nor among the rows 1 and 2
unfoldable pub two_groups : List ℕ
two_groups =
    encode
    (content 2 no_parent
    ((no_parent, 1 ∷ 1 ∷ []) ∷ (no_parent, 2 ∷ 1 ∷ []) ∷ (no_parent, 2 ∷ 2 ∷ []) ∷ (no_parent, 3 ∷ 1 ∷ [])
    ∷ (no_parent, 1 ∷ 2 ∷ []) ∷ (no_parent, 1 ∷ 3 ∷ []) ∷ [])
    ∷ [])
