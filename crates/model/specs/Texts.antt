-- Texts of the supplier's kind, what they are converted into and what is refused (document 02, f), computed.
use Rattle.std.specs.Prelude.{ℕ, zero, suc, ◌≡◌, Bool, List, [], ◌∷◌, ◌++◌}
use Prim.Native.Char.{code}
use Prim.Native.String.{String, [] as no-character, ◌∷◌ as ◌then◌}
use Rattle.columns.specs.Test.{pick}
use Rattle.model.specs.Bounds.{no_parent, missing}
use Rattle.model.specs.Reply.{answered, refused}
use Rattle.model.specs.Encode.{content, encode}
use Rattle.model.specs.Album.{album, one_missing}
use Rattle.model.specs.Damaged.{cut}
use Rattle.model.specs.Forest.{Forest, none, tree, contents_of}
use Rattle.model.specs.Xml.{open_row, open_catalogue, close, row_letter, catalogue_name, less, slash, greater}
use Rattle.model.specs.Xml.{column_letter, equals, is_white, is_quote}
use Rattle.model.specs.Form.{is_digit}
use Rattle.model.specs.Convert.{converted, convert_code, convert_meaning, converted_output}

-- the bytes of a text
abbrev pub spelt : String → List ℕ
spelt no-character = []
spelt (c then s) = code c ∷ spelt s

-- the album's two tables without rows, and its rows as they stand in each other
abbrev pub album_shape : List ℕ
album_shape = encode (content 1 no_parent [] ∷ content 2 0 [] ∷ [])

abbrev pub album_rows : Forest
album_rows =
    tree 0 ((0, 5) ∷ []) (tree 1 ((0, 1) ∷ (1, 7) ∷ []) none none)
    (tree 0 ((0, 5) ∷ []) (tree 1 ((1, 7) ∷ (0, 3) ∷ []) none none)
    (tree 0 [] (tree 1 ((0, 1) ∷ (1, 8) ∷ []) none (tree 1 ((0, 2) ∷ (1, 8) ∷ []) none none)) none))

abbrev pub album_text : List ℕ
album_text =
    spelt "<catalogue>\n <t0 c0='5'><t1 c0='1' c1='7'/></t0>\n <t0 c0=\"5\"><t1 c1=\"7\" c0=\"3\"></t1></t0>\n"
    ++ spelt " <t0><t1 c0='1' c1='8'/> <t1 c0='2' c1='8'/></t0>\n</catalogue>\n"

-- a root with two children, of which the first has a child; rows of all of them in turn
abbrev pub fork_shape : List ℕ
fork_shape = encode (content 0 no_parent [] ∷ content 1 0 [] ∷ content 2 0 [] ∷ content 1 1 [] ∷ [])

abbrev pub fork_rows : Forest
fork_rows =
    tree 0 [] (tree 2 ((1, 4) ∷ []) none (tree 1 ((0, 6) ∷ []) (tree 3 [] none none) none))
    (tree 0 []
    (tree 1 [] none
    (tree 1 ((0, 8) ∷ []) (tree 3 ((0, 9) ∷ []) none (tree 3 ((0, 2) ∷ []) none none)) (tree 2 [] none none))) none)

abbrev pub fork_text : List ℕ
fork_text =
    spelt "<catalogue><t0><t2 c1='4'/><t1 c0='6'><t3/></t1></t0>"
    ++ spelt "<t0><t1/><t1 c0='8'><t3 c0='9'/><t3 c0='2'/></t1><t2/></t0></catalogue>"

abbrev pub fork : List ℕ
fork =
    encode
    (content 0 no_parent ((no_parent, []) ∷ (no_parent, []) ∷ [])
    ∷ content 1 0 ((0, 6 ∷ []) ∷ (1, missing ∷ []) ∷ (1, 8 ∷ []) ∷ [])
    ∷ content 2 0 ((0, missing ∷ 4 ∷ []) ∷ (1, missing ∷ missing ∷ []) ∷ [])
    ∷ content 1 1 ((0, missing ∷ []) ∷ (2, 9 ∷ []) ∷ (2, 2 ∷ []) ∷ [])
    ∷ [])

-- those of n bytes from one on that pass a test
abbrev pub passing : (ℕ → Bool) → ℕ → ℕ → List ℕ
passing test zero x = []
passing test (suc n) x = pick (test x) (x ∷ []) [] ++ passing test n (suc x)

-- a word n times
abbrev pub again : ℕ → List ℕ → List ℕ
again zero w = []
again (suc n) w = w ++ again n w

-- the number that a text gets with the album's shape: as it stands, and between the tags of `catalogue`
abbrev pub Gets : List ℕ → ℕ → Type 0
Gets text n = convert_code album_shape text 200 ≡ n

abbrev pub Text : String → ℕ → Type 0
Text text n = Gets (spelt text) n

abbrev pub Rows : String → ℕ → Type 0
Rows text n = Gets (spelt "<catalogue>" ++ (spelt text ++ spelt "</catalogue>")) n

-- what is converted
pub record Conversions : Type 0 where
  -- the words of the form
  pub words : spelt "<t" ++ (spelt "<catalogue" ++ (spelt "</" ++ spelt "catalogue"))
      ≡ open_row ++ (open_catalogue ++ (close ++ catalogue_name))
  pub letters : spelt "t</>c=" ≡ row_letter ∷ less ∷ slash ∷ greater ∷ column_letter ∷ equals ∷ []
  -- of all bytes: tab, line feed, carriage return and space are white space; the two quotes; the ten digits
  pub white_bytes : passing is_white 256 0 ≡ spelt "\t\n\r "
  pub quote_bytes : passing is_quote 256 0 ≡ spelt "\"'"
  pub digit_bytes : passing is_digit 256 0 ≡ spelt "0123456789"
  -- the rows of a text, as they stand in each other and as they are read
  pub album_stands : encode (contents_of album_shape album_rows) ≡ album
  pub album_read : converted album_shape album_text ≡ album
  pub fork_stands : encode (contents_of fork_shape fork_rows) ≡ fork
  pub fork_read : converted fork_shape fork_text ≡ fork
  pub fork_fits : convert_code fork_shape fork_text 200 ≡ 0
  pub no_rows : converted album_shape (spelt "<catalogue/>") ≡ album_shape
  -- the reply, and the output: written from its start, the rest as it was; a byte less is too short
  pub album_reply : convert_meaning album_shape album_text 84 ≡ answered (84 ∷ [])
  pub album_longer : convert_meaning album_shape album_text 85 ≡ answered (84 ∷ [])
  pub album_short : convert_meaning album_shape album_text 83 ≡ refused 22
  pub written : converted_output album_shape (spelt "<catalogue/>") (again 28 (7 ∷ [])) ≡ album_shape ++ (7 ∷ 7 ∷ [])
  pub untouched : converted_output album_shape (spelt "<catalogue/>") (again 25 (7 ∷ [])) ≡ again 25 (7 ∷ [])
  -- the order: the shape first, then 20, 21 and 22, each over the whole text
  pub shape_first : convert_code cut (spelt "5") 0 ≡ 1
  pub text_before_rows : convert_code album (spelt "<catalogue/>5") 0 ≡ 20
  pub shape_with_rows : convert_code album (spelt "<catalogue/>") 0 ≡ 21
  pub shape_with_aRoot_row : convert_code one_missing (spelt "<catalogue/>") 100 ≡ 21
  pub unfit_before_room : convert_code album_shape (spelt "<catalogue><t2/></catalogue>") 0 ≡ 21
  pub no_room : convert_code album_shape (spelt "<catalogue><t0/></catalogue>") 0 ≡ 22
  -- 16 rows in each other are of the form, 17 are not
  pub deepest : Gets (open_catalogue ++ (62 ∷ (again 16 (spelt "<t0>") ++ (again 16 (spelt "</t0>")
      ++ spelt "</catalogue>")))) 21
  pub too_deep : Gets (open_catalogue ++ (62 ∷ (again 17 (spelt "<t0>") ++ (again 17 (spelt "</t0>")
      ++ spelt "</catalogue>")))) 20
  pub empty_too_deep : Gets (open_catalogue ++ (62 ∷ (again 16 (spelt "<t0>") ++ (spelt "<t0/>"
      ++ (again 16 (spelt "</t0>") ++ spelt "</catalogue>"))))) 20
  -- a byte order mark
  pub byte_order_mark : Gets (239 ∷ 187 ∷ 191 ∷ spelt "<catalogue/>") 20

-- each fine point of the form
pub record FinePoints : Type 0 where
  -- white space: before and after, inside tags behind the name, around `=`, before `>` and `/>`, between elements
  pub white_outside : Text " \t\r\n<catalogue \t\r\n>\n</catalogue\t\r >\n\t " 0
  pub white_empty : Text "<catalogue\n/>" 0
  pub white_in_tags : Rows " <t0 \t\r\n c0 \n=\t'5' >\r\n</t0 \n> <t0 /> " 0
  pub no_white : Rows "<t0 c0='5'><t1/></t0>" 0
  -- and nowhere else: not behind `<`, `</` or `/`, not inside names or values
  pub behind_less : Rows "< t0/>" 20
  pub behind_close : Rows "<t0></ t0>" 20
  pub behind_slash : Rows "<t0/ >" 20
  pub in_the_name : Rows "<t 0/>" 20
  pub in_the_column : Rows "<t0 c 0='5'/>" 20
  pub before_the_value : Rows "<t0 c0=' 5'/>" 20
  pub behind_the_value : Rows "<t0 c0='5 '/>" 20
  pub form_feed : Rows "<t0\u{c}/>" 20
  pub vertical_tab : Rows "<t0\u{b}/>" 20
  pub zero_byte : Rows "<t0\0/>" 20
  pub no_break_space : Rows "<t0\u{a0}/>" 20
  -- some is required before each attribute
  pub none_before : Rows "<t0c0='5'/>" 20
  pub none_between : Rows "<t0><t1 c0='1'c1='7'/></t0>" 20
  -- either quote, the same behind as before
  pub double_quotes : Rows "<t0 c0=\"5\"/>" 0
  pub mixed_quotes : Rows "<t0 c0='5\"/>" 20
  pub backtick : Rows "<t0 c0=`5`/>" 20
  pub no_quotes : Rows "<t0 c0=5 />" 20
  -- both ways of an empty element; end tags that match
  pub short_empty : Rows "<t0/>" 0
  pub long_empty : Rows "<t0></t0>" 0
  pub other_end : Rows "<t0></t1>" 20
  pub longer_end : Rows "<t0></t00>" 20
  pub no_end : Rows "<t0>" 20
  pub end_alone : Rows "<t0/></t0>" 20
  pub end_cut : Text "<catalogue></catalogue" 20
  pub end_with_attribute : Rows "<t0></t0 c0='5'>" 20
  -- names: `t` and a number without leading zeros
  pub leading_zero : Rows "<t00/>" 20
  pub leading_zero_one : Rows "<t01/>" 20
  pub upper_case : Rows "<T0/>" 20
  pub no_number : Rows "<t/>" 20
  pub negative : Rows "<t-1/>" 20
  pub signed : Rows "<t+1/>" 20
  pub other_name : Rows "<row/>" 20
  pub other_root : Text "<catalog></catalog>" 20
  pub longer_root : Text "<catalogues/>" 20
  -- attributes: `c` and a number, a decimal value below 4,294,967,295
  pub zero : Rows "<t0 c0='0'/>" 0
  pub largest : Rows "<t0 c0='4294967294'/>" 0
  pub too_large : Rows "<t0 c0='4294967295'/>" 20
  pub far_too_large : Rows "<t0 c0='18446744073709551617'/>" 20
  pub no_digits : Rows "<t0 c0=''/>" 20
  pub two_zeros : Rows "<t0 c0='00'/>" 20
  pub zero_before : Rows "<t0 c0='05'/>" 20
  pub colon_for_aDigit : Rows "<t0 c0=':'/>" 20
  pub slash_for_aDigit : Rows "<t0 c0='/'/>" 20
  pub signed_value : Rows "<t0 c0='+5'/>" 20
  pub no_value : Rows "<t0 c0/>" 20
  pub column_zero : Rows "<t0 c00='5'/>" 20
  pub other_attribute : Rows "<t0 d0='5'/>" 20
  -- in any order, none twice, none on `catalogue`
  pub any_order : Rows "<t0><t1 c1='7' c0='1'/></t0>" 0
  pub twice : Rows "<t0 c0='5' c0='5'/>" 20
  pub twice_apart : Rows "<t0><t1 c0='1' c1='7' c0=\"1\"/></t0>" 20
  pub twice_at_the_end : Rows "<t0><t1 c0='1' c1='7' c1='7'/></t0>" 20
  pub twice_too_large : Rows "<t0 c99999999999999999999='1' c99999999999999999999='2'/>" 20
  pub on_catalogue : Text "<catalogue c0='5'/>" 20
  -- other text, comments, entities, prologs, declarations, namespaces, a byte order mark, a second root
  pub other_text : Rows "<t0>5</t0>" 20
  pub text_behind : Text "<catalogue/>5" 20
  pub comment : Rows "<!-- -->" 20
  pub entity : Rows "&#32;" 20
  pub entity_in_value : Rows "<t0 c0='&#53;'/>" 20
  pub character_data : Rows "<![CDATA[]]>" 20
  pub prolog : Text "<?xml version='1.0'?><catalogue/>" 20
  pub declaration : Text "<!DOCTYPE catalogue><catalogue/>" 20
  pub prefix : Text "<x:catalogue/>" 20
  pub namespace : Text "<catalogue xmlns='x'/>" 20
  pub second_root : Text "<catalogue/><catalogue/>" 20
  pub nothing : Text "" 20
  pub white_alone : Text " \n" 20
  pub row_alone : Text "<t0/>" 20
  -- 21: a table or a column that the shape does not have, however long the numeral; a row that stands elsewhere
  pub unknown_table : Rows "<t2/>" 21
  pub too_large_table : Rows "<t18446744073709551616/>" 21
  pub unknown_column : Rows "<t0 c1='5'/>" 21
  pub second_column_unknown : Rows "<t0><t1 c0='1' c2='7'/></t0>" 21
  pub too_large_column : Rows "<t0 c4294967296='5'/>" 21
  pub different_too_large : Rows "<t0 c4294967295='1' c4294967296='2'/>" 21
  pub child_at_the_root : Rows "<t1/>" 21
  pub root_in_the_root : Rows "<t0><t0/></t0>" 21
  pub child_in_the_child : Rows "<t0><t1><t1/></t1></t0>" 21
  -- 20 over the whole text before 21
  pub unfit_then_bad : Rows "<t2/>5" 20
  pub unfit_then_twice : Rows "<t0 c1='5'/><t0 c0='5' c0='5'/>" 20
