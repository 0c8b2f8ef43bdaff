-- What is true of the catalogues of several tables, by computation on the bytes.
use mathlib.Core.Path.{◌≡◌, refl}
use mathlib.Core.Bool.{true, false}
use Rattle.model.specs.Bounds.{row}
use Rattle.model.specs.View.{Breaks, holds}
use Rattle.model.specs.Target.{view}
use Rattle.model.specs.Line.{in_line, Line, Fork, Depth}
use Rattle.model.proofs.Computes.{computes}
use Rattle.model.proofs.View.{holds_true, holds_false, breaks_is}

-- the tests on the tables in a line, and the pairs of rows that break
three_up_gives : holds (view in_line 3) 1 3 ≡ true
unfolding computes
three_up_gives = refl

three_up_not : holds (view in_line 3) 1 4 ≡ false
unfolding computes
three_up_not = refl

three_up_breaks : Breaks (view in_line 3) 1 4 1 2
unfolding computes
three_up_breaks = (breaks_is (view in_line 3) 1 4 1 2).0 tt

two_up_not : holds (view in_line 3) 2 3 ≡ false
unfolding computes
two_up_not = refl

two_up_breaks : Breaks (view in_line 3) 2 3 0 1
unfolding computes
two_up_breaks = (breaks_is (view in_line 3) 2 3 0 1).0 tt

two_up_gives : holds (view in_line 3) 6 3 ≡ true
unfolding computes
two_up_gives = refl

key_is : holds (view in_line 3) 17 row ≡ true
unfolding computes
key_is = refl

key_not : holds (view in_line 3) 18 row ≡ false
unfolding computes
key_not = refl

key_breaks : Breaks (view in_line 3) 18 row 0 1
unfolding computes
key_breaks = (breaks_is (view in_line 3) 18 row 0 1).0 tt

pub line : Line
unfolding computes
line =
    record {
      accepted = refl;
      check = refl;
      visibles = refl;
      inheriteds = refl;
      owners = refl;
      owners_above = refl;
      rights = refl;
      rights_above = refl;
      one_up = refl;
      two_up = refl;
      three_up = refl;
      itself = refl;
      same_missing = refl;
      other_missing = refl;
      equal_above = refl;
      unequal_above = refl;
      equal_parents = refl;
      same_parent = refl;
      other_parents = refl;
      equal_own = refl;
      unequal_own = refl;
      gives = holds_true (view in_line 3) 1 3 three_up_gives;
      breaks = (holds_false (view in_line 3) 1 4 three_up_not, three_up_breaks);
      breaks_above = (holds_false (view in_line 3) 2 3 two_up_not, two_up_breaks);
      gives_above = holds_true (view in_line 3) 6 3 two_up_gives;
      key = holds_true (view in_line 3) 17 row key_is;
      no_key = (holds_false (view in_line 3) 18 row key_not, key_breaks);
      present0 = refl;
      present1 = refl;
      present2 = refl;
      listing = refl;
    }

pub fork : Fork
unfolding computes
fork =
    record {
      accepted = refl;
      check = refl;
      visibles = refl;
      owners_in2 = refl;
      owners_in3 = refl;
      root_rows_of2 = refl;
      root_rows_of3 = refl;
      first_above = refl;
      second_above = refl;
      listing = refl;
    }

pub depth : Depth
unfolding computes
depth = record { accepted = refl; check = refl; visibles = refl; owners = refl; root_row = refl }
