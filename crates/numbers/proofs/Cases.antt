-- The cases, by computation.
use mathlib.Core.Path.{refl}
use Rattle.numbers.specs.Cases.{NumberCases}

pub number_cases : NumberCases
number_cases =
    record {
      sound = refl;
      not_sound = refl;
      holds = refl;
      breaks = refl;
      not_asked = refl;
      pair = refl;
      none = refl;
      no_pair = refl;
      first = refl;
      second = refl;
      kept_first = refl;
      kept_second = refl;
      kept = refl;
      accepted = refl;
      no_value = refl;
      not_accepted = refl;
      listed = refl;
      not_listed = refl;
    }
