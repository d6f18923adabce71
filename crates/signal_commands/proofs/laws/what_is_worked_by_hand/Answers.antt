use Rattle.std.proofs.Common.{refl}
use Rattle.std.specs.Fmt.{digits}
use Rattle.signal_commands.proofs.laws.what_is_worked_by_hand.Goals as goal

-- by computing
pub returns-clause-events : goal.returns-clause-events
unfolding digits
returns-clause-events c = refl

pub returns-clause-fields : goal.returns-clause-fields
unfolding digits
returns-clause-fields c = λ word other fault. refl

pub returns-clause-numbers : goal.returns-clause-numbers
unfolding digits
returns-clause-numbers c = refl

pub returns-clause-headers : goal.returns-clause-headers
returns-clause-headers c = record { samples = refl; path = refl; track = refl; pixels = refl }

pub returns-clause-slicing : goal.returns-clause-slicing
returns-clause-slicing c = record {
  samples = refl;
  track = refl;
  ended = refl;
  passing = refl;
  passing_track = refl;
  asked = refl;
  asked_for_path = refl;
}

pub returns-clause-ends : goal.returns-clause-ends
returns-clause-ends c =
    record { half_a_sample = refl; whole_samples = refl; half_a_field = refl; whole_fields = refl }
