use Rattle.std.proofs.Common.{[], None, refl}
use Rattle.direction_reader.proofs.reader.DirectionReader.new.Goals as goal

-- no interval, no stretch and no event
pub returns-clause-stands : goal.returns-clause-stands
returns-clause-stands c = record {
  count = refl;
  sum_is = refl;
  earlier = [];
  open_yet = None;
  tracker = c.new.ensures.stands;
  inside = tt;
  past = [];
  latest = [];
  past_are = refl;
  latest_are = refl;
  all = refl;
}
