use Rattle.std.proofs.Common.{[], None, refl}
use Rattle.direction_reader.proofs.firm_reader.FirmReader.new.Goals as goal

-- no interval, no stretch and no event
pub returns-clause-stands : goal.returns-clause-stands
returns-clause-stands c =
    let is = c.new.ensures.value in
    record {
      events = [];
      reader = record {
        count = rw is refl;
        sum_is = rw is refl;
        earlier = [];
        open_yet = None;
        tracker = c.new.ensures.searches;
        inside = tt;
        past = [];
        latest = [];
        past_are = refl;
        latest_are = refl;
        all = refl;
      };
      past = [];
      latest = [];
      past_are = refl;
      latest_are = (c.new-2.ensures, refl, refl);
      all = refl;
    }
