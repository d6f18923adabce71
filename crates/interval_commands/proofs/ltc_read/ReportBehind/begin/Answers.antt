use Rattle.std.proofs.Common.{[], refl, ap, subst, ◌≡◌}
use Rattle.biphase.specs.declared.profile.Profile.{Profile}
use Rattle.tc_address.specs.declared.system.System.{System}
use Rattle.direction_reader.specs.ListEvents.{AreEvents}
use Rattle.direction_reader.specs.Reader.{ReaderState}
use Rattle.direction_reader.specs.Tracker.{profile_of}
use Rattle.interval_commands.proofs.ltc_read.ReportBehind.begin.Goals as goal

-- nothing was printed, and there is no event yet
pub returns-clause-begins : goal.returns-clause-begins
returns-clause-begins g c =
    let reader = c.new.result in
    let system : reader.system ≡ c.args.header.system = ap (λ (r : ReaderState). r.system) c.new.ensures.value in
    let keeps : profile_of reader.tracker ≡ c.args.profile = ap (λ (r : ReaderState). profile_of r.tracker)
    c.new.ensures.value in
    let law = c.a_reader_gives_the_events_of_its_list.ensures reader [] [] c.new.ensures.stands in (
      [],
      g.O.Output.given_none c.args._out.now,
      record {
        says = refl;
        system = system;
        keeps = keeps;
        events = [];
        reader = c.new.ensures.stands;
        are_events = subst (λ (p : Profile). AreEvents c.args.header.system p [] []) keeps
            (subst (λ (y : System). AreEvents y (profile_of reader.tracker) [] []) system law);
        are = refl;
        words = refl;
        refused = refl;
        lost = refl;
      },
    )
