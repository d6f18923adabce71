use Rattle.std.proofs.Common.{[], ◌∙◌, ap, subst, sym, refl, ℕ}
use Rattle.biphase.specs.declared.profile.Profile.{Profile}
use Rattle.flywheel.specs.StandsFor as flies
use Rattle.tc_address.specs.declared.system.System.{System}
use Rattle.tc_job.specs.declared.flight.Flight.{Flight}
use Rattle.frame_commands.specs.Heard.{AreHeardYet}
use Rattle.frame_commands.proofs.flight.FlightToBehind.begin.Goals as goal

-- what comes first was written, and there is no frame yet
pub returns-clause-begins : goal.returns-clause-begins
returns-clause-begins g c =
    let reader = c.start-reader.result in
    let h = g.R.Hearing.hearer reader in
    let witness = g.R.Hearing.witness in
    let e = c.start-reader.ensures in
    let fr = c.new-frames.ensures in
    let same = c.flight-flight.ensures in
    let law = c.what_is_told_is_heard.ensures reader [] [] e.stands in
    let keeps = e.profile_is ∙ ap (λ (f : Flight). f.profile) same in
    let are = subst (λ (p : Profile). AreHeardYet witness c.args.header.system p [] [] h.until) keeps
    (subst (λ (y : System). AreHeardYet witness y h.profile [] [] h.until) e.system_is law) in
    let b = c.begin-sink.ensures.begins in (
      _,
      b.1,
      record {
        system = e.system_is;
        keeps = keeps;
        count = e.count;
        ticks = e.tick;
        limit_is = fr.limit_is ∙ ap (λ (f : Flight). f.limit) same;
        events = [];
        reader = e.stands;
        are_events = are;
        given = [];
        wheel = subst (λ (t : ℕ). flies.HasGivenAll c.new-frames.result.wheel [] t []) (sym e.until) fr.wheel;
        sent = b.0;
        are = refl;
        heard = fr.heard;
        invented = fr.invented;
        gone = fr.gone;
      },
    )
