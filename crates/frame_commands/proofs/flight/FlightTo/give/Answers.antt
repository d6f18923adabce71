use Rattle.std.proofs.Common.{◌++◌, ◌∷◌, [], List, refl, sym, ◌∙◌, arith, append-nil, append_assoc, subst}
use Rattle.flywheel.specs.declared.frame.Frame.{Frame}
use Rattle.flywheel.specs.StandsFor as flies
use Rattle.frame_commands.specs.KeptFlight.{Counts, HasGiven}
use Rattle.frame_commands.proofs.FramesInOrder.{both_counted, none_counted, one_more}
use Rattle.frame_commands.proofs.FramesInOrder.{sends_both, sends_none}
use Rattle.frame_commands.proofs.flight.FlightTo.give.Goals as goal

-- the words wait, and no frame was given yet
pub loop-frame-init : goal.loop-frame-init
loop-frame-init g c =
    let f = c.args.self.now.frames in
    let words = c.args.self.now.frames.words in
    let two = c.requires.few in
    let none = none_counted f in
    record {
      giving = λ most ready.
          let few = ready.few in
          record {
            within = ready.within;
            below = ready.below;
            fits = ready.fits;
            few = omega (arith, few, two);
            waiting = c.requires.range;
            turns = record {
              from = c.requires.turns.from;
              heard_by = c.requires.turns.heard_by;
              turn = c.requires.turns.turn;
            };
          };
      reader = refl {a = c.args.self.now.reader};
      limit = refl {a = f.wheel.limit};
      room = c.requires.room;
      given = (
        [],
        record { heard = none.heard; invented = none.invented; gone = none.gone },
        sends_none g.T.FrameSink.made g.T.FrameSink.given g.O.Output.given c.args.self.now.sink c.args.out.now
            (g.O.Output.given_none c.args.out.now),
        (λ earlier_words earlier given stands before. record {
          heard = earlier_words;
          are = refl {a = earlier_words ++ words};
          earlier = earlier;
          before = before;
          wheel = subst (λ (fs : List Frame). flies.StandsFor f.wheel earlier_words earlier fs) (sym (append-nil given))
              stands;
        }),
      );
    }

-- the next frame may be fetched
pub next-requires : goal.next-requires
next-requires g c =
    let ready = c.requires.ready in (ready.0, c.loop-frame.invariant.giving ready.0 ready.1)

-- one frame more
pub loop-frame-preserved : goal.loop-frame-preserved
loop-frame-preserved g c =
    let i = c.loop-frame.invariant in
    let m = i.given in
    let now = c.loop-frame.self in
    let next = c.next.new.self in
    let frame = c.in-Some.frame in
    let n = c.in-Some.ensures in
    let sent = c.frame.ensures in
    let taken = sent.taken in
    let room = i.room in
    let more = one_more now.frames next frame n.counted in
    record {
      giving = λ most ready. n.ready most (i.giving most ready);
      reader = i.reader;
      limit = n.limit ∙ i.limit;
      room = omega (arith, taken, room, more);
      given = (
        m.0 ++ frame ∷ [],
        both_counted c.args.self.now.frames now.frames next m.0 (frame ∷ []) m.1 n.counted,
        sends_both g.T.FrameSink.made g.T.FrameSink.given g.O.Output.given c.args.self.now.sink now.sink
            c.frame.new.self _ _ _ m.0 (frame ∷ []) (g.O.Output.given_more _ _ _) m.2 sent.sends,
        (λ words earlier given stands before.
            let all = words ++ c.args.self.now.frames.words in
            subst (λ (fs : List Frame). HasGiven next c.args.until all fs) (append_assoc given m.0 (frame ∷ []))
            (n.gives all (given ++ m.0) (m.3 words earlier given stands before))),
      );
    }

-- all were given
pub returns : goal.returns
returns g c =
    let i = c.loop-frame.invariant in
    let m = i.given in
    let f = c.args.self.now.frames in
    let now = c.loop-frame.self in
    let next = c.next.new.self in
    let n = c.in_default.ensures in
    let room = i.room in
    let heard = n.counted.heard in
    let invented = n.counted.invented in
    let gone = n.counted.gone in
    record {
      reader = i.reader;
      limit = n.limit ∙ i.limit;
      fits = λ most ready.
          let giving = n.ready most (i.giving most ready) in
          let few = giving.few in
          record {
            flight = record { within = giving.within; words = omega (arith, few); more_frames = giving.fits };
            taken = omega (arith, room, heard, invented, gone);
            heard_by = n.none refl;
          };
      gives = (
        m.0,
        subst (λ (fs : List Frame). Counts f next fs) (append-nil m.0)
            (both_counted f now.frames next m.0 [] m.1 n.counted),
        m.2,
        (λ words earlier given stands before.
            n.gives (words ++ c.args.self.now.frames.words) (given ++ m.0) (m.3 words earlier given stands before)),
      );
    }
