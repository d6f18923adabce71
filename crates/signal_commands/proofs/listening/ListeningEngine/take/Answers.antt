use Rattle.std.proofs.Common.{[], ◌++◌, inr, ap, append-nil, arith, take}
use Rattle.signal_commands.specs.KeptListening.{so_far_is}
use Rattle.signal_commands.proofs.ListeningOn.{halts_as, waits_as}
use Rattle.signal_commands.proofs.listening.ListeningEngine.take.Goals as goal

-- the samples were heard
pub returns-in-Samples-clause-works : goal.returns-in-Samples-clause-works
returns-in-Samples-clause-works g c = λ front written stands.
    let e = c.in-Samples.ensures in
    let w = c.hear_in.ensures _ _ _ _ written stands.hears (e.2 front stands.holds) in
    (w.0, w.1, record { holds = e.0.holds front stands.holds; hears = rw e.0.asked w.2 })

pub returns-in-Samples-clause-going : goal.returns-in-Samples-clause-going
returns-in-Samples-clause-going g c =
    let going = c.requires.going in
    let w = returns-in-Samples-clause-works g c going.bytes going.written going.stands in
    record {
      suits = rw c.in-Samples.ensures.0.asked going.suits;
      bytes = going.bytes ++ take c.in-Samples.bytes c.args.bytes.now;
      written = going.written ++ w.0;
      stands = w.2;
    }

-- the bytes are too few
pub returns-in-Few-clause-waits : goal.returns-in-Few-clause-waits
returns-in-Few-clause-waits g c =
    let few = c.in-Few.ensures in
    let s = c.args.self.now in
    inr (
      omega (arith, ap (λ container. g.C.Container.kind.left container) few.0),
      rw few.0 few.1.short,
      rw few.0
          (waits_as g.C.Container.kind g.L.Listener.kind g.C.Container.is_good g.L.Listener.hears_well s.container s.listener
          s.words c.args.bytes.now few.1),
    )

pub returns-in-Few-clause-works : goal.returns-in-Few-clause-works
returns-in-Few-clause-works g c = λ front written stands. (
  [],
  g.O.Output.given_none c.args.out.now,
  rw (c.in-Few.ensures.0, append-nil front, append-nil written) stands,
)

-- the reading ended
pub returns-in-Halt-clause-choice : goal.returns-in-Halt-clause-choice
returns-in-Halt-clause-choice g c = ap (λ asked. (asked, c.args.self.now.words)) c.in-Halt.ensures.0

pub returns-in-Halt-clause-halts : goal.returns-in-Halt-clause-halts
returns-in-Halt-clause-halts g c = λ front written stands. (
  [],
  g.O.Output.given_none c.args.out.now,
  halts_as g.C.Container.kind g.L.Listener.kind _ c.args.self.now.words c.in-Halt.halt front c.args.bytes.now written
      (c.in-Halt.ensures.1 front stands.holds)
      (so_far_is g.L.Listener.kind g.L.Listener.hears_well c.args.self.now.words c.args.self.now.listener _ written
      stands.hears),
)
