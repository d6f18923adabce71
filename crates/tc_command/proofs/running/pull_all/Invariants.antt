use Rattle.std.proofs.Common.{◌≡◌, ◌⊎◌, ◌*◌, ◌+◌, ◌-◌, List, [], ◌++◌, length, ℕ}
use Rattle.std.specs.Io.KnownBytes.{Consumes}
use Rattle.tc_io.specs.Bytes.{AreBytes}
use Rattle.tc_command.specs.declared.inlet.TheConstants.{KEPT}
use Rattle.tc_command.specs.Outlet.{IsGiven}
use Rattle.tc_command.specs.TooFew.{AreTooFew}
use Rattle.tc_command.proofs.running.pull_all.Given as goal

-- what the outlet was given so far is the part of what was worked on so far; the rest is too little to be worked on
abbrev pub invariant-pulls : goal.invariant-pulls
invariant-pulls g l = record {
  going : g.E.Engine.is_going l.engine;
  choice : g.E.Engine.choice l.engine ≡ g.E.Engine.choice l.fn.engine;
  source : g.S.Source.faults l.source ≡ g.S.Source.faults l.fn.source;
  open_end : g.S.Source.ends l.fn.source ≡ 0 → g.S.Source.ends l.source ≡ 0;
  same : l.out.sink.ghost_name ≡ l.fn.out.sink.ghost_name;
  few : AreTooFew (g.E.Engine.meaning (g.E.Engine.choice l.engine)) (g.E.Engine.stands l.engine) l.inlet;
  short : (l.inlet ≡ []) ⊎ g.E.Engine.is_short l.engine l.inlet;
  worked : (taken written : List ℕ)
      × Consumes (g.S.Source.left l.fn.source) (g.S.Source.left l.source) (taken ++ l.inlet)
      × IsGiven (g.K.Sink.written l.fn.out.sink.now) (g.K.Sink.written l.out.sink.now)
      (g.K.Sink.faults l.fn.out.sink.now) (g.K.Sink.faults l.out.sink.now)
      l.fn.out.gathered.items l.out.gathered.items l.fn.out.has_failed l.out.has_failed written
      × g.E.Engine.stands l.engine taken written × AreBytes taken;
}

-- with each turn something is worked on, or more is kept
abbrev pub decreases-pulls : goal.decreases-pulls
decreases-pulls g l = KEPT * g.E.Engine.budget l.engine + KEPT - length l.inlet
