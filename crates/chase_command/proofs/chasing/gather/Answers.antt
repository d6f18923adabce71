use Rattle.std.proofs.Common.{◌≡◌, ◌+◌, ◌≤◌, ◌++◌, take, length, arith, ap}
use Rattle.std.proofs.lemmas.List.{length-append}
use Rattle.std.proofs.KnownBytes.{Consumes-trans}
use Rattle.chase_command.specs.declared.chasing.TheConstants.{MAX_SCRIPT}
use Rattle.chase_command.proofs.ChaseStatus.{passed, pull_stop, room_fits}
use Rattle.chase_command.proofs.chasing.gather.Goals as goal

-- the pull failed
pub returns-in_err-count-clause-stops : goal.returns-in_err-count-clause-stops
returns-in_err-count-clause-stops g c =
    passed c.from_residual.result c.from_residual.ensures.1 (λ stop same.
    let last = c.in_err-count.ensures.stops in (
      c.pulls.script.items ++ last.0,
      Consumes-trans _ _ _ c.pulls.script.items last.0 c.pulls.invariant.pulled last.1,
      rw same (pull_stop c.in_err-count.field-0.0 c.pulls.script.items last.0 c.pulls.invariant.short last.2),
    ))

-- a byte more than a script may have
pub returns-then-len-gt-MAX_SCRIPT-clause-stops : goal.returns-then-len-gt-MAX_SCRIPT-clause-stops
returns-then-len-gt-MAX_SCRIPT-clause-stops g c =
    let t = c.in_ok-count.ensures.takes in
    let fits : length c.pulls.script.items + length (take c.min-room.result c.pulls.buf) ≤ MAX_SCRIPT + 1 =
    room_fits c.pulls.script.items c.pulls.buf c.min-room.result
    (omega (arith, c.pulls.invariant.short, c.min-room.ensures, c.len.ensures)) in
    let long : length c.pull_behind.new.script.items ≡ length (c.pulls.script.items ++ t.0) = ap length t.2 in (
      c.pulls.script.items ++ t.0,
      Consumes-trans _ _ _ c.pulls.script.items t.0 c.pulls.invariant.pulled t.1,
      omega (
        arith,
        c.if-len-gt-MAX_SCRIPT.true,
        c.len-in-pulls.ensures,
        long,
        length-append c.pulls.script.items t.0,
        t.3,
        t.4,
        fits,
      ),
    )
