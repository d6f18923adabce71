use Rattle.frame_commands.proofs.flight.work_frames.Goals as goal

-- the witness that was found is that of the flight
pub returns-in-NotAsked : goal.returns-in-NotAsked
returns-in-NotAsked g c = rw (rw c.flight.ensures at c.in-NotAsked.is) c.work_along.ensures

pub returns-in-Asked : goal.returns-in-Asked
returns-in-Asked g c = rw (rw c.flight.ensures at c.in-Asked.is) c.work_along-in-Asked.ensures

pub returns-in-Consecutive : goal.returns-in-Consecutive
returns-in-Consecutive g c = rw (rw c.flight.ensures at c.in-Consecutive.is) c.work_along-in-Consecutive.ensures

pub returns-in-Counted : goal.returns-in-Counted
returns-in-Counted g c = rw (rw c.flight.ensures at c.in-Counted.is) c.work_along-in-Counted.ensures
