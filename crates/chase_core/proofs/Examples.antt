-- Traces worked by hand, as theorems on the definition.
use Rattle.std.proofs.Common.{◌≡◌, ℕ, zero, suc, ℤ, pos, neg_ℤ, Option, Some, None, List, [], ◌∷◌, refl, subst, arith}
use Rattle.tc_address.specs.declared.count.Count.{Count}
use Rattle.tc_address.specs.declared.count.Count.TheVariants.{C25, Drop30}
use Rattle.tc_address.specs.declared.direction.Direction.{Direction}
use Rattle.tc_address.specs.declared.direction.Direction.TheVariants.{Forward, Backward}
use Rattle.chase_core.specs.declared.command.Command.{Command}
use Rattle.chase_core.specs.declared.command.Command.TheVariants.{Play, Locate}
use Rattle.chase_core.specs.declared.mode.Mode.TheVariants as modes
use Rattle.chase_core.specs.declared.report.State.{State}
use Rattle.chase_core.specs.declared.report.State.TheVariants.{Waiting, Locating, Pulling, Locked}
use Rattle.chase_core.specs.declared.report.Loss.{Loss}
use Rattle.chase_core.specs.declared.report.Loss.TheVariants.{NoCode, Window}
use Rattle.chase_core.specs.Trace.{GoesOn, IsSteadyFromTo, Loop, Row, Traced, trace}

begun : Count → ℕ → Loop
begun count position = record { chase = record { count = count; mode = modes.Waiting }; position = position }

frame : Option Command → Direction → ℕ → ℤ → Row
frame command direction number slip =
    record { command = command; master = Some (record { number = number; direction = direction }); slip = slip }

bare : Option Command → Row
bare command = record { command = command; master = None; slip = pos 0 }

line : State → ℤ → ℤ → Option Loss → ℕ → Traced
line state error order loss position =
    record { report = record { state = state; error = error; order = order; loss = loss }; position = position }

-- a slip of 60 loses the lock for a frame, and a master that reads nothing loses it
lost_twice : trace (begun C25 0) (frame (Some Play) Forward 0 (pos 0) ∷ frame None Forward 1 (pos 60)
    ∷ frame None Forward 2 (pos 0) ∷
    frame None Forward 3 (pos 0) ∷ bare None ∷ []) ≡
    line Locked (pos 0) (pos 80) None 80 ∷ line Locked (pos 0) (pos 80) None 220 ∷
    line Pulling (neg_ℤ (pos 60)) (pos 20) (Some (Window (neg_ℤ (pos 60)))) 240 ∷ line Locked (pos 0) (pos 80) None 320
    ∷
    line Pulling (pos 0) (pos 0) (Some NoCode) 320 ∷ []
unfolding begun frame bare line trace
lost_twice = refl

-- backward over midnight of a drop-frame day
over_midnight : trace (begun Drop30 80) (frame (Some Play) Backward 1 (neg_ℤ (pos 5)) ∷ frame None Backward 0 (pos 0) ∷
    frame None Backward 2_589_407 (pos 8) ∷ []) ≡
    line Locked (pos 0) (neg_ℤ (pos 80)) None 207_152_635 ∷ line Locked (pos 5) (neg_ℤ (pos 75)) None 207_152_560 ∷
    line Locked (pos 0) (neg_ℤ (pos 80)) None 207_152_488 ∷ []
unfolding begun frame bare line trace
over_midnight = refl

-- on the way to a label, and there
located_and_there : trace (begun C25 0) (bare (Some (Locate 25)) ∷ bare None ∷ []) ≡
    line Locating (pos 2_000) (pos 2_000) None 2_000 ∷ line Waiting (pos 0) (pos 0) None 2_000 ∷ []
unfolding begun frame bare line trace
located_and_there = refl

-- half a frame from its label it waits, and a subframe more it goes on
located_near_by : trace (begun C25 1_960) (bare (Some (Locate 25)) ∷ []) ≡ line Waiting (pos 40) (pos 0) None 1_960 ∷ []
unfolding begun bare line trace
located_near_by = refl

not_there_yet : trace (begun C25 1_959) (bare (Some (Locate 25)) ∷ []) ≡ line Locating (pos 41) (pos 41) None 2_000 ∷ []
unfolding begun bare line trace
not_there_yet = refl

-- far from a label it goes 32 frames at once, either way
far_from_a_label : trace (begun C25 0) (bare (Some (Locate 100)) ∷ []) ≡ line Locating (pos 8_000) (pos 2_560) None
    2_560 ∷ []
unfolding begun frame bare line trace
far_from_a_label = refl

far_behind_a_label : trace (begun C25 8_000) (bare (Some (Locate 0)) ∷ []) ≡ line Locating (neg_ℤ (pos 8_000))
    (neg_ℤ (pos 2_560)) None 5_440 ∷ []
unfolding begun frame bare line trace
far_behind_a_label = refl

-- far from its master it pulls by 16 frames, beside the motion of the master
far_from_the_master : trace (begun C25 0) (frame (Some Play) Forward 20 (pos 0) ∷ []) ≡ line Pulling (pos 1_600)
    (pos 1_360) None 1_360 ∷ []
unfolding begun frame bare line trace
far_from_the_master = refl

-- near its master it locks, and moves 24 subframes nearer at once
near_the_master : trace (begun C25 50) (frame (Some Play) Forward 1 (pos 0) ∷ frame (Some Play) Forward 2 (pos 0) ∷ [])
    ≡
    line Locked (pos 30) (pos 104) None 154 ∷ line Locked (pos 6) (pos 86) None 240 ∷ []
unfolding begun frame bare line trace
near_the_master = refl

-- to play again changes nothing of a lock: without a master it is lost
played_in_the_lock : trace (begun C25 0) (frame (Some Play) Forward 0 (pos 0) ∷ bare (Some Play) ∷ []) ≡
    line Locked (pos 0) (pos 80) None 80 ∷ line Pulling (pos 0) (pos 0) (Some NoCode) 80 ∷ []
unfolding begun frame bare line trace
played_in_the_lock = refl

-- half a frame is near, and a subframe more is not
at_the_edge : trace (begun C25 40) (frame (Some Play) Forward 1 (pos 0) ∷ []) ≡ line Locked (pos 40) (pos 104) None 144
    ∷ []
unfolding begun frame bare line trace
at_the_edge = refl

behind_the_edge : trace (begun C25 39) (frame (Some Play) Forward 1 (pos 0) ∷ []) ≡ line Pulling (pos 41) (pos 121) None
    160 ∷ []
unfolding begun frame bare line trace
behind_the_edge = refl

-- a chase that locates plays when it gets the command
located_then_played : trace (begun C25 0) (bare (Some (Locate 100)) ∷ frame (Some Play) Forward 32 (pos 0) ∷ []) ≡
    line Locating (pos 8_000) (pos 2_560) None 2_560 ∷ line Locked (pos 0) (pos 80) None 2_640 ∷ []
unfolding begun frame bare line trace
located_then_played = refl

-- ---- a master that moves steadily over midnight, and a transport that slips by its bound

over_the_day : List Row
over_the_day =
    frame (Some Play) Forward 2_159_999 (pos 3) ∷ frame None Forward 0 (neg_ℤ (pos 8)) ∷ frame None Forward 1 (pos 9)
    ∷ []

a_step : (row next a b : Row) → Some row ≡ Some a → Some next ≡ Some b → GoesOn C25 row next → GoesOn C25 a b
a_step row next a b one two goes =
    let first : row ≡ a = cc in
    let second : next ≡ b = cc in
    subst (λ (r : Row). GoesOn C25 r b) first (subst (λ (r : Row). GoesOn C25 row r) second goes)

runs_steadily : IsSteadyFromTo C25 over_the_day 0 2
unfolding over_the_day frame
runs_steadily zero a b from before is_a is_b = a_step _ _ a b is_a is_b (record {
  no_command = refl;
  master = record { number = 2_159_999; direction = Forward };
  reads = refl;
  steady = refl;
  slip = omega arith;
})
runs_steadily (suc zero) a b from before is_a is_b = a_step _ _ a b is_a is_b (record {
  no_command = refl;
  master = record { number = 0; direction = Forward };
  reads = refl;
  steady = refl;
  slip = omega arith;
})
runs_steadily (suc (suc i)) a b from before is_a is_b = absurd (omega (arith, before))
