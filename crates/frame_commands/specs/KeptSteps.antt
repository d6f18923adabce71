-- What the lines of the steps of a chase over recorded code keep. No promise speaks of it.
use Rattle.std.specs.Prelude.{◌≡◌, ℕ, ◌+◌, ◌≤◌, Bool, nat_lt, cond, List, length, take}
use Rattle.std.specs.List.{count_by}
use Rattle.chase_script.specs.TraceText.{loses}
use Rattle.code_chase.specs.CodeTrace.{CodeLoop, after_frame, after_frames, begun_at, next_line}
use Rattle.flywheel.specs.declared.frame.Frame.{Frame}
use Rattle.tc_address.specs.declared.count.Count.{Count}
use Rattle.tc_job.specs.ChaseRun.{Chasing}
use Rattle.frame_commands.specs.declared.ltc_chase.TheConstants.{MAX_FRAMES}
use Rattle.frame_commands.specs.LtcChase.{first_steps}

-- the chase, its count, how many steps it made and how many of them lost the lock, and whether a further frame came
pub record Stepping : Type 0 where
  pub chase : CodeLoop
  pub count : Count
  pub steps : ℕ
  pub losses : ℕ
  pub is_spent : Bool

-- the counts have room
pub record IsStepping (s : Stepping) : Type 0 where
  pub count : s.chase.loop.chase.count ≡ s.count
  pub losses : s.losses ≤ s.steps
  pub steps : s.steps ≤ MAX_FRAMES

-- a step more
abbrev pub stepped : Stepping → Frame → Stepping
stepped s frame = record {
  chase = after_frame s.chase frame;
  count = s.count;
  steps = s.steps + 1;
  losses = s.losses + cond (loses (next_line s.chase frame)) 1 0;
  is_spent = s.is_spent;
}

-- it was begun with these choices, and was given these frames, of which it follows at most this many
pub record HasFollowed (most : ℕ) (c : Chasing) (s : Stepping) (frames : List Frame) : Type 0 where
  pub chase : s.chase ≡ after_frames (begun_at c.label c.seed c.bound) (take most frames)
  pub count : s.count ≡ c.label.count
  pub steps : s.steps ≡ length (take most frames)
  pub losses : s.losses ≡ count_by loses (first_steps most c frames)
  pub spent : s.is_spent ≡ nat_lt most (length frames)
