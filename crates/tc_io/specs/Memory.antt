-- The sources and the sink in memory: what each call answers, and the state after it.
use Rattle.std.specs.Prelude.{ℕ, ◌%◌, ◌-◌, min, max, Bool, if◌then◌else◌, ◌==◌, ◌&&◌, ◌||◌, not}
use Rattle.std.specs.Prelude.{List, [], ◌++◌, length, take, drop, slice_index, Result, Ok, Err}
use Rattle.std.specs.List.{list_any}
use Rattle.tc_io.specs.Source.{ends_after, one_more}
use Rattle.tc_io.specs.declared.failed.Failed.{Failed}

-- the call after this many calls is one that shall fail
abbrev pub is_failing : List ℕ → ℕ → Bool
is_failing failing calls = list_any (λ number. number == one_more calls) failing

-- ---- a source

-- the bytes that are left, the lengths of the pieces and the numbers of the calls that fail, and how
-- many calls, pulls that succeeded, faults, and pulls at the end or behind it there were
pub record SourceInMemory : Type 0 where
  pub left : List ℕ
  pub pieces : List ℕ
  pub failing : List ℕ
  pub calls : ℕ
  pub pulls : ℕ
  pub faults : ℕ
  pub ends : ℕ

-- a source as it is made
abbrev pub new_source : List ℕ → List ℕ → List ℕ → SourceInMemory
new_source bytes pieces failing =
    record { left = bytes; pieces = pieces; failing = failing; calls = 0; pulls = 0; faults = 0; ends = 0 }

-- the most that a pull gives into so much room: the pieces go round, and a piece of 0 counts as 1
abbrev pub piece_of : List ℕ → ℕ → ℕ → ℕ
piece_of pieces pulls room =
    if length pieces == 0 then room else min room (max 1 (slice_index pieces (pulls % length pieces)))

-- how many bytes the next pull gives into so much room, if it succeeds
abbrev pub given : SourceInMemory → ℕ → ℕ
given s room = min (piece_of s.pieces s.pulls room) (length s.left)

-- the answer of the next pull into so much room
abbrev pub pull_answer : SourceInMemory → ℕ → Result ℕ Failed
pull_answer s room = if is_failing s.failing s.calls then Err (record {}) else Ok (given s room)

-- how many pulls stood at the end or behind it, after the next
abbrev pub ends_now : SourceInMemory → ℕ → ℕ
ends_now s room = ends_after s.ends (pull_answer s room) room

-- the source after it: a failed pull counts as a call and as a fault, and leaves the bytes
abbrev pub after_pull : SourceInMemory → ℕ → SourceInMemory
after_pull s room =
    if is_failing s.failing s.calls
    then record s { calls = one_more s.calls; faults = one_more s.faults; ends = ends_now s room }
    else record s {
      left = drop (given s room) s.left;
      calls = one_more s.calls;
      pulls = one_more s.pulls;
      ends = ends_now s room;
    }

-- ---- a source that never fails

-- the bytes that are left, and how many pulls stood at the end or behind it
pub record SteadyInMemory : Type 0 where
  pub left : List ℕ
  pub ends : ℕ

-- a source as it is made
abbrev pub new_steady : List ℕ → SteadyInMemory
new_steady bytes = record { left = bytes; ends = 0 }

-- the answer of the next pull into so much room: what fits
abbrev pub steady_answer : SteadyInMemory → ℕ → Result ℕ Failed
steady_answer s room = Ok (min room (length s.left))

-- the source after it
abbrev pub after_steady : SteadyInMemory → ℕ → SteadyInMemory
after_steady s room = record { left = drop room s.left; ends = ends_after s.ends (steady_answer s room) room }

-- ---- a sink

-- the bytes written, the room for them, the numbers of the calls that fail, and how many calls and
-- faults there were
pub record SinkInMemory : Type 0 where
  pub written : List ℕ
  pub room : ℕ
  pub failing : List ℕ
  pub calls : ℕ
  pub faults : ℕ

-- a sink as it is made
abbrev pub new_sink : ℕ → List ℕ → SinkInMemory
new_sink room failing = record { written = []; room = room; failing = failing; calls = 0; faults = 0 }

-- how many bytes of a piece of this length the next push takes, if it succeeds
abbrev pub taken : SinkInMemory → ℕ → ℕ
taken s len = min len (s.room - length s.written)

-- the push fails, since its number says so, or since a full sink takes nothing of a piece that is not empty
abbrev pub is_refused : SinkInMemory → ℕ → Bool
is_refused s len = is_failing s.failing s.calls || (not (len == 0) && (taken s len == 0))

-- the answer of the next push of a piece of this length
abbrev pub push_answer : SinkInMemory → ℕ → Result ℕ Failed
push_answer s len = if is_refused s len then Err (record {}) else Ok (taken s len)

-- the sink after the push of a piece: a failed push counts as a call and as a fault, and writes nothing
abbrev pub after_push : SinkInMemory → List ℕ → SinkInMemory
after_push s piece =
    if is_refused s (length piece)
    then record s { calls = one_more s.calls; faults = one_more s.faults }
    else record s { written = s.written ++ take (taken s (length piece)) piece; calls = one_more s.calls }
