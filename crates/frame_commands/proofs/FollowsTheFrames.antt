-- What `ltc-chase` writes of an input is the trace over all of its frames: they go on from one another and have
-- labels, so each loss has its cause.
use Rattle.std.proofs.Common.{◌≡◌, inl, inr, ℕ, zero, suc, ◌-◌, ◌≤◌, List, [], ◌∷◌, length, take, Option, Some, None}
use Rattle.std.proofs.Common.{slice_get, refl, sym}
use Rattle.std.proofs.Common.{subst}
use Rattle.std.specs.Prelude.{sum, unsigned_abs}
use Rattle.std.proofs.lemmas.Bool.{cases_lt}
use Rattle.std.proofs.lemmas.Option.{same_Some}
use Rattle.biphase.specs.declared.profile.Profile.{Profile}
use Rattle.chase_core.specs.declared.report.State.TheVariants.{Locked}
use Rattle.chase_core.specs.declared.report.Loss.{Loss}
use Rattle.chase_core.specs.declared.report.Loss.TheVariants.{NoCode}
use Rattle.chase_core.specs.Trace.{Traced, lock_bound}
use Rattle.code_chase.specs.CodeTrace.{code_trace}
use Rattle.code_chase.specs.Lock.{AreWhole, BringsNoCode, HasCauseOfLoss, HasLabel, HaveLabels}
use Rattle.direction_reader.specs.declared.event.Event.{Event}
use Rattle.flywheel.specs.declared.frame.Frame.{Frame}
use Rattle.flywheel.specs.declared.frame.Frame.TheVariants.{Heard, Invented, Gone}
use Rattle.flywheel.specs.declared.heard.HeardWord.{HeardWord}
use Rattle.flywheel.specs.Frames.{frames}
use Rattle.flywheel.specs.GoOn.{GoOn, Position, position_of}
use Rattle.ltc_jam.specs.Labels.{AreEventsOf, AreFramesOf, AreHeardOf, IsFrameOf}
use Rattle.tc_address.specs.declared.system.System.{System}
use Rattle.tc_address.specs.Label.{Address, IsLabel}
use Rattle.interval_file.specs.declared.header.IntervalHeader.{IntervalHeader}
use Rattle.interval_file.specs.Recording.{Recording, recording_of}
use Rattle.tc_job.specs.ChaseRun.{Chasing, IsChasing}
use Rattle.tc_job.specs.declared.witness.Witness.{Witness}
use Rattle.frame_commands.specs.Heard.{AreHeard}
use Rattle.frame_commands.specs.declared.ltc_chase.TheConstants.{MAX_FRAMES}
use Rattle.interval_engine.specs.KeptBehind.{IsSpentBehind, IsWholeBehind}
use Rattle.frame_commands.specs.LtcChase.{ChasesTheInput, FollowsTheCode, LosesWithCause, chased_recording}
use Rattle.frame_commands.specs.OfFrames.{frames_of, frames_until, words_heard}
use Rattle.frame_commands.proofs.CleanCopy.{words_are}
use Rattle.frame_commands.proofs.MarkedLines.{FramesLaws}

-- what the laws of the crates below say
pub record ChaseLaws : Type 1 where
  pub events : (witness : Witness) (system : System) (profile : Profile) (list : List ℕ) (es : List Event)
      → AreHeard witness system profile list es → AreEventsOf system es
  pub labels : (system : System) (limit : ℕ) (words : List HeardWord) (last : ℕ) → AreHeardOf system words
      → AreFramesOf system (frames limit words last)
  pub go_on : (limit last : ℕ) (words : List HeardWord) → GoOn None (frames limit words last)
  pub heard : FramesLaws
  pub cause : (label : Address) (seed bound : ℕ) (fs : List Frame) (j : ℕ) (line : Traced) (loss : Loss) → IsLabel label
      → HaveLabels fs → GoOn None fs
      → slice_get (code_trace label seed bound fs) j ≡ Some line → line.report.loss ≡ Some loss
      → HasCauseOfLoss label seed bound fs j loss
  pub no_code : (label : Address) (seed bound : ℕ) (fs : List Frame) (i : ℕ) (leaves line : Traced) (frame : Frame)
      → slice_get (code_trace label seed bound fs) i ≡ Some leaves → leaves.report.state ≡ Locked
      → slice_get fs (suc i) ≡ Some frame
      → BringsNoCode label.count frame → slice_get (code_trace label seed bound fs) (suc i) ≡ Some line
      → line.report.loss ≡ Some NoCode
  pub no_loss : (label : Address) (seed bound : ℕ) (fs : List Frame) (j : ℕ) (line : Traced) → IsLabel label
      → HaveLabels fs → GoOn None fs
      → AreWhole label.count fs → bound ≤ 24 → slice_get (code_trace label seed bound fs) j ≡ Some line
      → line.report.loss ≡ None
  pub near : (label : Address) (seed bound : ℕ) (fs : List Frame) (first j : ℕ) (leaves line : Traced) → IsLabel label
      → HaveLabels fs → GoOn None fs
      → AreWhole label.count fs → bound ≤ 24 → slice_get (code_trace label seed bound fs) first ≡ Some leaves
      → leaves.report.state ≡ Locked
      → first ≤ j → slice_get (code_trace label seed bound fs) j ≡ Some line → (line.report.state ≡ Locked)
      × (unsigned_abs line.report.error ≤ 40)
  pub nearer : (label : Address) (seed bound : ℕ) (fs : List Frame) (first j : ℕ) (leaves line : Traced) → IsLabel label
      → HaveLabels fs → GoOn None fs
      → AreWhole label.count fs → bound ≤ 8 → slice_get (code_trace label seed bound fs) first ≡ Some leaves
      → leaves.report.state ≡ Locked
      → first ≤ j → slice_get (code_trace label seed bound fs) j ≡ Some line
      → unsigned_abs line.report.error ≤ lock_bound (j - first)

-- ---- the labels of frames

label_of : (system : System) (frame : Frame) → IsFrameOf system frame → HasLabel frame
label_of system (Heard label direction joined tick) is = is.0
label_of system (Invented label direction step tick) is = is.0
label_of system (Gone tick) is = tt

have_labels : (system : System) (fs : List Frame) → AreFramesOf system fs → (i : ℕ) (frame : Frame)
    → slice_get fs i ≡ Some frame → HasLabel frame
have_labels system [] are i frame at = absurd (cc)
have_labels system (f ∷ fs) are zero frame at = subst (λ (g : Frame). HasLabel g) (same_Some f frame at)
    (label_of system f are.0)
have_labels system (f ∷ fs) are (suc i) frame at = have_labels system fs are.1 i frame at

-- ---- the first of them

frames_of_first : (system : System) (n : ℕ) (fs : List Frame) → AreFramesOf system fs → AreFramesOf system (take n fs)
frames_of_first system zero fs are = tt
frames_of_first system (suc n) [] are = tt
frames_of_first system (suc n) (f ∷ fs) are = (are.0, frames_of_first system n fs are.1)

first_go_on : (before : Option Position) (n : ℕ) (fs : List Frame) → GoOn before fs → GoOn before (take n fs)
first_go_on before zero fs on = tt
first_go_on before (suc n) [] on = tt
first_go_on before (suc n) (f ∷ fs) on = (on.0, first_go_on (position_of f) n fs on.1)

-- ---- the trace

lock_of : ChaseLaws → (c : Chasing) → IsChasing c → (fs : List Frame) → HaveLabels fs → GoOn None fs
    → LosesWithCause c fs
lock_of laws c is fs have on = record {
  cause = λ j line loss at loses. laws.cause c.label c.seed c.bound fs j line loss is.label have on at loses;
  no_code = λ i leaves line frame at_leaves locked there brings at.
      laws.no_code c.label c.seed c.bound fs i leaves line frame at_leaves locked there brings at;
  no_loss = λ whole small j line at. laws.no_loss c.label c.seed c.bound fs j line is.label have on whole small at;
  near = λ whole small first j leaves line at_first locked least at.
      laws.near c.label c.seed c.bound fs first j leaves line is.label have on whole small at_first locked least at;
  nearer = λ whole small first j leaves line at_first locked least at.
      laws.nearer c.label c.seed c.bound fs first j leaves line is.label have on whole small at_first locked least at;
}

behind : ChaseLaws → (c : Chasing) → IsChasing c → (input : Recording) (header : Option IntervalHeader)
    (written : List ℕ) → input.header ≡ header
    → IsWholeBehind (chased_recording c) header input.intervals written → FollowsTheCode c input written
behind laws c is input None written e whole = absurd whole
behind laws c is input (Some header) written e whole =
    let fs = frames_of c.flight.limit input.intervals whole.events in
    let first = take MAX_FRAMES fs in
    let heard = words_are header.system whole.events
    (laws.events c.flight.witness header.system c.flight.profile input.intervals whole.events whole.are_events) in
    let labels = laws.labels header.system c.flight.limit (words_heard whole.events) (sum input.intervals) heard in
    let on = laws.go_on c.flight.limit (sum input.intervals) (words_heard whole.events) in
    record {
      header = header;
      begins = e;
      events = whole.events;
      are_events = whole.are_events;
      heard = laws.heard.heard c.flight.limit (sum input.intervals) (words_heard whole.events);
      marked = laws.heard.marked c.flight.limit (sum input.intervals) (words_heard whole.events);
      tape = laws.heard.tape c.flight.witness header.system c.flight.profile input.intervals whole.events
          whole.are_events;
      all = λ unspent yet until are. elim (cases_lt MAX_FRAMES (length (frames_until c.flight.limit yet until))) [
        | inl many ↦ absurd (unspent (subst (λ (h : Option IntervalHeader).
            IsSpentBehind (chased_recording c) h input.intervals) (sym e)
            (record { events = yet; until = until; are_events = are; too_many = many })))
        | inr few ↦ few
      ];
      text = whole.are;
      lock = lock_of laws c is first
          (have_labels header.system first (frames_of_first header.system MAX_FRAMES fs labels))
          (first_go_on None MAX_FRAMES fs on);
    }

pub chase_follows : ChaseLaws → (c : Chasing) → IsChasing c → ChasesTheInput c
chase_follows laws c is = λ input written whole. behind laws c is (recording_of input) (recording_of input).header
    written refl whole
