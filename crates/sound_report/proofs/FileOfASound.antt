-- What is sliced of a sound is the file of its distances, and what is reported of this file are the events of them.
use Rattle.std.proofs.Common.{◌≡◌, ℕ, ◌*◌, ◌<◌, ◌≤◌, None, List, [], ◌∷◌, ◌++◌, length, count_by, sum, drop}
use Rattle.std.proofs.Common.{Some}
use Rattle.std.proofs.Common.{ap, subst, ◌∙◌, mul-pos, arith}
use Rattle.std.specs.List.{AllByRecursion}
use Rattle.biphase.specs.declared.cell.Cell.{Cell}
use Rattle.limits.specs.declared.recording.TheConstants.{MAX_INTERVALS}
use Rattle.biphase.specs.declared.profile.Profile.{Profile}
use Rattle.direction_reader.specs.declared.event.Event.{Event}
use Rattle.direction_reader.specs.Events.{is_lost, is_refused}
use Rattle.direction_reader.specs.ListEvents.{AreEvents}
use Rattle.direction_reader.specs.Played.{Played, events_of_words}
use Rattle.interval_commands.specs.LtcRead.{lines, report}
use Rattle.interval_engine.specs.Along.{IsWholeOf}
use Rattle.interval_file.specs.declared.header.IntervalHeader.{IntervalHeader}
use Rattle.interval_file.specs.Grammar.{file_of, AreIntervals, IsFile}
use Rattle.interval_file.specs.IntervalHeader.{IsTickRate}
use Rattle.interval_file.specs.Recording.{end_fault_of, recording_of, Recording}
use Rattle.pcm_front.specs.Distance.{IsInterval}
use Rattle.report_text.specs.Texts.{read_end_line}
use Rattle.tape_sound.specs.OnTime.{AreOnTime}
use Rattle.tc_io.specs.Verdict.{good}
use Rattle.tc_job.specs.Slicing.{IsSlicing, Slices}
use Rattle.sound_report.specs.WordsReport.{ReportsWords}
use Rattle.sound_report.proofs.CountsTheWords.{counts}

-- ---- the file

pub in_range : (distances : List ℕ) → AllByRecursion IsInterval distances → AreIntervals distances
in_range [] are = tt
in_range (distance ∷ distances) are = (are.0.0, are.0.1, in_range distances are.1)

-- samples and ticks of some number have some ticks a second, and not too many
pub tick_rate_is : (s : Slices) → IsSlicing s → IsTickRate (s.rate * s.fineness)
tick_rate_is s is =
    let rate = is.some_samples in
    let fine = is.least in
    let product : 0 < s.rate * s.fineness =
    mul-pos {m = s.rate} {n = s.fineness} (omega (arith, rate)) (omega (arith, fine)) in
    (omega (arith, product), is.not_too_fast)

-- ---- its report

-- what the law of files says
abbrev pub FileLaw : Type 0
FileLaw = (bytes : List ℕ) (header : IntervalHeader) (intervals : List ℕ) → IsFile bytes header intervals
    → length intervals ≤ MAX_INTERVALS
    → (recording_of bytes ≡ record { header = Some header; intervals = intervals; verdict = good })
    × (end_fault_of bytes ≡ None)

-- the report of a file of distances, of which the events are words on time
pub reported : FileLaw → (profile : Profile) (header : IntervalHeader) (delay tick : ℕ) (tape : List Cell)
    (words : List Played) (distances written text : List ℕ) → IsTickRate header.tick_rate
    → AllByRecursion IsInterval distances → length distances ≤ MAX_INTERVALS → written ≡ file_of header distances
    → ((events : List Event) → AreEvents header.system profile distances events
    → AreOnTime delay events (events_of_words tick (drop 2 tape) words))
    → IsWholeOf (report profile) (recording_of written) text
    → ReportsWords header delay tick tape words distances text
reported files profile header delay tick tape words distances written text rate fit few are read whole =
    let file : IsFile written header distances =
    record { tick_rate = rate; range = in_range distances fit; are = are } in
    let own = subst (λ (r : Recording). IsWholeOf (report profile) r text) (files written header distances file few).0
    whole in
    let on_time = read own.events own.are_events in
    let many = counts delay tick (drop 2 tape) words own.events on_time in
    record {
      events = own.events;
      on_time = on_time;
      are = own.are
          ∙ ap (λ (n : ℕ). lines header own.events ++ read_end_line (length distances) n
          (count_by is_refused own.events) (count_by is_lost own.events) (sum distances)) many.all
          ∙ ap (λ (n : ℕ). lines header own.events ++ read_end_line (length distances) (length words) n
          (count_by is_lost own.events) (sum distances)) many.none_refused
          ∙ ap (λ (n : ℕ). lines header own.events ++ read_end_line (length distances) (length words) 0 n
          (sum distances)) many.none_lost;
    }
