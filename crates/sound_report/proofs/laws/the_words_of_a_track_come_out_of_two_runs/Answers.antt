use Rattle.std.proofs.Common.{◌+◌, ◌∷◌, take}
use Rattle.direction_reader.specs.ListEvents.{duration}
use Rattle.pcm_front.specs.Distance.{distances_from_start}
use Rattle.pcm_front.specs.Sums.{sums}
use Rattle.signal_commands.specs.WavLtc.{track_header}
use Rattle.tc_job.specs.declared.job.Job.TheVariants as jobs
use Rattle.wave_file.specs.Wave.{reading_of}
use Rattle.sound_report.specs.TwoRuns.{report_under}
use Rattle.sound_report.proofs.OutputOfARun.{is_report, outputs_of}
use Rattle.sound_report.proofs.laws.the_words_of_a_track_come_out_of_two_runs.Goals as goal
use Rattle.signal_commands.specs.WavLtc.{asked_by}

pub returns-clause-report : goal.returns-clause-report
returns-clause-report c = λ profile w format tape words file text is piped.
    let out = outputs_of (jobs.WavLtc w) (report_under profile) file text piped in
    c.what_is_sliced_of_a_track_is_reported.ensures profile w format tape words file out.between text is.is is.margin
    is.late is.fits is.whole is.begins is.spelled out.wrote (is_report profile out.between text out.read)

pub returns-clause-spans : goal.returns-clause-spans
returns-clause-spans c = λ flight w format tape words file text asked is piped.
    let out = outputs_of (jobs.WavLtc w) (jobs.LtcSpans flight) file text piped in
    c.the_spans_of_a_track_are_told.ensures flight w format tape words file out.between text asked is.is is.margin
    is.late
    is.fits is.whole is.begins is.spelled out.wrote out.read

pub returns-clause-one_span : goal.returns-clause-one_span
returns-clause-one_span c = λ flight w format tape first more file text asked is on pace piped.
    let out = outputs_of (jobs.WavLtc w) (jobs.LtcSpans flight) file text piped in
    c.words_that_count_on_are_one_span.ensures (track_header w format) flight is.margin.delay
    (is.margin.start + duration (take 2 tape)) tape first more
    (distances_from_start 16 w.threshold (sums w.smooth (reading_of (asked_by w) file).samples)) text
    (c.the_spans_of_a_track_are_told.ensures flight w format tape (first ∷ more) file out.between text asked is.is
    is.margin
    is.late is.fits is.whole is.begins is.spelled out.wrote out.read) on pace
