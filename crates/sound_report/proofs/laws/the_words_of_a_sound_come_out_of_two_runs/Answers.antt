use Rattle.std.proofs.Common.{◌∷◌, take}
use Rattle.direction_reader.specs.ListEvents.{duration}
use Rattle.pcm_front.specs.Distance.{distances}
use Rattle.pcm_front.specs.Samples.{samples_of}
use Rattle.pcm_front.specs.Sums.{sums}
use Rattle.signal_commands.specs.PcmLtc.{sliced_header}
use Rattle.tc_job.specs.declared.job.Job.TheVariants as jobs
use Rattle.sound_report.specs.TwoRuns.{report_under}
use Rattle.sound_report.proofs.OutputOfARun.{is_report, outputs_of}
use Rattle.sound_report.proofs.laws.the_words_of_a_sound_come_out_of_two_runs.Goals as goal

pub returns-clause-report : goal.returns-clause-report
returns-clause-report c = λ profile s tape words sound text is piped.
    let out = outputs_of (jobs.PcmLtc s) (report_under profile) sound text piped in
    c.what_is_sliced_of_a_margin_is_reported.ensures profile s tape words sound out.between text is.is is.margin is.fits
    is.whole is.begins is.spelled out.wrote (is_report profile out.between text out.read)

pub returns-clause-spans : goal.returns-clause-spans
returns-clause-spans c = λ flight s tape words sound text asked is piped.
    let out = outputs_of (jobs.PcmLtc s) (jobs.LtcSpans flight) sound text piped in
    c.the_spans_of_a_margin_are_told.ensures flight s tape words sound out.between text asked is.is is.margin is.fits
    is.whole
    is.begins is.spelled out.wrote out.read

pub returns-clause-one_span : goal.returns-clause-one_span
returns-clause-one_span c = λ flight s tape first more sound text asked is on pace piped.
    let out = outputs_of (jobs.PcmLtc s) (jobs.LtcSpans flight) sound text piped in
    c.words_that_count_on_are_one_span.ensures (sliced_header s) flight is.margin.delay (duration (take 2 tape)) tape
    first more (distances s.fineness s.threshold (sums s.smooth (samples_of sound))) text
    (c.the_spans_of_a_margin_are_told.ensures flight s tape (first ∷ more) sound out.between text asked is.is is.margin
    is.fits is.whole is.begins is.spelled out.wrote out.read) on pace
