use Rattle.std.proofs.Common.{◌*◌, ◌∙◌, ap, take}
use Rattle.direction_reader.specs.ListEvents.{duration}
use Rattle.interval_file.specs.Grammar.{file_of}
use Rattle.pcm_front.specs.Distance.{distances}
use Rattle.pcm_front.specs.Samples.{samples_of}
use Rattle.pcm_front.specs.Sums.{sums}
use Rattle.signal_commands.specs.PcmLtc.{settings_for, sliced_header}
use Rattle.sound_report.proofs.FileOfASound.{tick_rate_is}
use Rattle.sound_report.proofs.SpansOfASound.{spanned}
use Rattle.sound_report.proofs.WholeDistances.{written_whole, PaceLaws}
use Rattle.sound_report.proofs.laws.the_spans_of_a_margin_are_told.Goals as goal

pub returns : goal.returns
returns c = λ flight s tape words sound written text asked is margin fits whole are spelled output read.
    let samples = samples_of sound in
    let heard = sums s.smooth samples in
    let fit = c.noise_below_the_margin_costs_no_word.ensures.fit flight.profile s.fineness s.threshold tape heard
    is.least margin fits in
    let paces : PaceLaws =
    record { ended = c.short_distances_are_whole.ensures.ended; short = c.short_distances_are_whole.ensures.short } in
    spanned c.a_file_is_read_as_it_was_written.ensures.read c.the_open_span_has_the_last_line.ensures flight asked
    (sliced_header s) margin.delay (duration (take 2 tape)) tape words
    (distances s.fineness s.threshold heard) written text (tick_rate_is s is) fit.0 fit.1
    (output ∙ ap (file_of (sliced_header s))
    (written_whole paces s.live s.system (s.rate * s.fineness) (settings_for s) samples is.least whole fit.0))
    (λ events own. c.noise_below_the_margin_costs_no_word.ensures.on_time s.system flight.profile s.fineness s.threshold
    tape words heard events is.least margin are spelled own)
    read
