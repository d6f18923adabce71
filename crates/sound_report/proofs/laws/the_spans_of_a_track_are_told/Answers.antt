use Rattle.std.proofs.Common.{◌+◌, ◌*◌, ◌∙◌, ap, take, arith}
use Rattle.direction_reader.specs.ListEvents.{duration}
use Rattle.interval_file.specs.Grammar.{file_of}
use Rattle.pcm_front.specs.Distance.{distances_from_start}
use Rattle.pcm_front.specs.Sums.{sums}
use Rattle.signal_commands.specs.WavLtc.{track_file, track_header, track_settings}
use Rattle.wave_file.specs.Wave.{reading_of}
use Rattle.sound_report.proofs.SpansOfASound.{spanned}
use Rattle.sound_report.proofs.WholeDistances.{written_whole, PaceLaws}
use Rattle.sound_report.proofs.laws.the_spans_of_a_track_are_told.Goals as goal
use Rattle.signal_commands.specs.WavLtc.{asked_by}

pub returns : goal.returns
returns c = λ flight w format tape words file written text asked begins margin late fits whole are spelled output read.
    let samples = (reading_of (asked_by w) file).samples in
    let heard = sums w.smooth samples in
    let fit = c.a_silence_before_the_tape_costs_no_word.ensures.fit flight.profile 16 w.threshold tape heard
    (omega arith) margin late fits in
    let rate = c.the_rate_of_a_format_is_judged.ensures (asked_by w) file format begins in
    let paces : PaceLaws =
    record { ended = c.short_distances_are_whole.ensures.ended; short = c.short_distances_are_whole.ensures.short } in
    spanned c.a_file_is_read_as_it_was_written.ensures.read c.the_open_span_has_the_last_line.ensures flight asked
    (track_header w format) margin.delay
    (margin.start + duration (take 2 tape)) tape words (distances_from_start 16 w.threshold heard) written text
    (omega (arith, rate.0), omega (arith, rate.1)) fit.0 fit.1
    (output ∙ ap (λ f. track_file w f samples) begins ∙ ap (file_of (track_header w format))
    (written_whole paces w.live w.system (16 * format.rate) (track_settings w) samples (omega arith) whole fit.0))
    (λ events own. c.a_silence_before_the_tape_costs_no_word.ensures.on_time w.system flight.profile 16 w.threshold tape
    words heard events (omega arith) margin late are spelled own)
    read
