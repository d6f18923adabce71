-- What `mtc-read`, `pcm-ltc` and `vitc-read` write of some bytes comes first, whatever bytes follow, so each is a
-- command as any other.
use Rattle.std.proofs.Common.{◌≡◌, ℕ, ◌+◌, ◌*◌, ℤ, List, [], ◌∷◌, ◌++◌, take, drop, refl, sym, ◌∙◌, ap}
use Rattle.std.proofs.Common.{subst, append_assoc}
use Rattle.std.proofs.lemmas.Bool.{false≢true}
use Rattle.std.proofs.lemmas.Grind.{flat_map-append}
use Rattle.std.proofs.lemmas.List.{take-append-drop}
use Rattle.interval_file.specs.FileLemmas.{file_first}
use Rattle.lemmas.specs.Lists.{first_items}
use Rattle.line_file.specs.Answers.{AreAnswersOf}
use Rattle.line_file.specs.LineFile.{reading_of}
use Rattle.line_file.specs.Texts.{field_line}
use Rattle.mtc_reader.specs.declared.event.MtcEvent.{MtcEvent}
use Rattle.mtc_reader.specs.Events.{events_in}
use Rattle.mtc_reader.specs.Texts.{event_line as mtc_line}
use Rattle.pcm_front.specs.declared.pace.Pace.{Pace}
use Rattle.pcm_front.specs.Pace.{intervals_at, IsPace}
use Rattle.pcm_front.specs.Samples.{sample_in, samples_of}
use Rattle.pcm_front.specs.Settings.{Settings}
use Rattle.interval_file.specs.Grammar.{file_of}
use Rattle.file_faults.specs.declared.lines.LineFileFault.{LineFileFault}
use Rattle.tc_io.specs.Verdict.{refused, past_limit}
use Rattle.tc_io.specs.Sink.{IsFront}
use Rattle.tc_job.specs.Slicing.{Slices}
use Rattle.vitc_reader.specs.declared.field.FieldAnswer.{FieldAnswer}
use Rattle.tc_command.specs.Command.{IsCommand}
use Rattle.tc_command.specs.FirstLemmas.{front_of_more}
use Rattle.signal_commands.specs.declared.mtc_read.TheConstants.{MAX_BYTES}
use Rattle.signal_commands.specs.declared.pcm_ltc.TheConstants.{MAX_SAMPLES}
use Rattle.signal_commands.specs.MtcRead.{along_midi, event_lines, last_mtc_line}
use Rattle.signal_commands.specs.PcmLtc.{along_samples, pace_for, settings_for, sliced, sliced_header}
use Rattle.signal_commands.specs.VitcRead.{along_fields, answer_lines, field_report, last_field_line}
use Rattle.signal_commands.proofs.MidiLimit.{never_refused, past_within}
use Rattle.signal_commands.proofs.PutMore.{is_pace}
use Rattle.signal_commands.proofs.SamplesWithin.{never_refused as no_fault_yet, past_within as past_samples}
use Rattle.tc_io.specs.VerdictLemmas.{fault_stays, limit_stays}
use Rattle.tc_command.specs.declared.input_fault.InputFault.TheVariants.{Lines}

-- ---- MIDI bytes

-- the events of some bytes come first
abbrev pub EarlierEventsStay : Type 0
EarlierEventsStay = (before more : List ℕ) → (later : List MtcEvent)
    × (events_in (before ++ more) ≡ events_in before ++ later)

labels_first : EarlierEventsStay → (front more : List ℕ)
    → IsFront (event_lines (events_in front)) (event_lines (events_in (front ++ more)))
labels_first laws front more =
    let later = laws front more in
    (event_lines later.0, ap event_lines later.1 ∙ flat_map-append mtc_line (events_in front) later.0)

pub midi_is_command : EarlierEventsStay → IsCommand along_midi
midi_is_command laws = record {
  first = record {
    part = λ front more a b one all.
        let within = first_items MAX_BYTES front more in
        let lines = labels_first laws (take MAX_BYTES front) within.0 in
        (lines.0, all ∙ ap (λ l. event_lines (events_in l)) within.1 ∙ lines.1 ∙ ap (λ l. l ++ lines.0) (sym one));
    output = λ front more a b one all.
        let first = take MAX_BYTES front in
        let behind = drop MAX_BYTES front ++ more in
        let joined : front ++ more ≡ first ++ behind =
        ap (λ l. l ++ more) (sym (take-append-drop MAX_BYTES front)) ∙ append_assoc first (drop MAX_BYTES front) more in
        let lines = labels_first laws first behind in
        subst (IsFront a) (sym all)
        (front_of_more a (event_lines (events_in (front ++ more))) lines.0
        (last_mtc_line (front ++ more) (events_in (front ++ more)))
        (ap (λ l. event_lines (events_in l)) joined ∙ lines.1 ∙ ap (λ l. l ++ lines.0) (sym one)));
    stays = λ front more spent. spent;
    limit = λ front more a b spent one all. absurd spent;
  };
  some_part = λ bytes. (_, refl);
  some_output = λ input is. (_, refl);
  one_part = λ bytes a b one all. one ∙ sym all;
  one_output = λ input a b one all. one ∙ sym all;
  fault = λ front rest f e. absurd (never_refused MAX_BYTES front f e);
  limit = λ front rest e. past_within MAX_BYTES front rest e;
  fault_unspent = λ front rest f e spent. spent;
  limit_unspent = λ front rest e spent. spent;
  ends = λ bytes f e. absurd cc;
  idle = λ e all. absurd (false≢true (sym e));
  idle_part = λ e bytes a b one all. absurd (false≢true (sym e));
  idle_output = λ e bytes a b one all. absurd (false≢true (sym e));
}

-- ---- samples

-- the intervals of some samples come first, at each pace
abbrev IntervalsComeFirst : Type 0
IntervalsComeFirst = (pace : Pace) (settings : Settings) (front more : List ℤ) → IsPace pace
    → (rest : List ℕ) × (intervals_at pace settings (front ++ more) ≡ intervals_at pace settings front ++ rest)

pub samples_first : (front more : List ℕ) → (rest : List ℤ) × (samples_of (front ++ more) ≡ samples_of front ++ rest)
unfolding samples_of
samples_first [] more = (samples_of more, refl)
samples_first (low ∷ []) more = (samples_of (low ∷ more), refl)
samples_first (low ∷ high ∷ front) more =
    let rest = samples_first front more in
    (rest.0, ap (λ l. sample_in (low ∷ high ∷ []) ∷ l) rest.1)

sliced_first : IntervalsComeFirst → (s : Slices) (front more : List ℤ)
    → IsFront (sliced s front) (sliced s (front ++ more))
sliced_first laws s front more =
    let rest = laws (pace_for s) (settings_for s) front more (is_pace s.live s.system (s.rate * s.fineness)) in
    let before = intervals_at (pace_for s) (settings_for s) front in
    let file = file_first (sliced_header s) before rest.0 in
    (file.0, ap (λ xs. file_of (sliced_header s) xs) rest.1 ∙ file.1)

pub samples_are_command : IntervalsComeFirst → (s : Slices) → IsCommand (along_samples s)
samples_are_command laws s = record {
  first = record {
    part = λ front more a b one all.
        let samples = samples_first front more in
        let within = first_items MAX_SAMPLES (samples_of front) samples.0 in
        let file = sliced_first laws s (take MAX_SAMPLES (samples_of front)) within.0 in (
          file.0,
          all ∙ ap (λ l. sliced s (take MAX_SAMPLES l)) samples.1 ∙ ap (sliced s) within.1 ∙ file.1
              ∙ ap (λ l. l ++ file.0) (sym one),
        );
    output = λ front more a b one all.
        let samples = samples_first front more in
        let first = take MAX_SAMPLES (samples_of front) in
        let behind = drop MAX_SAMPLES (samples_of front) ++ samples.0 in
        let joined : samples_of (front ++ more) ≡ first ++ behind =
        samples.1 ∙ ap (λ l. l ++ samples.0) (sym (take-append-drop MAX_SAMPLES (samples_of front)))
        ∙ append_assoc first (drop MAX_SAMPLES (samples_of front)) samples.0 in
        let file = sliced_first laws s first behind in
        (file.0, all ∙ ap (sliced s) joined ∙ file.1 ∙ ap (λ l. l ++ file.0) (sym one));
    stays = λ front more spent. spent;
    limit = λ front more a b spent one all. absurd spent;
  };
  some_part = λ bytes. (_, refl);
  some_output = λ input is. (_, refl);
  one_part = λ bytes a b one all. one ∙ sym all;
  one_output = λ input a b one all. one ∙ sym all;
  fault = λ front rest f e. absurd (no_fault_yet MAX_SAMPLES front f e);
  limit = λ front rest e. past_samples MAX_SAMPLES front rest e;
  fault_unspent = λ front rest f e spent. spent;
  limit_unspent = λ front rest e spent. spent;
  ends = λ bytes f e. refl;
  idle = λ e all. absurd (false≢true (sym e));
  idle_part = λ e bytes a b one all. absurd (false≢true (sym e));
  idle_output = λ e bytes a b one all. absurd (false≢true (sym e));
}

-- ---- fields

-- what the laws of a line file say: what bytes show stays, and there are their answers, which come first and are one
-- list
pub record FieldLaws : Type 0 where
  pub fault : (bytes more : List ℕ) (f : LineFileFault) → (reading_of bytes).verdict ≡ refused f
      → (reading_of (bytes ++ more)).verdict ≡ refused f
  pub limit : (bytes more : List ℕ) → (reading_of bytes).verdict ≡ past_limit
      → (reading_of (bytes ++ more)).verdict ≡ past_limit
  pub answers : (bytes more : List ℕ) (answers all : List FieldAnswer) → AreAnswersOf (reading_of bytes) answers
      → AreAnswersOf (reading_of (bytes ++ more)) all → (rest : List FieldAnswer) × (all ≡ answers ++ rest)
  pub some : (bytes : List ℕ) → (answers : List FieldAnswer) × AreAnswersOf (reading_of bytes) answers
  pub one : (bytes : List ℕ) (a b : List FieldAnswer) → AreAnswersOf (reading_of bytes) a
      → AreAnswersOf (reading_of bytes) b → a ≡ b

field_lines_first : (field : ℕ) (answers more : List FieldAnswer) → (rest : List ℕ)
    × (answer_lines field (answers ++ more) ≡ answer_lines field answers ++ rest)
field_lines_first field [] more = (answer_lines field more, refl)
field_lines_first field (answer ∷ answers) more =
    let rest = field_lines_first (field + 1) answers more in
    let own = field_line field answer in
    (rest.0, ap (λ l. own ++ l) rest.1 ∙ sym (append_assoc own (answer_lines (field + 1) answers) rest.0))

pub fields_are_command : FieldLaws → IsCommand along_fields
fields_are_command laws = record {
  first = record {
    part = λ front more a b one all.
        let answers = laws.answers front more one.0 all.0 one.1 all.1 in
        let text = field_lines_first 0 one.0 answers.0 in
        (text.0, all.2 ∙ ap (answer_lines 0) answers.1 ∙ text.1 ∙ ap (λ l. l ++ text.0) (sym one.2));
    output = λ front more a b one all.
        let answers = laws.answers front more one.0 all.0 one.1 all.1 in
        let text = field_lines_first 0 one.0 answers.0 in
        subst (IsFront a) (sym all.2)
        (front_of_more a (answer_lines 0 all.0) text.0 (last_field_line all.0)
        (ap (answer_lines 0) answers.1 ∙ text.1 ∙ ap (λ l. l ++ text.0) (sym one.2)));
    stays = λ front more spent. spent;
    limit = λ front more a b spent one all. absurd spent;
  };
  some_part = λ bytes. let answers = laws.some bytes in (answer_lines 0 answers.0, (answers.0, answers.1, refl));
  some_output = λ input is. let answers = laws.some input in (field_report answers.0, (answers.0, answers.1, refl));
  one_part = λ bytes a b one all. one.2 ∙ ap (answer_lines 0) (laws.one bytes one.0 all.0 one.1 all.1) ∙ sym all.2;
  one_output = λ input a b one all. one.2 ∙ ap field_report (laws.one input one.0 all.0 one.1 all.1) ∙ sym all.2;
  fault = λ front rest f e.
      fault_stays Lines (reading_of front).verdict (reading_of (front ++ rest)).verdict f (laws.fault front rest) e;
  limit = λ front rest e.
      limit_stays Lines (reading_of front).verdict (reading_of (front ++ rest)).verdict (laws.limit front rest) e;
  fault_unspent = λ front rest f e spent. spent;
  limit_unspent = λ front rest e spent. spent;
  ends = λ bytes f e. refl;
  idle = λ e all. absurd (false≢true (sym e));
  idle_part = λ e bytes a b one all. absurd (false≢true (sym e));
  idle_output = λ e bytes a b one all. absurd (false≢true (sym e));
}
