-- The lines of a text are added up: all of them, and of a text with a line that says no label nothing is written.
use Rattle.std.proofs.Common.{◌≡◌, ℕ, ◌≤◌, List, [], ◌∷◌, ◌++◌, length, inl, inr, refl, sym, ap, ◌∙◌}
use Rattle.std.specs.Prelude.{Some}
use Rattle.std.proofs.lemmas.Bool.{false≢true}
use Rattle.tc_address.specs.Label.{Address}
use Rattle.tc_command.specs.Command.{IsCommand}
use Rattle.tc_command.specs.declared.input_fault.InputFault.TheVariants.{Labels}
use Rattle.tc_command.specs.declared.stop.Stop.TheVariants as stops
use Rattle.tc_command.specs.Meaning.{IsInput, Meaning}
use Rattle.tc_command.specs.Stops.{StopsAlong}
use Rattle.tc_command.specs.Told.{IsLawful, KeepsPromise}
use Rattle.tc_io.specs.VerdictLemmas.{fault_stays, limit_stays}
use Rattle.tc_job.specs.LabelRun.{LabelRunning, label_run_of}
use Rattle.label_lines.specs.declared.timebase.Timebase.{Timebase}
use Rattle.label_lines.specs.declared.way.Way.TheVariants as ways
use Rattle.label_lines.specs.Timebase.{count_of}
use Rattle.label_text.specs.declared.fault.LineFault.{LineFault}
use Rattle.label_text.specs.declared.reader.TheConstants.{MAX_LINES}
use Rattle.label_text.specs.LabelText.{Reading, labels_of, reading_of}
use Rattle.label_command.specs.Labels.{along_labels, answers}
use Rattle.label_command.specs.Sums.{SumsTheLines, along_sum, sum_line, sum_of, told_sum}
use Rattle.label_command.specs.TextLines.{HasLines, IsFirstRefused, SayLabels}
use Rattle.label_command.proofs.LabelsAreCommand.{TextLaws}
use Rattle.label_command.proofs.LinesTold.{answered_before, answered_to_the_limit, answered_whole}
use Rattle.label_command.proofs.LinesTold.{are_answered, whole_read}
use Rattle.label_command.proofs.ShortLines.{LabelLaws}

-- ---- it is a command as any other

pub sums_are_command : TextLaws → (base : Timebase) → IsCommand (along_sum base)
sums_are_command laws base = record {
  first = record {
    part = λ front more a b one all. (b, ap (λ (l : List ℕ). l ++ b) (sym one));
    output = λ front more a b one all. (b, ap (λ (l : List ℕ). l ++ b) (sym one));
    stays = λ front more spent. spent;
    limit = λ front more a b spent one all. absurd spent;
  };
  some_part = λ bytes. (_, refl);
  some_output = λ input is. (_, refl);
  one_part = λ bytes a b one all. one ∙ sym all;
  one_output = λ input a b one all. one ∙ sym all;
  fault = λ front rest f e.
      fault_stays Labels (reading_of base front).verdict (reading_of base (front ++ rest)).verdict f
      (λ fault is. ap (λ (r : Reading). r.verdict) (laws.fault base front rest fault is) ∙ is) e;
  limit = λ front rest e.
      limit_stays Labels (reading_of base front).verdict (reading_of base (front ++ rest)).verdict
      (λ is. ap (λ (r : Reading). r.verdict) (laws.limit base front rest is) ∙ is) e;
  fault_unspent = λ front rest f e spent. spent;
  limit_unspent = λ front rest e spent. spent;
  ends = λ bytes f e. refl;
  idle = λ e all. absurd (false≢true (sym e));
  idle_part = λ e bytes a b one all. absurd (false≢true (sym e));
  idle_output = λ e bytes a b one all. absurd (false≢true (sym e));
}

-- ---- as the command that answers each of these lines with its number

numbers : Timebase → LabelRunning
numbers base = label_run_of base ways.Number

same_input : (base : Timebase) (text : List ℕ) → IsInput (along_sum base) text → IsInput (along_labels (numbers base)) text
unfolding numbers
same_input base text is = record { verdict = is.verdict; unspent = is.unspent; end = is.end }

pub added_whole : LabelLaws → (base : Timebase) (text : List ℕ) (lines : List (List ℕ)) (labels : List Address)
    → HasLines text lines → length lines ≤ MAX_LINES → SayLabels base lines labels
    → IsInput (along_sum base) text × Meaning.output (along_sum base) text (sum_line (count_of base) (sum_of labels))
unfolding numbers
added_whole laws base text lines labels has few say =
    let whole = answered_whole laws (numbers base) text lines labels has few say in
    let read = whole_read laws base text lines labels has few say in (
      record { verdict = whole.0.verdict; unspent = whole.0.unspent; end = whole.0.end },
      ap (λ (l : List Address). sum_line (count_of base) (sum_of l)) (sym read.all),
    )

pub none_added_before : LabelLaws → (base : Timebase) (text : List ℕ) (lines : List (List ℕ)) (labels : List Address)
    (fault : LineFault) → HasLines text lines → IsFirstRefused base lines labels fault → fault.line ≤ MAX_LINES
    → StopsAlong (along_sum base) (stops.Refused (Labels fault)) (Some []) text []
unfolding numbers
none_added_before laws base text lines labels fault has none within =
    elim (answered_before laws (numbers base) text lines labels fault has none within) [
      | inl shown ↦ inl (record { is = shown.0.is; unspent = shown.0.unspent }, refl)
      | inr ends ↦ inr (
        ends.0,
        (record { is = ends.1.0.is; unspent = ends.1.0.unspent }, ends.1.1, refl),
      )
    ]

pub none_added_to_the_limit : LabelLaws → (base : Timebase) (text : List ℕ) (lines before : List (List ℕ))
    (line : List ℕ) (behind : List (List ℕ)) (labels : List Address) → HasLines text lines
    → lines ≡ before ++ line ∷ behind → SayLabels base before labels → length before ≡ MAX_LINES
    → StopsAlong (along_sum base) stops.Limit (Some []) text []
unfolding numbers
none_added_to_the_limit laws base text lines before line behind labels has are say all =
    elim (answered_to_the_limit laws (numbers base) text lines before line behind labels has are say all) [
      | inl shown ↦ inl (record { is = shown.0.is; unspent = shown.0.unspent }, refl)
      | inr spent ↦ absurd (spent.2)
    ]

-- ---- what is claimed of it

keeps : LabelLaws → (base : Timebase) (text written : List ℕ) → IsInput (along_sum base) text
    → Meaning.output (along_sum base) text written → SumsTheLines base text written
unfolding numbers
keeps laws base text written input output =
    let p = are_answered laws (numbers base) text (answers (numbers base) (labels_of base text))
    (same_input base text input) refl in
    let read = whole_read laws base text p.lines p.labels p.text p.few p.say in
    record {
      lines = p.lines;
      text = p.text;
      few = p.few;
      labels = p.labels;
      say = p.say;
      are = output ∙ ap (λ (l : List Address). sum_line (count_of base) (sum_of l)) read.all;
    }

-- what a promise names is the sum of the labels of the bytes
named : LabelLaws → (base : Timebase) (text written : List ℕ) → SumsTheLines base text written
    → written ≡ sum_line (count_of base) (sum_of (labels_of base text))
named laws base text written p =
    p.are ∙ ap (λ (l : List Address). sum_line (count_of base) (sum_of l))
    (sym (whole_read laws base text p.lines p.labels p.text p.few p.say).all)

pub sums_lawful : LabelLaws → (base : Timebase) → IsCommand (along_sum base) → IsLawful (told_sum base)
sums_lawful laws base command = record {
  command = command;
  pinned = λ text a b p q. named laws base text a p ∙ sym (named laws base text b q);
  unlimited = λ none input spent. spent;
}

pub sums_are_kept : LabelLaws → (base : Timebase) → KeepsPromise (told_sum base)
sums_are_kept laws base = λ text written are input output. keeps laws base text written input output
