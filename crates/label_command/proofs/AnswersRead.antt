-- What is answered in a way that says labels is a text of lines that say them, so it is answered again.
use Rattle.std.proofs.Common.{◌≡◌, ℕ, ◌+◌, ◌<◌, ◌≤◌, List, [], ◌∷◌, ◌++◌, length, map, refl, sym}
use Rattle.std.proofs.Common.{ap, ap₂, ◌∙◌, subst, arith, append-nil}
use Rattle.std.specs.Prelude.{ℤ, pos, neg_ℤ, ◌+ℤ◌, Result, Ok, decimal, codes}
use Rattle.std.specs.List.{AllByRecursion}
use Rattle.std.proofs.lemmas.Int.{ints}
use Rattle.std.proofs.lemmas.List.{length-map}
use Rattle.std.proofs.lemmas.List.Folds.{flat_map-map}
use Rattle.real_time.specs.Moment.{millisecond_at}
use Rattle.tc_address.specs.Label.{Address, IsLabel}
use Rattle.tc_address.specs.Numbering.{day_length, number_of, step}
use Rattle.tc_address.specs.Spelling.{text_of}
use Rattle.tc_command.specs.Meaning.{IsInput, Meaning}
use Rattle.tc_job.specs.LabelRun.{LabelRunning, label_run_of}
use Rattle.label_lines.specs.Answer.{answer, seconds_text}
use Rattle.label_lines.specs.declared.timebase.Timebase.{Timebase}
use Rattle.label_lines.specs.declared.way.Way.{Way}
use Rattle.label_lines.specs.declared.way.Way.TheVariants as ways
use Rattle.label_lines.specs.Line.{read_line}
use Rattle.label_lines.specs.Timebase.{count_of, rate_of}
use Rattle.label_text.specs.declared.reader.TheConstants.{MAX_LINES}
use Rattle.label_command.specs.AnsweredAgain.{AreTogether, IsAnsweredAgain, SaysALabel, Writes, label_told}
use Rattle.label_command.specs.Labels.{along_labels, answers}
use Rattle.label_command.specs.TextLines.{HasLines, IsLine, SayLabels, ended}
use Rattle.label_command.proofs.LinesTold.{answered_whole, are_answered, whole_read}
use Rattle.label_command.proofs.OneLine.{answer_is_a_line}
use Rattle.label_command.proofs.ShortLines.{LabelLaws, says_a_label}

-- what the laws of lines and steps say
pub record AnswerLaws : Type 0 where
  pub labels : LabelLaws
  pub text : (base : Timebase) (a : Address) → IsLabel a → a.count ≡ count_of base → read_line base (text_of a) ≡ Ok a
  pub number : (base : Timebase) (a : Address) → IsLabel a → a.count ≡ count_of base
      → read_line base (decimal (number_of a)) ≡ Ok a
  pub seconds : (base : Timebase) (a : Address) → IsLabel a → a.count ≡ count_of base
      → read_line base (seconds_text (millisecond_at (rate_of base) (number_of a))) ≡ Ok a
  pub below : (a : Address) → IsLabel a → number_of a < day_length a.count
  pub stepped : (a : Address) (steps : ℤ) → ((step a steps).count ≡ a.count) × IsLabel (step a steps)
  pub none : (a : Address) → IsLabel a → step a (pos 0) ≡ a
  pub sum : (a : Address) (j k : ℤ) → step (step a j) k ≡ step a (j +ℤ k)

abbrev ok : Address → Result Address ℕ
ok a = Ok a

-- a label of the count of a timebase
record IsOf (base : Timebase) (a : Address) : Type 0 where
  pub label : IsLabel a
  pub count : a.count ≡ count_of base

-- ---- it says the label

stepped_of : AnswerLaws → (base : Timebase) (a : Address) (steps : ℤ) → IsOf base a → IsOf base (step a steps)
stepped_of laws base a steps is =
    let there = laws.stepped a steps in record { label = there.1; count = there.0 ∙ is.count }

answer_read : AnswerLaws → (base : Timebase) (way : Way) (a : Address) → SaysALabel way → IsOf base a
    → read_line base (answer base way a) ≡ Ok (label_told way a)
answer_read laws base ways.Number a says is = laws.number base a is.label is.count
answer_read laws base ways.Label a says is = laws.text base a is.label is.count
answer_read laws base (ways.Plus steps) a says is =
    let there = stepped_of laws base a (pos steps) is in laws.text base (step a (pos steps)) there.label there.count
answer_read laws base (ways.Minus steps) a says is =
    let there = stepped_of laws base a (neg_ℤ (pos steps)) is in
    laws.text base (step a (neg_ℤ (pos steps))) there.label there.count
answer_read laws base ways.Seconds a says is = laws.seconds base a is.label is.count
answer_read laws base (ways.Since other) a says is = absurd says
answer_read laws base (ways.Length other) a says is = absurd says
answer_read laws base (ways.To other) a says is = absurd says

-- ---- all of them

answers_no_newline : AnswerLaws → (base : Timebase) (way : Way) (labels : List Address) → SaysALabel way
    → AllByRecursion (IsOf base) labels → AllByRecursion IsLine (map (answer base way) labels)
answers_no_newline laws base way [] says all = tt
answers_no_newline laws base way (a ∷ labels) says all =
    (answer_is_a_line base way a (laws.below a all.0.label) all.0.count, answers_no_newline laws base way labels says all.1)

answers_say : AnswerLaws → (base : Timebase) (way : Way) (labels : List Address) → SaysALabel way
    → AllByRecursion (IsOf base) labels
    → SayLabels base (map (answer base way) labels) (map (label_told way) labels)
answers_say laws base way [] says all = refl
answers_say laws base way (a ∷ labels) says all =
    ap₂ (λ (x : Result Address ℕ) (l : List (Result Address ℕ)). x ∷ l) (answer_read laws base way a says all.0)
    (answers_say laws base way labels says all.1)

answers_ended : (base : Timebase) (way : Way) (labels : List Address)
    → answers (label_run_of base way) labels ≡ ended (map (answer base way) labels) ++ []
answers_ended base way labels =
    sym (append-nil (ended (map (answer base way) labels))
    ∙ flat_map-map (λ (line : List ℕ). line ++ codes "\n") (answer base way) labels)

answers_have_lines : AnswerLaws → (base : Timebase) (way : Way) (labels : List Address) → SaysALabel way
    → AllByRecursion (IsOf base) labels
    → HasLines (answers (label_run_of base way) labels) (map (answer base way) labels)
answers_have_lines laws base way labels says all = record {
  front = map (answer base way) labels;
  rest = [];
  are = answers_ended base way labels;
  each = answers_no_newline laws base way labels says all;
  last = tt;
  lines_are = sym (append-nil (map (answer base way) labels));
}

-- ---- the labels of an input are labels of the count

lines_say_labels : LabelLaws → (base : Timebase) (lines : List (List ℕ)) (labels : List Address)
    → SayLabels base lines labels → AllByRecursion (IsOf base) labels
lines_say_labels laws base lines [] say = tt
lines_say_labels laws base [] (a ∷ labels) say = absurd cc
lines_say_labels laws base (line ∷ lines) (a ∷ labels) say =
    let said : read_line base line ≡ Ok a = cc in
    let is = says_a_label laws base line a said in
    (record { label = is.0; count = is.1 }, lines_say_labels laws base lines labels (cc))

-- ---- two ways

-- what the second way answers to the label that the first one gave
two_answers : AnswerLaws → (base : Timebase) (first next whole : Way) (a : Address) → AreTogether first next whole
    → IsOf base a → answer base next (label_told first a) ≡ answer base whole a
two_answers laws base ways.Number next whole a together is = ap (λ (way : Way). answer base way a) together
two_answers laws base ways.Label next whole a together is = ap (λ (way : Way). answer base way a) together
two_answers laws base ways.Seconds next whole a together is = ap (λ (way : Way). answer base way a) together
two_answers laws base (ways.Plus m) (ways.Plus n) whole a together is =
    let sum : pos m +ℤ pos n ≡ pos (m + n) = omega (arith, ints) in
    ap text_of (laws.sum a (pos m) (pos n) ∙ ap (step a) sum) ∙ ap (λ (way : Way). answer base way a) (sym together)
two_answers laws base (ways.Minus m) (ways.Minus n) whole a together is =
    let sum : neg_ℤ (pos m) +ℤ neg_ℤ (pos n) ≡ neg_ℤ (pos (m + n)) = omega (arith, ints) in
    ap text_of (laws.sum a (neg_ℤ (pos m)) (neg_ℤ (pos n)) ∙ ap (step a) sum)
    ∙ ap (λ (way : Way). answer base way a) (sym together)
two_answers laws base (ways.Plus m) (ways.Minus n) whole a together is =
    let same = together.0 in
    let sum : pos m +ℤ neg_ℤ (pos n) ≡ pos 0 = omega (arith, ints, same) in
    ap text_of (laws.sum a (pos m) (neg_ℤ (pos n)) ∙ ap (step a) sum ∙ laws.none a is.label)
    ∙ ap (λ (way : Way). answer base way a) (sym together.1)
two_answers laws base (ways.Minus m) (ways.Plus n) whole a together is =
    let same = together.0 in
    let sum : neg_ℤ (pos m) +ℤ pos n ≡ pos 0 = omega (arith, ints, same) in
    ap text_of (laws.sum a (neg_ℤ (pos m)) (pos n) ∙ ap (step a) sum ∙ laws.none a is.label)
    ∙ ap (λ (way : Way). answer base way a) (sym together.1)
two_answers laws base first next whole a together is = absurd together

says_one : (first next whole : Way) → AreTogether first next whole → SaysALabel first
says_one ways.Number next whole together = tt
says_one ways.Label next whole together = tt
says_one ways.Seconds next whole together = tt
says_one (ways.Plus m) next whole together = tt
says_one (ways.Minus m) next whole together = tt
says_one first next whole together = absurd together

all_two_answers : AnswerLaws → (base : Timebase) (first next whole : Way) (labels : List Address)
    → AreTogether first next whole → AllByRecursion (IsOf base) labels
    → answers (label_run_of base next) (map (label_told first) labels) ≡ answers (label_run_of base whole) labels
all_two_answers laws base first next whole [] together all = refl
all_two_answers laws base first next whole (a ∷ labels) together all =
    ap₂ (λ (line more : List ℕ). (line ++ codes "\n") ++ more)
    (two_answers laws base first next whole a together all.0)
    (all_two_answers laws base first next whole labels together all.1)

-- ---- what is answered to answers

pub answered_again : AnswerLaws → (run : LabelRunning) (bytes written : List ℕ) → IsInput (along_labels run) bytes
    → Meaning.output (along_labels run) bytes written → IsAnsweredAgain run bytes written
answered_again laws run bytes written input output = λ next whole together again writes.
    let base = run.base in
    let behind = label_run_of base next in
    let p = are_answered laws.labels run bytes written input output in
    let read = whole_read laws.labels base bytes p.lines p.labels p.text p.few p.say in
    let all = lines_say_labels laws.labels base p.lines p.labels p.say in
    let says = says_one run.way next whole together in
    let lines = map (answer base run.way) p.labels in
    let has = subst (λ (text : List ℕ). HasLines text lines) (sym p.are)
    (answers_have_lines laws base run.way p.labels says all) in
    let one = ap (length {A = Result Address ℕ}) p.say in
    let few = p.few in
    let within : length lines ≤ MAX_LINES = omega (
      arith,
      one,
      few,
      length-map p.lines (read_line base),
      length-map p.labels (λ (a : Address). ok a),
      length-map p.labels (answer base run.way),
    ) in
    let told = answered_whole laws.labels behind written lines (map (label_told run.way) p.labels) has within
    (answers_say laws base run.way p.labels says all) in
    record {
      input = told.0;
      output = writes.output ∙ ap (answers (label_run_of base whole)) read.all
          ∙ sym (all_two_answers laws base run.way next whole p.labels together all)
          ∙ told.1;
    }

-- a sum of nothing
no_steps : AnswerLaws → (base : Timebase) (labels : List Address) → AllByRecursion (IsOf base) labels
    → answers (label_run_of base ways.Label) labels ≡ answers (label_run_of base (ways.Plus 0)) labels
no_steps laws base [] all = refl
no_steps laws base (a ∷ labels) all =
    ap₂ (λ (line more : List ℕ). (line ++ codes "\n") ++ more) (ap text_of (sym (laws.none a all.0.label)))
    (no_steps laws base labels all.1)

pub nothing_added : AnswerLaws → (base : Timebase) (bytes written : List ℕ) → Writes base ways.Label bytes written
    → Writes base (ways.Plus 0) bytes written
nothing_added laws base bytes written writes =
    let p = are_answered laws.labels (label_run_of base ways.Label) bytes written writes.input writes.output in
    let read = whole_read laws.labels base bytes p.lines p.labels p.text p.few p.say in
    let all = lines_say_labels laws.labels base p.lines p.labels p.say in
    record {
      input = record {
        verdict = writes.input.verdict;
        unspent = λ spent. spent;
        end = writes.input.end;
      };
      output = p.are ∙ no_steps laws base p.labels all
          ∙ ap (answers (label_run_of base (ways.Plus 0))) (sym read.all);
    }
