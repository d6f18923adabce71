-- The lines of a text are answered one by one: all of them, or those before the first that says no label, or as many as
-- are read.
use Rattle.std.proofs.Common.{◌≡◌, ◌⊎◌, ℕ, ◌+◌, ◌≤◌, List, [], ◌∷◌, ◌++◌, length, inl, inr, refl, sym, ap}
use Rattle.std.proofs.Common.{ap₂, ◌∙◌, subst, arith}
use Rattle.std.specs.Prelude.{Option, Some, None, Result, Ok, Err}
use Rattle.std.specs.Option.{option_map}
use Rattle.std.proofs.lemmas.Bool.{cases_lt}
use Rattle.tc_address.specs.Label.{Address}
use Rattle.tc_command.specs.Command.{IsCommand}
use Rattle.tc_command.specs.declared.input_fault.InputFault.{InputFault}
use Rattle.tc_command.specs.declared.input_fault.InputFault.TheVariants.{Labels}
use Rattle.tc_command.specs.declared.stop.Stop.TheVariants as stops
use Rattle.tc_command.specs.Meaning.{IsInput, Meaning}
use Rattle.tc_command.specs.Stops.{StopsAlong}
use Rattle.tc_command.specs.Told.{IsLawful, KeepsPromise}
use Rattle.tc_io.specs.Verdict.{Verdict, good, past_limit, refused, verdict_as}
use Rattle.tc_io.specs.VerdictLemmas.{ends_whole, good_too, is_good, is_refused}
use Rattle.tc_job.specs.LabelRun.{LabelRunning}
use Rattle.label_lines.specs.declared.timebase.Timebase.{Timebase}
use Rattle.label_lines.specs.Line.{read_line}
use Rattle.label_text.specs.declared.fault.LineFault.{LineFault}
use Rattle.label_text.specs.declared.reader.TheConstants.{MAX_LINES}
use Rattle.label_text.specs.LabelText.{end_fault_of, labels_of, reading_of}
use Rattle.label_command.specs.Labels.{AnswersTheLines, IsRefusedAtALine, along_labels, answers, told_labels}
use Rattle.label_command.specs.TextLines.{HasLines, IsFirstRefused, SayLabels}
use Rattle.label_command.proofs.LinesRead.{IsLimitedSo, IsReadSo, IsRefusedSo, limited_text, refused_text, whole_text}
use Rattle.label_command.proofs.ShortLines.{LabelLaws}
use Rattle.label_command.proofs.TextSplit.{lines_of_text}

-- ---- what lines say: one of three

record AllSay (base : Timebase) (n : ℕ) (lines : List (List ℕ)) : Type 0 where
  pub labels : List Address
  pub say : SayLabels base lines labels
  pub few : n + length lines ≤ MAX_LINES + 1

record OneSaysNone (base : Timebase) (n : ℕ) (lines : List (List ℕ)) : Type 0 where
  pub labels : List Address
  pub column : ℕ
  pub before : List (List ℕ)
  pub line : List ℕ
  pub behind : List (List ℕ)
  pub are : lines ≡ before ++ line ∷ behind
  pub say : SayLabels base before labels
  pub none : read_line base line ≡ Err column
  pub within : n + length before ≤ MAX_LINES

record OneTooMany (base : Timebase) (n : ℕ) (lines : List (List ℕ)) : Type 0 where
  pub labels : List Address
  pub before : List (List ℕ)
  pub line : List ℕ
  pub behind : List (List ℕ)
  pub are : lines ≡ before ++ line ∷ behind
  pub say : SayLabels base before labels
  pub last : n + length before ≡ MAX_LINES + 1

abbrev Said : Timebase → ℕ → List (List ℕ) → Type 0
Said base n lines = AllSay base n lines ⊎ (OneSaysNone base n lines ⊎ OneTooMany base n lines)

one_more_says : (base : Timebase) (line : List ℕ) (lines : List (List ℕ)) (label : Address) (labels : List Address)
    → read_line base line ≡ Ok label → SayLabels base lines labels → SayLabels base (line ∷ lines) (label ∷ labels)
one_more_says base line lines label labels said say =
    ap₂ (λ (x : Result Address ℕ) (l : List (Result Address ℕ)). x ∷ l) said say

behind_it : (base : Timebase) (n : ℕ) (line : List ℕ) (lines : List (List ℕ)) (label : Address)
    → read_line base line ≡ Ok label → Said base (n + 1) lines → Said base n (line ∷ lines)
behind_it base n line lines label said (inl all) = inl (record {
  labels = label ∷ all.labels;
  say = one_more_says base line lines label all.labels said all.say;
  few = let few = all.few in omega (arith, few);
})
behind_it base n line lines label said (inr (inl none)) = inr (inl (record {
  labels = label ∷ none.labels;
  column = none.column;
  before = line ∷ none.before;
  line = none.line;
  behind = none.behind;
  are = ap (λ (l : List (List ℕ)). line ∷ l) none.are;
  say = one_more_says base line none.before label none.labels said none.say;
  none = none.none;
  within = let within = none.within in omega (arith, within);
}))
behind_it base n line lines label said (inr (inr many)) = inr (inr (record {
  labels = label ∷ many.labels;
  before = line ∷ many.before;
  line = many.line;
  behind = many.behind;
  are = ap (λ (l : List (List ℕ)). line ∷ l) many.are;
  say = one_more_says base line many.before label many.labels said many.say;
  last = let last = many.last in omega (arith, last);
}))

said : (base : Timebase) (n : ℕ) (lines : List (List ℕ)) → n ≤ MAX_LINES + 1 → Said base n lines
said base n [] within = inl (record { labels = []; say = refl; few = omega (arith, within) })
said base n (line ∷ lines) within = elim (cases_lt MAX_LINES n) [
  | inl past ↦ inr (inr (record {
    labels = [];
    before = [];
    line = line;
    behind = lines;
    are = refl;
    say = refl;
    last = omega (arith, past, within);
  }))
  | inr some ↦ by_line (read_line base line) refl (said base (n + 1) lines (omega (arith, some)))
]
  where
    by_line : (r : Result Address ℕ) → read_line base line ≡ r → Said base (n + 1) lines → Said base n (line ∷ lines)
    by_line (Ok label) is more = behind_it base n line lines label is more
    by_line (Err column) is more = elim (cases_lt MAX_LINES n) [
      | inl past ↦ inr (inr (record {
        labels = [];
        before = [];
        line = line;
        behind = lines;
        are = refl;
        say = refl;
        last = omega (arith, past, within);
      }))
      | inr some ↦ inr (inl (record {
        labels = [];
        column = column;
        before = [];
        line = line;
        behind = lines;
        are = refl;
        say = refl;
        none = is;
        within = omega (arith, some);
      }))
    ]

-- ---- and their text is read so

pub whole_read : LabelLaws → (base : Timebase) (text : List ℕ) (lines : List (List ℕ)) (labels : List Address)
    → HasLines text lines → length lines ≤ MAX_LINES → SayLabels base lines labels
    → IsReadSo (reading_of base text) labels
whole_read laws base text lines labels has few say =
    let count = ap (length {A = List ℕ}) has.lines_are in
    subst (λ (t : List ℕ). IsReadSo (reading_of base t) labels) (sym has.are)
    (whole_text laws base 1 has.front has.rest labels has.each has.last (omega (arith, few, count))
    (subst (λ (ls : List (List ℕ)). SayLabels base ls labels) has.lines_are say))

refused_read : LabelLaws → (base : Timebase) (text : List ℕ) (lines : List (List ℕ)) (labels : List Address)
    (fault : LineFault) → HasLines text lines → IsFirstRefused base lines labels fault → fault.line ≤ MAX_LINES
    → IsRefusedSo (reading_of base text) labels fault
refused_read laws base text lines labels fault has none within =
    let number = none.number in
    subst (λ (t : List ℕ). IsRefusedSo (reading_of base t) labels fault) (sym has.are)
    (refused_text laws base 1 has.front has.rest none.before none.line none.behind labels fault.column has.each has.last
    (sym has.lines_are ∙ none.are) none.say none.refused fault.line (omega (arith, number)) within)

limited_read : LabelLaws → (base : Timebase) (text : List ℕ) (lines before : List (List ℕ)) (line : List ℕ)
    (behind : List (List ℕ)) (labels : List Address) → HasLines text lines → lines ≡ before ++ line ∷ behind
    → SayLabels base before labels → length before ≡ MAX_LINES → IsLimitedSo (reading_of base text) labels
limited_read laws base text lines before line behind labels has are say all =
    subst (λ (t : List ℕ). IsLimitedSo (reading_of base t) labels) (sym has.are)
    (limited_text laws base 1 has.front has.rest before line behind labels has.each (sym has.lines_are ∙ are) say
    (omega (arith, all)))

none_in : (base : Timebase) (lines : List (List ℕ)) (none : OneSaysNone base 1 lines)
    → IsFirstRefused base lines none.labels (record { line = length none.before + 1; column = none.column })
none_in base lines none = record {
  before = none.before;
  line = none.line;
  behind = none.behind;
  are = none.are;
  say = none.say;
  refused = none.none;
  number = refl;
}

-- ---- at the command

pub answered_whole : LabelLaws → (run : LabelRunning) (text : List ℕ) (lines : List (List ℕ)) (labels : List Address)
    → HasLines text lines → length lines ≤ MAX_LINES → SayLabels run.base lines labels
    → IsInput (along_labels run) text × Meaning.output (along_labels run) text (answers run labels)
answered_whole laws run text lines labels has few say =
    let read = whole_read laws run.base text lines labels has few say in (
      record {
        verdict = good_too Labels (reading_of run.base text).verdict read.is_good;
        unspent = λ spent. spent;
        end = ap (option_map Labels) read.no_fault;
      },
      ap (answers run) (sym read.all),
    )

pub answered_before : LabelLaws → (run : LabelRunning) (text : List ℕ) (lines : List (List ℕ)) (labels : List Address)
    (fault : LineFault) → HasLines text lines → IsFirstRefused run.base lines labels fault → fault.line ≤ MAX_LINES
    → StopsAlong (along_labels run) (stops.Refused (Labels fault)) (Some []) text (answers run labels)
answered_before laws run text lines labels fault has none within =
    let read = refused_read laws run.base text lines labels fault has none within in
    let part = ap (answers run) (sym read.all) in
    elim (read.told) [
      | inl shown ↦ inl (record { is = ap (verdict_as Labels) shown; unspent = λ spent. spent }, part)
      | inr ends ↦ inr (
        λ reads. refl,
        (
          record { is = good_too Labels (reading_of run.base text).verdict ends.0; unspent = λ spent. spent },
          ap (option_map Labels) ends.1,
          part,
        ),
      )
    ]

pub answered_to_the_limit : LabelLaws → (run : LabelRunning) (text : List ℕ) (lines before : List (List ℕ))
    (line : List ℕ) (behind : List (List ℕ)) (labels : List Address) → HasLines text lines
    → lines ≡ before ++ line ∷ behind → SayLabels run.base before labels → length before ≡ MAX_LINES
    → StopsAlong (along_labels run) stops.Limit (Some []) text (answers run labels)
answered_to_the_limit laws run text lines before line behind labels has are say all =
    let read = limited_read laws run.base text lines before line behind labels has are say all in
    inl (record { is = ap (verdict_as Labels) read.is_past; unspent = λ spent. spent }, ap (answers run) (sym read.all))

-- ---- and what stopped so stopped there

no_good_refused : {F : Type 0} (v : Verdict F) (fault : F) → v ≡ good → v ≡ refused fault → ⊥
no_good_refused v fault one other = cc

no_good_past : {F : Type 0} (v : Verdict F) → v ≡ good → v ≡ past_limit → ⊥
no_good_past v one other = cc

no_past_refused : {F : Type 0} (v : Verdict F) (fault : F) → v ≡ past_limit → v ≡ refused fault → ⊥
no_past_refused v fault one other = cc

no_fault_there : {F : Type 0} (o : Option F) (fault : F) → o ≡ None → o ≡ Some fault → ⊥
no_fault_there o fault none some = cc

one_refused : {F : Type 0} (v : Verdict F) (a b : F) → v ≡ refused a → v ≡ refused b → a ≡ b
one_refused v a b one other = cc

one_some : {F : Type 0} (o : Option F) (a b : F) → o ≡ Some a → o ≡ Some b → a ≡ b
one_some o a b one other = cc

-- the fault that some bytes show, or the end behind them
abbrev Faulty : Timebase → List ℕ → LineFault → Type 0
Faulty base text fault = ((reading_of base text).verdict ≡ refused fault)
    ⊎ (((reading_of base text).verdict ≡ good) × (end_fault_of base text ≡ Some fault))

one_fault : (base : Timebase) (text : List ℕ) (a b : LineFault) → Faulty base text a → Faulty base text b → a ≡ b
one_fault base text a b (inl one) (inl other) = one_refused (reading_of base text).verdict a b one other
one_fault base text a b (inl one) (inr other) =
    absurd (no_good_refused (reading_of base text).verdict a other.0 one)
one_fault base text a b (inr one) (inl other) =
    absurd (no_good_refused (reading_of base text).verdict b one.0 other)
one_fault base text a b (inr one) (inr other) = one_some (end_fault_of base text) a b one.1 other.1

-- if a text has a fault, it is that of its first line that says no label
record FirstRefused (base : Timebase) (text : List ℕ) (lines : List (List ℕ)) (fault : LineFault) : Type 0 where
  pub labels : List Address
  pub first : IsFirstRefused base lines labels fault
  pub are : (reading_of base text).labels ≡ labels

first_refused : LabelLaws → (base : Timebase) (text : List ℕ) (lines : List (List ℕ)) (fault : LineFault)
    → HasLines text lines → Faulty base text fault → Said base 1 lines → FirstRefused base text lines fault
first_refused laws base text lines fault has faulty (inl all) =
    let few = all.few in
    let read = whole_read laws base text lines all.labels has (omega (arith, few)) all.say in
    absurd (none_here faulty read)
  where
    none_here : {labels : List Address} → Faulty base text fault → IsReadSo (reading_of base text) labels → ⊥
    none_here (inl shown) read = no_good_refused (reading_of base text).verdict fault read.is_good shown
    none_here (inr ends) read = no_fault_there (end_fault_of base text) fault read.no_fault ends.1
first_refused laws base text lines fault has faulty (inr (inl none)) =
    let within = none.within in
    let there : LineFault = record { line = length none.before + 1; column = none.column } in
    let first = none_in base lines none in
    let read = refused_read laws base text lines none.labels there has first (omega (arith, within)) in
    let same : there ≡ fault = one_fault base text there fault read.told faulty in
    record {
      labels = none.labels;
      first = subst (λ (f : LineFault). IsFirstRefused base lines none.labels f) same first;
      are = read.all;
    }
first_refused laws base text lines fault has faulty (inr (inr many)) =
    let last = many.last in
    let read = limited_read laws base text lines many.before many.line many.behind many.labels has many.are many.say
    (omega (arith, last)) in
    absurd (none_here faulty read.is_past)
  where
    none_here : Faulty base text fault → (reading_of base text).verdict ≡ past_limit → ⊥
    none_here (inl shown) past = no_past_refused (reading_of base text).verdict fault past shown
    none_here (inr ends) past = no_good_past (reading_of base text).verdict ends.0 past

some_fault : (o : Option LineFault) (fault : InputFault) → option_map Labels o ≡ Some fault
    → (place : LineFault) × (o ≡ Some place) × (fault ≡ Labels place)
some_fault None fault is = absurd cc
some_fault (Some place) fault is = (place, refl, cc)

pub stopped_at_a_line : LabelLaws → (run : LabelRunning) (text written : List ℕ) (lines : List (List ℕ))
    (left : Option (List ℕ)) (fault : InputFault) → HasLines text lines
    → StopsAlong (along_labels run) (stops.Refused fault) left text written → IsRefusedAtALine run lines fault written
stopped_at_a_line laws run text written lines left fault has (inl shown) =
    let base = run.base in
    let there = is_refused Labels (reading_of base text).verdict fault shown.0.is in
    let first = first_refused laws base text lines there.0 has (inl there.1) (said base 1 lines (omega arith)) in
    record {
      place = there.0;
      names = one_refused (verdict_as Labels (reading_of base text).verdict) fault (Labels there.0) shown.0.is
          (ap (verdict_as Labels) there.1);
      labels = first.labels;
      first = first.first;
      are = shown.1 ∙ ap (answers run) first.are;
    }
stopped_at_a_line laws run text written lines left fault has (inr ends) =
    let base = run.base in
    let there = some_fault (end_fault_of base text) fault ends.1.1 in
    let is = is_good Labels (reading_of base text).verdict ends.1.0.is in
    let first = first_refused laws base text lines there.0 has (inr (is, there.1)) (said base 1 lines (omega arith)) in
    record {
      place = there.0;
      names = there.2;
      labels = first.labels;
      first = first.first;
      are = ends.1.2 ∙ ap (answers run) first.are;
    }

-- ---- what is claimed of it

keeps : LabelLaws → (run : LabelRunning) (text written : List ℕ) (lines : List (List ℕ)) → HasLines text lines
    → IsInput (along_labels run) text → Meaning.output (along_labels run) text written → Said run.base 1 lines
    → AnswersTheLines run text written
keeps laws run text written lines has input output (inl all) =
    let few = all.few in
    let within : length lines ≤ MAX_LINES = omega (arith, few) in
    let read = whole_read laws run.base text lines all.labels has within all.say in
    record {
      lines = lines;
      text = has;
      few = within;
      labels = all.labels;
      say = all.say;
      are = output ∙ ap (answers run) read.all;
    }
keeps laws run text written lines has input output (inr (inl none)) =
    let within = none.within in
    let there : LineFault = record { line = length none.before + 1; column = none.column } in
    let read = refused_read laws run.base text lines none.labels there has (none_in run.base lines none)
    (omega (arith, within)) in
    absurd (none_here there read)
  where
    none_here : (fault : LineFault) {labels : List Address} → IsRefusedSo (reading_of run.base text) labels fault → ⊥
    none_here fault read = elim (read.told) [
      | inl shown ↦ no_good_refused (reading_of run.base text).verdict fault
          (is_good Labels (reading_of run.base text).verdict input.verdict) shown
      | inr ends ↦ no_fault_there (end_fault_of run.base text) fault
          (ends_whole Labels (end_fault_of run.base text) input.end) ends.1
    ]
keeps laws run text written lines has input output (inr (inr many)) =
    let last = many.last in
    let read = limited_read laws run.base text lines many.before many.line many.behind many.labels has many.are many.say
    (omega (arith, last)) in
    absurd (no_good_past (reading_of run.base text).verdict
    (is_good Labels (reading_of run.base text).verdict input.verdict) read.is_past)

pub are_answered : LabelLaws → (run : LabelRunning) (text written : List ℕ) → IsInput (along_labels run) text
    → Meaning.output (along_labels run) text written → AnswersTheLines run text written
are_answered laws run text written input output =
    let split = lines_of_text text in
    keeps laws run text written split.0 split.1 input output (said run.base 1 split.0 (omega arith))

-- what a promise names are the labels of the bytes
named : LabelLaws → (run : LabelRunning) (text written : List ℕ) → AnswersTheLines run text written
    → written ≡ answers run (labels_of run.base text)
named laws run text written p =
    p.are ∙ ap (answers run) (sym (whole_read laws run.base text p.lines p.labels p.text p.few p.say).all)

pub lines_are_lawful : LabelLaws → (run : LabelRunning) → IsCommand (along_labels run) → IsLawful (told_labels run)
lines_are_lawful laws run command = record {
  command = command;
  pinned = λ text a b p q. named laws run text a p ∙ sym (named laws run text b q);
  unlimited = λ none input spent. spent;
}

pub lines_are_kept : LabelLaws → (run : LabelRunning) → KeepsPromise (told_labels run)
lines_are_kept laws run = λ text written are input output. are_answered laws run text written input output
