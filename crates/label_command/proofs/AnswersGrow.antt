-- What is answered grows by the line of the label that a byte completes.
use Rattle.std.proofs.Common.{◌≡◌, ℕ, ◌<◌, List, [], ◌∷◌, ◌++◌, length, refl, sym, ◌∙◌, ap, arith}
use Rattle.std.proofs.Common.{append-nil}
use Rattle.std.specs.Prelude.{None}
use Rattle.std.specs.Option.{option_map}
use Rattle.std.proofs.lemmas.Grind.{flat_map-append}
use Rattle.std.proofs.lemmas.List.{length-append}
use Rattle.label_command.specs.declared.labels.LabelAnswers.{LabelAnswers}
use Rattle.label_command.specs.KeptLabels.{IsGoing, Stands, bytes_left}
use Rattle.label_command.specs.Labels.{along_labels, answers}
use Rattle.label_lines.specs.Answer.{answer_line}
use Rattle.label_lines.specs.declared.timebase.Timebase.{Timebase}
use Rattle.label_text.specs.declared.fault.LineFault.{LineFault}
use Rattle.label_text.specs.declared.reader.LineRead.{LineRead}
use Rattle.label_text.specs.declared.reader.LineRead.TheVariants.{Nothing, Label, Fault, Limit}
use Rattle.label_text.specs.LabelText.{IsPlace, Place, Reading, after, at_end, ended_at, fault_said, label_said}
use Rattle.label_text.specs.LabelText.{labels_of, reading_from, reading_of, said_by, then_read, with_labels}
use Rattle.tc_address.specs.Label.{Address}
use Rattle.tc_command.specs.declared.input_fault.InputFault.TheVariants.{Labels}
use Rattle.tc_command.specs.declared.halt.Halt.TheVariants as halts
use Rattle.tc_command.specs.Halt.{IsHalt}
use Rattle.tc_command.specs.Meaning.{IsInput, Shows}
use Rattle.tc_io.specs.Verdict.{good, past_limit, verdict_as}
use Rattle.tc_io.specs.VerdictLemmas.{good_too}
use Rattle.tc_job.specs.LabelRun.{LabelRunning}

-- what the law of the text says of good bytes
abbrev pub GoesOn : Type 0
GoesOn = (base : Timebase) (front more : List ℕ) → (reading_of base front).verdict ≡ good
    → reading_of base (front ++ more)
    ≡ with_labels (reading_of base front).labels (reading_from (reading_of base front).place more)

-- ---- bytes behind those that it was given

-- what a byte says that says this
pub said_so : (p : Place) (byte : ℕ) (more : List ℕ) (said : LineRead) → said_by p byte ≡ said
    → reading_from p (byte ∷ more) ≡ then_read p said (reading_from (after said byte p) more)
unfolding reading_from
said_so p byte more said is = ap (λ (s : LineRead). then_read p s (reading_from (after s byte p) more)) is

-- the reading of all bytes
pub read_on : GoesOn → (s : LabelAnswers) (front written : List ℕ) → Stands s front written
    → (byte : ℕ) (more : List ℕ) (said : LineRead) → said_by s.reader byte ≡ said
    → reading_of s.run.base (front ++ byte ∷ more)
    ≡ with_labels (reading_of s.run.base front).labels
    (then_read s.reader said (reading_from (after said byte s.reader) more))
read_on law s front written stands byte more said is =
    let labels = (reading_of s.run.base front).labels in
    law s.run.base front (byte ∷ more) stands.is_good
    ∙ ap (λ (p : Place). with_labels labels (reading_from p (byte ∷ more))) stands.place
    ∙ ap (with_labels labels) (said_so s.reader byte more said is)

pub nothing_behind : (p : Place) → reading_from p [] ≡ ended_at good p
unfolding reading_from
nothing_behind p = refl

-- the lines of labels, and of one more
pub answers_last : (run : LabelRunning) (labels : List Address) (label : Address)
    → answers run (labels ++ label ∷ []) ≡ answers run labels ++ answer_line run.base run.way label
answers_last run labels label =
    flat_map-append (answer_line run.base run.way) labels (label ∷ [])
    ∙ ap (λ (l : List ℕ). answers run labels ++ l) (append-nil (answer_line run.base run.way label))

same_answers : (run : LabelRunning) (written : List ℕ) (labels : List Address) (r : Reading)
    → written ≡ answers run labels → r.labels ≡ labels ++ [] → written ≡ answers run r.labels
same_answers run written labels r are is = are ∙ ap (answers run) (sym (append-nil labels) ∙ sym is)

-- ---- no label

pub none_more : GoesOn → (s : LabelAnswers) (q : Place) (front written : List ℕ) → Stands s front written
    → (byte : ℕ) → said_by s.reader byte ≡ Nothing → q ≡ after Nothing byte s.reader
    → Stands (record s { reader = q }) (front ++ byte ∷ []) (written ++ [])
none_more law s q front written stands byte is next =
    let labels = (reading_of s.run.base front).labels in
    let all = read_on law s front written stands byte [] Nothing is
    ∙ ap (with_labels labels) (nothing_behind (after Nothing byte s.reader)) in
    record {
      is_good = ap (λ (r : Reading). r.verdict) all;
      place = ap (λ (r : Reading). r.place) all ∙ sym next;
      are = append-nil written ∙ same_answers s.run written labels (reading_of s.run.base (front ++ byte ∷ []))
          stands.are (ap (λ (r : Reading). r.labels) all);
    }

-- ---- a label

labels_more : GoesOn → (s : LabelAnswers) (front written : List ℕ) → Stands s front written
    → (byte : ℕ) (label : Address) → said_by s.reader byte ≡ Label label
    → reading_of s.run.base (front ++ byte ∷ [])
    ≡ with_labels (reading_of s.run.base front).labels
    (with_labels (label ∷ []) (ended_at good (after (Label label) byte s.reader)))
labels_more law s front written stands byte label is =
    let labels = (reading_of s.run.base front).labels in
    read_on law s front written stands byte [] (Label label) is
    ∙ ap (λ (r : Reading). with_labels labels (with_labels (label ∷ []) r))
    (nothing_behind (after (Label label) byte s.reader))

-- its line was written
pub one_more : GoesOn → (s : LabelAnswers) (q : Place) (front written : List ℕ)
    → Stands s front written → (byte : ℕ) (label : Address) → said_by s.reader byte ≡ Label label
    → q ≡ after (Label label) byte s.reader
    → Stands (record s { reader = q }) (front ++ byte ∷ []) (written ++ answer_line s.run.base s.run.way label)
one_more law s q front written stands byte label is next =
    let all = labels_more law s front written stands byte label is in
    let line = answer_line s.run.base s.run.way label in
    record {
      is_good = ap (λ (r : Reading). r.verdict) all;
      place = ap (λ (r : Reading). r.place) all ∙ sym next;
      are = ap (λ (l : List ℕ). l ++ line) stands.are
          ∙ sym (answers_last s.run (reading_of s.run.base front).labels label)
          ∙ ap (answers s.run) (sym (ap (λ (r : Reading). r.labels) all));
    }

-- ---- a fault, and the limit

pub a_fault : GoesOn → (s : LabelAnswers) (front written : List ℕ) → Stands s front written
    → (byte : ℕ) (rest : List ℕ) (fault : LineFault) → said_by s.reader byte ≡ Fault fault
    → IsHalt (along_labels s.run) (halts.Refused (Labels fault)) (front ++ byte ∷ rest) (written ++ [])
a_fault law s front written stands byte rest fault is =
    let labels = (reading_of s.run.base front).labels in
    let all = read_on law s front written stands byte rest (Fault fault) is in (
      record { is = ap (λ (r : Reading). verdict_as Labels r.verdict) all; unspent = λ spent. spent },
      append-nil written ∙ same_answers s.run written labels (reading_of s.run.base (front ++ byte ∷ rest)) stands.are
          (ap (λ (r : Reading). r.labels) all),
    )

pub the_limit : GoesOn → (s : LabelAnswers) (front written : List ℕ) → Stands s front written
    → (byte : ℕ) (rest : List ℕ) → said_by s.reader byte ≡ Limit
    → Shows (along_labels s.run) past_limit (front ++ byte ∷ rest)
    × (written ++ [] ≡ answers s.run (reading_of s.run.base (front ++ byte ∷ rest)).labels)
the_limit law s front written stands byte rest is =
    let labels = (reading_of s.run.base front).labels in
    let all = read_on law s front written stands byte rest Limit is in (
      record { is = ap (λ (r : Reading). verdict_as Labels r.verdict) all; unspent = λ spent. spent },
      append-nil written ∙ same_answers s.run written labels (reading_of s.run.base (front ++ byte ∷ rest)) stands.are
          (ap (λ (r : Reading). r.labels) all),
    )

-- ---- the end

-- if no line is left that says a label or none, the text is an input
pub ends_so : (s : LabelAnswers) (bytes written : List ℕ) → Stands s bytes written → (said : LineRead)
    → at_end s.reader ≡ said → fault_said said ≡ None → IsInput (along_labels s.run) bytes
ends_so s bytes written stands said is no_fault =
    let end = ap at_end stands.place ∙ is in
    record {
      verdict = good_too Labels _ stands.is_good;
      unspent = λ spent. spent;
      end = ap (λ (said : LineRead). option_map Labels (fault_said said)) end ∙ ap (option_map Labels) no_fault;
    }

pub written_so : (s : LabelAnswers) (bytes written : List ℕ) → Stands s bytes written → (said : LineRead)
    → at_end s.reader ≡ said
    → labels_of s.run.base bytes ≡ (reading_of s.run.base bytes).labels ++ label_said said
written_so s bytes written stands said is =
    ap (λ (said : LineRead). (reading_of s.run.base bytes).labels ++ label_said said) (ap at_end stands.place ∙ is)

-- ---- what the engine keeps

pub base_stays : (said : LineRead) (byte : ℕ) (p : Place) → (after said byte p).base ≡ p.base
base_stays Nothing byte p = refl
base_stays (Label label) byte p = refl
base_stays (Fault fault) byte p = refl
base_stays Limit byte p = refl

pub going_on : (s : LabelAnswers) (q : Place) (said : LineRead) (byte : ℕ) → IsGoing s → IsPlace q
    → q ≡ after said byte s.reader → IsGoing (record s { reader = q })
going_on s q said byte going valid is =
    record { place = valid; base = ap (λ (p : Place). p.base) is ∙ base_stays said byte s.reader ∙ going.base }

pub fewer_left : (p q : Place) (byte : ℕ) → IsPlace q → q ≡ after Nothing byte p → bytes_left q < bytes_left p
fewer_left p q byte valid is =
    let line = ap (λ (x : Place). length x.line) is ∙ length-append p.line (byte ∷ []) in
    let number = ap (λ (x : Place). x.number) is in
    omega (arith, line, number, valid.line)

pub a_line_less : (p q : Place) (byte : ℕ) (label : Address) → IsPlace p → IsPlace q → q ≡ after (Label label) byte p
    → bytes_left q < bytes_left p
a_line_less p q byte label here valid is =
    let line = ap (λ (x : Place). length x.line) is in
    let number = ap (λ (x : Place). x.number) is in
    omega (arith, line, number, valid.number, here.line)
