-- A sum grows by the number of the label that a byte completes.
use Rattle.std.proofs.Common.{◌≡◌, ℕ, ◌+◌, List, [], ◌∷◌, ◌++◌, refl, sym, ◌∙◌, ap, arith, append-nil}
use Rattle.std.specs.Prelude.{None}
use Rattle.std.specs.Option.{option_map}
use Rattle.label_command.specs.declared.labels.LabelAnswers.{LabelAnswers}
use Rattle.label_command.specs.declared.sums.LabelSum.{LabelSum}
use Rattle.label_command.specs.KeptLabels as kept
use Rattle.label_command.specs.KeptSums.{IsAdding, Stands}
use Rattle.label_command.specs.Labels.{answers}
use Rattle.label_command.specs.Sums.{along_sum, sum_of}
use Rattle.label_command.proofs.AnswersGrow.{GoesOn, base_stays, nothing_behind, read_on}
use Rattle.label_lines.specs.declared.way.Way.TheVariants as ways
use Rattle.label_text.specs.declared.fault.LineFault.{LineFault}
use Rattle.label_text.specs.declared.reader.LineRead.{LineRead}
use Rattle.label_text.specs.declared.reader.LineRead.TheVariants.{Nothing, Label, Fault, Limit}
use Rattle.label_text.specs.LabelText.{IsPlace, Place, Reading, after, at_end, fault_said, label_said}
use Rattle.label_text.specs.LabelText.{labels_of, reading_from, reading_of, said_by, then_read, with_labels}
use Rattle.tc_address.specs.Label.{Address}
use Rattle.tc_address.specs.Numbering.{number_of}
use Rattle.tc_command.specs.declared.input_fault.InputFault.TheVariants.{Labels}
use Rattle.tc_command.specs.declared.halt.Halt.TheVariants as halts
use Rattle.tc_command.specs.Halt.{IsHalt}
use Rattle.tc_command.specs.Meaning.{IsInput, Shows}
use Rattle.tc_io.specs.Verdict.{past_limit, verdict_as}
use Rattle.tc_io.specs.VerdictLemmas.{good_too}
use Rattle.tc_job.specs.LabelRun.{label_run_of}

-- ---- sums

-- the sum of labels, and of one more
pub sum_last : (labels : List Address) (label : Address)
    → sum_of (labels ++ label ∷ []) ≡ sum_of labels + number_of label
sum_last [] label = omega arith
sum_last (first ∷ labels) label = let more = sum_last labels label in omega (arith, more)

-- and of others behind them
pub sum_both : (labels others : List Address) → sum_of (labels ++ others) ≡ sum_of labels + sum_of others
sum_both [] others = omega arith
sum_both (first ∷ labels) others = let more = sum_both labels others in omega (arith, more)

-- ---- as the engine that answers the same lines

as_answers : LabelSum → LabelAnswers
as_answers s = record { reader = s.reader; run = label_run_of s.base ways.Number }

stands_too : (s : LabelSum) (front written : List ℕ) → Stands s front written
    → kept.Stands (as_answers s) front (answers (label_run_of s.base ways.Number) (reading_of s.base front).labels)
unfolding as_answers
stands_too s front written stands = record { is_good = stands.is_good; place = stands.place; are = refl }

-- the reading of all bytes
all_read : GoesOn → (s : LabelSum) (front written : List ℕ) → Stands s front written
    → (byte : ℕ) (more : List ℕ) (said : LineRead) → said_by s.reader byte ≡ said
    → reading_of s.base (front ++ byte ∷ more)
    ≡ with_labels (reading_of s.base front).labels
    (then_read s.reader said (reading_from (after said byte s.reader) more))
unfolding as_answers
all_read law s front written stands byte more said is =
    read_on law (as_answers s) front _ (stands_too s front written stands) byte more said is

-- ---- no label

pub none_more : GoesOn → (s : LabelSum) (q : Place) (front written : List ℕ) → Stands s front written
    → (byte : ℕ) → said_by s.reader byte ≡ Nothing → q ≡ after Nothing byte s.reader
    → Stands (record s { reader = q }) (front ++ byte ∷ []) (written ++ [])
none_more law s q front written stands byte is next =
    let labels = (reading_of s.base front).labels in
    let all = all_read law s front written stands byte [] Nothing is
    ∙ ap (with_labels labels) (nothing_behind (after Nothing byte s.reader)) in
    record {
      is_good = ap (λ (r : Reading). r.verdict) all;
      place = ap (λ (r : Reading). r.place) all ∙ sym next;
      sum = stands.sum ∙ ap sum_of (sym (append-nil labels) ∙ sym (ap (λ (r : Reading). r.labels) all));
      none = append-nil written ∙ stands.none;
    }

-- ---- a label

pub one_more : GoesOn → (s : LabelSum) (q : Place) (sum : ℕ) (front written : List ℕ) → Stands s front written
    → (byte : ℕ) (label : Address) → said_by s.reader byte ≡ Label label → q ≡ after (Label label) byte s.reader
    → sum ≡ s.sum + number_of label
    → Stands (record s { reader = q; sum = sum }) (front ++ byte ∷ []) (written ++ [])
one_more law s q sum front written stands byte label is next grown =
    let labels = (reading_of s.base front).labels in
    let all = all_read law s front written stands byte [] (Label label) is
    ∙ ap (λ (r : Reading). with_labels labels (with_labels (label ∷ []) r))
    (nothing_behind (after (Label label) byte s.reader)) in
    record {
      is_good = ap (λ (r : Reading). r.verdict) all;
      place = ap (λ (r : Reading). r.place) all ∙ sym next;
      sum = grown ∙ ap (λ (n : ℕ). n + number_of label) stands.sum ∙ sym (sum_last labels label)
          ∙ ap sum_of (sym (ap (λ (r : Reading). r.labels) all));
      none = append-nil written ∙ stands.none;
    }

-- ---- a fault, and the limit

pub a_fault : GoesOn → (s : LabelSum) (front written : List ℕ) → Stands s front written
    → (byte : ℕ) (rest : List ℕ) (fault : LineFault) → said_by s.reader byte ≡ Fault fault
    → IsHalt (along_sum s.base) (halts.Refused (Labels fault)) (front ++ byte ∷ rest) (written ++ [])
a_fault law s front written stands byte rest fault is =
    let all = all_read law s front written stands byte rest (Fault fault) is in (
      record { is = ap (λ (r : Reading). verdict_as Labels r.verdict) all; unspent = λ spent. spent },
      append-nil written ∙ stands.none,
    )

pub the_limit : GoesOn → (s : LabelSum) (front written : List ℕ) → Stands s front written
    → (byte : ℕ) (rest : List ℕ) → said_by s.reader byte ≡ Limit
    → Shows (along_sum s.base) past_limit (front ++ byte ∷ rest) × (written ++ [] ≡ [])
the_limit law s front written stands byte rest is =
    let all = all_read law s front written stands byte rest Limit is in (
      record { is = ap (λ (r : Reading). verdict_as Labels r.verdict) all; unspent = λ spent. spent },
      append-nil written ∙ stands.none,
    )

-- ---- the end

-- if no line is left that says a label or none, the text is an input
pub ends_so : (s : LabelSum) (bytes written : List ℕ) → Stands s bytes written → (said : LineRead)
    → at_end s.reader ≡ said → fault_said said ≡ None → IsInput (along_sum s.base) bytes
ends_so s bytes written stands said is no_fault =
    let end = ap at_end stands.place ∙ is in
    record {
      verdict = good_too Labels _ stands.is_good;
      unspent = λ spent. spent;
      end = ap (λ (said : LineRead). option_map Labels (fault_said said)) end ∙ ap (option_map Labels) no_fault;
    }

labels_so : (s : LabelSum) (bytes written : List ℕ) → Stands s bytes written → (said : LineRead)
    → at_end s.reader ≡ said → labels_of s.base bytes ≡ (reading_of s.base bytes).labels ++ label_said said
labels_so s bytes written stands said is =
    ap (λ (said : LineRead). (reading_of s.base bytes).labels ++ label_said said) (ap at_end stands.place ∙ is)

-- the sum with the label of the last line
pub with_last : (s : LabelSum) (bytes written : List ℕ) → Stands s bytes written → (label : Address)
    → at_end s.reader ≡ Label label → s.sum + number_of label ≡ sum_of (labels_of s.base bytes)
with_last s bytes written stands label is =
    ap (λ (n : ℕ). n + number_of label) stands.sum ∙ sym (sum_last (reading_of s.base bytes).labels label)
    ∙ ap sum_of (sym (labels_so s bytes written stands (Label label) is))

-- ---- what the engine keeps

pub adding_on : (s : LabelSum) (q : Place) (byte : ℕ) → IsAdding s → IsPlace q → q ≡ after Nothing byte s.reader
    → IsAdding (record s { reader = q })
adding_on s q byte adding valid is =
    let same = ap (λ (p : Place). p.number) is in
    let sum = adding.sum in
    record {
      place = valid;
      base = ap (λ (p : Place). p.base) is ∙ base_stays Nothing byte s.reader ∙ adding.base;
      sum = omega (arith, same, sum);
    }
