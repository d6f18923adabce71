-- What is answered to the labels of some bytes comes first, whatever follows, so `labels` is a command as any other.
use Rattle.std.proofs.Common.{◌≡◌, ℕ, List, [], ◌++◌, refl, sym, ◌∙◌, ap, append_assoc, append-nil}
use Rattle.std.proofs.lemmas.Bool.{false≢true}
use Rattle.std.proofs.lemmas.Grind.{flat_map-append}
use Rattle.label_command.specs.Labels.{along_labels, answers}
use Rattle.label_command.proofs.AnswersGrow.{GoesOn}
use Rattle.label_lines.specs.Answer.{answer_line}
use Rattle.label_lines.specs.declared.timebase.Timebase.{Timebase}
use Rattle.label_text.specs.declared.fault.LineFault.{LineFault}
use Rattle.label_text.specs.LabelText.{Reading, at_end, label_said, reading_from, reading_of}
use Rattle.tc_address.specs.Label.{Address}
use Rattle.tc_command.specs.Command.{IsCommand}
use Rattle.tc_command.specs.declared.input_fault.InputFault.TheVariants.{Labels}
use Rattle.tc_io.specs.Sink.{IsFront}
use Rattle.tc_io.specs.Verdict.{Verdict, good, past_limit, refused}
use Rattle.tc_io.specs.VerdictLemmas.{fault_stays, limit_stays}
use Rattle.tc_job.specs.LabelRun.{LabelRunning}

-- what the law of the text says
pub record TextLaws : Type 0 where
  pub goes_on : GoesOn
  pub fault : (base : Timebase) (front more : List ℕ) (f : LineFault) → (reading_of base front).verdict ≡ refused f
      → reading_of base (front ++ more) ≡ reading_of base front
  pub limit : (base : Timebase) (front more : List ℕ) → (reading_of base front).verdict ≡ past_limit
      → reading_of base (front ++ more) ≡ reading_of base front

-- the labels of some bytes come first
labels_first : TextLaws → (base : Timebase) (front more : List ℕ) → (rest : List Address)
    × ((reading_of base (front ++ more)).labels ≡ (reading_of base front).labels ++ rest)
labels_first laws base front more = by_verdict (reading_of base front).verdict refl
  where
    by_verdict : (v : Verdict LineFault) → (reading_of base front).verdict ≡ v → (rest : List Address)
        × ((reading_of base (front ++ more)).labels ≡ (reading_of base front).labels ++ rest)
    by_verdict good is = (
      (reading_from (reading_of base front).place more).labels,
      ap (λ (r : Reading). r.labels) (laws.goes_on base front more is),
    )
    by_verdict (refused f) is = (
      [],
      ap (λ (r : Reading). r.labels) (laws.fault base front more f is)
          ∙ sym (append-nil (reading_of base front).labels),
    )
    by_verdict past_limit is = (
      [],
      ap (λ (r : Reading). r.labels) (laws.limit base front more is) ∙ sym (append-nil (reading_of base front).labels),
    )

-- and so do their answers, whatever is answered behind them
answers_first : (run : LabelRunning) (labels rest : List Address) (a b : List ℕ) → a ≡ answers run labels
    → b ≡ answers run (labels ++ rest) → IsFront a b
answers_first run labels rest a b one all = (
  answers run rest,
  all ∙ flat_map-append (answer_line run.base run.way) labels rest
      ∙ ap (λ (l : List ℕ). l ++ answers run rest) (sym one),
)

pub labels_are_command : TextLaws → (run : LabelRunning) → IsCommand (along_labels run)
labels_are_command laws run = record {
  first = record {
    part = λ front more a b one all.
        let first = labels_first laws run.base front more in
        answers_first run (reading_of run.base front).labels first.0 a b one (all ∙ ap (answers run) first.1);
    output = λ front more a b one all.
        let labels = (reading_of run.base front).labels in
        let first = labels_first laws run.base front more in
        let last = label_said (at_end (reading_of run.base (front ++ more)).place) in
        answers_first run labels (first.0 ++ last) a b one
        (all ∙ ap (answers run) (ap (λ (l : List Address). l ++ last) first.1 ∙ append_assoc labels first.0 last));
    stays = λ front more spent. spent;
    limit = λ front more a b spent one all. absurd spent;
  };
  some_part = λ bytes. (_, refl);
  some_output = λ input is. (_, refl);
  one_part = λ bytes a b one all. one ∙ sym all;
  one_output = λ input a b one all. one ∙ sym all;
  fault = λ front rest f e.
      fault_stays Labels (reading_of run.base front).verdict (reading_of run.base (front ++ rest)).verdict f
      (λ fault is. ap (λ (r : Reading). r.verdict) (laws.fault run.base front rest fault is) ∙ is) e;
  limit = λ front rest e.
      limit_stays Labels (reading_of run.base front).verdict (reading_of run.base (front ++ rest)).verdict
      (λ is. ap (λ (r : Reading). r.verdict) (laws.limit run.base front rest is) ∙ is) e;
  fault_unspent = λ front rest f e spent. spent;
  limit_unspent = λ front rest e spent. spent;
  ends = λ bytes f e. refl;
  idle = λ e all. absurd (false≢true (sym e));
  idle_part = λ e bytes a b one all. absurd (false≢true (sym e));
  idle_output = λ e bytes a b one all. absurd (false≢true (sym e));
}
