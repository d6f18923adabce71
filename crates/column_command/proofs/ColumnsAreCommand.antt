-- What is written of some bytes comes first, whatever follows, so `labels` with columns is a command as any other.
use Rattle.std.proofs.Common.{◌≡◌, ℕ, ◌<◌, Bool, true, false, cond, nat_lt, List, ◌++◌, length, take, drop, refl, sym, ap}
use Rattle.std.proofs.Common.{◌∙◌, arith, append_assoc, length-append, subst}
use Rattle.std.proofs.lemmas.Bool.{false≢true, lt-ltb, ltb-true}
use Rattle.std.proofs.lemmas.List.{take-append-drop}
use Rattle.column_command.specs.AnsweredText.{along_columns, answered_text, text_so_far, verdict_within}
use Rattle.column_command.specs.LineLemmas.{output_first, part_first}
use Rattle.column_command.specs.declared.columns.TheConstants.{MAX_TEXT}
use Rattle.lemmas.specs.Lists.{first_items}
use Rattle.tc_command.specs.Command.{IsCommand}
use Rattle.tc_command.specs.declared.input_fault.InputFault.{InputFault}
use Rattle.tc_io.specs.Sink.{IsFront}
use Rattle.tc_io.specs.Verdict.{Verdict, good, past_limit, refused}
use Rattle.tc_job.specs.declared.column_run.ColumnRun.{ColumnRun}

abbrev the_verdict : Bool → Verdict InputFault
the_verdict past = cond past past_limit good

never_refused : (past : Bool) (f : InputFault) → ¬ (cond past past_limit good ≡ refused f)
never_refused true f e = absurd cc
never_refused false f e = absurd cc

past_by : (n : ℕ) (past : Bool) → nat_lt MAX_TEXT n ≡ past → the_verdict past ≡ past_limit → MAX_TEXT < n
past_by n true is e = ltb-true MAX_TEXT n is
past_by n false is e = absurd cc

past_stays : (front rest : List ℕ) → verdict_within MAX_TEXT front ≡ past_limit
    → verdict_within MAX_TEXT (front ++ rest) ≡ past_limit
past_stays front rest e =
    let more = past_by (length front) (nat_lt MAX_TEXT (length front)) refl e in
    ap (λ (b : Bool). cond b past_limit good)
    (lt-ltb MAX_TEXT (length (front ++ rest)) (omega (arith, more, length-append front rest)))

pub columns_are_command : (run : ColumnRun) → IsCommand (along_columns run)
columns_are_command run = record {
  first = record {
    part = λ front more a b one all.
        let within = first_items MAX_TEXT front more in
        rw (one, all, within.1) (part_first run (take MAX_TEXT front) within.0);
    output = λ front more a b one all.
        let first = take MAX_TEXT front in
        let behind = drop MAX_TEXT front ++ more in
        let joined : front ++ more ≡ first ++ behind =
        ap (λ (l : List ℕ). l ++ more) (sym (take-append-drop MAX_TEXT front))
        ∙ append_assoc first (drop MAX_TEXT front) more in
        rw (one, all) (subst (λ (l : List ℕ). IsFront (text_so_far run first) (answered_text run l)) (sym joined)
        (output_first run first behind));
    stays = λ front more spent. spent;
    limit = λ front more a b spent one all. absurd spent;
  };
  some_part = λ bytes. (_, refl);
  some_output = λ input is. (_, refl);
  one_part = λ bytes a b one all. one ∙ sym all;
  one_output = λ input a b one all. one ∙ sym all;
  fault = λ front rest f e. absurd (never_refused (nat_lt MAX_TEXT (length front)) f e);
  limit = λ front rest e. past_stays front rest e;
  fault_unspent = λ front rest f e spent. spent;
  limit_unspent = λ front rest e spent. spent;
  ends = λ bytes f e. absurd cc;
  idle = λ e all. absurd (false≢true (sym e));
  idle_part = λ e bytes a b one all. absurd (false≢true (sym e));
  idle_output = λ e bytes a b one all. absurd (false≢true (sym e));
}
