-- What a chase wrote is a front of the trace if its whole input is a script, and nothing if it is none.
use Rattle.std.proofs.Common.{◌≡◌, ℕ, List, [], ◌++◌, length, Bool, true, Some, sym, ◌∙◌, ap, subst, append-nil, arith}
use Rattle.std.specs.Prelude.{nat_le}
use Rattle.std.specs.declared.option.Option.{Option}
use Rattle.std.specs.Io.KnownBytes.{Consumes}
use Rattle.tc_io.specs.Sink.{IsFront}
use Rattle.tc_address.specs.Label.{Address}
use Rattle.chase_script.specs.declared.row.ScriptRow.{ScriptRow}
use Rattle.chase_script.specs.Script.{script_in}
use Rattle.chase_command.specs.declared.chasing.TheConstants.{MAX_SCRIPT}
use Rattle.chase_command.specs.declared.stop.ChaseStop.{ChaseStop}
use Rattle.chase_command.specs.declared.stop.ChaseStop.TheVariants.{Refused, ReadFault, WriteFault, Memory, Limit}
use Rattle.std.specs.Prelude.{if◌then◌else◌, Ok, Err}
use Rattle.chase_script.specs.Script.{Script}
use Rattle.chase_command.specs.Chase.{IsChaseAnswer, IsScript, IsWhole, chase_output, chase_text}
use Rattle.chase_command.specs.KeptScript.{IsChaseOutput, IsChaseStop, IsTraced}
use Rattle.tc_command.specs.Exchange.{Exchange, WritesAFront}
use Rattle.tc_command.specs.FirstLemmas.{whole_input}
use Rattle.tc_command.specs.PulledLemmas.{all_at_end}
use Rattle.chase_command.specs.Stop.{note_of}
use Rattle.chase_command.specs.Stop.{status_of}
use Rattle.chase_command.proofs.ChaseStatus.{ends_by}

abbrev text_of_script : Address → Script → List ℕ
text_of_script label script = elim script [ Ok rows ↦ chase_text label rows | Err fault ↦ [] ]

-- at the end of an input that is no longer than a script may be
output_is : (label : Address) (left : Option (List ℕ)) (all pulled : List ℕ) → Consumes (Some all) left pulled
    → IsWhole left pulled
    → chase_output label all ≡ text_of_script label (script_in label.count pulled)
output_is label left all pulled consumed whole =
    let same : all ≡ pulled = all_at_end all pulled left consumed whole.end in
    let short : nat_le (length all) MAX_SCRIPT ≡ true = rw same (grind (arith, whole.short)) in
    ap (λ (b : Bool). if b then text_of_script label (script_in label.count all) else []) short
    ∙ ap (λ (bytes : List ℕ). text_of_script label (script_in label.count bytes)) same

-- of a script it is the trace
trace_is : (label : Address) (left : Option (List ℕ)) (all pulled : List ℕ) (rows : List ScriptRow)
    → Consumes (Some all) left pulled
    → IsScript label left pulled rows → chase_output label all ≡ chase_text label rows
trace_is label left all pulled rows consumed is = output_is label left all pulled consumed is.whole
    ∙ ap (text_of_script label) is.are

nothing_first : (written whole : List ℕ) → written ≡ [] → IsFront written whole
nothing_first written whole none = (whole, ap (λ (l : List ℕ). l ++ whole) (sym none))

pub trace_first : (label : Address) (e : Exchange) (rows : List ScriptRow)
    → IsTraced label e.left e.pulled e.written rows
    → WritesAFront (IsChaseOutput label) e
trace_first label e rows is = λ rest whole left output.
    let consumed = whole_input e.pulled rest e.left left in
    let trace = trace_is label e.left (e.pulled ++ rest) e.pulled rows consumed is.script in
    ([], output ∙ trace ∙ sym is.text ∙ sym (append-nil e.written))

stop_first : (label : Address) (stop : ChaseStop) (left : Option (List ℕ)) (all pulled written : List ℕ)
    → Consumes (Some all) left pulled
    → IsChaseStop label stop left pulled written → IsFront written (chase_output label all)
stop_first label (Refused fault) left all pulled written consumed is = nothing_first written (chase_output label all)
    is.2
stop_first label ReadFault left all pulled written consumed is = nothing_first written (chase_output label all) is.1
stop_first label WriteFault left all pulled written consumed is =
    subst (λ (whole : List ℕ). IsFront written whole) (sym (trace_is label left all pulled is.0 consumed is.1)) is.2
stop_first label Memory left all pulled written consumed is = nothing_first written (chase_output label all) is.1
stop_first label Limit left all pulled written consumed is = nothing_first written (chase_output label all) is.1

-- a chase that stopped answers so
pub answer_of : (label : Address) (stop : ChaseStop) (e : Exchange) → IsChaseStop label stop e.left e.pulled e.written
    → e.note ≡ note_of stop → IsChaseAnswer label (status_of stop) e
answer_of label stop e stopped same = record {
  ends = ends_by label stop e stopped same;
  first = λ rest whole left output.
      let consumed = whole_input e.pulled rest e.left left in
      subst (IsFront e.written) (sym output)
      (stop_first label stop e.left (e.pulled ++ rest) e.pulled e.written consumed stopped);
}
