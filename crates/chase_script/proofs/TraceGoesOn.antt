-- The lines of a trace come one after another: a row gives its line, and then those of what is left.
use Rattle.std.proofs.Common.{◌≡◌, ℕ, suc, ◌+◌, ◌<◌, ◌≤◌, List, [], ◌∷◌, ◌++◌, length, map, drop, get_or, Some, None}
use Rattle.std.proofs.Common.{Bool, false, sym, ◌∙◌, ap}
use Rattle.std.proofs.Common.{arith, cond, append-nil}
use Rattle.std.specs.declared.option.Option.{Option}
use Rattle.std.specs.List.{count_by}
use Rattle.std.proofs.Math.Seq.{drop-cons}
use Rattle.std.proofs.lemmas.List.{append_assoc, length-drop, length-map}
use Rattle.std.proofs.lemmas.List.Sums.{sum_by-cons}
use Rattle.tc_address.specs.declared.count.Count.{Count}
use Rattle.chase_core.specs.declared.report.Loss.{Loss}
use Rattle.chase_core.specs.declared.report.StepReport.{StepReport}
use Rattle.chase_core.specs.Trace.{Loop, Row, Traced, after_row, traced, trace}
use Rattle.chase_script.specs.declared.row.ScriptRow.{ScriptRow}
use Rattle.chase_script.specs.Kept.{text_left}
use Rattle.std.specs.Prelude.{is_some}
use Rattle.chase_script.specs.TraceText.{loses, row_of, step_line, step_end_line, step_lines, trace_text}

-- at first the whole trace is left
pub all_is_left : ((loop : Loop) (rows : List Row) → length (trace loop rows) ≡ length rows)
    → (place : Loop) (rows : List ScriptRow)
    → text_left (record { place = place; rows = rows; steps = 0; losses = 0; is_ended = false })
    ≡ trace_text place.chase.count (trace place (map row_of rows))
all_is_left law place rows =
    let lines = trace place (map row_of rows) in
    let same : length lines ≡ length (map row_of rows) = law place (map row_of rows) in
    let steps : 0 + length rows ≡ length lines = omega (arith, same, length-map rows row_of) in
    let losses : 0 + count_by loses lines ≡ count_by loses lines = omega arith in
    ap (λ (n : ℕ). step_lines place.chase.count 1 lines ++ step_end_line n (0 + count_by loses lines)) steps
    ∙ ap (λ (k : ℕ). step_lines place.chase.count 1 lines ++ step_end_line (length lines) k) losses

-- a row, and those behind it
pub a_line_more : (place : Loop) (row : ScriptRow) (rows : List ScriptRow) (steps losses : ℕ)
    → text_left (record { place = place; rows = row ∷ rows; steps = steps; losses = losses; is_ended = false })
    ≡ step_line place.chase.count (steps + 1) (traced place (row_of row))
    ++ text_left (record {
      place = after_row place (row_of row);
      rows = rows;
      steps = steps + 1;
      losses = losses + cond (loses (traced place (row_of row))) 1 0;
      is_ended = false;
    })
unfolding step_lines trace
a_line_more place row rows steps losses =
    let line = traced place (row_of row) in
    let more = trace (after_row place (row_of row)) (map row_of rows) in
    let count = place.chase.count in
    let lost : count_by loses (line ∷ more) ≡ cond (loses line) 1 0 + count_by loses more =
    sum_by-cons (λ (t : Traced). cond (loses t) 1 0) line more in
    let n : steps + suc (length rows) ≡ (steps + 1) + length rows = omega arith in
    let k : losses + count_by loses (line ∷ more) ≡ (losses + cond (loses line) 1 0) + count_by loses more =
    omega (arith, lost) in
    let end = ap (λ (i : ℕ). step_end_line i (losses + count_by loses (line ∷ more))) n
    ∙ ap (λ (i : ℕ). step_end_line ((steps + 1) + length rows) i) k in
    ap (λ (l : List ℕ). (step_line count (steps + 1) line ++ step_lines count (steps + 1 + 1) more) ++ l) end
    ∙ append_assoc (step_line count (steps + 1) line) (step_lines count (steps + 1 + 1) more) _

-- the row that comes next
pub next_row : (rows : List ScriptRow) (i : ℕ) (row : ScriptRow) → 0 < length (drop i rows) → row ≡ get_or rows i row
    → drop i rows ≡ row ∷ drop (i + 1) rows
next_row rows i row some is =
    let within : i < length rows = omega (arith, some, length-drop i rows) in
    let same : suc i ≡ i + 1 = omega arith in
    drop-cons rows i row within ∙ ap (λ (r : ScriptRow). r ∷ drop (suc i) rows) (sym is)
    ∙ ap (λ (n : ℕ). row ∷ drop n rows) same

-- a step loses the lock once at most
pub at_most_one : (loss : Option Loss) → cond (is_some loss) 1 0 ≤ 1
at_most_one None = omega arith
at_most_one (Some loss) = omega arith

lost_same : (losses lost : ℕ) (report told : StepReport) → lost ≡ cond (is_some report.loss) 1 0 → report ≡ told
    → losses + lost ≡ losses + cond (is_some told.loss) 1 0
lost_same losses lost report told loses same =
    ap (λ (n : ℕ). losses + n) (loses ∙ ap (λ (r : StepReport). cond (is_some r.loss) 1 0) same)

-- its line, and then what is left
pub line_of : (place next : Loop) (row : ScriptRow) (rows left : List ScriptRow) (steps losses lost position : ℕ)
    (report : StepReport) (count : Count)
    (line : List ℕ) (ended : Bool) → ended ≡ false → rows ≡ row ∷ left → place.chase.count ≡ count
    → report ≡ (traced place (row_of row)).report → position ≡ (traced place (row_of row)).position
    → next ≡ after_row place (row_of row) → lost ≡ cond (is_some report.loss) 1 0
    → line ≡ step_line count (steps + 1) (record { report = report; position = position })
    → text_left (record { place = place; rows = rows; steps = steps; losses = losses; is_ended = ended })
    ≡ line ++ text_left (record {
      place = next;
      rows = left;
      steps = steps + 1;
      losses = losses + lost;
      is_ended =
          ended;
    })
line_of place next row rows left steps losses lost position report count line ended going are same reports stands moves
    loses text =
    let more = a_line_more place row left steps losses in
    rw (
      going,
      are,
      moves,
      text,
      lost_same losses lost report (traced place (row_of row)).report loses reports,
      ← same,
      reports,
      stands,
    ) more

-- the last line
pub end_of : (place : Loop) (rows : List ScriptRow) (steps losses : ℕ) (line : List ℕ) (ended : Bool) → ended ≡ false
    → rows ≡ []
    → line ≡ step_end_line steps losses
    → text_left (record { place = place; rows = rows; steps = steps; losses = losses; is_ended = ended }) ≡ line ++ []
unfolding step_lines trace
end_of place rows steps losses line ended going none text =
    let n : steps + 0 ≡ steps = omega arith in
    let k : losses + 0 ≡ losses = omega arith in
    rw (going, none, text) (ap (λ (i : ℕ). step_end_line i (losses + 0)) n ∙ ap (λ (i : ℕ). step_end_line steps i) k
    ∙ sym (append-nil (step_end_line steps losses)))
