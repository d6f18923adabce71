use Rattle.std.proofs.Common.{◌≡◌, ◌+◌, ◌*◌, ◌++◌, ◌∷◌, [], ℕ, sym, ap, ◌∙◌, refl, drop, arith}
use Rattle.std.proofs.lemmas.Bool.{eq-eqb, ne_eqb}
use Rattle.std.proofs.lemmas.List.{drop-drop, length-drop, take_rest}
use Rattle.byteorder.specs.Endian.{big_number}
use Rattle.line_file.specs.KeptFront.{runs_behind}
use Rattle.line_file.proofs.PieceByPiece.{runs_bad, runs_more, runs_short}
use Rattle.line_file.proofs.RunsInBytes.{more_run}
use Rattle.line_file.proofs.field.tried_runs.Goals as goal

-- the next run is not there
pub returns-then-bytes-at-clause-front : goal.returns-then-bytes-at-clause-front
returns-then-bytes-at-clause-front c =
    sym (runs_short c.args.count c.args.place c.args.bytes.now c.runs._run c.runs.at _ c.runs.invariant c.runs-test.true
    c.if-bytes-at.true)

-- the next run lasts no tick
pub returns-then-read_u16-eq0-clause-front : goal.returns-then-read_u16-eq0-clause-front
returns-then-read_u16-eq0-clause-front c =
    let bytes = c.args.bytes.now in
    let is : c.read_u16.result ≡ big_number 2 (drop c.runs.at bytes) = c.read_u16.ensures
    ∙ ap (big_number 2) (take_rest bytes c.runs.at) in
    sym (runs_bad c.args.count c.args.place bytes c.runs._run c.runs.at _ c.read_u16.result c.runs.invariant
    c.runs-test.true c.if-bytes-at.false is
    (eq-eqb c.read_u16.result 0 c.if-read_u16-eq0.true))

-- one run more
pub runs-preserved : goal.runs-preserved
runs-preserved c =
    let bytes = c.args.bytes.now in
    let done = c.runs._run in
    let at = c.runs.at in
    let at_is = c.runs.invariant.at_is in
    let there = c.if-bytes-at.false in
    let left = length-drop 1 bytes in
    let is : c.read_u16.result ≡ big_number 2 (drop at bytes) = c.read_u16.ensures
    ∙ ap (big_number 2) (take_rest bytes at) in
    let some = rw is at (ne_eqb c.read_u16.result 0 c.if-read_u16-eq0.false) in
    let behind : drop (2 * done) (drop 1 bytes) ≡ drop at bytes = drop-drop (2 * done) 1 bytes
    ∙ ap (λ (n : ℕ). drop n bytes) (sym at_is) in
    let runs : runs_behind (done + 1) bytes ≡ runs_behind done bytes ++ big_number 2 (drop at bytes) ∷ [] =
    rw behind at (more_run done (drop 1 bytes) (omega (arith, at_is, there, left))) in
    rw runs (runs_more c.args.count c.args.place bytes done at (runs_behind done bytes) (big_number 2 (drop at bytes))
    c.runs.invariant c.runs-test.true there
    refl some)
