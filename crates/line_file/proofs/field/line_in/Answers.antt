use Rattle.std.proofs.Common.{◌≡◌, ◌+◌, ◌-◌, ◌*◌, ◌≤◌, ℕ, List, length, drop, get_or, sym, ◌∙◌, arith}
use Rattle.std.proofs.lemmas.List.{length-drop}
use Rattle.line_file.proofs.PieceByPiece.{by_runs, some_bytes}
use Rattle.line_file.proofs.RunsFit.{stand_for_fits}
use Rattle.line_file.proofs.RunsInBytes.{may_be, whole_runs}
use Rattle.line_file.proofs.field.line_in.Goals as goal

-- the bytes of the runs
own_bytes : (width count : ℕ) → width ≡ 1 + 2 * count → width - 1 ≡ 2 * count
own_bytes width count is = omega (arith, is)

are_there : (width count : ℕ) (bytes : List ℕ) → width ≡ 1 + 2 * count → width ≤ length bytes
    → 2 * count ≤ length (drop 1 bytes)
are_there width count bytes is there = let left = length-drop 1 bytes in omega (arith, is, there, left)

pub line_of_bytes-requires : goal.line_of_bytes-requires
line_of_bytes-requires c =
    let bytes = c.args.bytes.now in
    let count = get_or bytes 0 0 in
    let width = c.line_width-width.ensures in
    rw (own_bytes c.line_width-width.result count width)
    (may_be count (drop 1 bytes) (sym c.is_run_count.ensures ∙ c.if-not-is_run_count.false)
    (are_there c.line_width-width.result count bytes width c.if-bytes-width.false))

-- the runs were some cells each, so each lasts a tick or more
pub returns-then-line_of_bytes-clause-front : goal.returns-then-line_of_bytes-clause-front
returns-then-line_of_bytes-clause-front c =
    let bytes = c.args.bytes.now in
    let count = get_or bytes 0 0 in
    let width = c.line_width-width.ensures in
    let read = rw (own_bytes c.line_width-width.result count width) at
    (c.line_of_bytes.ensures.reads c.if-line_of_bytes.true) in
    sym (by_runs c.args.place bytes c.is_run_count.result _
    (some_bytes bytes c.is_empty.result c.is_empty.ensures c.if-is_empty.false)
    c.is_run_count.ensures c.if-not-is_run_count.false
    (whole_runs count (c.args.place + 1) (drop 1 bytes)
    (are_there c.line_width-width.result count bytes width c.if-bytes-width.false)
    (stand_for_fits _ read.1.0 _ read.0 read.1.1)))

pub returns-then-line_of_bytes-clause-next : goal.returns-then-line_of_bytes-clause-next
returns-then-line_of_bytes-clause-next c = λ _ lines stood.
    rw (own_bytes c.line_width-width.result (get_or c.args.bytes.now 0 0) c.line_width-width.ensures) at
    (c.line_of_bytes.ensures.next lines stood)

pub returns-clause-next : goal.returns-clause-next
returns-clause-next c = λ _ lines stood.
    rw (own_bytes c.line_width-width.result (get_or c.args.bytes.now 0 0) c.line_width-width.ensures) at
    (c.line_of_bytes.ensures.next lines stood)
