use Rattle.std.proofs.Common.{ℕ, length, subst}
use Rattle.interval_file.specs.declared.header.FileVersion.{FileVersion}
use Rattle.interval_file.specs.Next.{BringNext, next_of}
use Rattle.interval_file.proofs.BytesBehind.{they_bring}
use Rattle.tc_io.specs.ByteLemmas.{are_bytes}
use Rattle.interval_file.proofs.FrontInterval.{is_next}
use Rattle.interval_file.proofs.piece.next_interval.Goals as goal

-- how many bytes it has, and its range
pub returns-clause-bounds : goal.returns-clause-bounds
returns-clause-bounds c = rw c.front_interval.ensures (is_next c.args.version c.args.place c.args.bytes.now)

-- and what they bring to a file
pub returns-clause-text : goal.returns-clause-text
returns-clause-text c = λ front header intervals is same at_place.
    let bytes = c.args.bytes.now in
    let brought = they_bring front bytes header intervals (are_bytes bytes c.type_inv.bytes) is in
    rw c.front_interval.ensures (subst (λ (n : ℕ). BringNext front header intervals bytes
    (next_of c.args.version n bytes)) at_place
    (subst (λ (v : FileVersion). BringNext front header intervals bytes (next_of v (length front) bytes)) same brought))
