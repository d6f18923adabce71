use Rattle.std.proofs.Common.{◌≡◌, replicate, subst, sym, arith}
use Rattle.interval_file.specs.declared.header.FileVersion.TheVariants.{One}
use Rattle.interval_file.specs.Grammar.{intervals_bytes}
use Rattle.interval_file.specs.Piece.{spelling}
use Rattle.signal_commands.proofs.PutMore.{one_piece}
use Rattle.signal_commands.proofs.spelling.spell_whole.Goals as goal

pub pieces-init : goal.pieces-init
pieces-init g c = g.O.Output.given_none c.args.out.now

-- an interval more
pub pieces-preserved : goal.pieces-preserved
pieces-preserved g c =
    let n = c.args.length in
    subst (λ l. g.O.Output.given c.args.out.now c.gather.new.self l) (sym (one_piece n c.pieces._done))
    (g.O.Output.given_more c.args.out.now c.pieces.out c.gather.new.self
    (intervals_bytes One (replicate c.pieces._done n)) (spelling One n) c.pieces.invariant
    (rw c.four_bytes.ensures at c.gather.ensures))

-- all of them
pub returns : goal.returns
returns g c =
    let all : c.pieces._done ≡ c.args.count = omega (arith, c.pieces-test.false, c.pieces.auto._done-end) in
    subst (λ n. g.O.Output.given c.args.out.now c.pieces.out (intervals_bytes One (replicate n c.args.length))) all
    c.pieces.invariant
