use Rattle.std.proofs.Common.{◌++◌, replicate, subst, sym}
use Rattle.std.specs.Option.{option_to_list}
use Rattle.interval_file.specs.declared.header.FileVersion.TheVariants.{One}
use Rattle.interval_file.specs.Grammar.{intervals_bytes}
use Rattle.signal_commands.proofs.PutMore.{three_parts}
use Rattle.signal_commands.proofs.spelling.spell.Goals as goal

-- the pieces that the distance still lacked, its rest, and the pieces of the next one
pub returns : goal.returns
returns g c =
    let p = c.args.intervals in
    let more = g.O.Output.given_more in
    let whole = intervals_bytes One (replicate p.whole p.length) in
    let rest = intervals_bytes One (option_to_list p.rest) in
    let begun = intervals_bytes One (replicate p.begun p.length) in
    let last = more c.spell_whole.new.out c.spell_rest.new.out c.spell_whole-2.new.out rest begun c.spell_rest.ensures
    c.spell_whole-2.ensures in
    subst (λ l. g.O.Output.given c.args.out.now c.spell_whole-2.new.out l) (sym (three_parts p))
    (more c.args.out.now c.spell_whole.new.out c.spell_whole-2.new.out whole (rest ++ begun) c.spell_whole.ensures last)
