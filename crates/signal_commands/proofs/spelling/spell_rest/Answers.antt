use Rattle.signal_commands.proofs.spelling.spell_rest.Goals as goal

pub returns-in_default : goal.returns-in_default
returns-in_default g c = rw c.in_default.is (g.O.Output.given_none c.args.out.now)
