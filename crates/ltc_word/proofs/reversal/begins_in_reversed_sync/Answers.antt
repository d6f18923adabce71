use Rattle.std.proofs.lemmas.Bool.{eqb-true, eq-eqb}
use Rattle.ltc_word.proofs.LastBitFirst.{ends_turned, begins_turned}
use Rattle.ltc_word.proofs.reversal.begins_in_reversed_sync.Goals as goal

pub returns : goal.returns
returns c = (λ test. ends_turned c.args.bits (eqb-true _ _ test), λ ends. eq-eqb _ _ (begins_turned c.args.bits ends))
