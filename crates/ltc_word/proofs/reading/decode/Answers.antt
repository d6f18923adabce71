use Rattle.std.proofs.Common.{◌≡◌, None, Ok, sym, ap, ◌∙◌}
use Rattle.tc_bits.specs.Fields.{Says}
use Rattle.tc_bits.specs.Reading.{raw_in}
use Rattle.ltc_word.specs.declared.word.LtcWord.{LtcWord}
use Rattle.ltc_word.specs.Balance.{IsBalanced}
use Rattle.ltc_word.specs.Fault.{wrong_sync_bit}
use Rattle.ltc_word.proofs.NoBitDiffers.{right_from_none, none_from_right}
use Rattle.ltc_word.proofs.RowOfAWord.{table_is}
use Rattle.ltc_word.proofs.OneSpelling.{spelled, says, same_truth, same_word}
use Rattle.ltc_word.proofs.reading.decode.Goals as goal

-- a word that is spelled has the sync word
pub returns-in-Some-clause-only : goal.returns-in-Some-clause-only
returns-in-Some-clause-only c = λ word s. let none = none_from_right c.args.bits s.sync in absurd cc

pub returns-in-Some-clause-in_sync : goal.returns-in-Some-clause-in_sync
returns-in-Some-clause-in_sync c = λ sync. let none = none_from_right c.args.bits sync in absurd cc

pub returns-in-Ok-clause-reads : goal.returns-in-Ok-clause-reads
returns-in-Ok-clause-reads c =
    let none : wrong_sync_bit c.args.bits ≡ None = sym c.first_wrong_sync_bit.ensures ∙ c.in_default.is in
    spelled c.fields_are_exact.ensures c.args.system _ c.args.bits c.requires (right_from_none c.args.bits none)
    (rw c.table.ensures at c.in-Ok.ensures.reads) c.is_balanced.ensures

-- the fields say what the word says, so they are its fields
pub returns-in-Ok-clause-only : goal.returns-in-Ok-clause-only
returns-in-Ok-clause-only c = λ word s.
    let said : Says c.args.system (raw_in c.table.result c.args.bits) word.fields =
    rw c.table.ensures (says c.fields_are_exact.ensures c.args.system word c.args.bits s) in
    let fields : c.in-Ok.fields ≡ word.fields = let h = c.in-Ok.ensures.only word.fields said in cc in
    let balanced = same_truth (IsBalanced c.args.bits) c.is_balanced.result word.balanced c.is_balanced.ensures
    s.balance in
    ap (λ (w : LtcWord). Ok w) (same_word c.in-Ok.fields c.is_balanced.result word fields balanced)

pub returns-in-Err-clause-only : goal.returns-in-Err-clause-only
returns-in-Err-clause-only c = λ word s.
    let said : Says c.args.system (raw_in c.table.result c.args.bits) word.fields =
    rw c.table.ensures (says c.fields_are_exact.ensures c.args.system word c.args.bits s) in
    let h = c.in-Err.ensures.only word.fields said in
    absurd cc

pub fields_at-requires : goal.fields_at-requires
fields_at-requires c = rw c.table.ensures (table_is c.args.system)
