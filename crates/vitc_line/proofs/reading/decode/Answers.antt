use Rattle.std.proofs.Common.{◌≡◌, None, Ok, sym, ap, ◌∙◌}
use Rattle.tc_bits.specs.Fields.{Says}
use Rattle.tc_bits.specs.Reading.{raw_in}
use Rattle.tc_bits.specs.Register.{is_set}
use Rattle.tc_bits.specs.Table.{place}
use Rattle.vitc_line.specs.declared.word.VitcWord.{VitcWord}
use Rattle.vitc_line.specs.CheckBits.{wrong_residue}
use Rattle.vitc_line.specs.Fault.{wrong_sync_pair}
use Rattle.vitc_line.specs.Places.{field_mark_bit}
use Rattle.vitc_line.proofs.OneSpelling.{none_from_pairs, none_from_check, spelled, says, same_word}
use Rattle.vitc_line.proofs.RowOfALine.{table_is}
use Rattle.vitc_line.proofs.reading.decode.Goals as goal

-- a word that is spelled has its sync pairs
pub returns-in-Some-clause-only : goal.returns-in-Some-clause-only
returns-in-Some-clause-only c = λ word s. let none = none_from_pairs c.args.bits s.sync_pairs in absurd cc

-- and its check
pub returns-in-Some-first_wrong_residue-clause-only : goal.returns-in-Some-first_wrong_residue-clause-only
returns-in-Some-first_wrong_residue-clause-only c = λ word s. let none = none_from_check c.args.bits s.check in
    absurd cc

pub returns-in-Ok-clause-reads : goal.returns-in-Ok-clause-reads
returns-in-Ok-clause-reads c =
    let pairs : wrong_sync_pair c.args.bits ≡ None = sym c.first_wrong_sync_pair.ensures ∙ c.in_default.is in
    let check : wrong_residue c.args.bits ≡ None = sym c.first_wrong_residue.ensures
    ∙ (c.in_default-first_wrong_residue).is in
    let mark : c.is_set_at.result ≡ is_set (place (field_mark_bit c.args.system) 1) c.args.bits =
    rw c.field_mark.ensures.value at c.is_set_at.ensures in
    spelled c.fields_are_exact.ensures c.args.system _ c.args.bits c.requires.width pairs check
    (rw c.table.ensures at c.in-Ok.ensures.reads) (sym mark)

-- the fields say what the word says, so they are its fields
pub returns-in-Ok-clause-only : goal.returns-in-Ok-clause-only
returns-in-Ok-clause-only c = λ word s.
    let said : Says c.args.system (raw_in c.table.result c.args.bits) word.fields =
    rw c.table.ensures (says c.fields_are_exact.ensures c.args.system word c.args.bits s) in
    let fields : c.in-Ok.fields ≡ word.fields = let h = c.in-Ok.ensures.only word.fields said in cc in
    let mark : c.is_set_at.result ≡ is_set (place (field_mark_bit c.args.system) 1) c.args.bits =
    rw c.field_mark.ensures.value at c.is_set_at.ensures in
    ap (λ (w : VitcWord). Ok w) (same_word c.in-Ok.fields c.is_set_at.result word fields (mark ∙ s.mark))

pub returns-in-Err-clause-only : goal.returns-in-Err-clause-only
returns-in-Err-clause-only c = λ word s.
    let said : Says c.args.system (raw_in c.table.result c.args.bits) word.fields =
    rw c.table.ensures (says c.fields_are_exact.ensures c.args.system word c.args.bits s) in
    let h = c.in-Err.ensures.only word.fields said in
    absurd cc

pub fields_at-requires : goal.fields_at-requires
fields_at-requires c = rw c.table.ensures (table_is c.args.system)
