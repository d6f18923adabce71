-- A line that is neither a number nor seconds is read as a label, and what does not fit is then a part of one.
use Rattle.std.proofs.Common.{◌≡◌, ℕ, true, false, List, refl}
use Rattle.tc_address.specs.declared.count.Count.{Count}
use Rattle.tc_address.specs.Spelling.{address_in, label_in}
use Rattle.label_lines.specs.declared.timebase.Timebase.{Timebase}
use Rattle.label_lines.specs.Line.{asked, has_label_form, is_number, is_seconds, part_column, wrong_column}
use Rattle.label_lines.specs.Timebase.{count_of}

pub label_is_asked : (base : Timebase) (line : List ℕ) → is_number line ≡ false → is_seconds line ≡ false
    → asked base line ≡ label_in (count_of base) line
label_is_asked base line number seconds = rw (number, seconds) refl

pub part_is_wrong : (count : Count) (line : List ℕ) → is_number line ≡ false → is_seconds line ≡ false
    → has_label_form count line ≡ true → wrong_column count line ≡ part_column (address_in count line)
part_is_wrong count line number seconds form = rw (number, seconds, form) refl
