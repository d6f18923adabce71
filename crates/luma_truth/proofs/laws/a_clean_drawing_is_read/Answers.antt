use Rattle.std.proofs.Common.{arith}
use Rattle.luma_truth.specs.Worked.{ten_hours}
use Rattle.luma_truth.proofs.CleanFound.{has_the_line, is_clean, is_near, is_read, only_its_word}
use Rattle.luma_truth.proofs.TenHours.{ten_hours_fits}
use Rattle.luma_truth.proofs.laws.a_clean_drawing_is_read.Goals as goal

pub returns-clause-read : goal.returns-clause-read
returns-clause-read c = is_read c.a_row_is_sharp_or_not.ensures.next

pub returns-clause-only : goal.returns-clause-only
returns-clause-only c = only_its_word c.a_row_is_sharp_or_not.ensures.next c.a_row_says_one_thing.ensures.code

pub returns-clause-field : goal.returns-clause-field
returns-clause-field c = has_the_line c.a_row_is_sharp_or_not.ensures.next c.a_row_says_one_thing.ensures.code

pub returns-clause-place : goal.returns-clause-place
returns-clause-place c = is_near c.a_row_is_sharp_or_not.ensures.next

pub returns-clause-rounded : goal.returns-clause-rounded
returns-clause-rounded c = is_clean

pub returns-clause-worked : goal.returns-clause-worked
returns-clause-worked c = (ten_hours_fits, is_clean ten_hours 720 ten_hours_fits (omega arith) (omega arith))
