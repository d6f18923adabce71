use Rattle.std.proofs.Common.{refl}
use Rattle.tc_address.specs.Spelling.{text_of}
use Rattle.tc_address.proofs.OneSpelling.{label_in-only, label_in-text_of}
use Rattle.tc_address.proofs.laws.a_text_is_read_as_its_label.Goals as goal

pub returns-clause-read : goal.returns-clause-read
returns-clause-read c = λ a l. label_in-text_of a.count (text_of a) a l refl refl

pub returns-clause-only : goal.returns-clause-only
returns-clause-only c = label_in-only
