use Rattle.luma_field.proofs.PartsFirst.{whole_first}
use Rattle.luma_field.proofs.PartsJoined.{length-joined, whole_of_joined}
use Rattle.luma_field.proofs.laws.joined_parts_are_taken_apart.Goals as goal

pub returns-clause-first : goal.returns-clause-first
returns-clause-first c = whole_first

pub returns-clause-long : goal.returns-clause-long
returns-clause-long c = length-joined

pub returns-clause-apart : goal.returns-clause-apart
returns-clause-apart c = whole_of_joined
