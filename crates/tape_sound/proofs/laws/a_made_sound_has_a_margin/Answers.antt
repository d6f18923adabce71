use Rattle.tape_sound.proofs.MadeMargin.{fixed_margin, followed_margin}
use Rattle.tape_sound.proofs.ScaledTape.{bits_scaled}
use Rattle.tape_sound.proofs.laws.a_made_sound_has_a_margin.Goals as goal

pub returns-clause-fixed : goal.returns-clause-fixed
returns-clause-fixed c = fixed_margin

pub returns-clause-followed : goal.returns-clause-followed
returns-clause-followed c = followed_margin c.levels_are_bounded.ensures.peak

pub returns-clause-bits : goal.returns-clause-bits
returns-clause-bits c = bits_scaled
