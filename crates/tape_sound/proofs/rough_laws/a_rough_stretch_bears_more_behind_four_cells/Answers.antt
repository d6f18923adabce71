use Rattle.std.proofs.Common.{refl, arith}
use Rattle.tape_sound.proofs.FourTogether.{follows_four}
use Rattle.tape_sound.proofs.FromTheLock.{even_locked}
use Rattle.tape_sound.proofs.rough_laws.a_rough_stretch_bears_more_behind_four_cells.Goals as goal

pub returns-clause-follow : goal.returns-clause-follow
returns-clause-follow c = follows_four

pub returns-clause-words : goal.returns-clause-words
returns-clause-words c = even_locked (record {
  read = c.words_behind_a_lock_are_read.ensures;
  one = c.a_list_has_one_list_of_events.ensures;
})

-- the first zero is found 8 ticks too short, and the half behind the four too long for what is left of them
pub returns-clause-fewer : goal.returns-clause-fewer
returns-clause-fewer c = (
  omega arith,
  (refl, (refl, (refl, (refl, (refl, refl, tt))))),
  (
    0,
    omega arith,
    refl,
    (
      0,
      omega arith,
      refl,
      (0, omega arith, refl, (0, omega arith, refl, (0, omega arith, (8, omega arith, refl, refl), tt))),
    ),
  ),
  λ follow. let half = follow.1.0.1 in omega (arith, half),
)
