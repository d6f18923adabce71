use Rattle.std.proofs.Common.{refl, arith}
use Rattle.tape_sound.proofs.FromTheLock.{steady_locked}
use Rattle.tape_sound.proofs.KeepsTheSum.{from_a_lock}
use Rattle.tape_sound.proofs.rough_laws.a_rough_tape_bears_more_from_a_lock_on.Goals as goal

pub returns-clause-follow : goal.returns-clause-follow
returns-clause-follow c = from_a_lock

pub returns-clause-words : goal.returns-clause-words
returns-clause-words c = steady_locked (record {
  read = c.words_behind_a_lock_are_read.ensures;
  one = c.a_list_has_one_list_of_events.ensures;
})

-- the zero at the lock is found 9 ticks too short, and the next one 9 ticks too long
pub returns-clause-fewer : goal.returns-clause-fewer
returns-clause-fewer c = (
  omega arith,
  (0, omega arith, refl, (9, omega arith, refl, tt)),
  λ follow. let next = follow.1.1.1 in omega (arith, next),
)
