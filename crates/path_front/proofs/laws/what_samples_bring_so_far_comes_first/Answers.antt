use Rattle.std.proofs.Common.{[], refl}
use Rattle.path_front.specs.Cells.{measured_cells}
use Rattle.path_front.specs.Front.{intervals_before, intervals_of_judged}
use Rattle.path_front.specs.Gate.{ear_of}
use Rattle.path_front.specs.Steps.{path_steps, sounds_of}
use Rattle.path_front.proofs.SoFar.{so_far_first, so_far_in_all, so_far_once}
use Rattle.path_front.proofs.laws.what_samples_bring_so_far_comes_first.Goals as goal

pub returns-clause-once : goal.returns-clause-once
returns-clause-once c = so_far_once c.one_list_is_decided.ensures

pub returns-clause-first : goal.returns-clause-first
returns-clause-first c = so_far_first c.what_is_decided_stays.ensures c.one_list_is_decided.ensures
    c.the_cells_decided_so_far_lie_in_the_sound.ensures

pub returns-clause-in_all : goal.returns-clause-in_all
returns-clause-in_all c = so_far_in_all c.what_is_decided_stays.ensures c.one_list_is_decided.ensures
    c.the_cells_decided_so_far_lie_in_the_sound.ensures

pub returns-clause-some : goal.returns-clause-some
returns-clause-some c = λ grid ticks least samples.
    let sounds = sounds_of grid least samples in
    let all = c.cells_are_decided_of_each_sound.ensures.decided (path_steps sounds) in (
      intervals_of_judged ticks (ear_of grid least) (measured_cells sounds all.0),
      record { cells = all.0; decided = all.1; intervals_are = refl },
    )

pub returns-clause-whole : goal.returns-clause-whole
returns-clause-whole c = λ grid ticks least samples.
    let sounds = sounds_of grid least samples in
    let all = c.cells_are_decided_of_each_sound.ensures.in_all (path_steps sounds) in (
      intervals_before ticks (ear_of grid least) (measured_cells sounds all.0) [],
      record { cells = all.0; decided = all.1; intervals_are = refl },
    )
