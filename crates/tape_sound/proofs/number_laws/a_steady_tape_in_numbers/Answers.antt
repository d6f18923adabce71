use Rattle.tape_sound.proofs.InNumbers.{even_normal, even_rough, even_worn, steady_normal, steady_rough, steady_worn}
use Rattle.tape_sound.proofs.InNumbers.{within_a_hundredth}
use Rattle.tape_sound.proofs.number_laws.a_steady_tape_in_numbers.Goals as goal

pub returns-clause-normal : goal.returns-clause-normal
returns-clause-normal c = steady_normal

pub returns-clause-worn : goal.returns-clause-worn
returns-clause-worn c = steady_worn

pub returns-clause-rough : goal.returns-clause-rough
returns-clause-rough c = steady_rough

pub returns-clause-even : goal.returns-clause-even
returns-clause-even c = λ half delay tape runs.
    (even_normal half delay tape runs, even_worn half delay tape runs, even_rough half delay tape runs)

pub returns-clause-hundredth : goal.returns-clause-hundredth
returns-clause-hundredth c = within_a_hundredth
