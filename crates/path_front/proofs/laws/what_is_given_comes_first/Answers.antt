use Rattle.path_front.proofs.GivenFirst.{given_first}
use Rattle.path_front.proofs.Emptied.{given_first_at_end, given_first_so_far}
use Rattle.path_front.proofs.laws.what_is_given_comes_first.Goals as goal

pub returns-clause-in_all : goal.returns-clause-in_all
returns-clause-in_all c = given_first c.what_is_decided_stays.ensures c.one_list_is_decided.ensures

pub returns-clause-so_far : goal.returns-clause-so_far
returns-clause-so_far c = given_first_so_far c.what_is_decided_stays.ensures c.one_list_is_decided.ensures

pub returns-clause-at_end : goal.returns-clause-at_end
returns-clause-at_end c = given_first_at_end c.one_list_is_decided_in_all.ensures
