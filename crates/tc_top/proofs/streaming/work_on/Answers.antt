use Rattle.tc_top.proofs.streaming.work_on.Goals as goal

-- a search does not see these three: what is claimed of them unfolds too far
pub returns-in-LtcMake : goal.returns-in-LtcMake
returns-in-LtcMake g c = rw c.in-LtcMake.is c.work-in-LtcMake.ensures

pub returns-in-VitcMake : goal.returns-in-VitcMake
returns-in-VitcMake g c = rw c.in-VitcMake.is c.work-in-VitcMake.ensures

pub returns-in-LabelOf : goal.returns-in-LabelOf
returns-in-LabelOf g c = rw c.in-LabelOf.is c.work-in-LabelOf.ensures
