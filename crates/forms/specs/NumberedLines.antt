-- What `label` names, worked out by hand: the labels at both ends of the numbers of each day, and some between.
use Rattle.std.specs.Prelude.{◌≡◌, ℕ, List, [], ◌∷◌, codes, Ok, Err}
use Rattle.std.specs.List.{AllByRecursion}
use Rattle.tc_address.specs.Label.{Address, address}
use Rattle.tc_address.specs.declared.count.Count.TheVariants.{C24, C25, C30, Drop30}
use Rattle.tc_job.specs.declared.fault.WordsFault.TheVariants.{Value}
use Rattle.tc_job.specs.declared.job.Job.TheVariants.{LabelOf}
use Rattle.tc_job.specs.declared.job.Task.TheVariants.{Stream}
use Rattle.forms.specs.Lines.{task_of_line}

-- a line, and the label that has the number in it
abbrev pub numbered_lines : List (List ℕ × Address)
numbered_lines =
    (codes "label 24 0", address C24 0 0 0 0) ∷ (codes "label 24 2073599", address C24 23 59 59 23)
    ∷ (codes "label 25 90", address C25 0 0 3 15) ∷ (codes "label 25 2159999", address C25 23 59 59 24)
    ∷ (codes "label 30 1800", address C30 0 1 0 0) ∷ (codes "label 30 2591999", address C30 23 59 59 29)
    ∷ (codes "label 30d 1800", address Drop30 0 1 0 2) ∷ (codes "label 30d 2589407", address Drop30 23 59 59 29) ∷ []

-- each of the lines names its label
abbrev pub NameTheirLabels : List (List ℕ × Address) → Type 0
NameTheirLabels rows = AllByRecursion (λ row. task_of_line row.0 ≡ Ok (Stream (LabelOf row.1))) rows

-- lines with the number next to the last of its day
abbrev pub lines_past : List (List ℕ)
lines_past =
    codes "label 24 2073600" ∷ codes "label 25 2160000" ∷ codes "label 30 2592000" ∷ codes "label 30d 2589408" ∷ []

-- each of the lines has its fault in the number
abbrev pub NameNoLabel : List (List ℕ) → Type 0
NameNoLabel lines = AllByRecursion (λ line. task_of_line line ≡ Err (Value 2)) lines
