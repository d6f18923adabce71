-- Which label a word leads to, where counting turns. The labels are worked out by hand in
-- `tc_address/specs/KnownLabels.antt`.
use Rattle.std.specs.Prelude.{◌≡◌, ℕ, List}
use Rattle.std.specs.List.{AllByRecursion}
use Rattle.tc_address.specs.declared.direction.Direction.{Direction}
use Rattle.tc_address.specs.declared.direction.Direction.TheVariants.{Forward, Backward}
use Rattle.tc_address.specs.Label.{Address}
use Rattle.flywheel.specs.Frames.{label_after}

-- so many steps after a word with this label comes that one, wherever the word ended and however long it lasted
abbrev pub Leads : Direction → Address → ℕ → Address → Type 0
Leads direction from steps to =
    (tick length : ℕ)
    → label_after (record { label = from; direction = direction; tick = tick; length = length }) steps ≡ to

-- forward from the first label of each row to the second, and backward from the second to the first
abbrev pub LeadBothWays : List (Address × ℕ × Address) → Type 0
LeadBothWays rows = AllByRecursion (λ row. Leads Forward row.0 row.1 row.2 × Leads Backward row.2 row.1 row.0) rows
