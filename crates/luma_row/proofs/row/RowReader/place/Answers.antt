use Rattle.std.proofs.Common.{ℕ, List, Option, inl, inr, Some, None}
use Rattle.std.specs.Option.{IfNone}
use Rattle.luma_row.specs.declared.place.Place.{Place}
use Rattle.luma_row.specs.Edges.{IsSharp}
use Rattle.luma_row.specs.Row.{IsSought, LiesAt}
use Rattle.luma_row.proofs.row.RowReader.place.Goals as goal

neither : (row : List ℕ) → ((place : Place) → IsSharp row place → ⊥) → (found : Option Place)
    → IfNone found ((place : Place) → IsSought row place → ⊥) → IfNone found ((place : Place) → LiesAt row place → ⊥)
neither row blunt None none = λ place is. elim is [ inl sharp ↦ blunt place sharp | inr sought ↦ none place sought.1 ]
neither row blunt (Some place) none = none

pub returns-in-None-clause-none : goal.returns-in-None-clause-none
returns-in-None-clause-none c = neither c.args.row.now c.in-None.ensures.none c.sought.result c.sought.ensures.none
