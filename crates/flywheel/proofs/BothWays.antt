-- A word that is played backward leads back to where the same label, played forward, leads from.
use Rattle.std.proofs.Common.{ℕ, List, [], ◌∷◌}
use Rattle.tc_address.specs.Label.{Address}
use Rattle.tc_address.specs.KnownLabels.{AreApart}
use Rattle.flywheel.specs.LeadsTo.{LeadBothWays}

pub both_ways : (rows : List (Address × ℕ × Address)) → AreApart rows → LeadBothWays rows
both_ways [] apart = apart
both_ways (row ∷ rows) apart = ((λ tick length. apart.0.0, λ tick length. apart.0.1), both_ways rows apart.1)
