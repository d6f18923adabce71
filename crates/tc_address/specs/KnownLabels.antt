-- Labels worked out by hand, at the places where counting turns: at the end of a second, a minute, ten minutes, an hour
-- and the day, and where drop-frame counting drops labels (SMPTE 12M, "drop frame").
use Rattle.std.specs.Prelude.{◌≡◌, ℕ, pos, neg_ℤ, List, [], ◌∷◌}
use Rattle.std.specs.List.{AllByRecursion}
use Rattle.tc_address.specs.declared.count.Count.TheVariants.{C24, C25, C30, Drop30}
use Rattle.tc_address.specs.Label.{Address, address}
use Rattle.tc_address.specs.Numbering.{number_of, step}

-- a label, and how many labels come before it in its day
abbrev pub numbered_labels : List (Address × ℕ)
numbered_labels =
    (address C24 0 0 0 23, 23) ∷ (address C24 0 0 1 0, 24) ∷ (address C24 0 1 0 0, 1_440)
    ∷ (address C24 1 0 0 0, 86_400) ∷ (address C24 23 59 59 23, 2_073_599)
    ∷ (address C25 0 0 3 15, 90) ∷ (address C25 1 0 0 0, 90_000) ∷ (address C25 23 59 59 24, 2_159_999)
    ∷ (address C30 0 1 0 0, 1_800) ∷ (address C30 1 0 0 0, 108_000) ∷ (address C30 23 59 59 29, 2_591_999)
    ∷ (address Drop30 0 0 59 29, 1_799) ∷ (address Drop30 0 1 0 2, 1_800) ∷ (address Drop30 0 9 59 29, 17_981)
    ∷ (address Drop30 0 10 0 0, 17_982) ∷ (address Drop30 1 0 0 0, 107_892) ∷ (address Drop30 23 59 59 29, 2_589_407)
    ∷ []

-- a label, and one of the same count that comes so many labels after it
abbrev pub labels_apart : List (Address × ℕ × Address)
labels_apart =
    (address C24 0 0 0 22, 1, address C24 0 0 0 23) ∷ (address C24 0 0 0 23, 1, address C24 0 0 1 0)
    ∷ (address C24 23 59 59 23, 1, address C24 0 0 0 0) ∷ (address C24 9 59 59 22, 3, address C24 10 0 0 1)
    ∷ (address C25 0 0 59 24, 1, address C25 0 1 0 0) ∷ (address C25 23 59 59 24, 1, address C25 0 0 0 0)
    ∷ (address C25 23 59 59 23, 4, address C25 0 0 0 2) ∷ (address C25 12 0 0 0, 1_080_000, address C25 0 0 0 0)
    ∷ (address C30 0 0 59 29, 1, address C30 0 1 0 0) ∷ (address C30 23 59 59 29, 1, address C30 0 0 0 0)
    ∷ (address Drop30 0 0 59 29, 1, address Drop30 0 1 0 2) ∷ (address Drop30 0 1 0 2, 1, address Drop30 0 1 0 3)
    ∷ (address Drop30 0 1 59 29, 1, address Drop30 0 2 0 2) ∷ (address Drop30 0 9 59 29, 1, address Drop30 0 10 0 0)
    ∷ (address Drop30 0 10 0 1, 1, address Drop30 0 10 0 2) ∷ (address Drop30 0 10 59 29, 1, address Drop30 0 11 0 2)
    ∷ (address Drop30 0 59 59 28, 3, address Drop30 1 0 0 1) ∷ (address Drop30 23 59 59 29, 1, address Drop30 0 0 0 0)
    ∷ (address Drop30 23 59 59 28, 1_803, address Drop30 0 1 0 3) ∷ []

-- each has its number
abbrev pub AreNumbered : List (Address × ℕ) → Type 0
AreNumbered rows = AllByRecursion (λ row. number_of row.0 ≡ row.1) rows

-- so many steps lead from the first label of a row to the second, and as many back from that to the first
abbrev pub AreApart : List (Address × ℕ × Address) → Type 0
AreApart rows =
    AllByRecursion (λ row. (step row.0 (pos row.1) ≡ row.2) × (step row.2 (neg_ℤ (pos row.1)) ≡ row.0)) rows
