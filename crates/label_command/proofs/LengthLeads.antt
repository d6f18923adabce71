-- A length leads from its first label to its second, around the day.
use Rattle.std.proofs.Common.{◌≡◌, ℕ, ◌+◌, ◌-◌, ◌%◌, ◌<◌, ◌≤◌, nat_le, Bool, true, false, refl, ap, subst, ◌∙◌, arith}
use Rattle.std.specs.Prelude.{pos}
use Rattle.std.proofs.Math.Nat.{mod-eq-sub-mod, mod-eq_of_lt}
use Rattle.std.proofs.lemmas.Bool.{leb-false, leb-true}
use Rattle.tc_address.specs.Circle.{ahead}
use Rattle.tc_address.specs.declared.count.Count.{Count}
use Rattle.tc_address.specs.Label.{Address, IsLabel}
use Rattle.tc_address.specs.Numbering.{day_length, number_of, step}
use Rattle.label_command.proofs.BackFromAFaster.{StepLaws, same_place}

there_around : (day a b : ℕ) → a < day → b < day → (a + ahead day a b) % day ≡ b
there_around day a b first second = by_order (nat_le a b) refl
  where
    by_order : (is : Bool) → nat_le a b ≡ is → (a + ahead day a b) % day ≡ b
    by_order true e =
        let low : a ≤ b = leb-true a b e in
        let more : day ≤ b + (day - a) = omega (arith, low, first) in
        let less : b + (day - a) - day ≡ b - a = omega (arith, low, first) in
        let few : b - a < day = omega (arith, second) in
        let way : ahead day a b ≡ b - a = mod-eq-sub-mod more ∙ ap (λ (n : ℕ). n % day) less ∙ mod-eq_of_lt few in
        let there : a + (b - a) ≡ b = omega (arith, low) in
        ap (λ (n : ℕ). (a + n) % day) way ∙ ap (λ (n : ℕ). n % day) there ∙ mod-eq_of_lt second
    by_order false e =
        let high : b < a = leb-false a b e in
        let few : b + (day - a) < day = omega (arith, high, first) in
        let way : ahead day a b ≡ b + (day - a) = mod-eq_of_lt few in
        let more : day ≤ a + (b + (day - a)) = omega (arith, first) in
        let there : a + (b + (day - a)) - day ≡ b = omega (arith, first) in
        ap (λ (n : ℕ). (a + n) % day) way ∙ mod-eq-sub-mod more ∙ ap (λ (n : ℕ). n % day) there ∙ mod-eq_of_lt second

pub leads_there : StepLaws → (from to : Address) → IsLabel from → IsLabel to → from.count ≡ to.count
    → step from (pos (ahead (day_length to.count) (number_of from) (number_of to))) ≡ to
leads_there laws from to one other same =
    let day = day_length to.count in
    let length = ahead day (number_of from) (number_of to) in
    let there = laws.stepped from (pos length) in
    let within : number_of from < day =
    subst (λ (c : Count). number_of from < day_length c) same (laws.below from one) in
    same_place laws (step from (pos length)) to there.1 other (there.0 ∙ same)
    (laws.number from (pos length) ∙ ap (λ (c : Count). (number_of from + length) % day_length c) same
    ∙ there_around day (number_of from) (number_of to) within (laws.below to other))
