use Rattle.std.proofs.Common.{◌≡◌, ℕ, ◌≤ℤ◌, ◌<ℤ◌, [], ◌∷◌, ap, ◌∙◌}
use Rattle.cell_path.specs.Four.{at_step, low, AreNear}
use Rattle.cell_path.specs.declared.four.One.{One}
use Rattle.cell_path.proofs.Lowest.{at_each_step}
use Rattle.cell_path.proofs.four.Four.or.Goals as goal

pub returns-clause-stays : goal.returns-clause-stays
returns-clause-stays c = λ step x y within.
    let numbers = c.pick-a.result.number ∷ c.pick-b.result.number ∷ c.pick-c.result.number
    ∷ c.pick-d.result.number ∷ [] in
    let codes = c.pick-a.result.code ∷ c.pick-b.result.code ∷ c.pick-c.result.code ∷ c.pick-d.result.code ∷ [] in
    let P : ℕ → Type 0 = λ s. at_step c.args.self.numbers s ≡ low x → at_step c.args.others s ≡ low y → AreNear x y
    → y ≤ℤ x → (at_step numbers s ≡ low x) × (at_step codes s ≡ at_step c.args.self.codes s) in
    at_each_step P
    (λ p q near above. let e = c.pick-a.ensures.stays x y p q near above in
    (ap (λ (o : One). o.number) e ∙ p, ap (λ (o : One). o.code) e))
    (λ p q near above. let e = c.pick-b.ensures.stays x y p q near above in
    (ap (λ (o : One). o.number) e ∙ p, ap (λ (o : One). o.code) e))
    (λ p q near above. let e = c.pick-c.ensures.stays x y p q near above in
    (ap (λ (o : One). o.number) e ∙ p, ap (λ (o : One). o.code) e))
    (λ p q near above. let e = c.pick-d.ensures.stays x y p q near above in
    (ap (λ (o : One). o.number) e ∙ p, ap (λ (o : One). o.code) e))
    step within

pub returns-clause-comes : goal.returns-clause-comes
returns-clause-comes c = λ step x y within.
    let numbers = c.pick-a.result.number ∷ c.pick-b.result.number ∷ c.pick-c.result.number
    ∷ c.pick-d.result.number ∷ [] in
    let codes = c.pick-a.result.code ∷ c.pick-b.result.code ∷ c.pick-c.result.code ∷ c.pick-d.result.code ∷ [] in
    let P : ℕ → Type 0 = λ s. at_step c.args.self.numbers s ≡ low x → at_step c.args.others s ≡ low y → AreNear x y
    → x <ℤ y → (at_step numbers s ≡ low y) × (at_step codes s ≡ c.args.code) in
    at_each_step P
    (λ p q near above. let e = c.pick-a.ensures.comes x y p q near above in
    (ap (λ (o : One). o.number) e ∙ q, ap (λ (o : One). o.code) e))
    (λ p q near above. let e = c.pick-b.ensures.comes x y p q near above in
    (ap (λ (o : One). o.number) e ∙ q, ap (λ (o : One). o.code) e))
    (λ p q near above. let e = c.pick-c.ensures.comes x y p q near above in
    (ap (λ (o : One). o.number) e ∙ q, ap (λ (o : One). o.code) e))
    (λ p q near above. let e = c.pick-d.ensures.comes x y p q near above in
    (ap (λ (o : One). o.number) e ∙ q, ap (λ (o : One). o.code) e))
    step within
