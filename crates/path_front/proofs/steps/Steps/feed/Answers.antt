use Rattle.std.proofs.Common.{rules, ◌≡◌, ◌∷◌, FitsSigned, to_z-of_z, ap, subst, sym, ◌∙◌}
use Rattle.std.specs.Int.{w16, w32}
use Rattle.step_grid.specs.declared.grid.Grid.TheVariants.{Repeat, Sum}
use Rattle.path_front.specs.declared.group.Sounds.{Sounds}
use Rattle.path_front.specs.Clip.{clip_at, clipped_to}
use Rattle.path_front.specs.Steps.{StepsState, StepsStandFor}
use Rattle.path_front.proofs.StepsNext.{brings_mean, brings_none, brings_repeats, fed}
use Rattle.path_front.proofs.steps.Steps.feed.Goals as goal

pub returns-in-Repeat-clause-stands : goal.returns-in-Repeat-clause-stands
returns-in-Repeat-clause-stands c = λ samples given stand_now.
    let i = c.self.inside in
    let state : StepsState = record {
      grid = i.grid;
      clip = i.clip;
      hold = i.hold;
      group = i.group;
      left = i.left;
      latest = i.latest;
      levels = i.levels;
    } in
    let stand = subst (λ s. StepsStandFor s samples given) (sym c.self.view_is) stand_now in
    let none : i.left ≡ 0 = ap (λ (s : StepsState). s.left) c.self.view_is ∙ c.requires.given in
    let a : FitsSigned w32 c.clip-clipped.result = search rules in
    let b : FitsSigned w32 c.hold-held.result = search rules in
    let now : Sounds = record { clipped = c.clip-clipped.result; held = c.hold-held.result } in
    let holds = rw (to_z-of_z a) at c.hold-held.ensures.stands in
    let held = rw (to_z-of_z a) at c.hold-held.ensures.value in
    let x : FitsSigned w16 c.args.sample = search rules in
    let clips = (rw (to_z-of_z x) at c.clip-clipped.ensures.stands) samples stand.clip in
    let clip = (rw (to_z-of_z x) at c.clip-clipped.ensures.value) samples stand.clip
    ∙ ap (λ p. clipped_to (clip_at p (c.args.sample ∷ samples)) c.args.sample) c.peak.ensures.value in
    rw (to_z-of_z a, to_z-of_z b)
    (subst (λ g. StepsStandFor (record {
      grid = g;
      clip = c.clip-clipped.new.sizes;
      hold = c.hold-held.new.self;
      group = i.group;
      left = c.in-Repeat.repeats;
      latest = now;
      levels = i.levels;
    }) (c.args.sample ∷ samples) given) (sym c.in-Repeat.is)
    (fed (Repeat c.in-Repeat.repeats) state c.clip-clipped.new.sizes c.hold-held.new.self i.group c.in-Repeat.repeats
    now now
    c.args.sample samples given c.in-Repeat.is none stand clips c.hold-held.ensures.least clip holds held
    (λ before grouped. tt) (λ before grouped. brings_repeats c.in-Repeat.repeats now before)))

pub returns-in-Some-clause-stands : goal.returns-in-Some-clause-stands
returns-in-Some-clause-stands c = λ samples given stand_now.
    let i = c.self.inside in
    let state : StepsState = record {
      grid = i.grid;
      clip = i.clip;
      hold = i.hold;
      group = i.group;
      left = i.left;
      latest = i.latest;
      levels = i.levels;
    } in
    let stand = subst (λ s. StepsStandFor s samples given) (sym c.self.view_is) stand_now in
    let none : i.left ≡ 0 = ap (λ (s : StepsState). s.left) c.self.view_is ∙ c.requires.given in
    let a : FitsSigned w32 c.clip-clipped.result = search rules in
    let b : FitsSigned w32 c.hold-held.result = search rules in
    let now : Sounds = record { clipped = c.clip-clipped.result; held = c.hold-held.result } in
    let holds = rw (to_z-of_z a) at c.hold-held.ensures.stands in
    let held = rw (to_z-of_z a) at c.hold-held.ensures.value in
    let x : FitsSigned w16 c.args.sample = search rules in
    let clips = (rw (to_z-of_z x) at c.clip-clipped.ensures.stands) samples stand.clip in
    let clip = (rw (to_z-of_z x) at c.clip-clipped.ensures.value) samples stand.clip
    ∙ ap (λ p. clipped_to (clip_at p (c.args.sample ∷ samples)) c.args.sample) c.peak.ensures.value in
    let due_is = rw (to_z-of_z a, to_z-of_z b) at c.in-Some.ensures.due in
    let stands = rw (to_z-of_z a, to_z-of_z b) at c.add.ensures.stands in
    subst (λ g. StepsStandFor (record {
      grid = g;
      clip = c.clip-clipped.new.sizes;
      hold = c.hold-held.new.self;
      group = c.add.new.self;
      left = 1;
      latest = c.in-Some.mean;
      levels = i.levels;
    }) (c.args.sample ∷ samples) given) (sym c.in-Sum.is)
    (fed (Sum c.in-Sum.summed) state c.clip-clipped.new.sizes c.hold-held.new.self c.add.new.self 1 c.in-Some.mean now
    c.args.sample samples given c.in-Sum.is none stand clips c.hold-held.ensures.least clip holds held stands
    (λ before grouped. brings_mean c.in-Sum.summed now c.in-Some.mean before (due_is before grouped)))

pub returns-in_default-clause-stands : goal.returns-in_default-clause-stands
returns-in_default-clause-stands c = λ samples given stand_now.
    let i = c.self.inside in
    let state : StepsState = record {
      grid = i.grid;
      clip = i.clip;
      hold = i.hold;
      group = i.group;
      left = i.left;
      latest = i.latest;
      levels = i.levels;
    } in
    let stand = subst (λ s. StepsStandFor s samples given) (sym c.self.view_is) stand_now in
    let none : i.left ≡ 0 = ap (λ (s : StepsState). s.left) c.self.view_is ∙ c.requires.given in
    let a : FitsSigned w32 c.clip-clipped.result = search rules in
    let b : FitsSigned w32 c.hold-held.result = search rules in
    let now : Sounds = record { clipped = c.clip-clipped.result; held = c.hold-held.result } in
    let holds = rw (to_z-of_z a) at c.hold-held.ensures.stands in
    let held = rw (to_z-of_z a) at c.hold-held.ensures.value in
    let x : FitsSigned w16 c.args.sample = search rules in
    let clips = (rw (to_z-of_z x) at c.clip-clipped.ensures.stands) samples stand.clip in
    let clip = (rw (to_z-of_z x) at c.clip-clipped.ensures.value) samples stand.clip
    ∙ ap (λ p. clipped_to (clip_at p (c.args.sample ∷ samples)) c.args.sample) c.peak.ensures.value in
    let due_is = rw (to_z-of_z a, to_z-of_z b) at c.add.ensures.due in
    let stands = rw (to_z-of_z a, to_z-of_z b) at c.add.ensures.stands in
    subst (λ n. StepsStandFor (record {
      grid = i.grid;
      clip = c.clip-clipped.new.sizes;
      hold = c.hold-held.new.self;
      group = c.add.new.self;
      left = n;
      latest = i.latest;
      levels = i.levels;
    }) (c.args.sample ∷ samples) given) (sym none)
    (subst (λ g. StepsStandFor (record {
      grid = g;
      clip = c.clip-clipped.new.sizes;
      hold = c.hold-held.new.self;
      group = c.add.new.self;
      left = 0;
      latest = i.latest;
      levels = i.levels;
    }) (c.args.sample ∷ samples) given) (sym c.in-Sum.is)
    (fed (Sum c.in-Sum.summed) state c.clip-clipped.new.sizes c.hold-held.new.self c.add.new.self 0 i.latest now
    c.args.sample samples given c.in-Sum.is none stand clips c.hold-held.ensures.least clip holds held stands
    (λ before grouped. brings_none c.in-Sum.summed now i.latest before (sym c.in_default.is ∙ due_is before grouped))))
