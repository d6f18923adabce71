-- One sample more brings its steps, and each that is given leaves the others.
use Rattle.std.proofs.Common.{◌≡◌, ℕ, zero, suc, ℤ, List, [], ◌∷◌, ◌++◌, Some, None, replicate, refl, ap}
use Rattle.std.proofs.Common.{subst, sym, ◌∙◌}
use Rattle.std.specs.Option.{option_to_list}
use Rattle.step_grid.specs.declared.grid.Grid.{Grid}
use Rattle.step_grid.specs.declared.grid.Grid.TheVariants.{Repeat, Sum}
use Rattle.path_front.specs.declared.group.Sounds.{Sounds}
use Rattle.path_front.specs.Clip.{clip_at, clipped, clipped_to, sizes_of}
use Rattle.path_front.specs.Grid.{due, on_grid, GroupState, GroupStandsFor}
use Rattle.path_front.specs.declared.hold.Loudness.{Loudness}
use Rattle.path_front.specs.Hold.{held_at, loudness_of, HoldState, HoldStandsFor}
use Rattle.path_front.specs.KeptSizes.{SizesState, SizesStandFor}
use Rattle.path_front.specs.Steps.{with_held, GroupStands, StepsState, StepsStandFor}

none_on : (grid : Grid) → on_grid grid [] ≡ []
unfolding on_grid
none_on (Repeat repeats) = refl
none_on (Sum summed) = refl

none_grouped : (grid : Grid) (group : GroupState) → ((summed : ℕ) → GroupStandsFor summed group [])
    → GroupStands grid group []
none_grouped (Repeat repeats) group stand = tt
none_grouped (Sum summed) group stand = stand summed

-- before the first sample
pub steps_new : (grid : Grid) (clip levels : SizesState) (hold : HoldState) (group : GroupState) (latest : Sounds)
    → SizesStandFor clip [] → HoldStandsFor hold [] → ((summed : ℕ) → GroupStandsFor summed group [])
    → SizesStandFor levels []
    → StepsStandFor (record {
      grid = grid;
      clip = clip;
      hold = hold;
      group = group;
      left = 0;
      latest = latest;
      levels = levels;
    }) [] []
unfolding clipped with_held
steps_new grid clip levels hold group latest clips holds groups levelled = record {
  clip = clips;
  hold = holds;
  group = none_grouped grid group groups;
  all = sym (none_on grid);
  levels = levelled;
}

-- the latest sample is clipped and held
pub fed : (grid : Grid) (state : StepsState) (clip : SizesState) (hold : HoldState) (group : GroupState) (left : ℕ)
    (latest now : Sounds) (sample : ℤ) (samples : List ℤ) (given : List Sounds)
    → state.grid ≡ grid → state.left ≡ 0 → StepsStandFor state samples given
    → SizesStandFor clip (sizes_of (sample ∷ samples)) → hold.least ≡ state.hold.least
    → now.clipped ≡ clipped_to (clip_at state.hold.loudness.peak (sample ∷ samples)) sample
    → ((before : List ℤ) → HoldStandsFor state.hold before → HoldStandsFor hold (now.clipped ∷ before))
    → ((before : List ℤ) → HoldStandsFor state.hold before → now.held ≡ held_at state.hold.least (now.clipped ∷ before))
    → ((before : List Sounds) → GroupStands grid state.group before → GroupStands grid group (now ∷ before))
    → ((before : List Sounds) → GroupStands grid state.group before
    → replicate left latest ++ on_grid grid before ≡ on_grid grid (now ∷ before))
    → StepsStandFor (record {
      grid = grid;
      clip = clip;
      hold = hold;
      group = group;
      left = left;
      latest = latest;
      levels = state.levels;
    }) (sample ∷ samples) given
unfolding clipped with_held
fed grid state clip hold group left latest now sample samples given grid_is none stand clips least clip_at_peak holds
    held_is groups brings =
    let clip_is : now.clipped
    ≡ clipped_to (clip_at (loudness_of (clipped samples)).peak (sample ∷ samples)) sample =
    clip_at_peak ∙ ap (λ (l : Loudness). clipped_to (clip_at l.peak (sample ∷ samples)) sample) stand.hold.loudness in
    let before = with_held state.hold.least (clipped samples) in
    let grouped : GroupStands grid state.group before =
    subst (λ g. GroupStands g state.group before) grid_is stand.group in
    let same : with_held hold.least (clipped (sample ∷ samples)) ≡ now ∷ before =
    ap (λ n. with_held n (clipped (sample ∷ samples))) least
    ∙ ap (λ x. record { clipped = x; held = held_at state.hold.least (x ∷ clipped samples) } ∷ before) (sym clip_is)
    ∙ ap (λ x. record { clipped = now.clipped; held = x } ∷ before) (sym (held_is (clipped samples) stand.hold)) in
    let all : given ≡ on_grid grid before =
    sym (ap (λ n. replicate n state.latest ++ given) none) ∙ stand.all ∙ ap (λ g. on_grid g before) grid_is in
    record {
      clip = clips;
      hold = subst (λ x. HoldStandsFor hold (x ∷ clipped samples)) clip_is (holds (clipped samples) stand.hold);
      group = subst (GroupStands grid group) (sym same) (groups before grouped);
      all = ap (λ l. replicate left latest ++ l) all ∙ brings before grouped ∙ ap (on_grid grid) (sym same);
      levels = stand.levels;
    }

pub brings_repeats : (repeats : ℕ) (now : Sounds) (before : List Sounds)
    → replicate repeats now ++ on_grid (Repeat repeats) before ≡ on_grid (Repeat repeats) (now ∷ before)
unfolding on_grid
brings_repeats repeats now before = refl

pub brings_mean : (summed : ℕ) (now mean : Sounds) (before : List Sounds) → Some mean ≡ due summed (now ∷ before)
    → replicate 1 mean ++ on_grid (Sum summed) before ≡ on_grid (Sum summed) (now ∷ before)
unfolding on_grid
brings_mean summed now mean before is = ap (λ o. option_to_list o ++ on_grid (Sum summed) before) is

pub brings_none : (summed : ℕ) (now latest : Sounds) (before : List Sounds) → None ≡ due summed (now ∷ before)
    → replicate 0 latest ++ on_grid (Sum summed) before ≡ on_grid (Sum summed) (now ∷ before)
unfolding on_grid
brings_none summed now latest before is = ap (λ o. option_to_list o ++ on_grid (Sum summed) before) is

-- a step is given
pub one_given : {X : Type 0} (n : ℕ) (x : X) (xs : List X) → replicate n x ++ x ∷ xs ≡ replicate (suc n) x ++ xs
one_given zero x xs = refl
one_given (suc n) x xs = ap (λ l. x ∷ l) (one_given n x xs)
