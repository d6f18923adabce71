-- From 140 samples a frame on a cell at play speed has 14 steps or more if a sample has eight, and each further grid
-- halves them, so one has from 14 to 27; below that no grid has 14.
use Rattle.std.proofs.Common.{◌≡◌, ℕ, ◌<◌, ◌≤◌, Bool, true, false, List, [], ◌∷◌, Some, None}
use Rattle.std.proofs.Common.{refl, sym, ◌∙◌, ap, arith}
use Rattle.std.specs.Prelude.{if◌then◌else◌, nat_le, ◌&&◌}
use Rattle.std.specs.List.{AllByRecursion}
use Rattle.std.specs.Option.{option_map}
use Rattle.std.proofs.lemmas.Bool.{le-leb, lt-leb, leb-false}
use Rattle.step_grid.specs.declared.grid.Grid.{Grid}
use Rattle.step_grid.specs.declared.grid.Grid.TheVariants.{Repeat, Sum}
use Rattle.tc_address.specs.declared.system.System.{System}
use Rattle.tc_address.specs.declared.system.System.TheVariants.{F24, F25, F30}
use Rattle.tc_job.specs.PathGrid.{first_fit, grids, is_fit, step_ticks, steps_of_cell}
use Rattle.tc_job.specs.PathSlicing.{path_slicing_of, SlicesPath}
use Rattle.tc_job.specs.TrackPath.{least_rate_of, sound_of, sound_on, SlicesTrackPath}

-- ---- a grid that is fit

-- some grid of a list is fit, and a step of it has ticks
abbrev Has : System → ℕ → List Grid → Type 0
Has system rate list =
    (grid : Grid) × (ticks : ℕ) × (first_fit system rate list ≡ Some grid) × (step_ticks 16 grid ≡ Some ticks)

-- with 14 steps or more a grid is fit, or has 28 or more
unfit : (steps : ℕ) → 14 ≤ steps → (nat_le 14 steps && nat_le steps 27) ≡ false → 28 ≤ steps
unfit steps least unfits =
    leb-false steps 27 (sym (ap (λ (b : Bool). b && nat_le steps 27) (le-leb 14 steps least)) ∙ unfits)

-- the first grid is fit, or one after it
or_next : (system : System) (rate : ℕ) (grid : Grid) (more : List Grid) (ticks : ℕ) → step_ticks 16 grid ≡ Some ticks
    → 14 ≤ steps_of_cell system rate grid → (28 ≤ steps_of_cell system rate grid → Has system rate more)
    → Has system rate (grid ∷ more)
unfolding first_fit
or_next system rate grid more ticks is least behind = by_test (is_fit system rate grid) refl
  where
    by_test : (b : Bool) → is_fit system rate grid ≡ b → Has system rate (grid ∷ more)
    by_test true e = (grid, ticks, ap (λ (b : Bool). if b then Some grid else first_fit system rate more) e, is)
    by_test false e =
        let h = behind (unfit (steps_of_cell system rate grid) least e) in
        (h.0, h.1, ap (λ (b : Bool). if b then Some grid else first_fit system rate more) e ∙ h.2, h.3)

-- 6,250,000 samples a second are fewer than a grid of 512 takes
has_grid : (system : System) (rate : ℕ) → least_rate_of system ≤ rate → rate ≤ 6_250_000 → Has system rate grids
has_grid F24 rate least most =
    or_next F24 rate (Repeat 8) _ 2 refl (omega (arith, least)) (λ a.
    or_next F24 rate (Repeat 4) _ 4 refl (omega (arith, a)) (λ b.
    or_next F24 rate (Repeat 2) _ 8 refl (omega (arith, b)) (λ c.
    or_next F24 rate (Repeat 1) _ 16 refl (omega (arith, c)) (λ d.
    or_next F24 rate (Sum 2) _ 32 refl (omega (arith, d)) (λ e.
    or_next F24 rate (Sum 4) _ 64 refl (omega (arith, e)) (λ f.
    or_next F24 rate (Sum 8) _ 128 refl (omega (arith, f)) (λ g.
    or_next F24 rate (Sum 16) _ 256 refl (omega (arith, g)) (λ h.
    or_next F24 rate (Sum 32) _ 512 refl (omega (arith, h)) (λ i.
    or_next F24 rate (Sum 64) _ 1_024 refl (omega (arith, i)) (λ j.
    or_next F24 rate (Sum 128) _ 2_048 refl (omega (arith, j)) (λ k. absurd (omega (arith, k, most)))))))))))))
has_grid F25 rate least most =
    or_next F25 rate (Repeat 8) _ 2 refl (omega (arith, least)) (λ a.
    or_next F25 rate (Repeat 4) _ 4 refl (omega (arith, a)) (λ b.
    or_next F25 rate (Repeat 2) _ 8 refl (omega (arith, b)) (λ c.
    or_next F25 rate (Repeat 1) _ 16 refl (omega (arith, c)) (λ d.
    or_next F25 rate (Sum 2) _ 32 refl (omega (arith, d)) (λ e.
    or_next F25 rate (Sum 4) _ 64 refl (omega (arith, e)) (λ f.
    or_next F25 rate (Sum 8) _ 128 refl (omega (arith, f)) (λ g.
    or_next F25 rate (Sum 16) _ 256 refl (omega (arith, g)) (λ h.
    or_next F25 rate (Sum 32) _ 512 refl (omega (arith, h)) (λ i.
    or_next F25 rate (Sum 64) _ 1_024 refl (omega (arith, i)) (λ j.
    or_next F25 rate (Sum 128) _ 2_048 refl (omega (arith, j)) (λ k. absurd (omega (arith, k, most)))))))))))))
has_grid F30 rate least most =
    or_next F30 rate (Repeat 8) _ 2 refl (omega (arith, least)) (λ a.
    or_next F30 rate (Repeat 4) _ 4 refl (omega (arith, a)) (λ b.
    or_next F30 rate (Repeat 2) _ 8 refl (omega (arith, b)) (λ c.
    or_next F30 rate (Repeat 1) _ 16 refl (omega (arith, c)) (λ d.
    or_next F30 rate (Sum 2) _ 32 refl (omega (arith, d)) (λ e.
    or_next F30 rate (Sum 4) _ 64 refl (omega (arith, e)) (λ f.
    or_next F30 rate (Sum 8) _ 128 refl (omega (arith, f)) (λ g.
    or_next F30 rate (Sum 16) _ 256 refl (omega (arith, g)) (λ h.
    or_next F30 rate (Sum 32) _ 512 refl (omega (arith, h)) (λ i.
    or_next F30 rate (Sum 64) _ 1_024 refl (omega (arith, i)) (λ j.
    or_next F30 rate (Sum 128) _ 2_048 refl (omega (arith, j)) (λ k. absurd (omega (arith, k, most)))))))))))))

sound_there : (t : SlicesTrackPath) (rate : ℕ) → Has t.system rate grids
    → (path : SlicesPath) × (sound_of t rate ≡ Some path)
sound_there t rate has = (
  path_slicing_of t.system rate t.least 16 has.0 has.1,
  ap (sound_on t rate) has.2
      ∙ ap (option_map (λ ticks. path_slicing_of t.system rate t.least 16 has.0 ticks)) has.3,
)

pub sound_from : (t : SlicesTrackPath) (rate : ℕ) → least_rate_of t.system ≤ rate → rate ≤ 6_250_000
    → (path : SlicesPath) × (sound_of t rate ≡ Some path)
sound_from t rate least most = sound_there t rate (has_grid t.system rate least most)

-- ---- none that is fit

-- of grids with fewer than 14 steps none is
none_fit : (system : System) (rate : ℕ) (list : List Grid)
    → AllByRecursion (λ grid. steps_of_cell system rate grid < 14) list → first_fit system rate list ≡ None
unfolding first_fit
none_fit system rate [] few = refl
none_fit system rate (grid ∷ more) few =
    ap (λ (b : Bool). if b && nat_le (steps_of_cell system rate grid) 27 then Some grid else first_fit system rate more)
    (lt-leb 14 (steps_of_cell system rate grid) few.0)
    ∙ none_fit system rate more few.1

few_steps : (system : System) (rate : ℕ) → rate < least_rate_of system
    → AllByRecursion (λ grid. steps_of_cell system rate grid < 14) grids
few_steps F24 rate low = (
  omega (arith, low),
  (
    omega (arith, low),
    (
      omega (arith, low),
      (
        omega (arith, low),
        (
          omega (arith, low),
          (
            omega (arith, low),
            (
              omega (arith, low),
              (
                omega (arith, low),
                (
                  omega (arith, low),
                  (
                    omega (arith, low),
                    (
                      omega (arith, low),
                      (
                        omega (arith, low),
                        (
                          omega (arith, low),
                          (
                            omega (arith, low),
                            (
                              omega (arith, low),
                              (
                                omega (arith, low),
                                tt,
                              ),
                            ),
                          ),
                        ),
                      ),
                    ),
                  ),
                ),
              ),
            ),
          ),
        ),
      ),
    ),
  ),
)
few_steps F25 rate low = (
  omega (arith, low),
  (
    omega (arith, low),
    (
      omega (arith, low),
      (
        omega (arith, low),
        (
          omega (arith, low),
          (
            omega (arith, low),
            (
              omega (arith, low),
              (
                omega (arith, low),
                (
                  omega (arith, low),
                  (
                    omega (arith, low),
                    (
                      omega (arith, low),
                      (
                        omega (arith, low),
                        (
                          omega (arith, low),
                          (
                            omega (arith, low),
                            (
                              omega (arith, low),
                              (
                                omega (arith, low),
                                tt,
                              ),
                            ),
                          ),
                        ),
                      ),
                    ),
                  ),
                ),
              ),
            ),
          ),
        ),
      ),
    ),
  ),
)
few_steps F30 rate low = (
  omega (arith, low),
  (
    omega (arith, low),
    (
      omega (arith, low),
      (
        omega (arith, low),
        (
          omega (arith, low),
          (
            omega (arith, low),
            (
              omega (arith, low),
              (
                omega (arith, low),
                (
                  omega (arith, low),
                  (
                    omega (arith, low),
                    (
                      omega (arith, low),
                      (
                        omega (arith, low),
                        (
                          omega (arith, low),
                          (
                            omega (arith, low),
                            (
                              omega (arith, low),
                              (
                                omega (arith, low),
                                tt,
                              ),
                            ),
                          ),
                        ),
                      ),
                    ),
                  ),
                ),
              ),
            ),
          ),
        ),
      ),
    ),
  ),
)

pub none_below : (t : SlicesTrackPath) (rate : ℕ) → rate < least_rate_of t.system → sound_of t rate ≡ None
none_below t rate low = ap (sound_on t rate) (none_fit t.system rate grids (few_steps t.system rate low))
