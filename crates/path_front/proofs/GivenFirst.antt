-- What is given of a sound comes first, however the sound goes on.
use Rattle.std.proofs.Common.{◌≡◌, ℕ, ℤ, List, [], ◌∷◌, ◌++◌, reverse, replicate, refl, ap, subst}
use Rattle.std.proofs.Common.{sym, ◌∙◌}
use Rattle.std.specs.List.{flat_map}
use Rattle.std.proofs.lemmas.Grind.{flat_map-append}
use Rattle.std.proofs.lemmas.List.{append_assoc, append-nil, reverse-append, reverse-reverse}
use Rattle.cell_path.specs.declared.cell.Step.{Step}
use Rattle.cell_path.specs.declared.placed.Placed.{Placed}
use Rattle.cell_path.specs.Decided.{AreDecided, AreDecidedInAll}
use Rattle.path_front.specs.declared.gate.Ear.{Ear}
use Rattle.path_front.specs.declared.gate.Judged.{Judged}
use Rattle.step_grid.specs.declared.grid.Grid.{Grid}
use Rattle.path_front.specs.declared.group.Sounds.{Sounds}
use Rattle.path_front.specs.declared.judging.Phase.TheVariants.{Sound}
use Rattle.path_front.specs.declared.measured.Measured.{Measured}
use Rattle.path_front.specs.Cells.{cell_behind, measured_cells, CellsStandFor}
use Rattle.path_front.specs.Front.{intervals_before, judgements, AreIntervals, FrontState, FrontStandsFor}
use Rattle.path_front.specs.Gate.{breaks, ear_of}
use Rattle.path_front.specs.Judging.{CellsIn, ForMore}
use Rattle.path_front.specs.Steps.{heard_at, path_steps, sounds_of}
use Rattle.path_front.specs.Tiles.{tiles_of}
use Rattle.path_front.proofs.CellsNext.{cells_stay, sounds_more}

-- ---- the decisions

abbrev pub DecidedStays : Type 0
DecidedStays = (step : Step) (steps : List Step) (all : List Placed) → AreDecided (step ∷ steps) all
    → (before new : List Placed) × AreDecided steps before × (all ≡ new ++ before)

abbrev pub DecidedOnce : Type 0
DecidedOnce = (steps : List Step) (all others : List Placed) → AreDecided steps all → AreDecided steps others
    → all ≡ others

-- what is decided later comes in front of what is decided now
pub still_decided : DecidedStays → DecidedOnce → (extra steps : List Step) (all now : List Placed)
    → AreDecided (extra ++ steps) all → AreDecided steps now → (new : List Placed) × (all ≡ new ++ now)
still_decided stays once [] steps all now later is = ([], once steps all now later is)
still_decided stays once (step ∷ extra) steps all now later is =
    let one = stays step (extra ++ steps) all later in
    let more = still_decided stays once extra steps one.0 now one.2 is in (
      one.1 ++ more.0,
      one.3 ∙ ap (λ l. one.1 ++ l) more.1 ∙ sym (append_assoc one.1 more.0 now),
    )

ended_with : (before now new all : List Placed) → before ≡ new ++ now → (last : List Placed) → all ≡ last ++ before
    → (more : List Placed) × (all ≡ more ++ now)
ended_with before now new all is last ends =
    (last ++ new, ends ∙ ap (λ l. last ++ l) is ∙ sym (append_assoc last new now))

-- also when the sound has ended
pub decided_in_all : DecidedStays → DecidedOnce → (extra steps : List Step) (all now : List Placed)
    → AreDecidedInAll (extra ++ steps) all → AreDecided steps now → (new : List Placed) × (all ≡ new ++ now)
decided_in_all stays once [] [] all now later is = ([], later ∙ sym is)
decided_in_all stays once [] (step ∷ steps) all now later is =
    let more = still_decided stays once [] (step ∷ steps) later.0 now later.1 is in
    ended_with later.0 now more.0 all more.1 _ later.4
decided_in_all stays once (step ∷ extra) steps all now later is =
    let more = still_decided stays once (step ∷ extra) steps later.0 now later.1 is in
    ended_with later.0 now more.0 all more.1 _ later.4

-- ---- the sound goes on

pub path_more : (extra sounds : List Sounds)
    → (more : List Step) × (path_steps (extra ++ sounds) ≡ more ++ path_steps sounds)
unfolding path_steps
path_more [] sounds = ([], refl)
path_more (latest ∷ extra) sounds =
    let rest = path_more extra sounds in
    let step = (heard_at latest (extra ++ sounds)).step in (step ∷ rest.0, ap (λ l. step ∷ l) rest.1)

pub all_sounds : (grid : Grid) (least : ℕ) (more samples : List ℤ)
    → (extra : List Sounds) × (sounds_of grid least (more ++ samples) ≡ extra ++ sounds_of grid least samples)
all_sounds grid least [] samples = ([], refl)
all_sounds grid least (sample ∷ more) samples =
    let rest = all_sounds grid least more samples in
    let one = sounds_more grid least sample (more ++ samples) in (
      one.0 ++ rest.0,
      one.1 ∙ ap (λ l. one.0 ++ l) rest.1 ∙ sym (append_assoc one.0 rest.0 (sounds_of grid least samples)),
    )

pub measured_more : (sounds : List Sounds) (new given : List Placed)
    → (cells : List Measured) × (measured_cells sounds (new ++ given) ≡ cells ++ measured_cells sounds given)
unfolding measured_cells
measured_more sounds [] given = ([], refl)
measured_more sounds (placed ∷ new) given =
    let rest = measured_more sounds new given in
    let cell = cell_behind sounds placed (new ++ given) in (cell ∷ rest.0, ap (λ l. cell ∷ l) rest.1)

-- ---- the cells that are judged

pub judged_first : (ear : Ear) (cells judged behind : List Measured)
    → (more : List Judged)
    × (judgements ear (cells ++ judged) behind ≡ judgements ear judged (reverse cells ++ behind) ++ more)
unfolding judgements
judged_first ear [] judged behind = ([], sym (append-nil (judgements ear judged behind)))
judged_first ear (cell ∷ cells) judged behind =
    let rest = judged_first ear cells judged (cell ∷ behind) in
    let one : Judged = record { cell = cell; breaks = breaks ear (cells ++ judged) cell behind } in
    let order : reverse cells ++ cell ∷ behind ≡ reverse (cell ∷ cells) ++ behind =
    sym (append_assoc (reverse cells) (cell ∷ []) behind)
    ∙ ap (λ l. l ++ behind) (sym (reverse-append (cell ∷ []) cells)) in (
      rest.0 ++ one ∷ [],
      ap (λ l. l ++ one ∷ []) rest.1
          ∙ append_assoc (judgements ear judged (reverse cells ++ cell ∷ behind)) rest.0 (one ∷ [])
          ∙ ap (λ b. judgements ear judged b ++ (rest.0 ++ one ∷ [])) order,
    )

pub written_first : (ticks : ℕ) (ear : Ear) (cells judged : List Measured)
    → (more : List ℕ)
    × (intervals_before ticks ear (cells ++ judged) [] ≡ intervals_before ticks ear judged (reverse cells) ++ more)
written_first ticks ear cells judged =
    let first = judged_first ear cells judged [] in (
      flat_map (tiles_of ticks) first.0,
      ap (flat_map (tiles_of ticks)) first.1
          ∙ flat_map-append (tiles_of ticks) (judgements ear judged (reverse cells ++ [])) first.0
          ∙ ap (λ b. intervals_before ticks ear judged b ++ flat_map (tiles_of ticks) first.0)
          (append-nil (reverse cells)),
    )

-- those ahead were given behind those that were judged
pub ahead_first : (judged ahead cells : List Measured) → reverse judged ++ ahead ≡ reverse cells
    → cells ≡ reverse ahead ++ judged
ahead_first judged ahead cells order =
    sym (reverse-reverse cells) ∙ ap reverse (sym order) ∙ reverse-append (reverse judged) ahead
    ∙ ap (λ l. reverse ahead ++ l) (reverse-reverse judged)

-- ---- the intervals

pub given_first : DecidedStays → DecidedOnce → (state : FrontState) (samples more : List ℤ) (given intervals : List ℕ)
    → state.judging.phase ≡ Sound → FrontStandsFor state samples given
    → AreIntervals state.judging.cells.steps.grid state.ticks state.judging.cells.steps.hold.least (more ++ samples)
    intervals → (rest : List ℕ) × (intervals ≡ given ++ rest)
given_first stays once state samples more given intervals phase stand are =
    let grid = state.judging.cells.steps.grid in
    let least = state.judging.cells.steps.hold.least in
    let ticks = state.ticks in
    let ahead = state.judging.gate.ahead in
    let judged = stand.judged in
    let so_far = stand.judging.given in
    let cells : CellsStandFor state.judging.cells samples so_far =
    subst (λ p. CellsIn p state.judging.cells samples so_far) phase stand.judging.cells in
    let now = sounds_of grid least samples in
    let later = sounds_of grid least (more ++ samples) in
    let left = replicate state.judging.cells.steps.left state.judging.cells.steps.latest in
    let extra = all_sounds grid least more samples in
    let front : later ≡ (extra.0 ++ left) ++ cells.sounds =
    extra.1 ∙ ap (λ l. extra.0 ++ l) (sym cells.steps.all) ∙ sym (append_assoc extra.0 left cells.sounds) in
    let path = path_more (extra.0 ++ left) cells.sounds in
    let steps : path_steps later ≡ path.0 ++ path_steps cells.sounds = ap path_steps front ∙ path.1 in
    let waiting = state.judging.cells.decisions.waiting in
    let all = decided_in_all stays once path.0 (path_steps cells.sounds) are.cells (waiting ++ so_far)
    (subst (λ s. AreDecidedInAll s are.cells) steps are.decided) cells.decisions.decided in
    let placed : are.cells ≡ (all.0 ++ waiting) ++ so_far = all.1 ∙ sym (append_assoc all.0 waiting so_far) in
    let measured = measured_more later (all.0 ++ waiting) so_far in
    let stay = cells_stay now later cells.sounds left extra.0 so_far cells.steps.all extra.1 cells.within in
    let order = ahead_first judged ahead (measured_cells now so_far) stand.judging.order in
    let whole : measured_cells later are.cells ≡ (measured.0 ++ reverse ahead) ++ judged =
    ap (measured_cells later) placed ∙ measured.1 ∙ ap (λ l. measured.0 ++ l) (stay ∙ order)
    ∙ sym (append_assoc measured.0 (reverse ahead) judged) in
    let written = written_first ticks (ear_of grid least) (measured.0 ++ reverse ahead) judged in
    let behind : reverse (measured.0 ++ reverse ahead) ≡ ahead ++ reverse measured.0 =
    reverse-append measured.0 (reverse ahead) ∙ ap (λ l. l ++ reverse measured.0) (reverse-reverse ahead) in
    let out : given ++ state.tiles
    ≡ intervals_before ticks state.judging.gate.ear judged (ahead ++ reverse measured.0) =
    (subst (λ p. ForMore p (λ m. given ++ state.tiles
    ≡ intervals_before ticks state.judging.gate.ear judged (ahead ++ m))) phase stand.out) (reverse measured.0) in
    let is : intervals ≡ (given ++ state.tiles) ++ written.0 =
    are.intervals_are ∙ ap (λ c. intervals_before ticks (ear_of grid least) c []) whole ∙ written.1
    ∙ ap (λ b. intervals_before ticks (ear_of grid least) judged b ++ written.0) behind
    ∙ ap (λ n. intervals_before ticks n judged (ahead ++ reverse measured.0) ++ written.0) (sym stand.judging.ear)
    ∙ ap (λ l. l ++ written.0) (sym out) in
    (state.tiles ++ written.0, is ∙ append_assoc given state.tiles written.0)
