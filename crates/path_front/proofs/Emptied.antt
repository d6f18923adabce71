-- A front that is emptied has given the intervals that its samples bring, while they come and at their end.
use Rattle.std.proofs.Common.{◌≡◌, ℕ, ◌<◌, ◌≤◌, ℤ, List, [], ◌∷◌}
use Rattle.std.proofs.Common.{◌++◌, length, reverse, replicate, take, drop, refl, ap, ap₂, subst, sym}
use Rattle.std.proofs.Common.{◌∙◌, arith}
use Rattle.std.proofs.lemmas.List.{append_assoc, append-nil, drop_all, length-append}
use Rattle.std.proofs.lemmas.List.{length-reverse, reverse-append, reverse-reverse, take_all}
use Rattle.cell_path.specs.declared.cell.Step.{Step}
use Rattle.cell_path.specs.declared.placed.Placed.{Placed}
use Rattle.cell_path.specs.Decided.{AreDecided, AreDecidedInAll}
use Rattle.path_front.specs.declared.judging.Phase.{Phase}
use Rattle.path_front.specs.declared.judging.Phase.TheVariants.{Sound, Rest, Drain}
use Rattle.path_front.specs.declared.measured.Measured.{Measured}
use Rattle.path_front.specs.Cells.{measured_cells, sounds_in, CellsEndFor, CellsStandFor}
use Rattle.path_front.specs.Front.{intervals_before, intervals_of_judged, AreIntervals, AreIntervalsSoFar}
use Rattle.path_front.specs.Front.{FrontState, FrontStandsFor, IsReady}
use Rattle.path_front.specs.Gate.{ear_of}
use Rattle.path_front.specs.Judging.{is_drain, CellsIn, ForMore}
use Rattle.path_front.specs.Steps.{path_steps, sounds_of}
use Rattle.path_front.proofs.GivenFirst.{ahead_first, measured_more}
use Rattle.path_front.proofs.GivenFirst.{path_more}
use Rattle.path_front.proofs.GivenFirst.{still_decided, written_first, DecidedOnce, DecidedStays}
use Rattle.path_front.proofs.SoFar.{drop_exact, first_so_far, take_exact}

-- ---- a front that is emptied until nothing is left has given them

waiting_apart : (judged ahead : List Measured) → length ahead ≤ 8 → (0 < length judged → length ahead ≡ 8)
    → (drop 8 (reverse ahead ++ judged) ≡ judged) × (take 8 (reverse ahead ++ judged) ≡ reverse ahead)
waiting_apart [] ahead few eight =
    let long = length-reverse ahead in
    let all = append-nil (reverse ahead) in (
      ap (drop 8) all ∙ drop_all 8 (reverse ahead) (omega (arith, long)),
      ap (take 8) all ∙ take_all 8 (reverse ahead) (omega (arith, long)),
    )
waiting_apart (cell ∷ judged) ahead few eight =
    let long = length-reverse ahead in
    let all = eight (omega arith) in (
      drop_exact 8 (reverse ahead) (cell ∷ judged) (omega (arith, long, all)),
      take_exact 8 (reverse ahead) (cell ∷ judged) (omega (arith, long, all)),
    )

-- what was given and is due of the cells that were judged, as long as samples may come
judged_now : (state : FrontState) (samples : List ℤ) (given : List ℕ) (stand : FrontStandsFor state samples given)
    → state.judging.phase ≡ Sound
    → given ++ state.tiles ≡ intervals_of_judged state.ticks
    (ear_of state.judging.cells.steps.grid state.judging.cells.steps.hold.least) (measured_cells
    (sounds_of state.judging.cells.steps.grid state.judging.cells.steps.hold.least samples) stand.judging.given)
judged_now state samples given stand phase =
    let least = state.judging.cells.steps.hold.least in
    let ticks = state.ticks in
    let ahead = state.judging.gate.ahead in
    let judged = stand.judged in
    let measured = measured_cells (sounds_of state.judging.cells.steps.grid least samples) stand.judging.given in
    let order : measured ≡ reverse ahead ++ judged = ahead_first judged ahead measured stand.judging.order in
    let parts = waiting_apart judged ahead stand.judging.few (stand.judging.eight (ap is_drain phase)) in
    let out : given ++ state.tiles ≡ intervals_before ticks state.judging.gate.ear judged (ahead ++ []) =
    (subst (λ p. ForMore p (λ m. given ++ state.tiles
    ≡ intervals_before ticks state.judging.gate.ear judged (ahead ++ m))) phase stand.out) [] in
    let front : drop 8 measured ≡ judged = ap (drop 8) order ∙ parts.0 in
    let back : reverse (take 8 measured) ≡ ahead = ap reverse (ap (take 8) order ∙ parts.1) ∙ reverse-reverse ahead in
    out ∙ ap (intervals_before ticks state.judging.gate.ear judged) (append-nil ahead)
    ∙ ap (λ n. intervals_before ticks n judged ahead) stand.judging.ear
    ∙ ap₂ (intervals_before ticks (ear_of state.judging.cells.steps.grid least)) (sym front) (sym back)

pub given_so_far : (state : FrontState) (samples : List ℤ) (given : List ℕ) → IsReady state
    → FrontStandsFor state samples given
    → AreIntervalsSoFar state.judging.cells.steps.grid state.ticks state.judging.cells.steps.hold.least samples given
given_so_far state samples given ready stand =
    let so_far = stand.judging.given in
    let cells : CellsStandFor state.judging.cells samples so_far =
    subst (λ p. CellsIn p state.judging.cells samples so_far) ready.phase stand.judging.cells in
    let now = sounds_of state.judging.cells.steps.grid state.judging.cells.steps.hold.least samples in
    let all : cells.sounds ≡ now =
    sym (ap (λ n. replicate n state.judging.cells.steps.latest ++ cells.sounds) ready.idle.left) ∙ cells.steps.all in
    record {
      cells = so_far;
      decided = subst (λ s. AreDecided (path_steps s) so_far) all
          (subst (λ w. AreDecided (path_steps cells.sounds) (w ++ so_far)) ready.idle.waiting cells.decisions.decided);
      intervals_are = sym (append-nil given) ∙ ap (λ t. given ++ t) (sym ready.tiles)
          ∙ judged_now state samples given stand ready.phase;
    }

-- and one that is emptied now and then has given a front of them
pub given_first_so_far : DecidedStays → DecidedOnce → (state : FrontState) (samples : List ℤ) (given intervals : List ℕ)
    → state.judging.phase ≡ Sound → FrontStandsFor state samples given
    → AreIntervalsSoFar state.judging.cells.steps.grid state.ticks state.judging.cells.steps.hold.least samples
    intervals
    → (rest : List ℕ) × (intervals ≡ given ++ rest)
given_first_so_far stays once state samples given intervals phase stand are =
    let grid = state.judging.cells.steps.grid in
    let least = state.judging.cells.steps.hold.least in
    let ticks = state.ticks in
    let so_far = stand.judging.given in
    let cells : CellsStandFor state.judging.cells samples so_far =
    subst (λ p. CellsIn p state.judging.cells samples so_far) phase stand.judging.cells in
    let now = sounds_of grid least samples in
    let left = replicate state.judging.cells.steps.left state.judging.cells.steps.latest in
    let path = path_more left cells.sounds in
    let steps : path_steps now ≡ path.0 ++ path_steps cells.sounds = ap path_steps (sym cells.steps.all) ∙ path.1 in
    let waiting = state.judging.cells.decisions.waiting in
    let new = still_decided stays once path.0 (path_steps cells.sounds) are.cells (waiting ++ so_far)
    (subst (λ s. AreDecided s are.cells) steps are.decided) cells.decisions.decided in
    let placed : are.cells ≡ (new.0 ++ waiting) ++ so_far = new.1 ∙ sym (append_assoc new.0 waiting so_far) in
    let measured = measured_more now (new.0 ++ waiting) so_far in
    let first = first_so_far ticks (ear_of grid least) measured.0 (measured_cells now so_far) in
    let is : intervals ≡ (given ++ state.tiles) ++ first.0 =
    are.intervals_are ∙ ap (λ c. intervals_of_judged ticks (ear_of grid least) (measured_cells now c)) placed
    ∙ ap (intervals_of_judged ticks (ear_of grid least)) measured.1 ∙ first.1
    ∙ ap (λ l. l ++ first.0) (sym (judged_now state samples given stand phase)) in
    (state.tiles ++ first.0, is ∙ append_assoc given state.tiles first.0)

-- ---- the sound has ended

abbrev pub DecidedInAllOnce : Type 0
DecidedInAllOnce = (steps : List Step) (all others : List Placed) → AreDecidedInAll steps all
    → AreDecidedInAll steps others → all ≡ others

-- by the cells that come in front of those that were given
with_cells : (state : FrontState) (samples : List ℤ) (given intervals : List ℕ) (new : List Placed)
    (stand : FrontStandsFor state samples given)
    (are : AreIntervals state.judging.cells.steps.grid state.ticks state.judging.cells.steps.hold.least samples
    intervals)
    → are.cells ≡ new ++ stand.judging.given
    → ((cells : List Measured) → measured_cells (sounds_in state.judging.cells samples) (new ++ stand.judging.given)
    ≡ cells ++ measured_cells (sounds_in state.judging.cells samples) stand.judging.given
    → given ++ state.tiles ≡ intervals_before state.ticks state.judging.gate.ear stand.judged
    (state.judging.gate.ahead ++ reverse cells))
    → (rest : List ℕ) × (intervals ≡ given ++ rest)
with_cells state samples given intervals new stand are placed out =
    let now = sounds_in state.judging.cells samples in
    let least = state.judging.cells.steps.hold.least in
    let ticks = state.ticks in
    let ahead = state.judging.gate.ahead in
    let judged = stand.judged in
    let so_far = stand.judging.given in
    let measured = measured_more now new so_far in
    let order = ahead_first judged ahead (measured_cells now so_far) stand.judging.order in
    let whole : measured_cells now are.cells ≡ (measured.0 ++ reverse ahead) ++ judged =
    ap (measured_cells now) placed ∙ measured.1 ∙ ap (λ l. measured.0 ++ l) order
    ∙ sym (append_assoc measured.0 (reverse ahead) judged) in
    let written = written_first ticks (ear_of state.judging.cells.steps.grid least)
    (measured.0 ++ reverse ahead) judged in
    let behind : reverse (measured.0 ++ reverse ahead) ≡ ahead ++ reverse measured.0 =
    reverse-append measured.0 (reverse ahead) ∙ ap (λ l. l ++ reverse measured.0) (reverse-reverse ahead) in
    let is : intervals ≡ (given ++ state.tiles) ++ written.0 =
    are.intervals_are ∙ ap (λ c. intervals_before ticks (ear_of state.judging.cells.steps.grid least) c []) whole
    ∙ written.1
    ∙ ap (λ b. intervals_before ticks (ear_of state.judging.cells.steps.grid least) judged b ++ written.0) behind
    ∙ ap (λ n. intervals_before ticks n judged (ahead ++ reverse measured.0) ++ written.0) (sym stand.judging.ear)
    ∙ ap (λ l. l ++ written.0) (sym (out measured.0 measured.1)) in
    (state.tiles ++ written.0, is ∙ append_assoc given state.tiles written.0)

no_cells : (cells all : List Measured) → all ≡ cells ++ all → cells ≡ []
no_cells [] all is = refl
no_cells (cell ∷ cells) all is =
    let many = ap length is in let both = length-append (cell ∷ cells) all in absurd (omega (arith, many, both))

by_phase : DecidedInAllOnce → (state : FrontState) (samples : List ℤ) (given intervals : List ℕ)
    (stand : FrontStandsFor state samples given)
    (are : AreIntervals state.judging.cells.steps.grid state.ticks state.judging.cells.steps.hold.least samples
    intervals)
    → (phase : Phase) → state.judging.phase ≡ phase → (state.judging.phase ≡ Sound → ⊥)
    → (rest : List ℕ) × (intervals ≡ given ++ rest)
by_phase once state samples given intervals stand are Sound is ended = absurd (ended is)
by_phase once state samples given intervals stand are Rest is ended =
    let so_far = stand.judging.given in
    let waiting = state.judging.cells.decisions.waiting in
    let cells : CellsEndFor state.judging.cells samples so_far =
    subst (λ p. CellsIn p state.judging.cells samples so_far) is stand.judging.cells in
    let out = subst (λ p. ForMore p (λ m. given ++ state.tiles
    ≡ intervals_before state.ticks state.judging.gate.ear stand.judged (state.judging.gate.ahead ++ m))) is stand.out
    in
    with_cells state samples given intervals waiting stand are
    (once (path_steps (sounds_in state.judging.cells samples)) are.cells (waiting ++ so_far) are.decided
    cells.decisions.decided) (λ more same. out (reverse more))
by_phase once state samples given intervals stand are Drain is ended =
    let so_far = stand.judging.given in
    let now = sounds_in state.judging.cells samples in
    let cells : AreDecidedInAll (path_steps now) so_far =
    subst (λ p. CellsIn p state.judging.cells samples so_far) is stand.judging.cells in
    let out : given ++ state.tiles ≡ intervals_before state.ticks state.judging.gate.ear stand.judged
    (state.judging.gate.ahead ++ []) = subst (λ p. ForMore p (λ m. given ++ state.tiles
    ≡ intervals_before state.ticks state.judging.gate.ear stand.judged (state.judging.gate.ahead ++ m))) is stand.out
    in
    with_cells state samples given intervals [] stand are (once (path_steps now) are.cells so_far are.decided cells)
    (λ more same. out ∙ ap (λ m. intervals_before state.ticks state.judging.gate.ear stand.judged
    (state.judging.gate.ahead ++ m)) (sym (ap reverse (no_cells more (measured_cells now so_far) same))))

pub given_first_at_end : DecidedInAllOnce → (state : FrontState) (samples : List ℤ) (given intervals : List ℕ)
    → (state.judging.phase ≡ Sound → ⊥) → FrontStandsFor state samples given
    → AreIntervals state.judging.cells.steps.grid state.ticks state.judging.cells.steps.hold.least samples intervals
    → (rest : List ℕ) × (intervals ≡ given ++ rest)
given_first_at_end once state samples given intervals ended stand are =
    by_phase once state samples given intervals stand are state.judging.phase refl ended
