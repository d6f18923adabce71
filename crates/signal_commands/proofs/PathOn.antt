-- The file of a best path grows by the intervals that more samples bring.
use Rattle.std.proofs.Common.{◌≡◌, ℕ, ◌+◌, ◌<◌, ℤ, List, [], ◌∷◌, ◌++◌, length, reverse, take, get_or}
use Rattle.std.proofs.Common.{refl, ap, subst, sym, ◌∙◌, append_assoc, append-nil, arith}
use Rattle.std.proofs.lemmas.Grind.{flat_map-append}
use Rattle.std.proofs.lemmas.List.{length-append, reverse-append, take_more}
use Rattle.interval_file.specs.declared.header.FileVersion.TheVariants.{One}
use Rattle.interval_file.specs.Grammar.{file_of, intervals_bytes}
use Rattle.interval_file.specs.IntervalHeader.{header_bytes}
use Rattle.interval_file.specs.Piece.{spelling}
use Rattle.step_grid.specs.declared.grid.Grid.{Grid}
use Rattle.path_front.specs.declared.judging.Phase.TheVariants.{Sound}
use Rattle.path_front.specs.Cells.{measured_cells}
use Rattle.path_front.specs.Clip.{clipped}
use Rattle.path_front.specs.Front.{judgements, AreIntervals, AreIntervalsSoFar, FrontState, FrontStandsFor}
use Rattle.path_front.specs.Front.{GoesOn}
use Rattle.path_front.specs.Grid.{on_grid}
use Rattle.path_front.specs.Steps.{path_steps, with_held}
use Rattle.tc_job.specs.PathSlicing.{SlicesPath}
use Rattle.signal_commands.specs.declared.path_sound.PathSound.{PathSound}
use Rattle.signal_commands.specs.KeptPath.{samples_heard, HasGiven, HearsSamples, IsOfWords}
use Rattle.signal_commands.specs.PcmPath.{path_header}

-- ---- nothing yet

pub nothing_so_far : (grid : Grid) (ticks least : ℕ) → AreIntervalsSoFar grid ticks least [] []
unfolding clipped with_held on_grid path_steps measured_cells judgements
nothing_so_far grid ticks least = record { cells = []; decided = refl; intervals_are = refl }

-- ---- intervals one after another

pub one_more_spelled : (intervals : List ℕ) (interval : ℕ)
    → intervals_bytes One intervals ++ spelling One interval ≡ intervals_bytes One (intervals ++ interval ∷ [])
one_more_spelled intervals interval =
    ap (λ l. intervals_bytes One intervals ++ l) (sym (append-nil (spelling One interval)))
    ∙ sym (flat_map-append (spelling One) intervals (interval ∷ []))

-- the front goes on
pub goes_on : (a b c : FrontState) → GoesOn a b → GoesOn b c → GoesOn a c
goes_on a b c first second = record {
  same = record {
    grid = second.same.grid ∙ first.same.grid;
    least = second.same.least ∙ first.same.least;
    count = second.same.count ∙ first.same.count;
  };
  ticks = second.ticks ∙ first.ticks;
  sound = λ sound. second.sound (first.sound sound);
  ended = λ sound. first.ended (second.ended sound);
}

-- ---- the file

longer_file : (p : SlicesPath) (given more : List ℕ)
    → file_of (path_header p) given ++ intervals_bytes One more ≡ file_of (path_header p) (given ++ more)
longer_file p given more =
    append_assoc (header_bytes (path_header p)) (intervals_bytes One given) (intervals_bytes One more)
    ∙ ap (λ l. header_bytes (path_header p) ++ l) (sym (flat_map-append (spelling One) given more))

-- what was written before, and more
pub grown_file : (s next : PathSound) (samples : List ℤ) (written more : List ℕ) (hears : HearsSamples s samples written)
    → next.path ≡ s.path
    → written ++ intervals_bytes One more ≡ file_of (path_header next.path) (hears.given ++ more)
grown_file s next samples written more hears path =
    ap (λ l. l ++ intervals_bytes One more) hears.are ∙ longer_file s.path hears.given more
    ∙ ap (λ (p : SlicesPath). file_of (path_header p) (hears.given ++ more)) (sym path)

-- ---- samples

-- the sample that came last is the latest
latest_sample : (samples : List ℤ) (sample : ℤ) → reverse (samples ++ sample ∷ []) ≡ sample ∷ reverse samples
latest_sample samples sample = reverse-append samples (sample ∷ [])

pub so_far_by : (grid other : Grid) (ticks more least most : ℕ) (samples : List ℤ) (intervals : List ℕ) → grid ≡ other
    → ticks ≡ more → least ≡ most → AreIntervalsSoFar grid ticks least samples intervals
    → AreIntervalsSoFar other more most samples intervals
so_far_by grid other ticks more least most samples intervals g t l are =
    subst (λ x. AreIntervalsSoFar x more most samples intervals) g
    (subst (λ x. AreIntervalsSoFar grid x most samples intervals) t
    (subst (λ x. AreIntervalsSoFar grid ticks x samples intervals) l are))

pub whole_by : (grid other : Grid) (ticks more least most : ℕ) (samples : List ℤ) (intervals : List ℕ) → grid ≡ other
    → ticks ≡ more → least ≡ most → AreIntervals grid ticks least samples intervals
    → AreIntervals other more most samples intervals
whole_by grid other ticks more least most samples intervals g t l are =
    subst (λ x. AreIntervals x more most samples intervals) g
    (subst (λ x. AreIntervals grid x most samples intervals) t
    (subst (λ x. AreIntervals grid ticks x samples intervals) l are))

-- one sample more was taken, and what it brings was written
pub hear_works : (s next : PathSound) (samples : List ℤ) (sample : ℤ) (written more : List ℕ)
    (hears : HearsSamples s samples written)
    → HasGiven next.front (sample ∷ reverse samples) (hears.given ++ more) → IsOfWords next
    → samples_heard next ≡ samples_heard s + 1 → next.path ≡ s.path → next.front.judging.phase ≡ Sound
    → HearsSamples next (samples ++ sample ∷ []) (written ++ intervals_bytes One more)
hear_works s next samples sample written more hears g words count path phase =
    let given = hears.given ++ more in
    let latest = sym (latest_sample samples sample) in
    let so_far = subst (λ (l : List ℤ). AreIntervalsSoFar next.front.judging.cells.steps.grid next.front.ticks
    next.front.judging.cells.steps.hold.least l given) latest (g.so_far phase) in
    record {
      count = let many = length-append samples (sample ∷ []) in omega (arith, many, hears.count, count);
      given = given;
      front = subst (λ (l : List ℤ). FrontStandsFor next.front l given) latest g.stands;
      so_far = so_far_by next.front.judging.cells.steps.grid next.path.grid next.front.ticks next.path.ticks
          next.front.judging.cells.steps.hold.least next.path.least (reverse (samples ++ sample ∷ [])) given
          words.grid words.ticks words.least so_far;
      are = grown_file s next samples written more hears path;
    }

-- ---- samples one after another

-- a run of samples, and one more
pub one_more_heard : (next : PathSound) (before run : List ℤ) (place : ℕ) (other : ℤ) (written more later : List ℕ)
    → place < length run
    → HearsSamples next ((before ++ take place run) ++ get_or run place other ∷ []) ((written ++ more) ++ later)
    → HearsSamples next (before ++ take (place + 1) run) (written ++ (more ++ later))
one_more_heard next before run place other written more later less hears =
    let joined : (before ++ take place run) ++ get_or run place other ∷ [] ≡ before ++ take (place + 1) run =
    append_assoc before (take place run) (get_or run place other ∷ [])
    ∙ ap (λ (l : List ℤ). before ++ l) (sym (take_more run place other less)) in
    subst (λ (l : List ℕ). HearsSamples next (before ++ take (place + 1) run) l) (append_assoc written more later)
    (subst (λ (l : List ℤ). HearsSamples next l ((written ++ more) ++ later)) joined hears)
