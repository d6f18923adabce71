-- What is told of a list of intervals while more may follow comes first among its events, and in what is told of more
-- intervals; and what follows ends no sooner than all is told. A list has one such list of events.
use Rattle.std.proofs.Common.{◌≡◌, ◌<◌, ◌≤◌, ◌⊎◌, ℕ, zero, suc, ◌+◌, List, [], ◌∷◌, ◌++◌, length, drop, map, sum}
use Rattle.std.proofs.Common.{Option, Some, None, MatchOption, All, ap, ap₂, sym, ◌∙◌, arith, refl, subst}
use Rattle.std.specs.List.{flat_map, AllZip}
use Rattle.std.proofs.lemmas.List.{drop-map, length-map, map-append}
use Rattle.std.proofs.lemmas.List.Elements.{All-head}
use Rattle.std.proofs.lemmas.List.Sums.{sum_by-append}
use Rattle.biphase.specs.declared.profile.Profile.{Profile}
use Rattle.cell_tracker.specs.Stretch.{Stretch, AreStretches, AreStretchesFrom}
use Rattle.tc_address.specs.declared.system.System.{System}
use Rattle.direction_reader.specs.declared.event.Event.{Event}
use Rattle.direction_reader.specs.declared.firm_event.FirmEvent.{FirmEvent}
use Rattle.direction_reader.specs.Events.{tick_of}
use Rattle.direction_reader.specs.Firm.{AreFirmEvents, firm_events_of_stretch}
use Rattle.direction_reader.specs.Firm.{told_tick, DoNotFall}
use Rattle.direction_reader.specs.FirmKnown.{closed, known_of, told_of, told_to}
use Rattle.direction_reader.specs.FirmTape.{IsJudged}
use Rattle.direction_reader.specs.FirmTold.{AreTold, ComesFirst}
use Rattle.direction_reader.specs.ListEvents.{AreEvents}
use Rattle.direction_reader.specs.StandsFor.{AreInside}
use Rattle.direction_reader.proofs.FirmJudges.{list_judged}
use Rattle.direction_reader.proofs.FirmTicks.{judged_tick}
use Rattle.direction_reader.proofs.FrontsFirst.{StretchesGoOn, stretch_inside}
use Rattle.direction_reader.proofs.KnownStretches.{closed_of, list_grows}
use Rattle.direction_reader.proofs.KnownLists.{AreInTurn, Ends, FollowsFrom, first_of_all, first_of_told, known_ends}
use Rattle.direction_reader.proofs.KnownLists.{told_ticks}
use Rattle.direction_reader.proofs.OneListOfEvents.{HasOneList}

-- what the laws of stretches and of events say
pub record OrderLaws : Type 0 where
  pub one : HasOneList
  pub events : (system : System) (profile : Profile) (l : List ℕ) → (es : List Event) × AreEvents system profile l es
  pub order : (system : System) (profile : Profile) (l : List ℕ) (es : List Event) → AreEvents system profile l es
      → DoNotFall 0 (map tick_of es) (sum l)

-- and what those of more intervals say
pub record FrontLaws : Type 0 where
  pub order : OrderLaws
  pub go_on : StretchesGoOn
  pub first : (system : System) (profile : Profile) (front more : List ℕ) (es all : List Event)
      → AreEvents system profile front es → AreEvents system profile (front ++ more) all
      → (rest : List Event) × (all ≡ es ++ rest)
  pub later : (system : System) (profile : Profile) (front more : List ℕ) (es rest : List Event)
      → AreEvents system profile front es → AreEvents system profile (front ++ more) (es ++ rest)
      → All (λ event. sum front ≤ tick_of event) rest

-- ---- ticks, with witnesses as without

judged_ticks : (es : List Event) (fs : List FirmEvent) → AllZip IsJudged es fs → map tick_of es ≡ told_ticks fs
judged_ticks [] [] zip = refl
judged_ticks [] (f ∷ fs) zip = absurd zip
judged_ticks (e ∷ es) [] zip = absurd zip
judged_ticks (e ∷ es) (f ∷ fs) zip =
    ap₂ (λ (t : ℕ) (ts : List ℕ). t ∷ ts) (sym (ap told_tick zip.0.1 ∙ judged_tick zip.0.0 e))
    (judged_ticks es fs zip.1)

-- what is known of a list has the ticks of its events
pub known_ticks : HasOneList → (system : System) (profile : Profile) (l : List ℕ) (es : List Event) (ss : List Stretch)
    → AreEvents system profile l es → AreStretches profile l ss
    → told_ticks (map closed (known_of system l ss)) ≡ map tick_of es
known_ticks one system profile l es ss are stretches =
    let all = flat_map (firm_events_of_stretch system l) ss in
    ap told_ticks (closed_of system l ss)
    ∙ sym (judged_ticks es all (list_judged one system profile l es all are (ss, stretches, refl)))

pub known_in_turn : OrderLaws → (system : System) (profile : Profile) (l : List ℕ) (ss : List Stretch)
    → AreStretches profile l ss → AreInTurn 0 (known_of system l ss) (sum l)
known_in_turn laws system profile l ss stretches =
    let plain = laws.events system profile l in
    subst (λ (ns : List ℕ). DoNotFall 0 ns (sum l))
    (sym (known_ticks laws.one system profile l plain.0 ss plain.1 stretches))
    (laws.order system profile l plain.0 plain.1)

-- ---- what follows, if nothing more comes

pub told_end : OrderLaws → (system : System) (profile : Profile) (l : List ℕ) (ss : List Stretch)
    → AreStretches profile l ss
    → Ends (told_of (known_of system l ss)) (told_to (sum l) (known_of system l ss)) (map closed (known_of system l ss))
    (sum l)
told_end laws system profile l ss stretches =
    known_ends 0 (sum l) (known_of system l ss) (known_in_turn laws system profile l ss stretches)

-- ---- what was told comes first

turn_behind : (a b now : ℕ) (xs : List ℕ) (es : List Event) → DoNotFall a (xs ++ map tick_of es) b → now ≤ b
    → All (λ event. now ≤ tick_of event) es → DoNotFall now (map tick_of es) b
turn_behind a b now (x ∷ xs) es turn late all = turn_behind x b now xs es turn.1 late all
turn_behind a b now [] [] turn late all = late
turn_behind a b now [] (e ∷ es) turn late all = (All-head (λ (x : Event). now ≤ tick_of x) e es all, turn.1)

drop_front : (xs ys : List ℕ) (n : ℕ) → n ≡ length xs → drop n (xs ++ ys) ≡ ys
drop_front [] ys zero is = refl
drop_front [] ys (suc n) is = absurd (omega arith)
drop_front (x ∷ xs) ys zero is = absurd (omega arith)
drop_front (x ∷ xs) ys (suc n) is = drop_front xs ys n (omega arith)

pub follows : FrontLaws → (system : System) (profile : Profile) (front more : List ℕ) (ss ts : List Stretch)
    → AreStretches profile front ss → AreStretches profile (front ++ more) ts
    → FollowsFrom (sum front) (known_of system front ss) (known_of system (front ++ more) ts) (sum (front ++ more))
follows laws system profile front more ss ts stretches others =
    let known = known_of system front ss in
    let later = known_of system (front ++ more) ts in
    let plain = laws.order.events system profile front in
    let whole = laws.order.events system profile (front ++ more) in
    let behind = laws.first system profile front more plain.0 whole.0 plain.1 whole.1 in
    let from = laws.later system profile front more plain.0 behind.0 plain.1
    (subst (λ (es : List Event). AreEvents system profile (front ++ more) es) behind.1 whole.1) in
    let few = map tick_of plain.0 in
    let rest = map tick_of behind.0 in
    let ticks = known_ticks laws.order.one system profile front plain.0 ss plain.1 stretches in
    let count : length known ≡ length few =
    sym (length-map known closed) ∙ sym (length-map (map closed known) told_tick) ∙ ap length ticks in
    let all_ticks : told_ticks (map closed later) ≡ few ++ rest =
    known_ticks laws.order.one system profile (front ++ more) whole.0 ts whole.1 others
    ∙ ap (λ (es : List Event). map tick_of es) behind.1 ∙ map-append tick_of plain.0 behind.0 in
    let left : told_ticks (map closed (drop (length known) later)) ≡ rest =
    ap told_ticks (sym (drop-map closed (length known) later))
    ∙ sym (drop-map told_tick (length known) (map closed later))
    ∙ ap (λ (ns : List ℕ). drop (length known) ns) all_ticks ∙ drop_front few rest (length known) count in
    let turn : DoNotFall 0 (few ++ rest) (sum (front ++ more)) =
    subst (λ (ns : List ℕ). DoNotFall 0 ns (sum (front ++ more))) all_ticks
    (known_in_turn laws.order system profile (front ++ more) ts others) in
    let longer : sum front ≤ sum (front ++ more) = omega (arith, sum_by-append (λ (n : ℕ). n) front more) in
    subst (λ (ns : List ℕ). DoNotFall (sum front) ns (sum (front ++ more))) (sym left)
    (turn_behind 0 (sum (front ++ more)) (sum front) few behind.0 turn longer from)

inside_step : (profile : Profile) (l : List ℕ) (ss : List Stretch) (o : Option ℕ)
    → MatchOption o (ss ≡ []) (λ place. AreStretchesFrom profile l place ss)
    → ((place : ℕ) → AreStretchesFrom profile l place ss → AreInside (length l) ss) → AreInside (length l) ss
inside_step profile l ss None next again = rw next tt
inside_step profile l ss (Some place) next again = again place next

are_inside : (profile : Profile) (l : List ℕ) (start : ℕ) (ss : List Stretch) → AreStretchesFrom profile l start ss
    → AreInside (length l) ss
are_inside profile l start [] stretches = tt
are_inside profile l start (s ∷ ss) stretches = (
  stretch_inside profile l s stretches.1,
  inside_step profile l ss s.broken_at stretches.2 (λ place after. are_inside profile l place ss after),
)

pub all_behind : FrontLaws → (system : System) (profile : Profile) (front more : List ℕ) (told events : List FirmEvent)
    (until : ℕ) → AreTold system profile front told until → AreFirmEvents system profile (front ++ more) events
    → ComesFirst told until events (sum (front ++ more))
all_behind laws system profile front more told events until (ss, stretches, told_is, until_is) (ts, others, all) =
    let grow = list_grows profile system front more 0 ss ts stretches (are_inside profile front 0 ss stretches)
    (laws.go_on profile front more ss ts stretches others) in
    let events_are = all ∙ sym (closed_of system (front ++ more) ts) in
    rw (told_is, until_is, events_are) (first_of_all 0 (sum front) (sum (front ++ more)) (known_of system front ss)
    (known_of system (front ++ more) ts) grow (known_in_turn laws.order system profile (front ++ more) ts others)
    (follows laws system profile front more ss ts stretches others))

-- and in what is told of more intervals
pub more_behind : FrontLaws → (system : System) (profile : Profile) (front more : List ℕ)
    (told later : List FirmEvent) (until now : ℕ) → AreTold system profile front told until
    → AreTold system profile (front ++ more) later now → ComesFirst told until later now
more_behind laws system profile front more told later until now (ss, stretches, told_is, until_is)
    (ts, others, later_is, now_is) =
    let grow = list_grows profile system front more 0 ss ts stretches (are_inside profile front 0 ss stretches)
    (laws.go_on profile front more ss ts stretches others) in
    rw (told_is, until_is, later_is, now_is) (first_of_told 0 (sum front) (sum (front ++ more))
    (known_of system front ss) (known_of system (front ++ more) ts) grow
    (known_in_turn laws.order system profile (front ++ more) ts others)
    (follows laws system profile front more ss ts stretches others))

-- ---- one list

pub one_told : HasOneList → (system : System) (profile : Profile) (l : List ℕ) (es fs : List FirmEvent)
    (m n : ℕ) → AreTold system profile l es m → AreTold system profile l fs n → (es ≡ fs) × (m ≡ n)
one_told one system profile l es fs m n (ss, stretches, first, second) (ts, others, third, fourth) =
    let same : ss ≡ ts = one profile l ss ts stretches others in (
      first ∙ ap (λ (us : List Stretch). told_of (known_of system l us)) same ∙ sym third,
      second ∙ ap (λ (us : List Stretch). told_to (sum l) (known_of system l us)) same ∙ sym fourth,
    )
