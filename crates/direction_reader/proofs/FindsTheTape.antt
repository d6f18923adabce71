-- From the second unequal pair of a piece of the tape on the last stretch has the tape's own cells, so its windows that
-- begin there are the tape's. All other words begin before, and the stretches before it are broken by then. What the
-- recording has behind the piece comes later.
use Rattle.std.proofs.Common.{◌≡◌, ◌≤◌, ℕ, ◌+◌, ◌-◌, zero, suc, List, [], ◌∷◌, ◌++◌, length, take, drop, sum}
use Rattle.std.proofs.Common.{Option, Some, None, MatchOption}
use Rattle.std.proofs.Common.{ap, arith, append_assoc, append-nil, inl, inr, refl, subst, sym}
use Rattle.std.proofs.Common.{◌∙◌, All, IsSomeAnd}
use Rattle.std.proofs.lemmas.Option.{MatchOption-at_some}
use Rattle.std.proofs.lemmas.Grind.{flat_map-append}
use Rattle.std.proofs.lemmas.List.{drop-drop, drop_at}
use Rattle.std.proofs.lemmas.List.Elements.{All-nil, All-cons, All-append, All-head, All-tail, All-same}
use Rattle.std.proofs.lemmas.List.Sums.{sum_by-append, sum_by-take-drop, sum_by-cons}
use Rattle.biphase.specs.declared.cell.Cell.{Cell}
use Rattle.biphase.specs.declared.profile.Profile.{Profile}
use Rattle.biphase.specs.declared.profile.Profile.TheVariants.{Normal, Worn, Rough}
use Rattle.biphase.specs.Latest.{Latest}
use Rattle.biphase.specs.Tolerance.{LooksAtLast}
use Rattle.biphase.specs.Chain.{intervals_of, flat, kept_of}
use Rattle.biphase.specs.ToleranceLemmas.{half_or_not}
use Rattle.cell_tracker.specs.EvenRun.{IsEvenRun}
use Rattle.cell_tracker.specs.FoundAgain.{IsSecondLock, AreFrom, BreaksBy}
use Rattle.cell_tracker.specs.ChainPiece.{IsPiece, cells_from}
use Rattle.cell_tracker.specs.Lock.{IsLock}
use Rattle.cell_tracker.specs.Stretch.{Stretch, end_of, IsBreak, IsStretch, AreStretches, AreStretchesFrom}
use Rattle.tc_address.specs.declared.system.System.{System}
use Rattle.direction_reader.specs.declared.event.Event.{Event}
use Rattle.direction_reader.specs.declared.event.Event.TheVariants.{Lost}
use Rattle.direction_reader.specs.Gathered.{AreEventsOfWindows, AreEventsOfStretch, AreEventsOfStretches}
use Rattle.direction_reader.specs.Gathered.{begin_of}
use Rattle.direction_reader.specs.Windows.{windows}
use Rattle.direction_reader.specs.ListEvents.{duration, break_events}
use Rattle.direction_reader.specs.ListEvents.{AreEvents}
use Rattle.direction_reader.specs.Tape.{ComesBehind, FindsTheTape, FindsTheTapeBehindOnes, TellFrom}
use Rattle.direction_reader.proofs.AsLists.{AreListed}
use Rattle.direction_reader.proofs.WordsByEnd.{AreWordsBy, EndsBy, LostBy, all_by, split, words_alone, words_by}

-- the stretches are the tape's from a place on
abbrev pub IsFoundAgain : Type 0
IsFoundAgain = (profile : Profile) → LooksAtLast profile
    → (before kept : List ℕ) (cells : List Cell) (cut second : ℕ) (stretches : List Stretch)
    → IsPiece profile kept cells cut → IsSecondLock profile kept second
    → AreStretches profile (before ++ kept) stretches
    → AreFrom (length before + second) (cells_from cells cut kept second) stretches

-- ---- the places of a stretch and their ticks

-- the sum of a list up to the end of some intervals of it
pub sum_at : (l xs rest : List ℕ) (lock : ℕ) → drop lock l ≡ xs ++ rest
    → sum (take (lock + length xs) l) ≡ sum (take lock l) + sum xs
sum_at l xs rest lock same =
    let dropped : drop (lock + length xs) l ≡ rest =
    sym (drop-drop (length xs) lock l) ∙ ap (drop (length xs)) same ∙ drop_at xs rest (length xs) refl in
    let there : sum (drop lock l) ≡ sum xs + sum rest = ap sum same ∙ sum_by-append (λ n. n) xs rest in
    omega (
      arith,
      sum_by-take-drop (λ n. n) l lock,
      sum_by-take-drop (λ n. n) l (lock + length xs),
      ap sum dropped,
      there,
    )

-- and up to a later place it is no less
pub sum_later : (l : List ℕ) (i j : ℕ) → i ≤ j → sum (take i l) ≤ sum (take j l)
sum_later l zero j less = omega arith
sum_later l (suc i) zero less = absurd (omega arith)
sum_later [] (suc i) (suc j) less = omega arith
sum_later (x ∷ l) (suc i) (suc j) less =
    omega (
      arith,
      sum_by-cons (λ n. n) x (take i l),
      sum_by-cons (λ n. n) x (take j l),
      sum_later l i j (omega arith),
    )

-- a break does not come before the end of the cells
pub break_behind : (profile : Profile) (c : Latest) (after : ℕ) (rest : List ℕ) (place : Option ℕ) (p : ℕ)
    → IsBreak profile c after rest place
    → place ≡ Some p → after ≤ p
break_behind profile c after [] place p is some = absurd cc
break_behind profile c after (x ∷ []) place p is some = elim (half_or_not profile c x) [
  | inl half ↦ let nowhere : place ≡ None = is.0 half in absurd cc
  | inr no_half ↦ let there : place ≡ Some after = is.1 no_half in let same : after ≡ p = cc in omega arith
]
break_behind profile c after (x ∷ y ∷ rest) place p is some = elim (half_or_not profile c x) [
  | inl half ↦ let there : place ≡ Some (after + 1) = is.0 half in let same : after + 1 ≡ p = cc in omega arith
  | inr no_half ↦ let there : place ≡ Some after = is.1 no_half in let same : after ≡ p = cc in omega arith
]

some_place : (o : Option ℕ) (from : ℕ) → IsSomeAnd o (λ place. place ≤ from) → (p : ℕ) × (o ≡ Some p) × (p ≤ from)
some_place None from is = absurd is
some_place (Some p) from is = (p, refl, is)

-- the cells of a stretch end at the sum of the list up to their end
pub end_tick : (profile : Profile) (l : List ℕ) (s : Stretch) → IsStretch profile l s
    → sum (take (end_of s) l) ≡ begin_of l s + duration s.cells
end_tick profile l s is = sum_at l (flat s.cells) is.chain.front.0 s.lock is.chain.front.1

-- ---- the events of the stretches before the last

record Parted (system : System) (profile : Profile) (l : List ℕ) (from : ℕ) (last : Stretch)
    (events : List Event) : Type 0 where
  past : List Event
  later : List Event
  are : events ≡ past ++ later
  is : IsStretch profile l last
  last_are : AreEventsOfStretch system l last later
  before : (end : ℕ) → sum (take from l) ≤ end → All (EndsBy end) past
  no_break : All (LostBy from) past

words_by_all : (end : ℕ) (es : List Event) → AreWordsBy end es → All (EndsBy end) es
words_by_all end es are = λ k d within. (are k d within).0

-- what has a stretch behind it is broken, and its events come before
of_broken : (system : System) (profile : Profile) (l : List ℕ) (from p : ℕ) (s : Stretch) (es : List Event)
    → IsStretch profile l s
    → s.broken_at ≡ Some p → p ≤ from → AreEventsOfStretch system l s es
    → ((end : ℕ) → sum (take from l) ≤ end → All (EndsBy end) es) × All (LostBy from) es
of_broken system profile l from p s es is some by (own, are, join) =
    let lost = Lost p (sum (take (p + 1) l)) in
    let all : es ≡ own ++ (lost ∷ []) = join ∙ ap (λ o. own ++ break_events l o) some in
    let ends = break_behind profile (kept_of profile s.cells) (end_of s)
    (drop (end_of s) l) s.broken_at p is.broken some in
    let tick = end_tick profile l s is in
    let later = sum_later l (end_of s) from (omega (arith, ends, by)) in
    let words : (end : ℕ) → sum (take from l) ≤ end → AreWordsBy end own =
    λ end less. words_by system (begin_of l s) s.cells end own (omega (arith, tick, later, less)) are in (
      λ end less. All-same (EndsBy end) es (own ++ (lost ∷ [])) all
          (All-append (EndsBy end) own (lost ∷ []) (words_by_all end own (words end less))
          (All-cons (EndsBy end) lost [] tt (All-nil (EndsBy end)))),
      All-same (LostBy from) es (own ++ (lost ∷ [])) all
          (All-append (LostBy from) own (lost ∷ [])
          (words_alone (sum (take from l)) own (words (sum (take from l)) (omega arith)) from)
          (All-cons (LostBy from) lost [] by (All-nil (LostBy from)))),
    )

behind : (profile : Profile) (l : List ℕ) (o : Option ℕ) (p : ℕ) (ss : List Stretch) → o ≡ Some p
    → MatchOption o (ss ≡ []) (λ place. AreStretchesFrom profile l place ss) → AreStretchesFrom profile l p ss
behind profile l o p ss some after = MatchOption-at_some (ss ≡ [])
    (λ place. AreStretchesFrom profile l place ss) p some after

parted : (system : System) (profile : Profile) (l : List ℕ) (start from : ℕ) (earlier : List Stretch) (last : Stretch)
    (es : List Event)
    → AreStretchesFrom profile l start (earlier ++ last ∷ []) → All (BreaksBy from) earlier
    → AreEventsOfStretches system l (earlier ++ last ∷ []) es → Parted system profile l from last es
parted system profile l start from [] last es stretches broken (own, rest, is, none, join) = record {
  past = [];
  later = own;
  are = join ∙ ap (λ (e : List Event). own ++ e) none ∙ append-nil own;
  is = stretches.1;
  last_are = is;
  before = λ end less. All-nil (EndsBy end);
  no_break = All-nil (LostBy from);
}
parted system profile l start from (s ∷ earlier) last es stretches broken (own, rest, is, others, join) =
    let place = some_place s.broken_at from (All-head (BreaksBy from) s earlier broken) in
    let mine = of_broken system profile l from place.0 s own stretches.1 place.1 place.2 is in
    let more = parted system profile l place.0 from earlier last rest
    (behind profile l s.broken_at place.0 (earlier ++ last ∷ []) place.1 stretches.2)
    (All-tail (BreaksBy from) s earlier broken) others in
    record {
      past = own ++ more.past;
      later = more.later;
      are = join ∙ ap (λ (e : List Event). own ++ e) more.are ∙ sym (append_assoc own more.past more.later);
      is = more.is;
      last_are = more.last_are;
      before = λ end less. All-append (EndsBy end) own more.past (mine.0 end less) (more.before end less);
      no_break = All-append (LostBy from) own more.past mine.1 more.no_break;
    }

-- ---- the tape

-- in the intervals alone, and nothing behind them
record TellTo (system : System) (l : List ℕ) (from : ℕ) (cells : List Cell) (events : List Event) : Type 0 where
  past : List Event
  later : List Event
  are : events ≡ past ++ later
  words : AreEventsOfWindows system (windows (sum (take from l)) cells) later
  no_other_word : All (EndsBy (sum (take from l) + duration (take 79 cells))) past
  no_other_break : All (LostBy from) past

tell_to : (system : System) (profile : Profile) (l : List ℕ) (from : ℕ) (cells : List Cell) (ss : List Stretch)
    (es : List Event)
    → AreStretches profile l ss → AreFrom from cells ss → AreEventsOfStretches system l ss es
    → TellTo system l from cells es
tell_to system profile l from cells ss es stretches found are =
    let last = found.last in
    let all = found.earlier ++ last ∷ [] in
    let parts = parted system profile l 0 from found.earlier last es
    (subst (λ (s : List Stretch). AreStretches profile l s) found.are stretches) found.broken
    (subst (λ (s : List Stretch). AreEventsOfStretches system l s es) found.are are) in
    let own = parts.last_are.0 in
    let later : parts.later ≡ own =
    parts.last_are.2 ∙ ap (λ o. own ++ break_events l o) found.open_yet ∙ append-nil own in
    let begin = begin_of l last in
    let both = split system begin found.older cells own
    (subst (λ (cs : List Cell). AreEventsOfWindows system (windows begin cs) own) found.cells_are parts.last_are.1) in
    let joined : drop last.lock l ≡ flat found.older ++ (flat cells ++ parts.is.chain.front.0) =
    parts.is.chain.front.1
    ∙ ap (λ (xs : List ℕ). xs ++ parts.is.chain.front.0)
    (ap flat found.cells_are ∙ flat_map-append intervals_of found.older cells)
    ∙ append_assoc (flat found.older) (flat cells) parts.is.chain.front.0 in
    let place : begin + duration found.older ≡ sum (take from l) =
    sym (sum_at l (flat found.older) (flat cells ++ parts.is.chain.front.0) last.lock joined)
    ∙ ap (λ n. sum (take n l)) found.place in
    record {
      past = parts.past ++ both.past;
      later = both.later;
      are = parts.are ∙ ap (λ (e : List Event). parts.past ++ e) (later ∙ both.are)
          ∙ sym (append_assoc parts.past both.past both.later);
      words = subst (λ t. AreEventsOfWindows system (windows t cells) both.later) place both.words;
      no_other_word =
          let end = sum (take from l) + duration (take 79 cells) in
          All-append (EndsBy end) parts.past both.past (parts.before end (omega arith))
          (words_by_all end both.past
          (subst (λ t. AreWordsBy (t + duration (take 79 cells)) both.past) place both.before));
      no_other_break = All-append (LostBy from) parts.past both.past parts.no_break (both.no_break from);
    }

-- what the events of a front have behind them
abbrev pub IsFrontFirst : Type 0
IsFrontFirst = (system : System) (profile : Profile) (front more : List ℕ) (events all : List Event)
    → AreEvents system profile front events
    → AreEvents system profile (front ++ more) all → (rest : List Event) × (all ≡ events ++ rest)

abbrev pub IsBehind : Type 0
IsBehind = (system : System) (profile : Profile) (front more : List ℕ) (events rest : List Event)
    → AreEvents system profile front events
    → AreEvents system profile (front ++ more) (events ++ rest) → All (ComesBehind front) rest

abbrev pub EventsExist : Type 0
EventsExist = (system : System) (profile : Profile) (intervals : List ℕ)
    → (events : List Event) × AreEvents system profile intervals events

pub record Fronts : Type 0 where
  pub exist : EventsExist
  pub first : IsFrontFirst
  pub behind : IsBehind

-- what the events are from a place on, if the stretches of a front are the tape's from there on
pub tells_from : AreListed → Fronts → (system : System) (profile : Profile) (l : List ℕ) (es : List Event)
    → AreEvents system profile l es → (front behind : List ℕ) (from : ℕ) (cells : List Cell) → l ≡ front ++ behind
    → ((ss : List Stretch) → AreStretches profile front ss → AreFrom from cells ss)
    → TellFrom system front from cells es
tells_from lists fronts system profile l es are front behind from cells same law =
    let whole = subst (λ (xs : List ℕ). AreEvents system profile xs es) same are in
    let mine = fronts.exist system profile front in
    let rest = fronts.first system profile front behind mine.0 es mine.1 whole in
    let late = fronts.behind system profile front behind mine.0 rest.0 mine.1
    (subst (λ (e : List Event). AreEvents system profile (front ++ behind) e) rest.1 whole) in
    let own = lists.gathered system profile front mine.0 mine.1 in
    let found = tell_to system profile front from cells own.0 mine.0 own.1 (law own.0 own.1) own.2 in
    let words = lists.cells system (sum (take from front)) cells found.later found.words in
    record {
      past = found.past;
      behind = rest.0;
      are = rest.1 ∙ ap (λ (e : List Event). e ++ rest.0) (found.are ∙ ap (λ (e : List Event). found.past ++ e) words);
      no_others = all_by (sum (take from front) + duration (take 79 cells)) from found.past found.no_other_word
          found.no_other_break;
      none_before_the_end = late;
    }

pub finds_the_tape : AreListed → IsFoundAgain → Fronts → (system : System) (profile : Profile) (l : List ℕ)
    (es : List Event) → AreEvents system profile l es → FindsTheTape system profile l es
finds_the_tape lists law fronts system profile l es are = λ looks before kept behind cells cut second same piece is2.
    tells_from lists fronts system profile l es are (before ++ kept) behind (length before + second)
    (cells_from cells cut kept second) same
    (λ ss stretches. law profile looks before kept cells cut second ss piece is2 stretches)

-- ---- under the rough tolerance, behind even ones

-- the stretches are the tape's from a place on
abbrev pub IsFoundBehindOnes : Type 0
IsFoundBehindOnes = (before kept : List ℕ) (cells : List Cell) (cut end second : ℕ) (stretches : List Stretch)
    → IsPiece Rough kept cells cut → IsEvenRun kept cells cut end → IsLock Rough kept end second
    → AreStretches Rough (before ++ kept) stretches
    → AreFrom (length before + second) (cells_from cells cut kept second) stretches

pub finds_behind_ones : AreListed → IsFoundBehindOnes → Fronts → (system : System) (profile : Profile) (l : List ℕ)
    (es : List Event) → AreEvents system profile l es → FindsTheTapeBehindOnes system profile l es
finds_behind_ones lists law fronts system Normal l es are = tt
finds_behind_ones lists law fronts system Worn l es are = tt
finds_behind_ones lists law fronts system Rough l es are = λ before kept behind cells cut end second same piece run
    next.
    tells_from lists fronts system Rough l es are (before ++ kept) behind (length before + second)
    (cells_from cells cut kept second) same
    (λ ss stretches. law before kept cells cut end second ss piece run next stretches)
