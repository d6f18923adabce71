-- The numbers of what is given where the next word may stand in for a witness: they are those of the same events with
-- witnesses alone, and come in turn.
use Rattle.std.proofs.Common.{◌≡◌, ◌≤◌, ℕ, ◌+◌, Bool, true, false, List, [], ◌∷◌, ◌++◌, map, Option, Some, None}
use Rattle.std.proofs.Common.{IfSome, inl, inr, ap, ap₂, sym, ◌∙◌, refl, subst, append-nil, append_assoc, arith}
use Rattle.std.specs.Prelude.{◌==◌, ◌&&◌, if◌then◌else◌}
use Rattle.std.proofs.lemmas.List.{map-append}
use Rattle.ltc_word.specs.declared.word.LtcWord.{LtcWord}
use Rattle.tc_address.specs.declared.direction.Direction.{Direction}
use Rattle.tc_address.specs.declared.direction.Direction.TheVariants.{Forward, Backward}
use Rattle.direction_reader.specs.declared.event.Event.TheVariants.{Word, Refused, Lost}
use Rattle.direction_reader.specs.declared.firm_event.FirmEvent.{FirmEvent}
use Rattle.direction_reader.specs.declared.firm_event.FirmEvent.TheVariants.{Told, Alone}
use Rattle.direction_reader.specs.declared.firm_event.FirmEvents.{FirmEvents}
use Rattle.direction_reader.specs.Consecutive.{all_between, between, first_of, heard_as, joins, last_of, or_other}
use Rattle.direction_reader.specs.Consecutive.{word_at, word_of}
use Rattle.direction_reader.specs.ConsecutiveStep.{consecutive_list, given, given_of, is_told_word, kept, latest_of}
use Rattle.direction_reader.specs.ConsecutiveStep.{without, ConsecutiveBrings, IsKeptBy}
use Rattle.direction_reader.specs.ConsecutiveTold.{held_of, until_held}
use Rattle.direction_reader.specs.Firm.{told_tick, DoNotFall}
use Rattle.direction_reader.specs.FirmReader.{FirmBrings, IsToldBy}
use Rattle.direction_reader.specs.FirmStep.{firm_list, firm_listed, IsNoWord, IsToldBackward}
use Rattle.direction_reader.proofs.BetweenNeighbours.{comes, last_some, latest_is, nothing_comes, own_events, own_given}

-- ---- ticks

-- a word, told or alone, as a test decides
abbrev pub told_by : Bool → Direction → LtcWord → ℕ → ℕ → FirmEvent
told_by joined d w t n = if joined then Told (Word d w t n) else Alone d w t n

told_by_tick : (joined : Bool) (d : Direction) (w : LtcWord) (t n : ℕ) → told_tick (told_by joined d w t n) ≡ t
told_by_tick true d w t n = refl
told_by_tick false d w t n = refl

pub between_tick : (before : Option FirmEvent) (e : FirmEvent) (behind : Option FirmEvent)
    → told_tick (between before e behind) ≡ told_tick e
between_tick before (Told e) behind = refl
between_tick before (Alone Forward w t n) behind =
    told_by_tick (joins (Some (heard_as Forward w t n)) (word_at behind)) Forward w t n
between_tick before (Alone Backward w t n) behind =
    told_by_tick (joins (word_at before) (Some (heard_as Backward w t n))) Backward w t n

abbrev pub ticks : List FirmEvent → List ℕ
ticks es = map told_tick es

pub all_ticks : (before : Option FirmEvent) (es : List FirmEvent) (behind : Option FirmEvent)
    → ticks (all_between before es behind) ≡ ticks es
all_ticks before [] behind = refl
all_ticks before (e ∷ es) behind =
    ap₂ (λ (n : ℕ) (ns : List ℕ). n ∷ ns) (between_tick before e (or_other (first_of es) behind))
    (all_ticks (Some e) es behind)

held_tick : (more : Bool) (o : Option FirmEvent) (next : FirmEvent)
    → ticks (firm_listed (given more None o (Some next))) ≡ ticks (firm_listed o)
held_tick more None next = refl
held_tick more (Some e) next = ap (λ (n : ℕ). n ∷ []) (between_tick None e (Some next))

-- what is given, with what is held then, has the ticks of what was held and of what came
given_ticks : (more : Bool) (latest : Option FirmEvent) (own : FirmEvents)
    → ticks (consecutive_list (given_of more latest own) ++ firm_listed (kept more (latest_of latest own)))
    ≡ ticks (firm_listed (held_of latest) ++ firm_list own)
given_ticks more latest own = elim (comes own.first own.second own.third) [
  | inl none ↦ (
      let held = firm_listed (given more None (held_of latest) None) in
      let goal : ticks ((held ++ []) ++ firm_listed (kept more latest)) ≡ ticks (firm_listed (held_of latest) ++ []) =
      rw (append-nil held, append-nil (firm_listed (held_of latest))) (ap ticks (sym (nothing_comes more latest))) in
      subst (λ (es : FirmEvents).
      ticks (consecutive_list (given_of more latest es) ++ firm_listed (kept more (latest_of latest es)))
      ≡ ticks (firm_listed (held_of latest) ++ firm_list es)) (sym none.1) goal)
  | inr some ↦ (
      let e = some.0 in
      let es = firm_list own in
      let held = firm_listed (given more None (held_of latest) (Some e)) in
      let rest = own_given more latest own in
      let kept_now = firm_listed (kept more (last_of es)) in
      let last : latest_of latest own ≡ last_of es =
      latest_is latest own.first own.second own.third ∙ last_some es e latest some.2 in
      let own_ticks : ticks (rest ++ kept_now) ≡ ticks es =
      ap ticks (sym (own_events more latest own.first own.second own.third)) ∙ all_ticks latest es None in
      let all : ticks (held ++ (rest ++ kept_now)) ≡ ticks (firm_listed (held_of latest) ++ es) =
      map-append told_tick held (rest ++ kept_now)
      ∙ ap₂ (λ (xs ys : List ℕ). xs ++ ys) (held_tick more (held_of latest) e) own_ticks
      ∙ sym (map-append told_tick (firm_listed (held_of latest)) es) in
      ap (λ (o : Option FirmEvent).
      ticks ((firm_listed (given more None (held_of latest) o) ++ rest) ++ firm_listed (kept more (latest_of latest own))))
      some.1
      ∙ ap (λ (o : Option FirmEvent). ticks ((held ++ rest) ++ firm_listed (kept more o))) last
      ∙ ap ticks (append_assoc held rest kept_now) ∙ all)
]

-- ---- in turn

pub ends : (a b : ℕ) (ns : List ℕ) → DoNotFall a ns b → a ≤ b
ends a b [] turn = turn
ends a b (n ∷ ns) turn = let first = turn.0 in let rest = ends n b ns turn.1 in omega (arith, first, rest)

before_last : (a b n : ℕ) (ns : List ℕ) → DoNotFall a (ns ++ n ∷ []) b → DoNotFall a ns n
before_last a b n [] turn = turn.0
before_last a b n (m ∷ ns) turn = (turn.0, before_last m b n ns turn.1)

without_held : (a b : ℕ) (es : List FirmEvent) (o : Option FirmEvent) → DoNotFall a (ticks (es ++ firm_listed o)) b
    → DoNotFall a (ticks es) (until_held b o)
without_held a b es None turn = subst (λ (xs : List FirmEvent). DoNotFall a (ticks xs) b) (append-nil es) turn
without_held a b es (Some e) turn =
    before_last a b (told_tick e) (ticks es)
    (subst (λ (ns : List ℕ). DoNotFall a ns b) (map-append told_tick es (e ∷ [])) turn)

-- what is held ends no later
held_first : (u : ℕ) (o : Option FirmEvent) → IfSome o (IsKeptBy u) → until_held u (held_of o) ≤ u
held_first u None is = omega arith
held_first u (Some (Told e)) is = omega arith
held_first u (Some (Alone Forward w t n)) is = is.0
held_first u (Some (Alone Backward w t n)) is = omega arith

behind_held : (u b : ℕ) (o : Option FirmEvent) (es : List FirmEvent) → until_held u o ≤ u → DoNotFall u (ticks es) b
    → DoNotFall (until_held u o) (ticks (firm_listed o ++ es)) b
behind_held u b None es first turn = turn
behind_held u b (Some e) [] first turn = (omega arith, omega (arith, first, turn))
behind_held u b (Some e) (x ∷ es) first turn =
    let next = turn.0 in (omega arith, (omega (arith, first, next), turn.1))

-- what is given comes in turn
pub given_in_turn : (more : Bool) (u b : ℕ) (latest : Option FirmEvent) (own : FirmEvents)
    → IfSome latest (IsKeptBy u) → DoNotFall u (ticks (firm_list own)) b
    → DoNotFall (until_held u (held_of latest)) (ticks (consecutive_list (given_of more latest own)))
    (until_held b (kept more (latest_of latest own)))
given_in_turn more u b latest own by turn =
    let from = until_held u (held_of latest) in
    let all = behind_held u b (held_of latest) (firm_list own) (held_first u latest by) turn in
    without_held from b (consecutive_list (given_of more latest own)) (kept more (latest_of latest own))
    (subst (λ (ns : List ℕ). DoNotFall from ns b) (sym (given_ticks more latest own)) all)

-- ---- the latest event

abbrev EndsBy : ℕ → FirmEvent → Type 0
EndsBy b e = told_tick e ≤ b

each_ends : (a b : ℕ) (first second third : Option FirmEvent)
    → DoNotFall a (ticks (firm_list (record { first = first; second = second; third = third }))) b
    → IfSome first (EndsBy b) × IfSome second (EndsBy b) × IfSome third (EndsBy b)
each_ends a b None None None turn = (tt, tt, tt)
each_ends a b None None (Some z) turn = (tt, tt, turn.1)
each_ends a b None (Some y) None turn = (tt, turn.1, tt)
each_ends a b None (Some y) (Some z) turn = (tt, ends (told_tick y) b (told_tick z ∷ []) turn.1, turn.1.1)
each_ends a b (Some x) None None turn = (turn.1, tt, tt)
each_ends a b (Some x) None (Some z) turn = (ends (told_tick x) b (told_tick z ∷ []) turn.1, tt, turn.1.1)
each_ends a b (Some x) (Some y) None turn = (ends (told_tick x) b (told_tick y ∷ []) turn.1, turn.1.1, tt)
each_ends a b (Some x) (Some y) (Some z) turn = (
  ends (told_tick x) b (told_tick y ∷ told_tick z ∷ []) turn.1,
  ends (told_tick y) b (told_tick z ∷ []) turn.1.1,
  turn.1.1.1,
)

keeps : (n s b : ℕ) (e : FirmEvent) → IsToldBy n s e → told_tick e ≤ b → IsKeptBy b e
keeps n s b (Told (Word d w t l)) is by = (by, is.1, is.2)
keeps n s b (Told (Refused d f t)) is by = tt
keeps n s b (Told (Lost p t)) is by = tt
keeps n s b (Alone d w t l) is by = (by, is.1, is.2)

some_keeps : (n s b : ℕ) (o : Option FirmEvent) → IfSome o (IsToldBy n s) → IfSome o (EndsBy b) → IfSome o (IsKeptBy b)
some_keeps n s b None is by = tt
some_keeps n s b (Some e) is by = keeps n s b e is by

later_kept : (u b : ℕ) (e : FirmEvent) → u ≤ b → IsKeptBy u e → IsKeptBy b e
later_kept u b (Told (Word d w t l)) late is = let by = is.0 in (omega (arith, by, late), is.1, is.2)
later_kept u b (Told (Refused d f t)) late is = tt
later_kept u b (Told (Lost p t)) late is = tt
later_kept u b (Alone d w t l) late is = let by = is.0 in (omega (arith, by, late), is.1, is.2)

some_later : (u b : ℕ) (o : Option FirmEvent) → u ≤ b → IfSome o (IsKeptBy u) → IfSome o (IsKeptBy b)
some_later u b None late is = tt
some_later u b (Some e) late is = later_kept u b e late is

or_kept : (b : ℕ) (o other : Option FirmEvent) → IfSome o (IsKeptBy b) → IfSome other (IsKeptBy b)
    → IfSome (or_other o other) (IsKeptBy b)
or_kept b None other one two = two
or_kept b (Some e) other one two = one

pub latest_kept : (n s u b : ℕ) (latest : Option FirmEvent) (own : FirmEvents) → IfSome latest (IsKeptBy u)
    → FirmBrings n s own → DoNotFall u (ticks (firm_list own)) b → IfSome (latest_of latest own) (IsKeptBy b)
latest_kept n s u b latest own by brings turn =
    let each = each_ends u b own.first own.second own.third turn in
    or_kept b own.third (or_other own.second (or_other own.first latest))
    (some_keeps n s b own.third brings.third each.2)
    (or_kept b own.second (or_other own.first latest) (some_keeps n s b own.second brings.second each.1)
    (or_kept b own.first latest (some_keeps n s b own.first brings.first each.0)
    (some_later u b latest (ends u b (ticks (firm_list own)) turn) by)))

-- ---- the numbers of what is given

told_by_within : (n s : ℕ) (joined : Bool) (d : Direction) (w : LtcWord) (t l : ℕ) → IsToldBy n s (Alone d w t l)
    → IsToldBy n s (told_by joined d w t l)
told_by_within n s true d w t l is = is
told_by_within n s false d w t l is = is

between_within : (n s : ℕ) (before : Option FirmEvent) (e : FirmEvent) (behind : Option FirmEvent) → IsToldBy n s e
    → IsToldBy n s (between before e behind)
between_within n s before (Told e) behind is = is
between_within n s before (Alone Forward w t l) behind is =
    told_by_within n s (joins (Some (heard_as Forward w t l)) (word_at behind)) Forward w t l is
between_within n s before (Alone Backward w t l) behind is =
    told_by_within n s (joins (word_at before) (Some (heard_as Backward w t l))) Backward w t l is

left_within : (n s : ℕ) (o : Option FirmEvent) (e : FirmEvent) → IsToldBy n s e → IfSome (without o e) (IsToldBy n s)
left_within n s None e is = is
left_within n s (Some held) e is = tt

given_within : (n s : ℕ) (more : Bool) (before o behind : Option FirmEvent) → IfSome o (IsToldBy n s)
    → IfSome (given more before o behind) (IsToldBy n s)
given_within n s more before None behind is = tt
given_within n s more before (Some e) (Some next) is = between_within n s before e (Some next) is
given_within n s more before (Some e) None is =
    left_within n s (kept more (Some e)) (between before e None) (between_within n s before e None is)

held_within : (n s u : ℕ) (o : Option FirmEvent) → u ≤ s → IfSome o (IsKeptBy u)
    → IfSome (held_of o) (IsToldBy n s)
held_within n s u None late is = tt
held_within n s u (Some (Told e)) late is = tt
held_within n s u (Some (Alone Forward w t l)) late is = let by = is.0 in (omega (arith, by, late), is.1, is.2)
held_within n s u (Some (Alone Backward w t l)) late is = tt

stays_no_word : (more : Bool) (before o : Option FirmEvent) → IfSome o IsNoWord
    → IfSome (given more before o None) IsNoWord
stays_no_word more before None is = tt
stays_no_word true before (Some (Told e)) is = is
stays_no_word false before (Some (Told e)) is = is
stays_no_word more before (Some (Alone d w t l)) is = absurd is

-- a word that is played forward is not joined by one that is played backward
and_false : (b : Bool) → b && false ≡ false
and_false true = refl
and_false false = refl

not_joined : (w : LtcWord) (t l : ℕ) (e : FirmEvent) → IsToldBackward e
    → joins (Some (heard_as Forward w t l)) (word_of e) ≡ false
not_joined w t l (Told (Word d v s m)) is = rw is (and_false (t + m == s))
not_joined w t l (Told (Refused d f s)) is = refl
not_joined w t l (Told (Lost p s)) is = refl
not_joined w t l (Alone d v s m) is = rw is (and_false (t + m == s))

stays_alone : (o : Option FirmEvent)
    → IfSome (held_of o) (λ held. (e : FirmEvent) → IsToldBackward e
    → is_told_word (between None held (Some e)) ≡ true → ⊥)
stays_alone None = tt
stays_alone (Some (Told held)) = tt
stays_alone (Some (Alone Forward w t l)) = λ e is told.
    let alone : is_told_word (told_by (joins (Some (heard_as Forward w t l)) (word_of e)) Forward w t l) ≡ false =
    rw (not_joined w t l e is) refl in
    let both : true ≡ false = sym told ∙ alone in absurd cc
stays_alone (Some (Alone Backward w t l)) = tt

abbrev no_event : Option FirmEvent
no_event = None

none_first : (o : Option FirmEvent) → IfSome o (λ event. is_told_word event ≡ true → no_event ≡ None)
none_first None = tt
none_first (Some e) = λ told. refl

one_only : (more : Bool) (latest first second third held : Option FirmEvent) → IfSome first IsToldBackward
    → IfSome held (λ event. (e : FirmEvent) → IsToldBackward e → is_told_word (between None event (Some e)) ≡ true → ⊥)
    → IfSome (given more None held (or_other first (or_other second third))) (λ event. is_told_word event ≡ true
    → given more latest first (or_other second third) ≡ None)
one_only more latest first second third None played alone = tt
one_only more latest None second third (Some h) played alone =
    none_first (given more None (Some h) (or_other second third))
one_only more latest (Some e) second third (Some h) played alone = λ told. absurd (alone e played told)

-- what is given of the latest event and of those that an interval brings
pub given_brings : (more : Bool) (n s u : ℕ) (latest : Option FirmEvent) (own : FirmEvents) → u ≤ s
    → IfSome latest (IsKeptBy u) → FirmBrings n s own → ConsecutiveBrings n s (given_of more latest own)
given_brings more n s u latest own late by brings = record {
  held = given_within n s more None (held_of latest) (or_other own.first (or_other own.second own.third))
      (held_within n s u latest late by);
  first = given_within n s more latest own.first (or_other own.second own.third) brings.first;
  second = given_within n s more (or_other own.first latest) own.second own.third brings.second;
  third = given_within n s more (or_other own.second (or_other own.first latest)) own.third None brings.third;
  one = one_only more latest own.first own.second own.third (held_of latest) brings.played (stays_alone latest);
  no_word = stays_no_word more (or_other own.second (or_other own.first latest)) own.third brings.no_word;
}
