-- What an interval gives, in its places: what was held, and what the interval itself brought. A word that was held
-- counts only with a word that comes, and of two events of one window the second is no word that counts.
use Rattle.std.proofs.Common.{◌≡◌, ◌≤◌, ◌<◌, ℕ, ◌+◌, ◌-◌, ◌*◌, Bool, true, false, [], ◌∷◌, All, Option, Some, None}
use Rattle.std.proofs.Common.{IfSome, ap, sym, ◌∙◌, refl, subst, arith, nat_le}
use Rattle.std.specs.Prelude.{◌&&◌, ◌||◌, if◌then◌else◌, IsSome}
use Rattle.std.specs.Option.{is_some}
use Rattle.std.proofs.lemmas.List.Elements.{All-head}
use Rattle.std.proofs.lemmas.Bool.Decides.{nat_tests}
use Rattle.flywheel.specs.declared.heard.HeardWord.{HeardWord}
use Rattle.flywheel.specs.Frames.{is_next}
use Rattle.direction_reader.specs.declared.consecutive_event.ConsecutiveEvents.{ConsecutiveEvents}
use Rattle.direction_reader.specs.declared.counting.Counting.{Counting}
use Rattle.direction_reader.specs.declared.event.Event.{Event}
use Rattle.direction_reader.specs.declared.event.Event.TheVariants.{Word, Refused, Lost}
use Rattle.direction_reader.specs.declared.firm_event.FirmEvent.{FirmEvent}
use Rattle.direction_reader.specs.declared.firm_event.FirmEvent.TheVariants.{Told}
use Rattle.direction_reader.specs.Brings.{IsLatest}
use Rattle.direction_reader.specs.Consecutive.{heard_as, or_other}
use Rattle.direction_reader.specs.ConsecutiveStep.{is_told_word, ConsecutiveBrings}
use Rattle.direction_reader.specs.Counted.{counts_on, heard_of, is_frames_on, later_word, lies_behind}
use Rattle.direction_reader.specs.CountedStep.{heard_with, released, IsHeldBy}
use Rattle.direction_reader.specs.CountedTold.{told_without, undecided}
use Rattle.direction_reader.specs.Firm.{judged}
use Rattle.direction_reader.specs.FirmReader.{IsToldBy}
use Rattle.direction_reader.specs.FirmStep.{firm_listed, IsNoWord}
use Rattle.direction_reader.proofs.CountedTicks.{own_told, released_told, still_held}

-- ---- the numbers

of_listed : (n s : ℕ) (o : Option FirmEvent) → All (IsToldBy n s) (firm_listed o) → IfSome o (IsToldBy n s)
of_listed n s None all = tt
of_listed n s (Some e) all = All-head (IsToldBy n s) e [] all

pub held_slot : (n s : ℕ) (o : Option FirmEvent) (held : Option Event) (e : Event) → firm_listed o ≡ released held e
    → IfSome held (IsHeldBy s) → IfSome o (IsToldBy n s)
held_slot n s o held e is by =
    of_listed n s o (subst (λ ts. All (IsToldBy n s) ts) (sym is) (released_told n s held e by))

pub own_slot : (n s : ℕ) (o : Option FirmEvent) (held : Option Event) (e : Event) → firm_listed o ≡ told_without held e
    → IsLatest n s e → IfSome o (IsToldBy n s)
own_slot n s o held e is latest =
    of_listed n s o (subst (λ ts. All (IsToldBy n s) ts) (sym is) (own_told n s held e latest))

pub or_slot : (n s : ℕ) (a b : Option FirmEvent) → IfSome a (IsToldBy n s) → IfSome b (IsToldBy n s)
    → IfSome (or_other a b) (IsToldBy n s)
or_slot n s None b one two = two
or_slot n s (Some e) b one two = one

-- ---- no event of its own comes first

abbrev no_event : Option FirmEvent
no_event = None

pub none_first : (o : Option FirmEvent) → IfSome o (λ event. is_told_word event ≡ true → no_event ≡ None)
none_first None = tt
none_first (Some e) = λ told. refl

-- or what was held is alone
none_on : (w : Option HeardWord) → counts_on w None ≡ false
none_on None = refl
none_on (Some w) = refl

alone_word : (s : ℕ) (h : Event) → IsHeldBy s h → is_told_word (judged false h) ≡ false
alone_word s (Word d w t l) is = refl
alone_word s (Refused d f t) is = absurd is
alone_word s (Lost p t) is = absurd is

pub alone_first : (s : ℕ) (o own : Option FirmEvent) (held : Option Event) (e : Event) → firm_listed o ≡ released held e
    → IfSome held (IsHeldBy s) → heard_of e ≡ None → IfSome o (λ event. is_told_word event ≡ true → own ≡ None)
alone_first s None own held e is by none = tt
alone_first s (Some t) own None e is by none = absurd cc
alone_first s (Some t) own (Some h) e is by none = λ told.
    let same : t ≡ judged (counts_on (heard_of h) (heard_of e)) h = cc in
    let not : counts_on (heard_of h) (heard_of e) ≡ false =
    ap (λ w. counts_on (heard_of h) w) none ∙ none_on (heard_of h) in
    let alone : is_told_word t ≡ false =
    ap is_told_word same ∙ ap (λ b. is_told_word (judged b h)) not ∙ alone_word s h by in
    let both : true ≡ false = sym told ∙ alone in absurd cc

-- ---- two events of one window

not_le : (m n : ℕ) → n < m → nat_le m n ≡ false
not_le m n less = grind (arith, nat_tests)

-- no word lies a frame or more behind another one that ends at its tick
not_one : (a b : HeardWord) → b.tick ≡ a.tick → 1 ≤ a.length → lies_behind a 1 b ≡ false
not_one a b same long =
    let both : 1 ≤ a.length + b.length = omega (arith, long) in
    let none : 20 * (b.tick - a.tick) ≡ 0 = omega (arith, same) in
    let less : 20 * (b.tick - a.tick) < (10 * 1 - 3) * (a.length + b.length) = omega (arith, both, none) in
    rw (not_le ((10 * 1 - 3) * (a.length + b.length)) (20 * (b.tick - a.tick)) less) refl

not_two : (a b : HeardWord) → b.tick ≡ a.tick → 1 ≤ a.length → lies_behind a 2 b ≡ false
not_two a b same long =
    let both : 1 ≤ a.length + b.length = omega (arith, long) in
    let none : 20 * (b.tick - a.tick) ≡ 0 = omega (arith, same) in
    let less : 20 * (b.tick - a.tick) < (10 * 2 - 3) * (a.length + b.length) = omega (arith, both, none) in
    rw (not_le ((10 * 2 - 3) * (a.length + b.length)) (20 * (b.tick - a.tick)) less) refl

and_none : (b c : Bool) → c ≡ false → b && c ≡ false
and_none true c is = is
and_none false c is = refl

not_both : (b c : Bool) → b ≡ false → c ≡ false → b || c ≡ false
not_both b c one two = rw one two

pub not_at_once : (a b : HeardWord) → b.tick ≡ a.tick → 1 ≤ a.length → counts_on (Some a) (Some b) ≡ false
not_at_once a b same long =
    not_both (is_frames_on a 1 b) (is_frames_on a 2 b)
    (and_none (is_next a 1 b) (lies_behind a 1 b) (not_one a b same long))
    (and_none (is_next a 2 b) (lies_behind a 2 b) (not_two a b same long))

none_told : (o : Option FirmEvent) → firm_listed o ≡ [] → IfSome o IsNoWord
none_told None is = tt
none_told (Some t) is = absurd cc

one_told : (o : Option FirmEvent) (t : FirmEvent) → firm_listed o ≡ t ∷ [] → IsNoWord t → IfSome o IsNoWord
one_told None t is word = tt
one_told (Some x) t is word = let same : t ≡ x = cc in subst IsNoWord same word

held_not : (b : Bool) (e : Event) → b ≡ false
    → (let held : Option Event = if b then None else Some e in told_without held e ≡ [])
held_not b e is = rw is refl

pub no_second_word : (n s : ℕ) (before : Option HeardWord) (a b : Event) (o : Option FirmEvent) → IsLatest n s a
    → IsLatest n s b → IsSome (heard_of a)
    → firm_listed o ≡ told_without (undecided (later_word before (heard_of a)) b) b → IfSome o IsNoWord
no_second_word n s before (Refused d f t) b o one two some is = let never : false ≡ true = some in absurd cc
no_second_word n s before (Lost p t) b o one two some is = let never : false ≡ true = some in absurd cc
no_second_word n s before (Word d w t l) (Refused e f u) o one two some is = one_told o (Told (Refused e f u)) is refl
no_second_word n s before (Word d w t l) (Lost p u) o one two some is = one_told o (Told (Lost p u)) is refl
no_second_word n s before (Word d w t l) (Word e v u m) o one two some is =
    let a = one.0 in
    let b = two.0 in
    let long = one.1 in
    let not = not_at_once (heard_as d w t l) (heard_as e v u m) (omega (arith, a, b)) (omega (arith, long)) in
    none_told o (is ∙ held_not (counts_on (Some (heard_as d w t l)) (Some (heard_as e v u m))) (Word e v u m) not)

-- ---- what an interval gives

-- what two events give: of each what was held before it, and the event itself
pub record GivesTwo (c : Counting) (a b : Event) (one own two other : Option FirmEvent) : Type 0 where
  pub held : firm_listed one ≡ released c.held a
  pub own_is : firm_listed own ≡ told_without (undecided c.word a) a
  pub next : firm_listed two ≡ released (heard_with c a).held b
  pub other_is : firm_listed other ≡ told_without (undecided (heard_with c a).word b) b

abbrev pub places : Option FirmEvent → Option FirmEvent → Option FirmEvent → Option FirmEvent → ConsecutiveEvents
places held first second third =
    record { held = held; events = record { first = first; second = second; third = third } }

-- the first of them is a word
pub word_first : (n s : ℕ) (c : Counting) (a b : Event) (one own two other : Option FirmEvent)
    → GivesTwo c a b one own two other → IfSome c.held (IsHeldBy s) → IsLatest n s a → IsLatest n s b
    → IsSome (heard_of a) → ConsecutiveBrings n s (places one None (or_other own two) other)
word_first n s c a b one own two other gives held first second some = record {
  held = held_slot n s one c.held a gives.held held;
  first = tt;
  second = or_slot n s own two (own_slot n s own (undecided c.word a) a gives.own_is first)
      (held_slot n s two (undecided c.word a) b gives.next (still_held n s c.word a first));
  third = own_slot n s other (undecided (heard_with c a).word b) b gives.other_is second;
  one = none_first one;
  no_word = no_second_word n s c.word a b other first second some gives.other_is;
}

-- it is none
pub other_first : (n s : ℕ) (c : Counting) (a b : Event) (one own two other : Option FirmEvent)
    → GivesTwo c a b one own two other → IfSome c.held (IsHeldBy s) → IsLatest n s a → IsLatest n s b
    → heard_of a ≡ None → ConsecutiveBrings n s (places one own other None)
other_first n s c a b one own two other gives held first second none = record {
  held = held_slot n s one c.held a gives.held held;
  first = own_slot n s own (undecided c.word a) a gives.own_is first;
  second = own_slot n s other (undecided (heard_with c a).word b) b gives.other_is second;
  third = tt;
  one = alone_first s one own c.held a gives.held held none;
  no_word = tt;
}

-- one event comes
pub one_comes : (n s : ℕ) (c : Counting) (a : Event) (one own : Option FirmEvent)
    → firm_listed one ≡ released c.held a → firm_listed own ≡ told_without (undecided c.word a) a
    → IfSome c.held (IsHeldBy s) → IsLatest n s a → ConsecutiveBrings n s (places one None own None)
one_comes n s c a one own is_held is_own held first = record {
  held = held_slot n s one c.held a is_held held;
  first = tt;
  second = own_slot n s own (undecided c.word a) a is_own first;
  third = tt;
  one = none_first one;
  no_word = tt;
}

pub some_latest : (n s : ℕ) (o : Option Event) (e : Event) → o ≡ Some e → IfSome o (IsLatest n s) → IsLatest n s e
some_latest n s o e is latest = subst (λ (p : Option Event). IfSome p (IsLatest n s)) is latest

pub none_of : (o : Option HeardWord) → false ≡ is_some o → o ≡ None
none_of None is = refl
none_of (Some w) is = absurd cc
