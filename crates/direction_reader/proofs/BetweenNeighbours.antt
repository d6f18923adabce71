-- What becomes of an event is decided by its neighbours alone: of all but the last event of a list it stays, whatever
-- follows, and the last one is held where the next one decides. So what is given with each interval is, one after
-- another, what becomes of the whole list.
use Rattle.std.proofs.Common.{◌≡◌, ◌⊎◌, Bool, true, false, List, [], ◌∷◌, ◌++◌, Option, Some, None, inl, inr}
use Rattle.std.proofs.Common.{ap, ap₂, sym, ◌∙◌, refl, subst, append-nil, append_assoc}
use Rattle.std.proofs.lemmas.List.{append_cancel_right}
use Rattle.tc_address.specs.declared.direction.Direction.TheVariants.{Forward, Backward}
use Rattle.direction_reader.specs.declared.firm_event.FirmEvent.{FirmEvent}
use Rattle.direction_reader.specs.declared.firm_event.FirmEvent.TheVariants.{Told, Alone}
use Rattle.direction_reader.specs.declared.firm_event.FirmEvents.{FirmEvents}
use Rattle.direction_reader.specs.Consecutive.{all_between, between, consecutive, first_of, last_of, or_other}
use Rattle.direction_reader.specs.ConsecutiveStep.{consecutive_list, given, given_of, kept, latest_of}
use Rattle.direction_reader.specs.ConsecutiveTold.{held_of}
use Rattle.direction_reader.specs.FirmStep.{firm_list, firm_listed, nothing_told}

-- ---- the first and the last of two lists

or_other-assoc : (a b c : Option FirmEvent) → or_other (or_other a b) c ≡ or_other a (or_other b c)
or_other-assoc (Some e) b c = refl
or_other-assoc None b c = refl

first_of-append : (xs ys : List FirmEvent) (n : Option FirmEvent)
    → or_other (first_of (xs ++ ys)) n ≡ or_other (first_of xs) (or_other (first_of ys) n)
first_of-append [] ys n = refl
first_of-append (x ∷ xs) ys n = refl

-- a list that is not empty has a last event
some_last : (o : Option FirmEvent) (y : FirmEvent) → or_other o (Some y) ≡ or_other (or_other o (Some y)) None
some_last (Some e) y = refl
some_last None y = refl

last_of_more : (ys : List FirmEvent) (y : FirmEvent)
    → last_of (y ∷ ys) ≡ or_other (last_of (y ∷ ys)) None
last_of_more ys y = some_last (last_of ys) y

pub last_of-append : (xs ys : List FirmEvent) → last_of (xs ++ ys) ≡ or_other (last_of ys) (last_of xs)
last_of-append [] [] = refl
last_of-append [] (y ∷ ys) = last_of_more ys y
last_of-append (x ∷ xs) ys =
    ap (λ (o : Option FirmEvent). or_other o (Some x)) (last_of-append xs ys)
    ∙ or_other-assoc (last_of ys) (last_of xs) (Some x)

-- ---- two lists

pub all_between-append : (before : Option FirmEvent) (xs ys : List FirmEvent) (n : Option FirmEvent)
    → all_between before (xs ++ ys) n
    ≡ all_between before xs (or_other (first_of ys) n) ++ all_between (or_other (last_of xs) before) ys n
all_between-append before [] ys n = refl
all_between-append before (x ∷ xs) ys n =
    ap₂ (λ (e : FirmEvent) (es : List FirmEvent). e ∷ es)
    (ap (between before x) (first_of-append xs ys n))
    (all_between-append (Some x) xs ys n
    ∙ ap (λ (o : Option FirmEvent). all_between (Some x) xs (or_other (first_of ys) n) ++ all_between o ys n)
    (sym (or_other-assoc (last_of xs) (Some x) before)))

-- ---- the last event of a list

-- a list has no event, or a last one
pub last_event : (xs : List FirmEvent)
    → (xs ≡ []) ⊎ ((front : List FirmEvent) × (x : FirmEvent) × (xs ≡ front ++ x ∷ []))
last_event [] = inl refl
last_event (x ∷ xs) = elim (last_event xs) [
  | inl none ↦ inr ([], x, ap (λ (es : List FirmEvent). x ∷ es) none)
  | inr some ↦ inr (x ∷ some.0, some.1, ap (λ (es : List FirmEvent). x ∷ es) some.2)
]

pub last_is : (front : List FirmEvent) (x : FirmEvent) → last_of (front ++ x ∷ []) ≡ Some x
last_is front x = last_of-append front (x ∷ [])

-- the last event, where one comes behind it: all before it is as it was told, and what was held is given
pub settled : (before : Option FirmEvent) (x next : FirmEvent) (front told : List FirmEvent)
    → front ++ between before x None ∷ [] ≡ told ++ firm_listed (held_of (Some x))
    → front ++ between before x (Some next) ∷ [] ≡ told ++ firm_listed (given true None (held_of (Some x)) (Some next))
settled before (Told e) next front told is = is
settled before (Alone Forward w t n) next front told is =
    ap (λ (es : List FirmEvent). es ++ between None (Alone Forward w t n) (Some next) ∷ [])
    (append_cancel_right front told (Alone Forward w t n ∷ []) is)
settled before (Alone Backward w t n) next front told is = is

settled_too : (more : Bool) (before : Option FirmEvent) (x next : FirmEvent) (front told : List FirmEvent)
    → front ++ between before x None ∷ [] ≡ told ++ firm_listed (held_of (Some x))
    → front ++ between before x (Some next) ∷ [] ≡ told ++ firm_listed (given more None (held_of (Some x)) (Some next))
settled_too true before x next front told is = settled before x next front told is
settled_too false before (Told e) next front told is = is
settled_too false before (Alone Forward w t n) next front told is =
    settled before (Alone Forward w t n) next front told is
settled_too false before (Alone Backward w t n) next front told is = is

-- of a list, if one comes behind it
pub all_settled : (more : Bool) (fs told : List FirmEvent) (next : FirmEvent)
    → consecutive fs ≡ told ++ firm_listed (held_of (last_of fs))
    → all_between None fs (Some next) ≡ told ++ firm_listed (given more None (held_of (last_of fs)) (Some next))
all_settled more fs told next is = elim (last_event fs) [
  | inl none ↦ rw none (rw none at is)
  | inr some ↦ (
      let front = some.0 in
      let x = some.1 in
      let before = or_other (last_of front) None in
      let last : last_of fs ≡ Some x = ap last_of some.2 ∙ last_is front x in
      let parts : (n : Option FirmEvent) → all_between None fs n
      ≡ all_between None front (Some x) ++ between before x n ∷ [] =
      λ n. ap (λ (es : List FirmEvent). all_between None es n) some.2 ∙ all_between-append None front (x ∷ []) n in
      let own : all_between None front (Some x) ++ between before x None ∷ [] ≡ told ++ firm_listed (held_of (Some x)) =
      sym (parts None) ∙ is ∙ ap (λ (o : Option FirmEvent). told ++ firm_listed (held_of o)) last in
      parts (Some next) ∙ settled_too more before x next (all_between None front (Some x)) told own
      ∙ ap (λ (o : Option FirmEvent). told ++ firm_listed (given more None (held_of o) (Some next))) (sym last))
]

-- ---- what one interval brings

-- the last event that an interval brings is given, or held
pub last_given : (more : Bool) (before : Option FirmEvent) (e : FirmEvent)
    → between before e None ∷ [] ≡ firm_listed (given more before (Some e) None) ++ firm_listed (kept more (Some e))
last_given false before e = refl
last_given true before (Told e) = refl
last_given true before (Alone Forward w t n) = refl
last_given true before (Alone Backward w t n) = refl

last_nil : (more : Bool) (before : Option FirmEvent) (e : FirmEvent)
    → between before e None ∷ []
    ≡ (firm_listed (given more before (Some e) None) ++ []) ++ firm_listed (kept more (Some e))
last_nil more before e =
    last_given more before e ∙ ap (λ (es : List FirmEvent). es ++ firm_listed (kept more (Some e)))
    (sym (append-nil (firm_listed (given more before (Some e) None))))

none_kept : (more : Bool) → [] ≡ firm_listed (kept more None)
none_kept true = refl
none_kept false = refl

-- what becomes of the events of an interval, as they are given
abbrev pub own_given : Bool → Option FirmEvent → FirmEvents → List FirmEvent
own_given more latest told = firm_list (given_of more latest told).events

pub own_events : (more : Bool) (latest first second third : Option FirmEvent)
    → (let told : FirmEvents = record { first = first; second = second; third = third } in
    all_between latest (firm_list told) None
    ≡ own_given more latest told ++ firm_listed (kept more (last_of (firm_list told))))
own_events more latest None None None = none_kept more
own_events more latest None None (Some c) = last_given more latest c
own_events more latest None (Some b) None = last_nil more latest b
own_events more latest None (Some b) (Some c) =
    ap (λ (es : List FirmEvent). between latest b (Some c) ∷ es) (last_given more (Some b) c)
own_events more latest (Some a) None None =
    last_nil more latest a ∙ ap (λ (es : List FirmEvent). es ++ firm_listed (kept more (Some a)))
    (sym (append-nil (firm_listed (given more latest (Some a) None) ++ [])))
own_events more latest (Some a) None (Some c) =
    ap (λ (es : List FirmEvent). between latest a (Some c) ∷ es) (last_given more (Some a) c)
own_events more latest (Some a) (Some b) None =
    ap (λ (es : List FirmEvent). between latest a (Some b) ∷ es) (last_nil more (Some a) b)
own_events more latest (Some a) (Some b) (Some c) =
    ap (λ (es : List FirmEvent). between latest a (Some b) ∷ between (Some a) b (Some c) ∷ es)
    (last_given more (Some b) c)

-- ---- what is given, behind what was given

-- an interval brings nothing, or a first event
pub comes : (first second third : Option FirmEvent)
    → (let told : FirmEvents = record { first = first; second = second; third = third } in
    ((or_other first (or_other second third) ≡ None) × (told ≡ nothing_told))
    ⊎ ((e : FirmEvent) × (or_other first (or_other second third) ≡ Some e) × (first_of (firm_list told) ≡ Some e)))
comes (Some a) second third = inr (a, refl, refl)
comes None (Some b) third = inr (b, refl, refl)
comes None None (Some c) = inr (c, refl, refl)
comes None None None = inl (refl, refl)

-- if nothing comes, what was held is held, or given at the end
pub nothing_comes : (more : Bool) (o : Option FirmEvent)
    → firm_listed (held_of o) ≡ firm_listed (given more None (held_of o) None) ++ firm_listed (kept more o)
nothing_comes true None = refl
nothing_comes true (Some (Told e)) = refl
nothing_comes true (Some (Alone Forward w t n)) = refl
nothing_comes true (Some (Alone Backward w t n)) = refl
nothing_comes false None = refl
nothing_comes false (Some (Told e)) = refl
nothing_comes false (Some (Alone Forward w t n)) = refl
nothing_comes false (Some (Alone Backward w t n)) = refl

pub or_none : (o : Option FirmEvent) → or_other o None ≡ o
or_none None = refl
or_none (Some e) = refl

-- the latest event is the last of all
pub latest_is : (latest first second third : Option FirmEvent)
    → (let told : FirmEvents = record { first = first; second = second; third = third } in
    latest_of latest told ≡ or_other (last_of (firm_list told)) latest)
latest_is latest None None None = refl
latest_is latest None None (Some c) = refl
latest_is latest None (Some b) None = refl
latest_is latest None (Some b) (Some c) = refl
latest_is latest (Some a) None None = refl
latest_is latest (Some a) None (Some c) = refl
latest_is latest (Some a) (Some b) None = refl
latest_is latest (Some a) (Some b) (Some c) = refl

-- of a list with a first event, it is one of that list
or_last : (o other : Option FirmEvent) (x : FirmEvent) → or_other (or_other o (Some x)) other ≡ or_other o (Some x)
or_last None other x = refl
or_last (Some e) other x = refl

pub last_some : (xs : List FirmEvent) (e : FirmEvent) (other : Option FirmEvent) → first_of xs ≡ Some e
    → or_other (last_of xs) other ≡ last_of xs
last_some [] e other is = absurd cc
last_some (x ∷ xs) e other is = or_last (last_of xs) other x

-- what is given of a list, with what an interval brings
pub given_stands : (more : Bool) (fs told : List FirmEvent) (latest : Option FirmEvent) (own : FirmEvents)
    → latest ≡ last_of fs → consecutive fs ≡ told ++ firm_listed (held_of (last_of fs))
    → consecutive (fs ++ firm_list own)
    ≡ (told ++ consecutive_list (given_of more latest own)) ++ firm_listed (kept more (last_of (fs ++ firm_list own)))
given_stands more fs told latest own at is = elim (comes own.first own.second own.third) [
  | inl none ↦ (
      let held = firm_listed (given more None (held_of latest) None) in
      let kept_now = firm_listed (kept more (last_of fs)) in
      let same : held_of (last_of fs) ≡ held_of latest = ap held_of (sym at) in
      let goal : consecutive (fs ++ []) ≡ (told ++ (held ++ [])) ++ firm_listed (kept more (last_of (fs ++ []))) =
      rw (append-nil fs, append-nil held) (is ∙ ap (λ (es : List FirmEvent). told ++ es)
      (nothing_comes more (last_of fs)
      ∙ ap (λ (o : Option FirmEvent). firm_listed (given more None o None) ++ kept_now) same)
      ∙ sym (append_assoc told held kept_now)) in
      subst (λ (es : FirmEvents). consecutive (fs ++ firm_list es)
      ≡ (told ++ consecutive_list (given_of more latest es)) ++ firm_listed (kept more (last_of (fs ++ firm_list es))))
      (sym none.1) goal)
  | inr some ↦ (
      let e = some.0 in
      let es = firm_list own in
      let held = firm_listed (given more None (held_of latest) (Some e)) in
      let held_now = firm_listed (given more None (held_of latest) (or_other own.first (or_other own.second own.third)))
      in
      let rest = own_given more latest own in
      let kept_now = firm_listed (kept more (last_of es)) in
      let front : all_between None fs (or_other (first_of es) None) ≡ told ++ held =
      ap (λ (o : Option FirmEvent). all_between None fs (or_other o None)) some.2 ∙ all_settled more fs told e is
      ∙ ap (λ (o : Option FirmEvent). told ++ firm_listed (given more None (held_of o) (Some e))) (sym at) in
      let tail : all_between (or_other (last_of fs) None) es None ≡ rest ++ kept_now =
      ap (λ (o : Option FirmEvent). all_between o es None) (or_none (last_of fs) ∙ sym at)
      ∙ own_events more latest own.first own.second own.third in
      let last : last_of (fs ++ es) ≡ last_of es = last_of-append fs es ∙ last_some es e (last_of fs) some.2 in
      let same : held ≡ held_now =
      ap (λ (o : Option FirmEvent). firm_listed (given more None (held_of latest) o)) (sym some.1) in
      all_between-append None fs es None ∙ ap₂ (λ (xs ys : List FirmEvent). xs ++ ys) front tail
      ∙ sym (append_assoc (told ++ held) rest kept_now)
      ∙ ap (λ (xs : List FirmEvent). xs ++ kept_now) (append_assoc told held rest)
      ∙ ap (λ (xs : List FirmEvent). (told ++ (xs ++ rest)) ++ kept_now) same
      ∙ ap (λ (o : Option FirmEvent). (told ++ (held_now ++ rest)) ++ firm_listed (kept more o)) (sym last))
]

pub latest_stands : (fs : List FirmEvent) (latest : Option FirmEvent) (own : FirmEvents) → latest ≡ last_of fs
    → latest_of latest own ≡ last_of (fs ++ firm_list own)
latest_stands fs latest own at =
    latest_is latest own.first own.second own.third
    ∙ ap (λ (o : Option FirmEvent). or_other (last_of (firm_list own)) o) at ∙ sym (last_of-append fs (firm_list own))
