-- What is given while more may follow comes first in what is given of more: with witnesses alone it does, and the next
-- event changes nothing but what is held, which ends no later than the tick up to which all is told.
use Rattle.std.proofs.Common.{◌≡◌, ◌≤◌, ℕ, true, List, [], ◌∷◌, ◌++◌, All, Option, Some, None, IfSome}
use Rattle.std.proofs.Common.{inl, inr, ap, ap₂, sym, ◌∙◌, refl, subst, append-nil, append_assoc, arith, sum}
use Rattle.std.proofs.lemmas.List.{append_cancel_right}
use Rattle.std.proofs.lemmas.List.Elements.{All-nil, All-cons, All-append, All-head, All-tail}
use Rattle.biphase.specs.declared.profile.Profile.{Profile}
use Rattle.tc_address.specs.declared.direction.Direction.TheVariants.{Forward, Backward}
use Rattle.tc_address.specs.declared.system.System.{System}
use Rattle.direction_reader.specs.declared.firm_event.FirmEvent.{FirmEvent}
use Rattle.direction_reader.specs.declared.firm_event.FirmEvent.TheVariants.{Told, Alone}
use Rattle.direction_reader.specs.Consecutive.{all_between, between, consecutive, first_of, last_of, or_other}
use Rattle.direction_reader.specs.ConsecutiveStep.{given}
use Rattle.direction_reader.specs.ConsecutiveTold.{held_of, until_held, AreConsecutiveTold}
use Rattle.direction_reader.specs.Firm.{told_tick, DoNotFall}
use Rattle.direction_reader.specs.FirmKnown.{known_of, told_of, told_to}
use Rattle.direction_reader.specs.FirmStep.{firm_listed}
use Rattle.direction_reader.specs.FirmTold.{AreTold, ComesFirst}
use Rattle.direction_reader.proofs.BetweenNeighbours.{all_between-append, all_settled, last_event, last_given, last_is}
use Rattle.direction_reader.proofs.BetweenNeighbours.{last_of-append, last_some}
use Rattle.direction_reader.proofs.FirmTicks.{IsFrom}
use Rattle.direction_reader.proofs.KnownLists.{told_ticks}
use Rattle.direction_reader.proofs.KnownOfLists.{OrderLaws, known_in_turn, told_end}
use Rattle.direction_reader.proofs.NextWordTicks.{between_tick, ends}

-- ---- what is held

-- what becomes of a list that may go on, but for what is held
pub all_but_held : (before : Option FirmEvent) (es : List FirmEvent)
    → (given_now : List FirmEvent) × (all_between before es None ≡ given_now ++ firm_listed (held_of (last_of es)))
all_but_held before es = elim (last_event es) [
  | inl none ↦ ([], rw none refl)
  | inr some ↦ (
      let front = some.0 in
      let x = some.1 in
      let b = or_other (last_of front) before in
      let first = all_between before front (Some x) in
      let own = firm_listed (given true b (Some x) None) in (
        first ++ own,
        ap (λ (xs : List FirmEvent). all_between before xs None) some.2 ∙ all_between-append before front (x ∷ []) None
            ∙ ap (λ (xs : List FirmEvent). first ++ xs) (last_given true b x)
            ∙ sym (append_assoc first own (firm_listed (held_of (Some x))))
            ∙ ap (λ (o : Option FirmEvent). (first ++ own) ++ firm_listed (held_of o))
            (sym (ap last_of some.2 ∙ last_is front x)),
      ))
]

-- ---- one list

pub some_told : (system : System) (profile : Profile) (l : List ℕ) (firm : List FirmEvent) (now : ℕ)
    → AreTold system profile l firm now
    → (told : List FirmEvent) × (until : ℕ) × AreConsecutiveTold system profile l told until
some_told system profile l firm now are =
    let told = all_but_held None firm in
    (told.0, until_held now (held_of (last_of firm)), (firm, now, are, told.1, refl))

pub one_told : (firm others told more : List FirmEvent) (now another until last : ℕ) → firm ≡ others → now ≡ another
    → consecutive firm ≡ told ++ firm_listed (held_of (last_of firm)) → until ≡ until_held now (held_of (last_of firm))
    → consecutive others ≡ more ++ firm_listed (held_of (last_of others))
    → last ≡ until_held another (held_of (last_of others)) → (told ≡ more) × (until ≡ last)
one_told firm others told more now another until last same tick one at two too = (
  append_cancel_right told more (firm_listed (held_of (last_of firm)))
      (sym one ∙ ap consecutive same ∙ two
      ∙ ap (λ (fs : List FirmEvent). more ++ firm_listed (held_of (last_of fs))) (sym same)),
  at ∙ ap₂ (λ (n : ℕ) (fs : List FirmEvent). until_held n (held_of (last_of fs))) tick same ∙ sym too,
)

-- ---- what was told ends by its tick

abbrev EndsBy : ℕ → FirmEvent → Type 0
EndsBy b e = told_tick e ≤ b

or_ends : (b : ℕ) (o : Option FirmEvent) (x : FirmEvent) → IfSome o (EndsBy b) → EndsBy b x
    → IfSome (or_other o (Some x)) (EndsBy b)
or_ends b None x is by = by
or_ends b (Some e) x is by = is

last_ends : (a b : ℕ) (es : List FirmEvent) → DoNotFall a (told_ticks es) b → IfSome (last_of es) (EndsBy b)
last_ends a b [] turn = tt
last_ends a b (e ∷ es) turn =
    or_ends b (last_of es) e (last_ends (told_tick e) b es turn.1) (ends (told_tick e) b (told_ticks es) turn.1)

-- a front of ticks, by the first that follows, or by their end
front_ends : (a b : ℕ) (es rest : List FirmEvent) → DoNotFall a (told_ticks (es ++ rest)) b
    → DoNotFall a (told_ticks es) b
front_ends a b [] rest turn = ends a b (told_ticks rest) turn
front_ends a b (e ∷ es) rest turn = (turn.0, front_ends (told_tick e) b es rest turn.1)

front_before : (a b : ℕ) (es rest : List FirmEvent) (e : FirmEvent) → DoNotFall a (told_ticks (es ++ e ∷ rest)) b
    → DoNotFall a (told_ticks es) (told_tick e)
front_before a b [] rest e turn = turn.0
front_before a b (x ∷ es) rest e turn = (turn.0, front_before (told_tick x) b es rest e turn.1)

pub told_by_tick : OrderLaws → (system : System) (profile : Profile) (l : List ℕ) (told : List FirmEvent) (until : ℕ)
    → AreTold system profile l told until → IfSome (last_of told) (EndsBy until)
told_by_tick laws system profile l told until (ss, stretches, told_is, until_is) =
    let all = told_end laws system profile l ss stretches in
    let front = told_of (known_of system l ss) in
    let turn : DoNotFall 0 (told_ticks (front ++ all.rest)) (sum l) =
    subst (λ (fs : List FirmEvent). DoNotFall 0 (told_ticks fs) (sum l)) all.are
    (known_in_turn laws system profile l ss stretches) in
    rw (told_is, until_is) (elim all.next [
      | inl now ↦ last_ends 0 (told_to (sum l) (known_of system l ss)) front
          (subst (λ (n : ℕ). DoNotFall 0 (told_ticks front) n) (sym now) (front_ends 0 (sum l) front all.rest turn))
      | inr next ↦ (
          let e = next.0 in
          let behind : DoNotFall 0 (told_ticks (front ++ e ∷ next.1)) (sum l) =
          subst (λ (es : List FirmEvent). DoNotFall 0 (told_ticks (front ++ es)) (sum l)) next.2 turn in
          last_ends 0 (told_to (sum l) (known_of system l ss)) front
          (subst (λ (n : ℕ). DoNotFall 0 (told_ticks front) n) next.3
          (front_before 0 (sum l) front next.1 e behind)))
    ])

held_by : (now : ℕ) (o : Option FirmEvent) → IfSome o (EndsBy now) → until_held now (held_of o) ≤ now
held_by now None by = omega arith
held_by now (Some (Told e)) by = omega arith
held_by now (Some (Alone Forward w t n)) by = by
held_by now (Some (Alone Backward w t n)) by = omega arith

pub held_by_tick : OrderLaws → (system : System) (profile : Profile) (l : List ℕ) (told : List FirmEvent) (until : ℕ)
    → AreTold system profile l told until → until_held until (held_of (last_of told)) ≤ until
held_by_tick laws system profile l told until are =
    held_by until (last_of told) (told_by_tick laws system profile l told until are)

-- ---- what follows

of_behind : (tail : List FirmEvent) (e : FirmEvent) (more : List FirmEvent) (until : ℕ)
    → All (IsFrom until) (tail ++ e ∷ more) → until ≤ told_tick e
of_behind [] e more until all = All-head (IsFrom until) e more all
of_behind (t ∷ tail) e more until all = of_behind tail e more until (All-tail (IsFrom until) t (tail ++ e ∷ more) all)

front_from : (tail rest : List FirmEvent) (until : ℕ) → All (IsFrom until) (tail ++ rest) → All (IsFrom until) tail
front_from [] rest until all = All-nil (IsFrom until)
front_from (t ∷ tail) rest until all =
    All-cons (IsFrom until) t tail (All-head (IsFrom until) t (tail ++ rest) all)
    (front_from tail rest until (All-tail (IsFrom until) t (tail ++ rest) all))

-- what becomes of events that end at a tick or later ends there or later
between_from : (a b : ℕ) (before : Option FirmEvent) (es : List FirmEvent) (behind : Option FirmEvent) → a ≤ b
    → All (IsFrom b) es → All (IsFrom a) (all_between before es behind)
between_from a b before [] behind late all = All-nil (IsFrom a)
between_from a b before (e ∷ es) behind late all =
    let next = or_other (first_of es) behind in
    let tick = between_tick before e next in
    let here : b ≤ told_tick e = All-head (IsFrom b) e es all in
    All-cons (IsFrom a) (between before e next) (all_between (Some e) es behind) (omega (arith, tick, here, late))
    (between_from a b (Some e) es behind late (All-tail (IsFrom b) e es all))

held_from : (now : ℕ) (o : Option FirmEvent) → All (IsFrom (until_held now o)) (firm_listed o)
held_from now None = All-nil (IsFrom now)
held_from now (Some e) =
    All-cons (IsFrom (told_tick e)) e [] (omega arith) (All-nil (IsFrom (told_tick e)))

given_from : (now : ℕ) (o : Option FirmEvent) (next : FirmEvent)
    → All (IsFrom (until_held now o)) (firm_listed (given true None o (Some next)))
given_from now None next = All-nil (IsFrom now)
given_from now (Some e) next =
    let tick = between_tick None e (Some next) in
    All-cons (IsFrom (told_tick e)) (between None e (Some next)) [] (omega (arith, tick))
    (All-nil (IsFrom (told_tick e)))

-- what becomes of a list and of what comes behind it: what was told comes first, and then what ends by its tick or later
pub record Behind (firm told rest : List FirmEvent) (until : ℕ) : Type 0 where
  pub own : List FirmEvent
  pub are : consecutive (firm ++ rest) ≡ told ++ (own ++ firm_listed (held_of (last_of (firm ++ rest))))
  pub later : All (IsFrom until) (own ++ firm_listed (held_of (last_of (firm ++ rest))))

pub behind_told : (firm told rest : List FirmEvent) (now : ℕ)
    → consecutive firm ≡ told ++ firm_listed (held_of (last_of firm)) → until_held now (held_of (last_of firm)) ≤ now
    → All (IsFrom now) rest → Behind firm told rest (until_held now (held_of (last_of firm)))
behind_told firm told [] now are by all = record {
  own = [];
  are = rw (append-nil firm) are;
  later = rw (append-nil firm) (held_from now (held_of (last_of firm)));
}
behind_told firm told (e ∷ es) now are by all =
    let until = until_held now (held_of (last_of firm)) in
    let b = or_other (last_of firm) None in
    let first = firm_listed (given true None (held_of (last_of firm)) (Some e)) in
    let split = all_but_held b (e ∷ es) in
    let rest = split.0 in
    let held = firm_listed (held_of (last_of (e ∷ es))) in
    let last : last_of (firm ++ e ∷ es) ≡ last_of (e ∷ es) =
    last_of-append firm (e ∷ es) ∙ last_some (e ∷ es) e (last_of firm) refl in
    let held_now = firm_listed (held_of (last_of (firm ++ e ∷ es))) in
    let same : held ≡ held_now = ap (λ (o : Option FirmEvent). firm_listed (held_of o)) (sym last) in
    let parts : first ++ (rest ++ held) ≡ (first ++ rest) ++ held_now =
    sym (append_assoc first rest held) ∙ ap (λ (es : List FirmEvent). (first ++ rest) ++ es) same in
    let from : All (IsFrom until) (rest ++ held) =
    subst (λ (es : List FirmEvent). All (IsFrom until) es) split.1 (between_from until now b (e ∷ es) None by all) in
    record {
      own = first ++ rest;
      are = all_between-append None firm (e ∷ es) None
          ∙ ap₂ (λ (xs ys : List FirmEvent). xs ++ ys) (all_settled true firm told e are) split.1
          ∙ append_assoc told first (rest ++ held) ∙ ap (λ (es : List FirmEvent). told ++ es) parts;
      later = subst (λ (es : List FirmEvent). All (IsFrom until) es) parts
          (All-append (IsFrom until) first (rest ++ held) (given_from now (held_of (last_of firm)) e) from);
    }

-- ---- what was told comes first

-- in all events
pub first_of_all : (firm told all events : List FirmEvent) (now until last : ℕ) → ComesFirst firm now all last
    → consecutive firm ≡ told ++ firm_listed (held_of (last_of firm)) → until_held now (held_of (last_of firm)) ≤ now
    → until ≡ until_held now (held_of (last_of firm)) → events ≡ consecutive all → ComesFirst told until events last
first_of_all firm told all events now until last first are by at is =
    let behind = behind_told firm told first.rest now are by first.later in
    let before = first.before in
    let own = behind.own ++ firm_listed (held_of (last_of (firm ++ first.rest))) in
    record {
      rest = own;
      are = is ∙ ap consecutive first.are ∙ behind.are;
      later = subst (λ (n : ℕ). All (IsFrom n) own) (sym at) behind.later;
      before = omega (arith, at, by, before);
    }

-- and in what is given of more intervals
until_after : (until now : ℕ) (own : List FirmEvent) (o : Option FirmEvent) → until ≤ now
    → All (IsFrom until) (own ++ firm_listed o) → until ≤ until_held now o
until_after until now own None before all = before
until_after until now own (Some e) before all = of_behind own e [] until all

pub first_of_more : (firm told all later : List FirmEvent) (now until then last : ℕ) → ComesFirst firm now all then
    → consecutive firm ≡ told ++ firm_listed (held_of (last_of firm)) → until_held now (held_of (last_of firm)) ≤ now
    → until ≡ until_held now (held_of (last_of firm)) → consecutive all ≡ later ++ firm_listed (held_of (last_of all))
    → last ≡ until_held then (held_of (last_of all)) → ComesFirst told until later last
first_of_more firm told all later now until then last first are by at is too =
    let behind = behind_told firm told first.rest now are by first.later in
    let before = first.before in
    let o = held_of (last_of all) in
    let same : held_of (last_of (firm ++ first.rest)) ≡ o =
    ap (λ (es : List FirmEvent). held_of (last_of es)) (sym first.are) in
    let from : All (IsFrom until) (behind.own ++ firm_listed o) =
    subst (λ (n : ℕ). All (IsFrom n) (behind.own ++ firm_listed o)) (sym at)
    (subst (λ (h : Option FirmEvent). All (IsFrom (until_held now (held_of (last_of firm)))) (behind.own
    ++ firm_listed h)) same behind.later) in
    let both : later ++ firm_listed o ≡ (told ++ behind.own) ++ firm_listed o =
    sym is ∙ ap consecutive first.are ∙ behind.are
    ∙ ap (λ (h : Option FirmEvent). told ++ (behind.own ++ firm_listed h)) same
    ∙ sym (append_assoc told behind.own (firm_listed o)) in
    let ends_later = until_after until then behind.own o (omega (arith, at, by, before)) from in
    record {
      rest = behind.own;
      are = append_cancel_right later (told ++ behind.own) (firm_listed o) both;
      later = front_from behind.own (firm_listed o) until from;
      before = omega (arith, too, ends_later);
    }
