-- A crossing leads from a side to the other, on which the sound stays up to the next one.
use Rattle.std.proofs.Common.{◌≡◌, ℕ, zero, suc, ◌+◌, ◌-◌, ◌<◌, ◌≤◌, Bool, true, false, cond, ℤ, List, [], ◌∷◌, length}
use Rattle.std.proofs.Common.{Option, Some, None, refl, sym, ◌∙◌, ap, subst, arith, inl, inr}
use Rattle.std.specs.Prelude.{◌≢◌, ⊤}
use Rattle.std.specs.List.{filter, range_with_len, AllByRecursion}
use Rattle.std.specs.Option.{option_or}
use Rattle.std.proofs.lemmas.Bool.{cases_lt}
use Rattle.pcm_front.specs.declared.side.Side.{Side}
use Rattle.pcm_front.specs.declared.side.Side.TheVariants.{High, Low}
use Rattle.pcm_front.specs.declared.threshold.Threshold.{Threshold}
use Rattle.pcm_front.specs.Crossing.{crossings, is_crossing}
use Rattle.pcm_front.specs.Neighbours.{Crosses, TurnByTurn, Turns, TurnsBehind}
use Rattle.pcm_front.specs.Side.{differs, other_side, side_after, side_at}

-- ---- the sides of a crossing

sides_by : (before now : Option Side) → differs before now ≡ true
    → (side : Side) × (now ≡ Some side) × (before ≡ Some (other_side side))
sides_by None now is = absurd cc
sides_by (Some High) None is = absurd cc
sides_by (Some High) (Some High) is = absurd cc
sides_by (Some High) (Some Low) is = (Low, refl, refl)
sides_by (Some Low) None is = absurd cc
sides_by (Some Low) (Some High) is = (High, refl, refl)
sides_by (Some Low) (Some Low) is = absurd cc

-- the latest of some samples that lies on a side
record Latest (threshold : Threshold) (samples : List ℤ) (n : ℕ) (side : Side) : Type 0 where
  pub from : ℕ
  pub before : from < n
  pub is : side_at threshold samples from ≡ Some side
  pub none_between : (i : ℕ) → from < i → i < n → side_at threshold samples i ≡ None

one_later : (threshold : Threshold) (samples : List ℤ) (n : ℕ) (side : Side) → side_at threshold samples n ≡ None
    → Latest threshold samples n side → Latest threshold samples (suc n) side
one_later threshold samples n side none l = record {
  from = l.from;
  before = let before = l.before in omega (arith, before);
  is = l.is;
  none_between = λ i later within. elim (cases_lt i n) [
    | inl earlier ↦ l.none_between i later earlier
    | inr last ↦ let same : n ≡ i = omega (arith, last, within) in
        subst (λ (k : ℕ). side_at threshold samples k ≡ None) same none
  ];
}

latest_by : (threshold : Threshold) (samples : List ℤ) (n : ℕ) (side : Side) (now before : Option Side)
    → side_at threshold samples n ≡ now → side_after threshold samples n ≡ before → option_or now before ≡ Some side
    → (side_after threshold samples n ≡ Some side → Latest threshold samples n side)
    → Latest threshold samples (suc n) side
latest_by threshold samples n side None before now was is earlier =
    one_later threshold samples n side now (earlier (was ∙ is))
latest_by threshold samples n side (Some s) before now was is earlier = record {
  from = n;
  before = omega arith;
  is = now ∙ is;
  none_between = λ i later within. absurd (omega (arith, later, within));
}

latest : (threshold : Threshold) (samples : List ℤ) (n : ℕ) (side : Side) → side_after threshold samples n ≡ Some side
    → Latest threshold samples n side
latest threshold samples zero side is = absurd cc
latest threshold samples (suc n) side is =
    latest_by threshold samples n side (side_at threshold samples n) (side_after threshold samples n) refl refl is
    (latest threshold samples n side)

crosses : (threshold : Threshold) (samples : List ℤ) (place : ℕ) → is_crossing threshold samples place ≡ true
    → Crosses threshold samples place
crosses threshold samples place is =
    let sides = sides_by (side_after threshold samples place) (side_at threshold samples place) is in
    let before = latest threshold samples place (other_side sides.0) sides.2 in
    record {
      side = sides.0;
      is = sides.1;
      from = before.from;
      before = before.before;
      was = before.is;
      none_between = before.none_between;
    }

-- ---- the places that pass a test

-- from a on they are these, and those between them do not pass
abbrev AreAll : (ℕ → Bool) → ℕ → List ℕ → Type 0
AreAll p a [] = ⊤
AreAll p a (i ∷ is) = (a ≤ i) × (p i ≡ true) × ((j : ℕ) → a ≤ j → j < i → p j ≡ false) × AreAll p (i + 1) is

all_cond : (p : ℕ → Bool) (b : Bool) (a : ℕ) (is : List ℕ) → p a ≡ b → AreAll p (a + 1) is
    → AreAll p a (cond b (a ∷ is) is)
all_cond p true a is here all = (omega arith, here, λ j least below. absurd (omega (arith, least, below)), all)
all_cond p false a [] here all = tt
all_cond p false a (i ∷ is) here all = (
  let later = all.0 in omega (arith, later),
  all.1,
  λ j least below. elim (cases_lt a j) [
    | inl later ↦ all.2 j (omega (arith, later)) below
    | inr first ↦ let same : a ≡ j = omega (arith, first, least) in subst (λ (k : ℕ). p k ≡ false) same here
  ],
  all.3,
)

all_filter : (p : ℕ → Bool) (a n : ℕ) → AreAll p a (filter p (range_with_len a n))
all_filter p a zero = tt
all_filter p a (suc n) = all_cond p (p a) a (filter p (range_with_len (a + 1) n)) refl (all_filter p (a + 1) n)

-- ---- from one to the next

-- if the sound is on a side and no sample crosses
stays_by : (now : Option Side) (side : Side) → differs (Some side) now ≡ false
    → (option_or now (Some side) ≡ Some side) × (now ≢ Some (other_side side))
stays_by None side is = (refl, λ other. absurd cc)
stays_by (Some High) High is = (refl, λ other. absurd cc)
stays_by (Some Low) Low is = (refl, λ other. absurd cc)
stays_by (Some High) Low is = absurd cc
stays_by (Some Low) High is = absurd cc

turns_by : (now : Option Side) (side : Side) → differs (Some side) now ≡ true → now ≡ Some (other_side side)
turns_by None High is = absurd cc
turns_by None Low is = absurd cc
turns_by (Some High) High is = absurd cc
turns_by (Some Low) Low is = absurd cc
turns_by (Some High) Low is = refl
turns_by (Some Low) High is = refl

-- the sound stays on the side up to the next crossing
on_side : (threshold : Threshold) (samples : List ℤ) (first : ℕ) (side : Side)
    → side_at threshold samples first ≡ Some side → (m k : ℕ) → k ≡ suc (first + m)
    → ((j : ℕ) → first + 1 ≤ j → j < k → is_crossing threshold samples j ≡ false)
    → side_after threshold samples k ≡ Some side
on_side threshold samples first side is zero k at none =
    let same : k ≡ suc first = omega (arith, at) in
    subst (λ (n : ℕ). side_after threshold samples n ≡ Some side) (sym same)
    (ap (λ (now : Option Side). option_or now (side_after threshold samples first)) is)
on_side threshold samples first side is (suc m) k at none =
    let before = suc (first + m) in
    let same : k ≡ suc before = omega (arith, at) in
    let was = on_side threshold samples first side is m before refl
    (λ j least below. none j least (omega (arith, below, same))) in
    let stays : differs (Some side) (side_at threshold samples before) ≡ false =
    ap (λ (o : Option Side). differs o (side_at threshold samples before)) (sym was)
    ∙ none before (omega arith) (omega (arith, same)) in
    subst (λ (n : ℕ). side_after threshold samples n ≡ Some side) (sym same)
    (ap (λ (o : Option Side). option_or (side_at threshold samples before) o) was
    ∙ (stays_by (side_at threshold samples before) side stays).0)

turns : (threshold : Threshold) (samples : List ℤ) (first second : ℕ) → is_crossing threshold samples first ≡ true
    → is_crossing threshold samples second ≡ true → first + 1 ≤ second
    → ((j : ℕ) → first + 1 ≤ j → j < second → is_crossing threshold samples j ≡ false)
    → Turns threshold samples first second
turns threshold samples first second is next later none =
    let sides = sides_by (side_after threshold samples first) (side_at threshold samples first) is in
    let side = sides.0 in
    record {
      side = side;
      later = omega (arith, later);
      first_is = sides.1;
      second_is =
          let was = on_side threshold samples first side sides.1 (second - (first + 1)) second (omega (arith, later))
          none in
          turns_by (side_at threshold samples second) side
          (ap (λ (o : Option Side). differs o (side_at threshold samples second)) (sym was) ∙ next);
      none_between = λ i behind before.
          let was = on_side threshold samples first side sides.1 (i - (first + 1)) i (omega (arith, behind))
          (λ j least below. none j least (omega (arith, below, before))) in
          (stays_by (side_at threshold samples i) side
          (ap (λ (o : Option Side). differs o (side_at threshold samples i)) (sym was)
          ∙ none i (omega (arith, behind)) before)).1;
    }

turns_behind : (threshold : Threshold) (samples : List ℤ) (first : ℕ) (places : List ℕ)
    → is_crossing threshold samples first ≡ true → AreAll (is_crossing threshold samples) (first + 1) places
    → TurnsBehind threshold samples first places
turns_behind threshold samples first [] is all = tt
turns_behind threshold samples first (next ∷ more) is all = (
  turns threshold samples first next is all.1 all.0 all.2,
  turns_behind threshold samples next more all.1 all.3,
)

all_turn : (threshold : Threshold) (samples : List ℤ) (places : List ℕ)
    → AreAll (is_crossing threshold samples) 0 places
    → TurnByTurn threshold samples places
all_turn threshold samples [] all = tt
all_turn threshold samples (first ∷ more) all = turns_behind threshold samples first more all.1 all.3

all_cross : (threshold : Threshold) (samples : List ℤ) (a : ℕ) (places : List ℕ)
    → AreAll (is_crossing threshold samples) a places → AllByRecursion (Crosses threshold samples) places
all_cross threshold samples a [] all = tt
all_cross threshold samples a (place ∷ more) all =
    (crosses threshold samples place all.1, all_cross threshold samples (place + 1) more all.3)

pub crossings_cross : (threshold : Threshold) (samples : List ℤ)
    → AllByRecursion (Crosses threshold samples) (crossings threshold samples)
crossings_cross threshold samples =
    all_cross threshold samples 0 (crossings threshold samples)
    (all_filter (is_crossing threshold samples) 0 (length samples))

pub crossings_turn : (threshold : Threshold) (samples : List ℤ)
    → TurnByTurn threshold samples (crossings threshold samples)
crossings_turn threshold samples =
    all_turn threshold samples (crossings threshold samples)
    (all_filter (is_crossing threshold samples) 0 (length samples))
