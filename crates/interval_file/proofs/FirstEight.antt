-- The first eight bytes: all may come, or one is the first that may not, and its fault is read.
use Rattle.std.proofs.Common.{◌≡◌, ◌⊎◌, inl, inr, ℕ, suc, ◌+◌, ◌<◌, ◌≤◌, List, [], ◌∷◌, length}
use Rattle.std.proofs.Common.{take, slice_index, Some, None, refl}
use Rattle.std.proofs.Common.{sym, ◌∙◌, ap, subst, arith, Bool, true, false}
use Rattle.std.specs.Prelude.{if◌then◌else◌}
use Rattle.std.specs.declared.option.Option.{Option}
use Rattle.std.specs.Option.{option_or}
use Rattle.std.proofs.lemmas.Bool.{cases_Bool, cases_eq, cases_lt, le-ltb, lt-ltb}
use Rattle.std.proofs.lemmas.Bool.{ne_eqb}
use Rattle.std.proofs.lemmas.List.{get_or-take, length-take}
use Rattle.std.proofs.lemmas.List.{take-take}
use Rattle.tc_address.specs.declared.system.System.{System}
use Rattle.interval_file.specs.declared.fault.IntervalFileFault.{IntervalFileFault}
use Rattle.interval_file.specs.declared.fault.IntervalFileFault.TheVariants as fault
use Rattle.interval_file.specs.Contents.{first_wrong}
use Rattle.interval_file.specs.Grammar.{IsFirstWrong, IsHeaderFault, MayStand}
use Rattle.interval_file.specs.Grammar.{may_stand}
use Rattle.interval_file.specs.Recording.{shown}
use Rattle.tc_io.specs.Verdict.{refused}
use Rattle.interval_file.proofs.PlaceFault.{fault_is, place_fault}

-- ---- the first eight bytes

-- all may come, or one is the first that may not, and its fault is read
abbrev StandOrNot : ℕ → List ℕ → Type 0
StandOrNot place list =
    (MayStand place list × (first_wrong place list ≡ None))
    ⊎ ((k : ℕ) × (k < length list) × (may_stand (place + k) (slice_index list k) ≡ false) × MayStand place (take k list)
    × (first_wrong place list ≡ Some (place_fault (place + k))))

stand_or_not : (list : List ℕ) (place : ℕ) → StandOrNot place list
stand_or_not [] place = inl (tt, refl)
stand_or_not (byte ∷ more) place = by_test (cases_Bool (may_stand place byte)) (stand_or_not more (place + 1))
  where
    answer_of : Bool → Option IntervalFileFault
    answer_of may = option_or (if may then None else Some (place_fault place)) (first_wrong (place + 1) more)

    answered : {may : Bool} → may_stand place byte ≡ may → first_wrong place (byte ∷ more) ≡ answer_of may
    answered e = ap (λ (o : Option IntervalFileFault). option_or o (first_wrong (place + 1) more)) (fault_is place byte)
        ∙ ap answer_of e

    read_as : (may : Bool) → may_stand place byte ≡ may
        → first_wrong place (byte ∷ more) ≡ (if may then first_wrong (place + 1) more else Some (place_fault place))
    read_as true e = answered e
    read_as false e = answered e

    by_rest : may_stand place byte ≡ true → StandOrNot (place + 1) more → StandOrNot place (byte ∷ more)
    by_rest may (inl all) = inl ((may, all.0), read_as true may ∙ all.1)
    by_rest may (inr found) =
        let k = found.0 in
        let below = found.1 in
        let there : place + 1 + k ≡ place + suc k = omega arith in
        let wrong = subst (λ (n : ℕ). may_stand n (slice_index more k) ≡ false) there found.2 in
        let first = read_as true may ∙ found.4 ∙ ap (λ (n : ℕ). Some (place_fault n)) there in
        inr (suc k, omega (arith, below), wrong, (may, found.3), first)

    by_test : (may_stand place byte ≡ true) ⊎ (may_stand place byte ≡ false) → StandOrNot (place + 1) more
        → StandOrNot place (byte ∷ more)
    by_test (inl may) rest = by_rest may rest
    by_test (inr wrong) rest =
        let here : place ≡ place + 0 = omega arith in
        inr (
          0,
          omega arith,
          subst (λ (n : ℕ). may_stand n byte ≡ false) here wrong,
          tt,
          read_as false wrong ∙ ap (λ (n : ℕ). Some (place_fault n)) here,
        )

-- the fault of the first that may not
wrong_place : (bytes : List ℕ) (place : ℕ) → place < 8 → IsFirstWrong place bytes
    → (first : IntervalFileFault) × IsHeaderFault first bytes × (place_fault place ≡ first)
    × (shown first ≡ refused first)
wrong_place bytes place low is = by_row (cases_lt place 4) (cases_eq place 4) (cases_eq place 5)
  where
    by_row : (place < 4) ⊎ (4 ≤ place) → (place ≡ 4) ⊎ (place ≡ 4 → ⊥) → (place ≡ 5) ⊎ (place ≡ 5 → ⊥)
        → (first : IntervalFileFault) × IsHeaderFault first bytes × (place_fault place ≡ first)
        × (shown first ≡ refused first)
    by_row (inl magic) four five = (fault.Magic place, (magic, is), rw (lt-ltb place 4 magic) refl, refl)
    by_row (inr more) (inl four) five = (fault.Version place, (four, is), rw four refl, refl)
    by_row (inr more) (inr not_four) (inl five) = (fault.System place, (five, is), rw five refl, refl)
    by_row (inr more) (inr not_four) (inr not_five) = (
      fault.Reserved place,
      (omega (arith, more, not_four, not_five), low, is),
      rw (le-ltb place 4 more, ne_eqb place 4 not_four, ne_eqb place 5 not_five) refl,
      refl,
    )

abbrev pub HeadOrFault : List ℕ → Type 0
HeadOrFault bytes = (MayStand 0 (take 8 bytes) × (first_wrong 0 (take 8 bytes) ≡ None))
    ⊎ ((first : IntervalFileFault) × IsHeaderFault first bytes × (first_wrong 0 (take 8 bytes) ≡ Some first)
    × (shown first ≡ refused first))

pub head_or_fault : (bytes : List ℕ) → HeadOrFault bytes
head_or_fault bytes = by_answer (stand_or_not (take 8 bytes) 0)
  where
    by_answer : StandOrNot 0 (take 8 bytes) → HeadOrFault bytes
    by_answer (inl may) = inl may
    by_answer (inr found) =
        let k = found.0 in
        let below = found.1 in
        let long = length-take 8 bytes in
        let low : k < 8 = omega (arith, below, long) in
        let byte = get_or-take 8 bytes k 0 low in
        let here : 0 + k ≡ k = omega arith in
        let tested = subst (λ (n : ℕ). may_stand n (slice_index (take 8 bytes) k) ≡ false) here found.2 in
        let wrong : may_stand k (slice_index bytes k) ≡ false = ap (λ (b : ℕ). may_stand k b) (sym byte) ∙ tested in
        let before = subst (λ (l : List ℕ). MayStand 0 l) (take-take k 8 bytes (omega (arith, low))) found.3 in
        let is : IsFirstWrong k bytes = record { there = omega (arith, below, long); wrong = wrong; before = before } in
        let place = wrong_place bytes k low is in
        let first = subst (λ (n : ℕ). first_wrong 0 (take 8 bytes) ≡ Some (place_fault n)) here found.4 in
        inr (
          place.0,
          place.1,
          subst (λ (f : IntervalFileFault). first_wrong 0 (take 8 bytes) ≡ Some f) place.2 first,
          place.3,
        )
