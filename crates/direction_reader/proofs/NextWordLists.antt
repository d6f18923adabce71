-- A reading in which the next word may stand in for a witness beside one that needs witnesses, event by event.
use Rattle.std.proofs.Common.{◌≡◌, ◌⊎◌, ℕ, Bool, true, false, List, [], ◌∷◌, map, All, Option, Some, None}
use Rattle.std.proofs.Common.{inl, inr, ap, sym, ◌∙◌, refl}
use Rattle.std.specs.List.{AllZip}
use Rattle.std.proofs.lemmas.List.Elements.{All-head, All-tail}
use Rattle.biphase.specs.declared.profile.Profile.{Profile}
use Rattle.cell_tracker.specs.Stretch.{Stretch}
use Rattle.ltc_word.specs.declared.word.LtcWord.{LtcWord}
use Rattle.tc_address.specs.declared.direction.Direction.{Direction}
use Rattle.tc_address.specs.declared.direction.Direction.TheVariants.{Forward, Backward}
use Rattle.tc_address.specs.declared.system.System.{System}
use Rattle.direction_reader.specs.declared.event.Event.{Event}
use Rattle.direction_reader.specs.declared.event.Event.TheVariants.{Word, Refused, Lost}
use Rattle.direction_reader.specs.declared.firm_event.FirmEvent.{FirmEvent}
use Rattle.direction_reader.specs.declared.firm_event.FirmEvent.TheVariants.{Told, Alone}
use Rattle.direction_reader.specs.Consecutive.{all_between, between, consecutive, first_of, heard_as, joins, or_other}
use Rattle.direction_reader.specs.Consecutive.{word_at, word_of}
use Rattle.direction_reader.specs.ConsecutiveTape.{AreBacked, ConsecutiveTellsTheTape, EachIsBacked, IsJoined}
use Rattle.direction_reader.specs.ConsecutiveTape.{IsSameOrTold}
use Rattle.direction_reader.specs.Firm.{judged}
use Rattle.direction_reader.specs.FirmTape.{AreWitnessed, FirmTellsTheTape, HasWitnessIn, IsJudged}
use Rattle.direction_reader.proofs.NextWordTicks.{told_by}

-- ---- one list

pub one_list : (firm others events more : List FirmEvent) → firm ≡ others → events ≡ consecutive firm
    → more ≡ consecutive others → events ≡ more
one_list firm others events more same one two = one ∙ ap consecutive same ∙ sym two

-- ---- each event is the same, or was alone

same_or_told : (joined : Bool) (d : Direction) (w : LtcWord) (t n : ℕ)
    → IsSameOrTold (Alone d w t n) (told_by joined d w t n)
same_or_told true d w t n = inr (d, w, t, n, refl, refl)
same_or_told false d w t n = inl refl

between_same : (before : Option FirmEvent) (e : FirmEvent) (behind : Option FirmEvent)
    → IsSameOrTold e (between before e behind)
between_same before (Told e) behind = inl refl
between_same before (Alone Forward w t n) behind =
    same_or_told (joins (Some (heard_as Forward w t n)) (word_at behind)) Forward w t n
between_same before (Alone Backward w t n) behind =
    same_or_told (joins (word_at before) (Some (heard_as Backward w t n))) Backward w t n

pub all_same : (before : Option FirmEvent) (es : List FirmEvent) (behind : Option FirmEvent)
    → AllZip IsSameOrTold es (all_between before es behind)
all_same before [] behind = tt
all_same before (e ∷ es) behind =
    (between_same before e (or_other (first_of es) behind), all_same (Some e) es behind)

-- so it is judged, as each event without witnesses is
judged_too : (before behind : Option FirmEvent) (firm : Bool) (e : Event)
    → (b : Bool) × (between before (judged firm e) behind ≡ judged b e)
judged_too before behind true (Word d w t n) = (true, refl)
judged_too before behind false (Word Forward w t n) =
    (joins (Some (heard_as Forward w t n)) (word_at behind), refl)
judged_too before behind false (Word Backward w t n) =
    (joins (word_at before) (Some (heard_as Backward w t n)), refl)
judged_too before behind firm (Refused d f t) = (true, refl)
judged_too before behind firm (Lost p t) = (true, refl)

pub all_judged_too : (before : Option FirmEvent) (plain : List Event) (es : List FirmEvent) (behind : Option FirmEvent)
    → AllZip IsJudged plain es → AllZip IsJudged plain (all_between before es behind)
all_judged_too before [] [] behind zip = tt
all_judged_too before [] (e ∷ es) behind zip = absurd zip
all_judged_too before (p ∷ plain) [] behind zip = absurd zip
all_judged_too before (p ∷ plain) (e ∷ es) behind zip =
    let next = or_other (first_of es) behind in
    let is = judged_too before next zip.0.0 p in (
      (is.0, ap (λ (x : FirmEvent). between before x next) zip.0.1 ∙ is.1),
      all_judged_too (Some e) plain es behind zip.1,
    )

-- ---- a word that is told has its witness, or the next one

told_by_word : (joined : Bool) (d : Direction) (w : LtcWord) (t n : ℕ)
    → word_of (told_by joined d w t n) ≡ Some (heard_as d w t n)
told_by_word true d w t n = refl
told_by_word false d w t n = refl

between_word : (before : Option FirmEvent) (e : FirmEvent) (behind : Option FirmEvent)
    → word_of (between before e behind) ≡ word_of e
between_word before (Told e) behind = refl
between_word before (Alone Forward w t n) behind =
    told_by_word (joins (Some (heard_as Forward w t n)) (word_at behind)) Forward w t n
between_word before (Alone Backward w t n) behind =
    told_by_word (joins (word_at before) (Some (heard_as Backward w t n))) Backward w t n

first_word : (before : Option FirmEvent) (es : List FirmEvent)
    → word_at (or_other (first_of es) None) ≡ word_at (first_of (all_between before es None))
first_word before [] = refl
first_word before (e ∷ es) = sym (between_word before e (or_other (first_of es) None))

backed_forward : (l : List ℕ) (ss : List Stretch) (w : LtcWord) (t n : ℕ) (before behind other : Option FirmEvent)
    (joined : Bool) → word_at behind ≡ word_at other
    → joins (Some (heard_as Forward w t n)) (word_at behind) ≡ joined → HasWitnessIn l ss (Alone Forward w t n)
    → HasWitnessIn l ss (told_by joined Forward w t n) ⊎ IsJoined before (told_by joined Forward w t n) other
backed_forward l ss w t n before behind other true same is has = inr (rw (← same) is)
backed_forward l ss w t n before behind other false same is has = inl has

backed_backward : (l : List ℕ) (ss : List Stretch) (w : LtcWord) (t n : ℕ) (before other behind : Option FirmEvent)
    (joined : Bool) → word_at before ≡ word_at other
    → joins (word_at before) (Some (heard_as Backward w t n)) ≡ joined → HasWitnessIn l ss (Alone Backward w t n)
    → HasWitnessIn l ss (told_by joined Backward w t n) ⊎ IsJoined other (told_by joined Backward w t n) behind
backed_backward l ss w t n before other behind true same is has = inr (rw (← same) is)
backed_backward l ss w t n before other behind false same is has = inl has

one_backed : (l : List ℕ) (ss : List Stretch) (before other behind next : Option FirmEvent) (e : FirmEvent)
    → word_at before ≡ word_at other → word_at behind ≡ word_at next → HasWitnessIn l ss e
    → HasWitnessIn l ss (between before e behind) ⊎ IsJoined other (between before e behind) next
one_backed l ss before other behind next (Told e) one two has = inl has
one_backed l ss before other behind next (Alone Forward w t n) one two has =
    backed_forward l ss w t n other behind next (joins (Some (heard_as Forward w t n)) (word_at behind)) two refl has
one_backed l ss before other behind next (Alone Backward w t n) one two has =
    backed_backward l ss w t n before other next (joins (word_at before) (Some (heard_as Backward w t n))) one refl has

all_backed : (l : List ℕ) (ss : List Stretch) (before other : Option FirmEvent) (es : List FirmEvent)
    → word_at before ≡ word_at other → All (HasWitnessIn l ss) es
    → EachIsBacked l ss other (all_between before es None)
all_backed l ss before other [] same all = tt
all_backed l ss before other (e ∷ es) same all =
    let behind = or_other (first_of es) None in (
      one_backed l ss before other behind (first_of (all_between (Some e) es None)) e same (first_word (Some e) es)
          (All-head (HasWitnessIn l ss) e es all),
      all_backed l ss (Some e) (Some (between before e behind)) es (sym (between_word before e behind))
          (All-tail (HasWitnessIn l ss) e es all),
    )

pub are_backed : (system : System) (profile : Profile) (l : List ℕ) (firm events : List FirmEvent)
    → AreWitnessed system profile l firm → events ≡ consecutive firm → AreBacked system profile l events
are_backed system profile l firm events has are = record {
  stretches = has.stretches;
  are = has.are;
  each = rw are (all_backed l has.stretches None None firm refl has.each);
}

-- ---- words that are told stay told, and the tape

pub stay_told : (before : Option FirmEvent) (es : List Event) (behind : Option FirmEvent)
    → all_between before (map (λ event. Told event) es) behind ≡ map (λ event. Told event) es
stay_told before [] behind = refl
stay_told before (e ∷ es) behind = ap (λ (fs : List FirmEvent). Told e ∷ fs) (stay_told (Some (Told e)) es behind)

pub tells_the_tape : (system : System) (profile : Profile) (l : List ℕ) (firm events : List FirmEvent)
    → FirmTellsTheTape system profile l firm → events ≡ consecutive firm
    → ConsecutiveTellsTheTape system profile l events
tells_the_tape system profile l firm events tape are = record {
  nothing = λ none. are ∙ ap consecutive (tape.nothing none);
  words = λ cells cut lock piece at. are ∙ ap consecutive (tape.words cells cut lock piece at);
}
