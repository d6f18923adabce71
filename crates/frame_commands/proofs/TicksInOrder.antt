-- The ticks of what is heard do not fall, since those of events do not: with a witness it is some of them.
use Rattle.std.proofs.Common.{◌≡◌, ◌≤◌, ℕ, Bool, true, false, List, [], ◌∷◌, map, sum, refl, sym, ap, ◌∙◌, subst, arith}
use Rattle.std.specs.List.{AllZip}
use Rattle.tc_address.specs.declared.direction.Direction.{Direction}
use Rattle.tc_address.specs.Label.{Address}
use Rattle.tc_address.specs.declared.system.System.{System}
use Rattle.biphase.specs.declared.profile.Profile.{Profile}
use Rattle.direction_reader.specs.declared.event.Event.{Event}
use Rattle.direction_reader.specs.declared.event.Event.TheVariants.{Word, Refused, Lost}
use Rattle.direction_reader.specs.declared.firm_event.FirmEvent.{FirmEvent}
use Rattle.direction_reader.specs.declared.firm_event.FirmEvent.TheVariants.{Told, Alone}
use Rattle.direction_reader.specs.Events.{tick_of}
use Rattle.direction_reader.specs.Firm.{judged, DoNotFall}
use Rattle.direction_reader.specs.FirmTape.{IsJudged}
use Rattle.direction_reader.specs.ListEvents.{AreEvents}
use Rattle.flywheel.specs.declared.frame.Frame.{Frame}
use Rattle.flywheel.specs.declared.frame.Frame.TheVariants.{Heard, Invented, Gone}
use Rattle.flywheel.specs.declared.heard.HeardWord.{HeardWord}
use Rattle.flywheel.specs.Marked.{word_of, words_in}
use Rattle.tape_spans.specs.InOrder.{heard_ticks}
use Rattle.tc_job.specs.declared.witness.Witness.{Witness}
use Rattle.tc_job.specs.declared.witness.Witness.TheVariants.{NotAsked, Asked, Consecutive, Counted}
use Rattle.frame_commands.specs.Heard.{told_events}
use Rattle.frame_commands.specs.HeardTape.{HearsTheTape, AreHeardOf}
use Rattle.frame_commands.specs.OfFrames.{words_heard}

-- events come in order
abbrev pub ComeInOrder : Type 0
ComeInOrder = (system : System) (profile : Profile) (intervals : List ℕ) (events : List Event)
    → AreEvents system profile intervals events → DoNotFall 0 (map tick_of events) (sum intervals)

earlier : (a b : ℕ) (ticks : List ℕ) (last : ℕ) → a ≤ b → DoNotFall b ticks last → DoNotFall a ticks last
earlier a b [] last less is = omega (arith, less, is)
earlier a b (tick ∷ ticks) last less is = (let first = is.0 in omega (arith, less, first), is.1)

-- ---- some of the events

told_same : (firm : Bool) (event told : Event) → Told told ≡ judged firm event → told ≡ event
told_same true (Word d w t n) told is = cc
told_same false (Word d w t n) told is = absurd cc
told_same firm (Refused d f t) told is = cc
told_same firm (Lost p t) told is = cc

some_told : (a b : ℕ) (plain : List Event) (told : List FirmEvent) → AllZip IsJudged plain told
    → DoNotFall a (map tick_of plain) b → DoNotFall a (map tick_of (told_events told)) b
some_told a b [] [] are is = is
some_told a b [] (t ∷ told) are is = absurd are
some_told a b (event ∷ plain) [] are is = absurd are
some_told a b (event ∷ plain) (Told e ∷ told) are is =
    let same = told_same are.0.0 event e are.0.1 in
    subst (λ (x : Event). DoNotFall a (tick_of x ∷ map tick_of (told_events told)) b) (sym same)
    (is.0, some_told (tick_of event) b plain told are.1 is.1)
some_told a b (event ∷ plain) (Alone d w t l ∷ told) are is =
    earlier a (tick_of event) (map tick_of (told_events told)) b is.0
    (some_told (tick_of event) b plain told are.1 is.1)

heard_by : (witness : Witness) (system : System) (profile : Profile) (intervals : List ℕ) (plain events : List Event)
    → AreHeardOf witness system profile intervals plain events → DoNotFall 0 (map tick_of plain) (sum intervals)
    → DoNotFall 0 (map tick_of events) (sum intervals)
heard_by NotAsked system profile intervals plain events are is =
    subst (λ (es : List Event). DoNotFall 0 (map tick_of es) (sum intervals)) (sym are) is
heard_by Asked system profile intervals plain events are is =
    subst (λ (es : List Event). DoNotFall 0 (map tick_of es) (sum intervals)) (sym are.3)
    (some_told 0 (sum intervals) plain are.0 are.1 is)
heard_by Consecutive system profile intervals plain events are is =
    subst (λ (es : List Event). DoNotFall 0 (map tick_of es) (sum intervals)) (sym are.3)
    (some_told 0 (sum intervals) plain are.0 are.1 is)
heard_by Counted system profile intervals plain events are is =
    subst (λ (es : List Event). DoNotFall 0 (map tick_of es) (sum intervals)) (sym are.3)
    (some_told 0 (sum intervals) plain are.0 are.1 is)

-- ---- their words, and the frames of these

words_in_order : (a b : ℕ) (events : List Event) → DoNotFall a (map tick_of events) b
    → DoNotFall a (map (λ (w : HeardWord). w.tick) (words_heard events)) b
words_in_order a b [] is = is
words_in_order a b (Word d w t n ∷ events) is = (is.0, words_in_order t b events is.1)
words_in_order a b (Refused d f t ∷ events) is =
    earlier a t (map (λ (w : HeardWord). w.tick) (words_heard events)) b is.0 (words_in_order t b events is.1)
words_in_order a b (Lost p t ∷ events) is =
    earlier a t (map (λ (w : HeardWord). w.tick) (words_heard events)) b is.0 (words_in_order t b events is.1)

abbrev tick_told : Address × Direction × ℕ → ℕ
tick_told told = told.2

ticks_told : (fs : List Frame) → heard_ticks fs ≡ map tick_told (words_in fs)
ticks_told [] = refl
ticks_told (Heard label direction joined tick ∷ fs) = ap (λ (ns : List ℕ). tick ∷ ns) (ticks_told fs)
ticks_told (Invented label direction step tick ∷ fs) = ticks_told fs
ticks_told (Gone tick ∷ fs) = ticks_told fs

ticks_of_words : (words : List HeardWord) → map tick_told (map word_of words) ≡ map (λ (w : HeardWord). w.tick) words
ticks_of_words [] = refl
ticks_of_words (word ∷ words) = ap (λ (ns : List ℕ). word.tick ∷ ns) (ticks_of_words words)

-- of the frames whose heard ones are these words
pub frames_in_order : ComeInOrder → (witness : Witness) (system : System) (profile : Profile) (intervals : List ℕ)
    (events : List Event) → HearsTheTape witness system profile intervals events → (fs : List Frame)
    → words_in fs ≡ map word_of (words_heard events) → DoNotFall 0 (heard_ticks fs) (sum intervals)
frames_in_order order witness system profile intervals events tape fs heard =
    let plain = order system profile intervals tape.plain tape.are_plain in
    let own = heard_by witness system profile intervals tape.plain events tape.heard plain in
    subst (λ (ns : List ℕ). DoNotFall 0 ns (sum intervals))
    (sym (ticks_told fs ∙ ap (map tick_told) heard ∙ ticks_of_words (words_heard events)))
    (words_in_order 0 (sum intervals) events own)
