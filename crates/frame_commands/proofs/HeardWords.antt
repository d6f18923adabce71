-- The words of what an interval brought are two at most, and they come in turn.
use Rattle.std.proofs.Common.{◌≡◌, ℕ, ◌^◌, ◌<◌, ◌≤◌, List, [], ◌∷◌, ◌++◌, ◌∙◌, ap}
use Rattle.std.proofs.Common.{arith, map, refl}
use Rattle.std.proofs.Common.{append-nil, false, true}
use Rattle.std.specs.Prelude.{IfSome, Some, None, All}
use Rattle.std.specs.declared.option.Option.{Option}
use Rattle.std.proofs.lemmas.Grind.{flat_map-append}
use Rattle.std.proofs.lemmas.List.Elements.{All-nil, All-cons, All-append}
use Rattle.direction_reader.specs.declared.consecutive_event.ConsecutiveEvents.{ConsecutiveEvents}
use Rattle.direction_reader.specs.declared.event.Event.{Event}
use Rattle.direction_reader.specs.declared.event.Event.TheVariants as events
use Rattle.direction_reader.specs.declared.firm_event.FirmEvent.{FirmEvent}
use Rattle.direction_reader.specs.declared.firm_event.FirmEvent.TheVariants.{Told, Alone}
use Rattle.direction_reader.specs.declared.firm_event.FirmEvents.{FirmEvents}
use Rattle.direction_reader.specs.ConsecutiveStep.{consecutive_list, ConsecutiveBrings}
use Rattle.direction_reader.specs.Firm.{told_tick, DoNotFall}
use Rattle.direction_reader.specs.FirmReader.{IsToldBy}
use Rattle.direction_reader.specs.FirmStep.{firm_list, firm_listed, IsNoWord}
use Rattle.flywheel.specs.declared.heard.HeardWord.{HeardWord}
use Rattle.flywheel.specs.Wheel.{IsInRange}
use Rattle.frame_commands.specs.Heard.{told_events}
use Rattle.frame_commands.specs.Hearing.{word_ticks}
use Rattle.frame_commands.specs.OfFrames.{heard_in, words_heard}

-- ---- what is told

-- what is given of one behind another
pub told_events-append : (fs gs : List FirmEvent) → told_events (fs ++ gs) ≡ told_events fs ++ told_events gs
told_events-append [] gs = refl
told_events-append (Told e ∷ fs) gs = ap (λ (es : List Event). e ∷ es) (told_events-append fs gs)
told_events-append (Alone d w t l ∷ fs) gs = told_events-append fs gs

abbrev words_told : List FirmEvent → List HeardWord
words_told fs = words_heard (told_events fs)

words_told-append : (fs gs : List FirmEvent) → words_told (fs ++ gs) ≡ words_told fs ++ words_told gs
words_told-append fs gs =
    ap words_heard (told_events-append fs gs) ∙ flat_map-append heard_in (told_events fs) (told_events gs)

none_third : (o : Option FirmEvent) → IfSome o IsNoWord → words_told (firm_listed o) ≡ []
none_third None none = refl
none_third (Some (Told (events.Word d w t l))) none = let no : true ≡ false = none in absurd cc
none_third (Some (Told (events.Refused d f t))) none = refl
none_third (Some (Told (events.Lost i t))) none = refl
none_third (Some (Alone d w t l)) none = absurd none

-- the words of what is given are those of the first two
pub words_of_two : (told : FirmEvents) → IfSome told.third IsNoWord
    → words_told (firm_list told) ≡ words_told (firm_listed told.first) ++ words_told (firm_listed told.second)
words_of_two told none =
    let f = firm_listed told.first in
    let s = firm_listed told.second in
    let t = firm_listed told.third in
    words_told-append (f ++ s) t ∙ ap (λ (ws : List HeardWord). words_told (f ++ s) ++ ws) (none_third told.third none)
    ∙ append-nil (words_told (f ++ s)) ∙ words_told-append f s

told_range : (n sum : ℕ) (o : Option FirmEvent) → sum < 2 ^ 60 → IfSome o (IsToldBy n sum)
    → All IsInRange (words_told (firm_listed o))
told_range n sum None below told = All-nil IsInRange
told_range n sum (Some (Told (events.Word d w t l))) below told =
    let by = told.0 in
    let least = told.1 in
    let most = told.2 in
    All-cons IsInRange (record { label = w.fields.label; direction = d; tick = t; length = l }) []
    (record { tick = omega (arith, by, below); least = omega (arith, least); most = omega (arith, most) })
    (All-nil IsInRange)
told_range n sum (Some (Told (events.Refused d f t))) below told = All-nil IsInRange
told_range n sum (Some (Told (events.Lost i t))) below told = All-nil IsInRange
told_range n sum (Some (Alone d w t l)) below told = All-nil IsInRange

-- ---- of a word that was held

-- the words of what is given, if a word was held
pub words_of_held : (told : ConsecutiveEvents) → IfSome told.events.third IsNoWord
    → words_told (consecutive_list told) ≡ words_told (firm_listed told.held)
    ++ (words_told (firm_listed told.events.first) ++ words_told (firm_listed told.events.second))
words_of_held told none =
    let h = firm_listed told.held in
    words_told-append h (firm_list told.events)
    ∙ ap (λ (ws : List HeardWord). words_told h ++ ws) (words_of_two told.events none)

-- if none was held, the first is that of what comes first
pub unheld_words : (told : ConsecutiveEvents) → IfSome told.events.third IsNoWord
    → words_told (firm_listed told.held) ≡ []
    → words_told (consecutive_list told)
    ≡ words_told (firm_listed told.events.first) ++ words_told (firm_listed told.events.second)
unheld_words told none same =
    words_of_held told none ∙ ap (λ (ws : List HeardWord). ws ++ (words_told (firm_listed told.events.first)
    ++ words_told (firm_listed told.events.second))) same

pub told_in_range : (n sum : ℕ) (told : ConsecutiveEvents) → sum < 2 ^ 60 → ConsecutiveBrings n sum told
    → All IsInRange (words_told (consecutive_list told))
told_in_range n sum told below brings =
    let f = words_told (firm_listed told.events.first) in
    let s = words_told (firm_listed told.events.second) in
    rw (words_of_held told brings.no_word) (All-append IsInRange (words_told (firm_listed told.held)) (f ++ s)
    (told_range n sum told.held below brings.held)
    (All-append IsInRange f s (told_range n sum told.events.first below brings.first)
    (told_range n sum told.events.second below brings.second)))

-- ---- in turn

-- words come in turn, as all that is given
earlier_turn : (ticks : List ℕ) (a b c : ℕ) → a ≤ b → DoNotFall b ticks c → DoNotFall a ticks c
earlier_turn [] a b c before turn = omega (arith, before, turn)
earlier_turn (t ∷ ticks) a b c before turn = let first = turn.0 in (omega (arith, before, first), turn.1)

pub told_in_turn : (from until : ℕ) (fs : List FirmEvent) → DoNotFall from (map told_tick fs) until
    → DoNotFall from (word_ticks (words_told fs)) until
told_in_turn from until [] turn = turn
told_in_turn from until (Told (events.Word d w t l) ∷ fs) turn = (turn.0, told_in_turn t until fs turn.1)
told_in_turn from until (Told (events.Refused d f t) ∷ fs) turn =
    earlier_turn (word_ticks (words_told fs)) from t until turn.0 (told_in_turn t until fs turn.1)
told_in_turn from until (Told (events.Lost i t) ∷ fs) turn =
    earlier_turn (word_ticks (words_told fs)) from t until turn.0 (told_in_turn t until fs turn.1)
told_in_turn from until (Alone d w t l ∷ fs) turn =
    earlier_turn (word_ticks (words_told fs)) from t until turn.0 (told_in_turn t until fs turn.1)
