-- Whether a word counts is seen in what is told too, since an event that is told or alone is the word that it was. So
-- each word that is told counts, and where each word counts on from the one before it none is alone.
use Rattle.std.proofs.Common.{◌≡◌, Bool, true, false, List, [], ◌∷◌, Option, Some, None, inl, inr}
use Rattle.std.proofs.Common.{ap, ap₂, sym, ◌∙◌, refl, subst}
use Rattle.std.specs.Prelude.{◌||◌}
use Rattle.std.specs.List.{AllZip}
use Rattle.flywheel.specs.declared.heard.HeardWord.{HeardWord}
use Rattle.ltc_word.specs.declared.word.LtcWord.{LtcWord}
use Rattle.tc_address.specs.declared.direction.Direction.{Direction}
use Rattle.std.specs.Prelude.{ℕ}
use Rattle.direction_reader.specs.declared.event.Event.{Event}
use Rattle.direction_reader.specs.declared.event.Event.TheVariants.{Word, Refused, Lost}
use Rattle.direction_reader.specs.declared.firm_event.FirmEvent.{FirmEvent}
use Rattle.direction_reader.specs.declared.firm_event.FirmEvent.TheVariants.{Told}
use Rattle.direction_reader.specs.Consecutive.{first_of, heard_as, word_at, word_of}
use Rattle.direction_reader.specs.Counted.{counted, counted_behind, counts_on, does_count, heard_at, heard_of}
use Rattle.direction_reader.specs.Counted.{later_word, next_of}
use Rattle.direction_reader.specs.CountedTape.{AllCountOn, EachCountsOn, EachIsCounted, IsCounted}
use Rattle.direction_reader.specs.Firm.{judged}
use Rattle.direction_reader.specs.FirmTape.{IsJudged}
use Rattle.direction_reader.specs.Reading.{as_told}

-- ---- each word that is told counts

judged_word : (counts : Bool) (e : Event) → word_of (judged counts e) ≡ heard_of e
judged_word true (Word d w t l) = refl
judged_word false (Word d w t l) = refl
judged_word counts (Refused d f t) = refl
judged_word counts (Lost p t) = refl

next_word : (before : Option HeardWord) (es : List Event)
    → word_at (first_of (counted_behind before es)) ≡ heard_at (next_of es)
next_word before [] = refl
next_word before (e ∷ es) = judged_word (does_count before e (next_of es)) e

word_counts : (before : Option HeardWord) (d : Direction) (w : LtcWord) (t l : ℕ) (next : Option FirmEvent)
    (one two : Bool) → counts_on before (Some (heard_as d w t l)) ≡ one
    → counts_on (Some (heard_as d w t l)) (word_at next) ≡ two
    → IsCounted before (judged (one || two) (Word d w t l)) next
word_counts before d w t l next true two first second = inl first
word_counts before d w t l next false true first second = inr second
word_counts before d w t l next false false first second = tt

event_counts : (before : Option HeardWord) (e : Event) (next : Option FirmEvent) (behind : Option Event)
    → word_at next ≡ heard_at behind → IsCounted before (judged (does_count before e behind) e) next
event_counts before (Word d w t l) next behind same =
    word_counts before d w t l next (counts_on before (Some (heard_as d w t l)))
    (counts_on (Some (heard_as d w t l)) (heard_at behind)) refl (ap (counts_on (Some (heard_as d w t l))) same)
event_counts before (Refused d f t) next behind same = tt
event_counts before (Lost p t) next behind same = tt

pub each_counts : (before : Option HeardWord) (es : List Event) → EachIsCounted before (counted_behind before es)
each_counts before [] = tt
each_counts before (e ∷ es) =
    let counts = does_count before e (next_of es) in
    let after = later_word before (heard_of e) in
    let rest = counted_behind after es in (
      event_counts before e (first_of rest) (next_of es) (next_word after es),
      subst (λ (w : Option HeardWord). EachIsCounted (later_word before w) rest) (sym (judged_word counts e))
          (each_counts after es),
    )

-- ---- an event is told, or alone

pub all_judged : (before : Option HeardWord) (es : List Event) → AllZip IsJudged es (counted_behind before es)
all_judged before [] = tt
all_judged before (e ∷ es) =
    ((does_count before e (next_of es), refl), all_judged (later_word before (heard_of e)) es)

-- ---- where each counts on none is alone

judged_told : (counts : Bool) (e : Event) → counts ≡ true → judged counts e ≡ Told e
judged_told counts (Word d w t l) is = rw is refl
judged_told counts (Refused d f t) is = refl
judged_told counts (Lost p t) is = refl

or_first : (b c : Bool) → b ≡ true → b || c ≡ true
or_first b c is = rw is refl

or_second : (b c : Bool) → c ≡ true → b || c ≡ true
or_second true c is = refl
or_second false c is = is

none_on : (w : Option HeardWord) → counts_on w None ≡ false
none_on None = refl
none_on (Some w) = refl

-- what counts on is a word, and the latest one then
latest_is : (before w : Option HeardWord) → counts_on before w ≡ true → later_word before w ≡ w
latest_is before (Some w) is = refl
latest_is before None is = let both : true ≡ false = sym is ∙ none_on before in absurd cc

all_told : (before : Option HeardWord) (es : List Event) → EachCountsOn before es
    → counted_behind before es ≡ as_told es
all_told before [] are = refl
all_told before (e ∷ es) are =
    let here : judged (does_count before e (next_of es)) e ≡ Told e =
    judged_told (does_count before e (next_of es)) e
    (or_first (counts_on before (heard_of e)) (counts_on (heard_of e) (heard_at (next_of es))) are.0) in
    let rest : counted_behind (later_word before (heard_of e)) es ≡ as_told es =
    ap (λ (w : Option HeardWord). counted_behind w es) (latest_is before (heard_of e) are.0)
    ∙ all_told (heard_of e) es are.1 in
    ap₂ (λ (t : FirmEvent) (ts : List FirmEvent). t ∷ ts) here rest

behind_none : (w : Option HeardWord) → later_word None w ≡ w
behind_none None = refl
behind_none (Some w) = refl

pub none_alone : (es : List Event) → AllCountOn es → counted es ≡ as_told es
none_alone [] are = absurd are
none_alone (e ∷ []) are = absurd are
none_alone (e ∷ x ∷ es) are =
    let here : judged (does_count None e (Some x)) e ≡ Told e =
    judged_told (does_count None e (Some x)) e
    (or_second (counts_on None (heard_of e)) (counts_on (heard_of e) (heard_of x)) are.0) in
    let rest : counted_behind (later_word None (heard_of e)) (x ∷ es) ≡ as_told (x ∷ es) =
    ap (λ (w : Option HeardWord). counted_behind w (x ∷ es)) (behind_none (heard_of e))
    ∙ all_told (heard_of e) (x ∷ es) are in
    ap₂ (λ (t : FirmEvent) (ts : List FirmEvent). t ∷ ts) here rest
