-- Whether an event counts is decided by the next one at the latest: of all but the last event of a list it stays,
-- whatever follows, and the last one is held where the next one decides. So what is given with each interval is, one
-- after another, what becomes of the whole list.
use Rattle.std.proofs.Common.{◌≡◌, Bool, true, false, List, [], ◌∷◌, ◌++◌, Option, Some, None}
use Rattle.std.proofs.Common.{ap, ap₂, sym, ◌∙◌, refl, append-nil, append_assoc}
use Rattle.std.specs.Prelude.{◌||◌, if◌then◌else◌}
use Rattle.flywheel.specs.declared.heard.HeardWord.{HeardWord}
use Rattle.direction_reader.specs.declared.counting.Counting.{Counting}
use Rattle.direction_reader.specs.declared.event.Event.{Event}
use Rattle.direction_reader.specs.declared.event.Event.TheVariants.{Word, Refused, Lost}
use Rattle.direction_reader.specs.declared.firm_event.FirmEvent.TheVariants.{Told}
use Rattle.direction_reader.specs.Consecutive.{heard_as}
use Rattle.direction_reader.specs.Counted.{counted_behind, counts_on, does_count, heard_of, later_word}
use Rattle.direction_reader.specs.CountedStep.{heard_with, heard_with_all, held_alone, latest_behind, released}
use Rattle.direction_reader.specs.CountedStep.{told_with, told_with_all}
use Rattle.direction_reader.specs.CountedTold.{held_behind, told_behind, told_without, undecided}
use Rattle.direction_reader.specs.Firm.{judged}

-- ---- one event

abbrev held_if : Bool → Event → Option Event
held_if counts e = if counts then None else Some e

-- nothing counts on from a word where none comes
none_next : (w : Option HeardWord) → counts_on w None ≡ false
none_next None = refl
none_next (Some w) = refl

-- the last event of a list is told, or held and alone
word_last : (counts : Bool) (next : Option HeardWord) (w : Option HeardWord) (e : Event) → counts_on w next ≡ false
    → judged (counts || counts_on w next) e ∷ [] ≡ judged counts e ∷ []
word_last true next w e none = refl
word_last false next w e none = rw none refl

told_or_alone : (counts : Bool) (e : Event) → judged true e ≡ Told e
    → judged counts e ∷ [] ≡ told_without (held_if counts e) e ++ held_alone (held_if counts e)
told_or_alone true e is = ap (λ t. t ∷ []) is
told_or_alone false e is = refl

last_event : (before : Option HeardWord) (e : Event) → judged (does_count before e None) e ∷ []
    ≡ told_without (undecided before e) e ++ held_alone (undecided before e)
last_event before (Word d w t n) =
    let own = Some (heard_as d w t n) in
    word_last (counts_on before own) None own (Word d w t n) refl
    ∙ told_or_alone (counts_on before own) (Word d w t n) refl
last_event before (Refused d f t) = refl
last_event before (Lost i t) = refl

-- and behind it comes another one, which decides
decided : (counts : Bool) (e x : Event) → judged true e ≡ Told e
    → judged (counts || counts_on (heard_of e) (heard_of x)) e ∷ []
    ≡ told_without (held_if counts e) e ++ released (held_if counts e) x
decided true e x is = ap (λ t. t ∷ []) is
decided false e x is = refl

next_decides : (before : Option HeardWord) (e x : Event) → judged (does_count before e (Some x)) e ∷ []
    ≡ told_without (undecided before e) e ++ released (undecided before e) x
next_decides before (Word d w t n) x =
    decided (counts_on before (Some (heard_as d w t n))) (Word d w t n) x refl
next_decides before (Refused d f t) x = refl
next_decides before (Lost i t) x = refl

-- ---- a list

-- what becomes of a list is what is told of it, and what is held
pub all_but_held : (before : Option HeardWord) (es : List Event)
    → counted_behind before es ≡ told_behind before es ++ held_alone (held_behind before es)
all_but_held before [] = refl
all_but_held before (e ∷ []) = last_event before e
all_but_held before (e ∷ x ∷ more) =
    ap (λ ts. judged (does_count before e (Some x)) e ∷ ts) (all_but_held (later_word before (heard_of e)) (x ∷ more))

-- what a list leaves
abbrev pub counting_of : Option HeardWord → Option Event → Counting
counting_of word held = record { word = word; held = held }

abbrev pub heard_behind : Option HeardWord → List Event → Counting
heard_behind before es = counting_of (latest_behind before es) (held_behind before es)

-- one event more
one_more : (before : Option HeardWord) (es : List Event) (x : Event)
    → (told_behind before (es ++ x ∷ []) ≡ told_behind before es ++ told_with (heard_behind before es) x)
    × (heard_behind before (es ++ x ∷ []) ≡ heard_with (heard_behind before es) x)
one_more before [] x = (refl, refl)
one_more before (e ∷ []) x = (
  ap (λ ts. ts ++ told_without (undecided (later_word before (heard_of e)) x) x) (next_decides before e x)
      ∙ append_assoc (told_without (undecided before e) e) (released (undecided before e) x)
      (told_without (undecided (later_word before (heard_of e)) x) x),
  refl,
)
one_more before (e ∷ y ∷ more) x =
    let rest = one_more (later_word before (heard_of e)) (y ∷ more) x in
    (ap (λ ts. judged (does_count before e (Some y)) e ∷ ts) rest.0, rest.1)

-- some events more
pub some_more : (before : Option HeardWord) (es more : List Event)
    → (told_behind before (es ++ more) ≡ told_behind before es ++ told_with_all (heard_behind before es) more)
    × (heard_behind before (es ++ more) ≡ heard_with_all (heard_behind before es) more)
some_more before es [] = (
  ap (told_behind before) (append-nil es) ∙ sym (append-nil (told_behind before es)),
  ap (heard_behind before) (append-nil es),
)
some_more before es (x ∷ more) =
    let one = one_more before es x in
    let rest = some_more before (es ++ x ∷ []) more in
    let moved = append_assoc es (x ∷ []) more in
    let c = heard_behind before es in (
      sym (ap (told_behind before) moved) ∙ rest.0
          ∙ ap₂ (λ ts d. ts ++ told_with_all d more) one.0 one.1
          ∙ append_assoc (told_behind before es) (told_with c x) (told_with_all (heard_with c x) more),
      sym (ap (heard_behind before) moved) ∙ rest.1 ∙ ap (λ d. heard_with_all d more) one.1,
    )
