-- What is given while more may follow comes first in what is given of more, and in the whole: the next event decides of
-- one that is held alone, which ends no later than the tick up to which all is told.
use Rattle.std.proofs.Common.{◌≡◌, ◌≤◌, ℕ, Bool, true, false, List, [], ◌∷◌, ◌++◌, map, All, Option, Some, None}
use Rattle.std.proofs.Common.{IfSome, ap, sym, ◌∙◌, subst, arith, append_assoc}
use Rattle.std.specs.Prelude.{if◌then◌else◌}
use Rattle.std.proofs.lemmas.List.Elements.{All-nil, All-cons, All-append, All-head, All-tail}
use Rattle.flywheel.specs.declared.heard.HeardWord.{HeardWord}
use Rattle.direction_reader.specs.declared.counting.Counting.{Counting}
use Rattle.direction_reader.specs.declared.event.Event.{Event}
use Rattle.direction_reader.specs.declared.event.Event.TheVariants.{Word, Refused, Lost}
use Rattle.direction_reader.specs.declared.firm_event.FirmEvent.{FirmEvent}
use Rattle.direction_reader.specs.declared.firm_event.FirmEvent.TheVariants.{Told}
use Rattle.direction_reader.specs.Consecutive.{heard_as}
use Rattle.direction_reader.specs.Counted.{counted, counts_on, heard_of, later_word}
use Rattle.direction_reader.specs.CountedStep.{heard_with, heard_with_all, held_alone, released, told_with}
use Rattle.direction_reader.specs.CountedStep.{told_with_all}
use Rattle.direction_reader.specs.CountedTold.{held_behind, told_behind, told_without, undecided, until_held}
use Rattle.direction_reader.specs.Events.{tick_of}
use Rattle.direction_reader.specs.Firm.{judged, DoNotFall}
use Rattle.direction_reader.specs.FirmTold.{ComesFirst}
use Rattle.direction_reader.proofs.CountedLists.{all_but_held, heard_behind, some_more}
use Rattle.direction_reader.proofs.CountedTicks.{judged_tick}
use Rattle.direction_reader.proofs.FirmTicks.{IsFrom}

-- ---- what is held is an event of the list

if_has : (P : Event → Type 0) (counts : Bool) (e : Event) → P e
    → (let held : Option Event = if counts then None else Some e in IfSome held P)
if_has P true e is = tt
if_has P false e is = is

held_has : (P : Event → Type 0) (before : Option HeardWord) (e : Event) → P e → IfSome (undecided before e) P
held_has P before (Word d w t l) is = if_has P (counts_on before (Some (heard_as d w t l))) (Word d w t l) is
held_has P before (Refused d f t) is = tt
held_has P before (Lost p t) is = tt

abbrev EndsBy : ℕ → Event → Type 0
EndsBy b e = tick_of e ≤ b

held_ends : (a b : ℕ) (before : Option HeardWord) (es : List Event) → DoNotFall a (map tick_of es) b
    → IfSome (held_behind before es) (EndsBy b)
held_ends a b before [] turn = tt
held_ends a b before (e ∷ []) turn = held_has (EndsBy b) before e turn.1
held_ends a b before (e ∷ x ∷ es) turn =
    held_ends (tick_of e) b (later_word before (heard_of e)) (x ∷ es) turn.1

until_ends : (b : ℕ) (o : Option Event) → IfSome o (EndsBy b) → until_held b o ≤ b
until_ends b None is = omega arith
until_ends b (Some e) is = is

-- ---- what follows ends at a tick or later

abbrev EndsFrom : ℕ → Event → Type 0
EndsFrom a e = a ≤ tick_of e

own_from : (a : ℕ) (held : Option Event) (e : Event) → EndsFrom a e → All (IsFrom a) (told_without held e)
own_from a None e is = All-cons (IsFrom a) (Told e) [] is (All-nil (IsFrom a))
own_from a (Some h) e is = All-nil (IsFrom a)

released_from : (a : ℕ) (held : Option Event) (e : Event) → IfSome held (EndsFrom a)
    → All (IsFrom a) (released held e)
released_from a None e is = All-nil (IsFrom a)
released_from a (Some h) e is =
    let counts = counts_on (heard_of h) (heard_of e) in
    All-cons (IsFrom a) (judged counts h) [] (omega (arith, judged_tick counts h, is)) (All-nil (IsFrom a))

told_from : (a : ℕ) (c : Counting) (es : List Event) → IfSome c.held (EndsFrom a) → All (EndsFrom a) es
    → All (IsFrom a) (told_with_all c es) × IfSome (heard_with_all c es).held (EndsFrom a)
told_from a c [] held all = (All-nil (IsFrom a), held)
told_from a c (e ∷ es) held all =
    let is = All-head (EndsFrom a) e es all in
    let next = undecided c.word e in
    let rest = told_from a (heard_with c e) es (held_has (EndsFrom a) c.word e is) (All-tail (EndsFrom a) e es all) in (
      All-append (IsFrom a) (told_with c e) (told_with_all (heard_with c e) es)
          (All-append (IsFrom a) (released c.held e) (told_without next e) (released_from a c.held e held)
          (own_from a next e is)) rest.0,
      rest.1,
    )

alone_from : (a : ℕ) (o : Option Event) → IfSome o (EndsFrom a) → All (IsFrom a) (held_alone o)
alone_from a None is = All-nil (IsFrom a)
alone_from a (Some h) is =
    All-cons (IsFrom a) (judged false h) [] (omega (arith, judged_tick false h, is)) (All-nil (IsFrom a))

from_until : (b : ℕ) (o : Option Event) → IfSome o (EndsFrom (until_held b o))
from_until b None = tt
from_until b (Some h) = omega arith

earlier : (a b : ℕ) (es : List Event) → a ≤ b → All (EndsFrom b) es → All (EndsFrom a) es
earlier a b [] less all = All-nil (EndsFrom a)
earlier a b (e ∷ es) less all =
    let is : b ≤ tick_of e = All-head (EndsFrom b) e es all in
    All-cons (EndsFrom a) e es (omega (arith, less, is)) (earlier a b es less (All-tail (EndsFrom b) e es all))

-- ---- what was told comes first

record Behind (es rest : List Event) (until : ℕ) : Type 0 where
  told : All (IsFrom until) (told_with_all (heard_behind None es) rest)
  held : IfSome (held_behind None (es ++ rest)) (EndsFrom until)

behind : (b : ℕ) (es rest : List Event) → DoNotFall 0 (map tick_of es) b → All (EndsFrom b) rest
    → Behind es rest (until_held b (held_behind None es)) × (until_held b (held_behind None es) ≤ b)
behind b es rest turn all =
    let until = until_held b (held_behind None es) in
    let less = until_ends b (held_behind None es) (held_ends 0 b None es turn) in
    let from = told_from until (heard_behind None es) rest (from_until b (held_behind None es))
    (earlier until b rest less all) in
    let same = ap (λ (c : Counting). c.held) (some_more None es rest).1 in (
      record {
        told = from.0;
        held = subst (λ (o : Option Event). IfSome o (EndsFrom until)) (sym same) from.1;
      },
      less,
    )

-- in all events
pub first_of_all : (b last : ℕ) (es rest all : List Event) (told events : List FirmEvent) (until : ℕ)
    → DoNotFall 0 (map tick_of es) b → All (λ e. b ≤ tick_of e) rest → b ≤ last → all ≡ es ++ rest
    → told ≡ told_behind None es → until ≡ until_held b (held_behind None es) → events ≡ counted all
    → ComesFirst told until events last
first_of_all b last es rest all told events until turn from later is told_is until_is events_are =
    let here = behind b es rest turn from in
    let own = told_with_all (heard_behind None es) rest in
    let held = held_alone (held_behind None (es ++ rest)) in
    let less = here.1 in
    record {
      rest = own ++ held;
      are = events_are ∙ ap counted is ∙ all_but_held None (es ++ rest)
          ∙ ap (λ ts. ts ++ held) (some_more None es rest).0 ∙ append_assoc (told_behind None es) own held
          ∙ ap (λ ts. ts ++ (own ++ held)) (sym told_is);
      later = rw until_is (All-append (IsFrom (until_held b (held_behind None es))) own held here.0.told
          (alone_from (until_held b (held_behind None es)) (held_behind None (es ++ rest)) here.0.held));
      before = omega (arith, until_is, less, later);
    }

-- and in what is given of more intervals
until_later : (a b : ℕ) (o : Option Event) → a ≤ b → IfSome o (EndsFrom a) → a ≤ until_held b o
until_later a b None less is = less
until_later a b (Some h) less is = is

pub first_of_more : (b last : ℕ) (es rest all : List Event) (told later : List FirmEvent) (until now : ℕ)
    → DoNotFall 0 (map tick_of es) b → All (λ e. b ≤ tick_of e) rest → b ≤ last → all ≡ es ++ rest
    → told ≡ told_behind None es → until ≡ until_held b (held_behind None es)
    → later ≡ told_behind None all → now ≡ until_held last (held_behind None all) → ComesFirst told until later now
first_of_more b last es rest all told later until now turn from more is told_is until_is later_is now_is =
    let here = behind b es rest turn from in
    let less = here.1 in
    let own = told_with_all (heard_behind None es) rest in
    let ends = until_later (until_held b (held_behind None es)) last (held_behind None (es ++ rest))
    (omega (arith, less, more)) here.0.held in
    let same : until_held last (held_behind None all) ≡ until_held last (held_behind None (es ++ rest)) =
    ap (λ (xs : List Event). until_held last (held_behind None xs)) is in
    record {
      rest = own;
      are = later_is ∙ ap (told_behind None) is ∙ (some_more None es rest).0 ∙ ap (λ ts. ts ++ own) (sym told_is);
      later = rw until_is here.0.told;
      before = omega (arith, until_is, now_is, same, ends);
    }
