-- Events that are counted one after another are as many of each kind as there are, and their first and their last
-- label are the first and the last.
use Rattle.std.proofs.Common.{◌≡◌, ℕ, ◌+◌, List, [], ◌∷◌, fold, Some, None, refl, ◌∙◌, ap, arith, count_by, cond}
use Rattle.std.specs.declared.option.Option.{Option}
use Rattle.std.specs.List.{last_or}
use Rattle.std.proofs.lemmas.List.Sums.{sum_by-cons}
use Rattle.direction_reader.specs.declared.event.Event.{Event}
use Rattle.direction_reader.specs.declared.event.Event.TheVariants.{Word, Refused, Lost}
use Rattle.direction_reader.specs.Events.{is_lost, is_refused, is_word}
use Rattle.tc_address.specs.Label.{Address}
use Rattle.tc_job.specs.LoadRun.{Loading}
use Rattle.made_commands.specs.declared.ltc_load.Counts.{Counts}
use Rattle.made_commands.specs.KeptLoad.{first_or, line_with, no_counts, with_event}
use Rattle.made_commands.specs.Load.{first_in, labels_in, load_line}

-- the first label of more events
abbrev first_of : Option Address → List Address → Option Address
first_of None labels = first_in labels
first_of (Some label) labels = Some label

first_goes_on : (first : Option Address) (label : Address) (more : List Address)
    → first_of (first_or first label) more ≡ first_of first (label ∷ more)
first_goes_on None label more = refl
first_goes_on (Some x) label more = refl

first_of_none : (first : Option Address) → first ≡ first_of first []
first_of_none None = refl
first_of_none (Some x) = refl

-- with a number of events more
abbrev more_of : Counts → List Event → Counts
more_of c events = record {
  words = c.words + count_by is_word events;
  refused = c.refused + count_by is_refused events;
  lost = c.lost + count_by is_lost events;
  first = first_of c.first (labels_in events);
  last = last_or c.last (labels_in events);
}

same : (a b : Counts) → a.words ≡ b.words → a.refused ≡ b.refused → a.lost ≡ b.lost → a.first ≡ b.first
    → a.last ≡ b.last → a ≡ b
same a b words refused lost first last =
    ap (λ (n : ℕ). record { words = n; refused = a.refused; lost = a.lost; first = a.first; last = a.last }) words
    ∙ ap (λ (n : ℕ). record { words = b.words; refused = n; lost = a.lost; first = a.first; last = a.last }) refused
    ∙ ap (λ (n : ℕ). record { words = b.words; refused = b.refused; lost = n; first = a.first; last = a.last }) lost
    ∙ ap (λ (o : Option Address). record {
      words = b.words;
      refused = b.refused;
      lost = b.lost;
      first = o;
      last =
          a.last;
    }) first
    ∙ ap (λ (o : Option Address). record {
      words = b.words;
      refused = b.refused;
      lost = b.lost;
      first = b.first;
      last =
          o;
    }) last

all_counted : (events : List Event) (c : Counts) → fold with_event c events ≡ more_of c events
all_counted [] c =
    same c (more_of c []) (omega arith) (omega arith) (omega arith) (first_of_none c.first) refl
all_counted (Word d w t l ∷ more) c =
    let weight : Event → ℕ = λ e. cond (is_word e) 1 0 in
    let one : count_by is_word (Word d w t l ∷ more) ≡ 1 + count_by is_word more =
    sum_by-cons weight (Word d w t l) more in
    let next = with_event c (Word d w t l) in
    all_counted more next
    ∙ same (more_of next more) (more_of c (Word d w t l ∷ more)) (omega (arith, one)) refl refl
    (first_goes_on c.first w.fields.label (labels_in more)) refl
all_counted (Refused d f t ∷ more) c =
    let weight : Event → ℕ = λ e. cond (is_refused e) 1 0 in
    let one : count_by is_refused (Refused d f t ∷ more) ≡ 1 + count_by is_refused more =
    sum_by-cons weight (Refused d f t) more in
    let next = with_event c (Refused d f t) in
    all_counted more next ∙ same (more_of next more) (more_of c (Refused d f t ∷ more)) refl (omega (arith, one)) refl
    refl refl
all_counted (Lost p t ∷ more) c =
    let weight : Event → ℕ = λ e. cond (is_lost e) 1 0 in
    let one : count_by is_lost (Lost p t ∷ more) ≡ 1 + count_by is_lost more = sum_by-cons weight (Lost p t) more in
    let next = with_event c (Lost p t) in
    all_counted more next ∙ same (more_of next more) (more_of c (Lost p t ∷ more)) refl refl (omega (arith, one)) refl
    refl

-- so their line is the line of the events
pub line_of_events : (l : Loading) (events : List Event) → line_with l (fold with_event no_counts events) ≡ load_line l
    events
line_of_events l events =
    let none_words : 0 + count_by is_word events ≡ count_by is_word events = omega arith in
    let none_refused : 0 + count_by is_refused events ≡ count_by is_refused events = omega arith in
    let none_lost : 0 + count_by is_lost events ≡ count_by is_lost events = omega arith in
    ap (λ (c : Counts). line_with l c) (all_counted events no_counts) ∙ rw (none_words, none_refused, none_lost) refl
