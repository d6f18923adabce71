-- What was printed grows by the lines of the events that an interval brings, and the last line counts all of them.
use Rattle.std.proofs.Common.{◌≡◌, ℕ, ◌+◌, List, [], ◌∷◌, ◌++◌, count_by, sym, ◌∙◌, ap, subst}
use Rattle.std.proofs.lemmas.Grind.{flat_map-append}
use Rattle.lemmas.specs.Lists.{count_by-append}
use Rattle.biphase.specs.declared.profile.Profile.{Profile}
use Rattle.tc_address.specs.declared.system.System.{System}
use Rattle.direction_reader.specs.declared.event.Event.{Event}
use Rattle.direction_reader.specs.declared.event.Events.{Events}
use Rattle.direction_reader.specs.ListEvents.{AreEvents}
use Rattle.direction_reader.specs.Reader.{ReaderState, Takes}
use Rattle.direction_reader.specs.StandsFor.{StandsFor}
use Rattle.direction_reader.specs.Tracker.{profile_of}
use Rattle.interval_file.specs.declared.header.IntervalHeader.{IntervalHeader}
use Rattle.report_text.specs.Texts.{event_line, read_end_line}
use Rattle.interval_commands.specs.declared.ltc_read.Report.{Report}
use Rattle.interval_commands.specs.KeptReport.{Counts, Feeds, Stands}
use Rattle.direction_reader.specs.Events.{event_list, listed, is_word, is_refused, is_lost}
use Rattle.interval_commands.specs.LtcRead.{lines, last_line, IsReadWhole}

-- the lines of events and of more
lines_of_more : (header : IntervalHeader) (events more : List Event) (written : List ℕ) → written ≡ lines header events
    → written ++ lines header more ≡ lines header (events ++ more)
lines_of_more header events more written are =
    ap (λ (l : List ℕ). l ++ lines header more) are ∙ sym (flat_map-append (event_line header) events more)

-- the lines of what an interval brought
pub lines_of_both : (header : IntervalHeader) (events : Events)
    → lines header (event_list events) ≡ lines header (listed events.first) ++ lines header (listed events.second)
lines_of_both header events = flat_map-append (event_line header) (listed events.first) (listed events.second)

-- one interval more
pub more_printed : (r next : Report) (profile : Profile) (header : IntervalHeader) (intervals written : List ℕ) (x : ℕ)
    (own : Events) → Stands r profile header intervals written → next.header ≡ r.header
    → Takes r.reader x next.reader → Feeds r next x own
    → Counts r next (event_list own)
    → ((reader : ReaderState) (intervals : List ℕ) (events : List Event) → StandsFor reader intervals events
    → AreEvents reader.system (profile_of reader.tracker) intervals events)
    → Stands next profile header (intervals ++ x ∷ []) (written ++ lines r.header (event_list own))
more_printed r next profile header intervals written x own s same takes feeds prints law =
    let all = s.events ++ event_list own in
    let system = takes.system ∙ s.system in
    let keeps = takes.profile ∙ s.keeps in
    let reader = feeds.stands intervals s.events s.reader in
    record {
      says = same ∙ s.says;
      system = system;
      keeps = keeps;
      events = all;
      reader = reader;
      are_events = subst (λ (p : Profile). AreEvents header.system p (intervals ++ x ∷ []) all) keeps
          (subst (λ (y : System). AreEvents y (profile_of next.reader.tracker) (intervals ++ x ∷ []) all) system
          (law next.reader _ all reader));
      are = ap (λ (h : IntervalHeader). written ++ lines h (event_list own)) s.says
          ∙ lines_of_more header s.events (event_list own) written s.are;
      words = prints.words ∙ ap (λ (n : ℕ). n + count_by is_word (event_list own)) s.words
          ∙ sym (count_by-append is_word s.events (event_list own));
      refused = prints.refused ∙ ap (λ (n : ℕ). n + count_by is_refused (event_list own)) s.refused
          ∙ sym (count_by-append is_refused s.events (event_list own));
      lost = prints.lost ∙ ap (λ (n : ℕ). n + count_by is_lost (event_list own)) s.lost
          ∙ sym (count_by-append is_lost s.events (event_list own));
    }

-- the same numbers give the same line
pub same_line : (i w r l t i' w' r' l' t' : ℕ) → i ≡ i' → w ≡ w' → r ≡ r' → l ≡ l' → t ≡ t'
    → read_end_line i w r l t ≡ read_end_line i' w' r' l' t'
same_line i w r l t i' w' r' l' t' same_i same_w same_r same_l same_t =
    ap (λ (n : ℕ). read_end_line n w r l t) same_i ∙ ap (λ (n : ℕ). read_end_line i' n r l t) same_w
    ∙ ap (λ (n : ℕ). read_end_line i' w' n l t) same_r ∙ ap (λ (n : ℕ). read_end_line i' w' r' n t) same_l
    ∙ ap (λ (n : ℕ). read_end_line i' w' r' l' n) same_t

pub ends_with : (r : Report) (profile : Profile) (header : IntervalHeader) (intervals written line : List ℕ)
    → Stands r profile header intervals written
    → line ≡ read_end_line r.reader.intervals r.words r.refused r.lost r.reader.tick
    → IsReadWhole profile header intervals (written ++ line)
ends_with r profile header intervals written line s is = record {
  events = s.events;
  are_events = s.are_events;
  are = ap (λ (l : List ℕ). written ++ l)
      (is ∙ same_line _ _ _ _ _ _ _ _ _ _ s.reader.count s.words s.refused s.lost s.reader.sum_is)
      ∙ ap (λ (l : List ℕ). l ++ last_line intervals s.events) s.are;
}
