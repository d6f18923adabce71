-- What was sent grows by what the frames of an interval bring, and what comes last comes after all of them.
use Rattle.std.proofs.Common.{◌≡◌, ℕ, ◌+◌, ◌≤◌, List, [], ◌∷◌, ◌++◌, count_by, sym, ◌∙◌, ap, subst, arith}
use Rattle.std.proofs.Common.{append_assoc, append-nil, length-append}
use Rattle.std.specs.Prelude.{sum}
use Rattle.lemmas.specs.Lists.{count_by-append}
use Rattle.std.proofs.lemmas.List.Sums.{sum_by-append}
use Rattle.std.proofs.lemmas.Grind.{flat_map-append}
use Rattle.biphase.specs.declared.profile.Profile.{Profile}
use Rattle.tc_address.specs.declared.system.System.{System}
use Rattle.direction_reader.specs.declared.event.Event.{Event}
use Rattle.flywheel.specs.declared.frame.Frame.{Frame}
use Rattle.flywheel.specs.declared.heard.HeardWord.{HeardWord}
use Rattle.flywheel.specs.Frames.{frames}
use Rattle.flywheel.specs.Kinds.{is_gone, is_heard, is_invented}
use Rattle.flywheel.specs.StandsFor as flies
use Rattle.flywheel.specs.Wheel.{Wheel}
use Rattle.interval_file.specs.declared.header.IntervalHeader.{IntervalHeader}
use Rattle.tc_job.specs.declared.flight.Flight.{Flight}
use Rattle.tc_job.specs.declared.witness.Witness.{Witness}
use Rattle.frame_commands.specs.declared.frames.Frames.{Frames}
use Rattle.frame_commands.specs.Heard.{AreHeard, AreHeardYet}
use Rattle.frame_commands.specs.Hearing.{Hearer, HearsOn, due_at}
use Rattle.frame_commands.specs.KeptFlight.{Counts, CountsAll, GivesAll, GivesDue, Sends}
use Rattle.frame_commands.specs.KeptFlight.{Stands}
use Rattle.frame_commands.specs.OfFrames.{FrameText, IsFlightWhole, frames_of, heard_in}
use Rattle.frame_commands.specs.OfFrames.{words_heard}
use Rattle.frame_commands.proofs.FramesInOrder.{Given}

-- what a reader has given are the events that are heard yet
abbrev pub TheHeard : Witness → Hearer → Type 0
TheHeard witness h = (intervals : List ℕ) (events : List Event) → h.stands intervals events
    → AreHeardYet witness h.system h.profile intervals events h.until

-- the reader took an interval, and these are its events
abbrev pub Reads : Hearer → Hearer → ℕ → List Event → Type 0
Reads before now x own = (intervals : List ℕ) (events : List Event) → before.stands intervals events
    → now.stands (intervals ++ x ∷ []) (events ++ own)

-- an interval after which no word comes
pub due_alone : (a b : Wheel) (tick : ℕ) (due : List Frame) → GivesDue a b tick due → GivesAll a b tick [] due
due_alone a b tick due gives = λ words earlier given stands before.
    subst (λ (ws : List HeardWord). flies.HasGivenAll b ws tick (given ++ due)) (sym (append-nil words))
    (gives words earlier given stands before)

-- the events of the intervals with one more
events_now : (witness : Witness) (system : System) (profile : Profile) (before now : Hearer) (intervals : List ℕ)
    (events : List Event) (x : ℕ) (own : List Event) → before.system ≡ system → before.profile ≡ profile
    → before.stands intervals events → HearsOn before x now → Reads before now x own → TheHeard witness now
    → AreHeardYet witness system profile (intervals ++ x ∷ []) (events ++ own) now.until
events_now witness system profile before now intervals events x own same keeps stands takes grows law =
    let all = intervals ++ x ∷ [] in
    let es = events ++ own in
    subst (λ (p : Profile). AreHeardYet witness system p all es now.until) (takes.profile_is ∙ keeps)
    (subst (λ (y : System). AreHeardYet witness y now.profile all es now.until) (takes.system_is ∙ same)
    (law all es (grows intervals events stands)))

-- their words
words_now : (events own : List Event) → words_heard (events ++ own) ≡ words_heard events ++ words_heard own
words_now events own = flat_map-append heard_in events own

sum_of_one : (intervals : List ℕ) (x : ℕ) → sum (intervals ++ x ∷ []) ≡ sum intervals + x
sum_of_one intervals x = omega (arith, sum_by-append (λ (n : ℕ). n) intervals (x ∷ []))

-- one interval more
pub flown : {S C O : Type 0} (witness : Witness) (flight : C → Flight) (made : C → FrameText) (has : Given S C)
    (given : O → O → List ℕ → Type 0) (h now : Hearer) (f next : Frames) (sink after : S) (choice : C) (header : IntervalHeader)
    (intervals written : List ℕ) (x : ℕ) (own : List Event) (words : List HeardWord) (more : List Frame)
    (old new : O)
    → Stands witness flight made has h f sink choice header intervals written → HearsOn h x now
    → Reads h now x own → TheHeard witness now → words ≡ words_heard own → h.until ≤ due_at words now.until
    → next.wheel.limit ≡ f.wheel.limit → GivesAll f.wheel next.wheel now.until words more → Counts f next more
    → Sends made has given sink after old new more
    → (bytes : List ℕ) × given old new bytes
    × Stands witness flight made has now next after choice header (intervals ++ x ∷ []) (written ++ bytes)
flown witness flight made has given h now f next sink after choice header intervals written x own words more old new s takes
    grows law is before same gives counts sends =
    let all_given = gives (words_heard s.events) h.until s.given s.wheel.0 before in
    let all = ap (λ (ws : List HeardWord). words_heard s.events ++ ws) is ∙ sym (words_now s.events own) in
    let sent = sends choice header s.given s.sent in
    let count = s.count in
    let ticks = s.ticks in
    let one = takes.count in
    let tick = takes.tick in (
      sent.1.0,
      sent.1.2,
      record {
        system = takes.system_is ∙ s.system;
        keeps = takes.profile_is ∙ s.keeps;
        count = omega (arith, count, one, length-append intervals (x ∷ []));
        ticks = omega (arith, ticks, tick, sum_of_one intervals x);
        limit_is = same ∙ s.limit_is;
        events = s.events ++ own;
        reader = grows intervals s.events s.reader;
        are_events = events_now witness header.system (flight choice).profile h now intervals s.events x own s.system
            s.keeps s.reader takes grows law;
        given = s.given ++ more;
        wheel = subst (λ (ws : List HeardWord). flies.HasGivenAll next.wheel ws now.until (s.given ++ more)) all all_given;
        sent = sent.0;
        are = ap (λ (l : List ℕ). l ++ sent.1.0) s.are ∙ sym sent.1.1;
        heard = counts.heard ∙ ap (λ (n : ℕ). n + count_by is_heard more) s.heard
            ∙ sym (count_by-append is_heard s.given more);
        invented = counts.invented ∙ ap (λ (n : ℕ). n + count_by is_invented more) s.invented
            ∙ sym (count_by-append is_invented s.given more);
        gone = counts.gone ∙ ap (λ (n : ℕ). n + count_by is_gone more) s.gone
            ∙ sym (count_by-append is_gone s.given more);
      },
    )

-- ---- the end

-- the events that are given at the end
abbrev pub Ends : Witness → Hearer → List Event → Type 0
Ends witness h own = (intervals : List ℕ) (events : List Event) → h.stands intervals events
    → AreHeard witness h.system h.profile intervals (events ++ own)

heard_all : {S C : Type 0} (witness : Witness) (flight : C → Flight) (made : C → FrameText) (has : Given S C)
    (h : Hearer) (f : Frames) (sink : S) (choice : C) (header : IntervalHeader) (intervals written : List ℕ)
    (own : List Event) → (s : Stands witness flight made has h f sink choice header intervals written)
    → Ends witness h own → AreHeard witness header.system (flight choice).profile intervals (s.events ++ own)
heard_all witness flight made has h f sink choice header intervals written own s ends =
    let all = s.events ++ own in
    subst (λ (p : Profile). AreHeard witness header.system p intervals all) s.keeps
    (subst (λ (y : System). AreHeard witness y h.profile intervals all) s.system (ends intervals s.events s.reader))

-- what was counted and sent by then
pub record EndsWell {S C O : Type 0} (witness : Witness) (flight : C → Flight) (made : C → FrameText)
    (has : Given S C) (given : O → O → List ℕ → Type 0) (h : Hearer) (f next : Frames) (after : S) (choice : C) (header : IntervalHeader)
    (intervals written : List ℕ) (old new : O) : Type 0 where
  pub frames_given : List Frame
  pub has_all : has after choice header frames_given
  pub counts : CountsAll next h.count h.tick intervals frames_given
  pub bytes : List ℕ
  pub sent : given old new bytes
  pub whole : IsFlightWhole witness (flight choice) (made choice) header intervals
      (written ++ (bytes ++ (made choice).last header intervals frames_given))

pub flown_end : {S C O : Type 0} (witness : Witness) (flight : C → Flight) (made : C → FrameText) (has : Given S C)
    (given : O → O → List ℕ → Type 0) (h : Hearer) (f next : Frames) (sink after : S) (choice : C) (header : IntervalHeader)
    (intervals written : List ℕ) (own : List Event) (words : List HeardWord) (more : List Frame)
    (old new : O)
    → Stands witness flight made has h f sink choice header intervals written → Ends witness h own
    → words ≡ words_heard own → h.until ≤ due_at words h.tick
    → next.wheel.limit ≡ f.wheel.limit → GivesAll f.wheel next.wheel h.tick words more → Counts f next more
    → Sends made has given sink after old new more
    → EndsWell witness flight made has given h f next after choice header intervals written old new
flown_end witness flight made has given h f next sink after choice header intervals written own words more old new s ends is
    before same gives counts sends =
    let all_given = gives (words_heard s.events) h.until s.given s.wheel.0 before in
    let sent = sends choice header s.given s.sent in
    let text = (made choice).text header in
    let last = (made choice).last header intervals in
    let limit = (flight choice).limit in
    let all : s.given ++ more ≡ frames_of limit intervals (s.events ++ own) =
    sym all_given.1 ∙ ap (λ (n : ℕ). frames n (words_heard s.events ++ words) h.tick) (same ∙ s.limit_is)
    ∙ ap (λ (ws : List HeardWord). frames limit ws h.tick)
    (ap (λ (ws : List HeardWord). words_heard s.events ++ ws) is ∙ sym (words_now s.events own))
    ∙ ap (λ (t : ℕ). frames limit (words_heard (s.events ++ own)) t) s.ticks in
    record {
      frames_given = s.given ++ more;
      has_all = sent.0;
      counts = record {
        intervals_are = s.count;
        ticks_are = s.ticks;
        heard = counts.heard ∙ ap (λ (n : ℕ). n + count_by is_heard more) s.heard
            ∙ sym (count_by-append is_heard s.given more);
        invented = counts.invented ∙ ap (λ (n : ℕ). n + count_by is_invented more) s.invented
            ∙ sym (count_by-append is_invented s.given more);
        gone = counts.gone ∙ ap (λ (n : ℕ). n + count_by is_gone more) s.gone
            ∙ sym (count_by-append is_gone s.given more);
      };
      bytes = sent.1.0;
      sent = sent.1.2;
      whole = record {
        events = s.events ++ own;
        are_events = heard_all witness flight made has h f sink choice header intervals written own s ends;
        are = sym (append_assoc written sent.1.0 (last (s.given ++ more)))
            ∙ ap (λ (l : List ℕ). l ++ last (s.given ++ more)) (ap (λ (l : List ℕ). l ++ sent.1.0) s.are ∙ sym sent.1.1)
            ∙ ap (λ (fs : List Frame). text fs ++ last fs) all;
      };
    }
