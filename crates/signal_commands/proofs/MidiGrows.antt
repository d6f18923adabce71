-- The lines of MIDI bytes grow by the line of the event that a byte gives, and the last line counts all of them.
use Rattle.std.proofs.Common.{◌≡◌, ℕ, ◌+◌, ◌≤◌, List, [], ◌∷◌, ◌++◌, count_by, Bool, cond, sym, ◌∙◌}
use Rattle.std.proofs.Common.{ap, arith}
use Rattle.std.proofs.lemmas.Grind.{flat_map-append}
use Rattle.std.proofs.lemmas.List.Sums.{sum_by-cons}
use Rattle.lemmas.specs.Lists.{count_by-append}
use Rattle.mtc_reader.specs.declared.event.MtcEvent.{MtcEvent}
use Rattle.mtc_reader.specs.declared.event.MtcEvent.TheVariants.{Full, Quarter, RefusedFull, RefusedQuarter}
use Rattle.mtc_reader.specs.Events.{events_in}
use Rattle.mtc_reader.specs.StandsFor as reads
use Rattle.mtc_reader.specs.Texts.{event_line, end_line}
use Rattle.signal_commands.specs.declared.mtc_read.MtcReport.{MtcReport}
use Rattle.signal_commands.specs.declared.mtc_read.TheConstants.{MAX_BYTES}
use Rattle.signal_commands.specs.KeptMtc.{counted, Stands}
use Rattle.signal_commands.specs.MtcRead.{event_lines, is_full, is_quarter, is_refused, last_mtc_line}

-- ---- counts

-- each of these events was counted
pub record Counts (before after : MtcReport) (more : List MtcEvent) : Type 0 where
  pub full : after.full ≡ before.full + count_by is_full more
  pub quarter : after.quarter ≡ before.quarter + count_by is_quarter more
  pub refused : after.refused ≡ before.refused + count_by is_refused more

one_of : (kind : MtcEvent → Bool) (event : MtcEvent) → count_by kind (event ∷ []) ≡ cond (kind event) 1 0
one_of kind event = omega (arith, sum_by-cons (λ (e : MtcEvent). cond (kind e) 1 0) event [])

pub one_counted : (before mid after : MtcReport) (event : MtcEvent) → mid.full ≡ before.full
    → mid.quarter ≡ before.quarter → mid.refused ≡ before.refused
    → after ≡ counted event mid → Counts before after (event ∷ [])
one_counted before mid after (Full l p) f q r e =
    rw e (record {
      full = omega (arith, f, one_of is_full (Full l p));
      quarter = omega (arith, q, one_of is_quarter (Full l p));
      refused = omega (arith, r, one_of is_refused (Full l p));
    })
one_counted before mid after (Quarter d l p) f q r e =
    rw e (record {
      full = omega (arith, f, one_of is_full (Quarter d l p));
      quarter = omega (arith, q, one_of is_quarter (Quarter d l p));
      refused = omega (arith, r, one_of is_refused (Quarter d l p));
    })
one_counted before mid after (RefusedFull l p) f q r e =
    rw e (record {
      full = omega (arith, f, one_of is_full (RefusedFull l p));
      quarter = omega (arith, q, one_of is_quarter (RefusedFull l p));
      refused = omega (arith, r, one_of is_refused (RefusedFull l p));
    })
one_counted before mid after (RefusedQuarter d l p) f q r e =
    rw e (record {
      full = omega (arith, f, one_of is_full (RefusedQuarter d l p));
      quarter = omega (arith, q, one_of is_quarter (RefusedQuarter d l p));
      refused = omega (arith, r, one_of is_refused (RefusedQuarter d l p));
    })

pub none_counted : (before after : MtcReport) → after.full ≡ before.full → after.quarter ≡ before.quarter
    → after.refused ≡ before.refused
    → Counts before after []
none_counted before after f q r =
    record { full = omega (arith, f); quarter = omega (arith, q); refused = omega (arith, r) }

both : (kind : MtcEvent → Bool) (a b : ℕ) (first more all : List MtcEvent) → all ≡ first ++ more
    → a ≡ count_by kind first → b ≡ a + count_by kind more
    → b ≡ count_by kind all
both kind a b first more all is before after =
    after ∙ ap (λ (n : ℕ). n + count_by kind more) before
    ∙ sym (ap (λ (es : List MtcEvent). count_by kind es) is ∙ count_by-append kind first more)

-- ---- lines

-- the lines of the bytes with more
lines_now : (front written bytes : List ℕ) (events : List MtcEvent) → written ≡ event_lines (events_in front)
    → events_in (front ++ bytes) ≡ events_in front ++ events
    → written ++ event_lines events ≡ event_lines (events_in (front ++ bytes))
lines_now front written bytes events is grows =
    ap (λ (l : List ℕ). l ++ event_lines events) is
    ∙ sym (ap event_lines grows ∙ flat_map-append event_line (events_in front) events)

-- more bytes
pub grown : (r next : MtcReport) (front written bytes : List ℕ) (events : List MtcEvent) → Stands r front written
    → next.reader.bytes ≤ MAX_BYTES
    → reads.StandsFor next.reader (front ++ bytes) → events_in (front ++ bytes) ≡ events_in front ++ events
    → Counts r next events
    → Stands next (front ++ bytes) (written ++ event_lines events)
grown r next front written bytes events s within reader grows counts = record {
  within = omega (arith, within, reader.count);
  reader = reader;
  are = lines_now front written bytes events s.are grows;
  full = both is_full r.full next.full (events_in front) events (events_in (front ++ bytes)) grows s.full counts.full;
  quarter = both is_quarter r.quarter next.quarter (events_in front) events (events_in (front ++ bytes)) grows s.quarter
      counts.quarter;
  refused = both is_refused r.refused next.refused (events_in front) events (events_in (front ++ bytes)) grows s.refused
      counts.refused;
}

-- ---- the last line

same_line : (b f q r b' f' q' r' : ℕ) → b ≡ b' → f ≡ f' → q ≡ q' → r ≡ r' → end_line b f q r ≡ end_line b' f' q' r'
same_line b f q r b' f' q' r' same_b same_f same_q same_r =
    ap (λ (n : ℕ). end_line n f q r) same_b ∙ ap (λ (n : ℕ). end_line b' n q r) same_f
    ∙ ap (λ (n : ℕ). end_line b' f' n r) same_q
    ∙ ap (λ (n : ℕ). end_line b' f' q' n) same_r

pub last_line_is : (r : MtcReport) (bytes written line : List ℕ) → Stands r bytes written
    → line ≡ end_line r.reader.bytes r.full r.quarter r.refused
    → line ≡ last_mtc_line bytes (events_in bytes)
last_line_is r bytes written line s is = is ∙ same_line _ _ _ _ _ _ _ _ s.reader.count s.full s.quarter s.refused
