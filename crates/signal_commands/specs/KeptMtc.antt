-- What the engine of `mtc-read` keeps. No promise speaks of it.
use Rattle.std.specs.Prelude.{◌≡◌, ℕ, ◌+◌, ◌≤◌, Bool, cond, List, length, count_by}
use Rattle.std.proofs.Common.{sym, ◌∙◌, ap}
use Rattle.std.proofs.lemmas.Bool.{le-ltb}
use Rattle.std.proofs.lemmas.List.{take_all}
use Rattle.mtc_reader.specs.declared.event.MtcEvent.{MtcEvent}
use Rattle.mtc_reader.specs.declared.event.MtcEvent.TheVariants.{Full, Quarter, RefusedFull, RefusedQuarter}
use Rattle.mtc_reader.specs.Events.{events_in}
use Rattle.mtc_reader.specs.StandsFor as reads
use Rattle.signal_commands.specs.declared.mtc_read.MtcReport.{MtcReport}
use Rattle.signal_commands.specs.declared.mtc_read.TheConstants.{MAX_BYTES}
use Rattle.tc_io.specs.Verdict.{good, past_limit}
use Rattle.tc_command.specs.Meaning.{Meaning, Shows}
use Rattle.signal_commands.specs.MtcRead.{along_midi, event_lines, is_full, is_quarter, is_refused}

-- one event more of its kind
abbrev pub counted : MtcEvent → MtcReport → MtcReport
counted (Full label place) r = record r { full = r.full + 1 }
counted (Quarter direction label place) r = record r { quarter = r.quarter + 1 }
counted (RefusedFull fault place) r = record r { refused = r.refused + 1 }
counted (RefusedQuarter direction fault place) r = record r { refused = r.refused + 1 }

-- no more events were counted than bytes were taken
pub record FitsReport (r : MtcReport) : Type 0 where
  pub within : r.reader.bytes ≤ MAX_BYTES
  pub counts : r.full + r.quarter + r.refused ≤ r.reader.bytes

-- it was given these bytes, and wrote the lines of their events
pub record Stands (r : MtcReport) (bytes written : List ℕ) : Type 0 where
  pub within : length bytes ≤ MAX_BYTES
  pub reader : reads.StandsFor r.reader bytes
  pub are : written ≡ event_lines (events_in bytes)
  pub full : r.full ≡ count_by is_full (events_in bytes)
  pub quarter : r.quarter ≡ count_by is_quarter (events_in bytes)
  pub refused : r.refused ≡ count_by is_refused (events_in bytes)

-- what was written is the part of the bytes
pub stands_well : (r : MtcReport) (bytes written : List ℕ) → Stands r bytes written
    → Shows along_midi good bytes × Meaning.part along_midi bytes written
stands_well r bytes written stands = (
  record {
    is = ap (λ (b : Bool). cond b past_limit good) (le-ltb MAX_BYTES (length bytes) stands.within);
    unspent = λ spent. spent;
  },
  stands.are ∙ ap (λ (l : List ℕ). event_lines (events_in l)) (sym (take_all MAX_BYTES bytes stands.within)),
)
