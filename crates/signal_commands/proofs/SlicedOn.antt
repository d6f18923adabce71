-- A file of sliced sound grows by the intervals that more samples bring, and the ticks of all of them are few.
use Rattle.std.proofs.Common.{◌≡◌, ℕ, ◌+◌, ◌*◌, ◌^◌, ◌≤◌, ℤ, List, ◌++◌, length, Option, sym, ◌∙◌, ap, ap₂}
use Rattle.std.proofs.Common.{append_assoc, mul-add, mul-le-mul, subst, arith}
use Rattle.std.proofs.lemmas.List.FromFn.{length-map-range_with_len}
use Rattle.interval_file.specs.IntervalHeader.{header_bytes}
use Rattle.pcm_front.specs.declared.pace.Pace.{Pace}
use Rattle.pcm_front.specs.declared.slicer.Slicer.{Slicer}
use Rattle.pcm_front.specs.Pace.{IsPace}
use Rattle.pcm_front.specs.Settings.{Settings}
use Rattle.pcm_front.specs.StandsFor as pcm
use Rattle.pcm_front.specs.StandsFor.{settings_of, tick_of}
use Rattle.wave_file.specs.declared.format.WaveFormat.{WaveFormat}
use Rattle.signal_commands.specs.declared.sliced.Cut.{Cut}
use Rattle.signal_commands.specs.declared.sliced.SlicedSound.{SlicedSound}
use Rattle.signal_commands.specs.KeptSliced.{cut_header, spelled, AreDue, HearsCut}

-- each sample that was sliced has its ticks
tick_is : (slicer : Slicer) (samples : List ℤ) → pcm.StandsFor slicer samples
    → tick_of slicer ≡ (settings_of slicer).fineness * length samples
tick_is slicer samples stands =
    let finds = stands.finds in
    finds.tick ∙ ap (λ (n : ℕ). slicer.finder.fineness * n) (length-map-range_with_len _ 0 (length samples))

pub ticks_fit : (slicer : Slicer) (before : List ℤ) (more : ℕ) → pcm.StandsFor slicer before
    → (settings_of slicer).fineness ≤ 64 → length before + more ≤ 2 ^ 40
    → tick_of slicer + (settings_of slicer).fineness * more ≤ 2 ^ 62
ticks_fit slicer before more stands fine few =
    let fineness = (settings_of slicer).fineness in
    let both = mul-add fineness (length before) more in
    let all : fineness * (length before + more) ≤ 64 * 2 ^ 40 = mul-le-mul fine few in
    omega (arith, tick_is slicer before stands, both, all)

-- more samples were sliced
pub sliced_on : (s next : SlicedSound) (cut : Cut) (format : Option WaveFormat) (before samples : List ℤ)
    (written due : List ℕ) (hears : HearsCut s cut format before written) → next.pace ≡ s.pace
    → settings_of next.slicer ≡ settings_of s.slicer → pcm.StandsFor next.slicer (before ++ samples)
    → AreDue s.pace (settings_of s.slicer) before samples due
    → HearsCut next cut format (before ++ samples) (written ++ due)
sliced_on s next cut format before samples written due hears pace settings stands are =
    let header = header_bytes (cut_header cut format) in
    let now = before ++ samples in
    record {
      fits = hears.fits;
      settings = settings ∙ hears.settings;
      fine = omega (arith, ap (λ (how : Settings). how.fineness) settings, hears.fine);
      pace = pace ∙ hears.pace;
      is_pace = subst IsPace (sym pace) hears.is_pace;
      stands = stands;
      are = ap (λ (l : List ℕ). l ++ due) hears.are
          ∙ append_assoc header (spelled s.pace (settings_of s.slicer) before) due
          ∙ ap (λ (l : List ℕ). header ++ l) (sym are)
          ∙ ap₂ (λ (p : Pace) (how : Settings). header ++ spelled p how now) (sym pace) (sym settings);
    }
