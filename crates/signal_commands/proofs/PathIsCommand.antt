-- What `pcm-ltc .. path` writes of some bytes comes first, whatever bytes follow, so it is a command as any other.
use Rattle.std.proofs.Common.{◌≡◌, ℕ, ℤ, List, ◌++◌, take, drop, reverse, refl, sym, ◌∙◌, ap, subst, append_assoc}
use Rattle.std.proofs.lemmas.Bool.{false≢true}
use Rattle.std.proofs.lemmas.List.{reverse-append, take-append-drop}
use Rattle.interval_file.specs.FileLemmas.{file_first}
use Rattle.interval_file.specs.Grammar.{file_of}
use Rattle.lemmas.specs.Lists.{first_items}
use Rattle.step_grid.specs.declared.grid.Grid.{Grid}
use Rattle.path_front.specs.Front.{AreIntervals, AreIntervalsSoFar}
use Rattle.pcm_front.specs.Samples.{samples_of}
use Rattle.tc_command.specs.Command.{IsCommand}
use Rattle.tc_io.specs.Sink.{IsFront}
use Rattle.tc_job.specs.PathSlicing.{SlicesPath}
use Rattle.signal_commands.specs.declared.pcm_ltc.TheConstants.{MAX_SAMPLES}
use Rattle.signal_commands.specs.PcmPath.{along_path, path_header, IsPathFile, IsPathFileSoFar}
use Rattle.signal_commands.proofs.AreCommands.{samples_first}
use Rattle.signal_commands.proofs.SamplesWithin.{never_refused, past_within}

-- what is known of the intervals of a path
pub record PathLaws : Type 0 where
  pub once : (grid : Grid) (ticks least : ℕ) (samples : List ℤ) (intervals others : List ℕ)
      → AreIntervalsSoFar grid ticks least samples intervals → AreIntervalsSoFar grid ticks least samples others
      → intervals ≡ others
  pub first : (grid : Grid) (ticks least : ℕ) (more samples : List ℤ) (intervals longer : List ℕ)
      → AreIntervalsSoFar grid ticks least samples intervals
      → AreIntervalsSoFar grid ticks least (more ++ samples) longer → (rest : List ℕ) × (longer ≡ intervals ++ rest)
  pub in_all : (grid : Grid) (ticks least : ℕ) (more samples : List ℤ) (intervals whole : List ℕ)
      → AreIntervalsSoFar grid ticks least samples intervals → AreIntervals grid ticks least (more ++ samples) whole
      → (rest : List ℕ) × (whole ≡ intervals ++ rest)
  pub some : (grid : Grid) (ticks least : ℕ) (samples : List ℤ)
      → (intervals : List ℕ) × AreIntervalsSoFar grid ticks least samples intervals
  pub whole : (grid : Grid) (ticks least : ℕ) (samples : List ℤ)
      → (intervals : List ℕ) × AreIntervals grid ticks least samples intervals
  pub one : (grid : Grid) (ticks least : ℕ) (samples : List ℤ) (intervals others : List ℕ)
      → AreIntervals grid ticks least samples intervals → AreIntervals grid ticks least samples others
      → intervals ≡ others

-- samples in their order, the latest first
turned : (front more : List ℤ) → reverse (front ++ more) ≡ reverse more ++ reverse front
turned front more = reverse-append front more

files_grow : (p : SlicesPath) (intervals rest : List ℕ) (a b : List ℕ) → a ≡ file_of (path_header p) intervals
    → b ≡ file_of (path_header p) (intervals ++ rest) → IsFront a b
files_grow p intervals rest a b one all =
    let file = file_first (path_header p) intervals rest in
    (file.0, all ∙ file.1 ∙ ap (λ l. l ++ file.0) (sym one))

pub so_far_grows : PathLaws → (p : SlicesPath) (front more : List ℤ) (a b : List ℕ) → IsPathFileSoFar p front a
    → IsPathFileSoFar p (front ++ more) b → IsFront a b
so_far_grows laws p front more a b one all =
    let rest = laws.first p.grid p.ticks p.least (reverse more) (reverse front) one.intervals all.intervals one.are
    (subst (λ s. AreIntervalsSoFar p.grid p.ticks p.least s all.intervals) (turned front more) all.are) in
    files_grow p one.intervals rest.0 a b one.file (all.file ∙ ap (file_of (path_header p)) rest.1)

pub whole_grows : PathLaws → (p : SlicesPath) (front more : List ℤ) (a b : List ℕ) → IsPathFileSoFar p front a
    → IsPathFile p (front ++ more) b → IsFront a b
whole_grows laws p front more a b one all =
    let rest = laws.in_all p.grid p.ticks p.least (reverse more) (reverse front) one.intervals all.intervals one.are
    (subst (λ s. AreIntervals p.grid p.ticks p.least s all.intervals) (turned front more) all.are) in
    files_grow p one.intervals rest.0 a b one.file (all.file ∙ ap (file_of (path_header p)) rest.1)

-- there is such a file, and one
pub path_so_far : PathLaws → (p : SlicesPath) (samples : List ℤ) → (written : List ℕ)
    × IsPathFileSoFar p samples written
path_so_far laws p samples =
    let some = laws.some p.grid p.ticks p.least (reverse samples) in
    (file_of (path_header p) some.0, record { intervals = some.0; are = some.1; file = refl })

pub path_file : PathLaws → (p : SlicesPath) (samples : List ℤ) → (written : List ℕ) × IsPathFile p samples written
path_file laws p samples =
    let whole = laws.whole p.grid p.ticks p.least (reverse samples) in
    (file_of (path_header p) whole.0, record { intervals = whole.0; are = whole.1; file = refl })

pub file_once : PathLaws → (p : SlicesPath) (samples : List ℤ) (a b : List ℕ) → IsPathFileSoFar p samples a
    → IsPathFileSoFar p samples b → a ≡ b
file_once laws p samples a b one all =
    one.file ∙ ap (file_of (path_header p)) (laws.once p.grid p.ticks p.least (reverse samples) one.intervals
    all.intervals one.are all.are) ∙ sym all.file

pub whole_once : PathLaws → (p : SlicesPath) (samples : List ℤ) (a b : List ℕ) → IsPathFile p samples a
    → IsPathFile p samples b → a ≡ b
whole_once laws p samples a b one all =
    one.file ∙ ap (file_of (path_header p)) (laws.one p.grid p.ticks p.least (reverse samples) one.intervals
    all.intervals one.are all.are) ∙ sym all.file

pub path_is_command : PathLaws → (p : SlicesPath) → IsCommand (along_path p)
path_is_command laws p = record {
  first = record {
    part = λ front more a b one all.
        let samples = samples_first front more in
        let within = first_items MAX_SAMPLES (samples_of front) samples.0 in
        so_far_grows laws p (take MAX_SAMPLES (samples_of front)) within.0 a b one
        (subst (λ s. IsPathFileSoFar p s b) (ap (take MAX_SAMPLES) samples.1 ∙ within.1) all);
    output = λ front more a b one all.
        let samples = samples_first front more in
        let first = take MAX_SAMPLES (samples_of front) in
        let behind = drop MAX_SAMPLES (samples_of front) ++ samples.0 in
        let joined : samples_of (front ++ more) ≡ first ++ behind =
        samples.1 ∙ ap (λ l. l ++ samples.0) (sym (take-append-drop MAX_SAMPLES (samples_of front)))
        ∙ append_assoc first (drop MAX_SAMPLES (samples_of front)) samples.0 in
        whole_grows laws p first behind a b one (subst (λ s. IsPathFile p s b) joined all);
    stays = λ front more spent. spent;
    limit = λ front more a b spent one all. absurd spent;
  };
  some_part = λ bytes. path_so_far laws p (take MAX_SAMPLES (samples_of bytes));
  some_output = λ input is. path_file laws p (samples_of input);
  one_part = λ bytes a b one all. file_once laws p (take MAX_SAMPLES (samples_of bytes)) a b one all;
  one_output = λ input a b one all. whole_once laws p (samples_of input) a b one all;
  fault = λ front rest f e. absurd (never_refused MAX_SAMPLES front f e);
  limit = λ front rest e. past_within MAX_SAMPLES front rest e;
  fault_unspent = λ front rest f e spent. spent;
  limit_unspent = λ front rest e spent. spent;
  ends = λ bytes f e. refl;
  idle = λ e all. absurd (false≢true (sym e));
  idle_part = λ e bytes a b one all. absurd (false≢true (sym e));
  idle_output = λ e bytes a b one all. absurd (false≢true (sym e));
}
