-- What the engine of each command that reads sound keeps: a container, which makes samples of bytes, and a listener,
-- which makes intervals of samples. No promise speaks of it.
use Rattle.std.specs.Prelude.{◌≡◌, ℕ, ◌<◌, ◌≤◌, Bool, true, false, ℤ, List, [], ◌++◌, length}
use Rattle.std.specs.Prelude.{take, Option, Some, None}
use Rattle.tc_command.specs.declared.halt.Halt.{Halt}
use Rattle.tc_command.specs.declared.halt.Halt.TheVariants as halts
use Rattle.tc_command.specs.declared.inlet.TheConstants.{KEPT}
use Rattle.tc_command.specs.declared.input_fault.InputFault.{InputFault}
use Rattle.tc_command.specs.Meaning.{Meaning, Shows}
use Rattle.tc_io.specs.Verdict.{Verdict, good, refused, past_limit}
use Rattle.wave_file.specs.declared.format.WaveFormat.{WaveFormat}
use Rattle.signal_commands.specs.declared.brought.Brought.{Brought}
use Rattle.signal_commands.specs.declared.brought.Brought.TheVariants.{Samples, Begin, Few, Halt as Halts}

-- what bytes say of a sound: its format, where they tell it, and whether samples may come; the samples within the
-- limit, and all of them; and whether the bytes are good
pub record Said : Type 0 where
  pub format : Option WaveFormat
  pub begun : Bool
  pub samples : List ℤ
  pub all : List ℤ
  pub verdict : Verdict InputFault

-- a container: what is asked of it; what bytes say then, and the fault of their end; how many samples there are at
-- most, and in which formats; for which bytes it stands, which are too few to take any of them, and how many it still
-- takes at most
pub record ContainerKind (C A : Type 0) : Type 1 where
  pub asked : C → A
  pub says : A → List ℕ → Said
  pub ends : A → List ℕ → Option InputFault
  pub most : A → ℕ
  pub tells : A → WaveFormat → Type 0
  pub holds : C → List ℕ → Type 0
  pub short : C → List ℕ → Type 0
  pub left : C → ℕ

-- a listener: what is written of samples before their end and of all of them, by the words and the format that is told;
-- the formats that it fits, and how many samples it takes; and for which samples it stands, and what it wrote of them
pub record ListenerKind (F W : Type 0) : Type 1 where
  pub so_far : W → Option WaveFormat → List ℤ → List ℕ → Type 0
  pub whole : W → Option WaveFormat → List ℤ → List ℕ → Type 0
  pub fits : W → Option WaveFormat → Type 0
  pub most : ℕ
  pub hears : F → W → Option WaveFormat → List ℤ → List ℕ → Type 0

-- what a command takes and what it writes, by what is asked and by its words
abbrev pub along_sound : {C A F W : Type 0} → ContainerKind C A → ListenerKind F W → A × W → Meaning
along_sound held heard choice = record {
  reads = true;
  verdict = λ bytes. (held.says choice.0 bytes).verdict;
  end_fault = λ bytes. held.ends choice.0 bytes;
  spent = λ bytes. ⊥;
  part = λ bytes written. let s = held.says choice.0 bytes in heard.so_far choice.1 s.format s.samples written;
  output = λ bytes written. let s = held.says choice.0 bytes in heard.whole choice.1 s.format s.all written;
}

-- ---- what a container brings

-- so many of the bytes were taken
pub record Takes {C A : Type 0} (held : ContainerKind C A) (old new : C) (bytes : List ℕ) (count : ℕ) : Type 0 where
  pub some : 1 ≤ count
  pub within : count ≤ length bytes
  pub asked : held.asked new ≡ held.asked old
  pub left : held.left new < held.left old
  pub holds : (front : List ℕ) → held.holds old front → held.holds new (front ++ take count bytes)

-- they bring these samples; none come before the format
pub record Adds (most : ℕ) (before now : Said) (more : List ℤ) : Type 0 where
  pub format : now.format ≡ before.format
  pub begun : now.begun ≡ before.begun
  pub samples : now.samples ≡ before.samples ++ more
  pub none : before.begun ≡ false → more ≡ []
  pub few : length now.samples ≤ most

-- or the format
pub record Begins (before now : Said) (is : WaveFormat) : Type 0 where
  pub waited : before.begun ≡ false
  pub begun : now.begun ≡ true
  pub format : now.format ≡ Some is
  pub samples : now.samples ≡ before.samples

-- what bytes show where the work halts
abbrev pub shown : Halt → Verdict InputFault
shown (halts.Refused fault) = refused fault
shown halts.Limit = past_limit

-- or they end it, behind the samples before them
pub record Ends (before now : Said) (halt : Halt) : Type 0 where
  pub format : now.format ≡ before.format
  pub samples : now.samples ≡ before.samples
  pub verdict : now.verdict ≡ shown halt

-- what is said of the bytes so far and of those with more of them
abbrev pub From : {C A : Type 0} → ContainerKind C A → C → List ℕ → (Said → Said → Type 0) → Type 0
From held old more says = (front : List ℕ) → held.holds old front
    → says (held.says (held.asked old) front) (held.says (held.asked old) (front ++ more))

-- none of the bytes were taken: they are too few, and say nothing more yet
pub record IsFew {C A : Type 0} (held : ContainerKind C A) (container : C) (bytes : List ℕ) : Type 0 where
  pub few : length bytes < KEPT
  pub short : held.short container bytes
  pub none : From held container bytes (λ before now. now ≡ before)

abbrev pub IsBrought : {C A : Type 0} → ContainerKind C A → C → C → List ℕ → List ℤ → Brought → Type 0
IsBrought held old new bytes room (Samples count samples) =
    Takes held old new bytes count × (samples ≤ 2_048)
    × From held old (take count bytes) (λ before now. Adds (held.most (held.asked old)) before now (take samples room))
IsBrought held old new bytes room (Begin count format) =
    Takes held old new bytes count × held.tells (held.asked old) format
    × From held old (take count bytes) (λ before now. Begins before now format)
IsBrought held old new bytes room Few = (new ≡ old) × IsFew held old bytes
IsBrought held old new bytes room (Halts halt) =
    (held.asked new ≡ held.asked old) × From held old bytes (λ before now. Ends before now halt)

-- ---- a listener, or none before the samples begin

-- nothing is said, and nothing is written of that
pub record Waits {F W : Type 0} (heard : ListenerKind F W) (words : W) (said : Said) (written : List ℕ) : Type 0 where
  pub waits : said.begun ≡ false
  pub format : said.format ≡ None
  pub samples : said.samples ≡ []
  pub are : written ≡ []
  pub so_far : heard.so_far words None [] []
  pub whole : heard.whole words None [] []

-- the listener was given the samples
pub record Hears {F W : Type 0} (heard : ListenerKind F W) (words : W) (listener : F) (said : Said)
    (written : List ℕ) : Type 0 where
  pub begun : said.begun ≡ true
  pub hears : heard.hears listener words said.format said.samples written

abbrev pub HearsIfAny : {F W : Type 0} → ListenerKind F W → W → Option F → Said → List ℕ → Type 0
HearsIfAny heard words None said written = Waits heard words said written
HearsIfAny heard words (Some listener) said written = Hears heard words listener said written

-- ---- the engine

-- it was given these bytes, and its listener their samples
pub record Stands {C A F W : Type 0} (held : ContainerKind C A) (heard : ListenerKind F W) (container : C)
    (listener : Option F) (words : W) (bytes written : List ℕ) : Type 0 where
  pub holds : held.holds container bytes
  pub hears : HearsIfAny heard words listener (held.says (held.asked container) bytes) written

-- the listener takes as many samples as the container gives, in each of its formats
pub record Suits {C A F W : Type 0} (held : ContainerKind C A) (heard : ListenerKind F W) (asked : A) (words : W)
    : Type 0 where
  pub most : held.most asked ≤ heard.most
  pub fits : (format : WaveFormat) → held.tells asked format → heard.fits words (Some format)

-- and there are bytes for which it stands
pub record IsGoing {C A F W : Type 0} (held : ContainerKind C A) (heard : ListenerKind F W) (container : C)
    (listener : Option F) (words : W) : Type 0 where
  pub suits : Suits held heard (held.asked container) words
  pub bytes : List ℕ
  pub written : List ℕ
  pub stands : Stands held heard container listener words bytes written

-- what a listener writes is what the samples bring so far
abbrev pub HearsWell : {F W : Type 0} → ListenerKind F W → Type 0
HearsWell {F = F} {W = W} heard = (listener : F) (words : W) (format : Option WaveFormat) (samples : List ℤ)
    (written : List ℕ) → heard.hears listener words format samples written → heard.so_far words format samples written

-- so it is of one that may not have begun
pub so_far_is : {F W : Type 0} (heard : ListenerKind F W) → HearsWell heard → (words : W) (listener : Option F)
    (said : Said) (written : List ℕ) → HearsIfAny heard words listener said written
    → heard.so_far words said.format said.samples written
so_far_is heard well words None said written waits =
    rw (waits.format, waits.samples, waits.are) waits.so_far
so_far_is heard well words (Some listener) said written hears =
    well listener words said.format said.samples written hears.hears

pub stands_well : {C A F W : Type 0} (held : ContainerKind C A) (heard : ListenerKind F W)
    → ((container : C) (bytes : List ℕ) → held.holds container bytes
    → (held.says (held.asked container) bytes).verdict ≡ good)
    → HearsWell heard → (container : C) (listener : Option F) (words : W) (bytes written : List ℕ)
    → Stands held heard container listener words bytes written
    → Shows (along_sound held heard (held.asked container, words)) good bytes
    × Meaning.part (along_sound held heard (held.asked container, words)) bytes written
stands_well held heard is_good well container listener words bytes written stands = (
  record { is = is_good container bytes stands.holds; unspent = λ spent. spent },
  so_far_is heard well words listener (held.says (held.asked container) bytes) written stands.hears,
)
