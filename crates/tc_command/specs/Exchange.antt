-- What goes through a run: the bytes pulled and written, and the note.
use Rattle.std.specs.Prelude.{◌≡◌, ℕ, List, ◌++◌, Option, Some}
use Rattle.std.specs.Io.KnownBytes.{Appends, Consumes}
use Rattle.tc_io.specs.Source.{Rose}
use Rattle.tc_io.specs.Sink.{AppendsFront, IsFront}

-- what went through a run: the bytes pulled and what is left of the input, the bytes written, and the note
pub record Exchange : Type 0 where
  pub pulled : List ℕ
  pub left : Option (List ℕ)
  pub written : List ℕ
  pub note : List ℕ

-- the pulled bytes of the exchange came from a source, which has left what it says
pub record IsPulled (before now : Option (List ℕ)) (e : Exchange) : Type 0 where
  pub bytes : Consumes before now e.pulled
  pub left : now ≡ e.left

-- a front of the note was written, and all of it where no count of faults rose
pub record IsNoted (before now : Option (List ℕ)) (faults_before faults_now : ℕ) (e : Exchange) : Type 0 where
  pub front : AppendsFront before now e.note
  pub all : ¬ Rose faults_before faults_now → Appends before now e.note

-- what was written is a front of the output of the whole input, which is what was pulled and what is left
abbrev pub WritesAFront : (List ℕ → List ℕ → Type 0) → Exchange → Type 0
WritesAFront output e =
    (rest whole : List ℕ) → e.left ≡ Some rest → output (e.pulled ++ rest) whole → IsFront e.written whole
