-- What the answer of a field says of its lines: whose word's line each of them is. This project's own.
use Rattle.std.specs.Prelude.{◌≡◌, ◌≢◌, ◌⊎◌, ℕ, ◌^◌, ◌<◌, ◌≤◌, true, List, [], ◌∷◌, ◌++◌, Err}
use Rattle.std.specs.List.{AllByRecursion}
use Rattle.tc_address.specs.declared.system.System.{System}
use Rattle.tc_address.specs.Count.{system_with}
use Rattle.tc_bits.specs.Fields.{IsFields}
use Rattle.vitc_line.specs.declared.word.VitcWord.{VitcWord}
use Rattle.vitc_line.specs.Spelled.{line_of}
use Rattle.vitc_reader.specs.declared.fault.ReadFault.{ReadFault}
use Rattle.vitc_reader.specs.declared.field.FieldAnswer.{FieldAnswer}
use Rattle.vitc_reader.specs.declared.field.FieldAnswer.TheVariants.{NoLine, Agreed, Conflict, Nothing}
use Rattle.vitc_reader.specs.Field.{IsSaid}
use Rattle.vitc_reader.specs.Runs.{AreCells, bits_of, total}

-- a word of the system: a label with its flags, and 32 user bits
pub record IsWord (system : System) (word : VitcWord) : Type 0 where
  pub fields : IsFields word.fields
  pub user : word.fields.user < 2 ^ 32
  pub count : system_with word.fields.label.count ≡ system

-- on a line of n ticks the runs are, each to a quarter of a cell, those of the line of the word
pub record IsLineOf (system : System) (n : ℕ) (word : VitcWord) (runs : List ℕ) : Type 0 where
  pub word_is : IsWord system word
  pub cells : List ℕ
  pub near : AreCells n runs cells
  pub within : total cells ≤ 90
  pub line : bits_of true cells ≡ line_of word

-- the line is at fault: it has a first fault
abbrev pub IsAtFault : System → ℕ → List ℕ → Type 0
IsAtFault system n runs = (fault : ReadFault) × IsSaid system n runs (Err fault)

-- it is a line of the word, or at fault
abbrev pub IsLineOfOrAtFault : System → ℕ → VitcWord → List ℕ → Type 0
IsLineOfOrAtFault system n word runs = IsLineOf system n word runs ⊎ IsAtFault system n runs

-- some line is one of the word, and every other line is so or is at fault
pub record AgreeOn (system : System) (n : ℕ) (word : VitcWord) (lines : List (List ℕ)) : Type 0 where
  pub before : List (List ℕ)
  pub line : List ℕ
  pub after : List (List ℕ)
  pub are : lines ≡ before ++ (line ∷ after)
  pub line_is : IsLineOf system n word line
  pub others_before : AllByRecursion (IsLineOfOrAtFault system n word) before
  pub others_after : AllByRecursion (IsLineOfOrAtFault system n word) after

-- the first two lines that differ are these words' lines: the first line that is not at fault, and the first one behind
-- it that is another word's
pub record Differ (system : System) (n : ℕ) (word other : VitcWord) (lines : List (List ℕ)) : Type 0 where
  pub before : List (List ℕ)
  pub first : List ℕ
  pub between : List (List ℕ)
  pub second : List ℕ
  pub after : List (List ℕ)
  pub are : lines ≡ before ++ (first ∷ (between ++ (second ∷ after)))
  pub faults : AllByRecursion (IsAtFault system n) before
  pub first_is : IsLineOf system n word first
  pub same : AllByRecursion (IsLineOfOrAtFault system n word) between
  pub second_is : IsLineOf system n other second
  pub differ : other ≢ word

-- no line is one of a word, and the first one has this fault
pub record AreFaulty (system : System) (n : ℕ) (fault : ReadFault) (lines : List (List ℕ)) : Type 0 where
  pub first : List ℕ
  pub more : List (List ℕ)
  pub are : lines ≡ first ∷ more
  pub fault_is : IsSaid system n first (Err fault)
  pub faults : AllByRecursion (IsAtFault system n) more

-- what an answer says of the lines of a field
abbrev pub SaysOf : System → ℕ → List (List ℕ) → FieldAnswer → Type 0
SaysOf system n lines NoLine = lines ≡ []
SaysOf system n lines (Agreed word) = AgreeOn system n word lines
SaysOf system n lines (Conflict word other) = Differ system n word other lines
SaysOf system n lines (Nothing fault) = AreFaulty system n fault lines
