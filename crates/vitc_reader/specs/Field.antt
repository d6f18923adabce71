-- What the lines of a field say together. This project's own.
use Rattle.std.specs.Prelude.{◌≡◌, ◌≢◌, ℕ, List, [], ◌∷◌, ◌++◌, Result, Ok, Err, Some}
use Rattle.tc_address.specs.declared.system.System.{System}
use Rattle.vitc_line.specs.declared.word.VitcWord.{VitcWord}
use Rattle.vitc_line.specs.Fault.{first_fault}
use Rattle.vitc_line.specs.Spelling.{Spells}
use Rattle.vitc_reader.specs.declared.fault.ReadFault.{ReadFault}
use Rattle.vitc_reader.specs.declared.fault.ReadFault.TheVariants.{Runs, Line}
use Rattle.vitc_reader.specs.declared.field.FieldAnswer.{FieldAnswer}
use Rattle.vitc_reader.specs.declared.field.FieldAnswer.TheVariants.{NoLine, Agreed, Conflict, Nothing}
use Rattle.vitc_reader.specs.Runs.{StandFor, IsRunFault}

-- what one line says: the word that its bits spell, or its first fault
abbrev pub IsSaid : System → ℕ → List ℕ → Result VitcWord ReadFault → Type 0
IsSaid system n runs (Ok word) = (bits : ℕ) × StandFor n runs bits × Spells system word bits
IsSaid system n runs (Err (Runs fault)) = IsRunFault n runs fault
IsSaid system n runs (Err (Line fault)) = (bits : ℕ) × StandFor n runs bits × (first_fault system bits ≡ Some fault)

-- what each of some lines says, in order
abbrev pub AreSaid : System → ℕ → List (List ℕ) → List (Result VitcWord ReadFault) → Type 0
AreSaid system n [] [] = Unit {0}
AreSaid system n [] (s ∷ said) = ⊥
AreSaid system n (line ∷ lines) [] = ⊥
AreSaid system n (line ∷ lines) (s ∷ said) = IsSaid system n line s × AreSaid system n lines said

-- the words that were read, in order
abbrev pub words_of : List (Result VitcWord ReadFault) → List VitcWord
words_of [] = []
words_of (Ok word ∷ said) = word ∷ words_of said
words_of (Err fault ∷ said) = words_of said

-- each of the words is this one
abbrev pub AllAre : VitcWord → List VitcWord → Type 0
AllAre word [] = Unit {0}
AllAre word (w ∷ words) = (w ≡ word) × AllAre word words

-- the answer to what the lines say: no line at all; no word, and the first line's fault; one word and no
-- other; the first word and the first that differs from it
abbrev pub IsAnswerTo : List (Result VitcWord ReadFault) → FieldAnswer → Type 0
IsAnswerTo said NoLine = said ≡ []
IsAnswerTo said (Nothing fault) =
    (more : List (Result VitcWord ReadFault)) × (said ≡ Err fault ∷ more) × (words_of said ≡ [])
IsAnswerTo said (Agreed word) = (more : List VitcWord) × (words_of said ≡ word ∷ more) × AllAre word more
IsAnswerTo said (Conflict word other) =
    (same more : List VitcWord) × (words_of said ≡ word ∷ same ++ other ∷ more) × AllAre word same × (other ≢ word)

-- the answer of a field over the list of its lines
abbrev pub IsAnswer : System → ℕ → List (List ℕ) → FieldAnswer → Type 0
IsAnswer system n lines answer =
    (said : List (Result VitcWord ReadFault)) × AreSaid system n lines said × IsAnswerTo said answer

-- a reader of a field: its system, the length of its lines, and its answer so far
pub record FieldState : Type 0 where
  pub system : System
  pub length : ℕ
  pub answer : FieldAnswer

-- the reader answers as one that was fed these lines
abbrev pub StandsFor : FieldState → List (List ℕ) → Type 0
StandsFor reader lines = IsAnswer reader.system reader.length lines reader.answer
