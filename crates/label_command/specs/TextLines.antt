-- A text as a list of lines, and what these say. A newline ends a line, and the last one need not be ended. This
-- project's own.
use Rattle.std.specs.List.{AllByRecursion, flat_map}
use Rattle.std.specs.Prelude.{◌≡◌, ◌≢◌, ℕ, ◌+◌, List, [], ◌∷◌, ◌++◌, codes, length, map, Ok, Err}
use Rattle.label_lines.specs.declared.timebase.Timebase.{Timebase}
use Rattle.label_lines.specs.Line.{read_line}
use Rattle.label_text.specs.declared.fault.LineFault.{LineFault}
use Rattle.tc_address.specs.Label.{Address}

-- no newline is among the bytes
abbrev pub IsLine : List ℕ → Type 0
IsLine line = AllByRecursion (λ byte. byte ≢ 10) line

-- lines, each with the newline that ends it
abbrev pub ended : List (List ℕ) → List ℕ
ended lines = flat_map (λ line. line ++ codes "\n") lines

-- the line that no newline ends, where there are bytes of one
abbrev pub last_line : List ℕ → List (List ℕ)
last_line [] = []
last_line (byte ∷ bytes) = (byte ∷ bytes) ∷ []

-- a text has these lines: those that newlines end, and behind them the bytes that the end of the text ends, where there
-- are any
pub record HasLines (text : List ℕ) (lines : List (List ℕ)) : Type 0 where
  pub front : List (List ℕ)
  pub rest : List ℕ
  pub are : text ≡ ended front ++ rest
  pub each : AllByRecursion IsLine front
  pub last : IsLine rest
  pub lines_are : lines ≡ front ++ last_line rest

-- each line says the label at its place
abbrev pub SayLabels : Timebase → List (List ℕ) → List Address → Type 0
SayLabels base lines labels = map (read_line base) lines ≡ map (λ label. Ok label) labels

-- the lines before it say these labels, and this is the first line that says none, with the first column that does not
-- fit. Both are counted from 1
pub record IsFirstRefused (base : Timebase) (lines : List (List ℕ)) (labels : List Address) (fault : LineFault)
    : Type 0 where
  pub before : List (List ℕ)
  pub line : List ℕ
  pub behind : List (List ℕ)
  pub are : lines ≡ before ++ line ∷ behind
  pub say : SayLabels base before labels
  pub refused : read_line base line ≡ Err fault.column
  pub number : fault.line ≡ length before + 1
