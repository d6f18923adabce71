-- What the engine of `labels` with columns keeps. No promise speaks of it.
use Rattle.std.proofs.Common.{◌≡◌, ℕ, ◌+◌, ◌<◌, ◌≤◌, nat_le, Bool, true, false, cond, List, [], ◌++◌, length, ap, sym, ◌∙◌, refl}
use Rattle.std.proofs.Common.{arith}
use Rattle.std.proofs.lemmas.Bool.{le-leb, le-ltb, lt-leb}
use Rattle.std.proofs.lemmas.List.{take_all}
use Rattle.column_command.specs.AnsweredText.{along_columns, answered_text, text_so_far}
use Rattle.column_command.specs.declared.columns.ColumnAnswers.{ColumnAnswers}
use Rattle.column_command.specs.declared.columns.TheConstants.{MAX_TEXT}
use Rattle.column_command.specs.LineLemmas.{IsEnded, so_far_of}
use Rattle.label_columns.specs.declared.columns.TheConstants.{MAX_COLUMN_LINE}
use Rattle.label_command.specs.TextLines.{IsLine}
use Rattle.tc_command.specs.Meaning.{Meaning, Shows}
use Rattle.tc_io.specs.Verdict.{good, past_limit}

-- what passed of a line that no newline has ended yet
abbrev pub passed : ColumnAnswers → List ℕ → List ℕ
passed s line = cond s.is_long line []

-- the line is kept, or it is too long
abbrev pub Keeps : ColumnAnswers → List ℕ → Type 0
Keeps s line = cond s.is_long ((MAX_COLUMN_LINE < length line) × (s.line.items ≡ [])) ((length line ≤ MAX_COLUMN_LINE) × (s.line.items ≡ line))

-- it was given these bytes: lines that were ended, and one that goes on
pub record Stands (s : ColumnAnswers) (bytes written : List ℕ) : Type 0 where
  pub left : length bytes + s.left ≡ MAX_TEXT
  pub front : List ℕ
  pub line : List ℕ
  pub are : bytes ≡ front ++ line
  pub ended : IsEnded front
  pub is_line : IsLine line
  pub keeps : Keeps s line
  pub wrote : written ≡ answered_text s.run front ++ passed s line

-- what passed of a line that goes on is what is written of it
pub passed_is : (s : ColumnAnswers) (line : List ℕ) → Keeps s line
    → cond (nat_le (length line) MAX_COLUMN_LINE) [] line ≡ passed s line
passed_is s line keeps = by_long s.is_long keeps
  where
    by_long : (long : Bool) → cond long ((MAX_COLUMN_LINE < length line) × (s.line.items ≡ []))
        ((length line ≤ MAX_COLUMN_LINE) × (s.line.items ≡ line))
        → cond (nat_le (length line) MAX_COLUMN_LINE) [] line ≡ cond long line []
    by_long true is = rw (lt-leb (length line) MAX_COLUMN_LINE is.0) refl
    by_long false is = rw (le-leb (length line) MAX_COLUMN_LINE is.0) refl

pub part_of_all : (s : ColumnAnswers) (bytes written : List ℕ) → Stands s bytes written
    → written ≡ text_so_far s.run bytes
part_of_all s bytes written stands =
    stands.wrote
    ∙ ap (λ (l : List ℕ). answered_text s.run stands.front ++ l) (sym (passed_is s stands.line stands.keeps))
    ∙ sym (so_far_of s.run stands.front stands.line stands.ended stands.is_line)
    ∙ ap (text_so_far s.run) (sym stands.are)

-- what was written is the part of the bytes
pub stands_well : (s : ColumnAnswers) (bytes written : List ℕ) → Stands s bytes written
    → Shows (along_columns s.run) good bytes × Meaning.part (along_columns s.run) bytes written
stands_well s bytes written stands =
    let within : length bytes ≤ MAX_TEXT = omega (arith, stands.left) in (
      record {
        is = ap (λ (b : Bool). cond b past_limit good) (le-ltb MAX_TEXT (length bytes) within);
        unspent = λ spent. spent;
      },
      part_of_all s bytes written stands
          ∙ ap (text_so_far s.run) (sym (take_all MAX_TEXT bytes within)),
    )
