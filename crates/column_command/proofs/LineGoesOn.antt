-- What the engine of `labels` with columns stands for when a line goes on, when a newline ends it, and at the end.
use Rattle.std.proofs.Common.{◌≡◌, ℕ, ◌+◌, ◌<◌, ◌≤◌, Bool, true, false, cond, List, [], ◌∷◌, ◌++◌, length}
use Rattle.std.proofs.Common.{refl, sym, ap, ap₂, ◌∙◌, arith, append_assoc, append-nil, length-append}
use Rattle.std.proofs.lemmas.Bool.{le-leb, lt-leb, lt-ltb}
use Rattle.std.proofs.lemmas.List.{take_all, take-append-le}
use Rattle.column_command.specs.AnsweredText.{along_columns, answered, answered_text, text_so_far}
use Rattle.column_command.specs.KeptLine.{Keeps, Stands, part_of_all, passed, stands_well}
use Rattle.column_command.specs.LineLemmas.{a_line_longer, last_answered, none_ended, one_ended, text_behind, text_more}
use Rattle.column_command.specs.declared.columns.ColumnAnswers.{ColumnAnswers}
use Rattle.column_command.specs.declared.columns.TheConstants.{MAX_TEXT}
use Rattle.column_command.specs.Written.{written_line}
use Rattle.label_columns.specs.declared.columns.TheConstants.{MAX_COLUMN_LINE}
use Rattle.label_columns.specs.Parts.{part_of, parted}
use Rattle.label_command.specs.TextLines.{IsLine}
use Rattle.tc_command.specs.declared.halt.Halt.TheVariants as halts
use Rattle.tc_command.specs.Halt.{IsHalt}
use Rattle.tc_command.specs.Meaning.{IsInput}
use Rattle.tc_io.specs.Verdict.{good, past_limit}
use Rattle.tc_job.specs.declared.column_run.ColumnRun.{ColumnRun}
use Rattle.std.proofs.Common.{inl}

-- ---- a line that is kept, and one that passed

pub kept_line : (s : ColumnAnswers) (line : List ℕ) → Keeps s line → s.is_long ≡ false
    → (length line ≤ MAX_COLUMN_LINE) × (s.line.items ≡ line)
kept_line s line keeps short = rw short at keeps

pub long_line : (s : ColumnAnswers) (line : List ℕ) → Keeps s line → s.is_long ≡ true
    → (MAX_COLUMN_LINE < length line) × (s.line.items ≡ [])
long_line s line keeps long = rw long at keeps

pub passed_none : (s : ColumnAnswers) (line : List ℕ) → s.is_long ≡ false → passed s line ≡ []
passed_none s line short = rw short refl

pub passed_all : (s : ColumnAnswers) (line : List ℕ) → s.is_long ≡ true → passed s line ≡ line
passed_all s line long = rw long refl

-- what is written when a newline ends it
pub ends_short : (s : ColumnAnswers) (line put : List ℕ) → Keeps s line → s.is_long ≡ false
    → put ≡ written_line s.run s.line.items ++ 10 ∷ []
    → passed s line ++ put ≡ answered s.run (part_of line (10 ∷ []))
ends_short s line put keeps short is =
    let k = kept_line s line keeps short in
    rw (passed_none s line short, le-leb (length line) MAX_COLUMN_LINE k.0) (rw k.1 at is)

pub ends_long : (s : ColumnAnswers) (line : List ℕ) → Keeps s line → s.is_long ≡ true
    → passed s line ++ 10 ∷ [] ≡ answered s.run (part_of line (10 ∷ []))
ends_long s line keeps long =
    let k = long_line s line keeps long in
    rw (passed_all s line long, lt-leb (length line) MAX_COLUMN_LINE k.0) refl

-- ---- what was given

-- more bytes of the line
pub went_on : (s t : ColumnAnswers) (bytes written more put : List ℕ) (stands : Stands s bytes written)
    → t.run ≡ s.run → t.left + length more ≡ s.left → IsLine more → Keeps t (stands.line ++ more)
    → passed s stands.line ++ put ≡ passed t (stands.line ++ more) → Stands t (bytes ++ more) (written ++ put)
went_on s t bytes written more put stands run left is keeps put_is = record {
  left = omega (arith, left, stands.left, length-append bytes more);
  front = stands.front;
  line = stands.line ++ more;
  are = ap (λ (l : List ℕ). l ++ more) stands.are ∙ append_assoc stands.front stands.line more;
  ended = stands.ended;
  is_line = a_line_longer stands.line more stands.is_line is;
  keeps = keeps;
  wrote = ap (λ (l : List ℕ). l ++ put) stands.wrote
      ∙ append_assoc (answered_text s.run stands.front) (passed s stands.line) put
      ∙ ap₂ (λ (r : ColumnRun) (l : List ℕ). answered_text r stands.front ++ l) (sym run) put_is;
}

-- a newline
pub ended_line : (s t : ColumnAnswers) (bytes written put : List ℕ) (stands : Stands s bytes written)
    → t.run ≡ s.run → t.left + 1 ≡ s.left → t.is_long ≡ false → Keeps t []
    → passed s stands.line ++ put ≡ answered s.run (part_of stands.line (10 ∷ []))
    → Stands t (bytes ++ 10 ∷ []) (written ++ put)
ended_line s t bytes written put stands run left short keeps put_is = record {
  left = omega (arith, left, stands.left, length-append bytes (10 ∷ []));
  front = stands.front ++ (stands.line ++ 10 ∷ []);
  line = [];
  are = ap (λ (l : List ℕ). l ++ 10 ∷ []) stands.are ∙ append_assoc stands.front stands.line (10 ∷ [])
      ∙ sym (append-nil (stands.front ++ (stands.line ++ 10 ∷ [])));
  ended = one_ended stands.front stands.line stands.ended stands.is_line;
  is_line = tt;
  keeps = keeps;
  wrote = ap (λ (l : List ℕ). l ++ put) stands.wrote
      ∙ append_assoc (answered_text s.run stands.front) (passed s stands.line) put
      ∙ ap (λ (l : List ℕ). answered_text s.run stands.front ++ l) put_is
      ∙ sym (text_more s.run stands.front stands.line stands.ended stands.is_line)
      ∙ ap (λ (r : ColumnRun). answered_text r (stands.front ++ (stands.line ++ 10 ∷ []))) (sym run)
      ∙ sym (append-nil _)
      ∙ ap (λ (l : List ℕ). answered_text t.run (stands.front ++ (stands.line ++ 10 ∷ [])) ++ l)
      (sym (passed_none t [] short));
}

-- nothing yet
pub begins : (s : ColumnAnswers) → s.left ≡ MAX_TEXT → s.line.items ≡ [] → s.is_long ≡ false → Stands s [] []
unfolding parted
begins s left items short = record {
  left = omega (arith, left);
  front = [];
  line = [];
  are = refl;
  ended = none_ended;
  is_line = tt;
  keeps = rw short (omega arith, items);
  wrote = sym (passed_none s [] short);
}

-- ---- the limit, and the end

pub at_limit : (s : ColumnAnswers) (front bytes written : List ℕ) → Stands s front written → s.left ≡ 0
    → 0 < length bytes → IsHalt (along_columns s.run) halts.Limit (front ++ bytes) (written ++ [])
at_limit s front bytes written stands none some =
    let full : length front ≡ MAX_TEXT = omega (arith, stands.left, none) in
    inl (
      record {
        is = ap (λ (b : Bool). cond b past_limit good)
            (lt-ltb MAX_TEXT (length (front ++ bytes)) (omega (arith, full, some, length-append front bytes)));
        unspent = λ spent. spent;
      },
      append-nil written ∙ part_of_all s front written stands
          ∙ ap (text_so_far s.run) (sym (take-append-le MAX_TEXT front bytes (omega (arith, full))
          ∙ take_all MAX_TEXT front (omega (arith, full)))),
    )

pub is_input : (s : ColumnAnswers) (bytes written : List ℕ) → Stands s bytes written
    → IsInput (along_columns s.run) bytes
is_input s bytes written stands =
    let shows = (stands_well s bytes written stands).0 in
    record { verdict = shows.is; unspent = shows.unspent; end = refl }

pub last_short : (s : ColumnAnswers) (bytes written : List ℕ) → Stands s bytes written → s.is_long ≡ false
    → written ++ written_line s.run s.line.items
    ≡ answered_text s.run bytes
last_short s bytes written stands short =
    let run = s.run in
    let k = kept_line s stands.line stands.keeps short in
    let last = last_answered run stands.line stands.is_line in
    let line = written_line run stands.line in
    let is : answered_text run stands.line ≡ line = rw (le-leb (length stands.line) MAX_COLUMN_LINE k.0) at last in
    rw (k.1, stands.wrote, passed_none s stands.line short)
    (ap (λ (l : List ℕ). l ++ line) (append-nil (answered_text run stands.front))
    ∙ ap (λ (l : List ℕ). answered_text run stands.front ++ l) (sym is)
    ∙ sym (text_behind run stands.front stands.line stands.ended)
    ∙ ap (answered_text run) (sym stands.are))

pub last_long : (s : ColumnAnswers) (bytes written : List ℕ) → Stands s bytes written → s.is_long ≡ true
    → written ++ [] ≡ answered_text s.run bytes
last_long s bytes written stands long =
    let run = s.run in
    let k = long_line s stands.line stands.keeps long in
    let last = last_answered run stands.line stands.is_line in
    let is : answered_text run stands.line ≡ stands.line =
    rw (lt-leb (length stands.line) MAX_COLUMN_LINE k.0) at last in
    append-nil written ∙ stands.wrote
    ∙ ap (λ (l : List ℕ). answered_text run stands.front ++ l) (passed_all s stands.line long ∙ sym is)
    ∙ sym (text_behind run stands.front stands.line stands.ended)
    ∙ ap (answered_text run) (sym stands.are)
