-- Lines of a text that newlines ended, and the one that goes on: what is written of each. No promise speaks of it.
use Rattle.std.proofs.Common.{◌≡◌, ℕ, ◌<◌, Bool, true, false, cond, nat_le, ◌==◌, List, [], ◌∷◌, ◌++◌}
use Rattle.std.proofs.Common.{length, refl, sym, ap, ap₂, ◌∙◌, inl, inr, arith, append_assoc, append-nil}
use Rattle.std.specs.List.{AllByRecursion, flat_map}
use Rattle.std.proofs.Math.Bool.{and-false}
use Rattle.std.proofs.lemmas.Bool.{cases_eq, lt-leb, ne_eqb, leb-false}
use Rattle.std.proofs.lemmas.Grind.{flat_map-append}
use Rattle.std.proofs.lemmas.List.{length-append}
use Rattle.column_command.specs.AnsweredText.{answered, answered_so_far, answered_text, lines_of, text_so_far}
use Rattle.column_command.specs.Written.{answered_by, with_length, first_label, written_line}
use Rattle.label_columns.specs.Columns.{answered_from, answered_line, columns_of}
use Rattle.label_columns.specs.declared.columns.TheConstants.{MAX_COLUMN_LINE}
use Rattle.label_columns.specs.Parts.{Part, in_front, part_of, parted}
use Rattle.label_command.specs.TextLines.{IsLine}
use Rattle.tc_io.specs.Sink.{IsFront}
use Rattle.tc_job.specs.declared.column_run.ColumnRun.{ColumnRun}

-- ---- lines

-- newlines ended all lines of these bytes, so those of more bytes come behind them
pub record IsEnded (front : List ℕ) : Type 0 where
  pub on : (more : List ℕ) → lines_of (front ++ more) ≡ lines_of front ++ lines_of more
  pub each : AllByRecursion (λ (line : Part). line.end ≡ 10 ∷ []) (lines_of front)

pub none_ended : IsEnded []
unfolding parted
none_ended = record { on = λ more. refl; each = tt }

-- a line with its newline
pub line_first : (line more : List ℕ) → IsLine line
    → lines_of (line ++ 10 ∷ more) ≡ part_of line (10 ∷ []) ∷ lines_of more
unfolding parted
line_first [] more is = refl
line_first (byte ∷ line) more is = rw (ne_eqb byte 10 is.0, line_first line more is.1) refl

-- a line that goes on
pub line_alone : (byte : ℕ) (line : List ℕ) → IsLine (byte ∷ line)
    → lines_of (byte ∷ line) ≡ part_of (byte ∷ line) [] ∷ []
unfolding parted
line_alone byte [] is = rw (ne_eqb byte 10 is.0) refl
line_alone byte (next ∷ line) is = rw (ne_eqb byte 10 is.0, line_alone next line is.1) refl

-- the lines begin with one that begins with these bytes
record BeginsWith (line : List ℕ) (lines : List Part) : Type 0 where
  pub body : List ℕ
  pub end : List ℕ
  pub rest : List Part
  pub are : lines ≡ part_of (line ++ body) end ∷ rest

begins_with : (byte : ℕ) (lines : List Part) → BeginsWith (byte ∷ []) (in_front byte lines)
begins_with byte [] = record { body = []; end = []; rest = []; are = refl }
begins_with byte (line ∷ lines) = record { body = line.body; end = line.end; rest = lines; are = refl }

line_begins : (byte : ℕ) (line more : List ℕ) → IsLine (byte ∷ line)
    → BeginsWith (byte ∷ line) (lines_of ((byte ∷ line) ++ more))
unfolding parted
line_begins byte [] more is =
    let first = begins_with byte (lines_of more) in
    record { body = first.body; end = first.end; rest = first.rest; are = rw (ne_eqb byte 10 is.0) first.are }
line_begins byte (next ∷ line) more is =
    let first = line_begins next line more is.1 in
    record {
      body = first.body;
      end = first.end;
      rest = first.rest;
      are = rw (ne_eqb byte 10 is.0, first.are) refl;
    }

-- a newline ends one line more
all_more : {X : Type 0} (P : X → Type 0) (xs : List X) (x : X) → AllByRecursion P xs → P x
    → AllByRecursion P (xs ++ x ∷ [])
all_more P [] x all is = (is, tt)
all_more P (y ∷ xs) x all is = (all.0, all_more P xs x all.1 is)

lines_more : (front line : List ℕ) → IsEnded front → IsLine line
    → lines_of (front ++ (line ++ 10 ∷ [])) ≡ lines_of front ++ part_of line (10 ∷ []) ∷ []
unfolding parted
lines_more front line ended is =
    ended.on (line ++ 10 ∷ []) ∙ ap (λ (l : List Part). lines_of front ++ l) (line_first line [] is)

pub one_ended : (front line : List ℕ) → IsEnded front → IsLine line → IsEnded (front ++ (line ++ 10 ∷ []))
one_ended front line ended is = record {
  on = λ more.
      ap lines_of (append_assoc front (line ++ 10 ∷ []) more)
      ∙ ended.on ((line ++ 10 ∷ []) ++ more)
      ∙ ap (λ (l : List ℕ). lines_of front ++ lines_of l) (append_assoc line (10 ∷ []) more)
      ∙ ap (λ (l : List Part). lines_of front ++ l) (line_first line more is)
      ∙ sym (append_assoc (lines_of front) (part_of line (10 ∷ []) ∷ []) (lines_of more))
      ∙ ap (λ (l : List Part). l ++ lines_of more) (sym (lines_more front line ended is));
  each = rw (lines_more front line ended is)
      (all_more (λ (line : Part). line.end ≡ 10 ∷ []) (lines_of front) (part_of line (10 ∷ [])) ended.each refl);
}

-- each text is lines that were ended, and one that goes on
pub record Cut (text : List ℕ) : Type 0 where
  pub front : List ℕ
  pub line : List ℕ
  pub are : text ≡ front ++ line
  pub ended : IsEnded front
  pub is_line : IsLine line

pub a_line_longer : (line more : List ℕ) → IsLine line → IsLine more → IsLine (line ++ more)
a_line_longer [] more is too = too
a_line_longer (byte ∷ line) more is too = (is.0, a_line_longer line more is.1 too)

cut : (front line bytes : List ℕ) → IsEnded front → IsLine line → Cut (front ++ (line ++ bytes))
cut front line [] ended is = record {
  front = front;
  line = line;
  are = ap (λ (l : List ℕ). front ++ l) (append-nil line);
  ended = ended;
  is_line = is;
}
cut front line (byte ∷ bytes) ended is = elim (cases_eq byte 10) [
  | inl newline ↦ (let more = cut (front ++ (line ++ 10 ∷ [])) [] bytes (one_ended front line ended is) tt in
      record {
        front = more.front;
        line = more.line;
        are = ap (λ (b : ℕ). front ++ (line ++ b ∷ bytes)) newline
            ∙ ap (λ (l : List ℕ). front ++ l) (sym (append_assoc line (10 ∷ []) bytes))
            ∙ sym (append_assoc front (line ++ 10 ∷ []) bytes) ∙ more.are;
        ended = more.ended;
        is_line = more.is_line;
      })
  | inr other ↦ (let more = cut front (line ++ byte ∷ []) bytes ended (a_line_longer line (byte ∷ []) is (other, tt)) in
      record {
        front = more.front;
        line = more.line;
        are = ap (λ (l : List ℕ). front ++ l) (sym (append_assoc line (byte ∷ []) bytes)) ∙ more.are;
        ended = more.ended;
        is_line = more.is_line;
      })
]

pub cut_of : (text : List ℕ) → Cut text
cut_of text = cut [] [] text none_ended tt

-- ---- what is written of them

-- of lines that were ended
ended_so_far : (run : ColumnRun) (lines : List Part) → AllByRecursion (λ (line : Part). line.end ≡ 10 ∷ []) lines
    → flat_map (answered_so_far run) lines ≡ flat_map (answered run) lines
ended_so_far run [] all = refl
ended_so_far run (line ∷ lines) all = rw (all.0, ended_so_far run lines all.1) refl

-- of one that goes on: nothing, unless it is too long
line_so_far : (run : ColumnRun) (line : List ℕ) → IsLine line
    → text_so_far run line ≡ cond (nat_le (length line) MAX_COLUMN_LINE) [] line
unfolding parted
line_so_far run [] is = refl
line_so_far run (byte ∷ line) is =
    rw (line_alone byte line is) (by_length (nat_le (length (byte ∷ line)) MAX_COLUMN_LINE)
    (written_line run (byte ∷ line)))
  where
    by_length : (short : Bool) (answers : List ℕ)
        → cond short [] (cond short answers (byte ∷ line) ++ []) ++ [] ≡ cond short [] (byte ∷ line)
    by_length true answers = refl
    by_length false answers = append-nil ((byte ∷ line) ++ []) ∙ append-nil (byte ∷ line)

-- of all of them
pub so_far_of : (run : ColumnRun) (front line : List ℕ) → IsEnded front → IsLine line
    → text_so_far run (front ++ line)
    ≡ answered_text run front ++ cond (nat_le (length line) MAX_COLUMN_LINE) [] line
so_far_of run front line ended is =
    ap (flat_map (answered_so_far run)) (ended.on line)
    ∙ flat_map-append (answered_so_far run) (lines_of front) (lines_of line)
    ∙ ap₂ (λ (a b : List ℕ). a ++ b) (ended_so_far run (lines_of front) ended.each) (line_so_far run line is)

-- and of those behind lines that were ended
pub text_behind : (run : ColumnRun) (front more : List ℕ) → IsEnded front
    → answered_text run (front ++ more) ≡ answered_text run front ++ answered_text run more
text_behind run front more ended =
    ap (flat_map (answered run)) (ended.on more) ∙ flat_map-append (answered run) (lines_of front) (lines_of more)

so_far_behind : (run : ColumnRun) (front more : List ℕ) → IsEnded front
    → text_so_far run (front ++ more) ≡ answered_text run front ++ text_so_far run more
so_far_behind run front more ended =
    ap (flat_map (answered_so_far run)) (ended.on more)
    ∙ flat_map-append (answered_so_far run) (lines_of front) (lines_of more)
    ∙ ap (λ (l : List ℕ). l ++ text_so_far run more) (ended_so_far run (lines_of front) ended.each)

-- one line more was ended
pub text_more : (run : ColumnRun) (front line : List ℕ) → IsEnded front → IsLine line
    → answered_text run (front ++ (line ++ 10 ∷ [])) ≡ answered_text run front ++ answered run (part_of line (10 ∷ []))
text_more run front line ended is =
    ap (flat_map (answered run)) (lines_more front line ended is)
    ∙ flat_map-append (answered run) (lines_of front) (part_of line (10 ∷ []) ∷ [])
    ∙ ap (λ (l : List ℕ). answered_text run front ++ l) (append-nil (answered run (part_of line (10 ∷ []))))

-- of no bytes nothing
written_nothing : (run : ColumnRun) → written_line run [] ≡ []
unfolding written_line parted answered_line answered_from columns_of
written_nothing run = by_kind run.is_length
  where
    by_kind : (is_length : Bool)
        → cond is_length (with_length run (first_label run []) []) (answered_by run []) ≡ []
    by_kind true = refl
    by_kind false = refl

-- the line that goes on is the last one
pub last_answered : (run : ColumnRun) (line : List ℕ) → IsLine line
    → answered_text run line ≡ cond (nat_le (length line) MAX_COLUMN_LINE)
    (written_line run line) line
unfolding parted
last_answered run [] is = rw (written_nothing run) refl
last_answered run (byte ∷ line) is =
    rw (line_alone byte line is) (append-nil _ ∙ append-nil _)

-- ---- what is written comes first

-- what is written of a line that is too long begins with it
long_whole : (run : ColumnRun) (line body end : List ℕ) → MAX_COLUMN_LINE < length line
    → answered run (part_of (line ++ body) end) ≡ line ++ (body ++ end)
long_whole run line body end long =
    rw (lt-leb (length (line ++ body)) MAX_COLUMN_LINE (omega (arith, long, length-append line body)))
    (append_assoc line body end)

long_so_far : (run : ColumnRun) (line body end : List ℕ) → MAX_COLUMN_LINE < length line
    → answered_so_far run (part_of (line ++ body) end) ≡ answered run (part_of (line ++ body) end)
long_so_far run line body end long =
    rw (
      lt-leb (length (line ++ body)) MAX_COLUMN_LINE (omega (arith, long, length-append line body)),
      and-false (length end == 0),
    ) refl

long_first : (f : Part → List ℕ) (line more : List ℕ) → IsLine line → MAX_COLUMN_LINE < length line
    → ((body end : List ℕ) → f (part_of (line ++ body) end) ≡ line ++ (body ++ end))
    → IsFront line (flat_map f (lines_of (line ++ more)))
long_first f [] more is long whole = absurd (omega (arith, long))
long_first f (byte ∷ line) more is long whole =
    let first = line_begins byte line more is in (
      (first.body ++ first.end) ++ flat_map f first.rest,
      ap (flat_map f) first.are ∙ ap (λ (l : List ℕ). l ++ flat_map f first.rest) (whole first.body first.end)
          ∙ append_assoc (byte ∷ line) (first.body ++ first.end) (flat_map f first.rest),
    )

-- a front, of what comes behind the same bytes
front_behind : (before a b : List ℕ) → IsFront a b → IsFront (before ++ a) (before ++ b)
front_behind before a b first =
    (first.0, ap (λ (l : List ℕ). before ++ l) first.1 ∙ sym (append_assoc before a first.0))

-- nothing, or a line that is too long
unended_first : (f : Part → List ℕ) (line more : List ℕ) → IsLine line
    → (MAX_COLUMN_LINE < length line → (body end : List ℕ) → f (part_of (line ++ body) end) ≡ line ++ (body ++ end))
    → IsFront (cond (nat_le (length line) MAX_COLUMN_LINE) [] line) (flat_map f (lines_of (line ++ more)))
unended_first f line more is whole = by_length (nat_le (length line) MAX_COLUMN_LINE) refl
  where
    by_length : (short : Bool) → nat_le (length line) MAX_COLUMN_LINE ≡ short
        → IsFront (cond short [] line) (flat_map f (lines_of (line ++ more)))
    by_length true e = (flat_map f (lines_of (line ++ more)), refl)
    by_length false e =
        let long = leb-false (length line) MAX_COLUMN_LINE e in long_first f line more is long (whole long)

-- what is written of bytes comes first in what is written of more, and in the output
pub part_first : (run : ColumnRun) (text more : List ℕ) → IsFront (text_so_far run text) (text_so_far run (text ++ more))
part_first run text more =
    let c = cut_of text in
    let all = ap (λ (t : List ℕ). text_so_far run (t ++ more)) c.are
    ∙ ap (text_so_far run) (append_assoc c.front c.line more) ∙ so_far_behind run c.front (c.line ++ more) c.ended in
    rw (all, ap (text_so_far run) c.are ∙ so_far_of run c.front c.line c.ended c.is_line)
    (front_behind (answered_text run c.front) _ _ (unended_first (answered_so_far run) c.line more c.is_line
    (λ long body end. long_so_far run c.line body end long ∙ long_whole run c.line body end long)))

pub output_first : (run : ColumnRun) (text more : List ℕ)
    → IsFront (text_so_far run text) (answered_text run (text ++ more))
output_first run text more =
    let c = cut_of text in
    let all = ap (λ (t : List ℕ). answered_text run (t ++ more)) c.are
    ∙ ap (answered_text run) (append_assoc c.front c.line more) ∙ text_behind run c.front (c.line ++ more) c.ended in
    rw (all, ap (text_so_far run) c.are ∙ so_far_of run c.front c.line c.ended c.is_line)
    (front_behind (answered_text run c.front) _ _ (unended_first (answered run) c.line more c.is_line
    (λ long body end. long_whole run c.line body end long)))
