-- What was read of a line or a field, and what is still to be read of it, is the whole.
use Rattle.std.proofs.Common.{◌≡◌, ℕ, zero, suc, ◌+◌, ◌-◌, ◌*◌, ◌<◌, ◌≤◌, Bool, true, false, List, [], ◌∷◌, ◌++◌}
use Rattle.std.proofs.Common.{length, take, drop, get_or, refl}
use Rattle.std.proofs.Common.{sym, ap, ◌∙◌, arith, append_assoc}
use Rattle.std.specs.Prelude.{◌==◌, eqb, nat_le, if◌then◌else◌}
use Rattle.std.proofs.lemmas.List.{drop-drop, drop_more, length-drop, length-take-le, take_rest}
use Rattle.std.proofs.lemmas.Bool.{le-leb}
use Rattle.std.proofs.lemmas.Bool.Decides.{Decides-eqb}
use Rattle.std.proofs.lemmas.Slice.Eq.{starts_is}
use Rattle.std.specs.List.{starts_with}
use Rattle.byteorder.specs.Endian.{big_number}
use Rattle.file_faults.specs.declared.lines.LineFileFault.{LineFileFault}
use Rattle.file_faults.specs.declared.lines.LineFileFault.TheVariants as fault
use Rattle.vitc_reader.specs.Field as answers
use Rattle.line_file.specs.declared.field.TheConstants.{MAX_LINES}
use Rattle.line_file.specs.declared.header.LineHeader.{LineHeader}
use Rattle.line_file.specs.declared.header.TheConstants.{HEAD_LENGTH}
use Rattle.line_file.specs.LineFile.{Front, whole, short, bad, is_wrong, head_fault, head_at, runs_at, line_at}
use Rattle.line_file.specs.LineFile.{line_width}
use Rattle.line_file.specs.KeptPieces.{with_first, is_run_count}
use Rattle.line_file.specs.LineFile.{lines_at, lines_width, field_at}
use Rattle.line_file.specs.KeptPieces.{line_then, field_width}
use Rattle.line_file.proofs.OwnBytes.{after_line, first_whole, own_line}

-- some things, and then the others
abbrev pub after_first : {A : Type 0} → List A → Front (List A) → Front (List A)
after_first before (whole others) = whole (before ++ others)
after_first before short = short
after_first before (bad f) = bad f

after_none : {A : Type 0} (front : Front (List A)) → front ≡ after_first [] front
after_none (whole xs) = refl
after_none short = refl
after_none (bad f) = refl

after_one : {A : Type 0} (before : List A) (x : A) (front : Front (List A)) → after_first before (with_first x front)
    ≡ after_first (before ++ x ∷ []) front
after_one {A} before x (whole xs) = ap (λ (l : List A). whole l) (sym (append_assoc before (x ∷ []) xs))
after_one before x short = refl
after_one before x (bad f) = refl

-- ---- the head

none_taken : (count : ℕ) → count - 0 ≡ count
none_taken count = omega arith

one_less : (left : ℕ) → suc left - 1 ≡ left
one_less left = omega arith

head_step : (left place d : ℕ) (bytes : List ℕ) → 1 ≤ left → place < length bytes
    → head_at left place (drop place bytes)
    ≡ (if is_wrong place (get_or bytes place d) then bad (head_fault place) else head_at (left - 1) (place + 1)
    (drop (place + 1) bytes))
head_step zero place d bytes some lt = absurd (omega (arith, some))
head_step (suc left) place d bytes some lt = rw (drop_more bytes place d lt, one_less left) refl

pub record HeadSoFar (bytes : List ℕ) (place : ℕ) : Type 0 where
  pub within : place ≤ length bytes
  pub read : head_at HEAD_LENGTH 0 bytes ≡ head_at (HEAD_LENGTH - place) place (drop place bytes)

pub head_more : (bytes : List ℕ) (place d : ℕ) → HeadSoFar bytes place → place < HEAD_LENGTH → place < length bytes
    → is_wrong place (get_or bytes place d) ≡ false
    → HeadSoFar bytes (place + 1)
head_more bytes place d s lt there good =
    let step = head_step (HEAD_LENGTH - place) place d bytes (omega (arith, lt)) there in
    let left : HEAD_LENGTH - place - 1 ≡ HEAD_LENGTH - (place + 1) = omega arith in
    record {
      within = omega (arith, there);
      read = s.read ∙ rw (good, left) at step;
    }

pub head_bad : (bytes : List ℕ) (place d : ℕ) → HeadSoFar bytes place → place < HEAD_LENGTH → place < length bytes
    → is_wrong place (get_or bytes place d) ≡ true
    → head_at HEAD_LENGTH 0 bytes ≡ bad (head_fault place)
head_bad bytes place d s lt there wrong =
    let step = head_step (HEAD_LENGTH - place) place d bytes (omega (arith, lt)) there in
    s.read ∙ rw wrong at step

none_left : (bytes : List ℕ) (n : ℕ) → length bytes ≤ n → drop n bytes ≡ []
none_left [] zero le = refl
none_left [] (suc n) le = refl
none_left (b ∷ bytes) zero le = absurd (omega (arith, le))
none_left (b ∷ bytes) (suc n) le = none_left bytes n (omega (arith, le))

-- ---- the runs of a line

two_bytes : (left place : ℕ) (bytes : List ℕ) → 1 ≤ left → 2 ≤ length bytes
    → runs_at left place bytes
    ≡ (if big_number 2 bytes == 0 then bad (fault.Run place) else with_first (big_number 2 bytes)
    (runs_at (left - 1) (place + 2) (drop 2 bytes)))
two_bytes zero place bytes some two = absurd (omega (arith, some))
two_bytes (suc left) place [] some two = absurd (omega (arith, two))
two_bytes (suc left) place (high ∷ []) some two = absurd (omega (arith, two))
two_bytes (suc left) place (high ∷ low ∷ more) some two = rw (one_less left) refl

pub record RunsSoFar (count place : ℕ) (bytes : List ℕ) (done at : ℕ) (runs : List ℕ) : Type 0 where
  pub read : runs_at count (place + 1) (drop 1 bytes) ≡ after_first runs
      (runs_at (count - done) (place + at) (drop at bytes))
  pub number : length runs ≡ done
  pub at_is : at ≡ 1 + 2 * done
  pub within : at ≤ length bytes

run_step : (count place : ℕ) (bytes : List ℕ) (done at : ℕ) (runs : List ℕ) → RunsSoFar count place bytes done at runs
    → done < count → at + 2 ≤ length bytes
    → runs_at (count - done) (place + at) (drop at bytes)
    ≡ (if big_number 2 (drop at bytes) == 0 then bad (fault.Run (place + at))
    else with_first (big_number 2 (drop at bytes))
    (runs_at (count - (done + 1)) (place + (at + 2)) (drop (at + 2) bytes)))
run_step count place bytes done at runs s lt two =
    let left = length-drop at bytes in
    let step = two_bytes (count - done) (place + at) (drop at bytes) (omega (arith, lt)) (omega (arith, left, two)) in
    let fewer : count - done - 1 ≡ count - (done + 1) = omega arith in
    let on : place + at + 2 ≡ place + (at + 2) = omega arith in
    rw (fewer, on, drop-drop 2 at bytes) at step

pub runs_more : (count place : ℕ) (bytes : List ℕ) (done at : ℕ) (runs : List ℕ) (x : ℕ)
    → RunsSoFar count place bytes done at runs → done < count
    → at + 2 ≤ length bytes
    → x ≡ big_number 2 (drop at bytes) → (x == 0) ≡ false
    → RunsSoFar count place bytes (done + 1) (at + 2) (runs ++ x ∷ [])
runs_more count place bytes done at runs x s lt two is some =
    let step = rw (← is, some) at (run_step count place bytes done at runs s lt two) in
    let number = s.number in
    let place_is = s.at_is in
    record {
      read = s.read ∙ ap (after_first runs) step
          ∙ after_one runs x (runs_at (count - (done + 1)) (place + (at + 2)) (drop (at + 2) bytes));
      number = omega (arith, number, length_last runs x);
      at_is = omega (arith, place_is);
      within = two;
    }
  where
    length_last : (xs : List ℕ) (x : ℕ) → length (xs ++ x ∷ []) ≡ length xs + 1
    length_last [] x = refl
    length_last (y ∷ xs) x = let h = length_last xs x in omega (arith, h)

pub runs_bad : (count place : ℕ) (bytes : List ℕ) (done at : ℕ) (runs : List ℕ) (x : ℕ)
    → RunsSoFar count place bytes done at runs → done < count
    → at + 2 ≤ length bytes
    → x ≡ big_number 2 (drop at bytes) → (x == 0) ≡ true → runs_at count (place + 1) (drop 1 bytes)
    ≡ bad (fault.Run (place + at))
runs_bad count place bytes done at runs x s lt two is none =
    let step = rw (← is, none) at (run_step count place bytes done at runs s lt two) in
    s.read ∙ ap (after_first runs) step

less_than_two : (left place : ℕ) (bytes : List ℕ) → 1 ≤ left → length bytes < 2 → runs_at left place bytes ≡ short
less_than_two zero place bytes some two = absurd (omega (arith, some))
less_than_two (suc left) place [] some two = refl
less_than_two (suc left) place (high ∷ []) some two = refl
less_than_two (suc left) place (high ∷ low ∷ more) some two = absurd (omega (arith, two))

pub runs_short : (count place : ℕ) (bytes : List ℕ) (done at : ℕ) (runs : List ℕ)
    → RunsSoFar count place bytes done at runs → done < count
    → length bytes < at + 2
    → runs_at count (place + 1) (drop 1 bytes) ≡ short
runs_short count place bytes done at runs s lt less =
    let left = length-drop at bytes in
    s.read ∙ ap (after_first runs)
    (less_than_two (count - done) (place + at) (drop at bytes) (omega (arith, lt)) (omega (arith, left, less)))

-- a line by its number of runs
pub line_is : (place d : ℕ) (bytes : List ℕ) → 1 ≤ length bytes
    → line_at place bytes
    ≡ (if is_run_count (get_or bytes 0 d) then runs_at (get_or bytes 0 d) (place + 1) (drop 1 bytes) else bad
    (fault.RunCount place))
line_is place d [] some = absurd (omega (arith, some))
line_is place d (count ∷ more) some = refl

-- ---- the lines of a field

line_step : (left place : ℕ) (bytes : List ℕ) (v : Front (List ℕ)) → 1 ≤ left → line_at place bytes ≡ v
    → lines_at left place bytes ≡ line_then v (after_line (left - 1) place bytes)
line_step zero place bytes v some is = absurd (omega (arith, some))
line_step (suc left) place bytes v some is = rw (one_less left, is) refl

pub record LinesSoFar (header : LineHeader) (count place : ℕ) (bytes : List ℕ) (done width : ℕ)
    (reader : answers.FieldState) : Type 0 where
  pub lines : List (List ℕ)
  pub said : answers.StandsFor reader lines
  pub system : reader.system ≡ header.system
  pub line_length : reader.length ≡ header.length
  pub read : lines_at count (place + 1) (drop 1 bytes) ≡ after_first lines
      (lines_at (count - done) (place + width) (drop width bytes))
  pub width_is : width ≡ field_width lines
  pub within : width ≤ length bytes
  pub few : width ≤ 1 + 179 * done

pub no_lines : (header : LineHeader) (count place : ℕ) (bytes : List ℕ) (reader : answers.FieldState) → 1 ≤ length bytes
    → answers.StandsFor reader []
    → reader.system ≡ header.system → reader.length ≡ header.length → LinesSoFar header count place bytes 0 1 reader
no_lines header count place bytes reader some said system size = record {
  lines = [];
  said = said;
  system = system;
  line_length = size;
  read = rw (none_taken count) (after_none (lines_at count (place + 1) (drop 1 bytes)));
  width_is = refl;
  within = some;
  few = omega arith;
}

width_last : (lines : List (List ℕ)) (runs : List ℕ) → lines_width (lines ++ runs ∷ []) ≡ lines_width lines + line_width
    runs
width_last [] runs = omega arith
width_last (r ∷ lines) runs = let h = width_last lines runs in omega (arith, h)

pub lines_more : (header : LineHeader) (count place : ℕ) (bytes : List ℕ) (done width : ℕ)
    (reader next : answers.FieldState) (runs : List ℕ)
    → (s : LinesSoFar header count place bytes done width reader) → done < count
    → line_at (place + width) (drop width bytes) ≡ whole runs
    → answers.StandsFor next (s.lines ++ runs ∷ []) → next.system ≡ reader.system → next.length ≡ reader.length
    → LinesSoFar header count place bytes (done + 1) (width + (1 + 2 * length runs)) next
lines_more header count place bytes done width reader next runs s lt line said system size =
    let w = line_width runs in
    let o = own_line (place + width) (drop width bytes) runs line in
    let step = line_step (count - done) (place + width) (drop width bytes) (whole runs) (omega (arith, lt)) line in
    let fewer : count - done - 1 ≡ count - (done + 1) = omega arith in
    let on : place + width + w ≡ place + (width + w) = omega arith in
    let step' = rw (fewer, on, drop-drop w width bytes) at step in
    let width_is = s.width_is in
    let left = length-drop width bytes in
    let here = o.within in
    let before = s.within in
    let few = s.few in
    let most = o.line.1 in
    record {
      lines = s.lines ++ runs ∷ [];
      said = said;
      system = system ∙ s.system;
      line_length = size ∙ s.line_length;
      read = s.read ∙ ap (after_first s.lines) step'
          ∙ after_one s.lines runs (lines_at (count - (done + 1)) (place + (width + w)) (drop (width + w) bytes));
      width_is = omega (arith, width_is, width_last s.lines runs);
      within = omega (arith, left, here, before);
      few = omega (arith, few, most);
    }

pub lines_short : (header : LineHeader) (count place : ℕ) (bytes : List ℕ) (done width : ℕ)
    (reader : answers.FieldState)
    → LinesSoFar header count place bytes done width reader → done < count → line_at (place + width) (drop width bytes)
    ≡ short
    → lines_at count (place + 1) (drop 1 bytes) ≡ short
lines_short header count place bytes done width reader s lt line =
    s.read ∙ ap (after_first s.lines)
    (line_step (count - done) (place + width) (drop width bytes) short (omega (arith, lt)) line)

pub lines_bad : (header : LineHeader) (count place : ℕ) (bytes : List ℕ) (done width : ℕ) (reader : answers.FieldState)
    (f : LineFileFault)
    → LinesSoFar header count place bytes done width reader → done < count → line_at (place + width) (drop width bytes)
    ≡ bad f
    → lines_at count (place + 1) (drop 1 bytes) ≡ bad f
lines_bad header count place bytes done width reader f s lt line =
    s.read ∙ ap (after_first s.lines)
    (line_step (count - done) (place + width) (drop width bytes) (bad f) (omega (arith, lt)) line)

-- ---- a line again

-- if the bytes of a slice begin with those of another
pub stands_behind : (bytes : List ℕ) (at last : ℕ) (r : Bool) → at ≤ length bytes → last ≤ at
    → r ≡ starts_with eqb (take (length bytes - at) (drop at bytes)) (take (at - (at - last)) (drop (at - last) bytes))
    → r ≡ true
    → drop at bytes ≡ take last (drop (at - last) bytes) ++ drop last (drop at bytes)
stands_behind bytes at last r within le is yes_it_does =
    let size : at - (at - last) ≡ last = omega (arith, le) in
    let is' : r ≡ starts_with eqb (drop at bytes) (take last (drop (at - last) bytes)) =
    rw (take_rest bytes at, size) at is in
    let left = length-drop (at - last) bytes in
    let long : length (take last (drop (at - last) bytes)) ≡ last = length-take-le last (drop (at - last) bytes)
    (omega (arith, left, within, le)) in
    let e = (starts_is Decides-eqb (drop at bytes) (take last (drop (at - last) bytes)) r is').0 yes_it_does in
    e ∙ ap (λ (n : ℕ). take last (drop (at - last) bytes) ++ drop n (drop at bytes)) long

-- runs that are whole are so at whatever place
run_anywhere : (count place other high low : ℕ) (rest runs : List ℕ) (b : Bool)
    → (if b then bad (fault.Run place) else with_first (big_number 2 (high ∷ low ∷ rest))
    (runs_at count (place + 2) rest)) ≡ whole runs
    → ((rs : List ℕ) → runs_at count (place + 2) rest ≡ whole rs → runs_at count (other + 2) rest ≡ whole rs)
    → (if b then bad (fault.Run other) else with_first (big_number 2 (high ∷ low ∷ rest))
    (runs_at count (other + 2) rest)) ≡ whole runs
run_anywhere count place other high low rest runs true e later = absurd cc
run_anywhere count place other high low rest runs false e later =
    let f = first_whole (big_number 2 (high ∷ low ∷ rest)) (runs_at count (place + 2) rest) runs e in
    rw (later f.0 f.1) (ap (λ (l : List ℕ). whole l) (sym f.2))

runs_anywhere : (count place other : ℕ) (bytes runs : List ℕ) → runs_at count place bytes ≡ whole runs
    → runs_at count other bytes ≡ whole runs
runs_anywhere zero place other bytes runs e = e
runs_anywhere (suc count) place other [] runs e = absurd cc
runs_anywhere (suc count) place other (high ∷ []) runs e = absurd cc
runs_anywhere (suc count) place other (high ∷ low ∷ rest) runs e =
    run_anywhere count place other high low rest runs (big_number 2 (high ∷ low ∷ rest) == 0) e
    (runs_anywhere count (place + 2) (other + 2) rest)

line_anywhere : (place other : ℕ) (bytes runs : List ℕ) → line_at place bytes ≡ whole runs
    → line_at other bytes ≡ whole runs
line_anywhere place other [] runs e = absurd cc
line_anywhere place other (count ∷ rest) runs e = by_test (is_run_count count) e
  where
    by_test : (b : Bool) → (if b then runs_at count (place + 1) rest else bad (fault.RunCount place)) ≡ whole runs
        → (if b then runs_at count (other + 1) rest else bad (fault.RunCount other)) ≡ whole runs
    by_test true h = runs_anywhere count (place + 1) (other + 1) rest runs h
    by_test false h = absurd cc

-- the line before, of `width` bytes, is the last that was read
pub record LastLine (bytes : List ℕ) (width last : ℕ) (lines : List (List ℕ)) : Type 0 where
  pub before : List (List ℕ)
  pub runs : List ℕ
  pub lines_are : lines ≡ before ++ runs ∷ []
  pub last_is : last ≡ line_width runs
  pub line : (place : ℕ) → line_at place (drop (width - last) bytes) ≡ whole runs

-- the lines so far, and the line before
pub record LinesWithLast (header : LineHeader) (count place : ℕ) (bytes : List ℕ) (done width last : ℕ)
    (reader : answers.FieldState) : Type 0 where
  pub far : LinesSoFar header count place bytes done width reader
  pub within : last ≤ width
  pub before : 1 ≤ last → LastLine bytes width last far.lines

pub no_last : (header : LineHeader) (count place : ℕ) (bytes : List ℕ) (reader : answers.FieldState)
    → LinesSoFar header count place bytes 0 1 reader
    → LinesWithLast header count place bytes 0 1 0 reader
no_last header count place bytes reader s =
    record { far = s; within = omega arith; before = λ some. absurd (omega (arith, some)) }

-- one line more, which was read
pub last_more : (header : LineHeader) (count place : ℕ) (bytes : List ℕ) (done width : ℕ)
    (reader next : answers.FieldState) (runs : List ℕ)
    → (s : LinesSoFar header count place bytes done width reader) → done < count
    → line_at (place + width) (drop width bytes) ≡ whole runs
    → answers.StandsFor next (s.lines ++ runs ∷ []) → next.system ≡ reader.system → next.length ≡ reader.length
    → LinesWithLast header count place bytes (done + 1) (width + (1 + 2 * length runs)) (1 + 2 * length runs) next
unfolding lines_more
last_more header count place bytes done width reader next runs s lt line said system size =
    let at : width + (1 + 2 * length runs) - (1 + 2 * length runs) ≡ width = omega arith in
    record {
      far = lines_more header count place bytes done width reader next runs s lt line said system size;
      within = omega arith;
      before = λ some. record {
        before = s.lines;
        runs = runs;
        lines_are = refl;
        last_is = refl;
        line = λ other. rw at (line_anywhere (place + width) other (drop width bytes) runs line);
      };
    }

-- one line more, which is the line before again
pub last_again : (header : LineHeader) (count place : ℕ) (bytes : List ℕ) (done width last : ℕ)
    (reader : answers.FieldState)
    → LinesWithLast header count place bytes done width last reader → done < count → 1 ≤ last
    → drop width bytes ≡ take last (drop (width - last) bytes) ++ drop last (drop width bytes)
    → ((lines : List (List ℕ)) (line : List ℕ) → answers.StandsFor reader (lines ++ line ∷ [])
    → answers.StandsFor reader ((lines ++ line ∷ []) ++ line ∷ []))
    → LinesWithLast header count place bytes (done + 1) (width + last) last reader
last_again header count place bytes done width last reader s lt some same again =
    let l = s.before some in
    let own = own_line (place + width) (drop (width - last) bytes) l.runs (l.line (place + width)) in
    let line : line_at (place + width) (drop width bytes) ≡ whole l.runs =
    ap (line_at (place + width)) same ∙ rw (← l.last_is) at (own.own (drop last (drop width bytes))) in
    let said = rw (← l.lines_are) at (again l.before l.runs (rw l.lines_are at s.far.said)) in
    rw (← l.last_is) at (last_more header count place bytes done width reader reader l.runs s.far lt line said refl
    refl)

-- a field by its number of lines
pub field_is : (place d : ℕ) (bytes : List ℕ) → 1 ≤ length bytes
    → field_at place bytes
    ≡ (if nat_le (get_or bytes 0 d) MAX_LINES then lines_at (get_or bytes 0 d) (place + 1) (drop 1 bytes) else bad
    (fault.LineCount place))
field_is place d [] some = absurd (omega (arith, some))
field_is place d (count ∷ more) some = refl

-- ---- where the loops are

pub some_bytes : (bytes : List ℕ) (e : Bool) → e ≡ (length bytes == 0) → e ≡ false → 1 ≤ length bytes
some_bytes [] e is not_empty = absurd cc
some_bytes (b ∷ bytes) e is not_empty = omega arith

pub by_runs : (place : ℕ) (bytes : List ℕ) (b : Bool) (front : Front (List ℕ)) → 1 ≤ length bytes
    → b ≡ is_run_count (get_or bytes 0 0) → b ≡ true
    → runs_at (get_or bytes 0 0) (place + 1) (drop 1 bytes) ≡ front → line_at place bytes ≡ front
by_runs place bytes b front some is good read = let counted : is_run_count (get_or bytes 0 0) ≡ true = sym is ∙ good in
    line_is place 0 bytes some
    ∙ rw counted read

pub by_lines : (place : ℕ) (bytes : List ℕ) (front : Front (List (List ℕ))) → 1 ≤ length bytes
    → get_or bytes 0 0 ≤ MAX_LINES
    → lines_at (get_or bytes 0 0) (place + 1) (drop 1 bytes) ≡ front → field_at place bytes ≡ front
by_lines place bytes front some few read = let counted = le-leb (get_or bytes 0 0) MAX_LINES few in
    field_is place 0 bytes some ∙ rw counted read
