-- A text has one list of lines: newlines are only where they end.
use Rattle.std.proofs.Common.{◌≡◌, ℕ, List, [], ◌∷◌, ◌++◌, refl, sym, ap, ap₂, ◌∙◌, inl, inr}
use Rattle.std.proofs.Common.{append_assoc, append-nil}
use Rattle.std.specs.List.{AllByRecursion}
use Rattle.std.specs.Prelude.{◌≢◌}
use Rattle.std.proofs.lemmas.Bool.{cases_eq}
use Rattle.label_command.specs.TextLines.{HasLines, IsLine, ended, last_line}
use Rattle.label_command.proofs.LinesRead.{ended_first}

-- ---- there is one

-- bytes cut at their newlines, behind those of a line that has begun
record Cut (line bytes : List ℕ) : Type 0 where
  pub front : List (List ℕ)
  pub rest : List ℕ
  pub are : line ++ bytes ≡ ended front ++ rest
  pub each : AllByRecursion IsLine front
  pub last : IsLine rest

a_byte_longer : (line : List ℕ) (byte : ℕ) → IsLine line → byte ≢ 10 → IsLine (line ++ byte ∷ [])
a_byte_longer [] byte is other = (other, tt)
a_byte_longer (first ∷ line) byte is other = (is.0, a_byte_longer line byte is.1 other)

cut : (line bytes : List ℕ) → IsLine line → Cut line bytes
cut line [] is = record { front = []; rest = line; are = append-nil line; each = tt; last = is }
cut line (byte ∷ bytes) is = elim (cases_eq byte 10) [
  | inl newline ↦ (let more = cut [] bytes tt in
      record {
        front = line ∷ more.front;
        rest = more.rest;
        are = ap (λ (b : ℕ). line ++ b ∷ bytes) newline ∙ ap (λ (l : List ℕ). line ++ 10 ∷ l) more.are
            ∙ sym (ended_first line more.front more.rest);
        each = (is, more.each);
        last = more.last;
      })
  | inr other ↦ (let more = cut (line ++ byte ∷ []) bytes (a_byte_longer line byte is other) in
      record {
        front = more.front;
        rest = more.rest;
        are = sym (append_assoc line (byte ∷ []) bytes) ∙ more.are;
        each = more.each;
        last = more.last;
      })
]

pub lines_of_text : (text : List ℕ) → (lines : List (List ℕ)) × HasLines text lines
lines_of_text text =
    let all = cut [] text tt in (
      all.front ++ last_line all.rest,
      record {
        front = all.front;
        rest = all.rest;
        are = all.are;
        each = all.each;
        last = all.last;
        lines_are = refl;
      },
    )

-- ---- and no other

no_newline : (a bytes : List ℕ) → IsLine (a ++ 10 ∷ bytes) → ⊥
no_newline [] bytes is = is.0 refl
no_newline (first ∷ a) bytes is = no_newline a bytes is.1

same_first : (a b more other : List ℕ) → IsLine a → IsLine b → a ++ 10 ∷ more ≡ b ++ 10 ∷ other
    → (a ≡ b) × (more ≡ other)
same_first [] [] more other is too same = (refl, cc)
same_first [] (byte ∷ b) more other is too same = let newline : byte ≡ 10 = cc in absurd (too.0 newline)
same_first (byte ∷ a) [] more other is too same = let newline : byte ≡ 10 = cc in absurd (is.0 newline)
same_first (byte ∷ a) (first ∷ b) more other is too same =
    let next = same_first a b more other is.1 too.1 (cc) in
    let here : byte ≡ first = cc in
    (ap₂ (λ (x : ℕ) (l : List ℕ). x ∷ l) here next.0, next.1)

same_lines : (front others : List (List ℕ)) (rest last : List ℕ) → AllByRecursion IsLine front
    → AllByRecursion IsLine others → IsLine rest → IsLine last → ended front ++ rest ≡ ended others ++ last
    → (front ≡ others) × (rest ≡ last)
same_lines [] [] rest last each too is is_too same = (refl, same)
same_lines [] (line ∷ others) rest last each too is is_too same =
    absurd (is_none rest line (ended others ++ last) is (same ∙ ended_first line others last))
  where
    is_none : (rest line more : List ℕ) → IsLine rest → rest ≡ line ++ 10 ∷ more → ⊥
    is_none rest line more is same = no_newline line more (rw (← same) is)
same_lines (line ∷ front) [] rest last each too is is_too same =
    absurd (is_none last line (ended front ++ rest) is_too (sym same ∙ ended_first line front rest))
  where
    is_none : (rest line more : List ℕ) → IsLine rest → rest ≡ line ++ 10 ∷ more → ⊥
    is_none rest line more is same = no_newline line more (rw (← same) is)
same_lines (line ∷ front) (other ∷ others) rest last each too is is_too same =
    let here = same_first line other (ended front ++ rest) (ended others ++ last) each.0 too.0
    (sym (ended_first line front rest) ∙ same ∙ ended_first other others last) in
    let next = same_lines front others rest last each.1 too.1 is is_too here.1 in
    (ap₂ (λ (x : List ℕ) (l : List (List ℕ)). x ∷ l) here.0 next.0, next.1)

pub one_list : (text : List ℕ) (a b : List (List ℕ)) → HasLines text a → HasLines text b → a ≡ b
one_list text a b p q =
    let same = same_lines p.front q.front p.rest q.rest p.each q.each p.last q.last (sym p.are ∙ q.are) in
    p.lines_are ∙ ap₂ (λ (front : List (List ℕ)) (rest : List ℕ). front ++ last_line rest) same.0 same.1
    ∙ sym q.lines_are
