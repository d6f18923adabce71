-- The lines of rows: there is room for the next one if there is room for all that are left.
use Rattle.std.proofs.Common.{◌≡◌, ℕ, suc, ◌+◌, ◌<◌, ◌≤◌, List, ◌++◌, length, drop, map, get_or, arith}
use Rattle.std.proofs.Common.{◌∙◌, ap, ap₂, append_assoc}
use Rattle.std.specs.Prelude.{codes}
use Rattle.std.proofs.Math.Seq.{drop-cons}
use Rattle.std.proofs.lemmas.List.{length-append}
use Rattle.made_commands.specs.About.{Usage, usage_line, usage_lines}

pub a_line_fits : {X : Type 0} (bytes : X → Usage) (rows : List X) (index : ℕ) (d : X) → index < length rows
    → length (usage_line (bytes (get_or rows index d))) ≤ length (usage_lines (map bytes (drop index rows)))
a_line_fits bytes rows index d lt =
    let first = usage_line (bytes (get_or rows index d)) in
    let more = usage_lines (map bytes (drop (suc index) rows)) in
    rw (drop-cons rows index d lt) (omega (arith, length-append first more))

-- a line that is put part by part
pub line_in_parts : (before first second after a b command values : List ℕ) → first ≡ before ++ a → second ≡ first ++ b
    → after ≡ second ++ codes "\n" → a ≡ command → b ≡ values → after ≡ before ++ usage_line (command, values)
line_in_parts before first second after a b command values one two three is_command are_values =
    three ∙ ap (λ (l : List ℕ). l ++ codes "\n") (two ∙ ap (λ (l : List ℕ). l ++ b) one ∙ append_assoc before a b)
    ∙ append_assoc before (a ++ b) (codes "\n")
    ∙ ap₂ (λ (x y : List ℕ). before ++ usage_line (x, y)) is_command are_values

-- and how long it is
pub line_long : (a b command values : List ℕ) → a ≡ command → b ≡ values
    → length (usage_line (command, values)) ≡ length a + length b + 1
line_long a b command values is_command are_values =
    let both = length-append command values in
    let end = length-append (command ++ values) (codes "\n") in
    omega (arith, both, end, ap length is_command, ap length are_values)
