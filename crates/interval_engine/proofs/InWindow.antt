-- What comes first in a window of the rest of some bytes comes first in the rest.
use Rattle.std.proofs.Common.{◌≡◌, ℕ, ◌+◌, ◌-◌, ◌≤◌, List, ◌++◌, length, take, drop, sym, ◌∙◌, subst, arith}
use Rattle.std.proofs.lemmas.Grind.{common_steps}
use Rattle.std.proofs.lemmas.List.{take-take}
use Rattle.tc_command.specs.KeptBrings.{Brings, brings_more}
use Rattle.lemmas.specs.Lists.{cut_more}

in_window : (k n m : ℕ) (bytes : List ℕ) → k + m ≤ length bytes → n ≤ m
    → take n (take (length bytes - k) (drop k bytes)) ≡ take n (take m (drop k bytes))
in_window k n m bytes within less =
    take-take n (length bytes - k) (drop k bytes) (omega (arith, within, less))
    ∙ sym (take-take n m (drop k bytes) less)

pub within_window : (k n m : ℕ) (bytes : List ℕ) → n ≤ length (take m (drop k bytes)) → n ≤ m
within_window k n m bytes less = grind (arith, common_steps)

cut_window : (k n m : ℕ) (bytes : List ℕ) → k + m ≤ length bytes → n ≤ m
    → take k bytes ++ take n (take m (drop k bytes)) ≡ take (k + n) bytes
cut_window k n m bytes within less =
    subst (λ (l : List ℕ). take k bytes ++ l ≡ take (k + n) bytes) (in_window k n m bytes within less)
    (cut_more k n bytes)

-- a step in the window
pub works_in_window : {O : Type 0} (given : O → O → List ℕ → Type 0) (start mid after : List ℕ → List ℕ → Type 0)
    (old between new : O) (k n m : ℕ) (bytes : List ℕ)
    → ((x y : List ℕ) → given old between x → given between new y → given old new (x ++ y))
    → k + m ≤ length bytes → n ≤ length (take m (drop k bytes))
    → Brings given start mid old between (take k bytes)
    → Brings given mid after between new (take n (take m (drop k bytes)))
    → Brings given start after old new (take (k + n) bytes)
works_in_window given start mid after old between new k n m bytes join within less first second =
    subst (λ (b : List ℕ). Brings given start after old new b)
    (cut_window k n m bytes within (within_window k n m bytes less))
    (brings_more given start mid after old between new (take k bytes) (take n (take m (drop k bytes))) join first
    second)
