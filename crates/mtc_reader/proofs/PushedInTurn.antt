-- What is appended in three pushes.
use Rattle.std.proofs.Common.{◌≡◌, ℕ, List, ◌++◌, ◌∙◌, append_assoc}

pub three_pushes : (old one two three a b c : List ℕ) → one ≡ old ++ a → two ≡ one ++ b → three ≡ two ++ c
    → three ≡ old ++ ((a ++ b) ++ c)
three_pushes old one two three a b c first second third = third ∙ rw (second, first) (simp append_assoc)
