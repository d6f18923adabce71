-- Texts that were appended one after another were appended as one.
use Rattle.std.proofs.Common.{◌≡◌, ℕ, List, ◌++◌, ◌∙◌, ap, append_assoc}

pub seven : (old a b c d e f g : List ℕ) → old ++ a ++ b ++ c ++ d ++ e ++ f ++ g ≡ old
    ++ (a ++ b ++ c ++ d ++ e ++ f ++ g)
seven old a b c d e f g =
    let two = append_assoc old a b in
    let three = ap (λ (l : List ℕ). l ++ c) two ∙ append_assoc old (a ++ b) c in
    let four = ap (λ (l : List ℕ). l ++ d) three ∙ append_assoc old (a ++ b ++ c) d in
    let five = ap (λ (l : List ℕ). l ++ e) four ∙ append_assoc old (a ++ b ++ c ++ d) e in
    let six = ap (λ (l : List ℕ). l ++ f) five ∙ append_assoc old (a ++ b ++ c ++ d ++ e) f in
    ap (λ (l : List ℕ). l ++ g) six ∙ append_assoc old (a ++ b ++ c ++ d ++ e ++ f) g

pub four : (old a b c d : List ℕ) → old ++ a ++ b ++ c ++ d ≡ old ++ (a ++ b ++ c ++ d)
four old a b c d =
    let two = append_assoc old a b in
    let three = ap (λ (l : List ℕ). l ++ c) two ∙ append_assoc old (a ++ b) c in
    ap (λ (l : List ℕ). l ++ d) three ∙ append_assoc old (a ++ b ++ c) d
