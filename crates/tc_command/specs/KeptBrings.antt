-- What was written of some bytes and then of those behind them was written of all of them, in order. No promise speaks
-- of it.
use Rattle.std.proofs.Common.{◌≡◌, ℕ, List, [], ◌++◌, subst, append_assoc, append-nil, sym}

-- bytes that were worked on take each state and what was written to a later state and more
abbrev pub Brings : {O : Type 0} → (O → O → List ℕ → Type 0) → (List ℕ → List ℕ → Type 0)
    → (List ℕ → List ℕ → Type 0) → O → O → List ℕ → Type 0
Brings given before after old new bytes = (front written : List ℕ) → before front written
    → (more : List ℕ) × given old new more × after (front ++ bytes) (written ++ more)

-- bytes behind each other
pub brings_more : {O : Type 0} (given : O → O → List ℕ → Type 0) (start mid after : List ℕ → List ℕ → Type 0)
    (a b c : O) (bytes more : List ℕ)
    → ((x y : List ℕ) → given a b x → given b c y → given a c (x ++ y))
    → Brings given start mid a b bytes → Brings given mid after b c more → Brings given start after a c (bytes ++ more)
brings_more given start mid after a b c bytes more join first then = λ front written stands.
    let f = first front written stands in
    let s = then (front ++ bytes) (written ++ f.0) f.2 in
    let behind : (front ++ bytes) ++ more ≡ front ++ (bytes ++ more) = append_assoc front bytes more in
    let all : (written ++ f.0) ++ s.0 ≡ written ++ (f.0 ++ s.0) = append_assoc written f.0 s.0 in (
      f.0 ++ s.0,
      join f.0 s.0 f.1 s.1,
      subst (λ (w : List ℕ). after (front ++ (bytes ++ more)) w) all
          (subst (λ (b : List ℕ). after b ((written ++ f.0) ++ s.0)) behind s.2),
    )

-- no bytes, of which nothing is written
pub brings_none : {O : Type 0} (given : O → O → List ℕ → Type 0) (stands : List ℕ → List ℕ → Type 0) (out : O)
    → given out out [] → Brings given stands stands out out []
brings_none given stands out none = λ front written is. (
  [],
  none,
  subst (λ (w : List ℕ). stands (front ++ []) w) (sym (append-nil written))
      (subst (λ (b : List ℕ). stands b written) (sym (append-nil front)) is),
)
