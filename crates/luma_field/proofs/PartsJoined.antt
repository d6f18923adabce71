-- Parts of one length that were joined are taken apart again.
use Rattle.std.proofs.Common.{◌≡◌, ℕ, ◌+◌, ◌*◌, ◌/◌, ◌<◌, List, [], ◌∷◌, ◌++◌, length, take, drop, refl, ap, ap₂, ◌∙◌}
use Rattle.std.proofs.Common.{arith}
use Rattle.std.proofs.Common.{append_assoc, length-append}
use Rattle.std.specs.List.{concat, All}
use Rattle.std.proofs.lemmas.Nat.{div-mul-add}
use Rattle.std.proofs.lemmas.List.{take_at, drop_at}
use Rattle.std.proofs.lemmas.List.Elements.{All-head, All-tail}
use Rattle.luma_field.specs.Parts.{parts, whole_parts}

abbrev pub AreLong : ℕ → List (List ℕ) → Type 0
AreLong size rows = All (λ row. length row ≡ size) rows

long_first : (size : ℕ) (row : List ℕ) (rows : List (List ℕ)) → AreLong size (row ∷ rows) → length row ≡ size
long_first size row rows all = All-head (λ r. length r ≡ size) row rows all

long_rest : (size : ℕ) (row : List ℕ) (rows : List (List ℕ)) → AreLong size (row ∷ rows) → AreLong size rows
long_rest size row rows all = All-tail (λ r. length r ≡ size) row rows all

parts_of_joined : (size : ℕ) (rows : List (List ℕ)) (rest : List ℕ) → AreLong size rows
    → parts (length rows) size (concat rows ++ rest) ≡ rows
unfolding parts
parts_of_joined size [] rest all = refl
parts_of_joined size (row ∷ rows) rest all =
    let long = long_first size row rows all in
    let apart = append_assoc row (concat rows) rest in
    let first : take size ((row ++ concat rows) ++ rest) ≡ row =
    ap (take size) apart ∙ take_at row (concat rows ++ rest) size long in
    let behind : drop size ((row ++ concat rows) ++ rest) ≡ concat rows ++ rest =
    ap (drop size) apart ∙ drop_at row (concat rows ++ rest) size long in
    ap₂ (λ (r : List ℕ) (rs : List (List ℕ)). r ∷ rs) first
    (ap (parts (length rows) size) behind ∙ parts_of_joined size rows rest (long_rest size row rows all))

pub length-joined : (size : ℕ) (rows : List (List ℕ)) → AreLong size rows → length (concat rows) ≡ length rows * size
length-joined size [] all = omega arith
length-joined size (row ∷ rows) all =
    let long = long_first size row rows all in
    let more = length-joined size rows (long_rest size row rows all) in
    let whole = length-append row (concat rows) in
    omega (arith, long, more, whole)

-- what lies behind them is shorter
pub whole_of_joined : (size : ℕ) (rows : List (List ℕ)) (rest : List ℕ) → AreLong size rows → length rest < size
    → whole_parts size (concat rows ++ rest) ≡ rows
whole_of_joined size rows rest all short =
    let whole = length-append (concat rows) rest in
    let joined = length-joined size rows all in
    let long : length (concat rows ++ rest) ≡ length rows * size + length rest = omega (arith, whole, joined) in
    ap (λ (n : ℕ). parts (n / size) size (concat rows ++ rest)) long
    ∙ ap (λ (n : ℕ). parts n size (concat rows ++ rest)) (div-mul-add (length rows) size (length rest) short)
    ∙ parts_of_joined size rows rest all
