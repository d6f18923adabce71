-- Cells that move by a step towards a length are a chain: no step is more than an eighth of a cell, and halves differ
-- by one tick at most.
use Rattle.std.proofs.Common.{◌≡◌, ℕ, suc, ◌+◌, ◌-◌, ◌*◌, ◌/◌, ◌≤◌, List, [], ◌∷◌, Bool, true, false, refl, sym, subst}
use Rattle.std.proofs.Common.{arith}
use Rattle.std.specs.List.{All}
use Rattle.std.proofs.lemmas.List.Elements.{All-append, All-cons, All-nil}
use Rattle.limits.specs.declared.recording.TheConstants.{MAX_INTERVAL}
use Rattle.biphase.specs.declared.profile.Profile.TheVariants.{Normal}
use Rattle.biphase.specs.declared.cell.Cell.{Cell}
use Rattle.biphase.specs.Tolerance.{length_of}
use Rattle.biphase.specs.Chain.{intervals_of, flat, bit_of, bits, IsCell, IsNear, IsChainAfter, IsChain}
use Rattle.biphase.specs.Shape.{Shape, IsShape, IsShaped, moved, length_at, cell_with, shaped_from, shaped}

-- the shape of the cells behind the first
abbrev pub behind : Shape → Shape
behind shape = record shape { from = moved shape.step shape.from shape.to }

step_more : (k step : ℕ) → suc k * step ≡ k * step + step
step_more k step = grind arith

moved_twice : (p step from to : ℕ) → moved (p + step) from to ≡ moved p (moved step from to) to
moved_twice p step from to = omega arith

-- a cell behind the first is as far in the shape that goes on there
length_behind : (shape : Shape) (k : ℕ) → length_at shape (suc k) ≡ length_at (behind shape) k
length_behind shape k = rw (step_more k shape.step) (moved_twice (k * shape.step) shape.step shape.from shape.to)

pub from_behind : (shape : Shape) (k : ℕ) (list : List Bool)
    → shaped_from shape (suc k) list ≡ shaped_from (behind shape) k list
unfolding shaped_from
from_behind shape k [] = refl
from_behind shape k (bit ∷ list) = rw (length_behind shape k, from_behind shape (suc k) list) refl

length_first : (shape : Shape) → length_at shape 0 ≡ shape.from
length_first shape = let e : 0 * shape.step ≡ 0 = omega arith in rw e (omega arith)

-- the first cell, and the cells of the shape that goes on there
pub shaped_cons : (shape : Shape) (bit : Bool) (list : List Bool) → shaped shape (bit ∷ list) ≡ cell_with shape.from bit
    ∷ shaped (behind shape) list
unfolding shaped_from
shaped_cons shape bit list = rw (length_first shape, from_behind shape 0 list) refl

-- it goes on within the same lengths
pub behind_is : (shape : Shape) → IsShape shape → IsShape (behind shape)
behind_is shape is =
    let low = is.from.0 in
    let high = is.from.1 in
    let low_to = is.to.0 in
    let high_to = is.to.1 in
    let step = is.step in
    record { from = (omega arith, omega arith); to = is.to; step = omega arith }

-- ---- a chain

length_with : (c : ℕ) (bit : Bool) → length_of (cell_with c bit) ≡ c
length_with c true = omega arith
length_with c false = refl

bit_with : (c : ℕ) (bit : Bool) → bit_of (cell_with c bit) ≡ bit
bit_with c true = refl
bit_with c false = refl

is_cell : (c : ℕ) (bit : Bool) → 16 ≤ c → IsCell Normal (cell_with c bit)
is_cell c true long = (omega arith, omega arith, omega arith)
is_cell c false long = omega arith

is_near : (shape : Shape) → IsShape shape → IsNear Normal shape.from (behind shape).from
is_near shape is = let step = is.step in omega arith

chain_behind : (shape : Shape) (c : ℕ) (list : List Bool) → IsShape shape → IsNear Normal c shape.from
    → IsChainAfter Normal c (shaped shape list)
unfolding shaped_from
chain_behind shape c [] is near = tt
chain_behind shape c (bit ∷ list) is near =
    let next = behind shape in
    let rest : IsChainAfter Normal shape.from (shaped next list) =
    chain_behind next shape.from list (behind_is shape is) (is_near shape is) in
    let whole : IsChainAfter Normal c (cell_with shape.from bit ∷ shaped next list) =
    (is_cell shape.from bit is.from.0, rw (length_with shape.from bit) near, rw (length_with shape.from bit) rest) in
    let P : List Cell → Type 0 = λ cells. IsChainAfter Normal c cells in
    subst P (sym (shaped_cons shape bit list)) whole

pub shaped_is_a_chain : (shape : Shape) (list : List Bool) → IsShape shape → IsChain Normal (shaped shape list)
unfolding shaped_from
shaped_is_a_chain shape [] is = tt
shaped_is_a_chain shape (bit ∷ list) is =
    let next = behind shape in
    let rest : IsChainAfter Normal shape.from (shaped next list) =
    chain_behind next shape.from list (behind_is shape is) (is_near shape is) in
    let whole : IsChain Normal (cell_with shape.from bit ∷ shaped next list) =
    (is_cell shape.from bit is.from.0, rw (length_with shape.from bit) rest) in
    let P : List Cell → Type 0 = λ cells. IsChain Normal cells in
    subst P (sym (shaped_cons shape bit list)) whole

-- the cells have the bits
pub bits_of_shaped : (shape : Shape) (k : ℕ) (list : List Bool) → bits (shaped_from shape k list) ≡ list
unfolding shaped_from
bits_of_shaped shape k [] = refl
bits_of_shaped shape k (bit ∷ list) = rw (bit_with (length_at shape k) bit, bits_of_shaped shape (suc k) list) refl

-- ---- intervals

-- an interval that is in a file
abbrev pub IsInterval : ℕ → Type 0
IsInterval x = (1 ≤ x) × (x ≤ MAX_INTERVAL)

lasts : (c : ℕ) (bit : Bool) → IsShaped c → All IsInterval (intervals_of (cell_with c bit))
lasts c true is =
    let low = is.0 in let high = is.1 in
    All-cons IsInterval (c / 2) ((c - c / 2) ∷ []) (omega arith, omega arith)
    (All-cons IsInterval (c - c / 2) [] (omega arith, omega arith) (All-nil IsInterval))
lasts c false is = let low = is.0 in let high = is.1 in All-cons IsInterval c [] (omega arith, omega arith)
    (All-nil IsInterval)

pub shaped_intervals : (shape : Shape) (list : List Bool) → IsShape shape → All IsInterval (flat (shaped shape list))
unfolding shaped_from
shaped_intervals shape [] is = All-nil IsInterval
shaped_intervals shape (bit ∷ list) is =
    let next = behind shape in
    let rest : All IsInterval (flat (shaped next list)) = shaped_intervals next list (behind_is shape is) in
    let whole = All-append IsInterval (intervals_of (cell_with shape.from bit)) (flat (shaped next list))
    (lasts shape.from bit is.from) rest in
    let P : List Cell → Type 0 = λ cells. All IsInterval (flat cells) in
    subst P (sym (shaped_cons shape bit list)) whole
