-- The parts of bytes, one after another, are these bytes.
use Rattle.std.proofs.Common.{◌≡◌, ℕ, Bool, true, false, List, [], ◌∷◌, ◌++◌, refl, ap, ◌∙◌, if◌then◌else◌}
use Rattle.label_columns.specs.Parts.{Part, in_front, joined, part_of, parted}

joined_front : (byte : ℕ) (parts : List Part) → joined (in_front byte parts) ≡ byte ∷ joined parts
joined_front byte [] = refl
joined_front byte (part ∷ parts) = refl

pub joined_parted : (ends : ℕ → Bool) (bytes : List ℕ) → joined (parted ends bytes) ≡ bytes
unfolding parted
joined_parted ends [] = refl
joined_parted ends (byte ∷ bytes) = by_byte (ends byte) (joined_parted ends bytes)
  where
    by_byte : (is : Bool) → joined (parted ends bytes) ≡ bytes
        → joined (if is then part_of [] (byte ∷ []) ∷ parted ends bytes else in_front byte (parted ends bytes))
        ≡ byte ∷ bytes
    by_byte true rest = ap (λ (l : List ℕ). byte ∷ l) rest
    by_byte false rest = joined_front byte (parted ends bytes) ∙ ap (λ (l : List ℕ). byte ∷ l) rest
