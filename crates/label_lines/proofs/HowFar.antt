-- How far a line fits a form: a byte more if the next one may come, and no further if it may not or none is
-- left.
use Rattle.std.proofs.Common.{◌≡◌, ℕ, ◌+◌, ◌<◌, true, false, List, [], ◌∷◌, length, drop, get_or, refl, arith}
use Rattle.std.proofs.lemmas.List.{drop_more}
use Rattle.label_lines.specs.Forms.{fitting, may_stand}

-- a byte more
pub fits_one_more : (form line : List ℕ) (i : ℕ) → i < length form → i < length line
    → may_stand (get_or form i 0) (get_or line i 0) ≡ true
    → fitting (drop i form) (drop i line) ≡ 1 + fitting (drop (i + 1) form) (drop (i + 1) line)
unfolding fitting
fits_one_more form line i within there stands = rw (drop_more form i 0 within, drop_more line i 0 there, stands) refl

-- a byte that may not come
pub fits_no_more : (form line : List ℕ) (i : ℕ) → i < length form → i < length line
    → may_stand (get_or form i 0) (get_or line i 0) ≡ false → fitting (drop i form) (drop i line) ≡ 0
unfolding fitting
fits_no_more form line i within there stands = rw (drop_more form i 0 within, drop_more line i 0 there, stands) refl

-- the end of the form, or of the line
pub no_form : (form line : List ℕ) → length form ≡ 0 → fitting form line ≡ 0
unfolding fitting
no_form [] line e = refl
no_form (place ∷ form) line e = absurd (omega (arith, e))

pub no_line : (form line : List ℕ) → length line ≡ 0 → fitting form line ≡ 0
unfolding fitting
no_line [] line e = refl
no_line (place ∷ form) [] e = refl
no_line (place ∷ form) (byte ∷ line) e = absurd (omega (arith, e))
