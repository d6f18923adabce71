-- A line file is made field by field: what was written and what is still to be made are the whole.
use Rattle.std.proofs.Common.{◌≡◌, None, ℕ, zero, suc, ◌+◌, false, true}
use Rattle.std.proofs.Common.{List, [], ◌∷◌, ◌++◌, length, refl, sym, ap, ap₂}
use Rattle.std.proofs.Common.{◌∙◌, append_assoc, arith}
use Rattle.std.specs.Prelude.{ℤ, pos, ◌+ℤ◌, map}
use Rattle.std.specs.declared.option.Option.{Option}
use Rattle.std.specs.List.{flat_map, range_with_len}
use Rattle.std.proofs.lemmas.Int.{ints}
use Rattle.line_file.specs.Grammar.{field_bytes}
use Rattle.tc_address.specs.Label.{Address, IsLabel}
use Rattle.tc_address.specs.Numbering.{step}
use Rattle.vitc_line.specs.declared.word.VitcWord.{VitcWord}
use Rattle.made_commands.specs.KeptLines.{behind_head, frame_bytes}
use Rattle.made_commands.specs.MadeLines.{field_lines, field_word, words_from, words_of_frame}
use Rattle.made_commands.proofs.MadeInPieces.{NoStep, StepsAddUp}

-- ---- runs

-- ---- frames

flat_map_later : {A : Type 0} (f g : ℕ → List A) → ((k : ℕ) → f (suc k) ≡ g k) → (start count : ℕ)
    → flat_map f (range_with_len (start + 1) count) ≡ flat_map g (range_with_len start count)
flat_map_later f g same start zero = refl
flat_map_later {A} f g same start (suc count) =
    let rest = flat_map_later f g same (start + 1) count in
    let first : f (start + 1) ≡ g start = let e : start + 1 ≡ suc start = omega arith in rw e (same start) in
    ap₂ (λ (x xs : List A). x ++ xs) first rest

one_and_more : (k : ℕ) → pos 1 +ℤ pos k ≡ pos (suc k)
one_and_more k = omega (arith, ints)

-- the words of the first frame, and those from the next label on
pub words_from-more : NoStep → StepsAddUp → (label : Address) (frames : ℕ) → IsLabel label
    → words_from label (suc frames) ≡ field_word label false ∷ field_word label true ∷ words_from (step label (pos 1))
    frames
unfolding words_from
words_from-more none sum label frames valid =
    let f : ℕ → List VitcWord = λ k. words_of_frame (step label (pos k)) in
    let g : ℕ → List VitcWord = λ k. words_of_frame (step (step label (pos 1)) (pos k)) in
    let next : (k : ℕ) → f (suc k) ≡ g k =
    λ k. ap words_of_frame (ap (λ (j : ℤ). step label j) (sym (one_and_more k)) ∙ sym (sum label (pos 1) (pos k))) in
    let first : f 0 ≡ words_of_frame label = ap words_of_frame (none label valid) in
    let rest = flat_map_later f g next 0 frames in
    ap₂ (λ (x xs : List VitcWord). x ++ xs) first rest

-- a frame was written: its two fields
pub frame_written : NoStep → StepsAddUp → (length left frames : ℕ) (label : Address) (old middle new : List ℕ)
    → IsLabel label → left + 1 ≡ frames
    → middle ≡ old ++ field_bytes (field_lines length (field_word label false))
    → new ≡ middle ++ field_bytes (field_lines length (field_word label true))
    → new ++ frame_bytes length (step label (pos 1)) left ≡ old ++ frame_bytes length label frames
frame_written none sum length left frames label old middle new valid count first second =
    let a = field_bytes (field_lines length (field_word label false)) in
    let b = field_bytes (field_lines length (field_word label true)) in
    let rest = frame_bytes length (step label (pos 1)) left in
    let one : suc left ≡ frames = omega arith in
    let all : words_from label frames ≡ field_word label false ∷ field_word label true ∷ words_from (step label (pos 1))
    left =
    rw one at (words_from-more none sum label left valid) in
    let bytes : frame_bytes length label frames ≡ a ++ (b ++ rest) =
    ap (λ (words : List VitcWord). flat_map field_bytes (map (field_lines length) words)) all in
    ap (λ (l : List ℕ). l ++ rest) (second ∙ ap (λ (l : List ℕ). l ++ b) first)
    ∙ append_assoc (old ++ a) b rest ∙ append_assoc old a (b ++ rest) ∙ ap (λ (l : List ℕ). old ++ l) (sym bytes)

-- ---- the end

pub no_frame_left : (header : Option (List ℕ)) (length : ℕ) (label : Address) (frames : ℕ) → header ≡ None → frames ≡ 0
    → behind_head header (frame_bytes length label frames) ≡ []
unfolding words_from
no_frame_left header length label frames none zero_left = rw (none, zero_left) refl
