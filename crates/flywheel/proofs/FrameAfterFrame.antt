-- The k-th invented frame after a word lies k labels after it, so each lies one label after the one before; and a
-- word that joins is the next of them.
use Rattle.std.proofs.Common.{◌≡◌, ℕ, zero, suc, ◌+◌, Bool, true, false, not, ◌&&◌, cond, ℤ, ◌+ℤ◌, List, [], ◌∷◌, ◌++◌}
use Rattle.std.proofs.Common.{length, map, Some, None, refl}
use Rattle.std.proofs.Common.{sym, ◌∙◌, ap, subst, append_assoc, append-nil, arith}
use Rattle.std.specs.Prelude.{◌↔◌}
use Rattle.std.specs.List.{range_with_len}
use Rattle.std.proofs.lemmas.Int.{ints}
use Rattle.tc_address.specs.declared.direction.Direction.{Direction}
use Rattle.tc_address.specs.declared.direction.Direction.TheVariants.{Forward, Backward}
use Rattle.tc_address.specs.Label.{Address}
use Rattle.tc_address.specs.Numbering.{step}
use Rattle.flywheel.specs.declared.heard.HeardWord.{HeardWord}
use Rattle.flywheel.specs.declared.frame.Frame.{Frame}
use Rattle.flywheel.specs.declared.frame.Frame.TheVariants.{Gone}
use Rattle.flywheel.specs.Frames.{due_steps, frames, frames_after, frames_between, heard_as, invented_after, is_gone}
use Rattle.flywheel.specs.Frames.{is_joined, is_next, label_after}
use Rattle.flywheel.specs.Frames.{steps_in, tick_after}
use Rattle.flywheel.specs.GoOn.{GoOn, Position, next_position}
use Rattle.flywheel.proofs.BoundedInvention.{due_steps-range}

-- that steps add up, and when a word is the next, are laws
abbrev pub AddUp : Type 0
AddUp = (a : Address) (j k : ℤ) → step (step a j) k ≡ step a (j +ℤ k)

abbrev pub Fit : Type 0
Fit = (before word : HeardWord) (k : ℕ)
    → (is_next before k word ≡ true) ↔ ((word.direction ≡ before.direction) × (word.label ≡ label_after before k))

abbrev place_with : Address → Direction → Position
place_with label direction = record { label = label; direction = direction }

-- where the tape is, n frames after a word
abbrev place_since : HeardWord → ℕ → Position
place_since word zero = place_with word.label word.direction
place_since word (suc n) = place_with (label_after word (suc n)) word.direction

steps_in-add : (direction : Direction) (n : ℕ) → steps_in direction n +ℤ steps_in direction 1 ≡ steps_in direction
    (suc n)
steps_in-add Forward n = omega (arith, ints)
steps_in-add Backward n = omega (arith, ints)

next-since : (sum : AddUp) (word : HeardWord) (n : ℕ) → next_position (place_since word n) ≡ place_since word (suc n)
next-since sum word zero = refl
next-since sum word (suc n) =
    let label : step (label_after word (suc n)) (steps_in word.direction 1) ≡ label_after word (suc (suc n)) =
    sum word.label (steps_in word.direction (suc n)) (steps_in word.direction 1)
    ∙ ap (step word.label) (steps_in-add word.direction (suc n)) in
    ap (λ l. place_with l word.direction) label

-- the invented frames of m steps behind step n
go_on-steps : (sum : AddUp) (word : HeardWord) (n m : ℕ) (rest : List Frame)
    → GoOn (Some (place_since word (n + m))) rest →
    GoOn (Some (place_since word n)) (map (invented_after word) (range_with_len (suc n) m) ++ rest)
go_on-steps sum word n zero rest on = let P : ℕ → Type 0 = λ k. GoOn (Some (place_since word k)) rest in
    subst P (omega arith) on
go_on-steps sum word n (suc m) rest on =
    let e : n + suc m ≡ suc n + m = omega arith in
    let later = go_on-steps sum word (suc n) m rest (subst (λ k. GoOn (Some (place_since word k)) rest) e on) in
    let f : suc (suc n) ≡ suc n + 1 = omega arith in (
      λ _. (place_since word n, refl, ap (λ p. Some p) (sym (next-since sum word n))),
      subst (λ k. GoOn (Some (place_since word (suc n))) (map (invented_after word) (range_with_len k m) ++ rest)) f
          later,
    )

-- what follows the frames between, if more is due than the limit, and if not
go_on-end : (word : HeardWord) (tick n : ℕ) (gone : Bool) (rest : List Frame) → (gone ≡ true → GoOn None rest) →
    (gone ≡ false → GoOn (Some (place_since word n)) rest)
    → GoOn (Some (place_since word n)) (cond gone (Gone tick ∷ []) [] ++ rest)
go_on-end word tick n true rest ended on = ((λ e. absurd (cc)), ended refl)
go_on-end word tick n false rest ended on = on refl

go_on-between : (sum : AddUp) (limit : ℕ) (word : HeardWord) (tick : ℕ) (rest : List Frame)
    → (is_gone limit word tick ≡ true → GoOn None rest) →
    (is_gone limit word tick ≡ false → GoOn (Some (place_since word (length (due_steps limit word tick)))) rest) →
    GoOn (Some (place_since word 0)) (frames_between limit word tick ++ rest)
go_on-between sum limit word tick rest ended on =
    let n = length (due_steps limit word tick) in
    let end = cond (is_gone limit word tick) (Gone (tick_after word (limit + 1)) ∷ []) [] in
    let after : GoOn (Some (place_since word n)) (end ++ rest) = go_on-end word (tick_after word (limit + 1)) n
    (is_gone limit word tick) rest ended on in
    let from_none : GoOn (Some (place_since word (0 + n))) (end ++ rest) =
    subst (λ k. GoOn (Some (place_since word k)) (end ++ rest)) (omega arith) after in
    let all : GoOn (Some (place_since word 0)) (map (invented_after word) (range_with_len 1 n) ++ (end ++ rest)) =
    go_on-steps sum word 0 n
    (end ++ rest) from_none in
    let steps : GoOn (Some (place_since word 0))
    (map (invented_after word) (due_steps limit word tick) ++ (end ++ rest)) =
    subst (λ ks. GoOn (Some (place_since word 0)) (map (invented_after word) ks ++ (end ++ rest)))
    (sym (due_steps-range limit word tick)) all in
    subst (λ these. GoOn (Some (place_since word 0)) these)
    (sym (append_assoc (map (invented_after word) (due_steps limit word tick)) end rest)) steps

-- a word that joins is the next
joins-both : (gone fits : Bool) → (not gone && fits) ≡ true → (gone ≡ false) × (fits ≡ true)
joins-both true fits e = absurd (cc)
joins-both false fits e = (refl, e)

joins : (limit : ℕ) (word next : HeardWord) → is_joined limit word next ≡ true →
    (is_gone limit word next.tick ≡ false) × (is_next word (length (due_steps limit word next.tick) + 1) next ≡ true)
joins limit word next e = joins-both (is_gone limit word next.tick)
    (is_next word (length (due_steps limit word next.tick) + 1) next) e

same_place : (a b : Address) (d e : Direction) → a ≡ b → d ≡ e → place_with a d ≡ place_with b e
same_place a b d e p q = cc

heard-after : (sum : AddUp) (fit : Fit) (limit : ℕ) (word next : HeardWord) → is_joined limit word next ≡ true →
    Some (place_since next 0) ≡ Some (next_position (place_since word (length (due_steps limit word next.tick))))
heard-after sum fit limit word next e =
    let n = length (due_steps limit word next.tick) in
    let one : n + 1 ≡ suc n = omega arith in
    let fits = subst (λ k. (next.direction ≡ word.direction) × (next.label ≡ label_after word k)) one
    ((fit word next (n + 1)).0 (joins limit word next e).1) in
    ap (λ p. Some p) (same_place next.label (label_after word (suc n)) next.direction word.direction fits.1 fits.0
    ∙ sym (next-since sum word n))

go_on-after : (sum : AddUp) (fit : Fit) (limit : ℕ) (word : HeardWord) (more : List HeardWord) (last : ℕ) →
    GoOn (Some (place_since word 0)) (frames_after limit word more last)
go_on-after sum fit limit word [] last =
    subst (λ these. GoOn (Some (place_since word 0)) these) (append-nil (frames_between limit word last))
    (go_on-between sum limit word last [] (λ _. tt) (λ _. tt))
go_on-after sum fit limit word (next ∷ more) last =
    let later = go_on-after sum fit limit next more last in
    let n = length (due_steps limit word next.tick) in
    go_on-between sum limit word next.tick
    (heard_as (is_joined limit word next) next ∷ frames_after limit next more last)
    (λ gone. ((λ e. let apart = (joins limit word next e).0 in absurd (cc)), later))
    (λ on. ((λ e. (place_since word n, refl, heard-after sum fit limit word next e)), later))

pub go_on : (sum : AddUp) (fit : Fit) (limit : ℕ) (words : List HeardWord) (last : ℕ)
    → GoOn None (frames limit words last)
go_on sum fit limit [] last = tt
go_on sum fit limit (word ∷ more) last = ((λ e. absurd (cc)), go_on-after sum fit limit word more last)
