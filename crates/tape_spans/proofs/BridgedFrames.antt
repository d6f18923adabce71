-- A frame more in a span: an invented one bridges nothing by itself, and a heard one bridges all that were invented
-- before it.
use Rattle.std.proofs.Common.{◌≡◌, ℕ, ◌+◌, Bool, true, false, ◌&&◌, ◌||◌, cond, List, [], ◌∷◌, ◌++◌, refl}
use Rattle.std.proofs.Common.{sym, ◌∙◌, ap, count_by}
use Rattle.std.specs.List.{list_any}
use Rattle.std.proofs.lemmas.List.Folds.{list_any-append}
use Rattle.std.proofs.lemmas.List.Sums.{sum_by-cons}
use Rattle.tc_address.specs.declared.direction.Direction.{Direction}
use Rattle.tc_address.specs.Label.{Address}
use Rattle.flywheel.specs.declared.frame.Frame.{Frame}
use Rattle.flywheel.specs.declared.frame.Frame.TheVariants.{Heard, Invented}
use Rattle.tape_spans.specs.Spans.{bridged_in}
use Rattle.flywheel.specs.Kinds.{is_heard, is_invented}

or-false : (a : Bool) → (a || false) ≡ a
or-false true = refl
or-false false = refl

or-true : (a : Bool) → (a || true) ≡ true
or-true true = refl
or-true false = refl

and-true : (a : Bool) → (a && true) ≡ a
and-true true = refl
and-true false = refl

pub bridged-invented : (more : List Frame) (label : Address) (direction : Direction) (step tick : ℕ) →
    bridged_in (more ++ Invented label direction step tick ∷ []) ≡ bridged_in more
unfolding bridged_in
bridged-invented [] label direction step tick = refl
bridged-invented (frame ∷ more) label direction step tick =
    let one = Invented label direction step tick ∷ [] in
    let any : list_any is_heard (more ++ one) ≡ list_any is_heard more = list_any-append is_heard more one
    ∙ or-false (list_any is_heard more) in
    ap (λ (b : Bool). cond (is_invented frame && b) 1 0 + bridged_in (more ++ one)) any
    ∙ ap (λ (n : ℕ). cond (is_invented frame && list_any is_heard more) 1 0 + n)
    (bridged-invented more label direction step tick)

pub bridged-heard : (more : List Frame) (label : Address) (direction : Direction) (joined : Bool) (tick : ℕ) →
    bridged_in (more ++ Heard label direction joined tick ∷ []) ≡ count_by is_invented more
unfolding bridged_in
bridged-heard [] label direction joined tick = refl
bridged-heard (frame ∷ more) label direction joined tick =
    let one = Heard label direction joined tick ∷ [] in
    let any : list_any is_heard (more ++ one) ≡ true = list_any-append is_heard more one
    ∙ or-true (list_any is_heard more) in
    ap (λ (b : Bool). cond (is_invented frame && b) 1 0 + bridged_in (more ++ one)) any
    ∙ ap (λ (b : Bool). cond b 1 0 + bridged_in (more ++ one)) (and-true (is_invented frame))
    ∙ ap (λ (n : ℕ). cond (is_invented frame) 1 0 + n) (bridged-heard more label direction joined tick)
    ∙ sym (sum_by-cons (λ (f : Frame). cond (is_invented f) 1 0) frame more)
