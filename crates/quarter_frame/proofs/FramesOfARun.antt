-- The messages of a run of frames: those of both crates are the same, and they come two by two.
use Rattle.std.proofs.Common.{◌≡◌, ℕ, ◌+◌, ◌*◌, ◌%◌, true, false, pos, neg_ℤ, List, [], ◌∷◌, ◌++◌}
use Rattle.std.proofs.Common.{Some, refl, sym, ◌∙◌, ap}
use Rattle.std.proofs.Common.{subst, append_assoc, append-nil, arith}
use Rattle.std.specs.List.{take_while}
use Rattle.std.proofs.lemmas.Bool.Decides.{nat_tests}
use Rattle.lemmas.specs.Lists.{take_while-on}
use Rattle.tc_address.specs.declared.count.Count.{Count}
use Rattle.tc_address.specs.declared.count.Count.TheVariants.{C24, C25, C30, Drop30}
use Rattle.tc_address.specs.declared.direction.Direction.{Direction}
use Rattle.tc_address.specs.declared.direction.Direction.TheVariants.{Forward, Backward}
use Rattle.tc_address.specs.Label.{Address, IsLabel}
use Rattle.tc_address.specs.Numbering.{step}
use Rattle.flywheel.specs.declared.frame.Frame.{Frame}
use Rattle.flywheel.specs.declared.frame.Frame.TheVariants.{Heard, Invented, Gone}
use Rattle.flywheel.specs.Frames.{steps_in}
use Rattle.mtc_reader.specs.Laws.{falling, falling_half, rising, rising_half}
use Rattle.mtc_reader.specs.Laws as read
use Rattle.quarter_frame.specs.Message.{code_of, full_of}
use Rattle.quarter_frame.specs.ReadAgain.{all_placed, earlier, later, IsNeighbour, Placed}
use Rattle.quarter_frame.specs.Runs.{before, four_of, is_even, quarters_from}
use Rattle.quarter_frame.proofs.GoesOn.{Follows, GoOn, Laws, placed_at}
use Rattle.flywheel.specs.GoOn.{goes_on}

-- ---- the messages of both crates are the same

same_code : (c : Count) → code_of c ≡ read.code_of c
same_code C24 = refl
same_code C25 = refl
same_code Drop30 = refl
same_code C30 = refl

pub same_full : (a : Address) → full_of a ≡ read.full_message 0x7f a
same_full a = rw (same_code a.count) refl

pub first_half : (a : Address) → four_of a Forward true ≡ rising_half a
first_half a =
    let f : 0 + a.frames % 16 ≡ a.frames % 16 = omega arith in
    rw f refl

pub forward_pair : (a b : Address) → before b ≡ a → four_of a Forward true ++ four_of b Forward false ≡ rising a
forward_pair a b is =
    let f : 0 + a.frames % 16 ≡ a.frames % 16 = omega arith in
    rw (is, f, same_code a.count) refl

pub first_half_back : (a : Address) → four_of a Backward true ≡ falling_half (before a)
first_half_back a = rw (same_code (before a).count) refl

pub backward_pair : (a b : Address) → before a ≡ b → four_of a Backward true ++ four_of b Backward false ≡ falling b
backward_pair a b is =
    let f : 0 + b.frames % 16 ≡ b.frames % 16 = omega arith in
    rw (is, f, same_code b.count) refl

-- ---- the frames of a run, without what is no place

-- frames that follow each other step by step
abbrev pub IsChain : Placed → List Placed → Type 0
IsChain first [] = Unit {0}
IsChain first (second ∷ more) = IsLabel second.label × Follows first second × IsChain second more

pub run_chain : (first : Placed) (more : List Frame) → GoOn (Some first) more
    → IsChain first (all_placed (take_while goes_on more))
run_chain first [] go = tt
run_chain first (Heard label direction true tick ∷ more) go =
    subst (λ fs. IsChain first (all_placed fs)) (sym (take_while-on goes_on
    (Heard label direction true tick) more refl))
    (go.0, go.1 refl, run_chain (placed_at label direction) more go.2)
run_chain first (Heard label direction false tick ∷ more) go = tt
run_chain first (Invented label direction k tick ∷ more) go =
    subst (λ fs. IsChain first (all_placed fs)) (sym (take_while-on goes_on
    (Invented label direction k tick) more refl))
    (go.0, go.1, run_chain (placed_at label direction) more go.2)
run_chain first (Gone tick ∷ more) go = tt

-- what is sent of them, from a position on
abbrev sent_from : ℕ → List Placed → List ℕ
sent_from position [] = []
sent_from position (f ∷ more) = four_of f.label f.direction (is_even position) ++ sent_from (position + 1) more

pub run_sent : (position : ℕ) (more : List Frame) → quarters_from position (take_while goes_on more)
    ≡ sent_from position (all_placed (take_while goes_on more))
run_sent position [] = refl
run_sent position (Heard label direction true tick ∷ more) =
    rw (take_while-on goes_on (Heard label direction true tick) more refl)
    (ap (λ (l : List ℕ). four_of label direction (is_even position) ++ l)
    (run_sent (position + 1) more))
run_sent position (Heard label direction false tick ∷ more) = refl
run_sent position (Invented label direction k tick ∷ more) =
    rw (take_while-on goes_on (Invented label direction k tick) more refl)
    (ap (λ (l : List ℕ). four_of label direction (is_even position) ++ l)
    (run_sent (position + 1) more))
run_sent position (Gone tick ∷ more) = refl

-- two by two
abbrev pub two_by_two : List Placed → List ℕ
two_by_two [] = []
two_by_two (a ∷ []) = four_of a.label a.direction true
two_by_two (a ∷ b ∷ more) = (four_of a.label a.direction true ++ four_of b.label b.direction false) ++ two_by_two more

even_at : (k : ℕ) → is_even (2 * k) ≡ true
even_at k = grind (arith, nat_tests)

odd_at : (k : ℕ) → is_even (2 * k + 1) ≡ false
odd_at k = grind (arith, nat_tests)

pub sent_by_two : (k : ℕ) (fs : List Placed) → sent_from (2 * k) fs ≡ two_by_two fs
sent_by_two k [] = refl
sent_by_two k (a ∷ []) = rw (even_at k) (append-nil (four_of a.label a.direction true))
sent_by_two k (a ∷ b ∷ more) =
    let next : 2 * k + 1 + 1 ≡ 2 * (k + 1) = omega arith in
    rw (even_at k, odd_at k, next, sent_by_two (k + 1) more)
    (sym (append_assoc (four_of a.label a.direction true) (four_of b.label b.direction false)
    (two_by_two more)))

-- ---- neighbours

pub neighbour : Laws → (d : Direction) (a b : Address) → IsLabel a → b ≡ step a (steps_in d 1)
    → before (later d a b) ≡ earlier d a b
neighbour l Forward a b label is = ap before is ∙ l.sum a (pos 1) (neg_ℤ (pos 1)) ∙ l.none a label
neighbour l Backward a b label is = sym is

pub one_before : Laws → (first second : Placed) → IsLabel first.label → Follows first second → IsNeighbour first second
one_before l first second label follows = record {
  direction = follows.direction;
  label = neighbour l first.direction first.label second.label label follows.label;
}
