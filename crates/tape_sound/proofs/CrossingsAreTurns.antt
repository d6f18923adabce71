-- The crossings of a sound that is on a side are its turns at the threshold: each leads to the other side.
use Rattle.std.proofs.Common.{◌≡◌, ℕ, zero, suc, ◌+◌, ◌≤◌, Bool, true, false, cond, Option, Some, None}
use Rattle.std.proofs.Common.{ℤ, pos, neg_ℤ, ◌≤ℤ◌, int_le, List, ◌∷◌, map, refl, ap, ◌∙◌, add-one, arith}
use Rattle.std.specs.List.{filter, range_with_len}
use Rattle.std.specs.Option.{option_or}
use Rattle.std.proofs.lemmas.Int.{ints}
use Rattle.pcm_front.specs.declared.side.Side.{Side}
use Rattle.pcm_front.specs.declared.side.Side.TheVariants.{High, Low}
use Rattle.pcm_front.specs.declared.threshold.Threshold.{Threshold}
use Rattle.pcm_front.specs.Crossing.{is_crossing, moment}
use Rattle.pcm_front.specs.Side.{side_of, side_at, side_after, differs, other_side, upward}
use Rattle.tape_sound.specs.Margin.{turns_by}

abbrev pub is_on : Side → Option Side → Bool
is_on High (Some High) = true
is_on Low (Some Low) = true
is_on side now = false

pub on_is : (side : Side) (now : Option Side) → is_on side now ≡ true → now ≡ Some side
on_is High (Some High) is = refl
on_is Low (Some Low) is = refl
on_is High (Some Low) is = absurd (cc)
on_is Low (Some High) is = absurd (cc)
on_is High None is = absurd (cc)
on_is Low None is = absurd (cc)

pub is_on_itself : (side : Side) → is_on side (Some side) ≡ true
is_on_itself High = refl
is_on_itself Low = refl

abbrev pub lies_on : Threshold → List ℤ → ℕ → Side → Bool
lies_on threshold sound place side = is_on side (side_at threshold sound place)

abbrev pub moment_to : ℕ → Threshold → List ℤ → ℕ → Side → ℕ
moment_to f threshold sound place side = moment f threshold sound place

-- one crossing, or none, before crossings that are turns
one_turn : (f : ℕ) (threshold : Threshold) (sound : List ℤ) (a k : ℕ) → (t : Side) (now : Option Side)
    → side_after threshold sound (a + 1) ≡ option_or now (Some t)
    → ((s : Side) → side_after threshold sound (a + 1) ≡ Some s
    → map (moment f threshold sound) (filter (is_crossing threshold sound) (range_with_len (a + 1) k))
    ≡ turns_by (lies_on threshold sound) (moment_to f threshold sound) s (a + 1) k)
    → map (moment f threshold sound) (cond (differs (Some t) now)
    (a ∷ filter (is_crossing threshold sound) (range_with_len (a + 1) k))
    (filter (is_crossing threshold sound) (range_with_len (a + 1) k)))
    ≡ cond (is_on (other_side t) now) (moment f threshold sound a ∷ turns_by (lies_on threshold sound)
    (moment_to f threshold sound) (other_side t) (a + 1) k)
    (turns_by (lies_on threshold sound) (moment_to f threshold sound) t (a + 1) k)
one_turn f threshold sound a k High None after more = more High after
one_turn f threshold sound a k Low None after more = more Low after
one_turn f threshold sound a k High (Some High) after more = more High after
one_turn f threshold sound a k Low (Some Low) after more = more Low after
one_turn f threshold sound a k High (Some Low) after more =
    ap (λ (l : List ℕ). moment f threshold sound a ∷ l) (more Low after)
one_turn f threshold sound a k Low (Some High) after more =
    ap (λ (l : List ℕ). moment f threshold sound a ∷ l) (more High after)

pub crossings_are_turns : (f : ℕ) (threshold : Threshold) (sound : List ℤ) (a k : ℕ) (side : Side)
    → side_after threshold sound a ≡ Some side
    → map (moment f threshold sound) (filter (is_crossing threshold sound) (range_with_len a k))
    ≡ turns_by (lies_on threshold sound) (moment_to f threshold sound) side a k
crossings_are_turns f threshold sound a zero side stand = refl
crossings_are_turns f threshold sound a (suc k) side stand =
    let now = side_at threshold sound a in
    let F : List ℕ = filter (is_crossing threshold sound) (range_with_len (a + 1) k) in
    let crosses : is_crossing threshold sound a ≡ differs (Some side) now =
    ap (λ (o : Option Side). differs o now) stand in
    let after : side_after threshold sound (a + 1) ≡ option_or now (Some side) =
    ap (side_after threshold sound) (add-one a) ∙ ap (option_or now) stand in
    ap (λ (b : Bool). map (moment f threshold sound) (cond b (a ∷ F) F)) crosses
    ∙ one_turn f threshold sound a k side now after (λ s at. crossings_are_turns f threshold sound (a + 1) k s at)

-- ---- the side of a sample, seen so that it lies above

-- and the other way round
pub lies_there : (t : ℕ) (x : ℤ) (side : Side) → 1 ≤ t → pos t ≤ℤ upward side x → side_of t x ≡ Some side
lies_there t x High some above = let high : int_le (pos t) x ≡ true = grind (arith, ints) in rw high refl
lies_there t x Low some above =
    let not_high : int_le (pos t) x ≡ false = grind (arith, ints) in
    let low : int_le x (neg_ℤ (pos t)) ≡ true = grind (arith, ints) in
    rw (not_high, low) refl
