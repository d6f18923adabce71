-- Until a clean sound is on a side, it does not reach the other one at the low bound, so the sound lies on no
-- other, and has no crossing.
use Rattle.std.proofs.Common.{◌≡◌, ℕ, zero, suc, ◌+◌, ◌<◌, ◌≤◌, Bool, true, false, cond, ℤ, Option, Some, None, ◌⊎◌}
use Rattle.std.proofs.Common.{inl, inr}
use Rattle.std.proofs.Common.{List, [], ◌∷◌, refl, ap, subst, sym, ◌∙◌, arith}
use Rattle.std.specs.List.{filter, range_with_len}
use Rattle.std.specs.Option.{option_or}
use Rattle.std.proofs.lemmas.Bool.{cases_lt}
use Rattle.pcm_front.specs.declared.side.Side.{Side}
use Rattle.pcm_front.specs.declared.side.Side.TheVariants.{High, Low}
use Rattle.pcm_front.specs.declared.threshold.Threshold.{Threshold}
use Rattle.pcm_front.specs.Crossing.{is_crossing}
use Rattle.pcm_front.specs.Side.{sample_at, side_at, side_after, differs, other_side}
use Rattle.tape_sound.specs.Margin.{reaches}
use Rattle.tape_sound.proofs.CrossingsAreTurns.{is_on, lies_on, on_is}

-- ---- a side and no other

-- on the side, or on none
abbrev IsOnly : Side → Option Side → Type 0
IsOnly side None = Unit {0}
IsOnly side (Some now) = now ≡ side

only_by : (side : Side) (o : Option Side) → is_on (other_side side) o ≡ false → IsOnly side o
only_by side None is = tt
only_by High (Some High) is = refl
only_by Low (Some Low) is = refl
only_by High (Some Low) is = absurd (cc)
only_by Low (Some High) is = absurd (cc)

only_or : (side : Side) (o p : Option Side) → IsOnly side o → IsOnly side p → IsOnly side (option_or o p)
only_or side None p first second = second
only_or side (Some now) p first second = first

only_stays : (side : Side) (o p : Option Side) → IsOnly side o → IsOnly side p → differs o p ≡ false
only_stays side None p first second = refl
only_stays side (Some High) None first second = refl
only_stays side (Some Low) None first second = refl
only_stays side (Some High) (Some High) first second = refl
only_stays side (Some Low) (Some Low) first second = refl
only_stays side (Some High) (Some Low) first second = let e : Some High ≡ Some Low =
    ap (λ (s : Side). Some s) (first ∙ sym second) in absurd (cc)
only_stays side (Some Low) (Some High) first second = let e : Some Low ≡ Some High =
    ap (λ (s : Side). Some s) (first ∙ sym second) in absurd (cc)

no_crossing : (p : ℕ → Bool) (a k : ℕ) → ((i : ℕ) → i < a + k → p i ≡ false) → filter p (range_with_len a k) ≡ []
no_crossing p a zero none = refl
no_crossing p a (suc k) none =
    let more : List ℕ = filter p (range_with_len (a + 1) k) in
    ap (λ (b : Bool). cond b (a ∷ more) more) (none a (omega arith))
    ∙ no_crossing p (a + 1) k (λ i h. none i (omega (arith, h)))

-- ---- a sound that lies on a side only if the clean one has reached it

module _ (low high : ℕ → ℤ) (threshold : Threshold) (clean sound : List ℤ) (end : ℕ)
    (has_reached : (i : ℕ) → i < end → (side : Side) → lies_on threshold sound i side ≡ true
    → reaches (low i) side (sample_at clean i) ≡ true) where
  only_here : (i : ℕ) → i < end → (side : Side) → reaches (low i) (other_side side) (sample_at clean i) ≡ false
      → IsOnly side (side_at threshold sound i)
  only_here i h side none = by_test (lies_on threshold sound i (other_side side)) refl
    where
      by_test : (b : Bool) → lies_on threshold sound i (other_side side) ≡ b → IsOnly side (side_at threshold sound i)
      by_test true is = let too = has_reached i h (other_side side) is in absurd (cc)
      by_test false is = only_by side (side_at threshold sound i) is

  only_before : (side : Side) (stop k : ℕ) → stop ≤ end → k ≤ stop
      → ((i : ℕ) → i < stop → reaches (low i) (other_side side) (sample_at clean i) ≡ false)
      → IsOnly side (side_after threshold sound k)
  only_before side stop zero within h none = tt
  only_before side stop (suc k) within h none =
      only_or side (side_at threshold sound k) (side_after threshold sound k)
      (only_here k (omega (arith, h, within)) side (none k (omega (arith, h))))
      (only_before side stop k within (omega (arith, h)) none)

  -- up to a place at which the sound lies on the side
  only_up_to : (side : Side) (stop i : ℕ) → stop < end → i ≤ stop → side_at threshold sound stop ≡ Some side
      → ((i : ℕ) → i < stop → reaches (low i) (other_side side) (sample_at clean i) ≡ false)
      → IsOnly side (side_at threshold sound i)
  only_up_to side stop i there h on none = by_order (cases_lt i stop)
    where
      by_order : (i < stop) ⊎ (stop ≤ i) → IsOnly side (side_at threshold sound i)
      by_order (inl less) = only_here i (omega (arith, less, there)) side (none i less)
      by_order (inr same) =
          let e : stop ≡ i = omega (arith, same, h) in
          let at : side_at threshold sound i ≡ Some side = ap (side_at threshold sound) (sym e) ∙ on in
          subst (IsOnly side) (sym at) refl

  pub none_up_to : (side : Side) (stop : ℕ) → stop < end → lies_on threshold sound stop side ≡ true
      → ((i : ℕ) → i < stop → reaches (low i) (other_side side) (sample_at clean i) ≡ false)
      → filter (is_crossing threshold sound) (range_with_len 0 (stop + 1)) ≡ []
  none_up_to side stop there lies none =
      let on : side_at threshold sound stop ≡ Some side = on_is side (side_at threshold sound stop) lies in
      no_crossing (is_crossing threshold sound) 0 (stop + 1) (λ i h.
      only_stays side (side_after threshold sound i) (side_at threshold sound i)
      (only_before side stop i (omega (arith, there)) (omega (arith, h)) none)
      (only_up_to side stop i there (omega (arith, h)) on none))
