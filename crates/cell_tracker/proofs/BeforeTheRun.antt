-- A stretch that begins before the run, and does not end in it.
use Rattle.std.proofs.Common.{◌≡◌, ℕ, ◌+◌, ◌-◌, ◌<◌, ◌≤◌, List, [], ◌∷◌, ◌++◌, length, drop}
use Rattle.std.proofs.Common.{get_or}
use Rattle.std.proofs.Common.{inl, inr, refl, ap, subst, sym, ◌∙◌, arith, append_assoc}
use Rattle.std.proofs.Common.{length-drop}
use Rattle.std.proofs.lemmas.List.{drop_at, drop-drop}
use Rattle.std.proofs.lemmas.Grind.{flat_map-append}
use Rattle.biphase.specs.declared.profile.Profile.TheVariants.{Rough}
use Rattle.biphase.specs.declared.cell.Cell.{Cell}
use Rattle.biphase.specs.declared.cell.Cell.TheVariants.{Zero, One}
use Rattle.biphase.specs.Latest.{Latest}
use Rattle.biphase.specs.Tolerance.{kept_at_lock}
use Rattle.biphase.specs.Chain.{intervals_of, flat, kept_after, Follow}
use Rattle.cell_tracker.specs.EvenRun.{AreEvenOnes}
use Rattle.cell_tracker.specs.Stretch.{Stretch, end_of, IsBreak, IsStretch}
use Rattle.cell_tracker.proofs.Chains.{chain_rest, kept_after-append}
use Rattle.cell_tracker.proofs.RunCells.{AreEvenHalves}
use Rattle.cell_tracker.proofs.LocalStretch.{locally, NoneFits}
use Rattle.cell_tracker.proofs.StretchGrows.{end_within}
use Rattle.cell_tracker.proofs.RunOfOnes.{halves_of, two_each, OwnStretch}
use Rattle.cell_tracker.proofs.OverTheRun.{Over, split_at}

-- ---- a stretch that begins before the run, and does not end in it

pub record FirstHalf (even : ℕ) (ones : List Cell) : Type 0 where
  pub x : ℕ
  pub others : List ℕ
  pub are : flat ones ≡ x ∷ others
  pub evens : AreEvenHalves even others

pub first_half_of : (even : ℕ) (ones : List Cell) → AreEvenOnes even ones → 1 ≤ length ones → FirstHalf even ones
first_half_of even [] are some = absurd (omega (arith, some))
first_half_of even (Zero x ∷ ones) are some = absurd are
first_half_of even (One a b ∷ ones) are some =
    record { x = a; others = b ∷ flat ones; are = refl; evens = (are.1, halves_of even ones are.2) }

-- the list behind the zero before the run
pub behind_first : (l : List ℕ) (tape : List Cell) (cut : ℕ) (kept : List ℕ) (n end first whole : ℕ) (ones : List Cell)
    (own : OwnStretch l tape cut kept n end first whole ones)
    → drop (own.lock + 1) l ≡ flat ones ++ whole ∷ (flat own.behind ++ own.rest)
behind_first l tape cut kept n end first whole ones own =
    let behind = Zero whole ∷ own.behind in
    let parts : flat (ones ++ behind) ++ own.rest ≡ flat ones ++ (flat behind ++ own.rest) =
    ap (λ (xs : List ℕ). xs ++ own.rest) (flat_map-append intervals_of ones behind)
    ∙ append_assoc (flat ones) (flat behind) own.rest in
    sym (drop-drop 1 own.lock l) ∙ ap (drop 1) (own.there ∙ ap (λ (xs : List ℕ). first ∷ xs) parts)

pub over_it : (l : List ℕ) (tape : List Cell) (cut : ℕ) (kept : List ℕ) (n end first whole : ℕ) (ones : List Cell)
    (even : ℕ) (own : OwnStretch l tape cut kept n end first whole ones) (s : Stretch) → IsStretch Rough l s
    → s.lock < own.lock → n + end ≤ end_of s + 1 → AreEvenOnes even ones → 9 ≤ length ones
    → Over l s (n + end) whole ones even (flat own.behind ++ own.rest)
over_it l tape cut kept n end first whole ones even own s is before late are many =
    let local = locally Rough l s is in
    let f = get_or l s.lock 0 in
    let rest = drop (end_of s) l in
    let more = flat own.behind ++ own.rest in
    let begun = kept_at_lock Rough f in
    let two = two_each even ones are in
    let before_run = own.before_run in
    let end_is : end_of s ≡ s.lock + (1 + length (flat local.0)) =
    ap (λ (cs : List Cell). s.lock + length (flat cs)) local.1.cells ∙ (omega arith) in
    let split = split_at local.0 (own.lock - s.lock) (omega (arith, end_is, late, before_run, two, many, before)) in
    let kept_is : kept_after Rough begun local.0 ≡ kept_after Rough (kept_after Rough begun split.older) split.newer =
    ap (kept_after Rough begun) split.are ∙ kept_after-append Rough begun split.older split.newer in
    let front = f ∷ flat split.older in
    let joined : drop s.lock l ≡ front ++ (flat split.newer ++ rest) =
    local.1.there
    ∙ ap (λ (xs : List ℕ). f ∷ (xs ++ rest)) (ap flat split.are ∙ flat_map-append intervals_of split.older split.newer)
    ∙ ap (λ (xs : List ℕ). f ∷ xs) (append_assoc (flat split.older) (flat split.newer) rest) in
    let there : drop (s.lock + length front) l ≡ flat split.newer ++ rest =
    sym (drop-drop (length front) s.lock l) ∙ ap (drop (length front)) joined
    ∙ drop_at front (flat split.newer ++ rest) (length front) refl in
    let run_there = behind_first l tape cut kept n end first whole ones own in
    let long : length rest + end_of s ≡ length l = omega (arith, length-drop (end_of s) l, end_within Rough l s is) in
    let with_hs : (skipped hs : List ℕ) → flat ones ≡ skipped ++ hs → AreEvenHalves even hs → 16 ≤ length hs
    → s.lock + 1 + length (flat split.older) + length hs ≡ n + end → flat split.newer ++ rest ≡ hs ++ whole ∷ more
    → Over l s (n + end) whole ones even more =
    λ skipped hs halves evens sixteen ends same. record {
      first = f;
      older = split.older;
      newer = split.newer;
      are = local.1.cells ∙ ap (λ (cs : List Cell). Zero f ∷ cs) split.are;
      rest = rest;
      long = long;
      skipped = skipped;
      hs = hs;
      halves = halves;
      evens = evens;
      sixteen = sixteen;
      ends = ends;
      follow = chain_rest Rough begun split.older split.newer (subst (Follow Rough begun) split.are local.1.chain);
      none = subst (λ (c : Latest). NoneFits Rough c rest) kept_is local.1.none;
      broken = subst (λ (c : Latest). IsBreak Rough c (end_of s) rest s.broken_at) kept_is local.1.broken;
      same = same;
    } in
    elim split.place [
      | inl at ↦ (
          let index : s.lock + length front ≡ own.lock + 1 = omega (arith, at, before) in
          with_hs [] (flat ones) refl (halves_of even ones are) (omega (arith, two, many))
          (omega (arith, at, before, before_run))
          (sym there ∙ ap (λ (k : ℕ). drop k l) index ∙ run_there))
      | inr behind ↦ (
          let half = first_half_of even ones are (omega (arith, many)) in
          let many_halves : length (flat ones) ≡ 1 + length half.others = ap length half.are ∙ (omega arith) in
          let index : s.lock + length front ≡ own.lock + 1 + 1 = omega (arith, behind, before) in
          let second : drop (own.lock + 1 + 1) l ≡ half.others ++ whole ∷ more =
          sym (drop-drop 1 (own.lock + 1) l)
          ∙ ap (drop 1) (run_there ∙ ap (λ (xs : List ℕ). xs ++ whole ∷ more) half.are) in
          with_hs (half.x ∷ []) half.others half.are half.evens (omega (arith, two, many, many_halves))
          (omega (arith, behind, before, before_run, many_halves))
          (sym there ∙ ap (λ (k : ℕ). drop k l) index ∙ second))
    ]
