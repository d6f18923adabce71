-- A stretch that comes over a run of even ones, or begins before it and does not end in it.
use Rattle.std.proofs.Common.{◌≡◌, ℕ, zero, suc, ◌+◌, ◌-◌, ◌<◌, ◌≤◌, ◌⊎◌, List, [], ◌∷◌, ◌++◌, length, drop}
use Rattle.std.proofs.Common.{Option, Some, None, inl, inr, refl, ap, subst, sym, ◌∙◌, arith, append_assoc}
use Rattle.std.proofs.Common.{length-append}
use Rattle.std.proofs.lemmas.Bool.{cases_lt}
use Rattle.std.proofs.lemmas.List.{append_cancel_left, drop_at}
use Rattle.std.proofs.lemmas.Grind.{flat_map-append}
use Rattle.biphase.specs.declared.profile.Profile.TheVariants.{Rough}
use Rattle.biphase.specs.declared.cell.Cell.{Cell}
use Rattle.biphase.specs.declared.cell.Cell.TheVariants.{Zero, One}
use Rattle.biphase.specs.Latest.{Latest}
use Rattle.biphase.specs.Tolerance.{kept_at_lock, IsFirstHalf}
use Rattle.biphase.specs.Chain.{intervals_of, flat, kept_after, Follow}
use Rattle.biphase.specs.ChainLemmas.{comparable_after}
use Rattle.biphase.specs.ToleranceLemmas.{half_or_not}
use Rattle.cell_tracker.specs.ChainPiece.{cells_from}
use Rattle.cell_tracker.specs.EvenRun.{AreEvenOnes, IsEvenZero}
use Rattle.cell_tracker.specs.Stretch.{Stretch, end_of, IsBreak}
use Rattle.cell_tracker.proofs.Chains.{chain_rest, kept_after-append}
use Rattle.cell_tracker.proofs.EvenOnes.{in_a_run}
use Rattle.cell_tracker.proofs.RunCells.{kept_ones, AreEvenHalves, EndIn, GoOn}
use Rattle.cell_tracker.proofs.LocalStretch.{no_longer, NoneFits}
use Rattle.cell_tracker.proofs.OneStretch.{break_is_one, front_is}
use Rattle.cell_tracker.proofs.RunOfOnes.{LastFour, last_four, same_last, OwnStretch}

-- ---- a stretch that comes over the run

-- some cells up to a place among their intervals, or to the end of the cell in which it is
pub record SplitAt (cells : List Cell) (d : ℕ) : Type 0 where
  pub older : List Cell
  pub newer : List Cell
  pub are : cells ≡ older ++ newer
  pub place : (length (flat older) ≡ d) ⊎ (length (flat older) ≡ d + 1)

pub split_at : (cells : List Cell) (d : ℕ) → d ≤ length (flat cells) → SplitAt cells d
split_at cells zero within = record { older = []; newer = cells; are = refl; place = inl refl }
split_at [] (suc d) within = absurd (omega (arith, within))
split_at (One a b ∷ cells) (suc zero) within =
    record { older = One a b ∷ []; newer = cells; are = refl; place = inr refl }
split_at (Zero x ∷ cells) (suc d) within =
    let more = split_at cells d (omega (arith, within)) in
    let place : (length (flat (Zero x ∷ more.older)) ≡ suc d) ⊎ (length (flat (Zero x ∷ more.older)) ≡ suc d + 1) =
    elim more.place [
      | inl at ↦ inl (omega (arith, at))
      | inr behind ↦ inr (omega (arith, behind))
    ] in
    record {
      older = Zero x ∷ more.older;
      newer = more.newer;
      are = ap (λ (cs : List Cell). Zero x ∷ cs) more.are;
      place = place;
    }
split_at (One a b ∷ cells) (suc (suc d)) within =
    let more = split_at cells d (omega (arith, within)) in
    let place : (length (flat (One a b ∷ more.older)) ≡ suc (suc d))
    ⊎ (length (flat (One a b ∷ more.older)) ≡ suc (suc d) + 1) =
    elim more.place [
      | inl at ↦ inl (omega (arith, at))
      | inr behind ↦ inr (omega (arith, behind))
    ] in
    record {
      older = One a b ∷ more.older;
      newer = more.newer;
      are = ap (λ (cs : List Cell). One a b ∷ cs) more.are;
      place = place;
    }

-- a break comes by a limit, if the cells end before it, or at it with an interval behind them that is no half
pub breaks_soon : (c : Latest) (after limit : ℕ) (rest : List ℕ) (place : Option ℕ) → IsBreak Rough c after rest place
    → 1 ≤ length rest → (after < limit → 2 ≤ length rest) → after ≤ limit
    → (after ≡ limit → (x : ℕ) (more : List ℕ) → rest ≡ x ∷ more → ¬ IsFirstHalf Rough c x)
    → (b : ℕ) × (place ≡ Some b) × (b ≤ limit)
breaks_soon c after limit [] place broken one two within half = absurd (omega (arith, one))
breaks_soon c after limit (x ∷ []) place broken one two within half =
    elim (cases_lt after limit) [
      | inl before ↦ absurd (omega (arith, two before))
      | inr at ↦ (after, broken.1 (half (omega (arith, at, within)) x [] refl), within)
    ]
breaks_soon c after limit (x ∷ y ∷ rest) place broken one two within half =
    elim (half_or_not Rough c x) [
      | inl is ↦ elim (cases_lt after limit) [
        | inl before ↦ (after + 1, broken.0 is, omega (arith, before))
        | inr at ↦ absurd (half (omega (arith, at, within)) x (y ∷ rest) refl is)
      ]
      | inr is ↦ (after, broken.1 is, within)
    ]

-- two lists of cells that follow the same in the same intervals, and behind which no cell fits, are one
pub same_cells : (c : Latest) (one two : List Cell) (rest other : List ℕ) → Follow Rough c one → Follow Rough c two
    → NoneFits Rough (kept_after Rough c one) rest → NoneFits Rough (kept_after Rough c two) other
    → flat one ++ rest ≡ flat two ++ other → one ≡ two
same_cells c one two rest other ones twos none none_too same =
    let fewer = no_longer Rough c one two rest other ones twos none same in
    let more = no_longer Rough c two one other rest twos ones none_too (sym same) in
    elim (comparable_after Rough c one two rest other ones twos same) [
      | inl front ↦ front_is one two front fewer
      | inr front ↦ sym (front_is two one front more)
    ]

-- the stretch has the recording's own cells from a place on, and does not break
pub record HasFrom (tape : List Cell) (cut : ℕ) (kept : List ℕ) (n : ℕ) (s : Stretch) (q : ℕ) : Type 0 where
  pub older : List Cell
  pub are : s.cells ≡ older ++ cells_from tape cut kept q
  pub place : s.lock + length (flat older) ≡ n + q
  pub open_yet : s.broken_at ≡ None

-- it breaks by the zero behind the run, or it has this zero and all that the recording has behind it
abbrev pub BreaksOrHas : List Cell → ℕ → List ℕ → ℕ → Stretch → ℕ → Type 0
BreaksOrHas tape cut kept n s end =
    ((b : ℕ) × (s.broken_at ≡ Some b) × (b ≤ n + end)) ⊎ HasFrom tape cut kept n s end

-- a stretch over the run: what it has kept before the halves `hs` at the end of the run, and the cells from there on
pub record Over (l : List ℕ) (s : Stretch) (place whole : ℕ) (ones : List Cell) (even : ℕ) (more : List ℕ) :
    Type 0 where
  pub first : ℕ
  pub older : List Cell
  pub newer : List Cell
  pub are : s.cells ≡ Zero first ∷ (older ++ newer)
  pub rest : List ℕ
  pub long : length rest + end_of s ≡ length l
  pub skipped : List ℕ
  pub hs : List ℕ
  pub halves : flat ones ≡ skipped ++ hs
  pub evens : AreEvenHalves even hs
  pub sixteen : 16 ≤ length hs
  pub ends : s.lock + 1 + length (flat older) + length hs ≡ place
  pub follow : Follow Rough (kept_after Rough (kept_at_lock Rough first) older) newer
  pub none : NoneFits Rough (kept_after Rough (kept_after Rough (kept_at_lock Rough first) older) newer) rest
  pub broken : IsBreak Rough (kept_after Rough (kept_after Rough (kept_at_lock Rough first) older) newer) (end_of s)
      rest
      s.broken_at
  pub same : flat newer ++ rest ≡ hs ++ whole ∷ more

-- its end
pub over_end : (l : List ℕ) (s : Stretch) (place whole : ℕ) (ones : List Cell) (even : ℕ) (more : List ℕ)
    (over : Over l s place whole ones even more)
    → end_of s ≡ s.lock + 1 + length (flat over.older) + length (flat over.newer)
over_end l s place whole ones even more over =
    ap (λ (cs : List Cell). s.lock + length (flat cs)) over.are
    ∙ omega (
      arith,
      ap length (flat_map-append intervals_of over.older over.newer),
      length-append (flat over.older) (flat over.newer),
    )

-- if its cells end in the run it breaks
pub over_breaks : (l : List ℕ) (s : Stretch) (place whole : ℕ) (ones : List Cell) (even : ℕ) (more : List ℕ)
    (over : Over l s place whole ones even more) → place < length l
    → EndIn (kept_after Rough (kept_at_lock Rough over.first) over.older) over.newer whole over.hs
    → (b : ℕ) × (s.broken_at ≡ Some b) × (b ≤ place)
over_breaks l s place whole ones even more over within ends =
    let latest = kept_after Rough (kept_at_lock Rough over.first) over.older in
    let end = over_end l s place whole ones even more over in
    let fewer = ends.0 in
    let long = over.long in
    let at_end = over.ends in
    breaks_soon (kept_after Rough latest over.newer) (end_of s) place over.rest s.broken_at over.broken
    (omega (arith, end, fewer, long, at_end, within))
    (λ before. omega (arith, long, within, before))
    (omega (arith, end, fewer, at_end))
    (λ at x others rest_is half.
    let all : length (flat over.newer) ≡ length over.hs = omega (arith, at, end, at_end) in
    let behind : over.rest ≡ whole ∷ more =
    sym (drop_at (flat over.newer) over.rest (length (flat over.newer)) refl)
    ∙ ap (drop (length (flat over.newer))) over.same ∙ drop_at over.hs (whole ∷ more) (length (flat over.newer))
    (sym all) in
    let same : x ∷ others ≡ whole ∷ more = sym rest_is ∙ behind in
    let first : x ≡ whole = cc in
    ends.1 all (subst (IsFirstHalf Rough (kept_after Rough latest over.newer)) first half))

-- what the recording's own stretch keeps of the ones
pub own_kept : (first : ℕ) (ones : List Cell) (four : LastFour ones)
    → kept_after Rough (kept_at_lock Rough first) ones
    ≡ kept_ones four.a four.b four.c four.d four.e four.f four.g four.h
own_kept first ones four =
    let last = One four.a four.b ∷ One four.c four.d ∷ One four.e four.f ∷ One four.g four.h ∷ [] in
    ap (kept_after Rough (kept_at_lock Rough first)) four.are
    ∙ kept_after-append Rough (kept_at_lock Rough first) four.older last

-- a stretch that goes on keeps the same
pub over_kept : (even first : ℕ) (ones : List Cell) (skipped hs : List ℕ) (latest : Latest) (cells : List Cell)
    (whole : ℕ)
    → AreEvenOnes even ones → 4 ≤ length ones → flat ones ≡ skipped ++ hs → (on : GoOn hs latest cells whole hs)
    → kept_after Rough latest on.older ≡ kept_after Rough (kept_at_lock Rough first) ones
over_kept even first ones skipped hs latest cells whole are many halves on =
    let four = last_four even ones are many in
    let last = One four.a four.b ∷ One four.c four.d ∷ One four.e four.f ∷ One four.g four.h ∷ [] in
    let eight = on.a ∷ on.b ∷ on.c ∷ on.d ∷ on.e ∷ on.f ∷ on.g ∷ on.h ∷ [] in
    let theirs : flat ones ≡ flat four.older ++ flat last = ap flat four.are ∙ flat_map-append intervals_of four.older
    last in
    let mine : flat ones ≡ (skipped ++ on.front) ++ eight =
    halves ∙ ap (λ (xs : List ℕ). skipped ++ xs) on.last ∙ sym (append_assoc skipped on.front eight) in
    on.kept ∙ same_last (skipped ++ on.front) (flat four.older) on.a on.b on.c on.d on.e on.f on.g on.h
    four.a four.b four.c four.d four.e four.f four.g four.h (sym mine ∙ theirs)
    ∙ sym (own_kept first ones four)

-- and goes on as the recording's own does
pub over_goes_on : (l : List ℕ) (tape : List Cell) (cut : ℕ) (kept : List ℕ) (n end first whole : ℕ) (ones : List Cell)
    (even : ℕ) (own : OwnStretch l tape cut kept n end first whole ones) (s : Stretch)
    (over : Over l s (n + end) whole ones even (flat own.behind ++ own.rest)) → AreEvenOnes even ones → 4 ≤ length ones
    → GoOn over.hs (kept_after Rough (kept_at_lock Rough over.first) over.older) over.newer whole over.hs
    → HasFrom tape cut kept n s end
over_goes_on l tape cut kept n end first whole ones even own s over are many on =
    let latest = kept_after Rough (kept_at_lock Rough over.first) over.older in
    let theirs = kept_after Rough (kept_at_lock Rough first) ones in
    let kept_same = over_kept even first ones over.skipped over.hs latest over.newer whole are many over.halves on in
    let mine = Zero whole ∷ on.newer in
    let own_cells = Zero whole ∷ own.behind in
    let follow : Follow Rough theirs mine =
    subst (λ (c : Latest). Follow Rough c mine) kept_same
    (chain_rest Rough latest on.older mine (subst (Follow Rough latest) on.are over.follow)) in
    let all_kept : kept_after Rough latest over.newer ≡ kept_after Rough theirs mine =
    ap (kept_after Rough latest) on.are ∙ kept_after-append Rough latest on.older mine
    ∙ ap (λ (c : Latest). kept_after Rough c mine) kept_same in
    let own_all : kept_after Rough (kept_at_lock Rough first) (ones ++ own_cells) ≡ kept_after Rough theirs own_cells =
    kept_after-append Rough (kept_at_lock Rough first) ones own_cells in
    let parts : flat over.newer ++ over.rest ≡ flat on.older ++ (flat mine ++ over.rest) =
    ap (λ (cs : List Cell). flat cs ++ over.rest) on.are
    ∙ ap (λ (xs : List ℕ). xs ++ over.rest) (flat_map-append intervals_of on.older mine)
    ∙ append_assoc (flat on.older) (flat mine) over.rest in
    let tails : flat mine ++ over.rest ≡ flat own_cells ++ own.rest =
    sym (drop_at (flat on.older) (flat mine ++ over.rest) (length over.hs) on.place)
    ∙ ap (drop (length over.hs)) (sym parts ∙ over.same)
    ∙ drop_at over.hs (whole ∷ (flat own.behind ++ own.rest)) (length over.hs) refl in
    let cells : mine ≡ own_cells =
    same_cells theirs mine own_cells over.rest own.rest follow
    (chain_rest Rough (kept_at_lock Rough first) ones own_cells own.follow)
    (subst (λ (c : Latest). NoneFits Rough c over.rest) all_kept over.none)
    (subst (λ (c : Latest). NoneFits Rough c own.rest) own_all own.none) tails in
    let rests : over.rest ≡ own.rest =
    append_cancel_left (flat mine) over.rest own.rest (tails ∙ ap (λ (cs : List Cell). flat cs ++ own.rest)
    (sym cells)) in
    let long : length (flat over.newer) ≡ length over.hs + length (flat mine) =
    ap (λ (cs : List Cell). length (flat cs)) on.are
    ∙ ap length (flat_map-append intervals_of on.older mine)
    ∙ length-append (flat on.older) (flat mine) ∙ ap (λ (k : ℕ). k + length (flat mine)) on.place in
    let own_long : length (flat (ones ++ own_cells)) ≡ length (flat ones) + length (flat own_cells) =
    ap length (flat_map-append intervals_of ones own_cells) ∙ length-append (flat ones) (flat own_cells) in
    let cells_long : length (flat mine) ≡ length (flat own_cells) = ap (λ (cs : List Cell). length (flat cs)) cells in
    let at_end = over.ends in
    let before_run = own.before_run in
    let end_is : own.lock + 1 + length (flat (ones ++ own_cells)) ≡ end_of s =
    omega (
      arith,
      own_long,
      cells_long,
      long,
      at_end,
      before_run,
      over_end l s (n + end) whole ones even
          (flat own.behind ++ own.rest) over,
    ) in
    let broken : IsBreak Rough (kept_after Rough latest over.newer) (end_of s) over.rest None =
    subst (λ (c : Latest). IsBreak Rough c (end_of s) over.rest None)
    (own_all ∙ ap (kept_after Rough theirs) (sym cells) ∙ sym all_kept)
    (subst (λ (xs : List ℕ). IsBreak Rough (kept_after Rough (kept_at_lock Rough first) (ones ++ own_cells))
    (end_of s) xs None)
    (sym rests)
    (subst (λ (e : ℕ). IsBreak Rough (kept_after Rough (kept_at_lock Rough first) (ones ++ own_cells)) e own.rest None)
    end_is own.broken)) in
    let front = Zero over.first ∷ (over.older ++ on.older) in
    record {
      older = front;
      are = over.are ∙ ap (λ (cs : List Cell). Zero over.first ∷ (over.older ++ cs)) on.are
          ∙ ap (λ (cs : List Cell). Zero over.first ∷ cs) (sym (append_assoc over.older on.older mine))
          ∙ ap (λ (cs : List Cell). front ++ cs) (cells ∙ sym own.cells_end);
      place = omega (
        arith,
        at_end,
        on.place,
        ap length (flat_map-append intervals_of over.older on.older),
        length-append (flat over.older) (flat on.older),
      );
      open_yet = break_is_one Rough (kept_after Rough latest over.newer) (end_of s) over.rest s.broken_at None
          over.broken
          broken;
    }

pub over_the_run : (l : List ℕ) (tape : List Cell) (cut : ℕ) (kept : List ℕ) (n end first whole : ℕ) (ones : List Cell)
    (even : ℕ) (own : OwnStretch l tape cut kept n end first whole ones) (s : Stretch)
    (over : Over l s (n + end) whole ones even (flat own.behind ++ own.rest)) → n + end < length l → 1 ≤ even
    → IsEvenZero even whole → AreEvenOnes even ones → 4 ≤ length ones → n + end ≤ end_of s + 1
    → BreaksOrHas tape cut kept n s end
over_the_run l tape cut kept n end first whole ones even own s over within some is are many late =
    let latest = kept_after Rough (kept_at_lock Rough over.first) over.older in
    let more = flat own.behind ++ own.rest in
    let at_end = over.ends in
    let end_is = over_end l s (n + end) whole ones even more over in
    elim (in_a_run even whole latest over.newer over.hs more over.rest some is over.evens over.sixteen
    (omega (arith, at_end, end_is, late)) over.follow over.none over.same) [
      | inl ends ↦ inl (over_breaks l s (n + end) whole ones even more over within ends)
      | inr on ↦ inr (over_goes_on l tape cut kept n end first whole ones even own s over are many on)
    ]
