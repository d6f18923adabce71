-- A chain is the longest one exactly if no next cell fits what follows it.
use Rattle.std.proofs.Common.{◌≡◌, ℕ, ◌≤◌, List, [], ◌∷◌, ◌++◌, length, drop, get_or, inl, inr, refl, ap, subst, sym}
use Rattle.std.proofs.Common.{◌∙◌, arith}
use Rattle.std.proofs.Common.{append_assoc, length-append, add-zero}
use Rattle.std.proofs.lemmas.List.{append_cancel_left, append-nil, drop_at, drop-drop, get_or-drop, length_push}
use Rattle.std.proofs.lemmas.Grind.{flat_map-append}
use Rattle.biphase.specs.declared.profile.Profile.{Profile}
use Rattle.biphase.specs.declared.cell.Cell.{Cell}
use Rattle.biphase.specs.declared.cell.Cell.TheVariants.{Zero, One}
use Rattle.biphase.specs.Latest.{Latest}
use Rattle.biphase.specs.Tolerance.{kept_at_lock}
use Rattle.biphase.specs.Tolerance.{IsNext}
use Rattle.biphase.specs.Chain.{intervals_of, flat, kept_after, kept_of, IsCell, Follow, FollowOn, IsChainAfter}
use Rattle.biphase.specs.Chain.{IsNextZero, IsNextOne}
use Rattle.cell_tracker.proofs.Chains.{chain_rest, chain-append, chain_lasts}
use Rattle.biphase.specs.ChainLemmas.{comparable_after}
use Rattle.biphase.specs.ToleranceLemmas.{zero_lasts, one_lasts}
use Rattle.cell_tracker.specs.Stretch.{Stretch, end_of, IsChainFrom, IsBreak, IsStretch}

-- after the latest cells no cell fits the front of the list
abbrev pub NoneFits : Profile → Latest → List ℕ → Type 0
NoneFits profile c [] = Unit {0}
NoneFits profile c (x ∷ []) = ¬ IsNextZero profile c x
NoneFits profile c (x ∷ y ∷ rest) = ¬ IsNextZero profile c x × ¬ IsNextOne profile c x y

-- so its first interval is no zero
none_is_zero : (profile : Profile) (c : Latest) (x : ℕ) (rest : List ℕ) → NoneFits profile c (x ∷ rest)
    → IsNextZero profile c x → ⊥
none_is_zero profile c x [] none zero = none zero
none_is_zero profile c x (y ∷ rest) none zero = none.0 zero

-- and no chain goes on there
none_goes_on : (profile : Profile) (c : Latest) (cell : Cell) (cells : List Cell) (rest other : List ℕ)
    → NoneFits profile c rest → Follow profile c (cell ∷ cells) → rest ≡ flat (cell ∷ cells) ++ other → ⊥
none_goes_on profile c (Zero x) cells rest other none chain same =
    none_is_zero profile c x (flat cells ++ other) (subst (NoneFits profile c) same none) chain.1
none_goes_on profile c (One a b) cells rest other none chain same =
    let fits : ¬ IsNextZero profile c a × ¬ IsNextOne profile c a b = subst (NoneFits profile c) same none in
    fits.1 (chain.1, chain.0.2)

-- a chain that goes on from another one, at whose end no cell fits, is no longer
no_more : (profile : Profile) (c : Latest) (cells more : List Cell) (rest other : List ℕ)
    → Follow profile c (cells ++ more) → NoneFits profile (kept_after profile c cells) rest
    → flat cells ++ rest ≡ flat (cells ++ more) ++ other → length (cells ++ more) ≤ length cells
no_more profile c cells [] rest other chain none same = omega (arith, length-append {A = Cell})
no_more profile c cells (cell ∷ more) rest other chain none same =
    let tail : rest ≡ flat (cell ∷ more) ++ other =
    append_cancel_left (flat cells) _ _ (same ∙ ap (λ xs. xs ++ other)
    (flat_map-append intervals_of cells (cell ∷ more))
    ∙ append_assoc (flat cells) (flat (cell ∷ more)) other) in
    absurd (none_goes_on profile (kept_after profile c cells) cell more rest other none
    (chain_rest profile c cells (cell ∷ more) chain) tail)

-- a chain at whose end no cell fits has as many cells as any other
pub no_longer : (profile : Profile) (c : Latest) (cells others : List Cell) (rest other : List ℕ)
    → Follow profile c cells → Follow profile c others → NoneFits profile (kept_after profile c cells) rest
    → flat cells ++ rest ≡ flat others ++ other → length others ≤ length cells
no_longer profile c cells others rest other chain chain_too none same =
    elim (comparable_after profile c cells others rest other chain chain_too same) [
      | inl (more, is) ↦ rw is (no_more profile c cells more rest other (subst (Follow profile c) is chain_too) none
          (same ∙ ap (λ xs. flat xs ++ other) is))
      | inr (more, is) ↦ omega (arith, ap length is, length-append others more)
    ]

-- a stretch by what is at its end: its cells are a first zero and more, and no cell fits the rest of the list
pub record IsLocally (profile : Profile) (intervals : List ℕ) (stretch : Stretch) (first : ℕ) (more : List Cell)
    (rest : List ℕ) : Type 0 where
  pub cells : stretch.cells ≡ Zero first ∷ more
  pub ticks : 1 ≤ first
  pub chain : IsChainAfter profile first more
  pub there : drop stretch.lock intervals ≡ first ∷ (flat more ++ rest)
  pub none : NoneFits profile (kept_of profile (Zero first ∷ more)) rest
  pub broken : IsBreak profile (kept_of profile (Zero first ∷ more)) (end_of stretch) rest stretch.broken_at

-- the rest of the list
pub rest_is : (intervals : List ℕ) (stretch : Stretch) (first : ℕ) (more : List Cell) (rest : List ℕ)
    → stretch.cells ≡ Zero first ∷ more → drop stretch.lock intervals ≡ first ∷ (flat more ++ rest)
    → drop (end_of stretch) intervals ≡ rest
rest_is intervals stretch first more rest cells there =
    sym (drop-drop (length (flat stretch.cells)) stretch.lock intervals)
    ∙ ap (drop (length (flat stretch.cells))) there
    ∙ ap (λ xs. drop (length (flat xs)) (first ∷ (flat more ++ rest))) cells
    ∙ drop_at (first ∷ flat more) rest (length (first ∷ flat more)) refl

-- what a list of intervals has at a place where something is known to be
head_is : (intervals : List ℕ) (k x : ℕ) (rest : List ℕ) → drop k intervals ≡ x ∷ rest → get_or intervals k 0 ≡ x
head_is intervals k x rest there =
    ap (λ n. get_or intervals n 0) (sym (add-zero k)) ∙ sym (get_or-drop k intervals 0 0)
    ∙ ap (λ xs. get_or xs 0 0) there

-- the tails of equal lists are equal
pub tail_is : {x y : ℕ} {xs ys : List ℕ} → x ∷ xs ≡ y ∷ ys → xs ≡ ys
tail_is same = cc

-- a chain from a lock by its first zero and the cells after it
record Parts (profile : Profile) (intervals : List ℕ) (lock : ℕ) (cells : List Cell) (first : ℕ) : Type 0 where
  more : List Cell
  same : cells ≡ Zero first ∷ more
  ticks : 1 ≤ first
  chain : IsChainAfter profile first more
  rest : List ℕ
  there : drop lock intervals ≡ first ∷ (flat more ++ rest)

-- a chain from a lock has these parts
parts_of : (profile : Profile) (intervals : List ℕ) (lock : ℕ) (cells : List Cell) (first : ℕ)
    → get_or intervals lock 0 ≡ first → IsChainFrom profile intervals lock cells
    → Parts profile intervals lock cells first
parts_of profile intervals lock cells first head from =
    let same : cells ≡ Zero first ∷ from.first.0 = from.first.1 ∙ ap (λ x. Zero x ∷ from.first.0) head in
    let chain : FollowOn profile (Zero first ∷ from.first.0) = subst (FollowOn profile) same from.chain in
    record {
      more = from.first.0;
      same = same;
      ticks = chain.0;
      chain = chain.1;
      rest = from.front.0;
      there = from.front.1 ∙ ap (λ xs. flat xs ++ from.front.0) same;
    }

-- and what has these parts is one
chain_from : (profile : Profile) (intervals : List ℕ) (lock : ℕ) (cells : List Cell) (first : ℕ) (more : List Cell)
    (rest : List ℕ)
    → cells ≡ Zero first ∷ more → 1 ≤ first → IsChainAfter profile first more
    → drop lock intervals ≡ first ∷ (flat more ++ rest)
    → IsChainFrom profile intervals lock cells
chain_from profile intervals lock cells first more rest same ticks chain there = record {
  first = (more, same ∙ ap (λ x. Zero x ∷ more) (sym (head_is intervals lock first (flat more ++ rest) there)));
  chain = subst (FollowOn profile) (sym same) (ticks, chain);
  front = (rest, there ∙ ap (λ xs. flat xs ++ rest) (sym same));
}

-- what no cell fits behind is a stretch
pub stretch_from : (profile : Profile) (intervals : List ℕ) (stretch : Stretch) (first : ℕ) (more : List Cell)
    (rest : List ℕ)
    → IsLocally profile intervals stretch first more rest → IsStretch profile intervals stretch
stretch_from profile intervals stretch first more rest is = record {
  chain = chain_from profile intervals stretch.lock stretch.cells first more rest is.cells is.ticks is.chain is.there;
  longest = λ others from.
      let parts =
      parts_of profile intervals stretch.lock others first
      (head_is intervals stretch.lock first (flat more ++ rest) is.there) from in
      let tails : flat more ++ rest ≡ flat parts.more ++ parts.rest = tail_is (sym is.there ∙ parts.there) in
      let most : length parts.more ≤ length more =
      no_longer profile
      (kept_at_lock profile first) more parts.more rest parts.rest is.chain parts.chain is.none tails in
      omega (arith, most, ap length parts.same, ap length is.cells);
  broken =
      rw (rest_is intervals stretch first more rest is.cells is.there)
      (subst (λ cells. IsBreak profile (kept_of profile cells) (end_of stretch) rest stretch.broken_at)
      (sym is.cells) is.broken);
}

-- the intervals of some cells and one more
pub flat_push : (cells : List Cell) (cell : Cell) (rest : List ℕ)
    → flat (cells ++ cell ∷ []) ++ rest ≡ flat cells ++ (intervals_of cell ++ rest)
flat_push cells cell rest =
    ap (λ xs. xs ++ rest) (flat_map-append intervals_of cells (cell ∷ [])
    ∙ ap (λ xs. flat cells ++ xs) (append-nil (intervals_of cell)))
    ∙ append_assoc (flat cells) (intervals_of cell) rest

-- no cell fits at the end of a stretch, or the chain with it would be longer
too_long : (profile : Profile) (intervals : List ℕ) (stretch : Stretch) (first : ℕ) (more : List Cell) (cell : Cell)
    (rest : List ℕ)
    → IsStretch profile intervals stretch → stretch.cells ≡ Zero first ∷ more → 1 ≤ first
    → IsChainAfter profile first more
    → IsCell profile cell → IsNext profile (kept_of profile (Zero first ∷ more)) cell
    → drop stretch.lock intervals ≡ first ∷ (flat more ++ (intervals_of cell ++ rest)) → ⊥
too_long profile intervals stretch first more cell rest is same ticks chain one near there =
    let longer : IsChainFrom profile intervals stretch.lock (Zero first ∷ (more ++ cell ∷ [])) =
    chain_from profile intervals stretch.lock (Zero first ∷ (more ++ cell ∷ [])) first
    (more ++ cell ∷ []) rest refl ticks
    (chain-append profile (kept_at_lock profile first) more (cell ∷ []) chain (one, near, tt))
    (there ∙ ap (λ xs. first ∷ xs) (sym (flat_push more cell rest))) in
    let most : length (Zero first ∷ (more ++ cell ∷ [])) ≤ length stretch.cells = is.longest _ longer in
    omega (arith, most, ap length same, length_push more cell)

-- at the end of a stretch no cell fits
none_fits : (profile : Profile) (intervals : List ℕ) (stretch : Stretch) (first : ℕ) (more : List Cell) (rest : List ℕ)
    → IsStretch profile intervals stretch → stretch.cells ≡ Zero first ∷ more → 1 ≤ first
    → IsChainAfter profile first more
    → drop stretch.lock intervals ≡ first ∷ (flat more ++ rest)
    → NoneFits profile (kept_of profile (Zero first ∷ more)) rest
none_fits profile intervals stretch first more [] is same ticks chain there = tt
none_fits profile intervals stretch first more (x ∷ []) is same ticks chain there =
    λ zero. too_long profile intervals stretch first more (Zero x) [] is same ticks chain
    (zero_lasts profile (kept_of profile (Zero first ∷ more)) x
    (chain_lasts profile first more ticks chain) zero) zero there
none_fits profile intervals stretch first more (x ∷ y ∷ rest) is same ticks chain there =
    let lasts : 1 ≤ (kept_of profile (Zero first ∷ more)).last = chain_lasts profile first more ticks chain in (
      λ zero. too_long profile intervals stretch first more (Zero x) (y ∷ rest) is same ticks chain
          (zero_lasts profile (kept_of profile (Zero first ∷ more)) x lasts zero) zero there,
      λ one.
          let ticks_too = one_lasts profile (kept_of profile (Zero first ∷ more)) x y lasts one in
          too_long profile intervals stretch first more (One x y) rest is same ticks chain
          (ticks_too.0, ticks_too.1, one.1) one.0 there,
    )

-- each stretch is such
pub locally : (profile : Profile) (intervals : List ℕ) (stretch : Stretch) → IsStretch profile intervals stretch
    → (more : List Cell) × IsLocally profile intervals stretch (get_or intervals stretch.lock 0) more
    (drop (end_of stretch) intervals)
locally profile intervals stretch is =
    let first = get_or intervals stretch.lock 0 in
    let parts = parts_of profile intervals stretch.lock stretch.cells first refl is.chain in
    let rest : drop (end_of stretch) intervals ≡ parts.rest =
    rest_is intervals stretch first parts.more parts.rest parts.same parts.there in
    let there : drop stretch.lock intervals ≡ first ∷ (flat parts.more ++ drop (end_of stretch) intervals) =
    parts.there ∙ ap (λ xs. first ∷ (flat parts.more ++ xs)) (sym rest) in (
      parts.more,
      record {
        cells = parts.same;
        ticks = parts.ticks;
        chain = parts.chain;
        there = there;
        none = none_fits profile intervals stretch first parts.more
            (drop (end_of stretch) intervals) is parts.same parts.ticks parts.chain there;
        broken = subst (λ cells. IsBreak profile (kept_of profile cells) (end_of stretch)
            (drop (end_of stretch) intervals) stretch.broken_at) parts.same is.broken;
      },
    )
