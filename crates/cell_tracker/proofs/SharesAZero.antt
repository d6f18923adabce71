-- A stretch that shares a zero with the recording goes on with it.
use Rattle.std.proofs.Common.{◌≡◌, ℕ, ◌+◌, ◌-◌, ◌<◌, ◌≤◌, List, [], ◌∷◌, ◌++◌, length, drop, get_or, Option}
use Rattle.std.proofs.Common.{None}
use Rattle.std.proofs.Common.{refl, ap, subst, sym, ◌∙◌, arith, append_assoc, length-append}
use Rattle.std.proofs.lemmas.List.{drop_at, drop-drop}
use Rattle.std.proofs.lemmas.Grind.{flat_map-append}
use Rattle.biphase.specs.declared.profile.Profile.{Profile}
use Rattle.biphase.specs.declared.cell.Cell.{Cell}
use Rattle.biphase.specs.declared.cell.Cell.TheVariants.{Zero}
use Rattle.biphase.specs.Latest.{Latest}
use Rattle.biphase.specs.Tolerance.{LooksAtLast, kept_at_lock}
use Rattle.biphase.specs.Tolerance.{length_of}
use Rattle.biphase.specs.Chain.{intervals_of, flat, kept_after, kept_of, FollowOn}
use Rattle.biphase.specs.ToleranceLemmas.{behind_zero, chain_on, kept_anew}
use Rattle.biphase.specs.Zeros.{IsZeroAt}
use Rattle.cell_tracker.specs.ChainPiece.{IsPiece, cells_between, cells_from}
use Rattle.cell_tracker.specs.Stretch.{Stretch, end_of, IsBreak, IsStretch}
use Rattle.cell_tracker.proofs.CellsOfAPiece.{from_low, all_between, from_any_low, front_of_front}
use Rattle.cell_tracker.proofs.Chains.{kept_after-append}
use Rattle.cell_tracker.proofs.KeptStretch.{stretch_of_piece_at}
use Rattle.cell_tracker.proofs.KeptStretch.{stretch_at_zero}
use Rattle.cell_tracker.proofs.LocalStretch.{NoneFits, stretch_from, locally}
use Rattle.cell_tracker.proofs.OneStretch.{stretch_is_one}

-- ---- a stretch that shares a zero with the recording

-- the stretch has a zero where the recording has one, at the place q of the recording, which begins at the place n of
-- the list
pub record Shares (tape : List Cell) (cut n : ℕ) (stretch : Stretch) (q : ℕ) : Type 0 where
  pub older : List Cell
  pub newer : List Cell
  pub x : ℕ
  pub are : stretch.cells ≡ older ++ Zero x ∷ newer
  pub place : stretch.lock + length (flat older) ≡ n + q
  pub y : ℕ
  pub zero_there : IsZeroAt tape (cut + q) y

-- a stretch by its parts
abbrev stretch_by : ℕ → List Cell → Option ℕ → Stretch
stretch_by lock cells place = record { lock = lock; cells = cells; broken_at = place }

-- if the last cell alone is kept, what is kept from one of the zeros on is what is kept of all
kept_from_zero : (profile : Profile) → LooksAtLast profile → (older newer : List Cell) (x : ℕ)
    → kept_of profile (older ++ Zero x ∷ newer) ≡ kept_of profile (Zero x ∷ newer)
kept_from_zero profile looks [] newer x = refl
kept_from_zero profile looks (cell ∷ older) newer x =
    let c = kept_after profile (kept_at_lock profile (length_of cell)) older in
    kept_after-append profile (kept_at_lock profile (length_of cell)) older (Zero x ∷ newer)
    ∙ ap (λ (l : Latest). kept_after profile l newer) (kept_anew profile looks c x)

-- what a stretch has from one of its zeros on is the stretch there
stretch_from_zero : (profile : Profile) → LooksAtLast profile
    → (l : List ℕ) (s : Stretch) (older newer : List Cell) (x : ℕ) → IsStretch profile l s
    → s.cells ≡ older ++ Zero x ∷ newer → IsStretch profile l
    (stretch_by (s.lock + length (flat older)) (Zero x ∷ newer) s.broken_at)
stretch_from_zero profile looks l s older newer x is are =
    let local = locally profile l s is in
    let first = get_or l s.lock 0 in
    let more = local.0 in
    let rest = drop (end_of s) l in
    let chain = behind_zero profile older newer x (chain_on profile looks (older ++ Zero x ∷ newer)
    (subst (FollowOn profile) are is.chain.chain)) in
    let last : kept_of profile (Zero first ∷ more) ≡ kept_of profile (Zero x ∷ newer) =
    ap (kept_of profile) (sym local.1.cells) ∙ ap (kept_of profile) are ∙ kept_from_zero profile looks older newer x in
    let joined : flat s.cells ≡ flat older ++ (x ∷ flat newer) = ap flat are
    ∙ flat_map-append intervals_of older (Zero x ∷ newer) in
    let there : drop s.lock l ≡ flat older ++ (x ∷ (flat newer ++ rest)) =
    local.1.there ∙ ap (λ (cs : List Cell). flat cs ++ rest) (sym local.1.cells)
    ∙ ap (λ (xs : List ℕ). xs ++ rest) joined
    ∙ append_assoc (flat older) (x ∷ flat newer) rest in
    let new = stretch_by (s.lock + length (flat older)) (Zero x ∷ newer) s.broken_at in
    let end : end_of s ≡ end_of new = omega (arith, ap length joined, length-append (flat older) (x ∷ flat newer)) in
    stretch_from profile l new x newer rest (record {
      cells = refl;
      ticks = chain.0;
      chain = chain.1;
      there = sym (drop-drop (length (flat older)) s.lock l) ∙ ap (drop (length (flat older))) there
          ∙ drop_at (flat older) (x ∷ (flat newer ++ rest)) (length (flat older)) refl;
      none = subst (λ c. NoneFits profile c rest) last local.1.none;
      broken = subst (λ e. IsBreak profile (kept_of profile (Zero x ∷ newer)) e rest s.broken_at) end
          (subst (λ c. IsBreak profile c (end_of s) rest s.broken_at) last local.1.broken);
    })

-- and it is the recording's own
pub record Joins (tape : List Cell) (cut n : ℕ) (kept : List ℕ) (stretch : Stretch) (q : ℕ) : Type 0 where
  pub older : List Cell
  pub are : stretch.cells ≡ older ++ cells_from tape cut kept q
  pub place : stretch.lock + length (flat older) ≡ n + q
  pub open_yet : stretch.broken_at ≡ None

pub joins : (profile : Profile) → LooksAtLast profile → (before kept : List ℕ) (tape : List Cell) (cut q : ℕ)
    (s : Stretch)
    → IsPiece profile kept tape cut
    → q < length kept → IsStretch profile (before ++ kept) s → Shares tape cut (length before) s q
    → Joins tape cut (length before) kept s q
joins profile looks before kept tape cut q s piece within is shares =
    let part = stretch_by (s.lock + length (flat shares.older)) (Zero shares.x ∷ shares.newer) s.broken_at in
    let own = stretch_of_piece_at (length before) tape cut kept q in
    let same : part ≡ own = stretch_is_one profile (before ++ kept) part own shares.place
    (stretch_from_zero profile looks (before ++ kept) s shares.older shares.newer shares.x is shares.are)
    (stretch_at_zero profile before kept tape cut q shares.y piece shares.zero_there within) in
    record {
      older = shares.older;
      are = shares.are ∙ ap (λ (t : Stretch). shares.older ++ t.cells) same;
      place = shares.place;
      open_yet = ap (λ (t : Stretch). t.broken_at) same;
    }

-- the recording's cells from one of its zeros on are those up to a later zero, and those from there on
pub later_zero : (tape : List Cell) (cut q r x y : ℕ) (kept : List ℕ) → IsZeroAt tape (cut + q) x
    → IsZeroAt tape (cut + r) y → q ≤ r
    → r < length kept → (mid : List Cell) × (cells_from tape cut kept q ≡ mid ++ cells_from tape cut kept r)
    × (q + length (flat mid) ≡ r)
later_zero tape cut q r x y kept one two order within =
    let high = cut + length kept in
    let behind = Zero y ∷ two.after in
    let front = front_of_front one.before (Zero x ∷ one.after) two.before behind (sym one.are ∙ two.are)
    (omega (arith, one.place, two.place)) in
    let mid = front.0 in
    let long : q + length (flat mid) ≡ r =
    omega (
      arith,
      one.place,
      two.place,
      ap (λ (cs : List Cell). length (flat cs)) front.1,
      ap length (flat_map-append intervals_of one.before mid),
      length-append (flat one.before) (flat mid),
    ) in
    let are : tape ≡ one.before ++ (mid ++ behind) =
    two.are ∙ ap (λ (cs : List Cell). cs ++ behind) front.1 ∙ append_assoc one.before mid behind in
    let from_r : cells_from tape cut kept r ≡ cells_between (cut + r) high (cut + r) behind =
    ap (λ (cs : List Cell). cells_from cs cut kept r) two.are
    ∙ from_low (cut + r) high 0 two.before behind (omega (arith, two.place)) in
    let from_q : cells_from tape cut kept q ≡ mid ++ cells_between (cut + q) high (cut + q + length (flat mid)) behind =
    ap (λ (cs : List Cell). cells_from cs cut kept q) are
    ∙ from_low (cut + q) high 0 one.before (mid ++ behind) (omega (arith, one.place))
    ∙ all_between (cut + q) high (cut + q) mid behind (omega arith) (omega arith) in
    let place : cut + q + length (flat mid) ≡ cut + r = omega arith in (
      mid,
      from_q ∙ ap (λ n. mid ++ cells_between (cut + q) high n behind) place
          ∙ ap (λ (cs : List Cell). mid ++ cs) (from_any_low (cut + q) (cut + r) high (cut + r) behind (omega arith)
          (omega arith) ∙ sym from_r),
      long,
    )
