-- Of a recording within the tolerance and its mirror, the kinds of the pairs give the cells between the greater
-- intervals of the first and the last unequal pair. So there the cells of the mirror are those of the recording in the
-- other order of time.
use Rattle.std.proofs.Common.{◌≡◌, ℕ, ◌+◌, ◌-◌, ◌≤◌, List, [], ◌∷◌, ◌++◌, length, drop, take, reverse}
use Rattle.std.proofs.Common.{inl, inr, refl, ap, subst, sym, ◌∙◌}
use Rattle.std.proofs.Common.{arith, append_assoc, length-append, length-drop}
use Rattle.std.proofs.lemmas.Bool.{cases_lt}
use Rattle.std.proofs.lemmas.List.{drop_at, length-reverse}
use Rattle.std.proofs.lemmas.List.{take-append-drop}
use Rattle.std.proofs.lemmas.Grind.{flat_map-append}
use Rattle.biphase.specs.declared.profile.Profile.{Profile}
use Rattle.biphase.specs.declared.cell.Cell.{Cell}
use Rattle.biphase.specs.declared.cell.Cell.TheVariants.{Zero}
use Rattle.biphase.specs.Chain.{intervals_of, flat, IsChain, Kinds}
use Rattle.biphase.specs.KindLemmas.{chain_kinds}
use Rattle.biphase.specs.Mirror.{mirrored}
use Rattle.biphase.specs.MirrorLemmas.{flat_mirrored, front_kinds}
use Rattle.biphase.specs.Zeros.{IsZeroAt}
use Rattle.cell_tracker.specs.ChainPiece.{IsPiece, cells_between, cells_from}
use Rattle.cell_tracker.specs.Lock.{IsLock}
use Rattle.cell_tracker.specs.Mirrored.{BeginMirrored}
use Rattle.cell_tracker.proofs.CellsOfAPiece.{all_between, ends_behind, lies_between, none_behind}
use Rattle.cell_tracker.proofs.SharesAZero.{later_zero}
use Rattle.cell_tracker.proofs.KeptStretch.{piece_from, lock_is_zero, cells_at_zero, stretch_at_lock}
use Rattle.cell_tracker.proofs.TurnedPlaces.{kinds_mirrored, kinds_of_front, last_zero, mirrored_push, tells_cells}
use Rattle.cell_tracker.proofs.TurnedPlaces.{turned_there}

-- ---- the cells

-- the cells of the recording from its first lock to its last zero, and what comes before and behind them
record Middle (profile : Profile) (l : List ℕ) (tape : List Cell) (cut first last : ℕ) : Type 0 where
  mid : List Cell
  x : ℕ
  more : List Cell
  are : cells_from tape cut l first ≡ mid ++ Zero x ∷ more
  many : first + length (flat mid) + 1 + last ≡ length l
  kinds : Kinds profile (mid ++ Zero x ∷ [])
  tail : List ℕ
  there : l ≡ take first l ++ (flat (mid ++ Zero x ∷ []) ++ tail)
  long : length tail ≡ last

push_flat : (mid more : List Cell) (x : ℕ) (rest : List ℕ)
    → flat (mid ++ Zero x ∷ more) ++ rest ≡ flat (mid ++ Zero x ∷ []) ++ (flat more ++ rest)
push_flat mid more x rest =
    let same : mid ++ Zero x ∷ more ≡ (mid ++ Zero x ∷ []) ++ more = sym (append_assoc mid (Zero x ∷ []) more) in
    ap (λ (cs : List Cell). flat cs ++ rest) same
    ∙ ap (λ (xs : List ℕ). xs ++ rest) (flat_map-append intervals_of (mid ++ Zero x ∷ []) more)
    ∙ append_assoc (flat (mid ++ Zero x ∷ [])) (flat more) rest

-- those of the cells behind a zero that lie between are a front of them
front_between : (low high at : ℕ) (cells : List Cell) → low ≤ at
    → (rest : List Cell) × (cells ≡ cells_between low high at cells ++ rest)
front_between low high at [] begins = ([], refl)
front_between low high at (cell ∷ cells) begins =
    let end = at + length (intervals_of cell) in
    elim (cases_lt high end) [
      | inl behind ↦ (
          let none : cells_between low high at (cell ∷ cells) ≡ [] =
          ends_behind low high at cell cells begins behind
          ∙ none_behind low high end cells (omega (arith, begins)) (omega (arith, behind)) in
          (cell ∷ cells, ap (λ (cs : List Cell). cs ++ cell ∷ cells) (sym none)))
      | inr within ↦ (
          let more = front_between low high end cells (omega (arith, begins)) in (
            more.0,
            ap (λ (cs : List Cell). cell ∷ cs) more.1
                ∙ ap (λ (cs : List Cell). cs ++ more.0) (sym (lies_between low high at cell cells begins within)),
          ))
    ]

kinds_behind : (profile : Profile) (before rest : List Cell) → Kinds profile (before ++ rest) → Kinds profile rest
kinds_behind profile [] rest kinds = kinds
kinds_behind profile (cell ∷ []) [] kinds = tt
kinds_behind profile (cell ∷ []) (next ∷ rest) kinds = kinds.2
kinds_behind profile (cell ∷ next ∷ before) rest kinds = kinds_behind profile (next ∷ before) rest kinds.2

-- the kinds of a chain from a zero of it on
kinds_at_zero : (profile : Profile) (tape : List Cell) (k x : ℕ) → IsChain profile tape → (zero : IsZeroAt tape k x)
    → Kinds profile (Zero x ∷ zero.after)
kinds_at_zero profile tape k x chain zero =
    kinds_behind profile zero.before (Zero x ∷ zero.after) (subst (Kinds profile) zero.are
    (chain_kinds profile tape chain))

-- and those of the cells of a piece from its lock on
kinds_from : (profile : Profile) (l : List ℕ) (tape : List Cell) (cut first : ℕ) → IsPiece profile l tape cut
    → IsLock profile l 0 first → Kinds profile (cells_from tape cut l first)
kinds_from profile l tape cut first piece lock =
    let f = lock_is_zero profile l tape cut 0 first piece lock in
    let x = f.1.0 in
    let zero = f.1.1 in
    let low = cut + first in
    let between = cells_between low (cut + length l) (low + 1) zero.after in
    let front = front_between low (cut + length l) (low + 1) zero.after (omega arith) in
    subst (Kinds profile) (sym (cells_at_zero tape zero.before zero.after cut first x l zero.are zero.place f.0))
    (front_kinds profile (Zero x) between front.0
    (subst (λ (cs : List Cell). Kinds profile (Zero x ∷ cs)) front.1
    (kinds_at_zero profile tape (cut + first) x piece.chain zero)))

middle_of : (profile : Profile) (l : List ℕ) (tape : List Cell) (cut first last : ℕ)
    → IsPiece profile l tape cut
    → IsLock profile l 0 first → IsLock profile (reverse l) 0 last → Middle profile l tape cut first last
middle_of profile l tape cut first last piece lock turned =
    let z = last_zero profile l tape cut first last piece lock turned in
    let v = z.0 in
    let at_v = z.3.1 in
    let f = lock_is_zero profile l tape cut 0 first piece lock in
    let later = later_zero tape cut first v f.1.0 z.3.0 l f.1.1 at_v z.2 (omega (arith, z.1)) in
    let mid = later.0 in
    let x = z.3.0 in
    let more = cells_between (cut + v) (cut + length l) (cut + v + 1) at_v.after in
    let are : cells_from tape cut l first ≡ mid ++ Zero x ∷ more =
    later.1 ∙ ap (λ (cs : List Cell). mid ++ cs)
    (cells_at_zero tape at_v.before at_v.after cut v x l at_v.are at_v.place (omega (arith, z.1))) in
    let is = stretch_at_lock profile l tape cut 0 first piece lock in
    let same : mid ++ Zero x ∷ more ≡ (mid ++ Zero x ∷ []) ++ more = sym (append_assoc mid (Zero x ∷ []) more) in
    let rest = is.chain.front.0 in
    let tail = flat more ++ rest in
    let begins : drop first l ≡ flat (mid ++ Zero x ∷ []) ++ tail =
    is.chain.front.1 ∙ ap (λ (cs : List Cell). flat cs ++ rest) are ∙ push_flat mid more x rest in
    let long : length (flat (mid ++ Zero x ∷ [])) ≡ length (flat mid) + 1 =
    ap length (flat_map-append intervals_of mid (Zero x ∷ [])) ∙ length-append (flat mid) (x ∷ []) in
    record {
      mid = mid;
      x = x;
      more = more;
      are = are;
      many = omega (arith, z.1, later.2);
      kinds = kinds_of_front profile (mid ++ Zero x ∷ []) more
          (subst (Kinds profile) (are ∙ same) (kinds_from profile l tape cut first piece lock));
      tail = tail;
      there = sym (take-append-drop first l) ∙ ap (λ (xs : List ℕ). take first l ++ xs) begins;
      long = omega (
        arith,
        ap length begins,
        length-append (flat (mid ++ Zero x ∷ [])) tail,
        long,
        length-drop first l,
        z.1,
        later.2,
      );
    }

-- what comes behind a zero of a piece
behind_zero_there : (profile : Profile) (intervals : List ℕ) (cells : List Cell) (cut place x : ℕ)
    (is : IsPiece profile intervals cells cut)
    (z : IsZeroAt cells (cut + place) x) → place ≤ length intervals
    → drop place intervals ++ is.part.0 ≡ x ∷ flat z.after
behind_zero_there profile intervals cells cut place x is z within =
    sym (piece_from profile intervals cells cut place is within)
    ∙ ap (λ (cs : List Cell). drop (cut + place) (flat cs)) z.are
    ∙ ap (drop (cut + place)) (flat_map-append intervals_of z.before (Zero x ∷ z.after))
    ∙ drop_at (flat z.before) (x ∷ flat z.after) (cut + place) z.place

pub begin_mirrored : (profile : Profile) (l : List ℕ) (tape other : List Cell) (cut place first last : ℕ)
    → IsPiece profile l tape cut
    → IsPiece profile (reverse l) other place → IsLock profile l 0 first → IsLock profile (reverse l) 0 last
    → BeginMirrored (cells_from tape cut l first) (cells_from other place (reverse l) last) first last (length l)
begin_mirrored profile l tape other cut place first last piece turned lock last_lock =
    let m = middle_of profile l tape cut first last piece lock last_lock in
    let mid = m.mid in
    let x = m.x in
    let middle = mid ++ Zero x ∷ [] in
    let pushed : mirrored middle ≡ Zero x ∷ mirrored mid = mirrored_push mid x in
    let g = lock_is_zero profile (reverse l) other place 0 last turned last_lock in
    let w = g.1.0 in
    let z = g.1.1 in
    let rest = reverse (take first l) ++ turned.part.0 in
    let there : drop last (reverse l) ≡ (x ∷ flat (mirrored mid)) ++ reverse (take first l) =
    turned_there l (take first l) (flat middle) m.tail last m.there m.long
    ∙ ap (λ (xs : List ℕ). xs ++ reverse (take first l)) (sym (flat_mirrored middle) ∙ ap flat pushed) in
    let both : w ∷ flat z.after ≡ x ∷ (flat (mirrored mid) ++ rest) =
    sym (behind_zero_there profile (reverse l) other place last w turned z (omega (arith, g.0)))
    ∙ ap (λ (xs : List ℕ). xs ++ turned.part.0) there
    ∙ append_assoc (x ∷ flat (mirrored mid)) (reverse (take first l)) turned.part.0 in
    let head : w ≡ x = cc in
    let after : flat z.after ≡ flat (mirrored mid) ++ rest = cc in
    let kinds : Kinds profile (Zero x ∷ mirrored mid) =
    subst (Kinds profile) pushed (kinds_mirrored profile middle m.kinds) in
    let others : Kinds profile (Zero x ∷ z.after) =
    subst (λ v. Kinds profile (Zero v ∷ z.after)) head
    (kinds_at_zero profile other (place + last) w turned.chain z) in
    let found = tells_cells profile x mid z.after rest kinds others after in
    let low = place + last in
    let high = place + length (reverse l) in
    let long : length (flat (mirrored mid)) ≡ length (flat mid) = ap length (flat_mirrored mid)
    ∙ length-reverse (flat mid) in
    let behind = cells_between low high (low + 1 + length (flat (mirrored mid))) found.0 in
    record {
      middle = middle;
      more = m.more;
      others_more = behind;
      cells_are = m.are ∙ sym (append_assoc mid (Zero x ∷ []) m.more);
      others_are =
          cells_at_zero other z.before z.after place last w (reverse l) z.are z.place g.0
          ∙ ap (λ v. Zero v ∷ cells_between low high (low + 1) z.after) head
          ∙ ap (λ (cs : List Cell). Zero x ∷ cells_between low high (low + 1) cs) found.1
          ∙ ap (λ (cs : List Cell). Zero x ∷ cs) (all_between low high (low + 1) (mirrored mid) found.0 (omega arith)
          (omega (arith, long, m.many, length-reverse l)))
          ∙ ap (λ (cs : List Cell). cs ++ behind) (sym pushed);
      many = omega (
        arith,
        ap length (flat_map-append intervals_of mid (Zero x ∷ [])),
        length-append (flat mid) (x ∷ []),
        m.many,
      );
    }
