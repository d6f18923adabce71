-- What becomes of a stretch of the rough tolerance in a run of even ones, whatever it had before: behind eight cells it
-- has taken four zeros or four ones in a row, and takes no other cell up to the end of the run. The zero behind the run
-- ends a stretch that took the halves for zeros, or for ones of the other phase. A stretch that goes on has the ones of
-- the run as its latest four.
use Rattle.std.proofs.Common.{◌≡◌, ℕ, ◌+◌, ◌≤◌, List, [], ◌∷◌, ◌++◌, length, inl, inr, refl, ap}
use Rattle.std.proofs.Common.{◌∙◌, arith, append_assoc, length-append}
use Rattle.biphase.specs.declared.profile.Profile.TheVariants.{Rough}
use Rattle.biphase.specs.declared.cell.Cell.{Cell}
use Rattle.biphase.specs.declared.cell.Cell.TheVariants.{Zero, One}
use Rattle.biphase.specs.Latest.{Latest}
use Rattle.biphase.specs.Tolerance.{kept_next, latest_with, length_of, IsNext}
use Rattle.biphase.specs.Chain.{intervals_of, flat, kept_after, Follow}
use Rattle.cell_tracker.specs.EvenRun.{IsEvenHalf, IsEvenZero}
use Rattle.cell_tracker.proofs.LocalStretch.{NoneFits}
use Rattle.cell_tracker.proofs.RunCells.{AreEvenHalves, EndIn, EndOrGoOn, IsOneTaken, IsZeroTaken, decides}
use Rattle.cell_tracker.proofs.RunCells.{kept_ones, known, long_on, short_on}
use Rattle.cell_tracker.proofs.PeeledCells.{InRun, Peeled, after, peel}

-- the intervals of a run
record Eight (even whole : ℕ) (more rest : List ℕ) (l : Latest) (cells : List Cell) (hs : List ℕ) : Type 0 where
  one : Peeled even whole more rest 14 l cells hs
  two : Peeled even whole more rest 12 (after one) one.others one.left
  three : Peeled even whole more rest 10 (after two) two.others two.left
  four : Peeled even whole more rest 8 (after three) three.others three.left
  p : Peeled even whole more rest 6 (after four) four.others four.left
  q : Peeled even whole more rest 4 (after p) p.others p.left
  r : Peeled even whole more rest 2 (after q) q.others q.left
  s : Peeled even whole more rest 0 (after r) r.others r.left

eight_of : (even whole : ℕ) (more rest : List ℕ) (l : Latest) (cells : List Cell) (hs : List ℕ)
    → InRun even whole more rest l cells hs → 16 ≤ length hs → Eight even whole more rest l cells hs
eight_of even whole more rest l cells hs own sixteen =
    let next = peel even whole more rest in
    let one = next 14 l cells hs own sixteen in
    let two = next 12 (after one) one.others one.left one.inner one.still in
    let three = next 10 (after two) two.others two.left two.inner two.still in
    let four = next 8 (after three) three.others three.left three.inner three.still in
    let p = next 6 (after four) four.others four.left four.inner four.still in
    let q = next 4 (after p) p.others p.left p.inner p.still in
    let r = next 2 (after q) q.others q.left q.inner q.still in
    let s = next 0 (after r) r.others r.left r.inner r.still in
    record { one = one; two = two; three = three; four = four; p = p; q = q; r = r; s = s }

-- their intervals, one behind another
eight_of_list : {even whole : ℕ} {more rest : List ℕ} {l : Latest} {cells : List Cell} {hs : List ℕ}
    (all : Eight even whole more rest l cells hs)
    → hs ≡ (intervals_of all.one.cell ++ (intervals_of all.two.cell ++ (intervals_of all.three.cell
    ++ intervals_of all.four.cell))) ++ (intervals_of all.p.cell ++ (intervals_of all.q.cell ++ (intervals_of all.r.cell
    ++ (intervals_of all.s.cell ++ all.s.left))))
eight_of_list all =
    rw (all.one.parts, all.two.parts, all.three.parts, all.four.parts, all.p.parts, all.q.parts, all.r.parts, all.s.parts)
    (simp append_assoc)

is_half : (even : ℕ) (cell : Cell) → IsZeroTaken even cell → IsEvenHalf even (length_of cell)
is_half even (Zero x) is = is
is_half even (One a b) is = absurd is

module _ (run : List ℕ) (even whole : ℕ) (more rest : List ℕ) (some : 1 ≤ even) (is : IsEvenZero even whole) where
  abbrev In : Latest → List Cell → List ℕ → Type 0
  In l cells hs = InRun even whole more rest l cells hs

  -- so it is with one cell more before them
  behind : {n : ℕ} {l : Latest} {cells : List Cell} {hs : List ℕ} (p : Peeled even whole more rest n l cells hs)
      → EndOrGoOn run (after p) p.others whole p.left → EndOrGoOn run l cells whole hs
  behind {hs = hs} p (inl ends) =
      let long : length hs ≡ length (intervals_of p.cell) + length p.left =
      ap length p.parts ∙ length-append (intervals_of p.cell) p.left in
      let all = length-append (intervals_of p.cell) (flat p.others) in
      rw p.are (inl (omega (arith, ends.0, long, all), λ same. ends.1 (omega (arith, same, long, all))))
  behind {hs = hs} p (inr on) =
      let long : length hs ≡ length (intervals_of p.cell) + length p.left =
      ap length p.parts ∙ length-append (intervals_of p.cell) p.left in
      inr (record {
        older = p.cell ∷ on.older;
        newer = on.newer;
        are = p.are ∙ ap (λ (cs : List Cell). p.cell ∷ cs) on.are;
        place = omega (arith, on.place, long, length-append (intervals_of p.cell) (flat on.older));
        front = on.front;
        a = on.a;
        b = on.b;
        c = on.c;
        d = on.d;
        e = on.e;
        f = on.f;
        g = on.g;
        h = on.h;
        last = on.last;
        kept = on.kept;
      })

  -- ---- four zeros

  zeros_end : (l : Latest) (cells : List Cell) (hs : List ℕ) → IsEvenHalf even l.last → IsEvenHalf even l.second
      → IsEvenHalf even l.third → IsEvenHalf even l.fourth → In l cells hs → EndIn l cells whole hs
  zeros_end l [] hs a b c d own = (omega arith, λ _ half. omega arith)
  zeros_end l (Zero x ∷ cells) [] a b c d own =
      let same = own.same in
      let first : x ≡ whole = cc in
      absurd (omega (arith, own.follow.1))
  zeros_end l (One x y ∷ cells) [] a b c d own =
      let same = own.same in
      let first : x ≡ whole = cc in
      absurd (omega (arith, own.follow.1))
  zeros_end l (Zero x ∷ cells) (h ∷ hs) a b c d own =
      let same = own.same in
      let covers = own.covers in
      let first : x ≡ h = cc in
      let later = zeros_end (kept_next Rough l x) cells hs (rw first own.evens.0) a b c (record {
        evens = own.evens.1;
        covers = omega arith;
        follow = own.follow.2;
        none = own.none;
        same = cc;
      }) in
      (omega (arith, later.0), λ all. later.1 (omega arith))
  zeros_end l (One x y ∷ cells) (h ∷ []) a b c d own =
      let same = own.same in
      let first : x ≡ h = cc in
      let second : y ≡ whole = cc in
      absurd (omega (arith, own.follow.1, own.evens.0))
  zeros_end l (One x y ∷ cells) (h ∷ g ∷ hs) a b c d own =
      let same = own.same in
      let first : x ≡ h = cc in
      let second : y ≡ g = cc in
      absurd (omega (arith, own.follow.1, own.evens.0, own.evens.1.0))

  -- ---- four ones

  no_zero_next : (l : Latest) (x : ℕ) (behind : List ℕ) → NoneFits Rough l (x ∷ behind) → IsNext Rough l (Zero x) → ⊥
  no_zero_next l x [] none fits = none fits
  no_zero_next l x (y ∷ behind) none fits = none.0 fits

  ones_end : (front : List ℕ) (cells : List Cell) (a b c d e f g h : ℕ) (hs : List ℕ)
      → run ≡ front ++ (a ∷ b ∷ c ∷ d ∷ e ∷ f ∷ g ∷ h ∷ hs)
      → AreEvenHalves even (a ∷ b ∷ c ∷ d ∷ e ∷ f ∷ g ∷ h ∷ []) → In (kept_ones a b c d e f g h) cells hs
      → EndOrGoOn run (kept_ones a b c d e f g h) cells whole hs
  ones_end front [] a b c d e f g h [] at ones own =
      absurd (no_zero_next (kept_ones a b c d e f g h) whole more (rw own.same at own.none) (omega arith))
  ones_end front [] a b c d e f g h (x ∷ hs) at ones own = inl (omega arith, λ all. absurd (omega arith))
  ones_end front (Zero x ∷ cells) a b c d e f g h [] at ones own =
      let same = own.same in
      inr (record {
        older = [];
        newer = cells;
        are = cc;
        place = refl;
        front = front;
        a = a;
        b = b;
        c = c;
        d = d;
        e = e;
        f = f;
        g = g;
        h = h;
        last = at;
        kept = refl;
      })
  ones_end front (One x y ∷ cells) a b c d e f g h [] at ones own =
      let same = own.same in
      let first : x ≡ whole = cc in
      absurd (omega (arith, own.follow.1))
  ones_end front (Zero x ∷ cells) a b c d e f g h (z ∷ hs) at ones own =
      let same = own.same in
      let first : x ≡ z = cc in
      absurd (omega (arith, own.follow.1, own.evens.0))
  ones_end front (One x y ∷ cells) a b c d e f g h (z ∷ []) at ones own =
      let same = own.same in
      let second : y ≡ whole = cc in
      absurd (omega (arith, own.follow.1))
  ones_end front (One x y ∷ cells) a b c d e f g h (z ∷ w ∷ hs) at ones own =
      let same = own.same in
      let first : x ≡ z = cc in
      let second : y ≡ w = cc in
      let covers = own.covers in
      let inner : In (kept_ones c d e f g h x y) cells hs = record {
        evens = own.evens.1.1;
        covers = omega arith;
        follow = own.follow.2;
        none = own.none;
        same = cc;
      } in
      let halves : IsEvenHalf even x × IsEvenHalf even y = rw (first, second) (own.evens.0, own.evens.1.0) in
      let here : Peeled even whole more rest 0 (kept_ones a b c d e f g h) (One x y ∷ cells) (z ∷ w ∷ hs) = record {
        cell = One x y;
        others = cells;
        left = hs;
        are = refl;
        parts = cc;
        still = omega arith;
        taken = halves;
        fits = own.follow.1;
        inner = inner;
      } in
      behind here (ones_end (front ++ (a ∷ b ∷ [])) cells c d e f g h x y hs
      (rw (append_assoc, first, second) at)
      (let o = ones.1.1 in
      (o.0, (o.1.0, (o.1.1.0, (o.1.1.1.0, (o.1.1.1.1.0, (o.1.1.1.1.1.0, (halves.0, (halves.1, tt))))))))) inner)

  -- four ones behind one another
  ones_from : (front : List ℕ) (p q r s : Cell) (cells : List Cell) (hs : List ℕ)
      → run ≡ front ++ (intervals_of p ++ (intervals_of q ++ (intervals_of r ++ (intervals_of s ++ hs))))
      → IsOneTaken even p → IsOneTaken even q → IsOneTaken even r → IsOneTaken even s
      → In (latest_with (length_of s) (length_of r) (length_of q) (length_of p)) cells hs
      → EndOrGoOn run (latest_with (length_of s) (length_of r) (length_of q) (length_of p)) cells whole hs
  ones_from front (One a b) (One c d) (One e f) (One g h) cells hs at one two three four own =
      ones_end front cells a b c d e f g h hs at
      (one.0, (one.1, (two.0, (two.1, (three.0, (three.1, (four.0, (four.1, tt)))))))) own
  ones_from front (Zero x) q r s cells hs at one two three four own = absurd one
  ones_from front (One a b) (Zero x) r s cells hs at one two three four own = absurd two
  ones_from front (One a b) (One c d) (Zero x) s cells hs at one two three four own = absurd three
  ones_from front (One a b) (One c d) (One e f) (Zero x) cells hs at one two three four own = absurd four

  -- eight cells of it, of which the first four are anything
  in_eight : (l : Latest) (cells : List Cell) (hs : List ℕ) (all : Eight even whole more rest l cells hs) → run ≡ hs
      → EndOrGoOn run l cells whole hs
  in_eight l cells hs all whole_run =
      let s = all.s in
      behind all.one (behind all.two (behind all.three (behind all.four (behind all.p (behind all.q (behind all.r
      (behind s
      (elim (decides even (after all.four) all.p.cell (known even all.four.cell all.four.taken)
      (known even all.three.cell all.three.taken) (known even all.two.cell all.two.taken)
      (known even all.one.cell all.one.taken) all.p.taken all.p.fits) [
        | inl first ↦ (
            let second = short_on even (after all.p) all.q.cell some first.1 all.q.taken all.q.fits in
            let third = short_on even (after all.q) all.r.cell some second.1 all.r.taken all.r.fits in
            let fourth = short_on even (after all.r) s.cell some third.1 s.taken s.fits in
            inl (zeros_end (after s) s.others s.left (is_half even s.cell fourth.0) (is_half even all.r.cell third.0)
            (is_half even all.q.cell second.0) (is_half even all.p.cell first.0) s.inner))
        | inr first ↦ (
            let second = long_on even (after all.p) all.q.cell some first.1 all.q.taken all.q.fits in
            let third = long_on even (after all.q) all.r.cell some second.1 all.r.taken all.r.fits in
            let fourth = long_on even (after all.r) s.cell some third.1 s.taken s.fits in
            ones_from
            (intervals_of all.one.cell ++ (intervals_of all.two.cell ++ (intervals_of all.three.cell
            ++ intervals_of all.four.cell))) all.p.cell all.q.cell all.r.cell s.cell s.others s.left
            (whole_run ∙ eight_of_list all) first.0 second.0 third.0 fourth.0 s.inner)
      ]))))))))

-- cells that follow anything in a run of sixteen halves or more end in it, or go on as its ones
pub in_a_run : (even whole : ℕ) (l : Latest) (cells : List Cell) (hs more rest : List ℕ) → 1 ≤ even
    → IsEvenZero even whole → AreEvenHalves even hs → 16 ≤ length hs → length hs ≤ length (flat cells) + 1
    → Follow Rough l cells → NoneFits Rough (kept_after Rough l cells) rest → flat cells ++ rest ≡ hs ++ whole ∷ more
    → EndOrGoOn hs l cells whole hs
in_a_run even whole l cells hs more rest some is evens sixteen covers follow none same =
    let own : InRun even whole more rest l cells hs =
    record { evens = evens; covers = covers; follow = follow; none = none; same = same } in
    in_eight hs even whole more rest some is l cells hs (eight_of even whole more rest l cells hs own sixteen)
    refl
