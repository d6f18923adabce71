-- A frame takes the error by what the order takes of it and by the slip, since master and transport move alike.
use Rattle.std.proofs.Common.{◌≡◌, ℕ, ◌+◌, ◌*◌, ◌<◌, ◌≤◌, ◌⊎◌, inl, inr, ℤ, pos, neg_ℤ, ◌+ℤ◌, ◌-ℤ◌, ◌*ℤ◌, ◌<ℤ◌, ◌≤ℤ◌}
use Rattle.std.proofs.Common.{subst, arith}
use Rattle.std.specs.Prelude.{unsigned_abs}
use Rattle.std.proofs.lemmas.Int.{ints}
use Rattle.std.proofs.lemmas.Bool.Decides.{nat_tests}
use Rattle.tc_address.specs.declared.count.Count.{Count}
use Rattle.tc_address.specs.declared.count.Count.TheVariants.{C24, C25, C30, Drop30}
use Rattle.tc_address.specs.declared.direction.Direction.{Direction}
use Rattle.tc_address.specs.declared.direction.Direction.TheVariants.{Forward, Backward}
use Rattle.tc_address.specs.Numbering.{day_length}
use Rattle.tc_address.specs.Circle.{moved, shortest_way}
use Rattle.transport_model.specs.Move.{day_of}
use Rattle.chase_core.specs.Step.{error_to, motion_of}
use Rattle.chase_core.specs.Trace.{frame_in}

-- d leads from a to b, up to whole turns of the day
record Leads (day a b : ℕ) (d : ℤ) : Type 0 where
  back : ℕ
  over : ℕ
  leads : pos a +ℤ d +ℤ pos (back * day) ≡ pos b +ℤ pos (over * day)

-- it is not longer than half the day
record IsShort (day : ℕ) (d : ℤ) : Type 0 where
  above : neg_ℤ (pos day) <ℤ (pos 2 *ℤ d)
  within : (pos 2 *ℤ d) ≤ℤ pos day

-- less than a turn
Within : ℕ → ℕ → ℕ → ℤ → Type 0
Within day a b d = (pos a +ℤ d ≡ pos b) ⊎ ((pos a +ℤ d ≡ pos b +ℤ pos day) ⊎ (pos a +ℤ d +ℤ pos day ≡ pos b))

leads_within : (day a b : ℕ) (d : ℤ) → Within day a b d → Leads day a b d
unfolding Within
leads_within day a b d (inl e) = record { back = 0; over = 0; leads = omega (arith, ints) }
leads_within day a b d (inr (inl e)) = record { back = 0; over = 1; leads = omega (arith, ints) }
leads_within day a b d (inr (inr e)) = record { back = 1; over = 0; leads = omega (arith, ints) }

shortest_within : (count : Count) (a b : ℕ) → a < day_of count → b < day_of count
    → Within (day_of count) a b (shortest_way (day_of count) a b)
unfolding Within
shortest_within C24 a b p q = grind (arith, ints, nat_tests)
shortest_within C25 a b p q = grind (arith, ints, nat_tests)
shortest_within C30 a b p q = grind (arith, ints, nat_tests)
shortest_within Drop30 a b p q = grind (arith, ints, nat_tests)

shortest_is_short : (count : Count) (a b : ℕ) → a < day_of count → b < day_of count
    → IsShort (day_of count) (shortest_way (day_of count) a b)
shortest_is_short C24 a b p q =
    record { above = grind (arith, ints, nat_tests); within = grind (arith, ints, nat_tests) }
shortest_is_short C25 a b p q =
    record { above = grind (arith, ints, nat_tests); within = grind (arith, ints, nat_tests) }
shortest_is_short C30 a b p q =
    record { above = grind (arith, ints, nat_tests); within = grind (arith, ints, nat_tests) }
shortest_is_short Drop30 a b p q =
    record { above = grind (arith, ints, nat_tests); within = grind (arith, ints, nat_tests) }

moved_within : (count : Count) (a : ℕ) (d : ℤ) → a < day_of count → unsigned_abs d ≤ 10_000
    → Within (day_of count) a (moved (day_of count) a d) d
unfolding Within
moved_within C24 a d p q = grind (arith, ints)
moved_within C25 a d p q = grind (arith, ints)
moved_within C30 a d p q = grind (arith, ints)
moved_within Drop30 a d p q = grind (arith, ints)

pub moved_below : (count : Count) (a : ℕ) (d : ℤ) → moved (day_of count) a d < day_of count
moved_below C24 a d = grind (arith, ints)
moved_below C25 a d = grind (arith, ints)
moved_below C30 a d = grind (arith, ints)
moved_below Drop30 a d = grind (arith, ints)

-- a frame of the master is 80 subframes, also over midnight
frame_within : (count : Count) (n : ℕ) (direction : Direction) → n < day_length count →
    Within (day_of count) (80 * n) (80 * moved (day_length count) n (frame_in direction)) (motion_of direction)
unfolding Within
frame_within C24 n Forward p = grind (arith, ints)
frame_within C24 n Backward p = grind (arith, ints)
frame_within C25 n Forward p = grind (arith, ints)
frame_within C25 n Backward p = grind (arith, ints)
frame_within C30 n Forward p = grind (arith, ints)
frame_within C30 n Backward p = grind (arith, ints)
frame_within Drop30 n Forward p = grind (arith, ints)
frame_within Drop30 n Backward p = grind (arith, ints)

pub frame_below : (count : Count) (n : ℕ) (direction : Direction) → moved (day_length count) n (frame_in direction)
    < day_length count
frame_below C24 n direction = grind (arith, ints)
frame_below C25 n direction = grind (arith, ints)
frame_below C30 n direction = grind (arith, ints)
frame_below Drop30 n direction = grind (arith, ints)

-- if the transport moves by m, and the master by f, what led from one to the other is changed by their difference
follow : (count : Count) (a b c e : ℕ) (d m f : ℤ) → Leads (day_of count) a b d → Leads (day_of count) a c m
    → Leads (day_of count) b e f →
    Leads (day_of count) c e ((d +ℤ f) -ℤ m)
follow C24 a b c e d m f x y z =
    record {
      back = x.back + z.back + y.over;
      over = x.over + z.over + y.back;
      leads = omega (arith, ints, x.leads, y.leads, z.leads);
    }
follow C25 a b c e d m f x y z =
    record {
      back = x.back + z.back + y.over;
      over = x.over + z.over + y.back;
      leads = omega (arith, ints, x.leads, y.leads, z.leads);
    }
follow C30 a b c e d m f x y z =
    record {
      back = x.back + z.back + y.over;
      over = x.over + z.over + y.back;
      leads = omega (arith, ints, x.leads, y.leads, z.leads);
    }
follow Drop30 a b c e d m f x y z =
    record {
      back = x.back + z.back + y.over;
      over = x.over + z.over + y.back;
      leads = omega (arith, ints, x.leads, y.leads, z.leads);
    }

-- two short ways to one place are one way
one_way : (count : Count) (a b : ℕ) (d e : ℤ) → Leads (day_of count) a b d → Leads (day_of count) a b e →
    IsShort (day_of count) d → IsShort (day_of count) e → d ≡ e
one_way C24 a b d e x y s t = omega (arith, ints, x.leads, y.leads, s.above, s.within, t.above, t.within)
one_way C25 a b d e x y s t = omega (arith, ints, x.leads, y.leads, s.above, s.within, t.above, t.within)
one_way C30 a b d e x y s t = omega (arith, ints, x.leads, y.leads, s.above, s.within, t.above, t.within)
one_way Drop30 a b d e x y s t = omega (arith, ints, x.leads, y.leads, s.above, s.within, t.above, t.within)

order_small : (direction : Direction) (taken slip : ℤ) → unsigned_abs taken ≤ 1_280 → unsigned_abs slip ≤ 24 →
    unsigned_abs ((motion_of direction +ℤ taken) +ℤ slip) ≤ 10_000
order_small Forward taken slip p q = grind (arith, ints)
order_small Backward taken slip p q = grind (arith, ints)

-- what is smaller than a short way is short, and a little one is short on each day
short_enough : (count : Count) (e d : ℤ) → IsShort (day_of count) e → (unsigned_abs d ≤ 1_000)
    ⊎ (unsigned_abs d < unsigned_abs e) → IsShort (day_of count) d
short_enough C24 e d s (inl p) = record { above = grind (arith, ints); within = grind (arith, ints) }
short_enough C25 e d s (inl p) = record { above = grind (arith, ints); within = grind (arith, ints) }
short_enough C30 e d s (inl p) = record { above = grind (arith, ints); within = grind (arith, ints) }
short_enough Drop30 e d s (inl p) = record { above = grind (arith, ints); within = grind (arith, ints) }
short_enough count e d s (inr p) = record {
  above = omega (arith, ints, s.above, s.within);
  within = omega (arith, ints, s.above, s.within);
}

motion_cancels : (e m taken slip : ℤ) → (e +ℤ m) -ℤ ((m +ℤ taken) +ℤ slip) ≡ e -ℤ (taken +ℤ slip)
motion_cancels e m taken slip = omega (arith, ints)

-- the error of the next frame: what the order leaves of this one's, less the slip
pub error_after : (count : Count) (p n : ℕ) (direction : Direction) (taken slip : ℤ) → p < day_of count
    → n < day_length count →
    unsigned_abs taken ≤ 1_280 → unsigned_abs slip ≤ 24 →
    (unsigned_abs (error_to count p n -ℤ (taken +ℤ slip)) ≤ 1_000) ⊎
    (unsigned_abs (error_to count p n -ℤ (taken +ℤ slip)) < unsigned_abs (error_to count p n)) →
    error_to count (moved (day_of count) p ((motion_of direction +ℤ taken) +ℤ slip))
    (moved (day_length count) n (frame_in direction)) ≡
    error_to count p n -ℤ (taken +ℤ slip)
error_after count p n direction taken slip hp hn ht hs small =
    let hb : 80 * n < day_of count = omega arith in
    let next = moved (day_length count) n (frame_in direction) in
    let inside : next < day_length count = frame_below count n direction in
    let he : 80 * next < day_of count = omega arith in
    let order = (motion_of direction +ℤ taken) +ℤ slip in
    let there = moved (day_of count) p order in
    let hc : there < day_of count = moved_below count p order in
    let x = leads_within _ _ _ _ (shortest_within count p (80 * n) hp hb) in
    let y = leads_within _ _ _ _ (moved_within count p order hp (order_small direction taken slip ht hs)) in
    let z = leads_within _ _ _ _ (frame_within count n direction hn) in
    let way = follow count p (80 * n) there (80 * next) (error_to count p n) order (motion_of direction) x y z in
    let rest : (error_to count p n +ℤ motion_of direction) -ℤ order ≡ error_to count p n -ℤ (taken +ℤ slip) =
    motion_cancels (error_to count p n) (motion_of direction) taken slip in
    one_way count there (80 * next) _ _ (leads_within _ _ _ _ (shortest_within count there (80 * next) hc he))
    (subst (λ d. Leads (day_of count) there (80 * next) d) rest way)
    (shortest_is_short count there (80 * next) hc he)
    (short_enough count _ _ (shortest_is_short count p (80 * n) hp hb) small)

-- half of the longest day
pub error_most : (count : Count) (p n : ℕ) → p < day_of count → n < day_length count
    → unsigned_abs (error_to count p n) ≤ 103_680_000
error_most C24 p n hp hn = grind (arith, ints, nat_tests)
error_most C25 p n hp hn = grind (arith, ints, nat_tests)
error_most C30 p n hp hn = grind (arith, ints, nat_tests)
error_most Drop30 p n hp hn = grind (arith, ints, nat_tests)
