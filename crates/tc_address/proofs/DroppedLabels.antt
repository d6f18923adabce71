-- An address is its frame of the day, less what drop-frame counting dropped before it, and back again.
use Rattle.std.proofs.Common.{◌≡◌, ◌≢◌, ℕ, ◌+◌, ◌-◌, ◌*◌, ◌/◌, ◌%◌, ◌<◌, ◌≤◌, min, true, false, refl, ◌∙◌, ap, arith}
use Rattle.std.proofs.Common.{◌⊎◌}
use Rattle.std.proofs.Math.Nat.{mul-add-div, mul-add-mod_self_left, div-eq_of_lt, mod-eq_of_lt}
use Rattle.std.proofs.lemmas.Bool.Decides.{nat_tests}
use Rattle.tc_address.specs.declared.count.Count.{Count}
use Rattle.tc_address.specs.declared.count.Count.TheVariants.{C24, C25, C30, Drop30}
use Rattle.tc_address.specs.Count.{rate_of, system_with}
use Rattle.tc_address.specs.Label.{Address, address, is_dropped_by, IsLabel}
use Rattle.tc_address.specs.DropFrame.{dropped_until}
use Rattle.tc_address.specs.Numbering.{day_length}

abbrev pub rate_with : Count → ℕ
rate_with c = rate_of (system_with c)

-- how many addresses, dropped or not, come before this one
abbrev pub frame_of_day : Count → ℕ → ℕ → ℕ → ℕ → ℕ
frame_of_day c h m s f = rate_with c * (60 * (60 * h + m) + s) + f

-- how many of them are dropped
abbrev pub dropped : Count → ℕ → ℕ → ℕ → ℕ → ℕ
dropped C24 h m s f = 0
dropped C25 h m s f = 0
dropped C30 h m s f = 0
dropped Drop30 h m s f = 2 * (60 * h + m - (60 * h + m + 9) / 10) + min (2 * (m % 10)) (min 2 (2 * s + f))

-- how many of them are labels
abbrev pub place : Count → ℕ → ℕ → ℕ → ℕ → ℕ
place c h m s f = frame_of_day c h m s f - dropped c h m s f

abbrev pub place_of : Address → ℕ
place_of a = place a.count a.hours a.minutes a.seconds a.frames

-- the address of a frame of the day
abbrev pub address_of_frame : Count → ℕ → Address
address_of_frame c k =
    address c (k / rate_with c / 60 / 60) (k / rate_with c / 60 % 60) (k / rate_with c % 60) (k % rate_with c)

-- the label of a number
abbrev pub label_with : Count → ℕ → Address
label_with c n = address_of_frame c (n + dropped_until c n)

-- a number of frames gives its seconds and the frames that are left
pub split_frames : (r n f : ℕ) → f < r → ((r * n + f) / r ≡ n) × ((r * n + f) % r ≡ f)
split_frames r n f h =
    let p : 0 < r = omega arith in
    let q : f / r ≡ 0 = div-eq_of_lt h in
    let e : (r * n + f) / r ≡ n + f / r = mul-add-div p n f in
    (omega arith, mul-add-mod_self_left r n f ∙ mod-eq_of_lt h)

pub address_of_frame-frame_of_day : (c : Count) (h m s f : ℕ) → m < 60 → s < 60 → f < rate_with c →
    address_of_frame c (frame_of_day c h m s f) ≡ address c h m s f
address_of_frame-frame_of_day c h m s f hm hs hf =
    let frames = split_frames (rate_with c) (60 * (60 * h + m) + s) f hf in
    let seconds = split_frames 60 (60 * h + m) s hs in
    let minutes = split_frames 60 h m hm in
    rw (frames.0, frames.1, seconds.0, seconds.1, minutes.0, minutes.1) refl

-- what is dropped has frames 0 or 1 of second 0, in a minute that is no multiple of ten
dropped_says : (m s f : ℕ) → is_dropped_by Drop30 m s f ≡ true → (s ≡ 0) × (f ≤ 1) × (m % 10 ≢ 0)
dropped_says m s f e = grind (arith, nat_tests)

kept_says : (m s f : ℕ) → is_dropped_by Drop30 m s f ≡ false → (m % 10 ≡ 0) ⊎ (2 ≤ 2 * s + f)
kept_says m s f e = grind (arith, nat_tests)

-- ten minutes have 17,982 labels, and each minute but the first of them has 1,798
pub place_by_tens : (h m s f : ℕ) → IsLabel (address Drop30 h m s f) → place Drop30 h m s f ≡ 17982 * (6 * h + m / 10)
    + (1798 * (m % 10) + (30 * s + f))
place_by_tens h m s f l = let k : (m % 10 ≡ 0) ⊎ (2 ≤ 2 * s + f) = kept_says m s f l.counted in omega (arith, k)

until_by_tens : (t u r : ℕ) → u < 10 → r < 1800 → (u ≡ 0) ⊎ (2 ≤ r) → dropped_until Drop30 (17982 * t + (1798 * u + r))
    ≡ 18 * t + 2 * u
until_by_tens t u r hu hr k =
    let b : 1798 * u + r < 17982 = omega arith in
    let tens = split_frames 17982 t (1798 * u + r) b in
    let minutes : (1798 * u + r - 2) / 1798 ≡ u = omega (arith, k) in
    rw (tens.0, tens.1, minutes) refl

-- the number of a label says how many addresses are dropped before it
pub dropped_until-place : (c : Count) (h m s f : ℕ) → IsLabel (address c h m s f)
    → dropped_until c (place c h m s f) ≡ dropped c h m s f
dropped_until-place C24 h m s f l = refl
dropped_until-place C25 h m s f l = refl
dropped_until-place C30 h m s f l = refl
dropped_until-place Drop30 h m s f l =
    let k : (m % 10 ≡ 0) ⊎ (2 ≤ 2 * s + f) = kept_says m s f l.counted in
    let j : (m % 10 ≡ 0) ⊎ (2 ≤ 30 * s + f) = grind (arith, k) in
    let e = until_by_tens (6 * h + m / 10) (m % 10) (30 * s + f) (omega arith) (omega arith) j in
    ap (dropped_until Drop30) (place_by_tens h m s f l) ∙ e ∙ omega (arith, k)

pub dropped_below : (c : Count) (h m s f : ℕ) → dropped c h m s f ≤ frame_of_day c h m s f
dropped_below C24 h m s f = omega arith
dropped_below C25 h m s f = omega arith
dropped_below C30 h m s f = omega arith
dropped_below Drop30 h m s f = omega arith

pub label_with-place : (c : Count) (h m s f : ℕ) → IsLabel (address c h m s f)
    → label_with c (place c h m s f) ≡ address c h m s f
label_with-place c h m s f l =
    let e : place c h m s f + dropped_until c (place c h m s f) ≡ frame_of_day c h m s f =
    omega (arith, dropped_until-place c h m s f l, dropped_below c h m s f) in
    ap (address_of_frame c) e ∙ address_of_frame-frame_of_day c h m s f l.minutes l.seconds l.frames

-- a label comes before the next address, and what is dropped does not
pub place-label : (c : Count) (h m s f : ℕ) → is_dropped_by c m s f ≡ false
    → place c h m s f + 1 ≡ place c h m s (f + 1)
place-label C24 h m s f e = omega arith
place-label C25 h m s f e = omega arith
place-label C30 h m s f e = omega arith
place-label Drop30 h m s f e = let k : (m % 10 ≡ 0) ⊎ (2 ≤ 2 * s + f) = kept_says m s f e in omega (arith, k)

pub place-dropped : (c : Count) (h m s f : ℕ) → is_dropped_by c m s f ≡ true → place c h m s f ≡ place c h m s (f + 1)
place-dropped C24 h m s f e = cc
place-dropped C25 h m s f e = cc
place-dropped C30 h m s f e = cc
place-dropped Drop30 h m s f e =
    let k : (s ≡ 0) × (f ≤ 1) × (m % 10 ≢ 0) = dropped_says m s f e in omega (arith, k.0, k.1, k.2)

-- the end of a second is the beginning of the next, and so with minutes, hours and the day
pub place-second : (c : Count) (h m s : ℕ) → place c h m s (rate_with c) ≡ place c h m (s + 1) 0
place-second C24 h m s = omega arith
place-second C25 h m s = omega arith
place-second C30 h m s = omega arith
place-second Drop30 h m s = omega arith

pub place-minute : (c : Count) (h m : ℕ) → place c h m 60 0 ≡ place c h (m + 1) 0 0
place-minute C24 h m = omega arith
place-minute C25 h m = omega arith
place-minute C30 h m = omega arith
place-minute Drop30 h m = omega arith

pub place-hour : (c : Count) (h : ℕ) → place c h 60 0 0 ≡ place c (h + 1) 0 0 0
place-hour C24 h = omega arith
place-hour C25 h = omega arith
place-hour C30 h = omega arith
place-hour Drop30 h = omega arith

pub place-below : (c : Count) (h m s f : ℕ) → IsLabel (address c h m s f) → place c h m s f < day_length c
place-below C24 h m s f l = omega arith
place-below C25 h m s f l = omega arith
place-below C30 h m s f l = omega arith
place-below Drop30 h m s f l = omega (arith, place_by_tens h m s f l)
