-- The bytes that samples bring are those that each run of them brings, one run after another.
use Rattle.std.proofs.Common.{◌≡◌, ℕ, zero, suc, ◌+◌, ◌-◌, ◌*◌, ◌^◌, ◌≤◌, ap₂, ℤ, List, [], ◌++◌, length, take, drop}
use Rattle.std.proofs.Common.{sym, ◌∙◌, ap, subst, append_assoc, append-nil, arith}
use Rattle.std.proofs.lemmas.Grind.{common_steps, flat_map-append}
use Rattle.std.proofs.lemmas.List.{take-append-drop, drop-take}
use Rattle.std.proofs.Math.Nat.{suc-mul}
use Rattle.pcm_front.specs.declared.interval.Intervals.{Intervals}
use Rattle.pcm_front.specs.declared.pace.Pace.{Pace}
use Rattle.pcm_front.specs.Pace.{intervals_at, intervals_in}
use Rattle.pcm_front.specs.Settings.{Settings}
use Rattle.interval_file.specs.declared.header.FileVersion.TheVariants.{One}
use Rattle.interval_file.specs.Grammar.{intervals_bytes}
use Rattle.interval_file.specs.Piece.{spelling}
use Rattle.signal_commands.specs.KeptSliced.{AreDue, spelled}

-- what intervals bring
abbrev pub due_at : Intervals → List ℕ
due_at brought = intervals_bytes One (intervals_in brought)

-- a run more
pub due_more : (pace : Pace) (s : Settings) (front before run : List ℤ) (due : List ℕ) (brought : Intervals)
    → AreDue pace s front before due
    → intervals_at pace s ((front ++ before) ++ run) ≡ intervals_at pace s (front ++ before) ++ intervals_in brought
    → AreDue pace s front (before ++ run) (due ++ due_at brought)
due_more pace s front before run due brought are brings =
    ap (spelled pace s) (sym (append_assoc front before run))
    ∙ ap (intervals_bytes One) brings
    ∙ flat_map-append (spelling One) (intervals_at pace s (front ++ before)) (intervals_in brought)
    ∙ ap (λ (l : List ℕ). l ++ due_at brought) are ∙ append_assoc (spelled pace s front) due (due_at brought)

-- a run behind those before a place
pub cut_run : (k n : ℕ) (xs : List ℤ) → k ≤ length xs → k + n ≤ length xs
    → take k xs ++ take n (take (length xs - k) (drop k xs)) ≡ take (k + n) xs
cut_run k n xs within less =
    let all : take (length xs - k) (drop k xs) ≡ drop k xs = grind (arith, common_steps) in
    let cut = take-append-drop k (take (k + n) xs) in
    let behind = drop-take k n xs in
    let front : take k (take (k + n) xs) ≡ take k xs = grind (arith, common_steps) in
    rw (all, ← behind, ← front) cut

-- ---- runs of some samples

rest_length : (k : ℕ) (xs : List ℤ) → length (take (length xs - k) (drop k xs)) ≡ length xs - k
rest_length k xs = grind (arith, common_steps)

pub run_within : (k n : ℕ) (xs : List ℤ) → k ≤ length xs → n ≤ length (take (length xs - k) (drop k xs))
    → k + n ≤ length xs
run_within k n xs within less = let rest = rest_length k xs in omega (arith, within, less, rest)

sum_times : (n a b : ℕ) → n * (a + b) ≡ n * a + n * b
sum_times zero a b = omega arith
sum_times (suc n) a b =
    let all = suc-mul n (a + b) in
    let first = suc-mul n a in
    let then = suc-mul n b in
    let rest = sum_times n a b in omega (arith, all, first, then, rest)

-- the ticks of what is left are as few as those of all
pub rest_fits : (tick fineness k now other : ℕ) (xs : List ℤ) → now ≡ tick + fineness * k → other ≡ fineness
    → k ≤ length xs
    → tick + fineness * length xs ≤ 2 ^ 62 → now + other * length (take (length xs - k) (drop k xs)) ≤ 2 ^ 62
rest_fits tick fineness k now other xs is same within fits =
    let rest = rest_length k xs in
    let left : other * length (take (length xs - k) (drop k xs)) ≡ fineness * (length xs - k) =
    ap₂ (λ (a b : ℕ). a * b) same rest in
    let all : fineness * length xs ≡ fineness * (k + (length xs - k)) =
    ap (λ (n : ℕ). fineness * n) (omega (arith, within)) in
    let both = sum_times fineness k (length xs - k) in
    omega (arith, is, left, all, both, fits)

pub next_tick : (tick fineness k n now new other : ℕ) → now ≡ tick + fineness * k → other ≡ fineness
    → new ≡ now + other * n
    → new ≡ tick + fineness * (k + n)
next_tick tick fineness k n now new other is same next =
    let both = sum_times fineness k n in
    let more : other * n ≡ fineness * n = ap (λ (x : ℕ). x * n) same in omega (arith, is, next, both, more)

-- the samples of a run come behind those before it
pub joined : (k n : ℕ) (front xs : List ℤ) → k ≤ length xs → k + n ≤ length xs
    → (front ++ take k xs) ++ take n (take (length xs - k) (drop k xs)) ≡ front ++ take (k + n) xs
joined k n front xs within less = append_assoc front (take k xs) _
    ∙ ap (λ (l : List ℤ). front ++ l) (cut_run k n xs within less)

-- what the samples up to the end of a run bring
pub run_due : (pace : Pace) (s other : Settings) (k n : ℕ) (front xs : List ℤ) (due : List ℕ) (brought : Intervals)
    → other ≡ s → k ≤ length xs
    → k + n ≤ length xs → AreDue pace s front (take k xs) due
    → intervals_at pace other ((front ++ take k xs) ++ take n (take (length xs - k) (drop k xs)))
    ≡ intervals_at pace other (front ++ take k xs) ++ intervals_in brought
    → AreDue pace s front (take (k + n) xs) (due ++ due_at brought)
run_due pace s other k n front xs due brought same within less are brings =
    let run = take n (take (length xs - k) (drop k xs)) in
    let here = subst (λ (x : Settings). intervals_at pace x ((front ++ take k xs) ++ run) ≡ intervals_at pace x
    (front ++ take k xs) ++ intervals_in brought)
    same brings in
    subst (λ (l : List ℤ). AreDue pace s front l (due ++ due_at brought)) (cut_run k n xs within less)
    (due_more pace s front (take k xs) run due brought are here)

-- no sample brings anything
pub nothing_due : (pace : Pace) (s : Settings) (front : List ℤ) → AreDue pace s front [] []
nothing_due pace s front = ap (spelled pace s) (append-nil front) ∙ sym (append-nil (spelled pace s front))
