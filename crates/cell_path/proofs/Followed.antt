-- Following the best path back, cell by cell, gathers what is decided and misses nothing.
use Rattle.std.proofs.Common.{◌≡◌, ℕ, ◌+◌, ◌-◌, ◌*◌, ◌/◌, ◌<◌, ◌≤◌, Option, Some, None, IfSome, List, [], ◌∷◌, ◌++◌}
use Rattle.std.proofs.Common.{Bool, true, false, cond, ◌&&◌, leb, ltb, length, drop, refl, ap, ap₂, subst, sym, ◌∙◌}
use Rattle.std.proofs.Common.{arith}
use Rattle.std.specs.List.{filter}
use Rattle.std.proofs.lemmas.Bool.{le-leb, le-ltb, lt-leb, lt-ltb}
use Rattle.std.proofs.lemmas.List.{append-nil, append_assoc}
use Rattle.std.proofs.lemmas.Option.{none-some}
use Rattle.cell_path.specs.declared.cell.Bit.TheVariants.{Zero}
use Rattle.cell_path.specs.declared.cell.Cell.{Cell}
use Rattle.cell_path.specs.declared.cell.Sign.{Sign}
use Rattle.cell_path.specs.declared.cell.Sign.TheVariants.{Plus}
use Rattle.cell_path.specs.declared.cell.Step.{Step}
use Rattle.cell_path.specs.declared.cell.Way.TheVariants.{Jump}
use Rattle.cell_path.specs.declared.lengths.TheConstants.{LENGTHS}
use Rattle.cell_path.specs.declared.placed.Placed.{Placed}
use Rattle.cell_path.specs.declared.point.Back.{Back}
use Rattle.cell_path.specs.declared.point.Point.{Point}
use Rattle.cell_path.specs.Best.{EndsIn, IsBest, IsBestOfAll}
use Rattle.cell_path.specs.Decided.{end_behind, is_decided, newly, placed}
use Rattle.cell_path.specs.KeptMarks.{GoesBack, LeadsTo, MarksStandFor}
use Rattle.cell_path.specs.Lengths.{length_in}
use Rattle.cell_path.specs.Paths.{PathsState}

abbrev pub no_cell : Placed
no_cell = record { end = 0; cell = record { place = 0; bit = Zero; sign = Plus; way = Jump } }

-- what is left to decide of a path that ends `ago` steps ago
abbrev pub left : ℕ → ℕ → ℕ → ℕ → List Cell → List Placed
left delay count done ago rest = filter (is_decided delay count done) (placed (count - ago) rest)

abbrev pub ago_of : ℕ → Option Point → ℕ
ago_of count None = count
ago_of count (Some point) = point.ago

-- where the path is followed to, with `many` cells gathered
abbrev pub IsHere : ℕ → ℕ → ℕ → Option Point → Type 0
IsHere delay count many None = 0 < many
IsHere delay count many (Some point) =
    (point.place < 45) × (point.ago < count) × (many ≡ 0 → point.ago ≤ delay + 95) × (4 * many ≤ point.ago - delay)

-- what is gathered and what is left are all that is decided
abbrev pub IsGathered : ℕ → ℕ → ℕ → PathsState → Point → Option Point → List Placed → Type 0
IsGathered delay count done paths best at waiting = (steps : List Step) (path : List Cell)
    → MarksStandFor paths.marks steps
    → IsBestOfAll LENGTHS (drop best.ago steps) path → EndsIn best.place best.sign path
    → (rest : List Cell) × LeadsTo steps rest at
    × (waiting ++ left delay count done (ago_of count at) rest ≡ newly delay count best.ago done path)

-- ---- where the path is followed to

-- what a point says of the one before it
abbrev pub IsBefore : ℕ → Point → Option Point → Type 0
IsBefore count point before = IfSome before (λ b.
    (b.place < 45) × (b.ago ≡ point.ago + length_in LENGTHS point.place) × (b.ago < count))

abbrev pub EndsThere : ℕ → Point → Option Point → Type 0
EndsThere count point before = before ≡ None → count ≤ point.ago + length_in LENGTHS point.place

pub here_skipped : (delay count many n : ℕ) (point : Point) (before : Option Point) → (0 < delay → 2_048 ≤ count)
    → delay ≤ 800
    → n ≡ length_in LENGTHS point.place → n ≤ 96 → point.ago < delay → IsHere delay count many (Some point)
    → IsBefore count point before → EndsThere count point before → IsHere delay count many before
here_skipped delay count many n point None first low n_is most near here is ends = let e = ends refl in let f =
    first (omega arith) in omega (arith, e, f)
here_skipped delay count many n point (Some b) first low n_is most near here is ends =
    (is.0, is.2, λ none. omega (arith, is.1), omega (arith, is.1, here.3))

pub here_pushed : (delay count many more n : ℕ) (point : Point) (before : Option Point) → more ≡ many + 1
    → n ≡ length_in LENGTHS point.place → 4 ≤ n → delay ≤ point.ago → IsHere delay count many (Some point)
    → IsBefore count point before → IsHere delay count more before
here_pushed delay count many more n point None one n_is least old here is = omega (arith, one)
here_pushed delay count many more n point (Some b) one n_is least old here is =
    (is.0, is.2, λ none. absurd (omega (arith, one)), omega (arith, one, is.1, here.3))

-- how far back the path goes with a cell
pub step_back : (count n : ℕ) (point : Point) (before : Option Point) → n ≡ length_in LENGTHS point.place → 4 ≤ n
    → n ≤ 96 → point.ago < count → IsBefore count point before → EndsThere count point before
    → 2 ≤ count - point.ago
    → (count - ago_of count before + 2 ≤ count - point.ago) × (count - point.ago ≤ count - ago_of count before + 96)
step_back count n point None n_is least most here is ends far =
    let e = ends refl in (omega (arith, e), omega (arith, e, n_is))
step_back count n point (Some b) n_is least most here is ends far =
    (omega (arith, is.1, is.2, n_is), omega (arith, is.1, is.2, n_is))

pub end_pushed : (done : ℕ) (waiting : List Placed) (cell : Placed) (P : ℕ → Type 0)
    → (length waiting ≡ 0 → P cell.end) → (0 < length waiting → P (end_behind done waiting))
    → P (end_behind done (waiting ++ cell ∷ []))
end_pushed done [] cell P new old = new refl
end_pushed done (w ∷ waiting) cell P new old = old (omega arith)

-- ---- what is gathered

and_no : (b : Bool) → b && false ≡ false
and_no true = refl
and_no false = refl

-- a cell that is not old enough
too_new : (delay count done : ℕ) (cell : Placed) → count < cell.end + delay → is_decided delay count done cell ≡ false
too_new delay count done cell new = ap (λ b. b && ltb (done + length_in LENGTHS cell.cell.place / 4) cell.end)
    (lt-leb (cell.end + delay) count new)

-- one that is not far enough behind what was decided
pub too_near : (delay count done : ℕ) (cell : Placed) → cell.end ≤ done + length_in LENGTHS cell.cell.place / 4
    → is_decided delay count done cell ≡ false
too_near delay count done cell near = ap (λ b. leb (cell.end + delay) count && b)
    (le-ltb (done + length_in LENGTHS cell.cell.place / 4) cell.end near) ∙ and_no (leb (cell.end + delay) count)

pub old_enough : (delay count done : ℕ) (cell : Placed) → cell.end + delay ≤ count
    → done + length_in LENGTHS cell.cell.place / 4 < cell.end → is_decided delay count done cell ≡ true
old_enough delay count done cell old far = ap₂ (λ a b. a && b) (le-leb (cell.end + delay) count old)
    (lt-ltb (done + length_in LENGTHS cell.cell.place / 4) cell.end far)

-- one cell further back
further : (count ago n : ℕ) → count - ago - n ≡ count - (ago + n)
further count ago n = omega arith

left-skipped : (delay count done ago : ℕ) (cell : Cell) (rest : List Cell)
    → is_decided delay count done (record { end = count - ago; cell = cell }) ≡ false
    → left delay count done ago (cell ∷ rest) ≡ left delay count done (ago + length_in LENGTHS cell.place) rest
unfolding placed
left-skipped delay count done ago cell rest new =
    let n = length_in LENGTHS cell.place in
    let all = filter (is_decided delay count done) (placed (count - ago - n) rest) in
    ap (λ b. cond b (record { end = count - ago; cell = cell } ∷ all) all) new
    ∙ ap (λ e. filter (is_decided delay count done) (placed e rest)) (further count ago n)

left-pushed : (delay count done ago : ℕ) (cell : Cell) (rest : List Cell)
    → is_decided delay count done (record { end = count - ago; cell = cell }) ≡ true
    → left delay count done ago (cell ∷ rest)
    ≡ record { end = count - ago; cell = cell } ∷ left delay count done (ago + length_in LENGTHS cell.place) rest
unfolding placed
left-pushed delay count done ago cell rest old =
    let n = length_in LENGTHS cell.place in
    let all = filter (is_decided delay count done) (placed (count - ago - n) rest) in
    ap (λ b. cond b (record { end = count - ago; cell = cell } ∷ all) all) old
    ∙ ap (λ e. record { end = count - ago; cell = cell } ∷ filter (is_decided delay count done) (placed e rest))
    (further count ago n)

-- nothing is left of a path that ends where the cells before did, or before them
pub none_behind : (delay count done end : ℕ) (rest : List Cell) → end ≤ done
    → filter (is_decided delay count done) (placed end rest) ≡ []
unfolding placed
none_behind delay count done end [] before = refl
none_behind delay count done end (cell ∷ rest) before =
    let n = length_in LENGTHS cell.place in
    let all = filter (is_decided delay count done) (placed (end - n) rest) in
    ap (λ b. cond b (record { end = end; cell = cell } ∷ all) all)
    (too_near delay count done (record { end = end; cell = cell }) (omega arith))
    ∙ none_behind delay count done (end - n) rest (omega arith)

nothing_left : (delay count done ago : ℕ) → left delay count done ago [] ≡ []
unfolding placed
nothing_left delay count done ago = refl

-- the end of the rest, by the point before
left_before : (delay count done n : ℕ) (steps : List Step) (rest : List Cell) (point : Point) (before : Option Point)
    → LeadsTo steps rest before → n ≡ length_in LENGTHS point.place → IsBefore count point before
    → left delay count done (point.ago + n) rest ≡ left delay count done (ago_of count before) rest
left_before delay count done n steps rest point None none n_is is =
    ap (left delay count done (point.ago + n)) none ∙ nothing_left delay count done (point.ago + n)
    ∙ sym (ap (left delay count done count) none ∙ nothing_left delay count done count)
left_before delay count done n steps rest point (Some b) leads n_is is =
    ap (λ a. left delay count done a rest) (ap (λ k. point.ago + k) n_is ∙ sym is.1)

-- following back by one cell
abbrev pub Follows : PathsState → Point → Back → Type 0
Follows paths point back = (steps : List Step) (path : List Cell) → MarksStandFor paths.marks steps
    → point.ago < length steps → IsBest LENGTHS (drop point.ago steps) point.place point.sign path
    → GoesBack steps path back

same_length : (point : Point) (cell : Cell) → cell.place ≡ point.place
    → length_in LENGTHS cell.place ≡ length_in LENGTHS point.place
same_length point cell same = ap (length_in LENGTHS) same

pub gathered-skipped : (delay count done : ℕ) (paths : PathsState) (first point : Point)
    (waiting : List Placed) (back : Back) → IsGathered delay count done paths first (Some point) waiting
    → Follows paths point back → back.cell.place ≡ point.place → IsBefore count point back.before
    → count < count - point.ago + delay → IsGathered delay count done paths first back.before waiting
gathered-skipped delay count done paths first point waiting back all follows same is new =
    λ steps path stand best ends.
    let g = all steps path stand best ends in
    let goes = follows steps g.0 stand g.1.0 g.1.1 in
    let cell : Placed = record { end = count - point.ago; cell = back.cell } in
    let one = ap (left delay count done point.ago) goes.path_is
    ∙ left-skipped delay count done point.ago back.cell goes.rest (too_new delay count done cell new)
    ∙ left_before delay count done (length_in LENGTHS back.cell.place) steps goes.rest point back.before goes.leads
    (same_length point back.cell same) is in
    (goes.rest, goes.leads, sym (ap (λ l. waiting ++ l) one) ∙ g.2)

pub gathered-pushed : (delay count done : ℕ) (paths : PathsState) (first point : Point)
    (waiting : List Placed) (back : Back) → IsGathered delay count done paths first (Some point) waiting
    → Follows paths point back → back.cell.place ≡ point.place → IsBefore count point back.before
    → count - point.ago + delay ≤ count
    → done + length_in LENGTHS point.place / 4 < count - point.ago
    → IsGathered delay count done paths first back.before
    (waiting ++ record { end = count - point.ago; cell = back.cell } ∷ [])
gathered-pushed delay count done paths first point waiting back all follows same is old far =
    λ steps path stand best ends.
    let g = all steps path stand best ends in
    let goes = follows steps g.0 stand g.1.0 g.1.1 in
    let cell : Placed = record { end = count - point.ago; cell = back.cell } in
    let behind : done + length_in LENGTHS back.cell.place / 4 < count - point.ago =
    subst (λ p. done + length_in LENGTHS p / 4 < count - point.ago) (sym same) far in
    let one = ap (left delay count done point.ago) goes.path_is
    ∙ left-pushed delay count done point.ago back.cell goes.rest (old_enough delay count done cell old behind)
    ∙ ap (λ l. cell ∷ l)
    (left_before delay count done (length_in LENGTHS back.cell.place) steps goes.rest point back.before goes.leads
    (same_length point back.cell same) is) in (
      goes.rest,
      goes.leads,
      append_assoc waiting (cell ∷ []) (left delay count done (ago_of count back.before) goes.rest)
          ∙ sym (ap (λ l. waiting ++ l) one) ∙ g.2,
    )

-- ---- the end

rest_is_near : (delay count done ago : ℕ) (steps : List Step) (place : ℕ) (sign : Sign) (rest : List Cell)
    → EndsIn place sign rest → count - ago ≤ done + length_in LENGTHS place / 4 → left delay count done ago rest ≡ []
rest_is_near delay count done ago steps place sign [] ends near = absurd ends
rest_is_near delay count done ago steps place sign (cell ∷ rest) ends near =
    let behind : count - ago ≤ done + length_in LENGTHS cell.place / 4 =
    subst (λ p. count - ago ≤ done + length_in LENGTHS p / 4) (sym ends.0) near in
    left-skipped delay count done ago cell rest
    (too_near delay count done (record { end = count - ago; cell = cell }) behind)
    ∙ none_behind delay count done (count - (ago + length_in LENGTHS cell.place)) rest (omega arith)

-- the path is followed to what was decided before
pub all_gathered : (delay count done : ℕ) (paths : PathsState) (first point : Point)
    (waiting : List Placed) → IsGathered delay count done paths first (Some point) waiting
    → count - point.ago ≤ done + length_in LENGTHS point.place / 4
    → (steps : List Step) (path : List Cell) → MarksStandFor paths.marks steps
    → IsBestOfAll LENGTHS (drop first.ago steps) path → EndsIn first.place first.sign path
    → waiting ≡ newly delay count first.ago done path
all_gathered delay count done paths first point waiting all near steps path stand best ends =
    let g = all steps path stand best ends in
    sym (append-nil waiting)
    ∙ sym (ap (λ l. waiting ++ l)
    (rest_is_near delay count done point.ago steps point.place point.sign g.0 g.1.1.ends near)) ∙ g.2

-- the path is followed to the beginning of the sound
pub all_gathered_to_begin : (delay count done : ℕ) (paths : PathsState) (first : Point) (at : Option Point)
    (waiting : List Placed) → IsGathered delay count done paths first at waiting → at ≡ None
    → (steps : List Step) (path : List Cell) → MarksStandFor paths.marks steps
    → IsBestOfAll LENGTHS (drop first.ago steps) path → EndsIn first.place first.sign path
    → waiting ≡ newly delay count first.ago done path
all_gathered_to_begin delay count done paths first None waiting all none steps path stand best ends =
    let g = all steps path stand best ends in
    sym (append-nil waiting)
    ∙ sym (ap (λ l. waiting ++ l) (ap (left delay count done count) g.1 ∙ nothing_left delay count done count)) ∙ g.2
all_gathered_to_begin delay count done paths first (Some point) waiting all none steps path stand best ends =
    absurd (none-some point (sym none))
