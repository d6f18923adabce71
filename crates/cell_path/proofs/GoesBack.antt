-- A best path goes back by the marks of its latest step and those where its latest cell began.
use Rattle.std.proofs.Common.{◌≡◌, ℕ, zero, suc, ◌+◌, ◌-◌, ◌%◌, ◌<◌, ◌≤◌, ◌^◌, Some, None, List, [], ◌∷◌, length}
use Rattle.std.proofs.Common.{drop, get_or, replicate, refl, ap, ap₂, subst, sym, ◌∙◌, arith}
use Rattle.std.specs.Prelude.{set}
use Rattle.std.proofs.lemmas.List.{get_or-replicate, get_or-set_same, get_or-set_other, length-set, length-drop}
use Rattle.std.proofs.lemmas.List.{length-replicate}
use Rattle.cell_path.specs.declared.cell.Bit.{Bit}
use Rattle.cell_path.specs.declared.cell.Cell.{Cell}
use Rattle.cell_path.specs.declared.cell.Sign.{Sign}
use Rattle.cell_path.specs.declared.cell.Sign.TheVariants.{Plus}
use Rattle.cell_path.specs.declared.cell.Step.{Step}
use Rattle.cell_path.specs.declared.cell.Way.{Way}
use Rattle.cell_path.specs.declared.cell.Way.TheVariants.{Same, Shorter, Longer, Jump}
use Rattle.cell_path.specs.declared.lengths.TheConstants.{LENGTHS}
use Rattle.cell_path.specs.declared.mark.StepMarks.{StepMarks}
use Rattle.cell_path.specs.Best.{EndsIn, IsBest}
use Rattle.cell_path.specs.KeptMarks.{marks_ago, no_marks, point_before, AreMarks, GoesBack, MarksState, MarksStandFor}
use Rattle.cell_path.specs.Lengths.{length_in}
use Rattle.cell_path.specs.Marks.{marked_bit, marked_way, IsMarked}
use Rattle.cell_path.specs.Number.{HasBit, IsBeginning, IsBestEnd}
use Rattle.cell_path.specs.Path.{sign_before, Follows, IsPath}
use Rattle.cell_path.proofs.FollowedBack.{bit_of_best, first_cell, jumped_from, way_of_best}
use Rattle.cell_path.proofs.OneBest.{before_is_best}
use Rattle.cell_path.proofs.SoundOfBits.{drop-drop}

abbrev pub cell_of : ℕ → Bit → Sign → Way → Cell
cell_of place bit sign way = record { place = place; bit = bit; sign = sign; way = way }

-- a path is its latest cell, which the marks know, and the rest
parts : (place : ℕ) (sign : Sign) (bit : Bit) (path : List Cell) → EndsIn place sign path → HasBit bit path
    → (way : Way) × (rest : List Cell) × (path ≡ cell_of place bit sign way ∷ rest)
parts place sign bit [] ends has = absurd ends
parts place sign bit (cell ∷ rest) ends has = (
  cell.way,
  rest,
  ap (λ c. c ∷ rest) (ap (λ n. cell_of n cell.bit cell.sign cell.way) ends.0
      ∙ ap (λ x. cell_of place x cell.sign cell.way) has
      ∙ ap (λ x. cell_of place bit x cell.way) ends.1),
)

-- where the rest ends, by the way
ends_before : (steps : List Step) (ago place : ℕ) (sign : Sign) (way : Way) (there : StepMarks) (rest : List Cell)
    → 0 < length steps
    → IsPath LENGTHS steps rest → Follows way place sign rest
    → (way ≡ Jump → EndsIn there.best_place there.best_sign rest)
    → EndsIn (point_before way ago place sign there).place (point_before way ago place sign there).sign rest
ends_before steps ago place sign way there [] some is follows jumps = absurd (omega arith)
ends_before steps ago place sign Same there (cell ∷ rest) some is follows jumps = follows
ends_before steps ago place sign Shorter there (cell ∷ rest) some is follows jumps =
    (omega (arith, follows.0), follows.1)
ends_before steps ago place sign Longer there (cell ∷ rest) some is follows jumps = let within = is.1 in
    (omega (arith, follows.0, within), follows.1)
ends_before steps ago place sign Jump there (cell ∷ rest) some is follows jumps = jumps refl

point_ago : (way : Way) (ago place : ℕ) (sign : Sign) (there : StepMarks)
    → (point_before way ago place sign there).ago ≡ ago
point_ago Same ago place sign there = refl
point_ago Shorter ago place sign there = refl
point_ago Longer ago place sign there = refl
point_ago Jump ago place sign there = refl

-- with nothing left before the latest cell
pub goes_to_first : (steps : List Step) (ago place : ℕ) (sign : Sign) (bit : Bit) (path : List Cell) (here : StepMarks)
    → IsMarked here (drop ago steps) → place < 45 → bit ≡ marked_bit (get_or here.marks place 0) sign
    → IsBest LENGTHS (drop ago steps) place sign path → length steps ≤ ago + length_in LENGTHS place
    → GoesBack steps path (record { cell = cell_of place bit sign Jump; before = None })
goes_to_first steps ago place sign bit path here marked within bit_is best none =
    let S = drop ago steps in
    let n = length_in LENGTHS place in
    let end = marked.ends place sign within in
    let has = subst (λ b. HasBit b path) (sym bit_is)
    (bit_of_best LENGTHS S place sign end.0 (marked_bit (get_or here.marks place 0) sign) path end.1 best) in
    let p = parts place sign bit path best.ends has in
    let now : IsBest LENGTHS S place sign (cell_of place bit sign p.0 ∷ p.1) =
    subst (IsBest LENGTHS S place sign) p.2 best in
    let empty : length (drop n S) ≡ 0 = ap length (drop-drop n ago steps) ∙ length-drop (ago + n) steps ∙ omega arith in
    let first = first_cell LENGTHS S place sign (cell_of place bit sign p.0) p.1 now empty in
    record { rest = []; path_is = p.2 ∙ ap₂ (λ w r. cell_of place bit sign w ∷ r) first.0 first.1; leads = refl }

-- with steps left before it
pub goes_to_point : (steps : List Step) (ago place : ℕ) (sign : Sign) (bit : Bit) (way : Way) (path : List Cell)
    (here there : StepMarks)
    → IsMarked here (drop ago steps) → IsMarked there (drop (ago + length_in LENGTHS place) steps) → place < 45
    → bit ≡ marked_bit (get_or here.marks place 0) sign
    → way ≡ marked_way (get_or there.marks place 0) (sign_before bit sign)
    → IsBest LENGTHS (drop ago steps) place sign path → ago + length_in LENGTHS place < length steps
    → GoesBack steps path (record {
      cell = cell_of place bit sign way;
      before = Some (point_before way (ago + length_in LENGTHS place) place (sign_before bit sign) there);
    })
goes_to_point steps ago place sign bit way path here there marked marked_there within bit_is way_is best some =
    let S = drop ago steps in
    let n = length_in LENGTHS place in
    let q = sign_before bit sign in
    let end = marked.ends place sign within in
    let has = subst (λ b. HasBit b path) (sym bit_is)
    (bit_of_best LENGTHS S place sign end.0 (marked_bit (get_or here.marks place 0) sign) path end.1 best) in
    let p = parts place sign bit path best.ends has in
    let cell = cell_of place bit sign p.0 in
    let now : IsBest LENGTHS S place sign (cell ∷ p.1) = subst (IsBest LENGTHS S place sign) p.2 best in
    let same : drop n S ≡ drop (ago + n) steps = drop-drop n ago steps in
    let left : 0 < length (drop n S) = let e = ap length same ∙ length-drop (ago + n) steps in omega (arith, e) in
    let start = marked_there.starts place q within in
    let begins : IsBeginning LENGTHS (drop n S) 0 place q start.0 way =
    subst (λ w. IsBeginning LENGTHS (drop n S) 0 place q start.0 w) (sym way_is)
    (subst (λ l. IsBeginning LENGTHS l 0 place q start.0 (marked_way (get_or there.marks place 0) q)) (sym same)
    start.1) in
    let w = way_of_best LENGTHS S place sign cell p.1 start.0 way now left begins in
    let all : IsBestEnd LENGTHS (drop n S) there.best_place there.best_sign marked_there.best.0 =
    subst (λ l. IsBestEnd LENGTHS l there.best_place there.best_sign marked_there.best.0) (sym same) marked_there.best.1
    in
    let jumps : way ≡ Jump → EndsIn there.best_place there.best_sign p.1 = λ j.
    jumped_from LENGTHS S place sign cell p.1 there.best_place there.best_sign marked_there.best.0 now (sym w.0 ∙ j)
    left all in
    let is = now.is_path in
    let follows : Follows way place q p.1 = subst (λ v. Follows v place q p.1) (sym w.0) is.2 in
    let point = point_before way (ago + n) place q there in
    let ends = ends_before (drop n S) (ago + n) place q way there p.1 left is.3 follows jumps in
    let rest_best = before_is_best LENGTHS S place point.place sign point.sign cell p.1 now ends in
    let at = point_ago way (ago + n) place q there in
    record {
      rest = p.1;
      path_is = p.2 ∙ ap (λ v. cell_of place bit sign v ∷ p.1) (sym w.0);
      leads = (
        subst (λ k. k < length steps) (sym at) some,
        subst (λ k. IsBest LENGTHS (drop k steps) point.place point.sign p.1) (sym at)
            (subst (λ l. IsBest LENGTHS l point.place point.sign p.1) same rest_best),
      );
    }

-- ---- the ring

abbrev pub pushed : MarksState → StepMarks → MarksState
pushed marks new = record { ring = set marks.ring ((marks.count + 1) % 4_096) new; count = marks.count + 1 }

mark_latest : (marks : MarksState) (new : StepMarks) → length marks.ring ≡ 4_096 → marks_ago (pushed marks new) 0 ≡ new
mark_latest marks new long =
    let same : (marks.count + 1 + 4_096 - 0) % 4_096 ≡ (marks.count + 1) % 4_096 = omega arith in
    ap (λ n. get_or (set marks.ring ((marks.count + 1) % 4_096) new) n no_marks) same
    ∙ get_or-set_same marks.ring ((marks.count + 1) % 4_096) new no_marks (omega arith)

mark_others : (marks : MarksState) (new : StepMarks) (ago : ℕ) → ago < 4_095
    → marks_ago (pushed marks new) (ago + 1) ≡ marks_ago marks ago
mark_others marks new ago near =
    let same : (marks.count + 1 + 4_096 - (ago + 1)) % 4_096 ≡ (marks.count + 4_096 - ago) % 4_096 = omega arith in
    let other : (marks.count + 4_096 - ago) % 4_096 ≡ (marks.count + 1) % 4_096 → ⊥ = λ e. omega arith in
    ap (λ n. get_or (set marks.ring ((marks.count + 1) % 4_096) new) n no_marks) same
    ∙ get_or-set_other marks.ring ((marks.count + 1) % 4_096) ((marks.count + 4_096 - ago) % 4_096) new no_marks other

places-by : (marks : MarksState) (new : StepMarks) (ago : ℕ) → AreMarks marks → new.best_place < 45 → ago < 4_096
    → (marks_ago (pushed marks new) ago).best_place < 45
places-by marks new zero are comes near = subst (λ (m : StepMarks). m.best_place < 45)
    (sym (mark_latest marks new are.long)) comes
places-by marks new (suc ago) are comes near =
    let next : ago + 1 ≡ suc ago = omega arith in
    subst (λ n. (marks_ago (pushed marks new) n).best_place < 45) next
    (subst (λ (m : StepMarks). m.best_place < 45) (sym (mark_others marks new ago (omega arith)))
    (are.places ago (omega arith)))

pub still_marks : (marks : MarksState) (new : StepMarks) → AreMarks marks → new.best_place < 45
    → marks.count < 2 ^ 40 + 4
    → AreMarks (pushed marks new)
still_marks marks new are comes room = record {
  long = length-set marks.ring ((marks.count + 1) % 4_096) new ∙ are.long;
  count = omega arith;
  places = λ ago near. places-by marks new ago are comes near;
}

marked-by : (marks : MarksState) (new : StepMarks) (step : Step) (steps : List Step) (ago : ℕ)
    → length marks.ring ≡ 4_096
    → MarksStandFor marks steps → IsMarked new (step ∷ steps) → ago < 4_096 → ago < length (step ∷ steps)
    → IsMarked (marks_ago (pushed marks new) ago) (drop ago (step ∷ steps))
marked-by marks new step steps zero long stand comes near within =
    subst (λ m. IsMarked m (step ∷ steps)) (sym (mark_latest marks new long)) comes
marked-by marks new step steps (suc ago) long stand comes near within =
    let next : ago + 1 ≡ suc ago = omega arith in
    subst (λ n. IsMarked (marks_ago (pushed marks new) n) (drop ago steps)) next
    (subst (λ m. IsMarked m (drop ago steps)) (sym (mark_others marks new ago (omega arith)))
    (stand.marked ago (omega arith) (omega arith)))

pub marks_fed : (marks : MarksState) (new : StepMarks) (step : Step) (steps : List Step) → length marks.ring ≡ 4_096
    → MarksStandFor marks steps → IsMarked new (step ∷ steps) → MarksStandFor (pushed marks new) (step ∷ steps)
marks_fed marks new step steps long stand comes = record {
  count = omega (arith, stand.count);
  marked = λ ago near within. marked-by marks new step steps ago long stand comes near within;
}

-- some steps are taken back
pub undone_marks : (marks : MarksState) (n : ℕ) → n ≤ marks.count → AreMarks marks
    → AreMarks (record { ring = marks.ring; count = marks.count - n })
undone_marks marks n few are = record {
  long = are.long;
  count = let c = are.count in omega (arith, c);
  places = λ ago near.
      let same : (marks.count + 4_096 - (n + ago) % 4_096) % 4_096 ≡ (marks.count - n + 4_096 - ago) % 4_096 =
      omega (arith, few, near) in
      subst (λ k. (get_or marks.ring k no_marks).best_place < 45) same
      (are.places ((n + ago) % 4_096) (omega arith));
}

abbrev empty_marks : StepMarks
empty_marks = record { marks = replicate 45 0; best_place = 0; best_sign = Plus }

-- before the first step
pub no_marks_yet : AreMarks (record { ring = replicate 4_096 empty_marks; count = 0 })
no_marks_yet = record {
  long = length-replicate 4_096 empty_marks;
  count = omega arith;
  places = λ ago near. subst (λ (m : StepMarks). m.best_place < 45)
      (sym (get_or-replicate 4_096 ((0 + 4_096 - ago) % 4_096) empty_marks no_marks (omega arith))) (omega arith);
}
