-- The best beginning is the first of the best in each way, tried one after another: behind the best path that ends
-- as long,
-- shorter, longer, or behind the best of all in a jump.
use Rattle.std.proofs.Common.{◌≡◌, ℕ, ◌+◌, ◌-◌, ◌*◌, ◌<◌, ℤ, pos, ◌-ℤ◌, ◌<ℤ◌, ◌≤ℤ◌, ◌⊎◌, inl, inr, List, [], ◌∷◌}
use Rattle.std.proofs.Common.{length, refl, ap, subst, sym, ◌∙◌, arith}
use Rattle.std.proofs.lemmas.Int.{ints}
use Rattle.cell_path.specs.declared.cell.Bit.{Bit}
use Rattle.cell_path.specs.declared.cell.Cell.{Cell}
use Rattle.cell_path.specs.declared.cell.Sign.{Sign}
use Rattle.cell_path.specs.declared.cell.Step.{Step}
use Rattle.cell_path.specs.declared.cell.Way.{Way}
use Rattle.cell_path.specs.declared.cell.Way.TheVariants.{Same, Shorter, Longer, Jump}
use Rattle.cell_path.specs.declared.lengths.TheConstants.{JUMP}
use Rattle.cell_path.specs.Best.{rank_of_way, EndsIn, Wins}
use Rattle.cell_path.specs.Number.{score_before, Begins, IsBeginning, IsBestEnd, IsEnd, WinsBy}
use Rattle.cell_path.specs.Lengths.{length_in}
use Rattle.cell_path.specs.Path.{cost, level_at, score, times_for, Follows, IsPath}
use Rattle.cell_path.specs.Trying.{IsBestBefore, IsBestOfWay}
use Rattle.cell_path.proofs.Order.{wins_by-along, wins_by-rank}

pub same_way : (a b : Way) → rank_of_way a ≡ rank_of_way b → a ≡ b
same_way Same Same is = refl
same_way Same Shorter is = absurd (omega arith)
same_way Same Longer is = absurd (omega arith)
same_way Same Jump is = absurd (omega arith)
same_way Shorter Same is = absurd (omega arith)
same_way Shorter Shorter is = refl
same_way Shorter Longer is = absurd (omega arith)
same_way Shorter Jump is = absurd (omega arith)
same_way Longer Same is = absurd (omega arith)
same_way Longer Shorter is = absurd (omega arith)
same_way Longer Longer is = refl
same_way Longer Jump is = absurd (omega arith)
same_way Jump Same is = absurd (omega arith)
same_way Jump Shorter is = absurd (omega arith)
same_way Jump Longer is = absurd (omega arith)
same_way Jump Jump is = refl

with_rank : (s : ℤ) (rank : ℕ) (p : List Cell) (t : ℤ) (q : List Cell) → Wins s p t q → WinsBy s rank p t rank q
with_rank s rank p t q (inl less) = inl less
with_rank s rank p t q (inr same) = inr (same.0, inr (omega arith, same.1))

-- what wins in a way wins over each beginning of that way
of_way : (lengths : List ℕ) (steps : List Step) (place : ℕ) (sign : Sign) (way : Way) (number : ℤ)
    (best : IsBestOfWay lengths steps place sign way number) (other : Way) (others : List Cell) → way ≡ other
    → Begins lengths steps 0 place sign other others
    → WinsBy number (rank_of_way way) best.before (score_before lengths steps 0 place other others)
    (rank_of_way other) others
of_way lengths steps place sign way number best other others is begins =
    let P : Way → Type 0 = λ w. Begins lengths steps 0 place sign w others
    → WinsBy number (rank_of_way way) best.before (score_before lengths steps 0 place w others)
    (rank_of_way w) others in
    let here : P way = λ b. with_rank number (rank_of_way way) best.before
    (score_before lengths steps 0 place way others) others (best.wins others b) in
    subst P is here begins

low_or_here : (way other : Way) → rank_of_way other < rank_of_way way + 1
    → (rank_of_way other < rank_of_way way) ⊎ (way ≡ other)
low_or_here way other low =
    let cases : (rank_of_way other < rank_of_way way) ⊎ (rank_of_way way ≡ rank_of_way other) = grind arith in
    elim cases [ inl less ↦ inl less | inr same ↦ inr (same_way way other same) ]

-- with one more way: what was best stays, if it is not below the new one
pub way_stays : (lengths : List ℕ) (steps : List Step) (place : ℕ) (sign : Sign) (number : ℤ) (way more : Way) (new : ℤ)
    → IsBestBefore lengths steps (rank_of_way more) place sign number way
    → IsBestOfWay lengths steps place sign more new → new ≤ℤ number
    → IsBestBefore lengths steps (rank_of_way more + 1) place sign number way
way_stays lengths steps place sign number way more new best comes above =
    let over : WinsBy number (rank_of_way way) best.before new (rank_of_way more) comes.before =
    wins_by-rank number (rank_of_way way) best.before new (rank_of_way more) comes.before above best.low in
    record {
      before = best.before;
      begins = best.begins;
      low = omega (arith, best.low);
      number_is = best.number_is;
      wins = λ other others low begins. elim (low_or_here more other low) [
        | inl less ↦ best.wins other others less begins
        | inr here ↦ wins_by-along number (rank_of_way way) best.before new (rank_of_way more) comes.before
            (score_before lengths steps 0 place other others) (rank_of_way other) others over
            (of_way lengths steps place sign more new comes other others here begins)
      ];
    }

-- and else the new one is the best
pub way_comes : (lengths : List ℕ) (steps : List Step) (place : ℕ) (sign : Sign) (number : ℤ) (way more : Way) (new : ℤ)
    → IsBestBefore lengths steps (rank_of_way more) place sign number way
    → IsBestOfWay lengths steps place sign more new → number <ℤ new
    → IsBestBefore lengths steps (rank_of_way more + 1) place sign new more
way_comes lengths steps place sign number way more new best comes above =
    let over : WinsBy new (rank_of_way more) comes.before number (rank_of_way way) best.before = inl above in
    record {
      before = comes.before;
      begins = comes.begins;
      low = omega arith;
      number_is = comes.number_is;
      wins = λ other others low begins. elim (low_or_here more other low) [
        | inl less ↦ wins_by-along new (rank_of_way more) comes.before number (rank_of_way way) best.before
            (score_before lengths steps 0 place other others) (rank_of_way other) others over
            (best.wins other others less begins)
        | inr here ↦ of_way lengths steps place sign more new comes other others here begins
      ];
    }

-- if there is no beginning of that way, the best stays too
pub way_fails : (lengths : List ℕ) (steps : List Step) (place : ℕ) (sign : Sign) (number : ℤ) (way more : Way)
    → IsBestBefore lengths steps (rank_of_way more) place sign number way
    → ((others : List Cell) → Begins lengths steps 0 place sign more others → ⊥)
    → IsBestBefore lengths steps (rank_of_way more + 1) place sign number way
way_fails lengths steps place sign number way more best fails = record {
  before = best.before;
  begins = best.begins;
  low = omega (arith, best.low);
  number_is = best.number_is;
  wins = λ other others low begins. elim (low_or_here more other low) [
    | inl less ↦ best.wins other others less begins
    | inr here ↦ absurd (fails others (subst (λ w. Begins lengths steps 0 place sign w others) (sym here) begins))
  ];
}

-- ---- the best in each way

-- what a beginning behind cells that end in a place costs
costs : (lengths : List ℕ) (steps : List Step) (place : ℕ) (way : Way) (from : ℕ) (sign : Sign) (path : List Cell)
    → EndsIn from sign path
    → cost lengths steps 0 place way path ≡ pos (times_for lengths way place from * level_at steps)
costs lengths steps place way from sign [] ends = absurd ends
costs lengths steps place way from sign (cell ∷ path) ends =
    ap (λ n. pos (times_for lengths way place n * level_at steps)) ends.0

-- the best path that ends so, less the same costs, wins over each other that ends so
pub behind_end : (lengths : List ℕ) (steps : List Step) (place from : ℕ) (sign : Sign) (way : Way) (e : ℤ) (bit : Bit)
    (end : IsEnd lengths steps from sign e bit)
    → Follows way place sign end.path
    → ((others : List Cell) → Begins lengths steps 0 place sign way others → EndsIn from sign others)
    → IsBestOfWay lengths steps place sign way (e -ℤ pos (times_for lengths way place from * level_at steps))
behind_end lengths steps place from sign way e bit end follows like =
    let mine = costs lengths steps place way from sign end.path end.is_best.ends in
    record {
      before = end.path;
      begins = record { follows = follows; is_path = end.is_best.is_path };
      number_is = ap (λ n. n -ℤ pos (times_for lengths way place from * level_at steps)) end.number_is
          ∙ ap (λ n. score lengths steps end.path -ℤ n) (sym mine);
      wins = λ others begins.
          let ends = like others begins in
          let theirs = costs lengths steps place way from sign others ends in
          elim (end.is_best.wins others begins.is_path ends) [
            | inl less ↦ inl (omega (arith, ints, theirs, end.number_is))
            | inr same ↦ inr (omega (arith, ints, theirs, end.number_is, same.0), same.1)
          ];
    }

behind_same : (place : ℕ) (sign : Sign) (path : List Cell) → EndsIn place sign path → Follows Same place sign path
behind_same place sign [] ends = absurd ends
behind_same place sign (cell ∷ path) ends = ends

behind_shorter : (place from : ℕ) (sign : Sign) (path : List Cell) → from + 1 ≡ place → EndsIn from sign path
    → Follows Shorter place sign path
behind_shorter place from sign [] next ends = absurd ends
behind_shorter place from sign (cell ∷ path) next ends = (omega (arith, ends.0), ends.1)

behind_longer : (place from : ℕ) (sign : Sign) (path : List Cell) → from ≡ place + 1 → EndsIn from sign path
    → Follows Longer place sign path
behind_longer place from sign [] next ends = absurd ends
behind_longer place from sign (cell ∷ path) next ends = (omega (arith, ends.0), ends.1)

pub behind_jump : (place : ℕ) (sign : Sign) (path : List Cell) → Follows Jump place sign path
behind_jump place sign [] = refl
behind_jump place sign (cell ∷ path) = tt

same_behind : (lengths : List ℕ) (steps : List Step) (place : ℕ) (sign : Sign) (path : List Cell) → 0 < length steps
    → IsPath lengths steps path → Follows Same place sign path → EndsIn place sign path
same_behind lengths steps place sign [] some is follows = absurd (omega arith)
same_behind lengths steps place sign (cell ∷ path) some is follows = follows

shorter_behind : (lengths : List ℕ) (steps : List Step) (place from : ℕ) (sign : Sign) (path : List Cell)
    → from + 1 ≡ place → 0 < length steps
    → IsPath lengths steps path → Follows Shorter place sign path → EndsIn from sign path
shorter_behind lengths steps place from sign [] next some is follows = absurd (omega arith)
shorter_behind lengths steps place from sign (cell ∷ path) next some is follows = (omega (arith, follows.0), follows.1)

longer_behind : (lengths : List ℕ) (steps : List Step) (place from : ℕ) (sign : Sign) (path : List Cell)
    → from ≡ place + 1 → 0 < length steps
    → IsPath lengths steps path → Follows Longer place sign path → EndsIn from sign path
longer_behind lengths steps place from sign [] next some is follows = absurd (omega arith)
longer_behind lengths steps place from sign (cell ∷ path) next some is follows = (omega (arith, follows.0), follows.1)

-- ---- way by way

-- a cell of the same length costs nothing
pub same_best : (lengths : List ℕ) (steps : List Step) (place : ℕ) (sign : Sign) (e : ℤ) (bit : Bit) → 0 < length steps
    → IsEnd lengths steps place sign e bit → IsBestBefore lengths steps 1 place sign e Same
same_best lengths steps place sign e bit some end =
    let best = behind_end lengths steps place place sign Same e bit end
    (behind_same place sign end.path end.is_best.ends)
    (λ others begins. same_behind lengths steps place sign others some begins.is_path begins.follows) in
    let free : e -ℤ pos (times_for lengths Same place place * level_at steps) ≡ e = omega (arith, ints) in
    record {
      before = best.before;
      begins = best.begins;
      low = omega arith;
      number_is = sym free ∙ best.number_is;
      wins = λ other others low begins. subst
          (λ n. WinsBy n 0 best.before (score_before lengths steps 0 place other others) (rank_of_way other) others)
          free
          (elim (low_or_here Same other low) [
            | inl none ↦ absurd (omega arith)
            | inr here ↦ of_way lengths steps place sign Same
                (e -ℤ pos (times_for lengths Same place place * level_at steps)) best other others here begins
          ]);
    }

pub shorter_best : (lengths : List ℕ) (steps : List Step) (place from : ℕ) (sign : Sign) (e : ℤ) (bit : Bit)
    → from + 1 ≡ place → 0 < length steps
    → IsEnd lengths steps from sign e bit
    → IsBestOfWay lengths steps place sign Shorter
    (e -ℤ pos ((length_in lengths place - length_in lengths from) * level_at steps))
shorter_best lengths steps place from sign e bit next some end =
    behind_end lengths steps place from sign Shorter e bit end
    (behind_shorter place from sign end.path next end.is_best.ends)
    (λ others begins. shorter_behind lengths steps place from sign others next some begins.is_path begins.follows)

pub longer_best : (lengths : List ℕ) (steps : List Step) (place from : ℕ) (sign : Sign) (e : ℤ) (bit : Bit)
    → from ≡ place + 1 → 0 < length steps
    → IsEnd lengths steps from sign e bit
    → IsBestOfWay lengths steps place sign Longer
    (e -ℤ pos ((length_in lengths from - length_in lengths place) * level_at steps))
longer_best lengths steps place from sign e bit next some end =
    behind_end lengths steps place from sign Longer e bit end
    (behind_longer place from sign end.path next end.is_best.ends)
    (λ others begins. longer_behind lengths steps place from sign others next some begins.is_path begins.follows)

jump_costs : (lengths : List ℕ) (steps : List Step) (place : ℕ) (path : List Cell) → 0 < length steps
    → IsPath lengths steps path
    → cost lengths steps 0 place Jump path ≡ pos (JUMP * length_in lengths place * level_at steps)
jump_costs lengths steps place [] some is = absurd (omega arith)
jump_costs lengths steps place (cell ∷ path) some is = refl

-- a jump comes behind the best of all
pub jump_best : (lengths : List ℕ) (steps : List Step) (place from : ℕ) (sign end : Sign) (e : ℤ) → 0 < length steps
    → IsBestEnd lengths steps from end e
    → IsBestOfWay lengths steps place sign Jump (e -ℤ pos (JUMP * length_in lengths place * level_at steps))
jump_best lengths steps place from sign end e some best =
    let mine = jump_costs lengths steps place best.path some best.is_best.is_path in
    record {
      before = best.path;
      begins = record { follows = behind_jump place sign best.path; is_path = best.is_best.is_path };
      number_is = ap (λ n. n -ℤ pos (JUMP * length_in lengths place * level_at steps)) best.number_is
          ∙ ap (λ n. score lengths steps best.path -ℤ n) (sym mine);
      wins = λ others begins.
          let theirs = jump_costs lengths steps place others some begins.is_path in
          elim (best.is_best.wins others begins.is_path) [
            | inl less ↦ inl (omega (arith, ints, theirs, best.number_is))
            | inr same ↦ inr (omega (arith, ints, theirs, best.number_is, same.0), same.1)
          ];
    }

-- the shortest has no shorter one
pub none_shorter : (lengths : List ℕ) (steps : List Step) (sign : Sign) → 0 < length steps
    → (others : List Cell) → Begins lengths steps 0 0 sign Shorter others → ⊥
none_shorter lengths steps sign some [] begins = let is = begins.is_path in omega arith
none_shorter lengths steps sign some (cell ∷ others) begins = let is = begins.follows in omega (arith, is.0)

in_list : (lengths : List ℕ) (steps : List Step) (cell : Cell) (path : List Cell) → IsPath lengths steps (cell ∷ path)
    → cell.place < length lengths
in_list lengths steps cell path is = is.1

-- and the longest no longer one
pub none_longer : (lengths : List ℕ) (steps : List Step) (place : ℕ) (sign : Sign) → 0 < length steps
    → place + 1 ≡ length lengths
    → (others : List Cell) → Begins lengths steps 0 place sign Longer others → ⊥
none_longer lengths steps place sign some last [] begins = let is = begins.is_path in omega arith
none_longer lengths steps place sign some last (cell ∷ others) begins =
    let follows = begins.follows in let within = in_list lengths steps cell others begins.is_path in
    omega (arith, follows.0)

pub way_is_low : (way : Way) → rank_of_way way < 4
way_is_low Same = omega arith
way_is_low Shorter = omega arith
way_is_low Longer = omega arith
way_is_low Jump = omega arith

-- with all ways tried it is the beginning
pub all_tried : (lengths : List ℕ) (steps : List Step) (place : ℕ) (sign : Sign) (number : ℤ) (way : Way)
    → IsBestBefore lengths steps 4 place sign number way → IsBeginning lengths steps 0 place sign number way
all_tried lengths steps place sign number way best = record {
  before = best.before;
  begins = best.begins;
  number_is = best.number_is;
  wins = λ other others begins. best.wins other others (way_is_low other) begins;
}
