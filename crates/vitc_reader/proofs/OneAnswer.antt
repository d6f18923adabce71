-- Runs have one list of cells as far as they can be taken, so a line says one thing and a field has one answer.
use Rattle.std.proofs.Common.{◌≡◌, ℕ, ◌+◌, ◌<◌, ◌≤◌, List, [], ◌∷◌, ◌++◌, Result, Ok, Err, Some, None, length, refl}
use Rattle.std.proofs.Common.{sym, ap, ap₂, ◌∙◌, arith, subst, inl, inr}
use Rattle.std.specs.Prelude.{◌≢◌}
use Rattle.std.specs.declared.option.Option.{Option}
use Rattle.std.proofs.lemmas.Bool.{cases_order}
use Rattle.tc_address.specs.declared.system.System.{System}
use Rattle.vitc_line.specs.declared.word.LineFault.{LineFault}
use Rattle.vitc_line.specs.declared.word.VitcWord.{VitcWord}
use Rattle.vitc_line.specs.Fault.{first_fault}
use Rattle.vitc_line.specs.Spelling.{Spells}
use Rattle.vitc_reader.specs.declared.fault.ReadFault.{ReadFault}
use Rattle.vitc_reader.specs.declared.fault.ReadFault.TheVariants.{Runs, Line}
use Rattle.vitc_reader.specs.declared.fault.RunFault.{RunFault}
use Rattle.vitc_reader.specs.declared.fault.RunFault.TheVariants.{Run, TooLong}
use Rattle.vitc_reader.specs.declared.field.FieldAnswer.{FieldAnswer}
use Rattle.vitc_reader.specs.declared.field.FieldAnswer.TheVariants.{NoLine, Agreed, Conflict, Nothing}
use Rattle.vitc_reader.specs.Field.{IsSaid, AreSaid, words_of, AllAre, IsAnswerTo, IsAnswer}
use Rattle.vitc_reader.specs.Runs.{total, IsCells, AreCells, StandFor, AreGoodUpTo, IsRunFault}
use Rattle.vitc_reader.proofs.ReadSoFar.{only}
use Rattle.vitc_reader.proofs.WholeCells.{one_list, one_number, cut, total-append}

-- ---- the place of a fault

-- if two lists are one, the one that is longer at the front goes on with the other's next
split_there : (before after earlier later : List ℕ) (x y : ℕ) → before ++ x ∷ after ≡ earlier ++ y ∷ later
    → length before < length earlier
    → (mid : List ℕ) × (earlier ≡ before ++ x ∷ mid)
split_there [] after [] later x y e lt = absurd (omega (arith, lt))
split_there [] after (z ∷ earlier) later x y e lt = (earlier, ap (λ (w : ℕ). w ∷ earlier) (sym (first_same e)))
  where
    first_same : x ∷ after ≡ z ∷ (earlier ++ y ∷ later) → x ≡ z
    first_same e = cc
split_there (b ∷ before) after [] later x y e lt = absurd (omega (arith, lt))
split_there (b ∷ before) after (z ∷ earlier) later x y e lt =
    let first : b ≡ z = cc in
    let rest : before ++ x ∷ after ≡ earlier ++ y ∷ later = cc in
    let m = split_there before after earlier later x y rest (omega (arith, lt)) in
    (m.0, ap₂ (λ (w : ℕ) (ws : List ℕ). w ∷ ws) (sym first) m.1)

same_there : (before after earlier later : List ℕ) (x y : ℕ) → before ++ x ∷ after ≡ earlier ++ y ∷ later
    → length before ≡ length earlier
    → (before ≡ earlier) × (x ≡ y)
same_there [] after [] later x y e same = (refl, cc)
same_there [] after (z ∷ earlier) later x y e same = absurd (omega (arith, same))
same_there (b ∷ before) after [] later x y e same = absurd (omega (arith, same))
same_there (b ∷ before) after (z ∷ earlier) later x y e same =
    let first : b ≡ z = cc in
    let rest : before ++ x ∷ after ≡ earlier ++ y ∷ later = cc in
    let m = same_there before after earlier later x y rest (omega (arith, same)) in
    (ap₂ (λ (w : ℕ) (ws : List ℕ). w ∷ ws) first m.0, m.1)

-- a run that can't be taken: what it is of the fault's two kinds
abbrev pub NotTaken : ℕ → ℕ → List ℕ → ℕ → Type 0
NotTaken n most before run = (k : ℕ) (cells : List ℕ) → AreCells n before cells → IsCells n run k
    → total cells + k ≤ most → ⊥

place_of : RunFault → ℕ
place_of (Run i) = i
place_of (TooLong i) = i

over : (cells good_cells k more here : ℕ) → cells ≡ good_cells → k ≡ more → 90 < good_cells + more → cells + k ≤ 90 → ⊥
over cells good_cells k more here a b far few = omega (arith, a, b, far, few)

-- the runs up to the fault are good, and its run can't be taken behind them
faulty : (n : ℕ) (runs : List ℕ) (f : RunFault) → 1 ≤ n → IsRunFault n runs f → (good : AreGoodUpTo n runs (place_of f))
    × NotTaken n 90 good.before good.run
unfolding place_of
faulty n runs (Run i) some fault = (fault.0, λ k cells are is few. fault.1 k is)
faulty n runs (TooLong i) some fault =
    let good = fault.0 in (
      good,
      λ k cells are is few.
          over (total cells) (total good.cells) k fault.1 0
          (ap total (one_list n good.before cells good.cells some are good.read))
          (one_number n good.run k fault.1 some is fault.2) fault.3 few,
    )

fits : (all front here back : ℕ) → all ≡ front + (here + back) → all ≤ 90 → front + here ≤ 90
fits all front here back e few = omega (arith, e, few)

-- cells of runs that go on at a fault
cells_there : (n : ℕ) (before : List ℕ) (run : ℕ) (after cells : List ℕ) → NotTaken n 90 before run
    → AreCells n (before ++ run ∷ after) cells
    → total cells ≤ 90 → ⊥
cells_there n before run after cells none are few =
    let c = cut n before run after cells are in
    none c.here c.front c.front_read c.here_read
    (fits (total cells) (total c.front) c.here (total c.back)
    (ap total c.split ∙ total-append c.front (c.here ∷ c.back)) few)

-- runs that stand for bits have no fault
pub no_fault : (n : ℕ) (runs : List ℕ) (bits : ℕ) (f : RunFault) → 1 ≤ n → StandFor n runs bits → IsRunFault n runs f
    → ⊥
no_fault n runs bits f some stand fault =
    let x = faulty n runs f some fault in
    let good = x.0 in
    let are : AreCells n (good.before ++ good.run ∷ good.after) stand.0 = subst (λ (rs : List ℕ). AreCells n rs stand.0)
    good.split stand.1 in
    cells_there n good.before good.run good.after stand.0 x.1 are stand.2

-- no fault comes before another one
not_before : (n : ℕ) (runs : List ℕ) (f g : RunFault) → 1 ≤ n → IsRunFault n runs f → IsRunFault n runs g
    → place_of f < place_of g → ⊥
not_before n runs f g some a b lt =
    let x = faulty n runs f some a in
    let y = faulty n runs g some b in
    let first = x.0 in
    let second = y.0 in
    let place = first.place in
    let other = second.place in
    let less : length first.before < length second.before = omega (arith, place, other, lt) in
    let m = split_there first.before first.after second.before second.after first.run second.run
    (sym first.split ∙ second.split) less in
    let are : AreCells n (first.before ++ first.run ∷ m.0) second.cells =
    subst (λ (rs : List ℕ). AreCells n rs second.cells) m.1 second.read in
    cells_there n first.before first.run m.0 second.cells x.1 are second.fit

-- two faults of one place
same_kind : (n : ℕ) (runs : List ℕ) (f g : RunFault) → 1 ≤ n → IsRunFault n runs f → IsRunFault n runs g
    → place_of f ≡ place_of g → f ≡ g
unfolding place_of
same_kind n runs (Run i) (Run j) some a b e = ap (λ (p : ℕ). Run p) e
same_kind n runs (TooLong i) (TooLong j) some a b e = ap (λ (p : ℕ). TooLong p) e
same_kind n runs (Run i) (TooLong j) some a b e =
    let first = a.0 in
    let second = b.0 in
    let s = same_there first.before first.after second.before second.after first.run second.run
    (sym first.split ∙ second.split)
    (first.place ∙ e ∙ sym second.place) in
    absurd (a.1 b.1 (subst (λ (r : ℕ). IsCells n r b.1) (sym s.1) b.2))
same_kind n runs (TooLong i) (Run j) some a b e =
    let first = a.0 in
    let second = b.0 in
    let s = same_there first.before first.after second.before second.after first.run second.run
    (sym first.split ∙ second.split)
    (first.place ∙ e ∙ sym second.place) in
    absurd (b.1 a.1 (subst (λ (r : ℕ). IsCells n r a.1) s.1 a.2))

pub one_fault : (n : ℕ) (runs : List ℕ) (f g : RunFault) → 1 ≤ n → IsRunFault n runs f → IsRunFault n runs g → f ≡ g
one_fault n runs f g some a b =
    elim (cases_order (place_of f) (place_of g)) [
      | inl same ↦ same_kind n runs f g some a b same
      | inr (inl lt) ↦ absurd (not_before n runs f g some a b lt)
      | inr (inr lt) ↦ absurd (not_before n runs g f some b a lt)
    ]

-- ---- what a line says

abbrev Said : Type 0
Said = Result VitcWord ReadFault

-- what the laws of the line say
abbrev pub OneWord : Type 0
OneWord = (system : System) (a b : VitcWord) (bits : ℕ) → Spells system a bits → Spells system b bits → a ≡ b

abbrev pub NoFault : Type 0
NoFault = (system : System) (word : VitcWord) (bits : ℕ) → Spells system word bits → first_fault system bits ≡ None

none_some : {A : Type 0} (o : Option A) (x : A) → o ≡ None → o ≡ Some x → ⊥
none_some o x a b = both (sym a ∙ b)
  where
    both : None ≡ Some x → ⊥
    both e = absurd cc

some_same : (x y : LineFault) → Some x ≡ Some y → x ≡ y
some_same x y e = cc

one_said : OneWord → NoFault → (system : System) (n : ℕ) (runs : List ℕ) (a b : Said) → 1 ≤ n → IsSaid system n runs a
    → IsSaid system n runs b → a ≡ b
one_said one none system n runs (Ok v) (Ok w) some a b =
    let same = only n runs a.0 b.0 some a.1 b.1 in
    ap (λ (x : VitcWord). Ok x) (one system v w b.0 (subst (λ (bits : ℕ). Spells system v bits) same a.2) b.2)
one_said one none system n runs (Ok v) (Err (Runs f)) some a b = absurd (no_fault n runs a.0 f some a.1 b)
one_said one none system n runs (Ok v) (Err (Line f)) some a b =
    let same = only n runs a.0 b.0 some a.1 b.1 in
    absurd (none_some (first_fault system b.0) f
    (none system v b.0 (subst (λ (bits : ℕ). Spells system v bits) same a.2)) b.2)
one_said one none system n runs (Err (Runs f)) (Ok w) some a b = absurd (no_fault n runs b.0 f some b.1 a)
one_said one none system n runs (Err (Runs f)) (Err (Runs g)) some a b =
    ap (λ (x : RunFault). Err (Runs x)) (one_fault n runs f g some a b)
one_said one none system n runs (Err (Runs f)) (Err (Line g)) some a b = absurd (no_fault n runs b.0 f some b.1 a)
one_said one none system n runs (Err (Line f)) (Ok w) some a b =
    let same = only n runs b.0 a.0 some b.1 a.1 in
    absurd (none_some (first_fault system a.0) f
    (none system w a.0 (subst (λ (bits : ℕ). Spells system w bits) same b.2)) a.2)
one_said one none system n runs (Err (Line f)) (Err (Runs g)) some a b = absurd (no_fault n runs a.0 g some a.1 b)
one_said one none system n runs (Err (Line f)) (Err (Line g)) some a b =
    let same = only n runs a.0 b.0 some a.1 b.1 in
    ap (λ (x : LineFault). Err (Line x)) (some_same f g (sym a.2 ∙ ap (first_fault system) same ∙ b.2))

all_said : OneWord → NoFault → (system : System) (n : ℕ) (lines : List (List ℕ)) (a b : List Said) → 1 ≤ n
    → AreSaid system n lines a
    → AreSaid system n lines b → a ≡ b
all_said one none system n [] [] [] some a b = refl
all_said one none system n [] [] (y ∷ ys) some a b = absurd b
all_said one none system n [] (x ∷ xs) ys some a b = absurd a
all_said one none system n (l ∷ lines) [] ys some a b = absurd a
all_said one none system n (l ∷ lines) (x ∷ xs) [] some a b = absurd b
all_said one none system n (l ∷ lines) (x ∷ xs) (y ∷ ys) some a b =
    ap₂ (λ (z : Said) (zs : List Said). z ∷ zs) (one_said one none system n l x y some a.0 b.0)
    (all_said one none system n lines xs ys some a.1 b.1)

-- ---- the answer

-- the first word that differs is one
first_other : (word other another : VitcWord) (same less more rest : List VitcWord) → AllAre word same
    → AllAre word less → other ≢ word → another ≢ word
    → same ++ other ∷ more ≡ less ++ another ∷ rest → other ≡ another
first_other word other another [] [] more rest a b x y e = cc
first_other word other another [] (l ∷ less) more rest a b x y e = let is : other ≡ l = cc in absurd (x (is ∙ b.0))
first_other word other another (s ∷ same) [] more rest a b x y e = let is : s ≡ another = cc in
    absurd (y (sym is ∙ a.0))
first_other word other another (s ∷ same) (l ∷ less) more rest a b x y e =
    let tail : same ++ other ∷ more ≡ less ++ another ∷ rest = cc in
    first_other word other another same less more rest a.1 b.1 x y tail

none_differs : (word other : VitcWord) (all same more : List VitcWord) → AllAre word all → all ≡ same ++ other ∷ more
    → other ≡ word
none_differs word other [] [] more are e = absurd cc
none_differs word other [] (s ∷ same) more are e = absurd cc
none_differs word other (w ∷ all) [] more are e = let is : w ≡ other = cc in sym is ∙ are.0
none_differs word other (w ∷ all) (s ∷ same) more are e = let tail : all ≡ same ++ other ∷ more = cc in
    none_differs word other all same more are.1 tail

no_words : (words : List VitcWord) (word : VitcWord) (more : List VitcWord) → words ≡ [] → words ≡ word ∷ more → ⊥
no_words words word more a b = absurd cc

no_said : (said : List Said) (word : VitcWord) (more : List VitcWord) → said ≡ [] → words_of said ≡ word ∷ more → ⊥
no_said said word more a b = no_words (words_of said) word more (ap words_of a) b

no_lines : (said : List Said) (f : ReadFault) (more : List Said) → said ≡ [] → said ≡ Err f ∷ more → ⊥
no_lines said f more a b = absurd cc

same_fault : (said more others : List Said) (f g : ReadFault) → said ≡ Err f ∷ more → said ≡ Err g ∷ others → f ≡ g
same_fault said more others f g a b = cc

same_first : (words more others : List VitcWord) (v w : VitcWord) → words ≡ v ∷ more → words ≡ w ∷ others → (v ≡ w)
    × (more ≡ others)
same_first words more others v w a b = (cc, cc)

conflict_agrees : (said : List Said) (v w other : VitcWord) → IsAnswerTo said (Agreed v)
    → IsAnswerTo said (Conflict w other) → ⊥
conflict_agrees said v w other a b =
    let s = same_first (words_of said) a.0 (b.0 ++ other ∷ b.1) v w a.1 b.2 in
    b.4 (none_differs v other a.0 b.0 b.1 a.2 s.1 ∙ s.0)

one_answer_to : (said : List Said) (a b : FieldAnswer) → IsAnswerTo said a → IsAnswerTo said b → a ≡ b
one_answer_to said NoLine NoLine a b = refl
one_answer_to said NoLine (Nothing f) a b = absurd (no_lines said f b.0 a b.1)
one_answer_to said NoLine (Agreed w) a b = absurd (no_said said w b.0 a b.1)
one_answer_to said NoLine (Conflict w o) a b = absurd (no_said said w (b.0 ++ o ∷ b.1) a b.2)
one_answer_to said (Nothing f) NoLine a b = absurd (no_lines said f a.0 b a.1)
one_answer_to said (Nothing f) (Nothing g) a b = ap (λ (x : ReadFault). Nothing x) (same_fault said a.0 b.0 f g a.1 b.1)
one_answer_to said (Nothing f) (Agreed w) a b = absurd (no_words (words_of said) w b.0 a.2 b.1)
one_answer_to said (Nothing f) (Conflict w o) a b = absurd (no_words (words_of said) w (b.0 ++ o ∷ b.1) a.2 b.2)
one_answer_to said (Agreed w) NoLine a b = absurd (no_said said w a.0 b a.1)
one_answer_to said (Agreed w) (Nothing f) a b = absurd (no_words (words_of said) w a.0 b.2 a.1)
one_answer_to said (Agreed v) (Agreed w) a b =
    ap (λ (x : VitcWord). Agreed x) (same_first (words_of said) a.0 b.0 v w a.1 b.1).0
one_answer_to said (Agreed v) (Conflict w o) a b = absurd (conflict_agrees said v w o a b)
one_answer_to said (Conflict w o) NoLine a b = absurd (no_said said w (a.0 ++ o ∷ a.1) b a.2)
one_answer_to said (Conflict w o) (Nothing f) a b = absurd (no_words (words_of said) w (a.0 ++ o ∷ a.1) b.2 a.2)
one_answer_to said (Conflict w o) (Agreed v) a b = absurd (conflict_agrees said v w o b a)
one_answer_to said (Conflict v o) (Conflict w p) a b =
    let s = same_first (words_of said) (a.0 ++ o ∷ a.1) (b.0 ++ p ∷ b.1) v w a.2 b.2 in
    let all : AllAre v b.0 = subst (λ (x : VitcWord). AllAre x b.0) (sym s.0) b.3 in
    let differs : p ≢ v = λ e. b.4 (e ∙ s.0) in
    ap₂ (λ (x y : VitcWord). Conflict x y) s.0 (first_other v o p a.0 b.0 a.1 b.1 a.3 all a.4 differs s.1)

pub one_answer : OneWord → NoFault → (system : System) (n : ℕ) (lines : List (List ℕ)) (a b : FieldAnswer) → 1 ≤ n
    → IsAnswer system n lines a
    → IsAnswer system n lines b → a ≡ b
one_answer one none system n lines a b some x y =
    let same = all_said one none system n lines x.0 y.0 some x.1 y.1 in
    one_answer_to y.0 a b (subst (λ (said : List Said). IsAnswerTo said a) same x.2) y.2
