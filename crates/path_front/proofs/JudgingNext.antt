-- A cell more is judged, or waits, and those judged and those ahead stay all that were given, in the order of time.
use Rattle.std.proofs.Common.{◌≡◌, ◌+◌, ◌<◌, ◌≤◌, ℤ, List, [], ◌∷◌, ◌++◌, length, reverse, Bool, true, false, Option}
use Rattle.std.proofs.Common.{Some, None, IfSome, refl, ap}
use Rattle.std.proofs.Common.{ap₂, sym, ◌∙◌, arith}
use Rattle.std.proofs.lemmas.Bool.{false≢true}
use Rattle.std.proofs.lemmas.List.{append_assoc, append-nil, length-append, reverse-append}
use Rattle.cell_path.specs.declared.placed.Placed.{Placed}
use Rattle.path_front.specs.declared.gate.Judged.{Judged}
use Rattle.path_front.specs.declared.judging.Phase.{Phase}
use Rattle.path_front.specs.declared.judging.Phase.TheVariants.{Sound, Rest, Drain}
use Rattle.path_front.specs.declared.measured.Measured.{Measured}
use Rattle.path_front.specs.Cells.{cell_behind, measured_cells, sounds_in, CellsEndFor, CellsState, CellsStandFor}
use Rattle.path_front.specs.Cells.{GivesCell}
use Rattle.path_front.specs.Cells.{cells_left, GivesLastCell, SameSound}
use Rattle.path_front.specs.Gate.{breaks, ear_of, GateState, GateStandsFor, Judges}
use Rattle.path_front.specs.Judging.{closed, is_drain, CellsIn, ForMore, GivesJudged, GivesNone, JudgingState}
use Rattle.path_front.specs.Judging.{judging_left, Moves}
use Rattle.path_front.specs.Measured.{IsMeasured}
use Rattle.path_front.specs.Steps.{sounds_of}

abbrev pub judging : CellsState → GateState → Phase → JudgingState
judging cells gate phase = record { cells = cells; gate = gate; phase = phase }

-- the sound stays the same
pub same_sounds : (cells now : CellsState) (samples : List ℤ) → SameSound cells now
    → sounds_in now samples ≡ sounds_in cells samples
same_sounds cells now samples same = ap₂ (λ grid least. sounds_of grid least samples) same.grid same.least

pub same_ear : (cells now : CellsState) → SameSound cells now
    → ear_of cells.steps.grid cells.steps.hold.least ≡ ear_of now.steps.grid now.steps.hold.least
same_ear cells now same = sym (ap₂ ear_of same.grid same.least)

-- the next cell, as long as some may come
next_cell : (phase : Phase) (cells now : CellsState) (cell : Measured) (samples : List ℤ) (given : List Placed)
    → is_drain phase ≡ false
    → ((samples : List ℤ) (given : List Placed) → CellsStandFor cells samples given
    → GivesCell now samples given (Some cell))
    → ((samples : List ℤ) (given : List Placed) → CellsEndFor cells samples given
    → GivesLastCell now samples given (Some cell))
    → CellsIn phase cells samples given
    → (placed : Placed) × (cell ≡ cell_behind (sounds_in now samples) placed given)
    × CellsIn phase now samples (placed ∷ given)
next_cell Sound cells now cell samples given opened gives rest are = gives samples given are
next_cell Rest cells now cell samples given opened gives rest are = rest samples given are
next_cell Drain cells now cell samples given opened gives rest are = absurd (false≢true (sym opened))

-- what holds whatever may come
for_all : (phase : Phase) (holds : List Measured → Type 0) → ((more : List Measured) → holds more)
    → ForMore phase holds
for_all Sound holds all = all
for_all Rest holds all = all
for_all Drain holds all = all []

-- in the order of time one more cell comes last
comes_last : (sounds : List Measured) (cell : Measured) → reverse (cell ∷ sounds) ≡ reverse sounds ++ cell ∷ []
comes_last sounds cell = reverse-append (cell ∷ []) sounds

order_next : (cells now : CellsState) (samples : List ℤ) (given : List Placed) (placed : Placed) (cell : Measured)
    (judged ahead : List Measured) → SameSound cells now → cell ≡ cell_behind (sounds_in now samples) placed given
    → reverse judged ++ ahead ≡ reverse (measured_cells (sounds_in cells samples) given)
    → reverse judged ++ (ahead ++ cell ∷ []) ≡ reverse (measured_cells (sounds_in now samples) (placed ∷ given))
unfolding measured_cells
order_next cells now samples given placed cell judged ahead same is order =
    let sounds = sounds_in now samples in
    let before = measured_cells sounds given in
    sym (append_assoc (reverse judged) ahead (cell ∷ []))
    ∙ ap (λ l. l ++ cell ∷ [])
    (order ∙ ap (λ s. reverse (measured_cells s given)) (sym (same_sounds cells now samples same)))
    ∙ sym (comes_last before cell)
    ∙ ap (λ c. reverse (c ∷ before)) is

-- a cell waits
pub waits : (phase : Phase) (cells now : CellsState) (gate next : GateState) (cell : Measured) → is_drain phase ≡ false
    → ((samples : List ℤ) (given : List Placed) → CellsStandFor cells samples given
    → GivesCell now samples given (Some cell))
    → ((samples : List ℤ) (given : List Placed) → CellsEndFor cells samples given
    → GivesLastCell now samples given (Some cell))
    → SameSound cells now → next.ear ≡ gate.ear → next.ahead ≡ gate.ahead ++ cell ∷ []
    → ((judged : List Measured) → GateStandsFor gate judged → GateStandsFor next judged)
    → cells_left now + 2 ≤ cells_left cells → length next.ahead ≤ 8
    → GivesNone (judging cells gate phase) (judging now next phase)
waits phase cells now gate next cell opened gives rest same ear ahead stays less room = record {
  most = let many = ap length ahead ∙ length-append gate.ahead (cell ∷ []) in omega (arith, many, less);
  moves = record {
    came = cell ∷ [];
    moved = sym ahead;
    drained = λ drain. absurd (false≢true (sym opened ∙ ap is_drain drain));
    stays = λ sound. sound;
    goes = λ sound. sound;
    keeps = λ drain. drain;
  };
  stands = λ samples judged stand.
      let more = next_cell phase cells now cell samples stand.given opened gives rest stand.cells in
      record {
        given = more.0 ∷ stand.given;
        cells = more.2;
        gate = stays judged stand.gate;
        ear = ear ∙ stand.ear ∙ same_ear cells now same;
        order = ap (λ l. reverse judged ++ l) ahead
            ∙ order_next cells now samples stand.given more.0 cell judged gate.ahead same more.1 stand.order;
        few = room;
        eight = λ is some.
            let many = ap length ahead ∙ length-append gate.ahead (cell ∷ []) in
            let before = stand.eight opened some in absurd (omega (arith, many, before, room));
      };
}

-- one cell fewer is left, and one more is ahead
pub waits_less : (phase : Phase) (cells now : CellsState) (gate next : GateState) (cell : Measured)
    → next.ahead ≡ gate.ahead ++ cell ∷ [] → cells_left now + 2 ≤ cells_left cells
    → judging_left (judging now next phase) < judging_left (judging cells gate phase)
waits_less phase cells now gate next cell ahead less =
    let many = ap length ahead ∙ length-append gate.ahead (cell ∷ []) in omega (arith, many, less)

-- what was judged goes on with a cell from the front of those ahead
order_judged : (judged ahead rest all : List Measured) (cell : Measured) → ahead ≡ cell ∷ rest
    → reverse judged ++ ahead ≡ all → reverse (cell ∷ judged) ++ rest ≡ all
order_judged judged ahead rest all cell front order =
    ap (λ l. l ++ rest) (comes_last judged cell) ∙ append_assoc (reverse judged) (cell ∷ []) rest
    ∙ ap (λ l. reverse judged ++ l) (sym front) ∙ order

-- a cell is judged
pub judges_next : (phase : Phase) (cells now : CellsState) (gate next : GateState) (cell : Measured) (answer : Judged)
    → is_drain phase ≡ false
    → ((samples : List ℤ) (given : List Placed) → CellsStandFor cells samples given
    → GivesCell now samples given (Some cell))
    → ((samples : List ℤ) (given : List Placed) → CellsEndFor cells samples given
    → GivesLastCell now samples given (Some cell))
    → SameSound cells now → next.ear ≡ gate.ear → gate.ahead ++ cell ∷ [] ≡ answer.cell ∷ next.ahead
    → ((judged more : List Measured) → GateStandsFor gate judged
    → Judges gate.ear (gate.ahead ++ cell ∷ []) next judged more answer)
    → IsMeasured answer.cell → cells_left now + 2 ≤ cells_left cells → length next.ahead ≡ 8
    → GivesJudged (judging cells gate phase) (judging now next phase) answer
judges_next phase cells now gate next cell answer opened gives rest same ear front judges measured less eight =
    record {
      less = let many = sym (length-append gate.ahead (cell ∷ [])) ∙ ap length front in omega (arith, many, less);
      measured = measured;
      moves = record {
        came = cell ∷ [];
        moved = front;
        drained = λ drain. absurd (false≢true (sym opened ∙ ap is_drain drain));
        stays = λ sound. sound;
        goes = λ sound. sound;
        keeps = λ drain. drain;
      };
      judges = λ samples judged stand.
          for_all phase (λ m. answer.breaks ≡ breaks next.ear judged answer.cell (next.ahead ++ m))
          (λ m. (judges judged m stand.gate).breaks_is
          ∙ ap (λ n. breaks n judged answer.cell (next.ahead ++ m)) (sym ear));
      stands = λ samples judged stand.
          let more = next_cell phase cells now cell samples stand.given opened gives rest stand.cells in
          record {
            given = more.0 ∷ stand.given;
            cells = more.2;
            gate = (judges judged [] stand.gate).stands;
            ear = ear ∙ stand.ear ∙ same_ear cells now same;
            order = order_judged judged (gate.ahead ++ cell ∷ []) next.ahead
                (reverse (measured_cells (sounds_in now samples) (more.0 ∷ stand.given))) answer.cell front
                (order_next cells now samples stand.given more.0 cell judged gate.ahead same more.1 stand.order);
            few = omega (arith, eight);
            eight = λ is some. eight;
          };
    }

-- one of the last cells is judged
drained : (phase : Phase) (cells : CellsState) (gate next : GateState) (answer : Judged) → is_drain phase ≡ true
    → next.ear ≡ gate.ear → length next.ahead ≤ 8 → gate.ahead ≡ answer.cell ∷ next.ahead → IsMeasured answer.cell
    → ((judged : List Measured) → GateStandsFor gate judged → Judges gate.ear gate.ahead next judged [] answer)
    → GivesJudged (judging cells gate phase) (judging cells next phase) answer
drained Sound cells gate next answer closed ear room front measured judges = absurd (false≢true closed)
drained Rest cells gate next answer closed ear room front measured judges = absurd (false≢true closed)
drained Drain cells gate next answer closed ear room front measured judges = record {
  less = let many = ap length front in omega (arith, many);
  measured = measured;
  moves = record {
    came = [];
    moved = append-nil gate.ahead ∙ front;
    drained = λ drain. refl;
    stays = λ sound. sound;
    goes = λ sound. sound;
    keeps = λ drain. drain;
  };
  judges = λ samples judged stand. (judges judged stand.gate).breaks_is
      ∙ ap (λ n. breaks n judged answer.cell (next.ahead ++ [])) (sym ear);
  stands = λ samples judged stand. record {
    given = stand.given;
    cells = stand.cells;
    gate = (judges judged stand.gate).stands;
    ear = ear ∙ stand.ear;
    order = order_judged judged gate.ahead next.ahead
        (reverse (measured_cells (sounds_in cells samples) stand.given)) answer.cell front stand.order;
    few = room;
    eight = λ is some. absurd (false≢true (sym is));
  };
}

pub drained_if : (phase : Phase) (cells : CellsState) (gate next : GateState) (answer : Option Judged)
    → is_drain phase ≡ true → next.ear ≡ gate.ear → length next.ahead ≤ 8
    → IfSome answer (λ a. gate.ahead ≡ a.cell ∷ next.ahead) → IfSome answer (λ a. IsMeasured a.cell)
    → IfSome answer (λ a. (judged : List Measured) → GateStandsFor gate judged
    → Judges gate.ear gate.ahead next judged [] a)
    → IfSome answer (λ a. GivesJudged (judging cells gate phase) (judging cells next phase) a)
drained_if phase cells gate next None closed ear room front measured judges = tt
drained_if phase cells gate next (Some answer) closed ear room front measured judges =
    drained phase cells gate next answer closed ear room front measured judges

-- there is no cell: if the sound has ended, all have been given
cells_closed : (phase : Phase) (cells now : CellsState) (samples : List ℤ) (given : List Placed)
    → is_drain phase ≡ false
    → ((samples : List ℤ) (given : List Placed) → CellsStandFor cells samples given → GivesCell now samples given None)
    → ((samples : List ℤ) (given : List Placed) → CellsEndFor cells samples given
    → GivesLastCell now samples given None)
    → CellsIn phase cells samples given → CellsIn (closed phase) now samples given
cells_closed Sound cells now samples given opened gives rest are = gives samples given are
cells_closed Rest cells now samples given opened gives rest are = (rest samples given are).1
cells_closed Drain cells now samples given opened gives rest are = absurd (false≢true (sym opened))

closed_sound : (phase : Phase) → is_drain phase ≡ false → closed phase ≡ Sound → phase ≡ Sound
closed_sound Sound opened is = refl
closed_sound Rest opened is = absurd (false≢true (sym (ap is_drain is)))
closed_sound Drain opened is = absurd (false≢true (sym opened))

is_sound : Phase → Bool
is_sound Sound = true
is_sound Rest = false
is_sound Drain = false

pub not_rest : (phase : Phase) → closed phase ≡ Rest → ⊥
unfolding is_sound
not_rest Sound is = absurd (false≢true (sym (ap is_sound is)))
not_rest Rest is = absurd (false≢true (sym (ap is_drain is)))
not_rest Drain is = absurd (false≢true (sym (ap is_drain is)))

pub none_left : (phase : Phase) (cells now : CellsState) (gate : GateState) → is_drain phase ≡ false
    → ((samples : List ℤ) (given : List Placed) → CellsStandFor cells samples given → GivesCell now samples given None)
    → ((samples : List ℤ) (given : List Placed) → CellsEndFor cells samples given
    → GivesLastCell now samples given None)
    → SameSound cells now → cells_left now ≤ cells_left cells
    → GivesNone (judging cells gate phase) (judging now gate (closed phase))
none_left phase cells now gate opened gives rest same most = record {
  most = omega (arith, most);
  moves = record {
    came = [];
    moved = append-nil gate.ahead;
    drained = λ drain. refl;
    stays = closed_sound phase opened;
    goes = λ sound. ap closed sound;
    keeps = λ drain. ap closed drain;
  };
  stands = λ samples judged stand. record {
    given = stand.given;
    cells = cells_closed phase cells now samples stand.given opened gives rest stand.cells;
    gate = stand.gate;
    ear = stand.ear ∙ same_ear cells now same;
    order = stand.order ∙ ap (λ s. reverse (measured_cells s stand.given)) (sym (same_sounds cells now samples same));
    few = stand.few;
    eight = λ is some. stand.eight opened some;
  };
}

-- one after the other
moves_on : (old now new : JudgingState) (gone : List Measured) → Moves old now [] → Moves now new gone
    → Moves old new gone
moves_on old now new gone first second = record {
  came = first.came ++ second.came;
  moved = sym (append_assoc old.gate.ahead first.came second.came) ∙ ap (λ l. l ++ second.came) first.moved
      ∙ second.moved;
  drained = λ drain. ap₂ (λ a b. a ++ b) (first.drained drain) (second.drained (first.keeps drain));
  stays = λ sound. first.stays (second.stays sound);
  goes = λ sound. second.goes (first.goes sound);
  keeps = λ drain. second.keeps (first.keeps drain);
}

pub judged_after : (old now new : JudgingState) (answer : Judged) → GivesNone old now → GivesJudged now new answer
    → GivesJudged old new answer
judged_after old now new answer first second = record {
  measured = second.measured;
  less = omega (arith, first.most, second.less);
  moves = moves_on old now new (answer.cell ∷ []) first.moves second.moves;
  judges = λ samples judged stand. second.judges samples judged (first.stands samples judged stand);
  stands = λ samples judged stand. second.stands samples judged (first.stands samples judged stand);
}

pub judged_if : (old now new : JudgingState) (answer : Option Judged) → GivesNone old now
    → IfSome answer (λ a. GivesJudged now new a) → IfSome answer (λ a. GivesJudged old new a)
judged_if old now new None first second = tt
judged_if old now new (Some answer) first second = judged_after old now new answer first second
