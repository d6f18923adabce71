-- A load run is made and read word by word: what was read and the cells that are left are the whole recording.
use Rattle.std.proofs.Common.{◌≡◌, ℕ, suc, Bool, true, false, List, [], ◌∷◌, ◌++◌, sym, ◌∙◌, ap, ap₂, append_assoc}
use Rattle.std.proofs.Common.{append-nil}
use Rattle.std.specs.Prelude.{pos}
use Rattle.std.proofs.lemmas.List.Concat.{flat_map-append}
use Rattle.biphase.specs.declared.cell.Cell.{Cell}
use Rattle.biphase.specs.Chain.{flat, intervals_of}
use Rattle.tc_address.specs.Label.{Address}
use Rattle.tc_address.specs.Numbering.{step}
use Rattle.tc_job.specs.LoadRun.{Loading}
use Rattle.made_commands.specs.declared.chance.Chance.{Chance}
use Rattle.made_commands.specs.Load.{begun, behind, cell_of, cells_by, first_label, load_cells, next_bits, one_cell}
use Rattle.made_commands.specs.Load.{one_draw, word_cells_by}

-- the zero and the one by which a reader locks
pub locked : (l : Loading) (first second : Cell) (g h : Chance) (label : Address) (count : ℕ)
    → first ≡ cell_of false (one_cell (begun l))
    → g ≡ one_cell (begun l) → second ≡ cell_of true (one_cell g) → h ≡ one_cell g → label ≡ first_label l.seed
    → count ≡ l.words
    → (([] ++ intervals_of first) ++ intervals_of second) ++ flat (word_cells_by h label count) ≡ flat (load_cells l)
locked l first second g h label count zero behind_zero one behind_one named all =
    let left : Chance → Address → List ℕ = λ k a. flat (word_cells_by k a l.words) in
    ap (λ (n : ℕ). (([] ++ intervals_of first) ++ intervals_of second) ++ flat (word_cells_by h label n)) all
    ∙ ap (λ (k : Cell). (([] ++ intervals_of k) ++ intervals_of second) ++ left h label) zero
    ∙ ap (λ (k : Cell). (([] ++ intervals_of (cell_of false (one_cell (begun l)))) ++ intervals_of k) ++ left h label)
    (one ∙ ap (λ (x : Chance). cell_of true (one_cell x)) behind_zero)
    ∙ ap₂ (λ (x : Chance) (a : Address). flat (cells_by (begun l) (false ∷ true ∷ [])) ++ left x a)
    (behind_one ∙ ap one_cell behind_zero) named

-- a word more was read
pub word_read : (g d h : Chance) (label next : Address) (list : List Bool) (left n : ℕ) (fed all : List ℕ)
    → d ≡ one_draw g → list ≡ next_bits g label
    → h ≡ behind d list → next ≡ step label (pos 1) → suc left ≡ n → fed ++ flat (word_cells_by g label n) ≡ all
    → (fed ++ flat (cells_by d list)) ++ flat (word_cells_by h next left) ≡ all
unfolding word_cells_by
word_read g d h label next list left n fed all drawn_is bits_are behind_is next_is one whole =
    let own = cells_by (one_draw g) (next_bits g label) in
    let others = word_cells_by (behind (one_draw g) (next_bits g label)) (step label (pos 1)) left in
    ap₂ (λ (x : Chance) (a : Address). (fed ++ flat (cells_by d list)) ++ flat (word_cells_by x a left))
    (behind_is ∙ ap₂ behind drawn_is bits_are) next_is
    ∙ ap₂ (λ (x : Chance) (b : List Bool). (fed ++ flat (cells_by x b)) ++ flat others) drawn_is bits_are
    ∙ append_assoc fed (flat own) (flat others)
    ∙ ap (λ (l : List ℕ). fed ++ l) (sym (flat_map-append intervals_of own others))
    ∙ ap (λ (k : ℕ). fed ++ flat (word_cells_by g label k)) one ∙ whole

-- no word is left
pub all_were_read : (g : Chance) (label : Address) (n : ℕ) (fed all : List ℕ) → n ≡ 0
    → fed ++ flat (word_cells_by g label n) ≡ all → fed ≡ all
unfolding word_cells_by
all_were_read g label n fed all none whole =
    sym (append-nil fed) ∙ ap (λ (k : ℕ). fed ++ flat (word_cells_by g label k)) (sym none) ∙ whole
