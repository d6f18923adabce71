-- A field of three lines, worked by hand: noise, and twice the line of the second field of a picture labelled 0 at 25
-- frames, on lines of 1,725 ticks, where a cell lasts 15.
use Rattle.std.proofs.Common.{◌≡◌, ℕ, ◌*◌, true, false, List, [], ◌∷◌, map, inl, inr, refl, arith, rules}
use Rattle.tc_address.specs.declared.count.Count.TheVariants.{C25}
use Rattle.tc_address.specs.declared.system.System.TheVariants.{F25}
use Rattle.tc_bits.specs.Fields.{flags}
use Rattle.vitc_line.specs.declared.word.VitcWord.{VitcWord}
use Rattle.vitc_line.specs.CheckBits.{residue}
use Rattle.vitc_line.specs.Spelled.{line_of}
use Rattle.vitc_line.specs.Spelling.{word_with}
use Rattle.vitc_reader.specs.declared.fault.ReadFault.TheVariants.{Runs}
use Rattle.vitc_reader.specs.declared.fault.RunFault.TheVariants.{Run}
use Rattle.vitc_reader.specs.declared.field.FieldAnswer.TheVariants.{Agreed}
use Rattle.vitc_reader.specs.Agreement.{IsAtFault, IsLineOf, SaysOf}
use Rattle.vitc_reader.specs.Runs.{AreCells, IsCells, bits_of}

second_field : VitcWord
second_field = word_with C25 0 0 0 0 (flags false false false false false) 0 true

-- how many cells each run has
cells : List ℕ
cells =
    1 ∷ 9 ∷ 1 ∷ 9 ∷ 1 ∷ 9 ∷ 1 ∷ 9 ∷ 1 ∷ 9 ∷ 1 ∷ 9 ∷ 1 ∷ 9 ∷ 1 ∷ 4 ∷ 1 ∷ 4 ∷ 1 ∷ 2 ∷ 1 ∷ 4 ∷ 1 ∷ []

line : List ℕ
line = map (λ k. 15 * k) cells

near : AreCells 1_725 line cells
unfolding line cells
near = search rules

is_spelled : bits_of true cells ≡ line_of second_field
unfolding cells second_field line_of residue
is_spelled = refl

is_line : IsLineOf F25 1_725 second_field line
unfolding second_field line cells
is_line = record {
  word_is = record {
    fields = record {
      label = record {
        hours = omega arith;
        minutes = omega arith;
        seconds = omega arith;
        frames =
            omega arith;
        counted = refl;
      };
      flag = refl;
    };
    user = omega arith;
    count = refl;
  };
  cells = cells;
  near = near;
  within = omega arith;
  line = is_spelled;
}

-- a run of a tick has no number of cells
no_cell : (k : ℕ) → IsCells 1_725 1 k → ⊥
no_cell k is = let some = is.0 in let near = is.1 in omega (arith, some, near)

noise : IsAtFault F25 1_725 (1 ∷ [])
noise = (
  Runs (Run 0),
  (
    record {
      before = [];
      run = 1;
      after = [];
      cells = [];
      split = refl;
      place = refl;
      read = tt;
      fit = omega arith;
    },
    no_cell,
  ),
)

the_field_agrees : SaysOf F25 1_725 ((1 ∷ []) ∷ line ∷ line ∷ []) (Agreed second_field)
the_field_agrees = record {
  before = (1 ∷ []) ∷ [];
  line = line;
  after = line ∷ [];
  are = refl;
  line_is = is_line;
  others_before = (inr noise, tt);
  others_after = (inl is_line, tt);
}
