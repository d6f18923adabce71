-- A line says a word exactly if its runs are those of the word's line, so the answer of a field says whose lines
-- its
-- lines are, and what says that is its answer.
use Rattle.std.proofs.Common.{◌≡◌, ℕ, ◌^◌, ◌<◌, true, List, [], ◌∷◌, ◌++◌, Result, Ok, Err}
use Rattle.std.proofs.Common.{inl, inr, refl, sym, ap, ◌∙◌, subst, append_assoc}
use Rattle.std.specs.List.{AllByRecursion}
use Rattle.tc_address.specs.declared.system.System.{System}
use Rattle.tc_address.specs.Count.{system_with}
use Rattle.tc_bits.specs.Fields.{IsFields}
use Rattle.vitc_line.specs.declared.word.VitcWord.{VitcWord}
use Rattle.vitc_line.specs.Spelled.{line_of}
use Rattle.vitc_line.specs.Spelling.{Spells}
use Rattle.vitc_reader.specs.declared.fault.ReadFault.{ReadFault}
use Rattle.vitc_reader.specs.declared.field.FieldAnswer.{FieldAnswer}
use Rattle.vitc_reader.specs.declared.field.FieldAnswer.TheVariants.{NoLine, Agreed, Conflict, Nothing}
use Rattle.vitc_reader.specs.Agreement.{IsAtFault, IsLineOf, IsLineOfOrAtFault, IsWord}
use Rattle.vitc_reader.specs.Agreement.{SaysOf}
use Rattle.vitc_reader.specs.Field.{AllAre, AreSaid, IsAnswer, IsAnswerTo, IsSaid, words_of}
use Rattle.vitc_reader.specs.Runs.{bits_of}

abbrev Said : Type 0
Said = Result VitcWord ReadFault

-- what the laws of a line say
pub record LineLaws : Type 0 where
  pub spells : (word : VitcWord) → IsFields word.fields → word.fields.user < 2 ^ 32
      → Spells (system_with word.fields.label.count) word (line_of word)
  pub one : (system : System) (word : VitcWord) (a b : ℕ) → Spells system word a → Spells system word b → a ≡ b

-- ---- one line

spelled : LineLaws → (system : System) (word : VitcWord) → IsWord system word → Spells system word (line_of word)
spelled laws system word is = subst (λ (s : System). Spells s word (line_of word)) is.count
    (laws.spells word is.fields is.user)

line_said : LineLaws → (system : System) (n : ℕ) (runs : List ℕ) (word : VitcWord) → IsSaid system n runs (Ok word)
    → IsLineOf system n word runs
line_said laws system n runs word said =
    let spells = said.2 in
    let is : IsWord system word = record { fields = spells.valid; user = spells.user.no_more; count = spells.count } in
    record {
      word_is = is;
      cells = said.1.0;
      near = said.1.1;
      within = said.1.2;
      line = sym said.1.3 ∙ laws.one system word said.0 (line_of word) spells (spelled laws system word is);
    }

pub said_line : LineLaws → (system : System) (n : ℕ) (runs : List ℕ) (word : VitcWord) → IsLineOf system n word runs
    → IsSaid system n runs (Ok word)
said_line laws system n runs word is = (
  bits_of true is.cells,
  (is.cells, is.near, is.within, refl),
  subst (λ (bits : ℕ). Spells system word bits) (sym is.line) (spelled laws system word is.word_is),
)

-- ---- from what is said to the lines

none_said : (system : System) (n : ℕ) (lines : List (List ℕ)) (said : List Said) → AreSaid system n lines said
    → words_of said ≡ [] → AllByRecursion (IsAtFault system n) lines
none_said system n [] said are none = tt
none_said system n (line ∷ lines) [] are none = absurd are
none_said system n (line ∷ lines) (Ok word ∷ said) are none = absurd cc
none_said system n (line ∷ lines) (Err fault ∷ said) are none =
    ((fault, are.0), none_said system n lines said are.1 none)

same_said : LineLaws → (system : System) (n : ℕ) (word : VitcWord) (lines : List (List ℕ)) (said : List Said)
    → AreSaid system n lines said → AllAre word (words_of said)
    → AllByRecursion (IsLineOfOrAtFault system n word) lines
same_said laws system n word [] said are all = tt
same_said laws system n word (line ∷ lines) [] are all = absurd are
same_said laws system n word (line ∷ lines) (Ok w ∷ said) are all = (
  inl (subst (λ (v : VitcWord). IsLineOf system n v line) all.0 (line_said laws system n line w are.0)),
  same_said laws system n word lines said are.1 all.1,
)
same_said laws system n word (line ∷ lines) (Err fault ∷ said) are all =
    (inr (fault, are.0), same_said laws system n word lines said are.1 all)

-- up to the line that says the first word
record UpTo (system : System) (n : ℕ) (word : VitcWord) (more : List VitcWord) (lines : List (List ℕ)) : Type 0 where
  pub before : List (List ℕ)
  pub line : List ℕ
  pub after : List (List ℕ)
  pub are : lines ≡ before ++ (line ∷ after)
  pub faults : AllByRecursion (IsAtFault system n) before
  pub line_is : IsLineOf system n word line
  pub rest : List Said
  pub rest_are : AreSaid system n after rest
  pub words : words_of rest ≡ more

first_said : LineLaws → (system : System) (n : ℕ) (word : VitcWord) (more : List VitcWord) (lines : List (List ℕ))
    (said : List Said) → AreSaid system n lines said → words_of said ≡ word ∷ more → UpTo system n word more lines
first_said laws system n word more [] [] are first = absurd cc
first_said laws system n word more [] (s ∷ said) are first = absurd are
first_said laws system n word more (line ∷ lines) [] are first = absurd are
first_said laws system n word more (line ∷ lines) (Ok w ∷ said) are first =
    let same : w ≡ word = cc in
    record {
      before = [];
      line = line;
      after = lines;
      are = refl;
      faults = tt;
      line_is = subst (λ (v : VitcWord). IsLineOf system n v line) same (line_said laws system n line w are.0);
      rest = said;
      rest_are = are.1;
      words = cc;
    }
first_said laws system n word more (line ∷ lines) (Err fault ∷ said) are first =
    let up = first_said laws system n word more lines said are.1 first in
    record {
      before = line ∷ up.before;
      line = up.line;
      after = up.after;
      are = ap (λ (l : List (List ℕ)). line ∷ l) up.are;
      faults = ((fault, are.0), up.faults);
      line_is = up.line_is;
      rest = up.rest;
      rest_are = up.rest_are;
      words = up.words;
    }

at_fault_too : (system : System) (n : ℕ) (word : VitcWord) (lines : List (List ℕ))
    → AllByRecursion (IsAtFault system n) lines → AllByRecursion (IsLineOfOrAtFault system n word) lines
at_fault_too system n word [] all = tt
at_fault_too system n word (line ∷ lines) all = (inr all.0, at_fault_too system n word lines all.1)

joined : (P : List ℕ → Type 0) (a b : List (List ℕ)) → AllByRecursion P a → AllByRecursion P b
    → AllByRecursion P (a ++ b)
joined P [] b all more = more
joined P (line ∷ a) b all more = (all.0, joined P a b all.1 more)

-- up to the line that says the first other word
record UpToOther (system : System) (n : ℕ) (word other : VitcWord) (lines : List (List ℕ)) : Type 0 where
  pub between : List (List ℕ)
  pub second : List ℕ
  pub after : List (List ℕ)
  pub are : lines ≡ between ++ (second ∷ after)
  pub same : AllByRecursion (IsLineOfOrAtFault system n word) between
  pub second_is : IsLineOf system n other second

other_said : LineLaws → (system : System) (n : ℕ) (word other : VitcWord) (same more : List VitcWord)
    (lines : List (List ℕ)) (said : List Said) → AreSaid system n lines said → words_of said ≡ same ++ other ∷ more
    → AllAre word same → UpToOther system n word other lines
other_said laws system n word other [] more lines said are words all =
    let up = first_said laws system n other more lines said are words in
    record {
      between = up.before;
      second = up.line;
      after = up.after;
      are = up.are;
      same = at_fault_too system n word up.before up.faults;
      second_is = up.line_is;
    }
other_said laws system n word other (w ∷ same) more lines said are words all =
    let up = first_said laws system n w (same ++ other ∷ more) lines said are words in
    let next = other_said laws system n word other same more up.after up.rest up.rest_are up.words all.1 in
    let line_is = subst (λ (v : VitcWord). IsLineOf system n v up.line) all.0 up.line_is in
    record {
      between = up.before ++ (up.line ∷ next.between);
      second = next.second;
      after = next.after;
      are = up.are ∙ ap (λ (l : List (List ℕ)). up.before ++ (up.line ∷ l)) next.are
          ∙ sym (append_assoc up.before (up.line ∷ next.between) (next.second ∷ next.after));
      second_is = next.second_is;
      same = joined (IsLineOfOrAtFault system n word) up.before (up.line ∷ next.between)
          (at_fault_too system n word up.before up.faults) (inl line_is, next.same);
    }

says_by : LineLaws → (system : System) (n : ℕ) (lines : List (List ℕ)) (said : List Said) → AreSaid system n lines said
    → (answer : FieldAnswer) → IsAnswerTo said answer → SaysOf system n lines answer
says_by laws system n [] said are NoLine is = refl
says_by laws system n (line ∷ lines) [] are NoLine is = absurd are
says_by laws system n (line ∷ lines) (s ∷ said) are NoLine is = absurd cc
says_by laws system n [] said are (Nothing fault) is = absurd (no_line said are is.0 is.1)
  where
    no_line : (said : List Said) → AreSaid system n [] said → (more : List Said) → said ≡ Err fault ∷ more → ⊥
    no_line [] are more e = absurd cc
    no_line (s ∷ said) are more e = are
says_by laws system n (line ∷ lines) [] are (Nothing fault) is = absurd are
says_by laws system n (line ∷ lines) (Ok word ∷ said) are (Nothing fault) is = absurd cc
says_by laws system n (line ∷ lines) (Err f ∷ said) are (Nothing fault) is =
    let same : f ≡ fault = cc in
    record {
      first = line;
      more = lines;
      are = refl;
      fault_is = subst (λ (g : ReadFault). IsSaid system n line (Err g)) same are.0;
      faults = none_said system n lines said are.1 is.2;
    }
says_by laws system n lines said are (Agreed word) is =
    let up = first_said laws system n word is.0 lines said are is.1 in
    record {
      before = up.before;
      line = up.line;
      after = up.after;
      are = up.are;
      line_is = up.line_is;
      others_before = at_fault_too system n word up.before up.faults;
      others_after = same_said laws system n word up.after up.rest up.rest_are
          (subst (λ (ws : List VitcWord). AllAre word ws) (sym up.words) is.2);
    }
says_by laws system n lines said are (Conflict word other) is =
    let up = first_said laws system n word (is.0 ++ other ∷ is.1) lines said are is.2 in
    let next = other_said laws system n word other is.0 is.1 up.after up.rest up.rest_are up.words is.3 in
    record {
      before = up.before;
      first = up.line;
      between = next.between;
      second = next.second;
      after = next.after;
      are = up.are ∙ ap (λ (l : List (List ℕ)). up.before ++ (up.line ∷ l)) next.are;
      faults = up.faults;
      first_is = up.line_is;
      same = next.same;
      second_is = next.second_is;
      differ = is.4;
    }

pub says : LineLaws → (system : System) (n : ℕ) (lines : List (List ℕ)) (answer : FieldAnswer)
    → IsAnswer system n lines answer → SaysOf system n lines answer
says laws system n lines answer is = says_by laws system n lines is.0 is.1 answer is.2
