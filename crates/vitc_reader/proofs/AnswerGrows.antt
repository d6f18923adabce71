-- One line more adds its word, if it says one, at the end of the words. So the answer needs no line but the
-- last one and the answer before it.
use Rattle.std.proofs.Common.{◌≡◌, ℕ, List, [], ◌∷◌, ◌++◌, Result, Ok, Err, refl, sym, ap, ◌∙◌}
use Rattle.std.specs.Prelude.{◌≢◌}
use Rattle.tc_address.specs.declared.system.System.{System}
use Rattle.vitc_line.specs.declared.word.VitcWord.{VitcWord}
use Rattle.vitc_reader.specs.declared.fault.ReadFault.{ReadFault}
use Rattle.vitc_reader.specs.declared.field.FieldAnswer.{FieldAnswer}
use Rattle.vitc_reader.specs.declared.field.FieldAnswer.TheVariants.{NoLine, Agreed, Conflict, Nothing}
use Rattle.vitc_reader.specs.Field.{IsSaid, AreSaid, words_of, AllAre, IsAnswerTo, FieldState, StandsFor}

abbrev Said : Type 0
Said = Result VitcWord ReadFault

-- what the lines say, with one line more
pub AreSaid-last : (system : System) (n : ℕ) (lines : List (List ℕ)) (said : List Said) (line : List ℕ) (s : Said)
    → AreSaid system n lines said → IsSaid system n line s → AreSaid system n (lines ++ line ∷ []) (said ++ s ∷ [])
AreSaid-last system n [] [] line s are is = (is, tt)
AreSaid-last system n [] (t ∷ said) line s are is = absurd are
AreSaid-last system n (l ∷ lines) [] line s are is = absurd are
AreSaid-last system n (l ∷ lines) (t ∷ said) line s are is = (are.0, AreSaid-last system n lines said line s are.1 is)

words_with : (said : List Said) (word : VitcWord) → words_of (said ++ Ok word ∷ []) ≡ words_of said ++ word ∷ []
words_with [] word = refl
words_with (Ok w ∷ said) word = ap (λ (words : List VitcWord). w ∷ words) (words_with said word)
words_with (Err fault ∷ said) word = words_with said word

words_without : (said : List Said) (fault : ReadFault) → words_of (said ++ Err fault ∷ []) ≡ words_of said
words_without [] fault = refl
words_without (Ok w ∷ said) fault = ap (λ (words : List VitcWord). w ∷ words) (words_without said fault)
words_without (Err f ∷ said) fault = words_without said fault

AllAre-last : (word : VitcWord) (words : List VitcWord) (w : VitcWord) → AllAre word words → w ≡ word
    → AllAre word (words ++ w ∷ [])
AllAre-last word [] w all e = (e, tt)
AllAre-last word (v ∷ words) w all e = (all.0, AllAre-last word words w all.1 e)

append_assoc' : (same more last : List VitcWord) (other : VitcWord) → (same ++ other ∷ more) ++ last ≡ same ++ other
    ∷ (more ++ last)
append_assoc' [] more last other = refl
append_assoc' (w ∷ same) more last other = ap (λ (words : List VitcWord). w ∷ words)
    (append_assoc' same more last other)

-- the first word after lines that said none
pub first_word : (before : List Said) (fault : ReadFault) (word : VitcWord)
    → IsAnswerTo before (Nothing fault) → IsAnswerTo (before ++ Ok word ∷ []) (Agreed word)
first_word before fault word a =
    ([], words_with before word ∙ ap (λ (words : List VitcWord). words ++ word ∷ []) a.2, tt)

-- no word again
pub no_word : (before : List Said) (fault next : ReadFault) → IsAnswerTo before (Nothing fault)
    → IsAnswerTo (before ++ Err next ∷ []) (Nothing fault)
no_word before fault next a =
    (a.0 ++ Err next ∷ [], ap (λ (said : List Said). said ++ Err next ∷ []) a.1, words_without before next ∙ a.2)

-- the same word again
pub same_word : (before : List Said) (first word : VitcWord) → word ≡ first
    → IsAnswerTo before (Agreed first) → IsAnswerTo (before ++ Ok word ∷ []) (Agreed first)
same_word before first word e a = (
  a.0 ++ word ∷ [],
  words_with before word ∙ ap (λ (words : List VitcWord). words ++ word ∷ []) a.1,
  AllAre-last first a.0 word a.2 e,
)

pub agreed_still : (before : List Said) (first : VitcWord) (fault : ReadFault)
    → IsAnswerTo before (Agreed first) → IsAnswerTo (before ++ Err fault ∷ []) (Agreed first)
agreed_still before first fault a = (a.0, words_without before fault ∙ a.1, a.2)

-- the first word that differs
pub other_word : (before : List Said) (first word : VitcWord) → word ≢ first
    → IsAnswerTo before (Agreed first) → IsAnswerTo (before ++ Ok word ∷ []) (Conflict first word)
other_word before first word differs a =
    (a.0, [], words_with before word ∙ ap (λ (words : List VitcWord). words ++ word ∷ []) a.1, a.2, differs)

-- a conflict stays
conflict_with : (before : List Said) (first other word : VitcWord) → IsAnswerTo before (Conflict first other)
    → IsAnswerTo (before ++ Ok word ∷ []) (Conflict first other)
conflict_with before first other word a = (
  a.0,
  a.1 ++ word ∷ [],
  words_with before word ∙ ap (λ (words : List VitcWord). words ++ word ∷ []) a.2
      ∙ ap (λ (words : List VitcWord). first ∷ words) (append_assoc' a.0 a.1 (word ∷ []) other),
  a.3,
  a.4,
)

conflict_still : (before : List Said) (first other : VitcWord) (fault : ReadFault)
    → IsAnswerTo before (Conflict first other)
    → IsAnswerTo (before ++ Err fault ∷ []) (Conflict first other)
conflict_still before first other fault a = (a.0, a.1, words_without before fault ∙ a.2, a.3, a.4)

pub conflict_whatever : (before : List Said) (first other : VitcWord) (said : Said)
    → IsAnswerTo before (Conflict first other)
    → IsAnswerTo (before ++ said ∷ []) (Conflict first other)
conflict_whatever before first other (Ok word) a = conflict_with before first other word a
conflict_whatever before first other (Err fault) a = conflict_still before first other fault a

-- ---- the last line again

-- what the last line says is the last that is said
last_said : (system : System) (n : ℕ) (lines : List (List ℕ)) (line : List ℕ) (said : List Said)
    → AreSaid system n (lines ++ line ∷ []) said
    → (before : List Said) × (s : Said) × (said ≡ before ++ s ∷ []) × IsSaid system n line s
last_said system n [] line [] are = absurd are
last_said system n [] line (s ∷ []) are = ([], s, refl, are.0)
last_said system n [] line (s ∷ t ∷ said) are = absurd are.1
last_said system n (l ∷ lines) line [] are = absurd are
last_said system n (l ∷ lines) line (t ∷ said) are =
    let r = last_said system n lines line said are.1 in
    (t ∷ r.0, r.1, ap (λ (all : List Said). t ∷ all) r.2, r.3)

all_to_last : (first : VitcWord) (words : List VitcWord) (word : VitcWord) → AllAre first (words ++ word ∷ [])
    → word ≡ first
all_to_last first [] word all = all.0
all_to_last first (w ∷ words) word all = all_to_last first words word all.1

-- the last of some words that are all the first one
last_is_first : (words more : List VitcWord) (word first : VitcWord) → words ++ word ∷ [] ≡ first ∷ more
    → AllAre first more → word ≡ first
last_is_first [] more word first e all = cc
last_is_first (w ∷ words) more word first e all = let rest : more ≡ words ++ word ∷ [] = cc in
    all_to_last first words word (rw rest at all)

some_word : (words : List VitcWord) (word : VitcWord) → words ++ word ∷ [] ≡ [] → ⊥
some_word [] word e = absurd cc
some_word (w ∷ words) word e = absurd cc

-- what is said again changes no answer
again : (before : List Said) (s : Said) (answer : FieldAnswer) → IsAnswerTo (before ++ s ∷ []) answer
    → IsAnswerTo ((before ++ s ∷ []) ++ s ∷ []) answer
again [] s NoLine a = absurd cc
again (t ∷ before) s NoLine a = absurd cc
again before (Ok word) (Nothing fault) a =
    absurd (some_word (words_of before) word (sym (words_with before word) ∙ a.2))
again before (Err next) (Nothing fault) a = no_word (before ++ Err next ∷ []) fault next a
again before (Ok word) (Agreed first) a =
    same_word (before ++ Ok word ∷ []) first word
    (last_is_first (words_of before) a.0 word first (sym (words_with before word) ∙ a.1) a.2) a
again before (Err next) (Agreed first) a = agreed_still (before ++ Err next ∷ []) first next a
again before s (Conflict first other) a = conflict_whatever (before ++ s ∷ []) first other s a

pub line_again : (reader : FieldState) (lines : List (List ℕ)) (line : List ℕ) → StandsFor reader (lines ++ line ∷ [])
    → StandsFor reader ((lines ++ line ∷ []) ++ line ∷ [])
line_again reader lines line stands =
    let last = last_said reader.system reader.length lines line stands.0 stands.1 in (
      stands.0 ++ last.1 ∷ [],
      AreSaid-last reader.system reader.length (lines ++ line ∷ []) stands.0 line last.1 stands.1 last.3,
      rw (← last.2) at (again last.0 last.1 reader.answer (rw last.2 at stands.2)),
    )
