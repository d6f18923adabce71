-- What says whose lines the lines of a field are is their answer.
use Rattle.std.proofs.Common.{◌≡◌, ℕ, ◌≤◌, List, [], ◌∷◌, ◌++◌, Result, Ok, Err, inl, inr, refl, sym, ap, ◌∙◌}
use Rattle.std.proofs.Common.{subst}
use Rattle.std.specs.List.{AllByRecursion}
use Rattle.tc_address.specs.declared.system.System.{System}
use Rattle.vitc_line.specs.declared.word.VitcWord.{VitcWord}
use Rattle.vitc_reader.specs.declared.fault.ReadFault.{ReadFault}
use Rattle.vitc_reader.specs.declared.field.FieldAnswer.{FieldAnswer}
use Rattle.vitc_reader.specs.declared.field.FieldAnswer.TheVariants.{NoLine, Agreed, Conflict, Nothing}
use Rattle.vitc_reader.specs.Agreement.{AgreeOn, AreFaulty, Differ, IsAtFault, IsLineOfOrAtFault, SaysOf}
use Rattle.vitc_reader.specs.Field.{AllAre, AreSaid, IsAnswer, words_of}
use Rattle.vitc_reader.proofs.AnswersExist.{SpellOrAreFaulty, lines_say}
use Rattle.vitc_reader.proofs.SaidLines.{LineLaws, said_line}

abbrev Said : Type 0
Said = Result VitcWord ReadFault

-- ---- one list behind another

AreSaid-append : (system : System) (n : ℕ) (a b : List (List ℕ)) (sa sb : List Said) → AreSaid system n a sa
    → AreSaid system n b sb → AreSaid system n (a ++ b) (sa ++ sb)
AreSaid-append system n [] b [] sb are more = more
AreSaid-append system n [] b (s ∷ sa) sb are more = absurd are
AreSaid-append system n (line ∷ a) b [] sb are more = absurd are
AreSaid-append system n (line ∷ a) b (s ∷ sa) sb are more = (are.0, AreSaid-append system n a b sa sb are.1 more)

words-append : (a b : List Said) → words_of (a ++ b) ≡ words_of a ++ words_of b
words-append [] b = refl
words-append (Ok word ∷ a) b = ap (λ (ws : List VitcWord). word ∷ ws) (words-append a b)
words-append (Err fault ∷ a) b = words-append a b

AllAre-append : (word : VitcWord) (a b : List VitcWord) → AllAre word a → AllAre word b → AllAre word (a ++ b)
AllAre-append word [] b all more = more
AllAre-append word (w ∷ a) b all more = (all.0, AllAre-append word a b all.1 more)

-- words that are all this one begin with it
all_first : (word : VitcWord) (a b : List VitcWord) → AllAre word a → AllAre word b
    → (more : List VitcWord) × (a ++ word ∷ b ≡ word ∷ more) × AllAre word more
all_first word [] b all rest = (b, refl, rest)
all_first word (w ∷ a) b all rest = (
  a ++ word ∷ b,
  ap (λ (v : VitcWord). v ∷ (a ++ word ∷ b)) all.0,
  AllAre-append word a (word ∷ b) all.1
      (refl, rest),
)

-- ---- what lines say

faults_say : (system : System) (n : ℕ) (lines : List (List ℕ)) → AllByRecursion (IsAtFault system n) lines
    → (said : List Said) × AreSaid system n lines said × (words_of said ≡ [])
faults_say system n [] all = ([], tt, refl)
faults_say system n (line ∷ lines) all =
    let more = faults_say system n lines all.1 in
    (Err all.0.0 ∷ more.0, (all.0.1, more.1), more.2)

same_say : LineLaws → (system : System) (n : ℕ) (word : VitcWord) (lines : List (List ℕ))
    → AllByRecursion (IsLineOfOrAtFault system n word) lines
    → (said : List Said) × AreSaid system n lines said × AllAre word (words_of said)
same_say laws system n word [] all = ([], tt, tt)
same_say laws system n word (line ∷ lines) all =
    let more = same_say laws system n word lines all.1 in
    elim (all.0) [
      | inl is ↦ (Ok word ∷ more.0, (said_line laws system n line word is, more.1), (refl, more.2))
      | inr fault ↦ (Err fault.0 ∷ more.0, (fault.1, more.1), more.2)
    ]

-- ---- the answer to it

agreed : LineLaws → (system : System) (n : ℕ) (word : VitcWord) (lines : List (List ℕ)) → AgreeOn system n word lines
    → IsAnswer system n lines (Agreed word)
agreed laws system n word lines is =
    let before = same_say laws system n word is.before is.others_before in
    let after = same_say laws system n word is.after is.others_after in
    let line = said_line laws system n is.line word is.line_is in
    let first = all_first word (words_of before.0) (words_of after.0) before.2 after.2 in
    subst (λ (l : List (List ℕ)). IsAnswer system n l (Agreed word)) (sym is.are) (
      before.0 ++ Ok word ∷ after.0,
      AreSaid-append system n is.before (is.line ∷ is.after) before.0 (Ok word ∷ after.0) before.1 (line, after.1),
      (first.0, words-append before.0 (Ok word ∷ after.0) ∙ first.1, first.2),
    )

differing : LineLaws → SpellOrAreFaulty → (system : System) (n : ℕ) → 1 ≤ n → (word other : VitcWord)
    (lines : List (List ℕ)) → Differ system n word other lines → IsAnswer system n lines (Conflict word other)
differing laws spell system n some word other lines is =
    let before = faults_say system n is.before is.faults in
    let between = same_say laws system n word is.between is.same in
    let after = lines_say spell system n is.after some in
    let first = said_line laws system n is.first word is.first_is in
    let second = said_line laws system n is.second other is.second_is in
    let behind = between.0 ++ Ok other ∷ after.0 in
    let behind_are = AreSaid-append system n is.between (is.second ∷ is.after) between.0 (Ok other ∷ after.0) between.1
    (second, after.1) in
    subst (λ (l : List (List ℕ)). IsAnswer system n l (Conflict word other)) (sym is.are) (
      before.0 ++ Ok word ∷ behind,
      AreSaid-append system n is.before (is.first ∷ (is.between ++ (is.second ∷ is.after))) before.0 (Ok word ∷ behind)
          before.1 (first, behind_are),
      (
        words_of between.0,
        words_of after.0,
        words-append before.0 (Ok word ∷ behind) ∙ ap (λ (ws : List VitcWord). ws ++ word ∷ words_of behind) before.2
            ∙ ap (λ (ws : List VitcWord). word ∷ ws) (words-append between.0 (Ok other ∷ after.0)),
        between.2,
        is.differ,
      ),
    )

faulty : (system : System) (n : ℕ) (fault : ReadFault) (lines : List (List ℕ)) → AreFaulty system n fault lines
    → IsAnswer system n lines (Nothing fault)
faulty system n fault lines is =
    let more = faults_say system n is.more is.faults in
    subst (λ (l : List (List ℕ)). IsAnswer system n l (Nothing fault)) (sym is.are)
    (Err fault ∷ more.0, (is.fault_is, more.1), (more.0, refl, more.2))

pub answers : LineLaws → SpellOrAreFaulty → (system : System) (n : ℕ) → 1 ≤ n → (lines : List (List ℕ))
    (answer : FieldAnswer) → SaysOf system n lines answer → IsAnswer system n lines answer
answers laws spell system n some lines NoLine is = subst (λ (l : List (List ℕ)). IsAnswer system n l NoLine) (sym is)
    ([], tt, refl)
answers laws spell system n some lines (Agreed word) is = agreed laws system n word lines is
answers laws spell system n some lines (Conflict word other) is =
    differing laws spell system n some word other lines is
answers laws spell system n some lines (Nothing fault) is = faulty system n fault lines is
