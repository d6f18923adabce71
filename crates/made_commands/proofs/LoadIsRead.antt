-- What a load run makes is read: its cells are a chain, each near the one before and its halves near each other, and
-- their bits are those of the lock and of
-- the words.
use Rattle.std.proofs.Common.{◌≡◌, ℕ, zero, suc, ◌+◌, ◌^◌, ◌<◌, Bool, true, false, List, [], ◌∷◌, ◌++◌, length, take}
use Rattle.std.proofs.Common.{drop, refl, sym, ◌∙◌, ap₂}
use Rattle.std.proofs.Common.{subst, arith, count_by, cond}
use Rattle.std.specs.Prelude.{pos}
use Rattle.std.proofs.lemmas.List.{map-append}
use Rattle.std.proofs.lemmas.List.Sums.{sum_by-cons}
use Rattle.biphase.specs.declared.cell.Cell.{Cell}
use Rattle.biphase.specs.declared.profile.Profile.TheVariants.{Normal}
use Rattle.biphase.specs.Tolerance.{length_of}
use Rattle.biphase.specs.Chain.{IsCell, IsChain, IsChainAfter, IsNear, bit_of, bits}
use Rattle.direction_reader.specs.declared.event.Event.{Event}
use Rattle.direction_reader.specs.declared.event.Event.TheVariants.{Word}
use Rattle.direction_reader.specs.Events.{is_lost, is_refused, is_word}
use Rattle.direction_reader.specs.ListEvents.{duration}
use Rattle.direction_reader.specs.Played.{AreSpelled, Played, bits_of_words, events_of_words}
use Rattle.ltc_word.specs.declared.word.LtcWord.{LtcWord}
use Rattle.ltc_word.specs.Spelled.{spelling_of}
use Rattle.ltc_word.specs.Spelling.{Spells}
use Rattle.tc_address.specs.declared.count.Count.{Count}
use Rattle.tc_address.specs.declared.count.Count.TheVariants.{C25}
use Rattle.tc_address.specs.declared.system.System.TheVariants.{F25}
use Rattle.tc_address.specs.Count.{system_with}
use Rattle.tc_address.specs.Label.{Address, IsLabel}
use Rattle.tc_address.specs.Numbering.{step}
use Rattle.tc_bits.specs.Fields.{IsFields}
use Rattle.tc_job.specs.LoadRun.{Loading}
use Rattle.made_commands.specs.declared.chance.Chance.{Chance}
use Rattle.made_commands.specs.Load.{IsAllRead, IsChance, begun, behind, cell_of, cells_by, first_label, load_cells}
use Rattle.made_commands.specs.Load.{load_word, load_words, lock, next_bits}
use Rattle.made_commands.specs.Load.{load_text, one_cell, one_draw, word_cells_by, words_by}
use Rattle.made_commands.proofs.MadeIsRead.{StepsAreValid, WordsAreRead}

-- what the law of words says
abbrev pub EachIsSpelled : Type 0
EachIsSpelled = (word : LtcWord) → IsFields word.fields → word.fields.user < 2 ^ 32
    → Spells (system_with word.fields.label.count) word (spelling_of word)

-- ---- the cells are a chain

pub next_is : (g : Chance) → IsChance g → IsChance (one_cell g)
next_is g is = (omega arith, omega arith)

next_is_near : (g : Chance) → IsChance g → IsNear Normal g.length (one_cell g).length
next_is_near g is = let low = is.0 in let high = is.1 in omega arith

length_of_cell : (bit : Bool) (g : Chance) → IsChance g → length_of (cell_of bit g) ≡ g.length
length_of_cell true g is = let low = is.0 in omega arith
length_of_cell false g is = refl

is_cell : (bit : Bool) (g : Chance) → IsChance g → IsCell Normal (cell_of bit g)
is_cell true g is = let low = is.0 in (omega arith, omega arith, omega arith)
is_cell false g is = let low = is.0 in omega arith

behind_is : (list : List Bool) (g : Chance) → IsChance g → IsChance (behind g list)
behind_is [] g is = is
behind_is (bit ∷ more) g is = behind_is more (one_cell g) (next_is g is)

cells_chain : (list : List Bool) (g : Chance) (rest : List Cell) → IsChance g
    → IsChainAfter Normal (behind g list).length rest
    → IsChainAfter Normal g.length (cells_by g list ++ rest)
cells_chain [] g rest is chain = chain
cells_chain (bit ∷ more) g rest is chain =
    let next = next_is g is in
    let same = length_of_cell bit (one_cell g) next in
    let others = cells_chain more (one_cell g) rest next chain in (
      is_cell bit (one_cell g) next,
      subst (λ (n : ℕ). IsNear Normal g.length n) (sym same) (next_is_near g is),
      subst (λ (n : ℕ). IsChainAfter Normal n (cells_by (one_cell g) more ++ rest)) (sym same) others,
    )

word_cells_chain : (n : ℕ) (g : Chance) (label : Address) → IsChance g
    → IsChainAfter Normal g.length (word_cells_by g label n)
unfolding word_cells_by
word_cells_chain zero g label is = tt
word_cells_chain (suc n) g label is =
    let list = next_bits g label in
    let last = behind (one_draw g) list in
    cells_chain list (one_draw g) (word_cells_by last (step label (pos 1)) n) is
    (word_cells_chain n last (step label (pos 1)) (behind_is list (one_draw g) is))

chain_of : (c : ℕ) (cells : List Cell) → IsChainAfter Normal c cells → IsChain Normal cells
chain_of c [] is = tt
chain_of c (cell ∷ more) is = (is.0, is.2)

-- ---- their bits are those of the words

bit_of_cell : (bit : Bool) (g : Chance) → bit_of (cell_of bit g) ≡ bit
bit_of_cell true g = refl
bit_of_cell false g = refl

bits_of_cells : (list : List Bool) (g : Chance) → bits (cells_by g list) ≡ list
bits_of_cells [] g = refl
bits_of_cells (bit ∷ more) g = ap₂ (λ (b : Bool) (l : List Bool). b ∷ l) (bit_of_cell bit (one_cell g))
    (bits_of_cells more (one_cell g))

bits_of_word_cells : (n : ℕ) (g : Chance) (label : Address)
    → bits (word_cells_by g label n) ≡ bits_of_words (words_by g label n)
unfolding word_cells_by words_by
bits_of_word_cells zero g label = refl
bits_of_word_cells (suc n) g label =
    let list = next_bits g label in
    let last = behind (one_draw g) list in
    map-append bit_of (cells_by (one_draw g) list) (word_cells_by last (step label (pos 1)) n)
    ∙ ap₂ (λ (l r : List Bool). l ++ r) (bits_of_cells list (one_draw g))
    (bits_of_word_cells n last (step label (pos 1)))

-- ---- each word is spelled

word_spelled : EachIsSpelled → (label : Address) (value : ℕ) → IsLabel label → label.count ≡ C25 → value < 2 ^ 64
    → Spells F25 (load_word label value) (spelling_of (load_word label value))
word_spelled law label value valid is_25 below =
    let fields : IsFields (load_word label value).fields = record { label = valid; flag = rw is_25 refl } in
    let spells = law (load_word label value) fields (omega (arith, below)) in
    subst (λ (c : Count). Spells (system_with c) (load_word label value) (spelling_of (load_word label value))) is_25
    spells

words_spelled : StepsAreValid → EachIsSpelled → (n : ℕ) (g : Chance) (label : Address) → IsLabel label
    → label.count ≡ C25
    → AreSpelled F25 (words_by g label n)
unfolding words_by
words_spelled valid spelled zero g label is is_25 = tt
words_spelled valid spelled (suc n) g label is is_25 =
    let next = valid label (pos 1) is in (
      word_spelled spelled label _ is is_25 (omega arith),
      words_spelled valid spelled n (behind (one_draw g) (next_bits g label)) (step label (pos 1)) next.0
          (next.1 ∙ is_25),
    )

-- ---- as many as were asked

length-words_by : (n : ℕ) (g : Chance) (label : Address) → length (words_by g label n) ≡ n
unfolding words_by
length-words_by zero g label = refl
length-words_by (suc n) g label =
    let rest = length-words_by n (behind (one_draw g) (next_bits g label)) (step label (pos 1)) in
    omega (arith, rest)

-- the events of words are words
pub record AllWords (events : List Event) (count : ℕ) : Type 0 where
  pub words : count_by is_word events ≡ count
  pub refused : count_by is_refused events ≡ 0
  pub lost : count_by is_lost events ≡ 0

all_words : (words : List Played) (tick : ℕ) (cells : List Cell)
    → AllWords (events_of_words tick cells words) (length words)
unfolding events_of_words
all_words [] tick cells = record { words = refl; refused = refl; lost = refl }
all_words (p ∷ more) tick cells =
    let n = duration (take 80 cells) in
    let rest = all_words more (tick + n) (drop 80 cells) in
    let first = Word p.direction p.word (tick + n) n in
    let others = events_of_words (tick + n) (drop 80 cells) more in
    let one : count_by is_word (first ∷ others) ≡ 1 + count_by is_word others =
    sum_by-cons (λ (e : Event). cond (is_word e) 1 0) first others in
    record { words = (let w = rest.words in omega (arith, one, w)); refused = rest.refused; lost = rest.lost }

-- ---- all of it

load_chain : (l : Loading) → IsChain Normal (load_cells l)
load_chain l =
    let start : IsChance (begun l) = (omega arith, omega arith) in
    let last = behind (begun l) lock in
    let words = word_cells_chain l.words last (first_label l.seed) (behind_is lock (begun l) start) in
    chain_of 512 (load_cells l) (cells_chain lock (begun l) (word_cells_by last (first_label l.seed) l.words) start
    words)

load_bits : (l : Loading) → bits (load_cells l) ≡ false ∷ true ∷ bits_of_words (load_words l)
load_bits l =
    let last = behind (begun l) lock in
    map-append bit_of (cells_by (begun l) lock) (word_cells_by last (first_label l.seed) l.words)
    ∙ ap₂ (λ (a b : List Bool). a ++ b) (bits_of_cells lock (begun l))
    (bits_of_word_cells l.words last (first_label l.seed))

pub load_is_read : StepsAreValid → EachIsSpelled → WordsAreRead → (l : Loading) → IsLabel (first_label l.seed)
    → (first_label l.seed).count ≡ C25
    → IsAllRead l (load_text l)
load_is_read valid spelled read l label is_25 =
    let words = words_spelled valid spelled l.words (behind (begun l) lock) (first_label l.seed) label is_25 in
    let counts = all_words (load_words l) (duration (take 2 (load_cells l))) (drop 2 (load_cells l)) in
    record {
      line = refl;
      events = read F25 Normal (load_cells l) (load_words l) (load_chain l) (load_bits l) words;
      read = counts.words ∙ length-words_by l.words (behind (begun l) lock) (first_label l.seed);
      refused = counts.refused;
      lost = counts.lost;
    }
