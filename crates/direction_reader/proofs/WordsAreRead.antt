-- In cells that have the bits of words, the windows that are words are candidates, and no others are.
use Rattle.std.proofs.Common.{◌≡◌, ℕ, zero, suc, ◌+◌, ◌-◌, ◌*◌, ◌^◌, ◌<◌, Bool, true, false, List, [], ◌∷◌, ◌++◌}
use Rattle.std.proofs.Common.{length, take, drop, map}
use Rattle.std.proofs.Common.{refl, sym, ap, ap₂, ◌∙◌, subst, append-nil, arith}
use Rattle.std.specs.List.{range_with_len}
use Rattle.std.proofs.lemmas.List.{take-map, take_at, drop-drop, drop-map, drop_at, length-map}
use Rattle.std.proofs.Math.Seq.{take-add}
use Rattle.biphase.specs.declared.cell.Cell.{Cell}
use Rattle.biphase.specs.declared.profile.Profile.{Profile}
use Rattle.biphase.specs.Chain.{bit_of, bits, flat, FollowOn, IsChain}
use Rattle.cell_tracker.specs.Lock.{IsLock}
use Rattle.cell_tracker.specs.Stretch.{AreStretches}
use Rattle.ltc_word.specs.declared.word.LtcWord.{LtcWord}
use Rattle.ltc_word.specs.Reversal.{reversed_bits, EndsInSync}
use Rattle.ltc_word.specs.Spelled.{spelling_of}
use Rattle.ltc_word.specs.Spelling.{Spells}
use Rattle.tc_address.specs.declared.direction.Direction.{Direction}
use Rattle.tc_address.specs.declared.direction.Direction.TheVariants.{Forward, Backward}
use Rattle.tc_address.specs.declared.system.System.{System}
use Rattle.direction_reader.specs.declared.event.Event.{Event}
use Rattle.direction_reader.specs.declared.event.Event.TheVariants.{Word}
use Rattle.direction_reader.specs.Candidate.{AreEventsOf}
use Rattle.direction_reader.specs.Events.{no_events, one_event}
use Rattle.direction_reader.specs.Gathered.{AreEventsOfWindows, AreGathered}
use Rattle.direction_reader.specs.Windows.{number_of, window_at, windows}
use Rattle.direction_reader.specs.ListEvents.{duration}
use Rattle.direction_reader.specs.Played.{Played, AreSpelled, bits_of_words, events_of_words, in_time, low_bits}
use Rattle.direction_reader.specs.Played.{played_bits}
use Rattle.direction_reader.proofs.ChainIsAStretch.{AreAsSaid, whole, whole_from, whole_is}
use Rattle.direction_reader.proofs.SyncInTime.{WordLaws, Starts}
use Rattle.direction_reader.proofs.SyncOverWords.{led, lead_backward, lead_forward, no_other_way}
use Rattle.direction_reader.specs.PlayedLemmas.{length-low_bits, length-bits_of_words}
use Rattle.direction_reader.proofs.SyncOverWords.{no_way_forward, quiet_backward, quiet_forward}
use Rattle.direction_reader.proofs.SyncInTime.{number-low_bits, plays}
use Rattle.direction_reader.proofs.SyncOverWords.{starts_with}
use Rattle.direction_reader.proofs.SyncInTime.{window_bits}
use Rattle.direction_reader.specs.PlayedLemmas.{duration-append}

-- ---- one window

no_candidate : (system : System) (n end len : ℕ) → (EndsInSync n → ⊥) → (EndsInSync (reversed_bits n) → ⊥)
    → AreEventsOf system n end len no_events
no_candidate system n end len forward backward = record {
  forward = λ s. absurd (forward s);
  backward = λ s _. absurd (backward s);
  both = λ s _. absurd (forward s);
  one = λ _ _. refl;
  none = λ _ _. (refl, refl);
}

forward_word : (system : System) (word : LtcWord) (n end len : ℕ) → Spells system word n
    → (EndsInSync (reversed_bits n) → ⊥)
    → AreEventsOf system n end len (one_event (Word Forward word end len))
forward_word system word n end len s backward = record {
  forward = λ _. (refl, s, refl, refl);
  backward = λ b _. absurd (backward b);
  both = λ _ b. absurd (backward b);
  one = λ _ _. refl;
  none = λ f _. absurd (f s.sync);
}

backward_word : WordLaws → (system : System) (word : LtcWord) (n end len : ℕ) → Spells system word n
    → (EndsInSync (reversed_bits n) → ⊥)
    → AreEventsOf system (reversed_bits n) end len (one_event (Word Backward word end len))
backward_word laws system word n end len s forward =
    let back = laws.twice n s.width in
    record {
      forward = λ f. absurd (forward f);
      backward = λ _ _. ((refl, rw back s, refl, refl), refl);
      both = λ f _. absurd (forward f);
      one = λ f _. absurd (forward f);
      none = λ _ b. absurd (b (rw back s.sync));
    }

first_window : (w r : List Bool) → length w ≡ 80 → window_bits (w ++ r) 0 ≡ number_of w
first_window w r count = ap number_of (take_at w r 80 count)

width_in_time : WordLaws → (d : Direction) (n : ℕ) → n < 2 ^ 80 → in_time d n < 2 ^ 80
width_in_time laws Forward n lt = lt
width_in_time laws Backward n lt = laws.width n

pub window_is : WordLaws → (d : Direction) (n : ℕ) (r : List Bool) → n < 2 ^ 80
    → window_bits (low_bits 80 (in_time d n) ++ r) 0 ≡ in_time d n
window_is laws d n r lt =
    first_window (low_bits 80 (in_time d n)) r (length-low_bits 80 (in_time d n))
    ∙ number-low_bits 80 (in_time d n) (width_in_time laws d n lt)

-- the window of a word that is played is that word, and nothing else
word_read : WordLaws → (d : Direction) (system : System) (word : LtcWord) (n : ℕ) (r : List Bool) (end len : ℕ)
    → Spells system word n → Starts r
    → AreEventsOf system (window_bits (low_bits 80 (in_time d n) ++ r) 0) end len (one_event (Word d word end len))
word_read laws Forward system word n r end len s starts =
    let same = window_is laws Forward n r s.width in
    let other = rw same at (no_other_way laws (low_bits 80 n) r (plays laws Forward system word n s) starts) in
    rw same (forward_word system word n end len s other)
word_read laws Backward system word n r end len s starts =
    let same = window_is laws Backward n r s.width in
    let other = rw same at (no_way_forward (low_bits 80 (reversed_bits n)) r
    (plays laws Backward system word n s) starts) in
    rw same (backward_word laws system word n end len s other)

-- ---- windows by their places

-- the bits of a window, from the bits of the cells from a place on
window_there : (cells : List Cell) (p i : ℕ) (list : List Bool) → bits (drop p cells) ≡ list
    → number_of (bits (take 80 (drop (p + i) cells))) ≡ window_bits list i
window_there cells p i list e =
    ap (λ (l : List Cell). number_of (bits (take 80 l))) (sym (drop-drop i p cells))
    ∙ ap number_of (sym (take-map bit_of 80 (drop i (drop p cells))))
    ∙ ap (λ (l : List Bool). number_of (take 80 l)) (sym (drop-map bit_of i (drop p cells)))
    ∙ ap (λ (l : List Bool). number_of (take 80 (drop i l))) e

-- no candidate
pub record IsQuiet (n : ℕ) : Type 0 where
  pub forward : EndsInSync n → ⊥
  pub backward : EndsInSync (reversed_bits n) → ⊥

abbrev number_at : List Cell → ℕ → ℕ
number_at cells k = number_of (bits (take 80 (drop k cells)))

abbrev AreFrom : System → List Cell → ℕ → ℕ → List Event → Type 0
AreFrom system cells p n events = AreEventsOfWindows system (map (window_at 0 cells) (range_with_len p n)) events

-- some windows that are no candidates, and others behind them
quiet_then : (system : System) (cells : List Cell) (p n m : ℕ) (events : List Event)
    → ((i : ℕ) → i < n → IsQuiet (number_at cells (p + i)))
    → AreFrom system cells (p + n) m events → AreFrom system cells p (n + m) events
quiet_then system cells p zero m events quiet rest =
    let e : p + zero ≡ p = omega arith in
    let f : zero + m ≡ m = omega arith in
    let here : AreFrom system cells p m events = rw e at rest in
    rw f here
quiet_then system cells p (suc n) m events quiet rest =
    let e : p + suc n ≡ p + 1 + n = omega arith in
    let f : suc n + m ≡ suc (n + m) = omega arith in
    let more : AreFrom system cells (p + 1 + n) m events = rw e at rest in
    let later : (i : ℕ) → i < n → IsQuiet (number_at cells (p + 1 + i)) =
    λ i lt. let g : p + suc i ≡ p + 1 + i = omega arith in rw g at (quiet (suc i) (omega arith)) in
    let none = let g : p + 0 ≡ p = omega arith in rw g at (quiet 0 (omega arith)) in
    let all : AreFrom system cells p (suc (n + m)) events = (
      no_events,
      events,
      no_candidate system (number_at cells p) _ _ none.forward none.backward,
      quiet_then system cells
          (p + 1) n m events later more,
      refl,
    ) in
    rw f all

-- ---- all windows

starts_nothing : Starts []
starts_nothing a b c d = absurd cc

pub starts_words : WordLaws → (system : System) (words : List Played) → AreSpelled system words
    → Starts (bits_of_words words)
starts_words laws system [] spelled = starts_nothing
starts_words laws system (w ∷ more) spelled =
    starts_with w.direction (played_bits w) (bits_of_words more)
    (plays laws w.direction system w.word (spelling_of w.word) spelled.0)

end_is : (cells : List Cell) (p : ℕ) → 0 + duration (take (p + 80) cells)
    ≡ duration (take p cells) + duration (take 80 (drop p cells))
end_is cells p =
    let e : duration (take (p + 80) cells) ≡ duration (take p cells) + duration (take 80 (drop p cells)) =
    ap duration (take-add p 80 cells) ∙ duration-append (take p cells) (take 80 (drop p cells)) in
    omega arith

-- the window of the word that is played from place p on
word_at : WordLaws → (system : System) (cells : List Cell) (w : Played) (more : List Played) (p : ℕ)
    → bits (drop p cells) ≡ bits_of_words (w ∷ more)
    → AreSpelled system (w ∷ more)
    → let len = duration (take 80 (drop p cells)) in
    AreEventsOf system (number_at cells p) (0 + duration (take (p + 80) cells)) len
    (one_event (Word w.direction w.word (duration (take p cells) + len) len))
word_at laws system cells w more p are spelled =
    let len = duration (take 80 (drop p cells)) in
    let g : p + 0 ≡ p = omega arith in
    let there : number_at cells p ≡ window_bits (played_bits w ++ bits_of_words more) 0 =
    rw g at (window_there cells p 0 (bits_of_words (w ∷ more)) are) in
    let read = word_read laws w.direction system w.word (spelling_of w.word) (bits_of_words more)
    (duration (take p cells) + len) len spelled.0
    (starts_words laws system more spelled.1) in
    rw (there, end_is cells p) read

next_are : (cells : List Cell) (w : Played) (more : List Played) (p : ℕ)
    → bits (drop p cells) ≡ bits_of_words (w ∷ more)
    → bits (drop (p + 80) cells) ≡ bits_of_words more
next_are cells w more p are =
    ap (λ (l : List Cell). bits l) (sym (drop-drop 80 p cells)) ∙ sym (drop-map bit_of 80 (drop p cells))
    ∙ ap (λ (l : List Bool). drop 80 l) are
    ∙ drop_at (played_bits w) (bits_of_words more) 80 (length-low_bits 80 _)

-- the windows between two words
between : WordLaws → (system : System) (cells : List Cell) (w v : Played) (more : List Played) (p : ℕ)
    → bits (drop p cells) ≡ bits_of_words (w ∷ v ∷ more)
    → AreSpelled system (w ∷ v ∷ more) → (i : ℕ) → i < 79 → IsQuiet (number_at cells (p + 1 + i))
between laws system cells w v more p are spelled i lt =
    let g : p + (1 + i) ≡ p + 1 + i = omega arith in
    let there : number_at cells (p + 1 + i) ≡ window_bits (played_bits w ++ (played_bits v ++ bits_of_words more))
    (1 + i) =
    rw g at (window_there cells p (1 + i) (bits_of_words (w ∷ v ∷ more)) are) in
    let one = plays laws w.direction system w.word (spelling_of w.word) spelled.0 in
    let two = plays laws v.direction system v.word (spelling_of v.word) spelled.1.0 in
    let starts = starts_words laws system more spelled.1.1 in
    let quiet : IsQuiet (window_bits (played_bits w ++ (played_bits v ++ bits_of_words more)) (1 + i)) = record {
      forward = quiet_forward w.direction v.direction (played_bits w) (played_bits v)
          (bits_of_words more) one two starts (1 + i)
          (omega arith) (omega arith);
      backward = quiet_backward laws w.direction v.direction (played_bits w) (played_bits v)
          (bits_of_words more) one two starts (1 + i)
          (omega arith) (omega arith);
    } in
    rw there quiet

read_from : WordLaws → (system : System) (cells : List Cell) (w : Played) (more : List Played) (p : ℕ)
    → bits (drop p cells) ≡ bits_of_words (w ∷ more)
    → AreSpelled system (w ∷ more)
    → AreFrom system cells p (suc (80 * length more)) (events_of_words (duration (take p cells)) (drop p cells)
    (w ∷ more))
unfolding events_of_words
read_from laws system cells w [] p are spelled =
    (one_event (Word w.direction w.word _ _), [], word_at laws system cells w [] p are spelled, refl, refl)
read_from laws system cells w (v ∷ more) p are spelled =
    let len = duration (take 80 (drop p cells)) in
    let tick = duration (take p cells) + len in
    let others = events_of_words tick (drop 80 (drop p cells)) (v ∷ more) in
    let rest = read_from laws system cells v more (p + 80) (next_are cells w (v ∷ more) p are) spelled.1 in
    let ticks : duration (take (p + 80) cells) ≡ tick = let e = end_is cells p in omega arith in
    let same = ap₂ (λ (t : ℕ) (l : List Cell). events_of_words t l (v ∷ more)) ticks (sym (drop-drop 80 p cells)) in
    let P : List Event → Type 0 = λ es. AreFrom system cells (p + 80) (suc (80 * length more)) es in
    let rest_too : AreFrom system cells (p + 80) (suc (80 * length more)) others = subst P same rest in
    let g : p + 80 ≡ p + 1 + 79 = omega arith in
    let from : AreFrom system cells (p + 1 + 79) (suc (80 * length more)) others = rw g at rest_too in
    let quiet = quiet_then system cells (p + 1) 79 (suc (80 * length more)) others
    (between laws system cells w v more p are spelled) from in
    let f : 79 + suc (80 * length more) ≡ 80 * suc (length more) = omega arith in
    let all : AreFrom system cells (p + 1) (80 * suc (length more)) others = rw f at quiet in (
      one_event (Word w.direction w.word tick len),
      others,
      word_at laws system cells w (v ∷ more) p are spelled,
      all,
      refl,
    )

pub windows_are_read : WordLaws → (system : System) (cells : List Cell) (words : List Played)
    → bits cells ≡ false ∷ true ∷ bits_of_words words
    → AreSpelled system words → AreEventsOfWindows system (windows 0 cells)
    (events_of_words (duration (take 2 cells)) (drop 2 cells) words)
unfolding events_of_words
windows_are_read laws system cells [] are spelled =
    let count : length cells ≡ 2 = sym (length-map cells bit_of) ∙ ap length are in
    let none : length cells - 79 ≡ 0 = omega arith in
    rw none refl
windows_are_read laws system cells (w ∷ more) are spelled =
    let all = length-bits_of_words (w ∷ more) in
    let count : length cells ≡ suc (suc (length (bits_of_words (w ∷ more)))) = sym (length-map cells bit_of)
    ∙ ap length are in
    let many : length cells - 79 ≡ 2 + suc (80 * length more) = omega arith in
    let there : bits (drop 2 cells) ≡ bits_of_words (w ∷ more) = sym (drop-map bit_of 2 cells)
    ∙ ap (λ (l : List Bool). drop 2 l) are in
    let starts = starts_words laws system more spelled.1 in
    let one = plays laws w.direction system w.word (spelling_of w.word) spelled.0 in
    let quiet : (i : ℕ) → i < 2 → IsQuiet (number_at cells (0 + i)) = λ i lt.
    let here = window_there cells 0 i (led (bits_of_words (w ∷ more))) are in
    let q : IsQuiet (window_bits (led (bits_of_words (w ∷ more))) i) = record {
      forward = lead_forward w.direction (played_bits w) (bits_of_words more) one starts i lt;
      backward = lead_backward laws w.direction (played_bits w) (bits_of_words more) one starts i lt;
    } in
    rw here q in
    rw many (quiet_then system cells 0 2 (suc (80 * length more)) _ quiet
    (read_from laws system cells w more 2 there spelled))

-- ---- all events

-- of cells that are one stretch
read_of_stretch : WordLaws → (system : System) (profile : Profile) (cells : List Cell) (words : List Played)
    → AreStretches profile (flat cells) (whole cells ∷ [])
    → bits cells ≡ false ∷ true ∷ bits_of_words words → AreSpelled system words
    → AreGathered system profile (flat cells) (events_of_words (duration (take 2 cells)) (drop 2 cells) words)
read_of_stretch laws system profile cells words stretches are spelled =
    let events = events_of_words (duration (take 2 cells)) (drop 2 cells) words in
    let own = windows_are_read laws system cells words are spelled in
    (whole cells ∷ [], stretches, (events, [], (events, own, sym (append-nil events)), refl, sym (append-nil events)))

pub words_are_read : WordLaws → AreAsSaid → (system : System) (profile : Profile) (cells : List Cell)
    (words : List Played) → IsChain profile cells
    → bits cells ≡ false ∷ true ∷ bits_of_words words → AreSpelled system words
    → AreGathered system profile (flat cells) (events_of_words (duration (take 2 cells)) (drop 2 cells) words)
words_are_read laws said system profile cells words chain are spelled =
    read_of_stretch laws system profile cells words (whole_is said profile cells (bits_of_words words) chain are) are
    spelled

-- and of cells that follow one another from a lock
pub locked_words_are_read : WordLaws → (system : System) (profile : Profile) (cells : List Cell)
    (words : List Played) → FollowOn profile cells → IsLock profile (flat cells) 0 0
    → bits cells ≡ false ∷ true ∷ bits_of_words words → AreSpelled system words
    → AreGathered system profile (flat cells) (events_of_words (duration (take 2 cells)) (drop 2 cells) words)
locked_words_are_read laws system profile cells words follow lock are spelled =
    read_of_stretch laws system profile cells words
    (whole_from profile cells (true ∷ bits_of_words words) follow lock are) are spelled
