-- A window read forward and the window in the other order read backward are one candidate. So the events of windows and
-- of those in the other order are the same, each met from its other end.
use Rattle.std.proofs.Common.{◌≡◌, ◌<◌, ◌≤◌, ℕ, ◌+◌, ◌-◌, ◌^◌, List, ◌++◌, length, take, drop, map}
use Rattle.std.proofs.Common.{reverse}
use Rattle.std.proofs.Common.{sum, get_or}
use Rattle.std.proofs.Common.{ap, arith, append_assoc, length-append, subst, sym, ◌∙◌, All}
use Rattle.std.specs.List.{AllZip, range_with_len}
use Rattle.std.proofs.Math.Seq.{take-append_seam}
use Rattle.std.proofs.lemmas.Grind.{flat_map-append}
use Rattle.std.proofs.lemmas.List.{length-reverse, reverse-append, take-append-drop, length-take, length-drop}
use Rattle.std.proofs.lemmas.List.{get_or-drop}
use Rattle.std.proofs.lemmas.List.FromFn.{get_or-map-range_with_len, length-map-range_with_len}
use Rattle.std.proofs.lemmas.List.Sums.{sum_by-append}
use Rattle.biphase.specs.declared.cell.Cell.{Cell}
use Rattle.biphase.specs.declared.profile.Profile.{Profile}
use Rattle.biphase.specs.Chain.{intervals_of, flat}
use Rattle.biphase.specs.Mirror.{mirrored}
use Rattle.cell_tracker.specs.ChainPiece.{IsPiece, cells_from}
use Rattle.cell_tracker.specs.Lock.{IsLock}
use Rattle.cell_tracker.specs.Mirrored.{BeginMirrored}
use Rattle.tc_address.specs.declared.system.System.{System}
use Rattle.ltc_word.specs.Reversal.{reversed_bits}
use Rattle.direction_reader.specs.declared.event.Event.{Event}
use Rattle.direction_reader.specs.Events.{tick_of}
use Rattle.direction_reader.specs.Gathered.{AreEventsOfWindows}
use Rattle.direction_reader.specs.Windows.{CellWindow, window_at, windows}
use Rattle.direction_reader.specs.ListEvents.{duration, AreEvents, events_of_cells}
use Rattle.direction_reader.specs.Mirror.{IsMirrorOf, MirrorsTheTape}
use Rattle.direction_reader.proofs.AsLists.{AreListed}
use Rattle.direction_reader.proofs.OneList.{IsExact}
use Rattle.direction_reader.proofs.OneListOfEvents.{HasOneList}
use Rattle.direction_reader.proofs.TellsTheTape.{IsOneStretch, words_told}
use Rattle.direction_reader.proofs.FrontsFirst.{windows_split}
use Rattle.direction_reader.proofs.WindowsFrom.{EndsFrom, both_windows}
use Rattle.direction_reader.proofs.LaterWindows.{Positive}
use Rattle.direction_reader.proofs.BehindFront.{all_later_than, front_lasts_longer}
use Rattle.direction_reader.proofs.LaterWindows.{positive_chain}
use Rattle.direction_reader.proofs.WindowsFrom.{windows_from}
use Rattle.direction_reader.proofs.MirroredWindows.{mirror_window, mirrored_windows, sum_reverse}
use Rattle.direction_reader.proofs.MirroredLists.{TurnsBack, all_mirror, windows_fit}

-- ---- the tape

-- the cells of a mirrored recording
abbrev pub AreTheSame : Type 0
AreTheSame = (profile : Profile) (intervals : List ℕ) (cells others : List Cell)
    (cut place first last : ℕ) → IsPiece profile intervals cells cut
    → IsPiece profile (reverse intervals) others place → IsLock profile intervals 0 first
    → IsLock profile (reverse intervals) 0 last
    → BeginMirrored (cells_from cells cut intervals first) (cells_from others place (reverse intervals) last) first last
    (length intervals)

-- the windows of cells that do not come in a front of them end behind it
behind_front : (tick : ℕ) (middle more : List Cell) → Positive (flat (middle ++ more))
    → All (EndsFrom (tick + duration middle)) (drop (length middle - 79) (windows tick (middle ++ more)))
behind_front tick middle more lasts i d within =
    let cells = middle ++ more in
    let k = length middle - 79 in
    let count = length cells - 79 in
    let at = window_at tick cells in
    let all = map at (range_with_len 0 count) in
    let long : length all ≡ count = length-map-range_with_len at 0 count in
    let inside : k + i < count = omega (arith, length-drop k all) in
    let window : get_or (drop k all) i d ≡ at (k + i) =
    get_or-drop k all i d ∙ get_or-map-range_with_len at 0 count (k + i) (k + i) d inside (omega arith) in
    let whole : duration (take (length middle) cells) ≡ duration middle = ap duration (take-append_seam middle more) in
    rw window (omega (
      arith,
      whole,
      front_lasts_longer cells (length middle) (k + i + 80) lasts (omega arith)
          (omega arith),
    ))

-- the events of the windows of a front of cells, and what comes behind it
record FrontEvents (system : System) (tick : ℕ) (middle : List Cell) (events : List Event) : Type 0 where
  mine : List Event
  more : List Event
  are : events ≡ mine ++ more
  mine_are : AreEventsOfWindows system (windows tick middle) mine
  late : All (λ event. tick + duration middle < tick_of event) more

events_of_front : (system : System) (tick : ℕ) (cells middle more : List Cell) (es : List Event) → Positive (flat cells)
    → cells ≡ middle ++ more
    → AreEventsOfWindows system (windows tick cells) es → FrontEvents system tick middle es
events_of_front system tick cells middle more es lasts same are =
    let others = drop (length middle - 79) (windows tick (middle ++ more)) in
    let split : windows tick cells ≡ windows tick middle ++ others = ap (windows tick) same
    ∙ windows_split tick middle more in
    let both = both_windows system (windows tick middle) others es
    (subst (λ (ws : List CellWindow). AreEventsOfWindows system ws es) split are) in
    record {
      mine = both.one;
      more = both.two;
      are = both.are;
      mine_are = both.ones;
      late = all_later_than (tick + duration middle) both.two
          (λ m. windows_from system m (tick + duration middle) others both.two
          (behind_front tick middle more (subst (λ (cs : List Cell). Positive (flat cs)) same lasts)) both.twos);
    }

-- the sums before, in and behind the middle
sums : (l middle tail : List ℕ) (first last : ℕ) → drop first l ≡ middle ++ tail
    → first + length middle + last ≡ length l → first ≤ length l
    → sum (take first l) + sum middle + sum (take last (reverse l)) ≡ sum l
sums l middle tail first last there many within =
    let front = take first l in
    let whole : l ≡ (front ++ middle) ++ tail =
    sym (take-append-drop first l) ∙ ap (λ (xs : List ℕ). front ++ xs) there ∙ sym (append_assoc front middle tail) in
    let long : length (reverse tail) ≡ last =
    omega (
      arith,
      length-reverse tail,
      ap length whole,
      length-append (front ++ middle) tail,
      length-append front middle,
      length-take first l,
    ) in
    let behind : take last (reverse l) ≡ reverse tail =
    ap (λ (xs : List ℕ). take last (reverse xs)) whole ∙ ap (take last) (reverse-append (front ++ middle) tail)
    ∙ ap (λ n. take n (reverse tail ++ reverse (front ++ middle))) (sym long)
    ∙ take-append_seam (reverse tail) (reverse (front ++ middle)) in
    omega (
      arith,
      ap sum whole,
      ap sum behind,
      sum_reverse tail,
      sum_by-append (λ n. n) (front ++ middle) tail,
      sum_by-append (λ n. n) front middle,
    )

pub mirrors_the_tape : AreListed → IsExact → TurnsBack → AreTheSame → IsOneStretch → HasOneList
    → (system : System) (profile : Profile) (l : List ℕ)
    (es fs : List Event) → AreEvents system profile l es → AreEvents system profile (reverse l) fs
    → MirrorsTheTape system profile l es fs
mirrors_the_tape lists exact back law stretch one system profile l es fs are too =
    λ tape other cut place first last piece turned_piece lock last_lock.
    let m = law profile l tape other cut place first last piece turned_piece lock last_lock in
    let middle = m.middle in
    let tick = sum (take first l) in
    let other_tick = sum (take last (reverse l)) in
    let own = lists.gathered system profile l es are in
    let own_too = lists.gathered system profile (reverse l) fs too in
    let told = words_told one stretch system profile l es own.0 own.1 own.2 tape cut first piece lock in
    let told_too = words_told one stretch system profile
    (reverse l) fs own_too.0 own_too.1 own_too.2 other place last turned_piece last_lock in
    let lasts = positive_chain profile (cells_from tape cut l first)
    (stretch profile l tape cut first piece lock).1.chain.chain in
    let lasts_too = positive_chain profile (cells_from other place (reverse l) last)
    (stretch profile (reverse l) other place last turned_piece last_lock).1.chain.chain in
    let mine = events_of_front system tick (cells_from tape cut l first) middle m.more es lasts m.cells_are told in
    let theirs = events_of_front system other_tick (cells_from other place (reverse l) last)
    (mirrored middle) m.others_more fs lasts_too m.others_are
    told_too in
    let front = (stretch profile l tape cut first piece lock).1.chain.front in
    let there : drop first l ≡ flat middle ++ (flat m.more ++ front.0) =
    front.1 ∙ ap (λ (cs : List Cell). flat cs ++ front.0) m.cells_are
    ∙ ap (λ (xs : List ℕ). xs ++ front.0) (flat_map-append intervals_of middle m.more)
    ∙ append_assoc (flat middle) (flat m.more) front.0 in
    let total : tick + duration middle + other_tick ≡ sum l =
    sums l (flat middle) (flat m.more ++ front.0) first last there m.many (omega (arith, m.many)) in
    let same : windows other_tick (mirrored middle) ≡ reverse (map (mirror_window (sum l)) (windows tick middle)) =
    mirrored_windows (sum l) tick other_tick middle total in
    let theirs_are : AreEventsOfWindows system (reverse
    (map (mirror_window (sum l)) (windows tick middle))) theirs.mine =
    subst (λ (ws : List CellWindow). AreEventsOfWindows system ws theirs.mine) same theirs.mine_are in
    let mine_is = lists.cells system tick middle mine.mine mine.mine_are in
    let theirs_is = lists.cells system other_tick (mirrored middle) theirs.mine theirs.mine_are in
    let all = all_mirror exact back system (sum l) tick middle (windows tick middle) mine.mine theirs.mine
    (windows_fit (sum l) tick middle (omega (arith, total))) mine.mine_are theirs_are in
    record {
      between = middle;
      begin = (m.more, m.cells_are);
      others_begin = (m.others_more, m.others_are);
      many = m.many;
      told = (mine.more, mine.are ∙ ap (λ (e : List Event). e ++ mine.more) mine_is, mine.late);
      told_mirrored = (theirs.more, theirs.are ∙ ap (λ (e : List Event). e ++ theirs.more) theirs_is, theirs.late);
      same = subst (λ (e : List Event). AllZip (IsMirrorOf (sum l) tick middle) e
          (reverse (events_of_cells system other_tick (mirrored middle))))
          mine_is (subst (λ (e : List Event). AllZip (IsMirrorOf (sum l) tick middle) mine.mine
          (reverse e)) theirs_is all);
    }
