-- What bytes say of a recording grows with more bytes, and stays as it is behind a fault and behind the limit.
use Rattle.std.proofs.Common.{◌≡◌, inl, inr, ℕ, ◌+◌, ◌≤◌, ◌<◌, List, [], ◌++◌, length, drop, Bool, true, false, Some, None}
use Rattle.std.proofs.Common.{refl, sym, ◌∙◌, ap, subst, arith, append-nil, length-append}
use Rattle.std.specs.Prelude.{nat_le, if◌then◌else◌}
use Rattle.std.proofs.lemmas.Bool.{leb-false, lt-leb}
use Rattle.std.proofs.lemmas.List.{drop-append-le, get_or_append_left, length-drop, take-append-le}
use Rattle.byteorder.specs.Endian.{big_number}
use Rattle.lemmas.specs.Lists.{first_items}
use Rattle.limits.specs.declared.recording.TheConstants.{MAX_INTERVALS}
use Rattle.interval_file.specs.declared.fault.IntervalFileFault.{IntervalFileFault}
use Rattle.interval_file.specs.declared.fault.IntervalFileFault.TheVariants as fault
use Rattle.interval_file.specs.declared.header.IntervalHeader.{IntervalHeader}
use Rattle.interval_file.specs.Contents.{contents_behind, contents_of}
use Rattle.interval_file.specs.Grammar.{Contents, IsFirstWrong, IsHeaderFault, MayStand, fault_of, faulty, file}
use Rattle.interval_file.specs.Grammar.{may_stand, no_header}
use Rattle.interval_file.specs.Growing.{Grows, RecordingsGrow}
use Rattle.interval_file.specs.Recording.{Recording, end_fault_of, read_of, recording_of, shown, whole_in, within_limit}
use Rattle.tc_io.specs.Verdict.{Verdict, good, refused, past_limit}
use Rattle.interval_file.proofs.FrontOfBytes.{Begins, IsReadAs, read_front}
use Rattle.interval_file.proofs.HeaderRead.{begins_read, header_fault_read}
use Rattle.interval_file.proofs.MoreBytes.{BeginsWith, GoesOn, begins_with, four_same, goes_on, header_in}

-- what holds of a recording and of one of more bytes
record Follows (before now : Recording) : Type 0 where
  grows : Grows before now
  refused : (f : IntervalFileFault) → before.verdict ≡ refused f → now ≡ before
  past : before.verdict ≡ past_limit → now ≡ before

-- ---- behind a header

above : (n : ℕ) (within : Bool) → nat_le n MAX_INTERVALS ≡ within
    → if◌then◌else◌ {A = Verdict IntervalFileFault} within good past_limit ≡ past_limit → MAX_INTERVALS < n
above n true e is = absurd cc
above n false e is = leb-false n MAX_INTERVALS e

not_refused : (within : Bool) (f : IntervalFileFault)
    → if◌then◌else◌ {A = Verdict IntervalFileFault} within good past_limit ≡ refused f → ⊥
not_refused true f is = absurd cc
not_refused false f is = absurd cc

-- intervals that are good so far, and more of them
more_of : (header : IntervalHeader) (intervals more : List ℕ) (whole : ℕ) (verdict : Verdict IntervalFileFault)
    → length (intervals ++ more) ≤ whole
    → Follows (within_limit header intervals (length intervals) good)
    (within_limit header (intervals ++ more) whole verdict)
more_of header intervals more whole verdict most = record {
  grows = λ h is. (is, first_items MAX_INTERVALS intervals more);
  refused = λ f is. absurd (not_refused (nat_le (length intervals) MAX_INTERVALS) f is);
  past = λ is.
      let many = above (length intervals) (nat_le (length intervals) MAX_INTERVALS) refl is in
      let long = length-append intervals more in
      rw (
        take-append-le MAX_INTERVALS intervals more (omega (arith, many)),
        lt-leb whole MAX_INTERVALS (omega (arith, many, long, most)),
        lt-leb (length intervals) MAX_INTERVALS many,
      ) refl;
}

as_more : (header h : IntervalHeader) (intervals more xs : List ℕ) (whole : ℕ) (verdict : Verdict IntervalFileFault)
    → Some h ≡ Some header → xs ≡ intervals ++ more → length xs ≤ whole
    → Follows (within_limit header intervals (length intervals) good) (within_limit h xs whole verdict)
as_more header h intervals more xs whole verdict same are most =
    let before = within_limit header intervals (length intervals) good in
    let first : h ≡ header = (cc) in
    subst (λ (k : IntervalHeader). Follows before (within_limit k xs whole verdict)) (sym first)
    (subst (λ (l : List ℕ). Follows before (within_limit header l whole verdict)) (sym are)
    (more_of header intervals more whole verdict (subst (λ (l : List ℕ). length l ≤ whole) are most)))

begun : (header : IntervalHeader) (intervals : List ℕ) (now : Contents) → BeginsWith header intervals now
    → Follows (within_limit header intervals (length intervals) good) (read_of now)
begun header intervals (file h xs) is =
    as_more header h intervals is.more xs (length xs) good is.same is.are (omega arith)
begun header intervals (no_header first) is = let e = is.same in absurd (cc)
begun header intervals (faulty h xs first) is =
    as_more header h intervals is.more xs (length xs + whole_in first) (shown first) is.same is.are (omega arith)

-- where a text begins with a header, that is read
read_header : (contents : Contents) (header : IntervalHeader) → header_in contents ≡ Some header
    → (read_of contents).header ≡ Some header
read_header (file h xs) header is = is
read_header (no_header first) header is = is
read_header (faulty h xs first) header is = is

stays : (r : Recording) → Follows r r
stays r = record {
  grows = λ header is. (is, ([], sym (append-nil r.intervals)));
  refused = λ f is. refl;
  past = λ is. refl;
}

behind_header : (before now : Contents) → GoesOn before now → (header : IntervalHeader)
    → (read_of before).header ≡ Some header → Follows (read_of before) (read_of now)
behind_header (file h xs) now on header is = begun h xs now on
behind_header (no_header first) now on header is = absurd cc
behind_header (faulty h xs (fault.Truncated place)) now on header is =
    let none : length xs + 0 ≡ length xs = omega arith in
    rw none (begun h xs now on)
behind_header (faulty h xs (fault.Interval place)) now on header is = rw on (stays _)
behind_header (faulty h xs (fault.Magic place)) now on header is = rw on (stays _)
behind_header (faulty h xs (fault.Version place)) now on header is = rw on (stays _)
behind_header (faulty h xs (fault.System place)) now on header is = rw on (stays _)
behind_header (faulty h xs (fault.Reserved place)) now on header is = rw on (stays _)
behind_header (faulty h xs (fault.TickRate place)) now on header is = rw on (stays _)

-- ---- before a header

first_wrong_on : (place : ℕ) (front more : List ℕ) → IsFirstWrong place front → IsFirstWrong place (front ++ more)
first_wrong_on place front more is =
    let there = is.there in
    let long = length-append front more in
    let byte = get_or_append_left front more 0 place there in
    record {
      there = omega (arith, there, long);
      wrong = ap (λ (b : ℕ). may_stand place b) byte ∙ is.wrong;
      before = subst (MayStand 0) (sym (take-append-le place front more (omega (arith, there)))) is.before;
    }

rate_on : (front more : List ℕ) → 12 ≤ length front
    → big_number 4 (drop 8 (front ++ more)) ≡ big_number 4 (drop 8 front)
rate_on front more long =
    let behind = length-drop 8 front in
    ap (λ (l : List ℕ). big_number 4 l) (drop-append-le 8 front more (omega (arith, long)))
    ∙ four_same (drop 8 front) more (omega (arith, long, behind))

-- a fault that stays is that of more bytes
fault_on : (front more : List ℕ) (first f : IntervalFileFault) → IsHeaderFault first front → shown first ≡ refused f
    → IsHeaderFault first (front ++ more)
fault_on front more (fault.Magic place) f is stands = (is.0, first_wrong_on place front more is.1)
fault_on front more (fault.Version place) f is stands = (is.0, first_wrong_on place front more is.1)
fault_on front more (fault.System place) f is stands = (is.0, first_wrong_on place front more is.1)
fault_on front more (fault.Reserved place) f is stands = (is.0, is.1, first_wrong_on place front more is.2)
fault_on front more (fault.TickRate place) f is stands =
    let whole = is.1.whole in
    let long = length-append front more in (
      is.0,
      record {
        whole = omega (arith, whole, long);
        wrong = rw (rate_on front more whole) is.1.wrong;
        before = subst (MayStand 0) (sym (take-append-le 8 front more (omega (arith, whole)))) is.1.before;
      },
    )
fault_on front more (fault.Interval place) f is stands = absurd is
fault_on front more (fault.Truncated place) f is stands = absurd cc

begins_on : (header : IntervalHeader) (front more : List ℕ) → Begins header front → Begins header (front ++ more)
begins_on header front more is =
    let whole = is.long in
    let long = length-append front more in
    record {
      long = omega (arith, whole, long);
      head = take-append-le 8 front more (omega (arith, whole)) ∙ is.head;
      rate = rate_on front more whole ∙ is.rate;
      range = is.range;
    }

shown_well : (first : IntervalFileFault) → shown first ≡ past_limit → ⊥
shown_well (fault.Magic place) is = absurd cc
shown_well (fault.Version place) is = absurd cc
shown_well (fault.System place) is = absurd cc
shown_well (fault.Reserved place) is = absurd cc
shown_well (fault.TickRate place) is = absurd cc
shown_well (fault.Interval place) is = absurd cc
shown_well (fault.Truncated place) is = absurd cc

-- ---- any bytes

read_on : (front more : List ℕ) → IsReadAs front → Follows (read_of (contents_of front)) (read_of (contents_of
    (front ++ more)))
read_on front more (inl found) =
    rw found.1 record {
      grows = λ header is. absurd cc;
      refused = λ f is.
          ap read_of (header_fault_read (front ++ more) found.0 (fault_on front more found.0 f found.2 is));
      past = λ is. absurd (shown_well found.0 is);
    }
read_on front more (inr found) =
    let header = found.0 in
    let long = length-drop 12 front in
    let whole = found.2.long in
    let behind = drop-append-le 12 front more whole in
    let joined = length-append front more in
    let now : contents_of (front ++ more)
    ≡ contents_behind (length (front ++ more)) header [] 12 (drop 12 front ++ more) =
    begins_read (front ++ more) header (begins_on header front more found.2)
    ∙ ap (contents_behind (length (front ++ more)) header [] 12) behind in
    let less = length-append (drop 12 front) more in
    let begun = begins_with (length front) header [] 12 (drop 12 front) (omega (arith, long)) in
    rw (found.1, now) (behind_header _ _ (goes_on (length front) (length (front ++ more)) header [] 12 (drop 12 front)
    more (omega (arith, long)) (omega (arith, long, joined, less))) header (read_header _ header begun.same))

-- an input has a header, since bytes without a header may not end there
input_begins : (contents : Contents) → fault_of contents ≡ None → (header : IntervalHeader)
    × ((read_of contents).header ≡ Some header)
input_begins (file header intervals) none = (header, refl)
input_begins (no_header fault) none = absurd cc
input_begins (faulty header intervals fault) none = absurd cc

pub recordings_grow : RecordingsGrow
unfolding recording_of end_fault_of
recordings_grow = record {
  begins = λ bytes none. input_begins (contents_of bytes) none;
  grows = λ front more. (read_on front more (read_front front)).grows;
  refused = λ front more. (read_on front more (read_front front)).refused;
  past = λ front more. (read_on front more (read_front front)).past;
}
