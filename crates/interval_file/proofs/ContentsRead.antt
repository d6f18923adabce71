-- What bytes say is what is read from their front, and nothing else.
use Rattle.std.proofs.Common.{◌≡◌, inl, inr, ℕ, ◌+◌, ◌≤◌, List, [], ◌++◌, length, drop, Some, None, refl, sym, ◌∙◌, ap}
use Rattle.std.proofs.Common.{subst, arith, append-nil, append_assoc, length-append}
use Rattle.std.proofs.lemmas.Bool.{le-leb}
use Rattle.std.proofs.lemmas.List.{length-drop, take_all}
use Rattle.byteorder.specs.Numbers.{big_number-reads_back}
use Rattle.limits.specs.declared.recording.TheConstants.{MAX_INTERVALS}
use Rattle.tc_address.specs.declared.system.System.{System}
use Rattle.interval_file.specs.declared.fault.IntervalFileFault.{IntervalFileFault}
use Rattle.interval_file.specs.declared.fault.IntervalFileFault.TheVariants as fault
use Rattle.interval_file.specs.declared.header.FileVersion.{FileVersion}
use Rattle.interval_file.specs.declared.header.IntervalHeader.{IntervalHeader}
use Rattle.interval_file.specs.Contents.{contents_behind, contents_of}
use Rattle.tc_io.specs.Bytes.{AreBytes}
use Rattle.interval_file.specs.Grammar.{Contents, IsFile, IsRestFault, Says, fault_of, faulty, file, file_of}
use Rattle.interval_file.specs.Grammar.{intervals_bytes, no_header}
use Rattle.interval_file.specs.IntervalHeader.{IsTickRate, header_bytes}
use Rattle.interval_file.specs.Recording.{end_fault_of, read_of, recording_of}
use Rattle.tc_io.specs.ByteLemmas.{bytes_behind}
use Rattle.tc_io.specs.Verdict.{good}
use Rattle.interval_file.proofs.ContentsBehind.{cut_behind, said_behind, wrong_behind}
use Rattle.interval_file.proofs.FrontOfBytes.{Begins, IsReadAs, header_is, read_front}
use Rattle.interval_file.proofs.HeaderRead.{begins_read, header_fault_read}
use Rattle.interval_file.proofs.SpelledIntervals.{spelled_on}

-- ---- they say it

said : (bytes : List ℕ) → AreBytes bytes → IsReadAs bytes → Says (contents_of bytes) bytes
said bytes are (inl found) = subst (λ (c : Contents). Says c bytes) (sym found.1) found.2
said bytes are (inr found) =
    let header = found.0 in
    let is = found.2 in
    let behind = length-drop 12 bytes in
    let says = said_behind (length bytes) (file_of header []) (drop 12 bytes) header [] 12 refl
    (record { tick_rate = is.range; range = tt; are = refl }) (bytes_behind 12 bytes are) (omega (arith, behind)) in
    subst (λ (c : Contents). Says c bytes) (sym found.1)
    (subst (Says (contents_behind (length bytes) header [] 12 (drop 12 bytes)))
    (sym (header_is bytes header are is)) says)

pub they_say_it : (bytes : List ℕ) → AreBytes bytes → Says (contents_of bytes) bytes
they_say_it bytes are = said bytes are (read_front bytes)

-- ---- a header and intervals, and what comes behind them

header_begins : (version : FileVersion) (system : System) (rate : ℕ) (rest : List ℕ) → IsTickRate rate
    → let header : IntervalHeader = record { version = version; system = system; tick_rate = rate } in
    Begins header (header_bytes header ++ rest)
header_begins version system rate rest range =
    let most = range.1 in
    record {
      long = omega arith;
      head = refl;
      rate = big_number-reads_back 4 rate rest (omega (arith, most));
      range = range;
    }

pub behind_file : (front : List ℕ) (header : IntervalHeader) (intervals rest : List ℕ) → IsFile front header intervals
    → contents_of (front ++ rest) ≡ contents_behind (length rest) header intervals (length front) rest
behind_file front header intervals rest is =
    let spelled = intervals_bytes header.version intervals in
    let bytes = header_bytes header ++ (spelled ++ rest) in
    let all : front ++ rest ≡ bytes =
    ap (λ (l : List ℕ). l ++ rest) is.are ∙ append_assoc (header_bytes header) spelled rest in
    let count : 12 + length spelled ≡ length front =
    omega (arith, length-append (header_bytes header) spelled, ap (λ (l : List ℕ). length l) is.are) in
    let begins = header_begins header.version header.system header.tick_rate (spelled ++ rest) is.tick_rate in
    ap contents_of all ∙ begins_read bytes header begins
    ∙ spelled_on intervals (length bytes) header [] 12 rest is.range
    (omega (arith, length-append (header_bytes header) (spelled ++ rest)))
    ∙ ap (λ (n : ℕ). contents_behind (length rest) header intervals n rest) count

-- ---- they say nothing else

rest_read : (header : IntervalHeader) (intervals : List ℕ) (place : ℕ) (rest : List ℕ) (first : IntervalFileFault)
    → IsRestFault header.version place rest first
    → contents_behind (length rest) header intervals place rest ≡ faulty header intervals first
rest_read header intervals place rest (fault.Interval at) fails =
    wrong_behind (length rest) header intervals place rest fails.1 fails.2 (omega arith)
    ∙ ap (λ (n : ℕ). faulty header intervals (fault.Interval n)) (sym fails.0)
rest_read header intervals place rest (fault.Truncated at) fails =
    cut_behind (length rest) header intervals place rest fails.1 fails.2 (omega arith)
    ∙ ap (λ (n : ℕ). faulty header intervals (fault.Truncated n)) (sym fails.0)
rest_read header intervals place rest (fault.Magic at) fails = absurd fails
rest_read header intervals place rest (fault.Version at) fails = absurd fails
rest_read header intervals place rest (fault.System at) fails = absurd fails
rest_read header intervals place rest (fault.Reserved at) fails = absurd fails
rest_read header intervals place rest (fault.TickRate at) fails = absurd fails

pub read_as : (bytes : List ℕ) (contents : Contents) → Says contents bytes → contents_of bytes ≡ contents
read_as bytes (file header intervals) says =
    ap contents_of (sym (append-nil bytes)) ∙ behind_file bytes header intervals [] says
read_as bytes (no_header first) says = header_fault_read bytes first says
read_as bytes (faulty header intervals first) says =
    ap contents_of says.are ∙ behind_file says.front header intervals says.rest says.file
    ∙ rest_read header intervals (length says.front) says.rest first says.fails

pub one_answer : (bytes : List ℕ) (a b : Contents) → Says a bytes → Says b bytes → a ≡ b
one_answer bytes a b first second = sym (read_as bytes a first) ∙ read_as bytes b second

-- ---- what is read of a text, and of a file

pub text_read : (bytes : List ℕ) (contents : Contents) → Says contents bytes
    → (recording_of bytes ≡ read_of contents) × (end_fault_of bytes ≡ fault_of contents)
unfolding recording_of end_fault_of
text_read bytes contents says =
    let same = read_as bytes contents says in (ap read_of same, ap fault_of same)

pub file_read : (bytes : List ℕ) (header : IntervalHeader) (intervals : List ℕ) → IsFile bytes header intervals
    → length intervals ≤ MAX_INTERVALS
    → (recording_of bytes ≡ record { header = Some header; intervals = intervals; verdict = good })
    × (end_fault_of bytes ≡ None)
file_read bytes header intervals is few =
    let read = text_read bytes (file header intervals) is in (
      read.0 ∙ rw (take_all MAX_INTERVALS intervals few, le-leb (length intervals) MAX_INTERVALS few) refl,
      read.1,
    )

pub header_back : (header : IntervalHeader) → IsTickRate header.tick_rate
    → recording_of (header_bytes header) ≡ record { header = Some header; intervals = []; verdict = good }
header_back header range =
    (file_read (header_bytes header) header [] (record { tick_rate = range; range = tt; are = refl }) (omega arith)).0

pub one_recording : (bytes : List ℕ) (a b : IntervalHeader) (xs ys : List ℕ) → IsFile bytes a xs → IsFile bytes b ys
    → (a ≡ b) × (xs ≡ ys)
one_recording bytes a b xs ys first second =
    let same = one_answer bytes (file a xs) (file b ys) first second in
    ((cc), (cc))
