-- The header at the front of bytes, and the fault of one of its first eight bytes.
use Rattle.std.proofs.Common.{◌≡◌, inl, inr, ℕ, ◌≤◌, List, [], length, take, drop, Some, None, ◌∙◌}
use Rattle.std.proofs.Common.{subst}
use Rattle.std.proofs.lemmas.List.{append_cancel_right, take-append-drop}
use Rattle.tc_io.specs.Bytes.{AreBytes}
use Rattle.tc_io.specs.Verdict.{refused}
use Rattle.interval_file.specs.declared.fault.IntervalFileFault.{IntervalFileFault}
use Rattle.interval_file.specs.declared.header.IntervalHeader.{IntervalHeader}
use Rattle.interval_file.specs.Contents.{first_wrong, header_of}
use Rattle.interval_file.specs.Grammar.{IsFile, IsHeaderFault}
use Rattle.interval_file.specs.IntervalHeader.{header_bytes}
use Rattle.interval_file.specs.Recording.{shown}
use Rattle.interval_file.proofs.FirstEight.{HeadOrFault, head_or_fault}
use Rattle.interval_file.proofs.FrontOfBytes.{header_begun, header_is}

-- the fault that is read is the first one
pub a_fault : (bytes : List ℕ) (first : IntervalFileFault) → first_wrong 0 (take 8 bytes) ≡ Some first
    → IsHeaderFault first bytes × (shown first ≡ refused first)
a_fault bytes first is = by_head (head_or_fault bytes)
  where
    stays : (f : IntervalFileFault) → IsHeaderFault f bytes → first_wrong 0 (take 8 bytes) ≡ Some f
        → (shown f ≡ refused f) → IsHeaderFault first bytes × (shown first ≡ refused first)
    stays f found e stands = let same : f ≡ first = (cc) in (
      subst (λ (g : IntervalFileFault). IsHeaderFault g bytes) same found,
      subst (λ (g : IntervalFileFault). shown g ≡ refused g) same stands,
    )

    by_head : HeadOrFault bytes → IsHeaderFault first bytes × (shown first ≡ refused first)
    by_head (inl may) = let none = may.1 in absurd (cc)
    by_head (inr found) = stays found.0 found.1 found.2 found.3

-- the header that is read is the file of it
pub a_header : (bytes : List ℕ) (header : IntervalHeader) → AreBytes bytes → 12 ≤ length bytes
    → first_wrong 0 (take 8 bytes) ≡ None → header_of bytes ≡ Some header
    → (12 ≤ length bytes) × IsFile (take 12 bytes) header []
a_header bytes header are long may is =
    let begins = header_begun bytes header long may is in
    let parts = take-append-drop 12 bytes ∙ header_is bytes header are begins in (
      long,
      record {
        tick_rate = begins.range;
        range = tt;
        are = append_cancel_right (take 12 bytes) (header_bytes header) (drop 12 bytes) parts;
      },
    )
