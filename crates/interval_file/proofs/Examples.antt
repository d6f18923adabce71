-- Bytes of interval files, read by the definitions.
use Rattle.std.proofs.Common.{◌≡◌, ℕ, List, [], ◌∷◌, ◌++◌, Some, None, refl}
use Rattle.tc_address.specs.declared.system.System.TheVariants.{F25, F30}
use Rattle.interval_file.specs.declared.fault.IntervalFileFault.TheVariants as fault
use Rattle.interval_file.specs.declared.header.FileVersion.TheVariants.{One, Two}
use Rattle.interval_file.specs.declared.header.IntervalHeader.{IntervalHeader}
use Rattle.interval_file.specs.Contents.{contents_of}
use Rattle.interval_file.specs.Grammar.{file, no_header, faulty}
use Rattle.interval_file.specs.Recording.{end_fault_of, recording_of}
use Rattle.tc_io.specs.Verdict.{good, refused}

-- version 1, 25 frames a second, 48,000 ticks a second
abbrev first_header : List ℕ
first_header = 0x4c ∷ 0x54 ∷ 0x43 ∷ 0x49 ∷ 1 ∷ 25 ∷ 0 ∷ 0 ∷ 0 ∷ 0 ∷ 0xbb ∷ 0x80 ∷ []

abbrev first : IntervalHeader
first = record { version = One; system = F25; tick_rate = 48000 }

-- two intervals
two_intervals : contents_of (first_header ++ 0 ∷ 0 ∷ 0 ∷ 12 ∷ 0 ∷ 0 ∷ 1 ∷ 0 ∷ []) ≡ file first (12 ∷ 256 ∷ [])
two_intervals = refl

two_are_read : recording_of (first_header ++ 0 ∷ 0 ∷ 0 ∷ 12 ∷ 0 ∷ 0 ∷ 1 ∷ 0 ∷ [])
    ≡ record { header = Some first; intervals = 12 ∷ 256 ∷ []; verdict = good }
unfolding recording_of
two_are_read = refl

-- no interval
none_at_all : contents_of first_header ≡ file first []
none_at_all = refl

-- cut in the header at byte 9: more may come, and the input may not end there
cut_in_the_header : contents_of (0x4c ∷ 0x54 ∷ 0x43 ∷ 0x49 ∷ 1 ∷ 25 ∷ 0 ∷ 0 ∷ 0 ∷ []) ≡ no_header (fault.Truncated 9)
cut_in_the_header = refl

so_far_nothing : recording_of (0x4c ∷ 0x54 ∷ 0x43 ∷ 0x49 ∷ 1 ∷ 25 ∷ 0 ∷ 0 ∷ 0 ∷ [])
    ≡ record { header = None; intervals = []; verdict = good }
unfolding recording_of
so_far_nothing = refl

-- another system is refused at its byte, whatever comes behind it
another_system : contents_of (0x4c ∷ 0x54 ∷ 0x43 ∷ 0x49 ∷ 1 ∷ 29 ∷ 7 ∷ []) ≡ no_header (fault.System 5)
another_system = refl

-- a tick rate of 0
no_rate : contents_of (0x4c ∷ 0x54 ∷ 0x43 ∷ 0x49 ∷ 1 ∷ 25 ∷ 0 ∷ 0 ∷ 0 ∷ 0 ∷ 0 ∷ 0 ∷ 0 ∷ [])
    ≡ no_header (fault.TickRate 8)
no_rate = refl

-- an interval of 0 behind one of 12
interval_of_0 : contents_of (first_header ++ 0 ∷ 0 ∷ 0 ∷ 12 ∷ 0 ∷ 0 ∷ 0 ∷ 0 ∷ 0 ∷ [])
    ≡ faulty first (12 ∷ []) (fault.Interval 16)
interval_of_0 = refl

refused_at_16 : recording_of (first_header ++ 0 ∷ 0 ∷ 0 ∷ 12 ∷ 0 ∷ 0 ∷ 0 ∷ 0 ∷ 0 ∷ [])
    ≡ record { header = Some first; intervals = 12 ∷ []; verdict = refused (fault.Interval 16) }
unfolding recording_of
refused_at_16 = refl

-- cut inside the second interval: the first one is read, and the input may not end there
cut_in_an_interval : contents_of (first_header ++ 0 ∷ 0 ∷ 0 ∷ 12 ∷ 0 ∷ 0 ∷ [])
    ≡ faulty first (12 ∷ []) (fault.Truncated 18)
cut_in_an_interval = refl

end_of_the_cut : end_fault_of (first_header ++ 0 ∷ 0 ∷ 0 ∷ 12 ∷ 0 ∷ 0 ∷ []) ≡ Some (fault.Truncated 18)
unfolding end_fault_of
end_of_the_cut = refl

-- version 2: an interval of two bytes, one of six, and one that may not come in six
abbrev second_header : List ℕ
second_header = 0x4c ∷ 0x54 ∷ 0x43 ∷ 0x49 ∷ 2 ∷ 30 ∷ 0 ∷ 0 ∷ 0 ∷ 0 ∷ 0xbb ∷ 0x80 ∷ []

abbrev second : IntervalHeader
second = record { version = Two; system = F30; tick_rate = 48000 }

two_and_six : contents_of (second_header ++ 1 ∷ 0 ∷ 0 ∷ 0 ∷ 0 ∷ 1 ∷ 0 ∷ 0 ∷ []) ≡ file second (256 ∷ 65536 ∷ [])
two_and_six = refl

over_long : contents_of (second_header ++ 1 ∷ 0 ∷ 0 ∷ 0 ∷ 0 ∷ 0 ∷ 255 ∷ 255 ∷ [])
    ≡ faulty second (256 ∷ []) (fault.Interval 14)
over_long = refl
