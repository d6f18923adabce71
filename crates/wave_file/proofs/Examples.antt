-- Sound files worked byte by byte, from the tables of EBU Tech 3285 and ITU-R BS.2088.
use Rattle.std.proofs.Common.{◌≡◌, ℕ, ◌^◌, ◌*◌, ◌/◌, ◌%◌, pos, neg_ℤ, List, [], ◌∷◌, ◌++◌, refl}
use Rattle.file_faults.specs.declared.sound.WaveFault.TheVariants as fault
use Rattle.wave_file.specs.declared.format.Asked.{Asked}
use Rattle.wave_file.specs.declared.format.WaveFormat.{WaveFormat}
use Rattle.wave_file.specs.Format.{samples_at}
use Rattle.wave_file.specs.Grammar.{Wide, file_of, read_whole}
use Rattle.wave_file.specs.Wave.{bad, chunks_at, file_at}
use Rattle.tc_io.specs.Verdict.{past_limit}

-- of a file a track is asked for
abbrev of_track : ℕ → Asked
of_track track = record { track = track; least_rate = 1; most_samples = 2 ^ 40 }

-- ---- letters

riff : List ℕ
riff = 82 ∷ 73 ∷ 70 ∷ 70 ∷ []

rf64 : List ℕ
rf64 = 82 ∷ 70 ∷ 54 ∷ 52 ∷ []

bw64 : List ℕ
bw64 = 66 ∷ 87 ∷ 54 ∷ 52 ∷ []

wave_fmt : List ℕ
wave_fmt = 87 ∷ 65 ∷ 86 ∷ 69 ∷ 102 ∷ 109 ∷ 116 ∷ 32 ∷ []

wave : List ℕ
wave = 87 ∷ 65 ∷ 86 ∷ 69 ∷ []

fmt : List ℕ
fmt = 102 ∷ 109 ∷ 116 ∷ 32 ∷ []

samples : List ℕ
samples = 100 ∷ 97 ∷ 116 ∷ 97 ∷ []

ds64 : List ℕ
ds64 = 100 ∷ 115 ∷ 54 ∷ 52 ∷ []

unknown : List ℕ
unknown = 255 ∷ 255 ∷ 255 ∷ 255 ∷ []

nothing : List ℕ
nothing = 0 ∷ 0 ∷ 0 ∷ 0 ∷ []

-- format 1, with these tracks, bits, and bytes of a block, at 8,000 a second
format_with : ℕ → ℕ → ℕ → List ℕ
format_with tracks block bits =
    16 ∷ 0 ∷ 0 ∷ 0 ∷ 1 ∷ 0 ∷ tracks ∷ 0 ∷ 64 ∷ 31 ∷ 0 ∷ 0 ∷ 8_000 * block % 256 ∷ 8_000 * block / 256 ∷ 0 ∷ 0 ∷ block
    ∷ 0 ∷ bits ∷ 0 ∷ []

format : ℕ → ℕ → ℕ → WaveFormat
format tracks block bits = record { tracks = tracks; rate = 8_000; block = block; bits = bits }

-- ---- samples of each size

-- 8 bits have no sign: 0 is the lowest and 255 the greatest
eight_bits : file_at (of_track 1) (riff ++ 38 ∷ 0 ∷ 0 ∷ 0 ∷ wave_fmt ++ format_with 1 1 8 ++ samples
    ++ 2 ∷ 0 ∷ 0 ∷ 0 ∷ 0 ∷ 255 ∷ [])
    ≡ read_whole (format 1 1 8) (neg_ℤ (pos 32_768) ∷ pos 32_512 ∷ [])
unfolding riff wave_fmt format_with samples format chunks_at samples_at
eight_bits = refl

-- 16 bits of two tracks: the second one, the lower byte first
sixteen_bits : file_at (of_track 2) (riff ++ 44 ∷ 0 ∷ 0 ∷ 0 ∷ wave_fmt ++ format_with 2 4 16 ++ samples
    ++ 8 ∷ 0 ∷ 0 ∷ 0 ∷ 1 ∷ 2 ∷ 3 ∷ 4 ∷ 5 ∷ 6 ∷ 255 ∷ 255 ∷ [])
    ≡ read_whole (format 2 4 16) (pos 1_027 ∷ neg_ℤ (pos 1) ∷ [])
unfolding riff wave_fmt format_with samples format chunks_at samples_at
sixteen_bits = refl

-- of 24 bits the upper two bytes
twenty_four_bits : file_at (of_track 1) (riff ++ 42 ∷ 0 ∷ 0 ∷ 0 ∷ wave_fmt ++ format_with 1 3 24 ++ samples
    ++ 6 ∷ 0 ∷ 0 ∷ 0 ∷ 200 ∷ 1 ∷ 2 ∷ 100 ∷ 0 ∷ 128 ∷ [])
    ≡ read_whole (format 1 3 24) (pos 513 ∷ neg_ℤ (pos 32_768) ∷ [])
unfolding riff wave_fmt format_with samples format chunks_at samples_at
twenty_four_bits = refl

-- of 32 bits too
thirty_two_bits : file_at (of_track 1) (riff ++ 40 ∷ 0 ∷ 0 ∷ 0 ∷ wave_fmt ++ format_with 1 4 32 ++ samples
    ++ 4 ∷ 0 ∷ 0 ∷ 0 ∷ 200 ∷ 201 ∷ 1 ∷ 2 ∷ [])
    ≡ read_whole (format 1 4 32) (pos 513 ∷ [])
unfolding riff wave_fmt format_with samples format chunks_at samples_at
thirty_two_bits = refl

-- ---- sizes of 64 bits

-- the size of the data is at byte 8 of ds64; what follows the data is passed over
long_sizes : file_at (of_track 1) (rf64 ++ unknown ++ wave ++ ds64 ++ 16 ∷ 0 ∷ 0 ∷ 0 ∷ 9 ∷ 9 ∷ 9 ∷ 9 ∷ 9 ∷ 9 ∷ 9 ∷ 9 ∷ 2
    ∷ 0 ∷ 0
    ∷ 0 ∷ 0 ∷ 0 ∷ 0 ∷ 0 ∷ fmt
    ++ format_with 1 2 16 ++ samples ++ unknown ++ 1 ∷ 2 ∷ 3 ∷ 4 ∷ [])
    ≡ read_whole (format 1 2 16) (pos 513 ∷ [])
unfolding rf64 unknown wave ds64 fmt format_with samples format chunks_at samples_at
long_sizes = refl

-- BW64 has them too
long_sizes_of_bw64 : file_at (of_track 1) (bw64 ++ unknown ++ wave ++ ds64
    ++ 16 ∷ 0 ∷ 0 ∷ 0 ∷ 9 ∷ 9 ∷ 9 ∷ 9 ∷ 9 ∷ 9 ∷ 9 ∷ 9 ∷ 2 ∷ 0 ∷ 0 ∷ 0 ∷ 0 ∷ 0 ∷ 0 ∷ 0 ∷ fmt
    ++ format_with 1 2 16 ++ samples ++ unknown ++ 1 ∷ 2 ∷ 3 ∷ 4 ∷ [])
    ≡ read_whole (format 1 2 16) (pos 513 ∷ [])
unfolding bw64 unknown wave ds64 fmt format_with samples format chunks_at samples_at
long_sizes_of_bw64 = refl

-- 0 there says that the length is not known
a_long_size_of_nothing : file_at (of_track 1) (rf64 ++ unknown ++ wave ++ ds64
    ++ 16 ∷ 0 ∷ 0 ∷ 0 ∷ 9 ∷ 9 ∷ 9 ∷ 9 ∷ 9 ∷ 9 ∷ 9 ∷ 9 ∷ nothing ++ nothing ++ fmt
    ++ format_with 1 2 16 ++ samples ++ unknown ++ 1 ∷ 2 ∷ 3 ∷ 4 ∷ [])
    ≡ read_whole (format 1 2 16) (pos 513 ∷ pos 1_027 ∷ [])
unfolding rf64 unknown wave ds64 nothing fmt format_with samples format chunks_at samples_at
a_long_size_of_nothing = refl

-- without ds64 the data can't be had
no_long_size : file_at (of_track 1) (rf64 ++ unknown ++ wave_fmt ++ format_with 1 2 16 ++ samples ++ unknown
    ++ 1 ∷ 2 ∷ []) ≡ bad (fault.Ds64 36)
unfolding rf64 unknown wave_fmt format_with samples chunks_at
no_long_size = refl

-- ---- lengths that are not known

-- a stream of ffmpeg
the_greatest_size : file_at (of_track 1) (riff ++ unknown ++ wave_fmt ++ format_with 1 2 16 ++ samples ++ unknown
    ++ 1 ∷ 2 ∷ 3 ∷ 4 ∷ [])
    ≡ read_whole (format 1 2 16) (pos 513 ∷ pos 1_027 ∷ [])
unfolding riff unknown wave_fmt format_with samples format chunks_at samples_at
the_greatest_size = refl

-- one of flac, without any size, and one of mpg123, whose size is that of the header
no_size_at_all : file_at (of_track 1) (riff ++ nothing ++ wave_fmt ++ format_with 1 2 16 ++ samples ++ nothing
    ++ 1 ∷ 2 ∷ 3 ∷ 4 ∷ [])
    ≡ read_whole (format 1 2 16) (pos 513 ∷ pos 1_027 ∷ [])
unfolding riff nothing wave_fmt format_with samples format chunks_at samples_at
no_size_at_all = refl

the_size_of_the_header : file_at (of_track 1) (riff ++ 36 ∷ 0 ∷ 0 ∷ 0 ∷ wave_fmt ++ format_with 1 2 16 ++ samples
    ++ nothing
    ++ 1 ∷ 2 ∷ 3 ∷ 4 ∷ [])
    ≡ read_whole (format 1 2 16) (pos 513 ∷ pos 1_027 ∷ [])
unfolding riff nothing wave_fmt format_with samples format chunks_at samples_at
the_size_of_the_header = refl

-- a file without samples that has a chunk behind them
no_samples : file_at (of_track 1) (riff ++ 44 ∷ 0 ∷ 0 ∷ 0 ∷ wave_fmt ++ format_with 1 2 16 ++ samples ++ nothing ++ ds64
    ++ nothing)
    ≡ read_whole (format 1 2 16) []
unfolding riff nothing wave_fmt format_with samples ds64 format chunks_at samples_at
no_samples = refl

-- ---- chunks and formats

-- a chunk of an odd number of bytes has one more
an_odd_chunk : file_at (of_track 1) (riff ++ unknown ++ wave ++ 74 ∷ 85 ∷ 78 ∷ 75 ∷ 3 ∷ 0 ∷ 0 ∷ 0 ∷ 7 ∷ 7 ∷ 7 ∷ 0 ∷ fmt
    ++ format_with 1 2 16 ++ samples
    ++ 2 ∷ 0 ∷ 0 ∷ 0 ∷ 1 ∷ 2 ∷ [])
    ≡ read_whole (format 1 2 16) (pos 513 ∷ [])
unfolding riff unknown wave fmt format_with samples format chunks_at samples_at
an_odd_chunk = refl

-- format 65,534 is known by its subformat at byte 24
extensible : ℕ → ℕ → List ℕ
extensible subformat other =
    riff ++ unknown ++ wave_fmt ++ 26 ∷ 0 ∷ 0 ∷ 0 ∷ 254 ∷ 255 ∷ 1 ∷ 0 ∷ 64 ∷ 31 ∷ 0 ∷ 0 ∷ 128 ∷ 62 ∷ 0 ∷ 0 ∷ 2 ∷ 0 ∷ 16
    ∷ 0 ∷
    22 ∷ 0 ∷ 16 ∷ 0 ∷ 4 ∷ 0 ∷ other ∷ 0 ∷ subformat ∷ 0 ∷ samples ++ unknown ++ 1 ∷ 2 ∷ []

the_subformat : file_at (of_track 1) (extensible 1 3) ≡ read_whole (format 1 2 16) (pos 513 ∷ [])
unfolding extensible riff unknown wave_fmt samples format chunks_at samples_at
the_subformat = refl

another_subformat : file_at (of_track 1) (extensible 3 1) ≡ bad (fault.Format 20)
unfolding extensible riff unknown wave_fmt samples chunks_at
another_subformat = refl

-- a rate below the least that is asked for is a fault of the format, at the place of its rate
a_low_rate : file_at (record { track = 1; least_rate = 8_001; most_samples = 9 }) (riff ++ unknown ++ wave_fmt
    ++ format_with 1 2 16) ≡ bad (fault.Format 24)
unfolding riff unknown wave_fmt format_with chunks_at
a_low_rate = refl

-- and of that rate it is none; one sample too many passes the limit
one_too_many : file_at (record { track = 1; least_rate = 8_000; most_samples = 1 }) (riff ++ unknown ++ wave_fmt
    ++ format_with 1 2 16 ++ samples ++ unknown ++ 1 ∷ 2 ∷ 3 ∷ 4 ∷ [])
    ≡ record (read_whole (format 1 2 16) (pos 513 ∷ [])) { verdict = past_limit }
unfolding riff unknown wave_fmt format_with samples format chunks_at samples_at
one_too_many = refl

-- ---- files as a writer makes them

-- the same bytes by the grammar
a_written_file : file_of 42 [] (format 1 3 24) 6 ((Wide (200 ∷ []) (pos 513) ∷ [])
    ∷ (Wide (100 ∷ []) (neg_ℤ (pos 32_768)) ∷ []) ∷ []) []
    ≡ riff ++ 42 ∷ 0 ∷ 0 ∷ 0 ∷ wave_fmt ++ format_with 1 3 24 ++ samples
    ++ 6 ∷ 0 ∷ 0 ∷ 0 ∷ 200 ∷ 1 ∷ 2 ∷ 100 ∷ 0 ∷ 128 ∷ []
unfolding riff wave_fmt format_with samples format
a_written_file = refl
