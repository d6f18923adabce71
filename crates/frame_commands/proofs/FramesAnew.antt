-- A clean recording grows by the cells of each frame, and each of its frames is read back.
use Rattle.std.proofs.Common.{◌≡◌, ℕ, List, [], ◌∷◌, ◌++◌, sym, ap, ◌∙◌, append_assoc, append-nil}
use Rattle.interval_file.specs.declared.header.FileVersion.TheVariants.{One}
use Rattle.interval_file.specs.Grammar.{intervals_bytes}
use Rattle.interval_file.specs.Piece.{spelling}
use Rattle.std.specs.List.{flat_map}
use Rattle.std.proofs.lemmas.List.Concat.{flat_map-append}
use Rattle.biphase.specs.Chain.{flat}
use Rattle.flywheel.specs.declared.frame.Frame.{Frame}
use Rattle.ltc_jam.specs.Cells.{clean_cells, intervals_of_frame, intervals_of_lead}
use Rattle.interval_file.specs.declared.header.IntervalHeader.{IntervalHeader}
use Rattle.interval_file.specs.IntervalHeader.{header_bytes}
use Rattle.tc_job.specs.Jam.{Jamming}
use Rattle.frame_commands.specs.LtcJam.{clean_file, clean_header}

-- what the law of clean recordings says
abbrev pub FrameByFrame : Type 0
FrameByFrame = (cell : ℕ) (frames : List Frame) → flat (clean_cells cell frames) ≡ intervals_of_lead cell
    ++ flat_map (intervals_of_frame cell) frames

-- the bytes of frames
abbrev pub bytes_of_frames : ℕ → List Frame → List ℕ
bytes_of_frames cell frames = intervals_bytes One (flat_map (intervals_of_frame cell) frames)

bytes_join : (a b : List ℕ) → intervals_bytes One (a ++ b) ≡ intervals_bytes One a ++ intervals_bytes One b
bytes_join a b = flat_map-append (spelling One) a b

-- the file is what comes first, and then the bytes of the frames
file_is : FrameByFrame → (j : Jamming) (header : IntervalHeader) (frames : List Frame)
    → clean_file j header frames
    ≡ (header_bytes (clean_header j header) ++ intervals_bytes One (intervals_of_lead j.cell))
    ++ bytes_of_frames j.cell frames
file_is law j header frames =
    let first = header_bytes (clean_header j header) in
    ap (λ (l : List ℕ). first ++ intervals_bytes One l) (law j.cell frames)
    ∙ ap (λ (l : List ℕ). first ++ l)
    (bytes_join (intervals_of_lead j.cell) (flat_map (intervals_of_frame j.cell) frames))
    ∙ sym (append_assoc first (intervals_bytes One (intervals_of_lead j.cell)) (bytes_of_frames j.cell frames))

-- before any frame
pub file_begins : FrameByFrame → (j : Jamming) (header : IntervalHeader) (head lead : List ℕ)
    → head ≡ header_bytes (clean_header j header)
    → lead ≡ intervals_of_lead j.cell → head ++ intervals_bytes One lead ≡ clean_file j header []
file_begins law j header head lead same first =
    ap (λ (l : List ℕ). l ++ intervals_bytes One lead) same
    ∙ ap (λ (l : List ℕ). header_bytes (clean_header j header) ++ intervals_bytes One l) first
    ∙ sym (file_is law j header []
    ∙ append-nil (header_bytes (clean_header j header) ++ intervals_bytes One (intervals_of_lead j.cell)))

-- frames more
pub file_grows : FrameByFrame → (j : Jamming) (header : IntervalHeader) (frames more : List Frame)
    → clean_file j header (frames ++ more) ≡ clean_file j header frames ++ bytes_of_frames j.cell more
file_grows law j header frames more =
    let first = header_bytes (clean_header j header) ++ intervals_bytes One (intervals_of_lead j.cell) in
    let own = intervals_of_frame j.cell in
    file_is law j header (frames ++ more)
    ∙ ap (λ (l : List ℕ). first ++ intervals_bytes One l) (flat_map-append own frames more)
    ∙ ap (λ (l : List ℕ). first ++ l) (bytes_join (flat_map own frames) (flat_map own more))
    ∙ sym (append_assoc first (bytes_of_frames j.cell frames) (bytes_of_frames j.cell more))
    ∙ ap (λ (l : List ℕ). l ++ bytes_of_frames j.cell more) (sym (file_is law j header frames))

-- the bytes of one frame, and those of the frames after it
pub bytes_of_one : (cell : ℕ) (frame : Frame) (rest : List Frame) (piece : List ℕ)
    → piece ≡ intervals_bytes One (intervals_of_frame cell frame)
    → bytes_of_frames cell (frame ∷ rest) ≡ piece ++ bytes_of_frames cell rest
bytes_of_one cell frame rest piece is =
    bytes_join (intervals_of_frame cell frame) (flat_map (intervals_of_frame cell) rest)
    ∙ ap (λ (l : List ℕ). l ++ bytes_of_frames cell rest) (sym is)

-- what was put in behind what was there
pub piece_is : (piece room first intervals own : List ℕ) → piece ≡ room → room ≡ first ++ intervals_bytes One intervals
    → first ≡ [] → intervals ≡ own
    → piece ≡ intervals_bytes One own
piece_is piece room first intervals own same put none is =
    same ∙ put ∙ ap (λ (l : List ℕ). l ++ intervals_bytes One intervals) none ∙ ap (intervals_bytes One) is
