use Rattle.std.proofs.Common.{◌≡◌, ◌∙◌, ◌+◌, ◌-◌, ◌++◌, false, true, ap, arith}
use Rattle.line_file.specs.Grammar.{field_bytes}
use Rattle.tc_address.specs.Label.{Address, IsLabel}
use Rattle.made_commands.specs.KeptLines.{Lining, frame_bytes}
use Rattle.made_commands.specs.MadeLines.{field_lines, field_word}
use Rattle.made_commands.proofs.MadeLinesInPieces.{frame_written}
use Rattle.made_commands.proofs.vitc_make.UnmadeLines.frame.Goals as goal

-- the two fields were written, and the next frames are left
pub returns-clause-rest : goal.returns-clause-rest
returns-clause-rest c =
    let s = c.self.inside in
    let old = c.args.room.now.items in
    let new = c.push_field-2.new.room.items in
    let fields = rw c.field_word.ensures.value at c.field_word.ensures.valid in
    let valid : IsLabel s.label = fields.label in
    let same : s.frames ≡ c.args.self.now.frames = ap (λ (l : Lining). l.frames) c.self.view_is in
    let count : s.frames - 1 + 1 ≡ s.frames = omega (arith, same, c.requires.some) in
    let first : c.push_field.new.room.items ≡ old ++ field_bytes (field_lines s.length (field_word s.label false)) =
    rw (← c.field_word.ensures.value) c.push_field.ensures.items in
    let second : new ≡ c.push_field.new.room.items ++ field_bytes (field_lines s.length (field_word s.label true)) =
    rw (← c.field_word-2.ensures.value) c.push_field-2.ensures.items in
    ap (λ (a : Address). new ++ frame_bytes s.length a (s.frames - 1)) c.advance-self-inside.ensures.label
    ∙ frame_written c.steps_add_up.ensures.none c.steps_add_up.ensures.sum s.length (s.frames - 1) s.frames s.label old
    c.push_field.new.room.items new valid
    count first second
    ∙ ap (λ (l : Lining). old ++ frame_bytes l.length l.label l.frames) c.self.view_is
