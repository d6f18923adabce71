use Rattle.std.proofs.Common.{◌+◌, None, ap, subst, refl, ◌∙◌}
use Rattle.std.specs.declared.option.Option.{Option}
use Rattle.std.specs.Prelude.{reverse}
use Rattle.std.specs.List.{cons_option}
use Rattle.mtc_reader.specs.declared.message.Message.{Message}
use Rattle.mtc_reader.specs.Events.{event_with}
use Rattle.mtc_reader.specs.Messages.{messages_in, without_real_time}
use Rattle.mtc_reader.specs.StandsFor.{KeepsRow}
use Rattle.mtc_reader.proofs.Sounding.{gives_silent, gives_sounding, stands_silent, stands_sounding}
use Rattle.mtc_reader.proofs.reader.MtcReader.byte.Goals as goal

-- a real-time byte
pub returns-then-byte-ge-REAL_TIME-clause-stands : goal.returns-then-byte-ge-REAL_TIME-clause-stands
returns-then-byte-ge-REAL_TIME-clause-stands c = λ bytes stands.
    let s = c.args.self.now in
    stands_silent s (record s { bytes = s.bytes + 1 }) bytes c.args.byte c.if-byte-ge-REAL_TIME.true refl refl refl
    stands

pub returns-then-byte-ge-REAL_TIME-clause-gives : goal.returns-then-byte-ge-REAL_TIME-clause-gives
returns-then-byte-ge-REAL_TIME-clause-gives c = λ bytes stands. gives_silent bytes c.args.byte
    c.if-byte-ge-REAL_TIME.true

-- a message is complete
pub returns-in-Some-clause-stands : goal.returns-in-Some-clause-stands
returns-in-Some-clause-stands c = λ bytes stands.
    let s = c.args.self.now in
    let seen = without_real_time (reverse bytes) in
    stands_sounding s (record { bytes = s.bytes + 1; message = c.take.new.self; row = c.take-in-Some.new.self }) bytes
    c.args.byte
    c.if-byte-ge-REAL_TIME.false refl c.take.ensures.keeps
    (subst (λ (m : Option Message). KeepsRow c.take-in-Some.new.self (cons_option m (messages_in seen)))
    (c.in-Some.ensures.completes seen stands.message)
    (c.take-in-Some.ensures.keeps (messages_in seen) stands.row)) stands

pub returns-in-Some-clause-gives : goal.returns-in-Some-clause-gives
returns-in-Some-clause-gives c = λ bytes stands.
    let s = c.args.self.now in
    let seen = without_real_time (reverse bytes) in
    gives_sounding bytes c.args.byte s.bytes c.take-in-Some.result c.if-byte-ge-REAL_TIME.false stands.count
    (c.take-in-Some.ensures.gives (messages_in seen) stands.row
    ∙ ap (λ (m : Option Message). event_with m (messages_in seen) s.bytes)
    (c.in-Some.ensures.completes seen stands.message))

-- none is
pub returns-in-None-clause-stands : goal.returns-in-None-clause-stands
returns-in-None-clause-stands c = λ bytes stands.
    let s = c.args.self.now in
    let seen = without_real_time (reverse bytes) in
    stands_sounding s (record s { bytes = s.bytes + 1; message = c.take.new.self }) bytes c.args.byte
    c.if-byte-ge-REAL_TIME.false refl
    c.take.ensures.keeps
    (subst (λ (m : Option Message). KeepsRow s.row (cons_option m (messages_in seen)))
    (c.in-None.ensures.completes seen stands.message) stands.row) stands

pub returns-in-None-clause-gives : goal.returns-in-None-clause-gives
returns-in-None-clause-gives c = λ bytes stands.
    let seen = without_real_time (reverse bytes) in
    gives_sounding bytes c.args.byte c.args.self.now.bytes None c.if-byte-ge-REAL_TIME.false stands.count
    (ap (λ (m : Option Message). event_with m (messages_in seen) c.args.self.now.bytes)
    (c.in-None.ensures.completes seen stands.message))
