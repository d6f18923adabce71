use Rattle.std.proofs.Common.{◌≡◌, ◌+◌, ◌++◌, ◌∷◌, [], ℕ, List, length, refl, ap, sym, ◌∙◌, arith, append-nil, None}
use Rattle.std.proofs.Common.{append_assoc, subst}
use Rattle.std.specs.Prelude.{All}
use Rattle.std.proofs.lemmas.List.Elements.{All-head, All-tail}
use Rattle.direction_reader.specs.Firm.{DoNotFall}
use Rattle.flywheel.specs.declared.frame.Frame.{Frame}
use Rattle.flywheel.specs.declared.heard.HeardWord.{HeardWord}
use Rattle.flywheel.specs.StandsFor as flies
use Rattle.flywheel.specs.Wheel.{Wheel, IsInRange}
use Rattle.frame_commands.specs.declared.frames.Frames.{Frames}
use Rattle.frame_commands.specs.Hearing.{due_at, word_ticks}
use Rattle.frame_commands.specs.KeptFlight.{counted}
use Rattle.frame_commands.proofs.FramesInOrder.{not_heard, one_counted}
use Rattle.frame_commands.proofs.NextFrame.{due_end, due_fits, due_turn, heard_later, none_due}
use Rattle.frame_commands.proofs.NextFrame.{turn_due, turn_end}
use Rattle.frame_commands.proofs.frames.Frames.next.Goals as goal

-- the tick at which a frame may be due
pub passed-requires-clause-below : goal.passed-requires-clause-below
passed-requires-clause-below c =
    let f = c.args.self.now in
    let turns = c.requires.1.turns in
    let end = due_end f.words turns.from c.args.until turns.turn in
    let below = c.requires.1.below in
    let is = c.due_at.ensures in
    omega (arith, is, end, below)

pub passed-requires-clause-not_before : goal.passed-requires-clause-not_before
passed-requires-clause-not_before c =
    let f = c.args.self.now in
    let turns = c.requires.1.turns in
    rw c.due_at.ensures (heard_later f.wheel turns.from (due_at f.words c.args.until)
    (turn_due f.words turns.from c.args.until turns.turn) turns.heard_by)

-- a frame that is due
pub returns-in-Some : goal.returns-in-Some
returns-in-Some c =
    let f = c.args.self.now in
    let until = c.args.until in
    let frame = c.in-Some.frame in
    let tick = c.due_at.result in
    let is = c.due_at.ensures in
    let e = c.count.ensures in
    let last = c.count.new.self in
    let mid : Frames = record f { wheel = c.passed.new.self } in
    let kind = not_heard frame tick mid c.in-Some.ensures.past in
    let sum = kind.1 in
    let heard : last.heard ≡ f.heard = ap (λ (r : Frames). r.heard) e.counted ∙ kind.0 in
    let invented = ap (λ (r : Frames). r.invented) e.counted in
    let gone = ap (λ (r : Frames). r.gone) e.counted in
    let fewer = c.in-Some.ensures.fewer in
    let g = c.requires.1 in
    let turns = g.turns in
    let end = due_end f.words turns.from until turns.turn in
    let below = g.below in
    record {
      ready = λ most giving.
          let fits = giving.fits in
          let few = giving.few in
          record {
            within = giving.within;
            below = giving.below;
            fits = rw e.wheel (omega (arith, sum, invented, gone, heard, fits, fewer));
            few = rw e.words (omega (arith, heard, few));
            waiting = rw e.words giving.waiting;
            turns = record {
              from = tick;
              heard_by = rw e.wheel c.passed.ensures.not_before;
              turn = rw (e.words, is) (due_turn f.words turns.from until turns.turn);
            };
          };
      limit = ap (λ (w : Wheel). w.limit) e.wheel ∙ c.passed.ensures.limit;
      line = due_fits frame tick c.in-Some.ensures.past (omega (arith, is, end, below));
      counted = one_counted f mid last frame refl refl refl e.counted;
      fewer = rw (e.words, e.wheel) (omega (arith, fewer));
      gives = λ words given has.
          record {
            heard = has.heard;
            are = rw e.words has.are;
            earlier = tick;
            before = rw e.words (omega (arith, is));
            wheel = rw e.wheel (c.in-Some.ensures.stands has.heard has.earlier given has.wheel (rw is has.before));
          };
      none = λ no. absurd cc;
    }

-- the next word may be heard: it comes behind the last one, and nothing is due at its tick
pub heard-frame-requires-clause-range : goal.heard-frame-requires-clause-range
heard-frame-requires-clause-range c =
    let word = c.in_ok-word.word in
    let rest = c.next.new.self in
    All-head IsInRange word rest
    (subst (λ (ws : List HeardWord). All IsInRange ws) c.in_ok-word.ensures.takes c.requires.1.waiting)

pub heard-frame-requires-clause-not_before : goal.heard-frame-requires-clause-not_before
heard-frame-requires-clause-not_before c =
    let same : c.due_at.result ≡ c.in_ok-word.word.tick =
    c.due_at.ensures ∙ ap (λ (ws : List HeardWord). due_at ws c.args.until) c.in_ok-word.ensures.takes in
    rw (← same) c.passed.ensures.not_before

pub heard-frame-requires-clause-nothing_due : goal.heard-frame-requires-clause-nothing_due
heard-frame-requires-clause-nothing_due c =
    let f = c.args.self.now in
    let d = c.in_default.ensures in
    let same : c.due_at.result ≡ c.in_ok-word.word.tick =
    c.due_at.ensures ∙ ap (λ (ws : List HeardWord). due_at ws c.args.until) c.in_ok-word.ensures.takes in
    let none = none_due f.wheel.reference f.wheel.invented f.wheel.limit c.due_at.result None c.passed.new.self
    d.invented d.gone refl in
    rw (← same, (d.none none).1) none

-- no word waits, and all was given
pub returns-in_err-word-clause-ready : goal.returns-in_err-word-clause-ready
returns-in_err-word-clause-ready c = λ most giving.
    let f = c.args.self.now in
    let d = c.in_default.ensures in
    let none = none_due f.wheel.reference f.wheel.invented f.wheel.limit c.due_at.result None c.passed.new.self
    d.invented d.gone refl in
    let wheel = (d.none none).1 in
    let rest : c.next.new.self ≡ [] = c.in_err-word.ensures.none refl in
    let nothing : f.words ≡ [] = c.in_err-word.ensures.takes ∙ rest in
    let same : c.next.new.self ≡ f.words = rest ∙ sym nothing in
    let turns = giving.turns in
    record {
      within = giving.within;
      below = giving.below;
      fits = rw wheel giving.fits;
      few = rw same giving.few;
      waiting = rw same giving.waiting;
      turns = record { from = turns.from; heard_by = rw wheel turns.heard_by; turn = rw same turns.turn };
    }

pub returns-in_err-word-clause-none : goal.returns-in_err-word-clause-none
returns-in_err-word-clause-none c = λ is.
    let f = c.args.self.now in
    let d = c.in_default.ensures in
    let none = none_due f.wheel.reference f.wheel.invented f.wheel.limit c.due_at.result None c.passed.new.self
    d.invented d.gone refl in
    let turns = c.requires.1.turns in
    rw ((d.none none).1) (heard_later f.wheel turns.from c.args.until
    (turn_end (word_ticks f.words) turns.from c.args.until turns.turn) turns.heard_by)

pub returns-in_err-word-clause-gives : goal.returns-in_err-word-clause-gives
returns-in_err-word-clause-gives c = λ words given has.
    let f = c.args.self.now in
    let until = c.args.until in
    let rest : c.next.new.self ≡ [] = c.in_err-word.ensures.none refl in
    let nothing : f.words ≡ [] = c.in_err-word.ensures.takes ∙ rest in
    let is : c.due_at.result ≡ until = c.due_at.ensures ∙ ap (λ (ws : List HeardWord). due_at ws until) nothing in
    let wheel = c.passed.new.self in
    let same : words ≡ has.heard =
    has.are ∙ ap (λ (ws : List HeardWord). has.heard ++ ws) nothing ∙ append-nil has.heard in
    let all = c.in_default.ensures.stands has.heard has.earlier given has.wheel (rw c.due_at.ensures has.before) in
    rw c.from_residual.ensures (subst (λ (ws : List HeardWord). flies.HasGivenAll wheel ws until given) (sym same)
    (subst (λ (t : ℕ). flies.HasGivenAll wheel has.heard t given) is all))

-- the frame of the next word
pub returns : goal.returns
returns c =
    let f = c.args.self.now in
    let until = c.args.until in
    let frame = c.heard-frame.result in
    let e = c.count-2.ensures in
    let h = c.heard-frame.ensures in
    let last = c.count-2.new.self in
    let word = c.in_ok-word.word in
    let rest = c.next.new.self in
    let takes = c.in_ok-word.ensures.takes in
    let size = ap (λ (ws : List HeardWord). length ws) takes in
    let same : c.due_at.result ≡ word.tick =
    c.due_at.ensures ∙ ap (λ (ws : List HeardWord). due_at ws until) takes in
    let mid : Frames = record f { wheel = c.heard-frame.new.self; words = rest } in
    let is = e.counted ∙ ap (λ (x : Frame). counted x mid) h.frame in
    let heard : last.heard ≡ f.heard + 1 = ap (λ (r : Frames). r.heard) is in
    let invented : last.invented ≡ f.invented = ap (λ (r : Frames). r.invented) is in
    let gone : last.gone ≡ f.gone = ap (λ (r : Frames). r.gone) is in
    let left = h.left in
    let g = c.requires.1 in
    let all = subst (λ (ws : List HeardWord). All IsInRange ws) takes g.waiting in
    let tick = (All-head IsInRange word rest all).tick in
    let turns = g.turns in
    let turn = subst (λ (ws : List HeardWord). DoNotFall turns.from (word_ticks ws) until) takes turns.turn in
    record {
      ready = λ most giving.
          let fits = giving.fits in
          let few = giving.few in
          record {
            within = giving.within;
            below = giving.below;
            fits = rw e.wheel (omega (arith, invented, gone, heard, fits, left));
            few = rw e.words (omega (arith, heard, few, size));
            waiting = rw e.words (All-tail IsInRange word rest all);
            turns = record {
              from = word.tick;
              heard_by = rw (e.wheel, h.reference) (omega arith);
              turn = rw e.words turn.1;
            };
          };
      limit = ap (λ (w : Wheel). w.limit) (e.wheel ∙ h.reference) ∙ c.passed.ensures.limit;
      line = rw h.frame (omega (arith, tick));
      counted = one_counted f mid last frame refl refl refl e.counted;
      fewer = rw (e.words, e.wheel) (omega (arith, size, left));
      gives = λ words given has.
          let due = c.in_default.ensures.stands has.heard has.earlier given has.wheel (rw c.due_at.ensures has.before)
          in
          let given_all = h.stands has.heard c.due_at.result given due.0 (omega (arith, same)) in
          record {
            heard = has.heard ++ word ∷ [];
            are = rw e.words (has.are ∙ ap (λ (ws : List HeardWord). has.heard ++ ws) takes
                ∙ sym (append_assoc has.heard (word ∷ []) rest));
            earlier = word.tick;
            before = rw e.words (turn_due rest word.tick until turn.1);
            wheel = rw e.wheel given_all.0;
          };
      none = λ no. absurd cc;
    }
