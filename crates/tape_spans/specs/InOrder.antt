-- The ticks of spans in the order of their lines: where each begins, and where it ends.
use Rattle.std.specs.Prelude.{ℕ, ◌≤◌, List, [], ◌∷◌}
use Rattle.std.specs.List.{flat_map}
use Rattle.flywheel.specs.declared.frame.Frame.{Frame}
use Rattle.flywheel.specs.declared.frame.Frame.TheVariants.{Heard, Invented, Gone}
use Rattle.tape_spans.specs.declared.span.Span.{Span}

-- ticks that do not fall, from a tick to another
abbrev pub DoNotFall : ℕ → List ℕ → ℕ → Type 0
DoNotFall first [] last = first ≤ last
DoNotFall first (tick ∷ more) last = (first ≤ tick) × DoNotFall tick more last

-- the tick of a frame that was heard
abbrev pub tick_heard : Frame → List ℕ
tick_heard (Heard label direction joined tick) = tick ∷ []
tick_heard (Invented label direction step tick) = []
tick_heard (Gone tick) = []

-- the ticks of the frames that were heard
abbrev pub heard_ticks : List Frame → List ℕ
heard_ticks frames = flat_map tick_heard frames

-- the ticks of spans, two each
abbrev pub span_ticks : List Span → List ℕ
span_ticks spans = flat_map (λ span. span.first.tick ∷ span.last.tick ∷ []) spans
