-- The row of a frame has the frame's label as its master, and a frame that goes on is the label after: so the master
-- moves steadily there.
use Rattle.std.proofs.Common.{◌≡◌, ℕ, zero, suc, ◌<◌, Bool, true, false, ℤ, List, [], ◌∷◌, Option, Some, None}
use Rattle.std.proofs.Common.{slice_get, refl, sym, ◌∙◌}
use Rattle.std.proofs.Common.{ap, subst}
use Rattle.std.specs.Prelude.{IfSome, if◌then◌else◌}
use Rattle.std.proofs.lemmas.Option.{same_Some}
use Rattle.tc_address.specs.declared.count.Count.{Count}
use Rattle.tc_address.specs.declared.count.Count.TheVariants.{C24, C25, C30, Drop30}
use Rattle.tc_address.specs.declared.direction.Direction.{Direction}
use Rattle.tc_address.specs.declared.direction.Direction.TheVariants.{Forward, Backward}
use Rattle.tc_address.specs.Circle.{moved}
use Rattle.tc_address.specs.Label.{Address, IsLabel}
use Rattle.tc_address.specs.Numbering.{day_length, number_of, step}
use Rattle.chase_core.specs.declared.command.Command.{Command}
use Rattle.chase_core.specs.declared.command.Master.{Master}
use Rattle.chase_core.specs.Trace.{AreRowsOf, Row, frame_in, next_of}
use Rattle.chase_core.specs.NextRow.{ReadsOn}
use Rattle.flywheel.specs.declared.frame.Frame.{Frame}
use Rattle.flywheel.specs.declared.frame.Frame.TheVariants.{Heard, Invented, Gone}
use Rattle.flywheel.specs.Frames.{is_same_count, steps_in}
use Rattle.flywheel.specs.GoOn.{Follows, GoOn, Position, goes_on, position_of}
use Rattle.generator.specs.Draw.{drawn}
use Rattle.code_chase.specs.CodeTrace.{master_at, master_of, row_of, rows_from}
use Rattle.code_chase.specs.Lock.{HaveLabels}

-- what is used of the labels of a day, which are laws
pub record DayLaws : Type 0 where
  pub number : (a : Address) (steps : ℤ) → number_of (step a steps) ≡ moved (day_length a.count) (number_of a) steps
  pub label : (a : Address) (steps : ℤ) → ((step a steps).count ≡ a.count) × IsLabel (step a steps)
  pub below : (a : Address) → IsLabel a → number_of a < day_length a.count

-- ---- masters

same_self : (c : Count) → is_same_count c c ≡ true
same_self C24 = refl
same_self C25 = refl
same_self C30 = refl
same_self Drop30 = refl

pub same_count : (a b : Count) → is_same_count a b ≡ true → a ≡ b
same_count C24 C24 e = refl
same_count C24 C25 e = absurd (cc)
same_count C24 C30 e = absurd (cc)
same_count C24 Drop30 e = absurd (cc)
same_count C25 C24 e = absurd (cc)
same_count C25 C25 e = refl
same_count C25 C30 e = absurd (cc)
same_count C25 Drop30 e = absurd (cc)
same_count C30 C24 e = absurd (cc)
same_count C30 C25 e = absurd (cc)
same_count C30 C30 e = refl
same_count C30 Drop30 e = absurd (cc)
same_count Drop30 C24 e = absurd (cc)
same_count Drop30 C25 e = absurd (cc)
same_count Drop30 C30 e = absurd (cc)
same_count Drop30 Drop30 e = refl

pub other_count : (a b : Count) → is_same_count a b ≡ false → a ≡ b → ⊥
other_count a b e same = let self = same_self a in let apart : is_same_count a a ≡ false =
    subst (λ c. is_same_count a c ≡ false) (sym same) e in cc

abbrev master_with : ℕ → Direction → Master
master_with number direction = record { number = number; direction = direction }

master_known : (count : Count) (label : Address) (direction : Direction) → label.count ≡ count →
    master_at count label direction ≡ Some (master_with (number_of label) direction)
master_known count label direction e =
    let same : is_same_count label.count count ≡ true =
    subst (λ c. is_same_count label.count c ≡ true) e (same_self label.count) in
    ap (λ b. if b then Some (master_with (number_of label) direction) else None) same

-- the master of a place
abbrev master_there : Count → Option Position → Option Master
master_there count None = None
master_there count (Some place) = master_at count place.label place.direction

master_of_place : (count : Count) (frame : Frame) → master_of count frame ≡ master_there count (position_of frame)
master_of_place count (Heard label direction joined tick) = refl
master_of_place count (Invented label direction step tick) = refl
master_of_place count (Gone tick) = refl

-- the frame has the count, if it has a place
abbrev pub HasCount : Count → Frame → Type 0
HasCount count frame = IfSome (position_of frame) (λ place. place.label.count ≡ count)

-- a master is on the day
master_below : (laws : DayLaws) (count : Count) (label : Address) (direction : Direction) (b : Bool)
    → is_same_count label.count count ≡ b → IsLabel label →
    IfSome (if b then Some (master_with (number_of label) direction) else None) (λ m. m.number < day_length count)
master_below laws count label direction true e is =
    subst (λ c. number_of label < day_length c) (same_count label.count count e) (laws.below label is)
master_below laws count label direction false e is = tt

there_below : (laws : DayLaws) (count : Count) (place : Option Position) → IfSome place (λ p. IsLabel p.label) →
    IfSome (master_there count place) (λ m. m.number < day_length count)
there_below laws count None is = tt
there_below laws count (Some place) is = master_below laws count place.label place.direction
    (is_same_count place.label.count count) refl is

-- ---- rows

-- the command of a row: only the first has one
abbrev pub command_at : Option Command → ℕ → Option Command
command_at command zero = command
command_at command (suc i) = None

none_at : (i : ℕ) → command_at None i ≡ None
none_at zero = refl
none_at (suc i) = refl

-- the frame and the value of a row
pub record RowAt (count : Count) (bound : ℕ) (command : Option Command) (frames : List Frame) (i : ℕ)
    (row : Row) : Type 0 where
  pub frame : Frame
  pub there : slice_get frames i ≡ Some frame
  pub value : ℕ
  pub is : row ≡ row_of count bound (command_at command i) value frame

pub row_at : (count : Count) (bound state : ℕ) (command : Option Command) (frames : List Frame) (i : ℕ) (row : Row) →
    slice_get (rows_from count bound state command frames) i ≡ Some row → RowAt count bound command frames i row
unfolding rows_from
row_at count bound state command [] i row e = absurd (cc)
row_at count bound state command (frame ∷ more) zero row e =
    record { frame = frame; there = refl; value = drawn state; is = cc }
row_at count bound state command (frame ∷ more) (suc i) row e =
    let rest = row_at count bound (drawn state) None more i row e in
    record {
      frame = rest.frame;
      there = rest.there;
      value = rest.value;
      is = rest.is ∙ ap (λ c. row_of count bound c rest.value rest.frame) (none_at i);
    }

-- each row is on the day
pub are_rows : (laws : DayLaws) (count : Count) (bound state : ℕ) (command : Option Command) (frames : List Frame)
    → HaveLabels frames →
    AreRowsOf count (rows_from count bound state command frames)
are_rows laws count bound state command frames have i row e =
    let at = row_at count bound state command frames i row e in
    let below = there_below laws count (position_of at.frame) (have i at.frame at.there) in
    let master : row.master ≡ master_there count (position_of at.frame) = ap (λ (r : Row). r.master) at.is
    ∙ master_of_place count at.frame in
    subst (λ (m : Option Master). IfSome m (λ x. x.number < day_length count)) (sym master) below

-- ---- from a frame to the next

pub follows_at : (before : Option Position) (frames : List Frame) (i : ℕ) (a b : Frame) → GoOn before frames →
    slice_get frames i ≡ Some a → slice_get frames (suc i) ≡ Some b → Follows (position_of a) b
follows_at before [] i a b on here later = absurd (cc)
follows_at before (f ∷ []) zero a b on here later = absurd (cc)
follows_at before (f ∷ g ∷ more) zero a b on here later =
    let follows : Follows (position_of f) g = on.1.0 in
    let after : Follows (position_of f) b = subst (λ x. Follows (position_of f) x) (same_Some g b later) follows in
    subst (λ x. Follows (position_of x) b) (same_Some f a here) after
follows_at before (f ∷ more) (suc i) a b on here later = follows_at (position_of f) more i a b on.1 here later

same_step : (direction : Direction) → steps_in direction 1 ≡ frame_in direction
same_step Forward = refl
same_step Backward = refl

-- if the next frame goes on and has the count, the next row reads on
pub row_reads_on : (laws : DayLaws) (count : Count) (bound : ℕ) (command : Option Command) (value other : ℕ)
    (a b : Frame) → Follows (position_of a) b →
    goes_on b ≡ true → HasCount count b →
    ReadsOn count (row_of count bound command value a) (row_of count bound None other b)
row_reads_on laws count bound command value other a b follows on has =
    let (place, before, after) = follows on in
    let d = place.direction in
    let next = step place.label (steps_in d 1) in
    let next_count : next.count ≡ count = subst (λ (p : Option Position).
    IfSome p (λ x. x.label.count ≡ count)) after has in
    let own_count : place.label.count ≡ count = sym (laws.label place.label (steps_in d 1)).0 ∙ next_count in
    let master = master_with (number_of place.label) d in
    let reads : master_of count a ≡ Some master =
    master_of_place count a ∙ ap (master_there count) before ∙ master_known count place.label d own_count in
    let number : number_of next ≡ moved (day_length count) (number_of place.label) (frame_in d) =
    laws.number place.label (steps_in d 1)
    ∙ ap (λ (c : Count). moved (day_length c) (number_of place.label) (steps_in d 1)) own_count
    ∙ ap (moved (day_length count) (number_of place.label)) (same_step d) in
    let steady : master_of count b ≡ Some (next_of count master) =
    master_of_place count b ∙ ap (master_there count) after ∙ master_known count next d next_count
    ∙ ap (λ n. Some (master_with n d)) number in
    record { no_command = refl; master = master; reads = reads; steady = steady }
