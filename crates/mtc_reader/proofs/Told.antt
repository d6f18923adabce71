-- What an address gives, by whether it is a label.
use Rattle.std.proofs.Common.{◌≡◌, ℕ, Bool, true, false, cond, Ok, Err, ap}
use Rattle.tc_address.specs.declared.direction.Direction.{Direction}
use Rattle.tc_address.specs.declared.label.LabelFault.{LabelFault}
use Rattle.tc_address.specs.Label.{Address, is_label}
use Rattle.mtc_reader.specs.declared.event.MtcEvent.TheVariants.{Full, Quarter, RefusedFull, RefusedQuarter}
use Rattle.mtc_reader.specs.Events.{fault_of, full_event, label_or_fault, quarter_event}

told_by : {E : Type 0} (valid : Bool) (label a : Address) (fault : LabelFault) (gives : Address → E) (refused : E)
    → Ok label ≡ cond valid (Ok a) (Err fault) → gives label ≡ cond valid (gives a) refused
told_by true label a fault gives refused is = let same : label ≡ a = cc in ap gives same
told_by false label a fault gives refused is = absurd cc

refused_by : {E : Type 0} (valid : Bool) (fault first : LabelFault) (a : Address) (given : E) (refused : LabelFault → E)
    → Err fault ≡ cond valid (Ok a) (Err first) → refused fault ≡ cond valid given (refused first)
refused_by true fault first a given refused is = absurd cc
refused_by false fault first a given refused is = let same : fault ≡ first = cc in ap refused same

-- the label
pub quarter_told : (direction : Direction) (label a : Address) (place : ℕ) → Ok label ≡ label_or_fault a
    → Quarter direction label place ≡ quarter_event direction a place
quarter_told direction label a place is =
    told_by (is_label a) label a (fault_of a) (λ l. Quarter direction l place)
    (RefusedQuarter direction (fault_of a) place) is

-- or the first fault
pub quarter_refused : (direction : Direction) (fault : LabelFault) (a : Address) (place : ℕ)
    → Err fault ≡ label_or_fault a
    → RefusedQuarter direction fault place ≡ quarter_event direction a place
quarter_refused direction fault a place is =
    refused_by (is_label a) fault (fault_of a) a (Quarter direction a place) (λ f. RefusedQuarter direction f place) is

pub full_refused : (fault : LabelFault) (a : Address) (place : ℕ) → Err fault ≡ label_or_fault a
    → RefusedFull fault place ≡ full_event a place
full_refused fault a place is = refused_by (is_label a) fault (fault_of a) a (Full a place) (λ f. RefusedFull f place)
    is
