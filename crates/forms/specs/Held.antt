-- The values of a list, by their places. A place without such a value gives what a word that is left out says.
use Rattle.std.specs.Prelude.{ℕ, Bool, true, false, List, Option, Some, None, slice_get}
use Rattle.std.specs.List.{list_any}
use Rattle.biphase.specs.declared.profile.Profile.{Profile}
use Rattle.biphase.specs.declared.profile.Profile.TheVariants.{Normal}
use Rattle.interval_file.specs.declared.header.FileVersion.{FileVersion}
use Rattle.interval_file.specs.declared.header.FileVersion.TheVariants.{One}
use Rattle.tc_address.specs.declared.count.Count.{Count}
use Rattle.tc_address.specs.declared.count.Count.TheVariants.{C24}
use Rattle.tc_address.specs.declared.direction.Direction.{Direction}
use Rattle.tc_address.specs.declared.direction.Direction.TheVariants.{Forward}
use Rattle.tc_address.specs.declared.system.System.{System}
use Rattle.tc_address.specs.declared.system.System.TheVariants.{F24}
use Rattle.tc_address.specs.Label.{Address}
use Rattle.tc_job.specs.declared.witness.Witness.{Witness}
use Rattle.tc_job.specs.declared.witness.Witness.TheVariants.{NotAsked}
use Rattle.forms.specs.declared.value.Said.TheVariants as says
use Rattle.forms.specs.declared.value.Value.{Value}
use Rattle.forms.specs.declared.value.Value.TheVariants as values

-- the number at a place
abbrev pub number_of : ℕ → Option Value → ℕ
number_of other (Some (values.Number n)) = n
number_of other _ = other

abbrev pub number_or : List Value → ℕ → ℕ → ℕ
number_or values place other = number_of other (slice_get values place)

-- the seed
abbrev pub seed_of : Option Value → ℕ
seed_of (Some (values.Seed n)) = n
seed_of _ = 0

abbrev pub seed_at : List Value → ℕ → ℕ
seed_at values place = seed_of (slice_get values place)

-- the label
abbrev pub label_of : Option Value → Option Address
label_of (Some (values.Label label)) = Some label
label_of _ = None

abbrev pub label_in : List Value → ℕ → Option Address
label_in values place = label_of (slice_get values place)

-- the first label of a day stands where there is none
abbrev pub or_midnight : Option Address → Address
or_midnight (Some label) = label
or_midnight None = record { count = C24; hours = 0; minutes = 0; seconds = 0; frames = 0 }

abbrev pub label_at : List Value → ℕ → Address
label_at values place = or_midnight (label_in values place)

-- the count
abbrev pub count_of : Option Value → Count
count_of (Some (values.Said (says.Count count))) = count
count_of _ = C24

abbrev pub count_at : List Value → ℕ → Count
count_at values place = count_of (slice_get values place)

-- the system
abbrev pub system_of : Option Value → System
system_of (Some (values.Said (says.System system))) = system
system_of _ = F24

abbrev pub system_at : List Value → ℕ → System
system_at values place = system_of (slice_get values place)

-- the direction
abbrev pub direction_of : Option Value → Direction
direction_of (Some (values.Said (says.Direction direction))) = direction
direction_of _ = Forward

abbrev pub direction_at : List Value → ℕ → Direction
direction_at values place = direction_of (slice_get values place)

-- the tolerance, and else the normal one
abbrev pub tolerance_of : Option Value → Profile
tolerance_of (Some (values.Said (says.Tolerance profile))) = profile
tolerance_of _ = Normal

abbrev pub tolerance_at : List Value → ℕ → Profile
tolerance_at values place = tolerance_of (slice_get values place)

-- what each word is asked for, and else nothing
abbrev pub witness_of : Option Value → Witness
witness_of (Some (values.Said (says.Witness witness))) = witness
witness_of _ = NotAsked

abbrev pub witness_at : List Value → ℕ → Witness
witness_at values place = witness_of (slice_get values place)

-- the version
abbrev pub version_of : Option Value → FileVersion
version_of (Some (values.Said (says.Version version))) = version
version_of _ = One

abbrev pub version_at : List Value → ℕ → FileVersion
version_at values place = version_of (slice_get values place)

-- one of the words is `live`
abbrev pub is_live_value : Value → Bool
is_live_value (values.Said says.Live) = true
is_live_value _ = false

abbrev pub has_live : List Value → Bool
has_live values = list_any is_live_value values
