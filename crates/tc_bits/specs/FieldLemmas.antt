-- What holds of fields and of their parts, for the proofs of the crates above. No promise speaks of it.
use Rattle.std.proofs.Common.{◌≡◌, ℕ, ◌<◌, Bool, true, false, lit<}
use Rattle.tc_address.specs.declared.system.System.{System}
use Rattle.tc_address.specs.declared.count.Count.{Count}
use Rattle.tc_address.specs.Count.{system_with, rate_of}
use Rattle.tc_address.specs.Label.{address, is_dropped}
use Rattle.tc_bits.specs.declared.raw.RawFields.{RawFields}
use Rattle.tc_bits.specs.declared.flags.Flags.{Flags}
use Rattle.tc_bits.specs.Fields.{field_values, agrees, digits_of, Says}
use Rattle.tc_bits.specs.Table.{digit}

-- a flag is one bit
pub digit_below : (flag : Bool) → digit flag < 2
digit_below true = lit< tt
digit_below false = lit< tt

-- the parts of a word and its digits, each compared
pub said : {system : System} {count : Count} {hours minutes seconds frames : ℕ} {flags : Flags} {user : ℕ}
    {raw : RawFields}
    → hours < 24 → minutes < 60 → seconds < 60 → frames < rate_of (system_with count)
    → is_dropped (address count hours minutes seconds frames) ≡ false
    → agrees count flags.drop_frame ≡ true → system_with count ≡ system
    → digits_of (field_values (address count hours minutes seconds frames) flags user) ≡ raw
    → Says system raw (field_values (address count hours minutes seconds frames) flags user)
said h m s f counted flag count digits = record {
  valid = record { label = record { hours = h; minutes = m; seconds = s; frames = f; counted = counted }; flag = flag };
  count = count;
  digits = digits;
}
