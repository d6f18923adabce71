-- What a line of vertical interval time code says, in numbers. They are this project's own.
use Rattle.std.specs.Prelude.{◌≡◌, ℕ, List, Result, Ok, Err}
use Rattle.tc_address.specs.declared.system.System.{System}
use Rattle.tc_address.specs.Count.{system_with}
use Rattle.tc_bits.specs.Fields.{IsFields}
use Rattle.vitc_line.specs.declared.word.LineFault.TheVariants.{SyncPair, Check, Field}
use Rattle.vitc_line.specs.declared.word.VitcWord.{VitcWord}
use Rattle.vitc_line.specs.Places.{HasLines}
use Rattle.vitc_reader.specs.declared.fault.ReadFault.{ReadFault}
use Rattle.vitc_reader.specs.declared.fault.ReadFault.TheVariants.{Runs, Line}
use Rattle.vitc_reader.specs.declared.fault.RunFault.TheVariants.{Run, TooLong}
use Rattle.vitc_reader.specs.Runs.{IsLineLength, MayBeLine}
use Rattle.tc_c.specs.CEvent.{fault_number, flag_bits}
use Rattle.tc_c.specs.CLabel.{c_label, c_no_label, MeansLabel}
use Rattle.tc_c.specs.CSettings.{system_number}
use Rattle.tc_c.specs.declared.line.TcLine.{TcLine}
use Rattle.tc_c.specs.declared.word.TcWord.{TcWord}

-- a fault of a line, in the order in which they are looked for: of its runs, of its sync pairs, of its check, and of
-- its fields, which have the numbers of a word's
abbrev pub line_fault_number : ReadFault → ℕ
line_fault_number (Runs (Run run)) = 13
line_fault_number (Runs (TooLong run)) = 14
line_fault_number (Line (SyncPair pair)) = 15
line_fault_number (Line (Check residue)) = 16
line_fault_number (Line (Field fault)) = fault_number fault

-- the place of a fault: that of the run or of the sync pair, or the residue of the check
abbrev pub line_fault_place : ReadFault → ℕ
line_fault_place (Runs (Run run)) = run
line_fault_place (Runs (TooLong run)) = run
line_fault_place (Line (SyncPair pair)) = pair
line_fault_place (Line (Check residue)) = residue
line_fault_place (Line (Field fault)) = 0

-- a word of a line, whose field mark stands among the flags where a word of 80 bits has its balance
abbrev pub c_line_word : VitcWord → TcWord
c_line_word word = record {
  label = c_label word.fields.label;
  flags = flag_bits word.fields.flags word.field_mark;
  user = word.fields.user;
}

-- the numbers mean this word of a line, and its pictures have such lines
pub record MeansLineWord (numbers : TcWord) (word : VitcWord) : Type 0 where
  pub lines : HasLines (system_with word.fields.label.count)
  pub fields : IsFields word.fields
  pub label : MeansLabel numbers.label word.fields.label
  pub flags : flag_bits word.fields.flags word.field_mark ≡ numbers.flags
  pub user : word.fields.user ≡ numbers.user

-- the numbers that stand where there is no word
abbrev pub c_no_word : TcWord
c_no_word = record { label = c_no_label; flags = 0; user = 0 }

-- what a line says
abbrev pub c_line : Result VitcWord ReadFault → TcLine
c_line (Ok word) = record { place = 0; fault = 0; word = c_line_word word }
c_line (Err fault) =
    record { place = line_fault_place fault; fault = line_fault_number fault; word = c_no_word }

-- the number names this system, and its pictures have lines with time code
abbrev pub NamesLines : ℕ → System → Type 0
NamesLines number system = (system_number system ≡ number) × HasLines system

-- a line may be read: its system has such lines, it has a length of one, and its runs are as many as one may have
pub record MayBeRead (system length : ℕ) (runs : List ℕ) : Type 0 where
  pub named : (s : System) × NamesLines system s
  pub long : IsLineLength length
  pub counted : MayBeLine runs
