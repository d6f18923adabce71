-- Each note begins as `help statuses` says of its exit number.
use Rattle.std.proofs.Common.{◌++◌, refl}
use Rattle.std.specs.Prelude.{codes, decimal}
use Rattle.tc_command.specs.InputFault.{fault_text}
use Rattle.tc_command.specs.Notes.{stop_note, usage_note}
use Rattle.tc_command.specs.Status.{status_of, status_of_words}
use Rattle.tc_command.specs.declared.stop.Stop.{Stop}
use Rattle.tc_command.specs.declared.stop.Stop.TheVariants as stops
use Rattle.tc_job.specs.declared.fault.WordsFault.{WordsFault}
use Rattle.tc_job.specs.declared.fault.WordsFault.TheVariants as words
use Rattle.made_commands.specs.Pages.{exit_numbers}
use Rattle.made_commands.specs.Statuses.{BeginsWith, told_note}

pub stop_told : (stop : Stop) → BeginsWith (told_note (status_of stop)) (stop_note stop)
unfolding exit_numbers
stop_told (stops.Refused fault) = (fault_text fault ++ codes "\n", refl)
stop_told stops.ReadFault = (codes "\n", refl)
stop_told stops.WriteFault = (codes "\n", refl)
stop_told stops.Limit = (codes "\n", refl)

pub words_told : (fault : WordsFault) → BeginsWith (told_note (status_of_words fault)) (usage_note fault)
unfolding exit_numbers
words_told (words.Dash place) = (codes "dash in word " ++ decimal place ++ codes "\n", refl)
words_told words.Command = (codes "command\n", refl)
words_told words.CountOfWords = (codes "count of words\n", refl)
words_told (words.Value place) = (codes "value of word " ++ decimal place ++ codes "\n", refl)
words_told (words.Memory error) = (codes "\n", refl)
