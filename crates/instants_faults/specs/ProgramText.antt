-- What a program says on standard error, and the status that it ends with.
use Rattle.std.specs.Prelude.{ℕ, List, ◌++◌, codes}
use Rattle.std.specs.Fmt.{decimal}
use Rattle.instants_words.specs.declared.fault.WordsFault.{WordsFault}
use Rattle.instants_words.specs.declared.fault.WordsFault.TheVariants as words
use Rattle.instants_stream.specs.declared.run.RunFault.TheVariants as run
use Rattle.description_lexer.specs.Fault.{fault_of}
use Rattle.description_lexer.specs.Sentence as description
use Rattle.instants_faults.specs.declared.new_fault.NewFault.TheVariants as new
use Rattle.instants_faults.specs.declared.program_fault.ProgramFault.{ProgramFault}
use Rattle.instants_faults.specs.declared.program_fault.ProgramFault.TheVariants as program

-- what is said of a fault after a program's name, whose words are these
abbrev pub text_of : List ℕ → ProgramFault → List ℕ
text_of usage (program.Words words.Usage) = codes ": usage: " ++ usage
text_of usage (program.Words words.Target) = codes ": the target offset must be +HH:MM or -HH:MM"
text_of usage (program.Words words.Assumed) = codes ": the assumed offset must be +HH:MM, -HH:MM or -"
text_of usage (program.Words words.Limit) = codes ": the limit must be a number from 1 to 1048576"
text_of usage (program.Words (words.Source place)) = codes ": source " ++ decimal place ++ codes " is not a known source with its description"
text_of usage (program.Words words.Memory) = codes ": out of memory"
text_of usage (program.New (new.Source place fault)) = codes ": source " ++ (decimal place ++ (codes ": " ++ description.sentence (fault_of fault)))
text_of usage (program.New new.Memory) = codes ": out of memory"
text_of usage (program.Run run.Read) = codes ": reading failed"
text_of usage (program.Run run.Write) = codes ": writing failed"
text_of usage program.Memory = codes ": out of memory"

-- the sentence for a fault, without a line feed
abbrev pub sentence : ProgramFault → List ℕ
sentence fault = codes "instants" ++ text_of (codes "instants TARGET ASSUMED LIMIT SOURCE...") fault

abbrev words_status : WordsFault → ℕ
words_status words.Memory = 1
words_status _ = 2

-- 2 where the words or a description among them are wrong, 1 where memory, reading or writing failed
abbrev pub status_of : ProgramFault → ℕ
status_of (program.Words fault) = words_status fault
status_of (program.New (new.Source place fault)) = 2
status_of (program.New new.Memory) = 1
status_of (program.Run fault) = 1
status_of program.Memory = 1
