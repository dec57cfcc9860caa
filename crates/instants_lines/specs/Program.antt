-- What the program does between its words and its end.
use Rattle.std.specs.Prelude.{◌≡◌, ℕ, List, Option, None, Some, Result, Ok, Err, IsOk, ⊤}
use Rattle.std.specs.Borrow.{Bor}
use Rattle.zones_clock.specs.declared.zone.Zone.{Zone}
use Rattle.instants_stream.specs.Steps.{by_steps}
use Rattle.instants_stream.specs.Writing.{Writing}
use Rattle.instants_stream.specs.declared.run.RunFault.{RunFault}
use Rattle.instants_words.specs.declared.fault.WordsFault.TheVariants as words
use Rattle.instants_words.specs.declared.words.Words.{Words}
use Rattle.instants_timeline.specs.Place.{Setting}
use Rattle.instants_timeline.specs.Program.{Asks}
use Rattle.instants_timeline.specs.Program as instants
use Rattle.instants_faults.specs.declared.program_fault.ProgramFault.TheVariants as program
use Rattle.instants_lines.specs.Going.{Going, lines_steps, near}
use Rattle.instants_lines.specs.Asked.{begins_by, zone_lacking}
use Rattle.instants_lines_words.specs.Words.{mode_words_said}
use Rattle.instants_lines_words.specs.Wrong.{Wrong, wrong_of}
use Rattle.instants_lines_words.specs.Asked.{Asking}
use Rattle.instants_lines_words.specs.declared.words_fault.ModeWordsFault.{ModeWordsFault}
use Rattle.instants_lines_words.specs.declared.words_fault.ModeWordsFault.TheVariants as fault
use Rattle.instants_lines.specs.declared.lines_fault.LinesFault.{LinesFault}
use Rattle.instants_lines.specs.declared.lines_fault.LinesFault.TheVariants as lines

-- the words ask for this beginning, with the zone that they name, if they name one
pub record AsksFor (words : List (List ℕ)) (zone : Option (Bor Zone)) (going : Going) : Type 0 where
  pub asked : Asking
  pub said : Words
  pub is_said : mode_words_said words ≡ Ok (asked, said)
  pub setting : Setting
  pub asks : Asks said setting
  pub has_zone : zone_lacking asked.zone zone ≡ None
  pub begins : going ≡ begins_by asked zone setting said.limit

-- the same fault of the words as one of the program
abbrev pub of_words : ModeWordsFault → LinesFault
of_words (fault.Wrong wrong) = lines.Words wrong
of_words fault.Memory = lines.Program program.Memory

-- how the run ended, where one was begun
abbrev pub run_of : Result (Unit {0}) LinesFault → Option (Result (Unit {0}) RunFault)
run_of (Ok done) = Some (Ok done)
run_of (Err (lines.Words wrong)) = None
run_of (Err (lines.Zone name)) = None
run_of (Err (lines.Lacks lacking)) = None
run_of (Err (lines.Program fault)) = instants.run_of (Err fault)

-- a fault that comes before anything is read or written
abbrev pub IsBeforeRun : LinesFault → Type 0
IsBeforeRun (lines.Words wrong) = ⊤
IsBeforeRun (lines.Zone name) = ⊤
IsBeforeRun (lines.Lacks lacking) = ⊤
IsBeforeRun (lines.Program fault) = instants.IsBeforeRun fault

-- what is wrong with the words, where that ended the program
abbrev pub wrong_in : {A : Type 0} → Result A LinesFault → Option Wrong
wrong_in (Ok done) = None
wrong_in (Err (lines.Words wrong)) = Some (wrong_of wrong)
wrong_in (Err (lines.Zone name)) = None
wrong_in (Err (lines.Lacks lacking)) = None
wrong_in (Err (lines.Program fault)) = None

-- the words are wrong
abbrev pub IsOfWords : LinesFault → Type 0
IsOfWords (lines.Words wrong) = ⊤
IsOfWords (lines.Zone name) = ⊥
IsOfWords (lines.Lacks lacking) = ⊥
IsOfWords (lines.Program (program.Words words.Memory)) = ⊥
IsOfWords (lines.Program (program.Words _)) = ⊤
IsOfWords (lines.Program _) = ⊥

-- memory ran out
abbrev pub IsMemory : LinesFault → Type 0
IsMemory (lines.Words wrong) = ⊥
IsMemory (lines.Zone name) = ⊥
IsMemory (lines.Lacks lacking) = ⊥
IsMemory (lines.Program fault) = instants.IsMemory fault

-- the words are refused so: they are wrong, or there is no memory for a list of words that are accepted
abbrev pub IsReportedAs : List (List ℕ) → LinesFault → Type 0
IsReportedAs words (lines.Words wrong) = mode_words_said words ≡ Err (wrong_of wrong)
IsReportedAs words (lines.Zone name) = ⊥
IsReportedAs words (lines.Lacks lacking) = ⊥
IsReportedAs words (lines.Program program.Memory) = IsOk (mode_words_said words)
IsReportedAs words (lines.Program _) = ⊥

-- what is written for a stream, from this beginning on
abbrev pub writing : Going → Writing
writing going = by_steps lines_steps going (near going.mode going.search)
