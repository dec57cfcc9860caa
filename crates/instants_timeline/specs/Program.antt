-- What the program does between its words and its end.
use Rattle.std.specs.Prelude.{◌≡◌, ◌≢◌, ℕ, Option, None, Some, List, Result, Ok, Err, ⊤}
use Rattle.instants_stream.specs.declared.run.RunFault.{RunFault}
use Rattle.instants_words.specs.declared.fault.WordsFault.TheVariants as words
use Rattle.instants_words.specs.declared.words.Words.{Words}
use Rattle.instants_words.specs.Words.{words_said}
use Rattle.instants_timeline.specs.Place.{Setting}
use Rattle.instants_timeline.specs.Sources.{AllMean, IsRefusal}
use Rattle.instants_faults.specs.declared.new_fault.NewFault.TheVariants as new
use Rattle.instants_faults.specs.declared.program_fault.ProgramFault.{ProgramFault}
use Rattle.instants_faults.specs.declared.program_fault.ProgramFault.TheVariants as program
use Rattle.instants_faults.specs.declared.runs_fault.RunsFault.{RunsFault}
use Rattle.instants_faults.specs.declared.runs_fault.RunsFault.TheVariants as runs

-- how many bytes a program reads at once where they are there, beside those of a line
abbrev pub block : ℕ
block = 65_536

-- the setting that words ask for: what their sources mean, one by one, their target and their assumed offset
pub record Asks (words : Words) (setting : Setting) : Type 0 where
  pub sources : AllMean words.sources setting.sources
  pub target : setting.target ≡ words.target
  pub assumed : setting.assumed ≡ words.assumed

-- the words ask for this setting, and for this limit of a line
pub record AsksFor (words : List (List ℕ)) (setting : Setting) (limit : ℕ) : Type 0 where
  pub said : Words
  pub is_said : words_said words ≡ Ok said
  pub asks : Asks said setting
  pub limit_is : limit ≡ said.limit

-- how the run ended, where one was begun
abbrev pub run_of : Result (Unit {0}) ProgramFault → Option (Result (Unit {0}) RunFault)
run_of (Ok done) = Some (Ok done)
run_of (Err (program.Run fault)) = Some (Err fault)
run_of (Err (program.Words fault)) = None
run_of (Err (program.New fault)) = None
run_of (Err program.Memory) = None

-- how a run of a program ended, where it was begun
abbrev pub ended_of : Result (Unit {0}) RunsFault → Option (Result (Unit {0}) RunFault)
ended_of (Ok done) = Some (Ok done)
ended_of (Err (runs.Run fault)) = Some (Err fault)
ended_of (Err runs.Memory) = None

-- a fault that comes before anything is read or written
abbrev pub IsBeforeRun : ProgramFault → Type 0
IsBeforeRun (program.Run fault) = ⊥
IsBeforeRun _ = ⊤

-- memory ran out
abbrev pub IsMemory : ProgramFault → Type 0
IsMemory (program.Words words.Memory) = ⊤
IsMemory (program.Words _) = ⊥
IsMemory (program.Run fault) = ⊥
IsMemory (program.New new.Memory) = ⊤
IsMemory (program.New (new.Source place fault)) = ⊥
IsMemory program.Memory = ⊤

-- the words are refused so: they are wrong, or a source among them is no description and is the first such one; of lack of memory nothing is said
abbrev pub IsRefusedAs : List (List ℕ) → ProgramFault → Type 0
IsRefusedAs said (program.Words fault) = fault ≢ words.Memory → words_said said ≡ Err fault
IsRefusedAs said (program.New fault) = (asked : Words) × (words_said said ≡ Ok asked) × IsRefusal asked.sources fault
IsRefusedAs said (program.Run fault) = ⊥
IsRefusedAs said program.Memory = ⊤
