-- What is asked of lines by words and the bytes of a zone's file, and why it is refused.
use Rattle.std.specs.Prelude.{◌≡◌, ◌⊎◌, ℕ, List, [], ◌∷◌, Option, None, Some, Result, Ok, Err, ⊤, false}
use Rattle.std.specs.Borrow.{Bor}
use Rattle.std.specs.Option.{option_copied}
use Rattle.zones_clock.specs.declared.zone.Zone.{Zone}
use Rattle.zones_file.specs.declared.fault.ZoneFault.TheVariants as zone
use Rattle.zones_file.specs.Faults.{fault_of}
use Rattle.zones_file.specs.Zone.{first_type, zone_letters, zone_steps}
use Rattle.instants_words.specs.declared.fault.WordsFault.TheVariants as words
use Rattle.instants_words.specs.declared.words.Words.{Words}
use Rattle.instants_timeline.specs.Sources.{IsRefusal}
use Rattle.instants_faults.specs.declared.new_fault.NewFault.TheVariants as new
use Rattle.instants_faults.specs.declared.program_fault.ProgramFault.TheVariants as program
use Rattle.instants_lines_words.specs.Asked.{Asking}
use Rattle.instants_lines_words.specs.Words.{mode_words_said}
use Rattle.instants_lines_words.specs.Wrong.{wrong_of}
use Rattle.instants_lines.specs.Going.{Going, has_keys}
use Rattle.instants_lines.specs.Lacking.{lacking_in}
use Rattle.instants_lines.specs.Opened.{begins_in}
use Rattle.instants_lines.specs.Program.{AsksFor}
use Rattle.instants_lines.specs.declared.lines_fault.LinesFault.{LinesFault}
use Rattle.instants_lines.specs.declared.lines_fault.LinesFault.TheVariants as lines
use Rattle.instants_lines_memory.specs.declared.open_fault.OpenFault.{OpenFault}
use Rattle.instants_lines_memory.specs.declared.open_fault.OpenFault.TheVariants as fault
use Rattle.instants_lines_memory.specs.declared.zoned_lines.ZonedLines.{ZonedLines}

-- a zone is that of a file
pub record IsOfFile (bytes : List ℕ) (one : Zone) : Type 0 where
  pub whole : fault_of bytes ≡ None
  pub first : one.first ≡ (first_type bytes).offset
  pub first_name : one.first_name ≡ (first_type bytes).name
  pub steps : one.steps.items ≡ zone_steps bytes
  pub letters : one.letters.items ≡ zone_letters bytes

-- the same of bytes of which there may be none
abbrev pub IsZoneIn : List ℕ → Option Zone → Type 0
IsZoneIn [] None = ⊤
IsZoneIn [] (Some one) = ⊥
IsZoneIn (byte ∷ bytes) None = ⊥
IsZoneIn (byte ∷ bytes) (Some one) = IsOfFile (byte ∷ bytes) one

-- what lines are written by at the beginning, by a reference to the zone
pub record IsBegin (zoned : ZonedLines) (begins : Going) : Type 0 where
  pub there : Option (Bor Zone)
  pub is_zone : option_copied there ≡ zoned.zone
  pub begins_is : begins ≡ begins_in zoned.lines there

-- the words and the bytes of a zone's file ask for this
pub record IsAskedBy (words : List (List ℕ)) (bytes : List ℕ) (zoned : ZonedLines) : Type 0 where
  pub zone_is : IsZoneIn bytes zoned.zone
  pub asks : (there : Option (Bor Zone)) → option_copied there ≡ zoned.zone → AsksFor words there (begins_in zoned.lines there)

-- words that are accepted
abbrev pub AreSaid : List (List ℕ) → Asking → Words → Type 0
AreSaid said asked right = mode_words_said said ≡ Ok (asked, right)

-- the words are refused so: they are wrong, the zone that they name is not there, a source can name no moment or is no description; of lack of memory nothing is said
abbrev pub AreRefused : List (List ℕ) → LinesFault → Type 0
AreRefused said (lines.Words wrong) = mode_words_said said ≡ Err (wrong_of wrong)
AreRefused said (lines.Zone name) = (asked : Asking) × (right : Words) × AreSaid said asked right × (asked.zone ≡ Some name.now)
AreRefused said (lines.Lacks lacking) = (there : Option (Bor Zone)) × (going : Going) × AsksFor said there going × (lacking_in going.search ≡ Some lacking)
AreRefused said (lines.Program (program.New (new.Source place why))) = (asked : Asking) × (right : Words) × AreSaid said asked right × IsRefusal right.sources (new.Source place why)
AreRefused said (lines.Program (program.New new.Memory)) = ⊤
AreRefused said (lines.Program (program.Words words.Memory)) = ⊤
AreRefused said (lines.Program (program.Words _)) = ⊥
AreRefused said (lines.Program (program.Run ended)) = ⊥
AreRefused said (lines.Program program.Memory) = ⊤

-- the same, or the bytes are no zone's file, or the mode has no keys
abbrev pub IsRefused : List (List ℕ) → List ℕ → OpenFault → Type 0
IsRefused said bytes (fault.Lines why) = AreRefused said why
IsRefused said bytes (fault.Zone why) = (why ≡ zone.Memory) ⊎ (fault_of bytes ≡ Some why)
IsRefused said bytes fault.Mode = (asked : Asking) × (right : Words) × AreSaid said asked right × (has_keys asked.mode ≡ false)
