-- What the program says on standard error, and the status that it ends with: of a fault that `instants` has too, what that says.
use Rattle.std.specs.Prelude.{ℕ, List, ◌++◌, codes}
use Rattle.std.specs.Fmt.{decimal}
use Rattle.instants_faults.specs.ProgramText.{text_of}
use Rattle.instants_faults.specs.ProgramText as instants
use Rattle.instants_lines_words.specs.Wrong.{wrong_of}
use Rattle.instants_lines_words.specs.WrongText.{wrong_text}
use Rattle.instants_prefixes.specs.declared.lacks.Lack.{Lack}
use Rattle.instants_prefixes.specs.declared.lacks.Lack.TheVariants.{Year, Day, Time, Offset}
use Rattle.instants_lines.specs.declared.lacking.Lacking.{Lacking}
use Rattle.instants_lines.specs.declared.lines_fault.LinesFault.{LinesFault}
use Rattle.instants_lines.specs.declared.lines_fault.LinesFault.TheVariants as lines

-- what a source lacks
abbrev pub lack_word : Lack → List ℕ
lack_word Year = codes "year"
lack_word Day = codes "day"
lack_word Time = codes "time of day"
lack_word Offset = codes "offset"

-- the sentence for a source that lacks something, after the name of the program
abbrev pub lacking_text : Lacking → List ℕ
lacking_text lacking = codes "source " ++ (decimal lacking.place ++ (codes " names no moment: it has no " ++ lack_word lacking.lack))

-- the sentence for a fault, without a line feed
abbrev pub sentence : LinesFault → List ℕ
sentence (lines.Words wrong) = codes "instants-lines: " ++ wrong_text (wrong_of wrong)
sentence (lines.Zone name) = codes "instants-lines: \"" ++ (name.now ++ codes "\": there is no such zone")
sentence (lines.Lacks lacking) = codes "instants-lines: " ++ lacking_text lacking
sentence (lines.Program fault) = codes "instants-lines" ++ text_of (codes "instants-lines MODE [TARGET [ASSUMED [LIMIT]]] [year N] [time HH:MM] [field NAME | column N [separator S]] [label TEXT] SOURCE...") fault

-- 2 where the words or a description among them are wrong, the zone is not there or a source names no moment, 1 where memory, reading or writing failed
abbrev pub status_of : LinesFault → ℕ
status_of (lines.Words wrong) = 2
status_of (lines.Zone name) = 2
status_of (lines.Lacks lacking) = 2
status_of (lines.Program fault) = instants.status_of fault
