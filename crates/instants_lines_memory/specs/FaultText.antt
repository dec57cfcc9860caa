-- What is said of words and a zone that are refused, and the status.
use Rattle.std.specs.Prelude.{ℕ, List, ◌++◌, codes}
use Rattle.zones_file.specs.declared.fault.ZoneFault.{ZoneFault}
use Rattle.zones_file.specs.declared.fault.ZoneFault.TheVariants as zone
use Rattle.instants_lines.specs.ProgramText as lines
use Rattle.instants_lines_memory.specs.declared.open_fault.OpenFault.{OpenFault}
use Rattle.instants_lines_memory.specs.declared.open_fault.OpenFault.TheVariants.{Lines, Zone, Mode}

-- what is wrong with the bytes of a zone
abbrev pub fault_text : ZoneFault → List ℕ
fault_text zone.Long = codes "the zone has more than 65536 bytes"
fault_text zone.Header = codes "the zone does not begin as a zone's file"
fault_text zone.Version = codes "the zone's version is not known"
fault_text zone.Length = codes "the zone is cut off"
fault_text zone.LeapSeconds = codes "the zone counts leap seconds"
fault_text zone.UnknownType = codes "a transition of the zone is to nothing that is there"
fault_text zone.Offset = codes "an offset of the zone is 26 hours or more"
fault_text zone.Order = codes "the transitions of the zone are not in order"
fault_text zone.Footer = codes "the rule at the zone's end can't be read"
fault_text zone.Crossing = codes "by the rule at the zone's end the years are not in order"
fault_text zone.Disagrees = codes "the rule at the zone's end is not as its last transition"
fault_text zone.Memory = codes "out of memory"

-- the sentence for a fault, without a line feed
abbrev pub sentence : OpenFault → List ℕ
sentence (Lines fault) = lines.sentence fault
sentence (Zone fault) = codes "instants-lines: " ++ fault_text fault
sentence Mode = codes "instants-lines: the calls have modes key and carry"

-- 1 where memory ran out, else 2
abbrev pub status_of : OpenFault → ℕ
status_of (Lines fault) = lines.status_of fault
status_of (Zone zone.Memory) = 1
status_of (Zone fault) = 2
status_of Mode = 2
