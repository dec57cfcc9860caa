use Rattle.std.proofs.Common.{◌≡◌, map, drop}
use Rattle.description_tables.specs.Lookup.{lookup}
use Rattle.description_tables.proofs.lookup.lookup.Given as goal

abbrev pub invariant-loop-name : goal.invariant-loop-name
invariant-loop-name g l = lookup l.version (map (λ entry. (entry.0.now, entry.1)) (drop l.name-index l.table)) l.word ≡ lookup l.version (map (λ entry. (entry.0.now, entry.1)) l.table) l.word
