-- What is refused from every record names no moment.
use Rattle.std.proofs.Common.{◌≡◌, List, ℕ, Option, None, Result, Ok, Err, refl, ℤ}
use Rattle.std.specs.Result.{result_ok}
use Rattle.parsing_combinator.specs.Fault.{Fault}
use Rattle.parsing_item_layouts.specs.FirstBounds.{ReadsNoneWhole}
use Rattle.parsing_record.specs.Meaning.{Meaning, Answer}
use Rattle.parsing_components.specs.declared.fields.Record.{Record}
use Rattle.parsing_record.specs.Whole.{whole, names, moment_named, starting, all_read}
use Rattle.instants_sources.specs.Named.{defaults_of}

none_named : (x : Result Record Fault) → result_ok x ≡ None → result_ok (names moment_named x) ≡ None
none_named (Ok r) e = absurd cc
none_named (Err f) e = refl

-- so does what is not read as a whole
pub none_whole : (m : Meaning) (line : List ℕ) → ReadsNoneWhole m line → (assumed : Option ℤ) → result_ok (names moment_named (whole m (defaults_of assumed) line)) ≡ None
none_whole m line none assumed = none_named (whole m (defaults_of assumed) line) (none (defaults_of assumed))

none_read : (x : Answer) → result_ok x ≡ None → result_ok (all_read x) ≡ None
none_read (Ok x) e = absurd cc
none_read (Err f) e = refl

-- what is refused from every record is not read as a whole
pub refused_whole : (m : Meaning) (line : List ℕ) → ((r : Record) → result_ok (m r line) ≡ None) → ReadsNoneWhole m line
unfolding whole
refused_whole m line none defaults = none_read (m (starting defaults) line) (none (starting defaults))

pub names_none : (m : Meaning) (line : List ℕ) → ((r : Record) → result_ok (m r line) ≡ None) → (assumed : Option ℤ) → result_ok (names moment_named (whole m (defaults_of assumed) line)) ≡ None
names_none m line none = none_whole m line (refused_whole m line none)
