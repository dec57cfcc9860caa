-- Where a line says nothing, or nothing is given, there is no doubt.
use Rattle.std.proofs.Common.{◌≡◌, Bool, true, false, ℕ, ℤ, List, Option, None, refl, sym, arith, drop}
use Rattle.std.specs.Prelude.{is_some, not, ◌||◌, if◌then◌else◌}
use Rattle.std.proofs.Math.Bool.{and-false}
use Rattle.std.proofs.lemmas.Bool.Decides.{nat_tests}
use Rattle.parsing_components.specs.declared.fields.Record.{Record}
use Rattle.instants_sources.specs.Grammar.{Grammar}
use Rattle.instants_prefixes.specs.Reading.{record_at}
use Rattle.instants_prefixes.specs.declared.prefix.Prefix.{Prefix}
use Rattle.instants_prefixes.specs.declared.given.Given.{Given}
use Rattle.instants_prefixes.specs.declared.given.Years.TheVariants.{Unknown}
use Rattle.instants_found.specs.Beside.{joined, otherwise, why, doubt_by}
use Rattle.instants_found.specs.declared.beside.Said.{Said}
use Rattle.instants_found.specs.declared.doubt.Doubt.{Doubt}
use Rattle.instants_found.specs.declared.zoned.Settled.{Settled}

none_of : (unix : Bool) (o : Option Doubt) → o ≡ None → None ≡ (if unix then None else o)
none_of true o e = refl
none_of false o e = sym e

pub says_nothing : (read : Record) (said : Said) → not (said.offset || said.half || said.clock || said.year) ≡ true → None ≡ doubt_by read said
says_nothing read said e =
    let offset : said.offset ≡ false = grind (arith, nat_tests) in
    let half : said.half ≡ false = grind (arith, nat_tests) in
    let clock : said.clock ≡ false = grind (arith, nat_tests) in
    let year : said.year ≡ false = grind (arith, nat_tests) in
    rw (offset, half, clock, year) (simp and-false (none_of (is_some read.unix_timestamp_nanos) _ refl))

pub nothing_otherwise : (given : Given) (offset : Option ℤ) (read : Record) (line : List ℕ) (start : ℕ) (prefix : Prefix) → is_some offset ≡ false → given.years ≡ Unknown → is_some given.time ≡ false → None ≡ otherwise given offset read line start prefix
unfolding otherwise
nothing_otherwise given offset read line start prefix none years time = rw (none, years, time) (simp and-false (none_of (is_some read.unix_timestamp_nanos) _ refl))

pub nothing_why : (given : Given) (grammar : Grammar) (line : List ℕ) (start : ℕ) (date : Settled) → None ≡ joined line start date.prefix → None ≡ date.doubt → is_some date.offset ≡ false → given.years ≡ Unknown → is_some given.time ≡ false → None ≡ why given grammar line start date
unfolding why
nothing_why given grammar line start date e doubt offset years time = rw (sym e, sym doubt) (nothing_otherwise given date.offset (record_at grammar (drop start line)) line start date.prefix offset years time)
