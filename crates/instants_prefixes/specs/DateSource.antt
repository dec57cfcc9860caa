-- What a source of dates reads by, and where its prefixes lie.
use Rattle.std.specs.Prelude.{ℕ, ◌≤◌, List, length}
use Rattle.instants_sources.specs.Grammar.{Grammar, grammar_of}
use Rattle.instants_prefixes.specs.declared.date_source.DateSource.{DateSource}
use Rattle.instants_prefixes.specs.declared.prefix.Prefix.{Prefix}

abbrev pub grammar_in : DateSource → Grammar
grammar_in source = grammar_of source.source

-- a prefix lies within bytes
pub record IsWithin (bytes : List ℕ) (prefix : Prefix) : Type 0 where
  pub begins : prefix.begins ≤ length bytes
  pub ends : prefix.ends ≤ length bytes
  pub zone : prefix.zone ≤ length bytes
  pub all : prefix.all ≤ length bytes
