-- A source of items and one of version 3 read as their descriptions do.
use Rattle.std.proofs.Common.{◌≡◌, ◌⊎◌, inl, inr, ap}
use Rattle.instants_sources.specs.Grammar.{Described, grammar_of, written}
use Rattle.instants_sources.specs.declared.described.Described as declared
use Rattle.instants_sources.specs.declared.source.Source.{Source}
use Rattle.instants_sources.specs.declared.source.Source.TheVariants.{Items, V3}

pub by_description : (source : Source) (described : declared.Described) → (source ≡ Items described) ⊎ (source ≡ V3 described) → grammar_of source ≡ Described (written described.description)
by_description source described (inl is) = ap grammar_of is
by_description source described (inr is) = ap grammar_of is
