-- Which kinds of components stand in a source.
use Rattle.std.specs.Prelude.{◌≡◌}
use Rattle.instants_sources.specs.Grammar.{Grammar}
use Rattle.instants_prefixes.specs.Kinds.{is_of}
use Rattle.instants_prefixes.specs.Reading.{is_local, stands_in}
use Rattle.instants_prefixes.specs.declared.kind.Kind.TheVariants as kind
use Rattle.instants_prefixes.specs.declared.contents.Contents.{Contents}

-- the kinds that stand in a source
pub record AreContents (grammar : Grammar) (contents : Contents) : Type 0 where
  pub unix_time : stands_in (is_of kind.UnixTime) grammar ≡ contents.has_unix_time
  pub offset_part : stands_in (is_of kind.OffsetPart) grammar ≡ contents.has_offset_part
  pub local : is_local grammar ≡ contents.is_local
