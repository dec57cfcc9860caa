use Rattle.instants_sources.specs.Grammar.{Described, written}
use Rattle.instants_sources.proofs.Form.{by_description}
use Rattle.instants_found.specs.Keys.{IsKeyOf, NeedsKey}
use Rattle.instants_found.specs.declared.key.Key.{Key}
use Rattle.instants_found.proofs.SourceKeys.{if_some, described_key, year_key}
use Rattle.instants_found.proofs.source_key.key_of.Goals as goal

pub returns-in-Items-clause-key : goal.returns-in-Items-clause-key
returns-in-Items-clause-key c =
    let written = written c.in-Items.described.description in
    let first_bytes = c.first_bytes.result.now in
    rw (by_description _ _ c.in-Items.is)
    (if_some (IsKeyOf first_bytes) (λ (key : Key). NeedsKey key (Described written)) c.key_of_first_bytes.result (described_key written first_bytes c.first_bytes.ensures) c.key_of_first_bytes.ensures.key)

pub returns-in-Rfc3339-clause-key : goal.returns-in-Rfc3339-clause-key
returns-in-Rfc3339-clause-key c = rw c.in-Rfc3339.is year_key
