use Rattle.std.proofs.Common.{◌≡◌, ℕ, List, Result, Ok, Err, sym, ap, ◌∙◌}
use Rattle.std.specs.Borrow.{Bor}
use Rattle.parsing_combinator.specs.declared.fault.Parse.{Parse}
use Rattle.parsing_components.specs.declared.fields.Record.{Record}
use Rattle.parsing_record.specs.Meaning.{Meaning}
use Rattle.parsing_record.specs.Record.{empty}
use Rattle.parsing_record.specs.Whole.{ReadsInto}
use Rattle.instants_sources.specs.Grammar.{grammar_of}
use Rattle.instants_sources.specs.Reading.{reading_of}
use Rattle.instants_prefixes.specs.Reading.{record_of}
use Rattle.instants_prefixes.proofs.named.record_of.Goals as goal

-- a refusal leaves the record empty
record_is : (m : Meaning) (text : List ℕ) (read : Result (Bor (List ℕ)) Parse) (old new : Record) → old ≡ empty → ReadsInto read old new (m old text) → new ≡ record_of (m empty text)
record_is m text (Ok rest) old new is e = ap record_of (sym e) ∙ ap (λ r. record_of (m r text)) is
record_is m text (Err f) old new is e = e.1 ∙ is ∙ ap record_of (sym e.0) ∙ ap (λ r. record_of (m r text)) is

pub returns : goal.returns
returns c = record_is (reading_of (grammar_of c.args.source.now)) c.args.text.now c.read_into.result c.new-parsed.result c.read_into.new.parsed c.new-parsed.ensures c.read_into.ensures.reads
