use Rattle.description_lexer.specs.Views.{rest_of}
use Rattle.description_grammar.specs.Reading.{optional_at, first_at, nested_at}
use Rattle.description_grammar.proofs.Refusals.{no_optional, no_first, is_refused}
use Rattle.description_grammar.proofs.flat.element.Goals as goal

pub refused-requires : goal.refused-requires
refused-requires c = is_refused _ c.optional.result (optional_at c.args.version (nested_at c.args.version 127) c.args.here.index (rest_of c.in-Optional.rest)) (λ x. no_optional c.args.version (nested_at c.args.version 127) c.args.here.index (rest_of c.in-Optional.rest) x c.requires.version) c.optional.ensures.value

pub refused-requires-in-First : goal.refused-requires-in-First
refused-requires-in-First c = is_refused _ c.first.result (first_at c.args.version (nested_at c.args.version 127) c.args.here.index (rest_of c.in-First.rest)) (λ x. no_first c.args.version (nested_at c.args.version 127) c.args.here.index (rest_of c.in-First.rest) x c.requires.version) c.first.ensures.value
