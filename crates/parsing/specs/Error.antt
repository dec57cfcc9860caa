-- Any refusal, and its text.
use Rattle.std.specs.Prelude.{ℕ, List, codes}
use Rattle.calendar_count.specs.ComponentRange.{range_text}
use Rattle.description_lexer.specs.Sentence.{sentence}
use Rattle.description_lexer.specs.Fault.{fault_of}
use Rattle.parsing_combinator.specs.FaultOf.{reading_fault, resolution_fault}
use Rattle.parsing_combinator.specs.FaultText.{fault_text}
use Rattle.parsing_combinator.specs.declared.fault.Parse.{Parse}
use Rattle.parsing_combinator.specs.declared.fault.Parse.TheVariants as parse
use Rattle.parsing.specs.declared.error.Error.{Error}
use Rattle.parsing.specs.declared.error.Error.TheVariants as error

-- a refusal of a reading
abbrev pub error_of : Parse → Error
error_of (parse.TryFromParsed e) = error.TryFromParsed e
error_of (parse.ParseFromDescription e) = error.ParseFromDescription e

abbrev pub error_text : Error → List ℕ
error_text (error.ConversionRange e) = codes "value out of range for the target type"
error_text (error.ComponentRange e) = range_text e
error_text (error.TryFromParsed e) = fault_text (resolution_fault e)
error_text (error.ParseFromDescription e) = fault_text (reading_fault e)
error_text (error.InvalidFormatDescription e) = sentence (fault_of e)
error_text (error.DifferentVariant e) = codes "value was of a different variant"
error_text (error.InvalidVariant e) = codes "value was not a valid variant"
