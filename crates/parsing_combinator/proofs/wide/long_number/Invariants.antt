use Rattle.std.proofs.Common.{◌≡◌, ◌<◌, ◌^◌, take}
use Rattle.std.specs.Str.Parse.{digits_value}
use Rattle.parsing_combinator.proofs.wide.long_number.Given as goal

abbrev pub invariant-loop-b : goal.invariant-loop-b
invariant-loop-b l = (l.value ≡ digits_value 10 (take l.b-index l.prefix)) × (l.value < 10 ^ l.b-index)
