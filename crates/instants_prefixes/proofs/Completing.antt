-- The moment of a record by the steps in which what is given completes it.
use Rattle.std.proofs.Common.{◌≡◌, Result, arith}
use Rattle.std.specs.Result.{result_ok}
use Rattle.datetime_wall.specs.Wall.{Shown}
use Rattle.parsing_combinator.specs.Fault.{Fault}
use Rattle.parsing_combinator.specs.FaultOf.{Gives, resolution_fault}
use Rattle.parsing_combinator.specs.declared.fault.TryFromParsed.{TryFromParsed}

-- what a call answered, without its fault
pub answered : (answer : Result Shown TryFromParsed) (said : Result Shown Fault) → Gives (λ m. m) resolution_fault answer said → result_ok answer ≡ result_ok said
answered answer said e = grind arith
