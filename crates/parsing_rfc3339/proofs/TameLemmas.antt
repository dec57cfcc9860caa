-- What the reading leaves is the end of what was there, and the name in its fault is short.
use Rattle.std.proofs.Common.{ℕ, Bool, List, Result, lit<, lit≤}
use Rattle.std.specs.Prelude.{IfErr}
use Rattle.datetime_wall.specs.Wall.{Shown}
use Rattle.parsing_combinator.specs.FaultOf.{Gives, fault_of}
use Rattle.parsing_combinator.specs.ShortName.{HasShortName}
use Rattle.parsing_combinator.specs.Tame.{IsTame}
use Rattle.parsing_combinator.specs.declared.fault.Parse.{Parse}
use Rattle.parsing_combinator.proofs.lemmas.Tame.{digits_leaves, byte_leaves, skip_leaves, fraction_leaves, whole_end, piece_tame, then_tame, require_tame, resolved_tame, end_tame, entered_tame, value_given_short}
use Rattle.parsing_rfc3339.specs.Reading.{date, clock, due_fraction, subsecond, zulu, signed_offset, offset, rfc3339}
use Rattle.parsing_rfc3339.specs.Direct.{moment, moment_of, direct}

ruleset tame = (then_tame, piece_tame, require_tame, entered_tame, resolved_tame, end_tame, whole_end, digits_leaves, fraction_leaves, byte_leaves, skip_leaves, tt, lit<, lit≤)

pub rfc3339_tame : (is_strict : Bool) → IsTame (rfc3339 is_strict)
unfolding rfc3339 date clock subsecond due_fraction offset zulu signed_offset
rfc3339_tame is_strict b0 = search tame depth 40 fits 50000

moment_tame : IsTame moment
unfolding moment moment_of
moment_tame b0 = search (tame, rfc3339_tame) depth 20 fits 5000

-- what a function returns that reads a whole text
pub given_short : (result : Result Shown Parse) (bytes : List ℕ) → Gives (λ d. d) fault_of result (direct bytes) → IfErr result (λ e. HasShortName (fault_of e))
unfolding direct
given_short result bytes given = value_given_short (λ d. d) result bytes (moment bytes) given (moment_tame bytes)
