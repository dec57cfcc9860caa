-- What the reading leaves is the end of what was there, and the name in its fault is short.
use Rattle.std.proofs.Common.{lit≤, ℕ, Bool, true, false, cond, List, [], Option, Some, None, Result, lit<, sym}
use Rattle.std.specs.Prelude.{IfErr, option_map}
use Rattle.std.proofs.lemmas.List.{append-nil}
use Rattle.datetime_wall.specs.Wall.{Shown}
use Rattle.parsing_combinator.specs.FaultOf.{Gives, fault_of}
use Rattle.parsing_combinator.specs.ShortName.{HasShortName}
use Rattle.parsing_combinator.specs.Tame.{EndsWith, Leaves, IsTame}
use Rattle.parsing_combinator.specs.declared.fault.Parse.{Parse}
use Rattle.parsing_combinator.proofs.lemmas.Tame.{dropped, whole_end, digits_leaves, byte_leaves, skip_leaves, kept_leaves, piece_tame, further, then_tame, require_tame, resolved_tame, end_tame, entered_tame, value_given_short}
use Rattle.parsing_rfc2822.specs.Skips.{optional}
use Rattle.parsing_rfc2822.specs.WhiteSpace.{comments_and_white_space}
use Rattle.parsing_rfc2822.proofs.lemmas.Ends.{optional_ends, colon_ends, past_leaves, folding_ends, spacing_ends}
use Rattle.parsing_rfc2822.specs.Names.{named, weekday, month, military_zone, short_zone, zone_name}
use Rattle.parsing_rfc2822.specs.Reading.{first_or, one_or_two_digits, named_day, optional_weekday, day, full_year, short_year, year, month_and_year, hour_and_minute, due_second, second, clock, signed_zone, named_zone, zone, spaced_zone, rfc2822}
use Rattle.parsing_rfc2822.specs.Direct.{moment, moment_of, direct}

-- ---- pieces

either_leaves : {A : Type 0} (bytes : List ℕ) (one other : Option (A × List ℕ)) → Leaves bytes one → Leaves bytes other → Leaves bytes (first_or one other)
either_leaves bytes (Some x) other h k = h
either_leaves bytes None other h k = k

said_leaves : {A : Type 0} (bytes rest : List ℕ) (o : Option A) → EndsWith bytes rest → Leaves bytes (option_map (λ x. (x, rest)) o)
said_leaves bytes rest None h = tt
said_leaves bytes rest (Some x) h = h

if_leaves : {A : Type 0} (b : Bool) (bytes : List ℕ) (one other : Option (A × List ℕ)) → Leaves bytes one → Leaves bytes other → Leaves bytes (cond b one other)
if_leaves true bytes one other h k = h
if_leaves false bytes one other h k = k

named_leaves : {A : Type 0} (meaning : List ℕ → Option A) (bytes : List ℕ) → Leaves bytes (named meaning bytes)
named_leaves meaning bytes = search (if_leaves, said_leaves, dropped, tt)

nothing_left : (bytes : List ℕ) → EndsWith bytes []
nothing_left bytes = (bytes, sym (append-nil bytes))

zone_leaves : (bytes : List ℕ) → Leaves bytes (zone_name bytes)
unfolding zone_name short_zone military_zone
zone_leaves bytes = search (if_leaves, named_leaves, kept_leaves {A = ℕ} {B = ℕ} (λ c. 0), byte_leaves, nothing_left)

-- ---- readings

ruleset pieces = (digits_leaves, byte_leaves, skip_leaves, past_leaves, named_leaves, optional_ends, spacing_ends, folding_ends, colon_ends)

ruleset tame = (then_tame, piece_tame, require_tame, entered_tame, resolved_tame, end_tame, whole_end, pieces, tt, lit<, lit≤)

day_tame : (is_strict : Bool) → IsTame (day is_strict)
unfolding day optional_weekday named_day weekday one_or_two_digits
day_tame is_strict b0 =
    further b0 (optional comments_and_white_space b0) _ (optional_ends comments_and_white_space spacing_ends b0) (search (tame, either_leaves) depth 20 fits 5000)

pub rfc2822_tame : (is_strict : Bool) → IsTame (rfc2822 is_strict)
unfolding rfc2822 month_and_year month year full_year short_year clock hour_and_minute second due_second spaced_zone zone signed_zone named_zone
rfc2822_tame is_strict b0 = search (tame, day_tame, zone_leaves) depth 30 fits 50000

moment_tame : IsTame moment
unfolding moment moment_of
moment_tame b0 = search (tame, rfc2822_tame) depth 20

-- what a function returns that reads a whole text
pub given_short : (result : Result Shown Parse) (bytes : List ℕ) → Gives (λ d. d) fault_of result (direct bytes) → IfErr result (λ e. HasShortName (fault_of e))
unfolding direct
given_short result bytes given = value_given_short (λ d. d) result bytes (moment bytes) given (moment_tame bytes)
