-- What the reading leaves is the end of what was there, and the name in its fault is short.
use Rattle.std.proofs.Common.{lit≤, ℕ, ◌||◌, Bool, true, false, cond, List, Option, Some, None, Result, Ok, Err, lit<, ℤ}
use Rattle.std.specs.Prelude.{IfErr, not, option_map}
use Rattle.base.specs.Bytes.{hyphen}
use Rattle.parsing_combinator.specs.Fault.{Fault, literal}
use Rattle.parsing_combinator.specs.Pieces.{Piece, byte}
use Rattle.parsing_combinator.specs.Readings.{Reading, then_read}
use Rattle.parsing_combinator.specs.ShortName.{HasShortName}
use Rattle.parsing_combinator.specs.Tame.{EndsWith, Leaves, Tame, IsTame}
use Rattle.parsing_combinator.proofs.lemmas.Tame.{joined, whole_end, digits_leaves, byte_leaves, skip_leaves, run_leaves, piece_tame, further, then_tame, require_tame, entered_tame}
use Rattle.parsing_iso8601.specs.declared.kind.Kind.{Kind}
use Rattle.parsing_iso8601.specs.declared.kind.Kind.TheVariants.{Unknown, Basic, Extended}
use Rattle.parsing_iso8601.specs.declared.written.WrittenDate.{WrittenDate}
use Rattle.parsing_iso8601.specs.declared.written.WrittenTime.{WrittenTime}
use Rattle.parsing_iso8601.specs.declared.written.WrittenOffset.{WrittenOffset}
use Rattle.parsing_iso8601.specs.AllOrNothing as part
use Rattle.parsing_iso8601.specs.Dates.{month_and_day, week_and_weekday, date_of_month, date_of_year, date_of_week, date_without_month, either, date_after, year_and_kind}
use Rattle.parsing_iso8601.specs.Kinds.{by_kind, kind_of_date, dash, kind_of_time}
use Rattle.parsing_iso8601.specs.Numbers.{kept, digits_within, counted, entry_of, numbered, signed_year, plain_year, year, decimal_mark, due_digits, fraction_digits, number}
use Rattle.parsing_iso8601.specs.Offsets.{offset_minute, signed_offset, offset}
use Rattle.parsing_iso8601.specs.Reading.{Dated, dated_as, dated_from, dated, or_nothing, offset_after, gathered, iso8601}
use Rattle.parsing_iso8601.specs.Times.{to_second, basic_seconds, due_second, extended_seconds, seconds, fraction_or, from_minute, minutes, from_hour, designator, time}

-- ---- pieces one after another

further_leaves : {B : Type 0} (bytes between : List ℕ) (o : Option (B × List ℕ)) → EndsWith bytes between → Leaves between o → Leaves bytes o
further_leaves bytes between None h k = tt
further_leaves bytes between (Some x) h k = joined bytes between x.1 h k

then_leaves : {A B : Type 0} (bytes : List ℕ) (o : Option (A × List ℕ)) (f : A → Piece B) → Leaves bytes o → ((x : A) (rest : List ℕ) → Leaves rest (f x rest)) → Leaves bytes (part.then_cut o f)
then_leaves bytes None f h k = tt
then_leaves bytes (Some x) f h k = further_leaves bytes x.1 (f x.0 x.1) h (k x.0 x.1)

require_leaves : (b : Bool) (bytes : List ℕ) → Leaves bytes (part.require b bytes)
require_leaves true bytes = whole_end bytes
require_leaves false bytes = tt

entered_leaves : {A B : Type 0} (bytes : List ℕ) (o : Option (A × List ℕ)) (due : A → Piece B) (other : Piece B) → Leaves bytes o → ((x : A) (rest : List ℕ) → Leaves rest (due x rest)) → Leaves bytes (other bytes) → Leaves bytes (part.entered o due other bytes)
entered_leaves bytes None due other h k m = m
entered_leaves bytes (Some x) due other h k m = further_leaves bytes x.1 (due x.0 x.1) h (k x.0 x.1)

by_kind_leaves : {A : Type 0} (kind : Kind) (unknown basic extended : Piece A) (bytes : List ℕ) → Leaves bytes (unknown bytes) → Leaves bytes (basic bytes) → Leaves bytes (extended bytes) → Leaves bytes (by_kind kind unknown basic extended bytes)
by_kind_leaves Unknown unknown basic extended bytes h k m = h
by_kind_leaves Basic unknown basic extended bytes h k m = k
by_kind_leaves Extended unknown basic extended bytes h k m = m

-- ---- numbers

passed_leaves : {A : Type 0} (b : Bool) (bytes : List ℕ) (x : A × List ℕ) → EndsWith bytes x.1 → Leaves bytes (cond b (Some x) None)
passed_leaves true bytes x h = h
passed_leaves false bytes x h = tt

kept_leaves : {A : Type 0} (p : A → Bool) (bytes : List ℕ) (o : Option (A × List ℕ)) → Leaves bytes o → Leaves bytes (kept p o)
kept_leaves p bytes None h = tt
kept_leaves p bytes (Some x) h = passed_leaves (p x.0) bytes x h

said_leaves : {A : Type 0} (bytes rest : List ℕ) (o : Option A) → EndsWith bytes rest → Leaves bytes (option_map (λ entry. (entry, rest)) o)
said_leaves bytes rest None h = tt
said_leaves bytes rest (Some x) h = h

entry_leaves : {A : Type 0} (xs : List A) (bytes : List ℕ) (o : Option (ℕ × List ℕ)) → Leaves bytes o → Leaves bytes (entry_of xs o)
entry_leaves xs bytes None h = tt
entry_leaves xs bytes (Some x) h = said_leaves bytes x.1 (counted xs x.0) h

ruleset leaving = (then_leaves, require_leaves, entered_leaves, by_kind_leaves, kept_leaves, entry_leaves, digits_leaves, run_leaves, byte_leaves, skip_leaves, whole_end, tt)

-- ---- the time of day

fraction_or_leaves : {A : Type 0} (run : Option (List ℕ)) (ends : List ℕ → Piece A) (on : Piece A) (bytes : List ℕ) → ((ds : List ℕ) → Leaves bytes (ends ds bytes)) → Leaves bytes (on bytes) → Leaves bytes (fraction_or run ends on bytes)
fraction_or_leaves None ends on bytes h k = k
fraction_or_leaves (Some ds) ends on bytes h k = h ds

time_leaves : (kind : Kind) (after_date : Bool) (bytes : List ℕ) → Leaves bytes (time kind after_date bytes)
unfolding time designator from_hour kind_of_time minutes from_minute seconds basic_seconds extended_seconds due_second to_second number fraction_digits decimal_mark due_digits
time_leaves kind after_date b0 = search (leaving, fraction_or_leaves) depth 40 fits 50000

-- ---- the offset

offset_leaves : (kind : Kind) (bytes : List ℕ) → Leaves bytes (offset kind bytes)
unfolding offset signed_offset offset_minute
offset_leaves kind bytes = search leaving depth 20 fits 5000

-- ---- the date

dash_tame : (kind : Kind) → IsTame (dash kind)
dash_tame Extended bytes = piece_tame literal bytes (byte hyphen bytes) (skip_leaves _ bytes) tt
dash_tame kind bytes = whole_end bytes

ruleset tame = (leaving, then_tame, piece_tame, require_tame, entered_tame, dash_tame, lit<, lit≤)

either_tame : {A B : Type 0} (bytes : List ℕ) (r : Result (A × List ℕ) Fault) (due : A → Reading B) (other : Fault → Reading B) → Tame bytes r → ((x : A) (rest : List ℕ) → Tame rest (due x rest)) → ((f : Fault) → HasShortName f → Tame bytes (other f bytes)) → Tame bytes (either r due other bytes)
either_tame bytes (Ok x) due other h k m = further bytes x.1 (due x.0 x.1) h (k x.0 x.1)
either_tame bytes (Err f) due other h k m = m f h

date_after_tame : (kind : Kind) (y : ℤ) → IsTame (date_after kind y)
unfolding date_after date_of_month month_and_day date_without_month date_of_year date_of_week week_and_weekday numbered digits_within
date_after_tame kind y bytes = search (tame, either_tame) depth 20 fits 50000

year_and_kind_tame : IsTame year_and_kind
unfolding year_and_kind kind_of_date year signed_year plain_year
year_and_kind_tame b0 = search tame depth 20 fits 5000

-- ---- the parts

-- tame, and so is why there is no date
abbrev TameDate : List ℕ → Result (Dated × List ℕ) Fault → Type 0
TameDate bytes (Ok x) = EndsWith bytes x.1 × IfErr x.0.0 HasShortName
TameDate bytes (Err f) = HasShortName f

dated_as_tame : (kind : Kind) (bytes between : List ℕ) (r : Result (WrittenDate × List ℕ) Fault) → EndsWith bytes between → Tame between r → TameDate bytes (dated_as kind r bytes)
dated_as_tame kind bytes between (Ok x) h t = (joined bytes between x.1 h t, tt)
dated_as_tame kind bytes between (Err f) h t = (whole_end bytes, t)

dated_from_tame : (bytes : List ℕ) (r : Result ((ℤ × Kind) × List ℕ) Fault) → Tame bytes r → TameDate bytes (dated_from r bytes)
dated_from_tame bytes (Ok x) h = dated_as_tame x.0.1 bytes x.1 (date_after x.0.1 x.0.0 x.1) h (date_after_tame x.0.1 x.0.0 x.1)
dated_from_tame bytes (Err f) h = (whole_end bytes, h)

dated_tame : (bytes : List ℕ) → TameDate bytes (dated bytes)
unfolding dated
dated_tame bytes = dated_from_tame bytes (year_and_kind bytes) (year_and_kind_tame bytes)

then_dated : {B : Type 0} (bytes : List ℕ) (r : Result (Dated × List ℕ) Fault) (f : Dated → Reading B) → TameDate bytes r → ((d : Dated) (rest : List ℕ) → IfErr d.0 HasShortName → Tame rest (f d rest)) → Tame bytes (then_read r f)
then_dated bytes (Ok x) f h k = further bytes x.1 (f x.0 x.1) h.0 (k x.0 x.1 h.1)
then_dated bytes (Err e) f h k = h

maybe_tame : {A : Type 0} (bytes : List ℕ) (o : Option (A × List ℕ)) → Leaves bytes o → Tame bytes (or_nothing o bytes)
maybe_tame bytes (Some x) h = h
maybe_tame bytes None h = whole_end bytes

if_tame : {A : Type 0} (b : Bool) (one other : Reading A) (bytes : List ℕ) → Tame bytes (one bytes) → Tame bytes (other bytes) → Tame bytes (cond b one other bytes)
if_tame true one other bytes h k = h
if_tame false one other bytes h k = k

offset_after_tame : (has_date has_time : Bool) (kind : Kind) → IsTame (offset_after has_date has_time kind)
offset_after_tame has_date has_time kind bytes =
    if_tame (has_time || not has_date) (λ rest. or_nothing (offset kind rest) rest) _ bytes (maybe_tame bytes (offset kind bytes) (offset_leaves kind bytes)) (whole_end bytes)

gathered_tame : (r : Result WrittenDate Fault) (t : Option WrittenTime) (o : Option WrittenOffset) (bytes : List ℕ) → IfErr r HasShortName → Tame bytes (gathered r t o bytes)
gathered_tame (Err f) None None bytes short = short
gathered_tame r t o bytes short = whole_end bytes

pub iso8601_tame : IsTame iso8601
unfolding iso8601
iso8601_tame b0 = search (then_dated, dated_tame, then_tame, maybe_tame, time_leaves, offset_after_tame, gathered_tame) depth 20 fits 5000
