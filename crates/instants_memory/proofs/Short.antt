-- What a line is answered by has at most 35 bytes.
use Rattle.std.proofs.Common.{◌≡◌, ℕ, ◌≤◌, Bool, true, false, cond, List, [], ◌∷◌, Option, Some, None, Result, Ok, Err, length, refl, ℤ, pos, arith, lit≤}
use Rattle.std.specs.Prelude.{IfErr, ◌==◌}
use Rattle.std.specs.Result.{result_ok}
use Rattle.calendar_count.specs.ComponentRange.{component_name, refused_component}
use Rattle.calendar_count.specs.declared.component_range.ComponentName.{ComponentName}
use Rattle.calendar_count.specs.declared.component_range.ComponentName.TheVariants.{Year, Month, Day, Ordinal, Week, JulianDay, Hour, Minute, Second, Millisecond, Microsecond, Nanosecond, Hours, Minutes, Seconds, Timestamp}
use Rattle.calendar_count.specs.declared.component_range.ComponentRange.{ComponentRange}
use Rattle.datetime_wall.specs.Wall.{Shown, instant, shown_at}
use Rattle.description_items.specs.Tree.{listed}
use Rattle.instants_answers.specs.Text.{has_written_year}
use Rattle.instants_sources.specs.Grammar.{Grammar, Described, Rfc2822, Rfc3339, Iso8601, Items, V3}
use Rattle.instants_sources.specs.Named.{named, defaults_of}
use Rattle.instants_timeline.specs.Place.{Setting, or_named, first_named, in_written_years, shown_or_refused, place_of, place_text, answer_to}
use Rattle.instants_faults.specs.Refusal.{year, refusal_of, refusal_text}
use Rattle.instants_answers.proofs.FillLemmas.{at_most_35}
use Rattle.parsing_combinator.specs.Fault.{Fault}
use Rattle.parsing_combinator.specs.Fault as fault
use Rattle.parsing_combinator.specs.ShortName.{HasShortName}
use Rattle.parsing_combinator.specs.Tame.{Tame}
use Rattle.parsing_combinator.specs.declared.fault.ParseFromDescription.TheVariants as unread
use Rattle.parsing_combinator.specs.declared.fault.Parse.{Parse}
use Rattle.parsing_combinator.specs.declared.fault.Parse.TheVariants as refused
use Rattle.parsing_combinator.proofs.lemmas.Tame.{then_tame, whole_end}
use Rattle.parsing_components.specs.Component.{reads_component, reads_component_v3}
use Rattle.parsing_components.proofs.lemmas.Tame.{component_tame, component_tame_v3}
use Rattle.parsing_iso8601.proofs.TameLemmas.{iso8601_tame}
use Rattle.parsing_record.specs.Meaning.{Answer, Meaning, meaning}
use Rattle.parsing_record.specs.Reads.{reads}
use Rattle.parsing_components.specs.declared.fields.Record.{Record}
use Rattle.parsing_record.specs.Whole.{starting, all_read, whole, names, moment_named, by_roads}
use Rattle.parsing_record.proofs.lemmas.Tame.{IsTameMeaning, tree_tame, in_turn_tame}
use Rattle.parsing_rfc2822.specs.Direct as rfc2822
use Rattle.parsing_rfc2822.proofs.TameLemmas as rfc2822_lemmas
use Rattle.parsing_rfc3339.specs.Direct as rfc3339
use Rattle.parsing_rfc3339.proofs.TameLemmas as rfc3339_lemmas
use Rattle.parsing_parsable.specs.Moment.{reads_in_turn}
use Rattle.parsing_parsable.specs.Staged.{reads_rfc2822, reads_rfc3339, reads_iso8601}
use Rattle.parsing_values.specs.NamedDate.{in_range, named_by, named_date}
use Rattle.parsing_values.specs.NamedMoment.{◌>>=◌, named_wall, dated_moment, moment_by, named_moment, unix_subsecond}
use Rattle.parsing_values.specs.NamedTime.{named_time, named_offset}
use Rattle.parsing_values.specs.declared.date_parts.DateParts.{DateParts}
use Rattle.parsing_values.specs.declared.parts.MomentParts.{MomentParts}
use Rattle.parsing_values.specs.declared.parts.OffsetParts.{OffsetParts}
use Rattle.parsing_values.specs.declared.parts.TimeParts.{TimeParts}

-- a fault, where there is one, has a short name
abbrev IsMild : {A : Type 0} → Result A Fault → Type 0
IsMild r = IfErr r HasShortName

-- ---- the values that a record names

in_range_mild : {A : Type 0} (r : Result A ComponentRange) → IsMild (in_range r)
in_range_mild (Ok x) = tt
in_range_mild (Err r) = tt

named_by_mild : {A : Type 0} (o : Option (Result A ComponentRange)) → IsMild (named_by o)
named_by_mild None = tt
named_by_mild (Some r) = in_range_mild r

then_mild : {A B : Type 0} (r : Result A Fault) (f : A → Result B Fault) → IsMild r → ((x : A) → IsMild (f x)) → IsMild (r >>= f)
then_mild (Ok x) f h k = k x
then_mild (Err e) f h k = h

date_mild : (p : DateParts) → IsMild (named_date p)
unfolding named_date
date_mild p = named_by_mild _

time_mild : (b : Bool) (p : TimeParts) → IsMild (named_time b p)
unfolding named_time
time_mild b p = named_by_mild _

offset_mild : (p : OffsetParts) → IsMild (named_offset p)
unfolding named_offset
offset_mild p = named_by_mild _

wall_mild : (b : Bool) (d : DateParts) (t : TimeParts) → IsMild (named_wall b d t)
unfolding named_wall
wall_mild b d t = then_mild (named_date d) _ (date_mild d) (λ date. then_mild (named_time b t) _ (time_mild b t) (λ time. tt))

dated_mild : (p : MomentParts) (o : OffsetParts) → IsMild (dated_moment p o)
unfolding dated_moment
dated_mild p o =
    then_mild (named_wall p.leap_second_is_permitted p.date p.time) _ (wall_mild p.leap_second_is_permitted p.date p.time) (λ wall.
    then_mild (named_offset o) _ (offset_mild o) (λ offset. in_range_mild _))

by_mild : (nanoseconds : Option ℤ) (p : MomentParts) (o : OffsetParts) → IsMild (moment_by nanoseconds p o)
by_mild None p o = dated_mild p o
by_mild (Some nanoseconds) p o =
    let read = unix_subsecond nanoseconds p.time.subsecond in
    then_mild {A = ℤ} {B = Shown} (in_range read) (λ i. Ok (record { wall = i; offset = pos 0 })) (in_range_mild read) (λ i. tt)

moment_mild : (p : MomentParts) (o : OffsetParts) → IsMild (named_moment p o)
unfolding named_moment
moment_mild p o = by_mild p.unix_nanoseconds p o

names_mild : (r : Result Record Fault) → IsMild r → IsMild (names moment_named r)
names_mild (Ok r) h = moment_mild _ _
names_mild (Err f) h = h

-- ---- what a source names

if_mild : (b : Bool) (r : Record) → IsMild (cond b (Ok r) (Err fault.trailing))
if_mild true r = tt
if_mild false r = tt

all_mild : (bytes : List ℕ) (a : Answer) → Tame bytes a → IsMild (all_read a)
all_mild bytes (Ok x) t = if_mild (length x.1 == 0) x.0
all_mild bytes (Err f) t = t

whole_mild : (m : Meaning) → IsTameMeaning m → (defaults : Option Record) (line : List ℕ) → IsMild (whole m defaults line)
unfolding whole
whole_mild m t defaults line = all_mild line (m (starting defaults) line) (t (starting defaults) line)

moment_by_mild : (m : Meaning) → IsTameMeaning m → (defaults : Option Record) (line : List ℕ) → IsMild (names moment_named (whole m defaults line))
moment_by_mild m t defaults line = names_mild (whole m defaults line) (whole_mild m t defaults line)

rfc3339_tame : IsTameMeaning reads_rfc3339
unfolding reads_rfc3339
rfc3339_tame r bytes = then_tame bytes _ _ (rfc3339_lemmas.rfc3339_tame true bytes) (λ w rest. whole_end rest)

rfc2822_tame : IsTameMeaning reads_rfc2822
unfolding reads_rfc2822
rfc2822_tame r bytes = then_tame bytes _ _ (rfc2822_lemmas.rfc2822_tame true bytes) (λ w rest. whole_end rest)

staged_tame : IsTameMeaning reads_iso8601
unfolding reads_iso8601
staged_tame r bytes = then_tame bytes _ _ (iso8601_tame bytes) (λ w rest. whole_end rest)

-- the refusal that stands for a component's fault
abbrev unread_component : List ℕ → Result Shown Parse
unread_component name = Err (refused.ParseFromDescription (unread.InvalidComponent (record { ref_ptr = (0, 0); now = name })))

mild_by : (r : Result Shown Fault) → ((name : List ℕ) → r ≡ Err (fault.component name) → length name ≤ 15) → IsMild r
mild_by (Ok x) h = tt
mild_by (Err fault.literal) h = tt
mild_by (Err (fault.component name)) h = h name refl
mild_by (Err fault.trailing) h = tt
mild_by (Err fault.insufficient) h = tt
mild_by (Err (fault.range r)) h = tt

rfc3339_mild : (line : List ℕ) → IsMild (rfc3339.direct line)
rfc3339_mild line = mild_by (rfc3339.direct line) (λ name e. rfc3339_lemmas.given_short (unread_component name) line e)

rfc2822_mild : (line : List ℕ) → IsMild (rfc2822.direct line)
rfc2822_mild line = mild_by (rfc2822.direct line) (λ name e. rfc2822_lemmas.given_short (unread_component name) line e)

roads_mild : (direct : List ℕ → Result Shown Fault) (m : Meaning) → ((line : List ℕ) → IsMild (direct line)) → IsTameMeaning m → (defaults : Option Record) (line : List ℕ) → IsMild (by_roads direct m defaults line)
roads_mild direct m h t None line = h line
roads_mild direct m h t (Some defaults) line = moment_by_mild m t (Some defaults) line

named_mild : (assumed : Option ℤ) (grammar : Grammar) (line : List ℕ) → IsMild (named assumed grammar line)
named_mild assumed (Described (Items items)) line = moment_by_mild (meaning (reads_in_turn items)) (in_turn_tame reads_component component_tame (listed items)) (defaults_of assumed) line
named_mild assumed (Described (V3 tree)) line = moment_by_mild (meaning (reads reads_component_v3 tree)) (tree_tame reads_component_v3 component_tame_v3 tree) (defaults_of assumed) line
named_mild assumed Rfc2822 line = roads_mild rfc2822.direct reads_rfc2822 rfc2822_mild rfc2822_tame (defaults_of assumed) line
named_mild assumed Rfc3339 line = roads_mild rfc3339.direct reads_rfc3339 rfc3339_mild rfc3339_tame (defaults_of assumed) line
named_mild assumed Iso8601 line = moment_by_mild reads_iso8601 staged_tame (defaults_of assumed) line

or_mild : (r : Result Shown Fault) (others : Option Shown) → IsMild r → IsMild (or_named r others)
or_mild (Ok m) others h = tt
or_mild (Err f) None h = h
or_mild (Err f) (Some m) h = tt

first_mild : (assumed : Option ℤ) (grammars : List Grammar) (line : List ℕ) → IsMild (first_named assumed grammars line)
unfolding first_named
first_mild assumed [] line = tt
first_mild assumed (grammar ∷ others) line = or_mild (named assumed grammar line) (result_ok (first_named assumed others line)) (named_mild assumed grammar line)

-- ---- answers

range_short : (c : ComponentName) → length (component_name c) ≤ 15
range_short Year = lit≤ tt
range_short Month = lit≤ tt
range_short Day = lit≤ tt
range_short Ordinal = lit≤ tt
range_short Week = lit≤ tt
range_short JulianDay = lit≤ tt
range_short Hour = lit≤ tt
range_short Minute = lit≤ tt
range_short Second = lit≤ tt
range_short Millisecond = lit≤ tt
range_short Microsecond = lit≤ tt
range_short Nanosecond = lit≤ tt
range_short Hours = lit≤ tt
range_short Minutes = lit≤ tt
range_short Seconds = lit≤ tt
range_short Timestamp = lit≤ tt

refusal_short : (f : Fault) → HasShortName f → length (refusal_text (refusal_of f)) ≤ 35
refusal_short fault.literal h = lit≤ tt
refusal_short (fault.component name) h = omega arith
refusal_short fault.trailing h = lit≤ tt
refusal_short fault.insufficient h = lit≤ tt
refusal_short (fault.range r) h = let few : length (component_name (refused_component r)) ≤ 15 = range_short (refused_component r) in omega arith

written_short : (b : Bool) (m : Shown) → length (place_text (cond b (Ok m) (Err year))) ≤ 35
written_short true m = at_most_35 m
written_short false m = lit≤ tt

pub year_short : (m : Option Shown) → length (place_text (in_written_years m)) ≤ 35
year_short None = lit≤ tt
year_short (Some m) = written_short (has_written_year m) m

place_short : (target : ℤ) (r : Result Shown Fault) → IsMild r → length (place_text (shown_or_refused target r)) ≤ 35
place_short target (Ok m) h = year_short (shown_at target (instant m))
place_short target (Err f) h = refusal_short f h

pub answer_short : (setting : Setting) (line : List ℕ) → length (answer_to setting line) ≤ 35
unfolding answer_to place_of
answer_short setting line = place_short setting.target (first_named setting.assumed setting.sources line) (first_mild setting.assumed setting.sources line)
