-- What a component says is of the component's kinds.
use Rattle.std.proofs.Common.{◌≡◌, ◌||◌, ℕ, Bool, true, false, List, ◌∷◌, length, drop, Option, Some, None, Result, Ok, Err, refl}
use Rattle.std.specs.Prelude.{nat_le, is_some, option_map, codes, if◌then◌else◌}
use Rattle.std.proofs.lemmas.Bool.{or_right}
use Rattle.description_modifiers.specs.declared.choices.TrailingInput.{TrailingInput}
use Rattle.description_modifiers.specs.declared.choices.TrailingInput.TheVariants as trailing_input
use Rattle.description_items.specs.declared.component.Component.{Component}
use Rattle.description_items.specs.declared.component.Component.TheVariants as component
use Rattle.description_items.specs.Modern.{modern}
use Rattle.parsing_combinator.specs.Fault.{Fault}
use Rattle.parsing_combinator.specs.Fault as fault
use Rattle.parsing_combinator.specs.Readings.{piece_or}
use Rattle.parsing_combinator.specs.Shape.{Shape, taken}
use Rattle.parsing_components.specs.Ranged.{kept, says}
use Rattle.parsing_components.specs.Component.{ignored, offset_piece, time_piece, year_piece, date_piece, component_name, at_end, begins_character, if_whole, reads_modern, reads_component, reads_component_v3}
use Rattle.parsing_components.specs.Put.{put}
use Rattle.parsing_components.specs.Record.{empty}
use Rattle.parsing_components.specs.declared.fields.Record.{Record}
use Rattle.parsing_components.specs.declared.said.Read.{Read}
use Rattle.parsing_components.specs.declared.said.Read.TheVariants as read
use Rattle.instants_prefixes.specs.Kinds.{is_newer, is_saying}
use Rattle.std.specs.Prelude.{IfSome}
use Rattle.instants_prefixes.specs.declared.kind.Kind.{Kind}
use Rattle.instants_prefixes.specs.declared.kind.Kind.TheVariants as kind

-- a part of a kind is in a record
abbrev pub holds : Record → Kind → Bool
holds r kind.UnixTime = is_some r.unix_timestamp_nanos
holds r kind.OffsetHour = is_some r.offset_hour
holds r kind.OffsetPart = is_some r.offset_hour || is_some r.offset_minute || is_some r.offset_second
holds r kind.Year = is_some r.year
holds r kind.IsoYear = is_some r.iso_year
holds r kind.Century = is_some r.year_century || is_some r.iso_year_century
holds r kind.LastTwo = is_some r.year_last_two || is_some r.iso_year_last_two
holds r kind.Month = is_some r.month
holds r kind.Day = is_some r.day
holds r kind.Ordinal = is_some r.ordinal
holds r kind.Week = is_some r.sunday_week_number || is_some r.monday_week_number
holds r kind.IsoWeek = is_some r.iso_week_number
holds r kind.Weekday = is_some r.weekday
holds r kind.Hour24 = is_some r.hour_24
holds r kind.Hour12 = is_some r.hour_12
holds r kind.Half = is_some r.hour_12_is_pm
holds r kind.Minute = is_some r.minute
holds r kind.Second = is_some r.second
holds r kind.Subsecond = is_some r.subsecond
holds r kind.Saying = false

-- what is said is of these kinds
abbrev pub IsOf : (Kind → Bool) → Read → Type 0
IsOf kinds said = (k : Kind) → holds (put said empty) k ≡ kinds k

pub nothing_held : (k : Kind) → holds empty k ≡ false
nothing_held kind.Year = refl
nothing_held _ = refl

-- what is put is there then, and all that was there
pub put_holds : (said : Read) (k : Kind) (r : Record) → holds (put said r) k ≡ (holds (put said empty) k || holds r k)
put_holds (read.OffsetMinute n) kind.OffsetPart r = rw (or_right (is_some r.offset_hour) true refl) refl
put_holds (read.OffsetSecond n) kind.OffsetPart r = or_right (is_some r.offset_hour || is_some r.offset_minute) true refl
put_holds (read.IsoYearCentury c n) kind.Century r = or_right (is_some r.year_century) true refl
put_holds (read.IsoYearLastTwo n) kind.LastTwo r = or_right (is_some r.year_last_two) true refl
put_holds (read.MondayWeek n) kind.Week r = or_right (is_some r.sunday_week_number) true refl
put_holds _ kind.UnixTime r = refl
put_holds _ _ r = refl

abbrev EachPrefix : (Kind → Bool) → Option (Read × List ℕ) → Type 0
EachPrefix kinds o = IfSome o (λ prefix. IsOf kinds prefix.0)

kept_each : {A : Type 0} (kinds : Kind → Bool) (f : A → Option Read) (o : Option (A × List ℕ)) → ((x : A) (rest : List ℕ) → EachPrefix kinds (option_map (λ y. (y, rest)) (f x))) → EachPrefix kinds (kept f o)
kept_each kinds f None h = tt
kept_each kinds f (Some x) h = h x.0 x.1

says_each : {A : Type 0} (kinds : Kind → Bool) (f : A → Option Read) (shape : Shape A) (bytes : List ℕ) → ((x : A) (rest : List ℕ) → EachPrefix kinds (option_map (λ y. (y, rest)) (f x))) → EachPrefix kinds (says f (taken shape) bytes)
says_each kinds f shape bytes h = kept_each kinds f (taken shape bytes) h

if_each : (kinds : Kind → Bool) (b : Bool) (said : Read) (rest : List ℕ) → IsOf kinds said → EachPrefix kinds (option_map (λ y. (y, rest)) (if b then Some said else None))
if_each kinds true said rest h = h
if_each kinds false said rest h = tt

map_each : {A : Type 0} (kinds : Kind → Bool) (make : A → Read) (o : Option A) (rest : List ℕ) → ((x : A) → IsOf kinds (make x)) → EachPrefix kinds (option_map (λ y. (y, rest)) (option_map make o))
map_each kinds make None rest h = tt
map_each kinds make (Some x) rest h = h x

pub piece_each : (c : Component) (bytes : List ℕ) → is_saying c ≡ true → EachPrefix (is_newer c) (date_piece c bytes)
unfolding date_piece year_piece time_piece offset_piece
piece_each (component.Ignore m) bytes e = absurd cc
piece_each c bytes e = search (says_each, if_each, map_each, tt)
