-- A text that says the layout of RFC 3339 is read by its definition, and names the moment of its values.
use Rattle.std.proofs.Common.{◌≡◌, ℕ, zero, suc, ◌<◌, ◌≤◌, ◌∙◌, Bool, true, false, List, [], ◌∷◌, ◌++◌, Option, Some, None, Result, Ok, ℤ, pos, refl, sym, ap, arith}
use Rattle.std.specs.Option.{unwrap_or}
use Rattle.std.specs.Prelude.{◌==◌, ◌||◌, ◌*ℤ◌}
use Rattle.std.specs.Char.{is_ascii_digit}
use Rattle.std.proofs.lemmas.Bool.Decides.{nat_tests}
use Rattle.base.specs.Bytes.{plus, hyphen, dot, upper_z, lower_z}
use Rattle.parsing_combinator.specs.Fault.{Fault}
use Rattle.parsing_combinator.specs.Pieces.{digits, byte, skip_of}
use Rattle.parsing_combinator.specs.declared.zone.Zone.{Zone}
use Rattle.parsing_values.specs.declared.fields.Fields.{Fields}
use Rattle.parsing_values.specs.Moment as Moment
use Rattle.parsing_layout.specs.Layout.{Values, Says}
use Rattle.parsing_layout.specs.declared.parts.Part.{Part}
use Rattle.parsing_shapes.specs.Moment.{HasOffset, SaysTailed}
use Rattle.parsing_shapes.specs.Tail.{fraction_parts, zone_parts, small_parts}
use Rattle.parsing_layout.specs.declared.parts.Field.TheVariants as field
use Rattle.parsing_layout.specs.declared.parts.Part.TheVariants as part
use Rattle.parsing_layout.proofs.LayoutLemmas.{says_first}
use Rattle.parsing_layout.proofs.PieceLemmas.{literal_said, fraction_read, byte_is, sign_is}
use Rattle.parsing_places.specs.Tail.{is_written, is_zulu}
use Rattle.parsing_places.specs.declared.ending.Ending.{Ending}
use Rattle.parsing_places.specs.declared.ending.Ending.TheVariants.{Zulu, Colon, Plain}
use Rattle.parsing_values.specs.Resolution.{signed_offset_of}
use Rattle.parsing_rfc3339.specs.Direct.{direct}
use Rattle.parsing_rfc3339.specs.Layout.{date_parts, clock_parts, front_parts}
use Rattle.parsing_rfc3339.specs.Reading.{date, clock, subsecond, due_fraction, zulu, signed_offset, offset}
use Rattle.parsing_rfc3339.proofs.FastLemmas.{fields_read}

-- ---- the date and the time of day

date_read : (bytes rest : List ℕ) (v : Values) → Says date_parts bytes v rest → 1 ≤ v field.Month → date false bytes ≡ Ok ((v field.Year, v field.Month, v field.Day), rest)
unfolding date
date_read bytes rest v says some = grind (arith, nat_tests)

clock_read : (bytes rest : List ℕ) (v : Values) → Says clock_parts bytes v rest → clock false bytes ≡ Ok ((v field.Hour, v field.Minute, v field.Second), rest)
unfolding clock
clock_read bytes rest v says = grind (arith, nat_tests)

-- ---- the fraction

-- these are the nanoseconds of the fraction that is read, or 0 for none, and this is the rest
abbrev ReadsNanosecond : List ℕ → ℕ → List ℕ → Type 0
ReadsNanosecond bytes nanosecond rest = (read : Option ℕ) × (subsecond bytes ≡ Ok (read, rest)) × (unwrap_or read 0 ≡ nanosecond)

-- neither a digit nor a point stands here, so that a fraction, or none, can end before these bytes
abbrev FollowsFraction : List ℕ → Type 0
FollowsFraction bytes = (digits 1 bytes ≡ None) × (byte dot bytes ≡ None)

-- one digit at least follows a point
some_digits : (count : ℕ) → (suc count ≡ 1 → ⊥) → 0 < count
some_digits count more = grind (arith, nat_tests)

subsecond_read : (bytes rest : List ℕ) (v : Values) (count : ℕ) → (count ≡ 1 → ⊥) → (count ≡ 0 → v field.Nanosecond ≡ 0) → Says (fraction_parts count) bytes v rest → FollowsFraction rest → ReadsNanosecond bytes (v field.Nanosecond) rest
unfolding subsecond due_fraction
subsecond_read bytes rest v zero more none says follows = rw (says, none refl) (None, rw follows.1 refl, refl)
subsecond_read bytes rest v (suc count) more none says follows =
    let read = says.2 in
    (Some (v field.Nanosecond), rw (literal_said _ _ says.1, fraction_read says.0 rest count (v field.Nanosecond) (some_digits count more) (rw read.2 at read.1) follows.0) refl, refl)

-- ---- the offset

-- a zone is all that was there, and these are its minutes
abbrev IsAllOffset : Result (Zone × List ℕ) Fault → ℤ → Type 0
IsAllOffset read minutes = (zone : Zone) × (read ≡ Ok (zone, [])) × (signed_offset_of zone.is_negative zone.hours zone.minutes ≡ Ok (pos 60 *ℤ minutes))

-- what says a zone ends a fraction, and is read as its offset
abbrev pub ReadsZone : Bool → List Part → Type 0
ReadsZone is_utc zone = (bytes : List ℕ) (v : Values) (o : ℤ) → Says zone bytes v [] → HasOffset is_utc v o → FollowsFraction bytes × IsAllOffset (offset false bytes) o

other_follows : (c : ℕ) (rest : List ℕ) → is_ascii_digit c ≡ false → (c == dot) ≡ false → FollowsFraction (c ∷ rest)
unfolding digits skip_of
other_follows c rest no_digit no_point = (rw no_digit refl, rw no_point refl)

letter_read : (c : ℕ) → ((c == upper_z) || (c == lower_z)) ≡ true → offset false (c ∷ []) ≡ Ok (record { is_named = true; is_negative = false; hours = 0; minutes = 0 }, [])
unfolding offset zulu skip_of
letter_read c is = rw is refl

-- `Z` or `z`
letter_zone : (c : ℕ) → ((c == upper_z) || (c == lower_z)) ≡ true → ReadsZone true (part.Byte c ∷ [])
letter_zone c is bytes v o says value =
    let all : bytes ≡ c ∷ [] = byte_is c bytes says.0 (literal_said _ _ says.1) ∙ ap (λ (r : List ℕ). c ∷ r) says.2 in
    (rw all (other_follows c [] (grind (arith, nat_tests)) (grind (arith, nat_tests))), (record { is_named = true; is_negative = false; hours = 0; minutes = 0 }, rw all (letter_read c is), value))

no_letter : (c : ℕ) (rest : List ℕ) → ((c == plus) || (c == hyphen)) ≡ true → offset false (c ∷ rest) ≡ signed_offset false (c ∷ rest)
unfolding offset zulu skip_of
no_letter c rest e = grind (arith, nat_tests)

signed_read : (bytes : List ℕ) (v : Values) → Says (zone_parts Colon) bytes v [] → v field.OffsetHour ≤ 23 → signed_offset false bytes ≡ Ok (record { is_named = false; is_negative = v field.Sign == hyphen; hours = v field.OffsetHour; minutes = v field.OffsetMinute }, [])
unfolding signed_offset
signed_read bytes v says few = grind (arith, nat_tests)

-- `+05:30`
colon_zone : ReadsZone false (zone_parts Colon)
colon_zone bytes v o says value =
    let mark = sign_is bytes says.0 (v field.Sign) says.1 in
    let marked = mark.is in (
      rw mark.all (other_follows (v field.Sign) says.0 (grind (arith, nat_tests)) (grind (arith, nat_tests))),
      (record { is_named = false; is_negative = v field.Sign == hyphen; hours = v field.OffsetHour; minutes = v field.OffsetMinute }, ap (offset false) mark.all ∙ no_letter (v field.Sign) says.0 mark.is ∙ ap (signed_offset false) (sym mark.all) ∙ signed_read bytes v says value.0, value.1),
    )

pub small_zone : ReadsZone true small_parts
small_zone = letter_zone lower_z refl

pub some_zone : (e : Ending) → is_written true e ≡ true → ReadsZone (is_zulu e) (zone_parts e)
some_zone Zulu w = letter_zone upper_z refl
some_zone Colon w = colon_zone
some_zone Plain w = absurd cc

-- ---- the whole

pub text_read : (is_utc : Bool) (zone : List Part) (text : List ℕ) (f : Fields) → ReadsZone is_utc zone → SaysTailed front_parts is_utc zone text f → direct text ≡ Ok (Moment.moment_of f)
text_read is_utc zone text f reads m =
    let said = m.moment in
    let v = said.values in
    let tail = fraction_parts m.bytes ++ zone in
    let d = says_first date_parts (part.Any ∷ clock_parts ++ tail) text [] v said.says in
    let between = d.2 in
    let c = says_first clock_parts tail between.0 [] v between.2 in
    let n = says_first (fraction_parts m.bytes) zone c.0 [] v c.2 in
    let z = reads n.0 v f.offset n.2 said.offset_is in
    let some : 1 ≤ v field.Month = omega (arith, f.day_is_there.1, said.numbers.same_month) in
    fields_read f text d.0 between.0 c.0 n.0 (v field.Year, v field.Month, v field.Day) (v field.Hour, v field.Minute, v field.Second) (v field.Nanosecond) f.offset
    (date_read text d.0 v d.1 some) (literal_said _ _ between.1) (clock_read between.0 c.0 v c.1)
    (subsecond_read c.0 n.0 v m.bytes m.more m.none n.1 z.0) z.1 said.numbers said.hour_few said.minute_few said.fraction_few
