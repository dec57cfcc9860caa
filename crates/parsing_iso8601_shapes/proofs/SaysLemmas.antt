-- A text that says a layout is read by the definition of ISO 8601, and names the moment of its numbers.
use Rattle.std.proofs.Common.{◌≡◌, ℕ, ◌+◌, ◌*◌, ◌<◌, ◌≤◌, Bool, true, leb, List, [], drop, get_or, refl, arith}
use Rattle.std.proofs.lemmas.List.{get_or-drop}
use Rattle.parsing_values.specs.Moment as Moment
use Rattle.parsing_values.specs.Numbers.{HaveNumbers}
use Rattle.parsing_values.specs.declared.fields.Fields.{Fields}
use Rattle.parsing_iso8601.specs.Fractions.{next_if}
use Rattle.parsing_iso8601.specs.Moment.{IsOfOffset}
use Rattle.parsing_layout.specs.Layout.{Says, length_of}
use Rattle.parsing_shapes.specs.Numbers.{SaysNumbers, second_if}
use Rattle.parsing_shapes.specs.Tail.{fraction_parts, zone_parts}
use Rattle.parsing_shapes.specs.declared.numbers.Numbers.{Numbers}
use Rattle.parsing_layout.specs.declared.parts.Field.TheVariants as field
use Rattle.parsing_layout.proofs.LayoutLemmas.{says_first}
use Rattle.parsing_places.specs.Tail.{is_zulu}
use Rattle.parsing_places.specs.declared.ending.Ending.{Ending}
use Rattle.parsing_iso8601_shapes.specs.Layout.{NamesDate, date_parts, clock_parts, front_parts}
use Rattle.parsing_iso8601_shapes.specs.declared.form.Dating.{Dating}
use Rattle.parsing_iso8601_shapes.proofs.DateLemmas.{high_of, low_of, kind_of, date_read}
use Rattle.parsing_iso8601_shapes.proofs.EndLemmas.{EndTime, ReadsFraction, may_end, clock_read, designator_there, short_fraction_read, long_fraction_read, zone_ends, zone_read}
use Rattle.parsing_iso8601_shapes.proofs.FastMoments.{fields_named}
use Rattle.std.proofs.lemmas.Bool.Decides.{nat_tests}

module _ (dating : Dating) (is_extended has_second : Bool) (e : Ending) (bytes : ℕ) (text : List ℕ) (n : Numbers) (m : SaysNumbers has_second (is_zulu e) (front_parts dating is_extended has_second) bytes (zone_parts e) text n) where
  abbrev end : List ℕ
  end = drop (length_of (front_parts dating is_extended has_second)) text

  high_is : (d : Dating) → high_of d m.values ≡ n.high
  high_is d = grind (arith, nat_tests)

  low_is : (d : Dating) → low_of d m.values ≡ n.low
  low_is d = grind (arith, nat_tests)

  -- with what a fraction is read as
  numbers_read : (nanosecond month day : ℕ) (f : Fields) → may_end is_extended e ≡ true → ((rest : List ℕ) → Says (fraction_parts bytes) end m.values rest → EndTime rest → ReadsFraction has_second end nanosecond rest) → nanosecond < 1_000_000_000
      → NamesDate dating n.year n.high n.low month day → HaveNumbers f n.year month day n.minute n.second nanosecond n.offset → IsOfOffset text (Moment.moment_of f)
  numbers_read nanosecond month day f written reads few names numbers =
      let v = m.values in
      let d = says_first (date_parts dating is_extended) (clock_parts is_extended has_second) text end v m.front_says in
      let z = says_first (fraction_parts bytes) (zone_parts e) end [] v m.end_says in
      let ends = zone_ends e z.0 v z.2 in
      let next = designator_there is_extended has_second d.0 end v d.2 in
      let second_few : second_if has_second (v field.Second) ≤ 60 = omega (arith, m.second_is, n.within_a_minute) in
      let named : NamesDate dating (v field.Year) (high_of dating v) (low_of dating v) month day = rw (m.dated.year, high_is dating, low_is dating) names in
      let all : HaveNumbers f (v field.Year) month day (v field.Hour * 60 + v field.Minute) (second_if has_second (v field.Second)) nanosecond n.offset = rw (m.dated.year, ← m.minutes_are, ← m.second_is) numbers in
      fields_named f text d.0 z.0 (kind_of is_extended) (v field.Year) month day (v field.Hour) (v field.Minute) (second_if has_second (v field.Second)) nanosecond n.offset
      (date_read dating is_extended text d.0 next.0 v month day d.1 next.1 named)
      (clock_read is_extended has_second d.0 end z.0 v nanosecond d.2 (reads z.0 z.1 ends) ends m.hour_few m.minute_few second_few few)
      few (zone_read is_extended e z.0 v n.offset written z.2 m.offset_is) all m.hour_few m.minute_few

  fraction_by : (b : Bool) → has_second ≡ b → bytes ≤ 10 → (rest : List ℕ) → Says (fraction_parts bytes) end m.values rest → EndTime rest → ReadsFraction b end n.fraction rest
  fraction_by b is few rest says ends = grind (arith, nat_tests, short_fraction_read)

  -- with at most nine digits of a fraction
  pub short_directly : (month day : ℕ) (f : Fields) → may_end is_extended e ≡ true → bytes ≤ 10 → NamesDate dating n.year n.high n.low month day → HaveNumbers f n.year month day n.minute n.second n.fraction n.offset → IsOfOffset text (Moment.moment_of f)
  short_directly month day f written few names numbers = numbers_read n.fraction month day f written (fraction_by has_second refl few) m.fraction_few names numbers

-- with more, which the tenth rounds
pub long_directly : (dating : Dating) (is_extended : Bool) (e : Ending) (bytes : ℕ) (text : List ℕ) (n : Numbers) (fraction month day : ℕ) (f : Fields) → SaysNumbers true (is_zulu e) (front_parts dating is_extended true) bytes (zone_parts e) text n → may_end is_extended e ≡ true → 10 < bytes
    → fraction ≡ next_if (leb 53 (get_or text (length_of (front_parts dating is_extended true) + 10) 0)) n.fraction → fraction < 1_000_000_000 → NamesDate dating n.year n.high n.low month day → HaveNumbers f n.year month day n.minute n.second fraction n.offset → IsOfOffset text (Moment.moment_of f)
long_directly dating is_extended e bytes text n fraction month day f m written many is few names numbers =
    let length = length_of (front_parts dating is_extended true) in
    let tenth : get_or (drop length text) 10 0 ≡ get_or text (length + 10) 0 = get_or-drop length text 10 0 in
    numbers_read dating is_extended true e bytes text n m fraction month day f written (λ rest says ends. rw (is, ← m.fraction_is, ← tenth) (long_fraction_read (drop length text) rest m.values bytes many says ends)) few names numbers
