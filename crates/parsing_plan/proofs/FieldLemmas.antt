-- The moment that parts say whose fields are those of sums of lanes.
use Rattle.std.proofs.Common.{◌≡◌, ◌∙◌, ◌≤◌, ◌<◌, ◌+◌, ◌-◌, ◌%◌, ◌||◌, ℕ, Bool, true, false, List, get_or, length, drop, Option, Some, None, Ok, refl, sym, ap, arith, pos, ℤ}
use Rattle.std.specs.Prelude.{◌*ℤ◌, IfSome, IsSome, is_some}
use Rattle.std.specs.Option.{ForSome}
use Rattle.std.proofs.lemmas.Bool.Decides.{nat_tests}
use Rattle.std.proofs.lemmas.List.{drop-drop}
use Rattle.calendar_count.specs.Calendar.{days_in_month}
use Rattle.parsing_components.specs.Prefix.{beginning}
use Rattle.parsing_components.specs.Whole.{moment_named, offset_named}
use Rattle.parsing_values.specs.Moment.{moment_of}
use Rattle.parsing_combinator.specs.Written.{WriteFraction}
use Rattle.parsing_values.specs.declared.fields.Fields.{Fields}
use Rattle.parsing_item_parts.specs.Recorded.{recorded, said_or}
use Rattle.parsing_item_parts.proofs.MomentLemmas.{hour_said, moment_said, offset_assumed, offset_said}
use Rattle.parsing_shapes.specs.Beside.{IsFraction, ReadAt}
use Rattle.parsing_shapes.specs.Front.{fits_beside}
use Rattle.parsing_layout.specs.Layout.{Values, Says}
use Rattle.parsing_layout.specs.declared.parts.Part.{Part}
use Rattle.parsing_layout.specs.Range.{AreInRange}
use Rattle.parsing_layout.specs.Said.{Said}
use Rattle.parsing_shapes.specs.Sums.{AreSums}
use Rattle.parsing_shapes.specs.declared.front.Beside.{Beside}
use Rattle.parsing_layout.specs.declared.parts.Field.TheVariants as field
use Rattle.parsing_layout.specs.declared.parts.Part.TheVariants as part
use Rattle.parsing_shapes.specs.declared.shape.Shape.{Shape}
use Rattle.parsing_shapes.proofs.FrontLemmas.{front_says, front_values}
use Rattle.parsing_shapes.proofs.MomentLemmas.{signed_said}
use Rattle.parsing_shapes.proofs.TailLemmas.{exact_there}
use Rattle.parsing_plan.specs.Fields.{AreFieldsOf, IsOffset}
use Rattle.parsing_plan.specs.Parts.{SayMoment}
use Rattle.parsing_plan.specs.declared.places.Back.{Back}

-- ---- what fields say

pub neither : (a b : Bool) → (a || b) ≡ false → (a ≡ false) × (b ≡ false)
neither true b e = absurd cc
neither false b e = (refl, e)

pub there : {A : Type 0} (o : Option A) → is_some o ≡ true → IsSome o
there None e = absurd cc
there (Some x) e = refl

short_months : (y : ℤ) (m d : ℕ) → d ≤ days_in_month y m → d ≤ 31
short_months y m d le = grind (arith, nat_tests)

pub fraction_written : (text : List ℕ) (place count : ℕ) (o : Option ℕ) → IfSome o (WriteFraction (drop (place + count - count) text) count) → IfSome o (ReadAt (Some place) (part.Fraction count) text 0)
fraction_written text place count None w = tt
fraction_written text place count (Some n) w =
    let from : place + count - count ≡ place = omega arith in
    exact_there (drop place text) count n (rw from at w) ∙ ap (λ (rest : List ℕ). Some (n, rest)) (drop-drop count place text)

fraction_read : (found : Option ℕ) (o : Option (ℕ × ℕ)) (text : List ℕ) (n : ℕ) (x : ℕ × ℕ) → (ForSome found (λ f. o ≡ None)) → o ≡ Some x → IsFraction found o text n → ReadAt (Some x.0) (part.Fraction x.1) text 0 n
fraction_read None o text n x one is h = rw is at h
fraction_read (Some f) o text n x one is h = absurd (let none = one f refl in let never : None ≡ Some x = sym none ∙ is in cc)

no_fraction : (found : Option ℕ) (o : Option (ℕ × ℕ)) (text : List ℕ) (n : ℕ) → found ≡ None → is_some o ≡ false → IsFraction found o text n → n ≡ 0
no_fraction found None text n none e h = rw none at h
no_fraction found (Some x) text n none e h = absurd cc

never : (b : Bool) → b ≡ false → b ≡ true → ⊥
never b is e = let bad : false ≡ true = sym is ∙ e in cc

module _ (s : Shape) (b : Beside) (text : List ℕ) (d m o t : ℕ) (x : AreSums s text d m o t) (small : (k : ℕ) → get_or text k 0 < 256) (long : s.length ≤ length text) (found : Option ℕ) (assumed : Option ℤ) (f : Fields) (y : AreFieldsOf s b text d m o t found assumed f) where
  abbrev pub values : Values
  values = front_values f.year f.month f.day y.weekday f.fraction x.n

  pub even : get_or x.n 12 0 % 2 ≡ 0
  even = omega (arith, x.seconds_are, y.even)

  pub front_said : ForSome found (λ n. b.fraction ≡ None) → (ps : List Part) → fits_beside s b ps ≡ true → Says ps text values (drop s.length text)
  front_said one ps fits = front_says s b text d m o t x small long f.year f.fraction f.month f.day y.weekday y.year_is even y.read (λ z is. fraction_read found b.fraction text f.fraction z one is y.fraction_is) ps fits

  hour_few : get_or x.n 4 0 ≤ 23
  hour_few = omega (arith, x.minutes_are, y.minute_is, f.within_a_day)

  module _ (back : Option Back) (has : Said) (say : SayMoment b back has) where
    pub in_range : AreInRange has values
    in_range field.Year e = (omega arith, f.four_digits)
    in_range field.Month e = let day = f.day_is_there in (day.1, day.2)
    in_range field.Day e = let day = f.day_is_there in (day.3, short_months (pos f.year) f.month f.day day.4)
    in_range field.Weekday e = y.weekday_few (there b.weekday (sym say.weekday ∙ e))
    in_range field.IsoWeek e = absurd (never (has field.IsoWeek) say.others.week e)
    in_range field.OrdinalTens e = absurd (never (has field.OrdinalTens) say.others.tens e)
    in_range field.OrdinalOnes e = absurd (never (has field.OrdinalOnes) say.others.ones e)
    in_range field.Hour e = (omega arith, hour_few)
    in_range field.HourOfHalf e = absurd (never (has field.HourOfHalf) say.others.half_hour e)
    in_range field.Half e = absurd (never (has field.Half) say.others.half e)
    in_range field.Minute e = (omega arith, x.few.minute)
    in_range field.Second e = (omega arith, x.few.second)
    in_range field.Nanosecond e = (omega arith, omega (arith, y.fraction_few))
    in_range field.Sign e = (omega arith, omega (arith, x.few.sign))
    in_range field.OffsetHour e = (omega arith, omega (arith, x.few.offset_hour))
    in_range field.OffsetMinute e = (omega arith, x.few.offset_minute)
    in_range field.Unix e = absurd (never (has field.Unix) say.others.unix e)

    fraction_is : (there : Bool) → has field.Nanosecond ≡ there → (is_some back ≡ false → found ≡ None) → f.fraction ≡ said_or has values field.Nanosecond 0
    fraction_is true is alone = rw is refl
    fraction_is false is alone =
        let none = neither (is_some b.fraction) (is_some back) (sym say.nanosecond ∙ is) in
        rw is (no_fraction found b.fraction text f.fraction (alone none.1) none.0 y.fraction_is)

    offset_is : (written : Bool) → b.has_offset ≡ written → IsOffset written o t assumed f.offset → offset_named (recorded has values (beginning assumed)) ≡ Ok (pos 60 *ℤ f.offset)
    offset_is true is value = offset_said assumed has values (pos 60 *ℤ f.offset) (say.offset_hour ∙ is) (say.offset_minute ∙ is) (signed_said x.n o t f.offset x.few x.offsets_are x.seconds_are y.even value).1
    offset_is false is named = offset_assumed assumed has values (pos 60 *ℤ f.offset) (say.offset_hour ∙ is) (say.offset_minute ∙ is) named

    pub names_moment : (is_some back ≡ false → found ≡ None) → moment_named (recorded has values (beginning assumed)) ≡ Ok (moment_of f)
    names_moment alone =
        moment_said assumed has values f (get_or x.n 4 0) f.offset in_range
        (record { year = say.clock.year; month = say.clock.month; day = say.clock.day; minute = say.clock.minute; unix = say.others.unix; finer = λ none. absurd (never (has field.Second) none say.clock.second) })
        (hour_said assumed has values say.clock.hour) hour_few (offset_is b.has_offset refl y.offset_is)
        (record {
          same_year = refl;
          same_month = refl;
          same_day = refl;
          same_minute = omega (arith, y.minute_is, x.minutes_are);
          same_second = rw say.clock.second (omega (arith, y.second_is, x.seconds_are, x.few.sign));
          same_fraction = fraction_is (has field.Nanosecond) refl alone;
          same_offset = refl;
        })
