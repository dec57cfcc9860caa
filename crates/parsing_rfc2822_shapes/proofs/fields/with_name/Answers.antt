use Rattle.std.proofs.Common.{◌≡◌, true, refl, sym, arith, w32, to_z, of_z}
use Rattle.std.proofs.lemmas.Int.{ints}
use Rattle.std.proofs.lemmas.List.{take_rest}
use Rattle.parsing_rfc2822_shapes.proofs.SaysLemmas.{name_there}
use Rattle.parsing_rfc2822_shapes.proofs.fields.with_name.Goals as goal

pub returns : goal.returns
returns c =
    let end = c.args.end.now in
    let o = c.offset_minutes.result in
    let same : to_z w32 (of_z w32 c.from.result) ≡ o = omega (arith, ints, c.from.ensures) in
    record {
      zone_is = record { is_named = true; is_negative = true; hours = c.in_ok-hours.hours; minutes = 0 };
      in_zone = name_there end c.in_ok-hours.hours c.requires c.if-end-ne32.false (omega (arith, c.if-end-lt65.false)) (sym (rw (take_rest end 1) at c.in_ok-hours.ensures.meaning));
      minutes_are = rw same c.offset_minutes.ensures.value;
      numbers = record { same_year = refl; same_month = refl; same_day = refl; same_minute = refl; same_second = refl; same_fraction = refl; same_offset = refl };
    }
