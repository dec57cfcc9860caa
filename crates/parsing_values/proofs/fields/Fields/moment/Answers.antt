use Rattle.std.proofs.Common.{◌≡◌, ◌∙◌, arith, Ok, pos, ◌*ℤ◌, w32, to_z, of_z}
use Rattle.calendar_count.specs.Calendar.{day_at, ymd}
use Rattle.std.proofs.lemmas.Int.{ints}
use Rattle.parsing_values.specs.Moment.{time_of_fields}
use Rattle.parsing_values.proofs.lemmas.Moments.{offset_there, moment_of_parts}
use Rattle.parsing_values.proofs.fields.Fields.moment.Goals as goal

pub unreachable-requires : goal.unreachable-requires
unreachable-requires c =
    let there : c.from_whole_seconds.result ≡ Ok (pos 60 *ℤ c.args.self.offset) = c.from_whole_seconds.ensures.value ∙ offset_there _ c.args.self.offset (omega (arith, ints)) c.args.self.is_offset in
    cc

pub returns : goal.returns
returns c =
    let there : c.from_whole_seconds.result ≡ Ok (pos 60 *ℤ c.args.self.offset) = c.from_whole_seconds.ensures.value ∙ offset_there _ c.args.self.offset (omega (arith, ints)) c.args.self.is_offset in
    let offset : c.in-Ok.offset ≡ pos 60 *ℤ c.args.self.offset = cc in
    let year : to_z w32 (of_z w32 c.from.result) ≡ pos c.args.self.year = omega (arith, ints) in
    let day : day_at c.from_count.result ≡ ymd (pos c.args.self.year) c.args.self.month c.args.self.day = rw (c.from_count.ensures.value, ← year) c.count_of_day-count.ensures.value in
    let time : c.from_seconds_nanoseconds-time.result ≡ time_of_fields c.args.self = omega (arith, c.from_seconds_nanoseconds-time.ensures.value, c.nanosecond.ensures.value, c.from-2.ensures) in
    c.new_in_offset.ensures.value ∙ moment_of_parts c.args.self c.from_count.result c.from_seconds_nanoseconds-time.result c.in-Ok.offset c.from_count.ensures.bound day time offset
