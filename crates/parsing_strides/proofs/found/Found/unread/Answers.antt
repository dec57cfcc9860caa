use Rattle.std.proofs.Common.{◌<◌, refl, arith}
use Rattle.parsing_strides.proofs.found.Found.unread.Goals as goal

pub returns : goal.returns
returns c = record {
  month = let out : 12 < 255 = omega arith in out;
  day = let out : 31 < 255 = omega arith in out;
  minute = let out : 59 < 255 = omega arith in out;
  hour = λ is. let out = c.out_or-hour.ensures.out (rw is refl) in omega (arith, out);
  half_hour = λ is. let out = c.out_or-half_hour.ensures.out is in omega (arith, out);
  half = λ is. let out = c.out_or-half.ensures.out is in omega (arith, out);
  second = λ is. let out = c.out_or-second.ensures.out is in omega (arith, out);
  no_second = λ is. c.out_or-second.ensures.other is;
  fraction = c.usual-found.ensures.nanosecond;
  offset_hour = λ is. let out = c.out_or-offset.ensures.out is in omega (arith, out);
  offset_minute = λ is. let out = c.out_or-offset.ensures.out is in omega (arith, out);
}
