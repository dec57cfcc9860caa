use Rattle.std.proofs.Common.{◌≡◌, ℕ, length, take, refl, sym, ap, ◌∙◌, arith}
use Rattle.instants_stream.specs.Lines.{lines}
use Rattle.instants_lines.specs.LineDates.{dates_from}
use Rattle.instants_c.proofs.Feeds.{lines_by_feeds}
use Rattle.instants_c.proofs.lines_kept.write_dates.Goals as goal

pub returns-in-Ok : goal.returns-in-Ok
returns-in-Ok c =
    let told = c.in-Ok.ensures in
    record {
      begins = told.begins;
      is_begin = told.is_begin;
      either = omega arith;
      ok = λ zero. told.ok c.in-Ok.count refl;
      short = λ one. absurd (omega (arith, one));
      feed_room = λ room. refl;
    }

pub returns-in-Err : goal.returns-in-Err
returns-in-Err c =
    let told = c.in-Err.ensures in
    let both = told.longer c.in-Err.field-0 refl in
    let same : length c.dates_over.new.room ≡ length c.args.dates.now = c.dates_over.auto.room in
    let few = lines_by_feeds c.args.input.now in
    record {
      begins = told.begins;
      is_begin = told.is_begin;
      either = omega arith;
      ok = λ zero. absurd (omega (arith, zero));
      short = λ one. (both.0, same, both.1 ∙ ap (λ (n : ℕ). take n (dates_from told.begins (lines c.args.input.now))) (sym same));
      feed_room = λ room. absurd (omega (arith, room, few, both.0));
    }
