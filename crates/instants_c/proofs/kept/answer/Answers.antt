use Rattle.std.proofs.Common.{◌≡◌, length, take, sym, ap, ◌∙◌, arith}
use Rattle.instants_timeline.specs.Settings.{setting_of}
use Rattle.instants_c.specs.Answered.{due_by}
use Rattle.instants_c.proofs.Feeds.{lines_by_feeds}
use Rattle.instants_memory.proofs.Room.{room_by_lines}
use Rattle.instants_c.proofs.kept.answer.Goals as goal

pub returns-in-Err : goal.returns-in-Err
returns-in-Err c =
    let kept = c.args.kept.now in
    let input = c.args.input.now in
    let longer = c.in-Err.ensures.longer in
    let same : length c.run_over.new.room ≡ length c.args.output.now = c.run_over.auto.room in
    let most = room_by_lines (setting_of kept.timeline) kept.limit input in
    let few = lines_by_feeds input in
    record {
      either = omega arith;
      ok = λ zero. absurd (omega (arith, zero));
      short = λ one. (longer, same, c.in-Err.ensures.full ∙ ap (λ n. take n (due_by kept input)) (sym same));
      line_room = λ room. absurd (omega (arith, room, most, longer));
      feed_room = λ room. absurd (omega (arith, room, few, most, longer));
    }
