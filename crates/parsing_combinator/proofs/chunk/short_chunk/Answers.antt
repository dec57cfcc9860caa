use Rattle.std.proofs.Common.{◌≡◌, [], drop, length, sym, ap, arith}
use Rattle.std.proofs.lemmas.List.{drop_all}
use Rattle.parsing_combinator.specs.Chunks.{chunk}
use Rattle.parsing_combinator.proofs.chunk.short_chunk.Goals as goal

pub loop-at-init : goal.loop-at-init
unfolding chunk
loop-at-init c = (omega arith, let none : drop (length c.args.bytes.now) c.args.bytes.now ≡ [] = drop_all (length c.args.bytes.now) c.args.bytes.now (omega arith) in sym (ap chunk none))
