use Rattle.std.proofs.Common.{rules, arith}
use Rattle.instants_stream.proofs.Gathering.{gathered-grown}
use Rattle.instants_stream.proofs.block_writer.BlockWriter.gather.Goals as goal

pub returns-clause-moved : goal.returns-clause-moved
returns-clause-moved g c =
    let self = c.args.self.now in
    gathered-grown (g.W.ByteWriter.held self.inner) self.block.items c.put.new.block.items c.args.from.now self.start self.end (omega arith) (search rules) c.put.ensures.prefix
