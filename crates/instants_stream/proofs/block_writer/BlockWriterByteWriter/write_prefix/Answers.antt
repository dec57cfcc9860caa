use Rattle.std.proofs.Common.{◌≤◌, length, rules, arith}
use Rattle.instants_stream.proofs.Gathering.{gathered-prefix}
use Rattle.instants_stream.proofs.block_writer.BlockWriterByteWriter.write_prefix.Goals as goal

pub returns-clause-written : goal.returns-clause-written
returns-clause-written g c =
    let self = c.args.self.now in
    let within : self.end ≤ length self.block.items = search rules in
    let few : c.args.len ≤ length c.args.bytes.now = search rules in
    gathered-prefix (g.W.ByteWriter.held self.inner) self.block.items c.put_all.new.block.items c.args.bytes.now self.start self.end c.args.len (omega arith) within few c.put_all.ensures.prefix
