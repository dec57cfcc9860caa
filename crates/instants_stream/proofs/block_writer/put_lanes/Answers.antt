use Rattle.std.proofs.Common.{◌≡◌, ◌+◌, ℕ, List, ◌++◌, length, take, ap, ◌∙◌, arith}
use Rattle.std.specs.Simd.Lanes.{chunk}
use Rattle.std.proofs.lemmas.List.{take_all}
use Rattle.std.proofs.lemmas.Simd.{take_more_put_chunk}
use Rattle.instants_stream.proofs.block_writer.put_lanes.Goals as goal

pub returns-clause-prefix : goal.returns-clause-prefix
returns-clause-prefix c =
    let bytes = c.args.bytes.now in
    let block = c.args.block.now in
    let all : chunk 0 64 bytes ≡ bytes = take_all 64 bytes (omega arith) in
    take_more_put_chunk c.args.at block (chunk 0 64 bytes) (c.args.at + length bytes) (omega (arith, ap length all)) (omega (arith, c.requires)) ∙ ap (λ (l : List ℕ). take c.args.at block ++ l) all
