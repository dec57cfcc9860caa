use Rattle.std.proofs.Common.{ℕ, ◌==◌, take, arith, w8}
use Rattle.std.proofs.lemmas.List.{length-take-le}
use Rattle.std.proofs.lemmas.Simd.{bitmask_splat}
use Rattle.instants_stream.proofs.Searched.{mask_below}
use Rattle.instants_stream.proofs.search.line_feeds_of_half.Goals as goal

pub returns-clause-bits : goal.returns-clause-bits
returns-clause-bits c =
    let bytes = c.args.bytes.now in
    bitmask_splat w8 (λ (a b : ℕ). a == b) (take 32 bytes) 32 10 (length-take-le 32 bytes c.requires) (omega arith)

pub returns-clause-bound : goal.returns-clause-bound
returns-clause-bound c =
    let bytes = c.args.bytes.now in
    mask_below 32 bytes c.requires _ (bitmask_splat w8 (λ (a b : ℕ). a == b) (take 32 bytes) 32 10 (length-take-le 32 bytes c.requires) (omega arith))
