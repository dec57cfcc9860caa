use Rattle.std.proofs.Common.{◌≡◌, ◌<◌, ℕ, get_or, ◌∙◌, ap, arith}
use Rattle.parsing_combinator.specs.Chunks.{chunk, padded, likely_digits}
use Rattle.parsing_combinator.proofs.DigitLanes.{count_says}
use Rattle.parsing_combinator.proofs.PaddingLemmas.{ones_at, padded_is, padded_below, padded_counted}
use Rattle.parsing_combinator.proofs.chunk.digit_chunk.Goals as goal

pub overflow_add-digits : goal.overflow_add-digits
overflow_add-digits c =
    let bytes = c.args.bytes.now in
    let fit : (k : ℕ) → get_or bytes k 0 < 256 = λ k. omega (arith, c.type_inv.bytes k) in
    let says = count_says bytes c.likely_digits-count.result fit (c.likely_digits-count.ensures.value ∙ ap likely_digits c.chunk_of-chunk.ensures) in
    rw (ones_at c.likely_digits-count.result (omega (arith, says.few)), c.zeros_after.ensures, c.chunk_of-chunk.ensures, padded_is bytes _ says.few says.within fit) (padded_below bytes _ says.few says.within fit)

pub returns : goal.returns
returns c =
    let bytes = c.args.bytes.now in
    let count = c.likely_digits-count.result in
    let fit : (k : ℕ) → get_or bytes k 0 < 256 = λ k. omega (arith, c.type_inv.bytes k) in
    let says = count_says bytes count fit (c.likely_digits-count.ensures.value ∙ ap likely_digits c.chunk_of-chunk.ensures) in
    let e : _ ≡ chunk (padded count bytes) = rw (ones_at count (omega (arith, says.few)), c.zeros_after.ensures, c.chunk_of-chunk.ensures) (padded_is bytes count says.few says.within fit) in
    record {
      of_digits = record {
        some = omega arith;
        few = says.few;
        within = says.within;
        number_is = e;
        digits_are = padded_counted bytes count says.few says.within fit (record { here = says.here; above = rw e at c.if-sum-ne3472328296227680304.false });
      };
      ends = says.ends;
    }
