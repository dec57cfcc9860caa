use Rattle.std.proofs.Common.{◌≡◌, ◌+◌, Bool, true, false, drop, get_or, take, Some, None, ap, ◌∙◌, arith}
use Rattle.std.specs.Prelude.{if◌then◌else◌}
use Rattle.instants_edges.specs.Text.{is_stop, iso_end}
use Rattle.instants_edges.proofs.Texts.{ends_here, goes_further, ends_nowhere}
use Rattle.instants_edges.proofs.text.iso_text.Goals as goal

pub returns-then-is_stop-clause-value : goal.returns-then-is_stop-clause-value
returns-then-is_stop-clause-value c =
    let bytes = c.args.bytes.now in
    let place = c.loop-place.place in
    let stop : is_stop (get_or bytes place 0) (drop (place + 1) bytes) ≡ true = cc in
    ap (λ n. take n bytes) (omega arith) ∙ ends_here iso_end bytes place 0 c.loop-place.invariant (omega arith) (ap (λ (b : Bool). if b then Some 0 else None) stop)

pub loop-place-preserved : goal.loop-place-preserved
loop-place-preserved c =
    let bytes = c.args.bytes.now in
    let place = c.loop-place.place in
    let stop : is_stop (get_or bytes place 0) (drop (place + 1) bytes) ≡ false = cc in
    goes_further iso_end bytes place (omega arith) c.loop-place.invariant (ap (λ (b : Bool). if b then Some 0 else None) stop)

pub returns-clause-value : goal.returns-clause-value
returns-clause-value c = ends_nowhere iso_end c.args.bytes.now c.loop-place.place (omega arith) c.loop-place.invariant
