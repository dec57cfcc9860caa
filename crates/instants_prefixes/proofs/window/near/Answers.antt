use Rattle.std.proofs.Common.{sym, arith}
use Rattle.std.proofs.lemmas.List.{take_all, length-take-le}
use Rattle.instants_prefixes.proofs.window.near.Goals as goal

pub slice_bounds-result-end : goal.slice_bounds-result-end
slice_bounds-result-end c = sym (length-take-le 256 c.args.bytes.now (omega arith))

pub returns-else-bytes-gt-WINDOW : goal.returns-else-bytes-gt-WINDOW
returns-else-bytes-gt-WINDOW c = sym (take_all 256 c.args.bytes.now (omega arith))
