use Rattle.std.proofs.Common.{◌∙◌, sym, arith}
use Rattle.parsing_item_layouts.proofs.Ruled.{fails, found}
use Rattle.parsing_item_layouts.proofs.first_bytes.FirstBytes.can_stand.Goals as goal

pub returns-clause-value : goal.returns-clause-value
returns-clause-value c = found c.args.self.now c.args.place c.from.result c.args.byte (omega arith) c.from.ensures (omega (arith, c.ranges.byte))

pub returns-clause-ruled_out : goal.returns-clause-ruled_out
returns-clause-ruled_out c = λ none line at.
    let value = found c.args.self.now c.args.place c.from.result c.args.byte (omega arith) c.from.ensures (omega (arith, c.ranges.byte)) in
    fails c.args.self.now line c.args.place (rw at (sym value ∙ none))
