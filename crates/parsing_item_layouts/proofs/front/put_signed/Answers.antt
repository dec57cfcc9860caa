use Rattle.parsing_item_layouts.proofs.front.put_signed.Goals as goal

pub returns : goal.returns
returns g c = λ whole line rest after fits. c.put_piece-2.ensures whole line after.after (after.mark, after.signed) (c.put_piece.ensures whole after.after rest after.there fits)
