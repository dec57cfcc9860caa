use Rattle.parsing_item_layouts.proofs.FrontLemmas.{fits_four}
use Rattle.parsing_item_layouts.proofs.first_bytes.FirstBytesFront.put.Goals as goal

pub returns : goal.returns
returns c = λ whole line rest cut fits.
    fits_four c.bytes_after.result c.bytes_after-2.result c.bytes_after-3.result c.bytes_after-4.result line
    (c.bytes_after.ensures line rest cut fits) (c.bytes_after-2.ensures line rest cut fits) (c.bytes_after-3.ensures line rest cut fits) (c.bytes_after-4.ensures line rest cut fits)
