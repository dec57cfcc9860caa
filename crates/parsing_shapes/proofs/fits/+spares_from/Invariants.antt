use Rattle.parsing_shapes.proofs.fits.+spares_from.Given as goal

abbrev pub decreases-spares_from : goal.decreases-spares_from
decreases-spares_from l = l.count
