use Rattle.std.proofs.Common.{◌≡◌, Some, rules}
use Rattle.instants_found.specs.declared.found.Finding.TheVariants.{Doubtful}
use Rattle.instants_lines.specs.Dates.{doubt}
use Rattle.instants_lines.proofs.Turns.{wrote_less}
use Rattle.instants_lines.proofs.located.write_finding.Goals as goal

pub returns-in_err-write_all-in-Some-Doubtful : goal.returns-in_err-write_all-in-Some-Doubtful
returns-in_err-write_all-in-Some-Doubtful g c =
    let e = c.in_err-write_all-in-Some-Doubtful.ensures in
    let found : c.args.finding.now ≡ Some (Doubtful c.in-Some-Doubtful.place) = search rules in
    rw found (wrote_less g.W.ByteWriter _ _ _ doubt _ _ c.from_residual.ensures.1 e.prefix e.err)
