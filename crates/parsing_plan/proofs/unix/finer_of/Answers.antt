use Rattle.std.proofs.Common.{sym}
use Rattle.std.specs.Prelude.{IfSome}
use Rattle.description_items.specs.Tree.{Part}
use Rattle.parsing_components.specs.Reads.{reading}
use Rattle.parsing_plan.specs.UnixTime.{IsUnixOf}
use Rattle.parsing_plan.proofs.Timestamps.{unix_read}
use Rattle.parsing_plan.proofs.unix.finer_of.Goals as goal

pub returns-in-Component-clause-reads : goal.returns-in-Component-clause-reads
returns-in-Component-clause-reads g c =
    let component = c.in-Component.component in
    let finer = c.unix_digits.result in
    let both = unix_read component finer c.unix_digits.ensures.digits in
    rw (sym c.in-Component.ensures) (g.N.Node.is_either (λ l. IfSome finer (IsUnixOf (reading l (Part component)))) both.0 both.1)
