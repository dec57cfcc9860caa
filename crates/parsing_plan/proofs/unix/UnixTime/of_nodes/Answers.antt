use Rattle.std.proofs.Common.{◌≡◌, ◌+◌, ◌∷◌, ◌∙◌, [], drop, get_or, map, ap, arith}
use Rattle.std.proofs.lemmas.List.{drop_all, drop_more}
use Rattle.parsing_plan.proofs.Walk.{unix_reads}
use Rattle.parsing_plan.proofs.unix.UnixTime.of_nodes.Goals as goal

pub returns : goal.returns
returns g c =
    let items = c.args.items.now in
    let item = c.index-items-0.result in
    let there : drop 0 items ≡ get_or items 0 item ∷ drop (0 + 1) items = drop_more items 0 item (omega (arith, c.if-items-ne1.false)) in
    let one : items ≡ item ∷ drop (0 + 1) items = rw (← c.index-items-0.is) at there in
    let nothing : drop (0 + 1) items ≡ [] = drop_all (0 + 1) items (omega (arith, c.if-items-ne1.false)) in
    let single : map g.N.Node.tree items ≡ g.N.Node.tree item ∷ [] = ap (map g.N.Node.tree) one ∙ ap (λ xs. g.N.Node.tree item ∷ map g.N.Node.tree xs) nothing in
    rw single (unix_reads g.N.Node.language (g.N.Node.tree item) c.in_ok-finer.finer c.in_ok-finer.ensures.reads)
