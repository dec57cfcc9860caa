use Rattle.std.proofs.lemmas.Result.{err_from_is_err_and}
use Rattle.description_lexer.specs.Views.{rest_of}
use Rattle.description_tree.specs.Inner.{inner_trees}
use Rattle.description_tree.proofs.InnerTrees.{tree-OwnedCompound, read-OwnedCompound}
use Rattle.description_grammar.proofs.Refusals.{tree_fails, tree_is}
use Rattle.description_grammar.proofs.nested.tree_of.Goals as goal

pub returns-in_err-all : goal.returns-in_err-all
returns-in_err-all c =
    let p = err_from_is_err_and c.from_residual.result c.from_residual.ensures.1 in
    rw (p.1, p.2) (record { value = tree_fails c.in_err-all.field-0.0 c.args.text.now (rest_of c.whole_of.result) c.whole_of.ensures.value c.in_err-all.ensures.value; form = tt })

pub returns : goal.returns
returns c = record {
  value = rw (tree-OwnedCompound c.in_ok-all.all) (tree_is c.args.text.now (rest_of c.whole_of.result) (inner_trees c.in_ok-all.all.items, rest_of c.in_ok-all.field-0-1) c.whole_of.ensures.value c.in_ok-all.ensures.value);
  form = rw (read-OwnedCompound c.in_ok-all.all) c.in_ok-all.ensures.form;
}
