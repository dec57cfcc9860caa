use Rattle.std.proofs.Common.{◌≡◌, ◌++◌, ◌∷◌, [], false, true, rules}
use Rattle.std.proofs.lemmas.Result.{err_from_is_err_and}
use Rattle.std.proofs.lemmas.List.{map_push}
use Rattle.description_items.specs.Forms.{is_of_text}
use Rattle.description_items.specs.Tree.{tree_of, trees}
use Rattle.description_items.proofs.FormLists.{all_push}
use Rattle.description_lexer.specs.Views.{rest_of}
use Rattle.description_lexer.proofs.Many.{many_goes_on, many_fails, many_ends}
use Rattle.description_lexer.proofs.Readings.{and_then_ok}
use Rattle.description_grammar.specs.Reading.{is_end, element_at, nested_at, read_items}
use Rattle.description_grammar.proofs.Refusals.{fails_then}
use Rattle.description_grammar.proofs.Items.{items_shorten, nested_reads}
use Rattle.description_grammar.proofs.flat.items_of.Goals as goal

pub returns-in_err-item : goal.returns-in_err-item
unfolding read_items
returns-in_err-item c =
    let p = err_from_is_err_and c.from_residual.result c.from_residual.ensures.1 in
    let more : is_end false (rest_of c.loop-rest.rest) ≡ false = search rules in
    rw (p.1, p.2) (record { value = fails_then c.in_err-item.field-0.0 _ _ (many_fails (is_end false) (element_at c.args.version (nested_at c.args.version 127)) _ (trees c.loop-rest.all.items) (rest_of c.loop-rest.rest) c.in_err-item.field-0.0 c.loop-rest.invariant.read more c.in_err-item.ensures.value); form = tt })

pub loop-rest-smaller : goal.loop-rest-smaller
loop-rest-smaller c =
    let more : is_end false (rest_of c.loop-rest.rest) ≡ false = search rules in
    items_shorten c.args.version false 127 (nested_reads c.args.version 127) (rest_of c.loop-rest.rest) (tree_of c.in_ok-item.item, rest_of c.in_ok-item.after) more c.in_ok-item.ensures.value

pub loop-rest-preserved : goal.loop-rest-preserved
loop-rest-preserved c =
    let more : is_end false (rest_of c.loop-rest.rest) ≡ false = search rules in
    let less = items_shorten c.args.version false 127 (nested_reads c.args.version 127) (rest_of c.loop-rest.rest) (tree_of c.in_ok-item.item, rest_of c.in_ok-item.after) more c.in_ok-item.ensures.value in
    let e : trees c.push.new.self.items ≡ trees c.loop-rest.all.items ++ tree_of c.in_ok-item.item ∷ [] = rw c.in_ok-push.ensures.items (map_push _ c.loop-rest.all.items c.in_ok-item.item) in
    record {
      read = rw e (many_goes_on (is_end false) (element_at c.args.version (nested_at c.args.version 127)) _ (trees c.loop-rest.all.items) (rest_of c.loop-rest.rest) (tree_of c.in_ok-item.item) (rest_of c.in_ok-item.after) c.loop-rest.invariant.read more less c.in_ok-item.ensures.value);
      form = rw c.in_ok-push.ensures.items (all_push is_of_text c.loop-rest.all.items c.in_ok-item.item c.loop-rest.invariant.form c.in_ok-item.ensures.form);
    }

pub returns : goal.returns
unfolding read_items
returns c =
    let ended : is_end false (rest_of c.loop-rest.rest) ≡ true = search rules in
    record {
      value = and_then_ok _ _ _ (many_ends (is_end false) (element_at c.args.version (nested_at c.args.version 127)) _ (trees c.loop-rest.all.items) (rest_of c.loop-rest.rest) c.loop-rest.invariant.read ended);
      form = c.loop-rest.invariant.form;
    }
