use Rattle.std.proofs.Common.{refl, arith, ◌≡◌, ◌++◌, ◌∷◌, [], rules, false, true, sym}
use Rattle.std.proofs.lemmas.Result.{err_from_is_err_and}
use Rattle.std.proofs.lemmas.List.{map_push}
use Rattle.description_tree.specs.Inner.{inner_tree, inner_trees}
use Rattle.description_items.proofs.FormLists.{all_push}
use Rattle.description_tree.specs.Forms.{is_read}
use Rattle.description_tree.specs.declared.inner.FormatDescriptionV3Inner.{OwnedCompound}
use Rattle.description_tree.proofs.InnerTrees.{tree-OwnedCompound, read-OwnedCompound}
use Rattle.description_items.specs.Tree.{Compound, listed}
use Rattle.description_lexer.specs.Views.{rest_of}
use Rattle.description_lexer.proofs.Many.{many_goes_on, many_fails, many_ends}
use Rattle.description_lexer.proofs.Readings.{not_true, not_false}
use Rattle.description_grammar.specs.Reading.{no_bracket, is_end, element_at, nested_at, first_at, optional_at}
use Rattle.description_grammar.proofs.Items.{alternatives_shorten, items_shorten, nested_reads}
use Rattle.description_grammar.proofs.Refusals.{fails_then, leads_to, enters}
use Rattle.description_grammar.proofs.nested.+nested.Goals as goal

pub alternatives-returns-in_err-items : goal.alternatives-returns-in_err-items
alternatives-returns-in_err-items t c =
    let p = err_from_is_err_and c.from_residual.result c.from_residual.ensures.1 in
    rw (p.1, p.2) (record { value = many_fails no_bracket (nested_at c.args.version c.args.levels) _ (inner_trees c.others.all.items) (rest_of c.others.rest) c.in_err-items.field-0.0 c.others.invariant.read (not_true _ c.begins.result c.begins.ensures.value c.others-test.true) c.in_err-items.ensures.value; form = tt })

pub alternatives-others-smaller : goal.alternatives-others-smaller
alternatives-others-smaller t c = alternatives_shorten c.args.version c.args.levels (nested_reads c.args.version c.args.levels) (rest_of c.others.rest) (Compound (listed (inner_trees c.in_ok-items.items.items)), rest_of c.in_ok-items.after) (not_true _ c.begins.result c.begins.ensures.value c.others-test.true) c.in_ok-items.ensures.value

pub alternatives-others-preserved : goal.alternatives-others-preserved
alternatives-others-preserved t c =
    let less = alternatives_shorten c.args.version c.args.levels (nested_reads c.args.version c.args.levels) (rest_of c.others.rest) (Compound (listed (inner_trees c.in_ok-items.items.items)), rest_of c.in_ok-items.after) (not_true _ c.begins.result c.begins.ensures.value c.others-test.true) c.in_ok-items.ensures.value in
    let e : inner_trees c.push.new.self.items ≡ inner_trees c.others.all.items ++ Compound (listed (inner_trees c.in_ok-items.items.items)) ∷ [] = rw (c.in_ok-push.ensures.items, sym (tree-OwnedCompound c.in_ok-items.items)) (map_push _ c.others.all.items (OwnedCompound c.in_ok-items.items)) in
    record {
      read = rw e (many_goes_on no_bracket (nested_at c.args.version c.args.levels) _ (inner_trees c.others.all.items) (rest_of c.others.rest) (Compound (listed (inner_trees c.in_ok-items.items.items))) (rest_of c.in_ok-items.after) c.others.invariant.read (not_true _ c.begins.result c.begins.ensures.value c.others-test.true) less c.in_ok-items.ensures.value);
      form = rw c.in_ok-push.ensures.items (all_push is_read c.others.all.items (OwnedCompound c.in_ok-items.items) c.others.invariant.form (rw (read-OwnedCompound c.in_ok-items.items) c.in_ok-items.ensures.form));
    }

pub alternatives-returns : goal.alternatives-returns
alternatives-returns t c = record {
  value = many_ends no_bracket (nested_at c.args.version c.args.levels) _ (inner_trees c.others.all.items) (rest_of c.others.rest) c.others.invariant.read (not_false _ c.begins.result c.begins.ensures.value c.others-test.false);
  form = c.others.invariant.form;
}

pub items-returns-in_err-item : goal.items-returns-in_err-item
items-returns-in_err-item t c =
    let p = err_from_is_err_and c.from_residual.result c.from_residual.ensures.1 in
    let more : is_end c.args.inner (rest_of c.items.rest) ≡ false = search rules in
    rw (p.1, p.2) (record { value = many_fails (is_end c.args.inner) (element_at c.args.version (nested_at c.args.version c.args.levels)) _ (inner_trees c.items.all.items) (rest_of c.items.rest) c.in_err-item.field-0.0 c.items.invariant.read more c.in_err-item.ensures.value; form = tt })

pub items-items-smaller : goal.items-items-smaller
items-items-smaller t c =
    let more : is_end c.args.inner (rest_of c.items.rest) ≡ false = search rules in
    items_shorten c.args.version c.args.inner c.args.levels (nested_reads c.args.version c.args.levels) (rest_of c.items.rest) (inner_tree c.in_ok-item.item, rest_of c.in_ok-item.after) more c.in_ok-item.ensures.value

pub items-items-preserved : goal.items-items-preserved
items-items-preserved t c =
    let more : is_end c.args.inner (rest_of c.items.rest) ≡ false = search rules in
    let less = items_shorten c.args.version c.args.inner c.args.levels (nested_reads c.args.version c.args.levels) (rest_of c.items.rest) (inner_tree c.in_ok-item.item, rest_of c.in_ok-item.after) more c.in_ok-item.ensures.value in
    let e : inner_trees c.push.new.self.items ≡ inner_trees c.items.all.items ++ inner_tree c.in_ok-item.item ∷ [] = rw c.in_ok-push.ensures.items (map_push _ c.items.all.items c.in_ok-item.item) in
    record {
      read = rw e (many_goes_on (is_end c.args.inner) (element_at c.args.version (nested_at c.args.version c.args.levels)) _ (inner_trees c.items.all.items) (rest_of c.items.rest) (inner_tree c.in_ok-item.item) (rest_of c.in_ok-item.after) c.items.invariant.read more less c.in_ok-item.ensures.value);
      form = rw c.in_ok-push.ensures.items (all_push is_read c.items.all.items c.in_ok-item.item c.items.invariant.form c.in_ok-item.ensures.form);
    }

pub items-returns : goal.items-returns
items-returns t c =
    let ended : is_end c.args.inner (rest_of c.items.rest) ≡ true = search rules in
    record {
      value = many_ends (is_end c.args.inner) (element_at c.args.version (nested_at c.args.version c.args.levels)) _ (inner_trees c.items.all.items) (rest_of c.items.rest) c.items.invariant.read ended;
      form = c.items.invariant.form;
    }

pub optional-returns : goal.optional-returns
unfolding optional_at
optional-returns t c = record { value = rw (c.in_ok-start.ensures.value, c.in_ok-items.ensures.value) c.optional_of.ensures.value; form = c.optional_of.ensures.form }

pub optional-returns-in_err-items : goal.optional-returns-in_err-items
unfolding optional_at
optional-returns-in_err-items t c =
    let p = err_from_is_err_and c.from_residual-in_err-items.result c.from_residual-in_err-items.ensures.1 in
    rw (p.1, p.2) (record { value = rw c.in_ok-start.ensures.value (fails_then c.in_err-items.field-0.0 _ _ c.in_err-items.ensures.value); form = tt })

pub optional-returns-in_err-start : goal.optional-returns-in_err-start
unfolding optional_at
optional-returns-in_err-start t c =
    let p = err_from_is_err_and c.from_residual.result c.from_residual.ensures.1 in
    rw (p.1, p.2) (record { value = rw c.in_err-start.ensures.value refl; form = tt })

pub first-returns : goal.first-returns
unfolding first_at
first-returns t c = record { value = rw (c.in_ok-start.ensures.value, c.in_ok-all.ensures.value) c.first_of.ensures.value; form = c.first_of.ensures.form }

pub first-returns-in_err-all : goal.first-returns-in_err-all
unfolding first_at
first-returns-in_err-all t c =
    let p = err_from_is_err_and c.from_residual-in_err-all.result c.from_residual-in_err-all.ensures.1 in
    rw (p.1, p.2) (record { value = rw c.in_ok-start.ensures.value (fails_then c.in_err-all.field-0.0 _ _ c.in_err-all.ensures.value); form = tt })

pub first-returns-in_err-start : goal.first-returns-in_err-start
unfolding first_at
first-returns-in_err-start t c =
    let p = err_from_is_err_and c.from_residual.result c.from_residual.ensures.1 in
    rw (p.1, p.2) (record { value = rw c.in_err-start.ensures.value refl; form = tt })

pub element-returns-in_err-text : goal.element-returns-in_err-text
element-returns-in_err-text t c =
    let p = err_from_is_err_and c.from_residual.result c.from_residual.ensures.1 in
    rw (p.1, p.2) (record { value = c.in_err-text.ensures.value (nested_at c.args.version c.args.levels); form = tt })

pub element-returns-in-First : goal.element-returns-in-First
element-returns-in-First t c = record { value = rw (leads_to c.args.version (nested_at c.args.version c.args.levels) c.args.here.index _ _ _ c.in-First.is (c.in_ok-text.ensures.value (nested_at c.args.version c.args.levels))) c.first.ensures.value; form = c.first.ensures.form }

pub element-returns-in-Optional : goal.element-returns-in-Optional
element-returns-in-Optional t c = record { value = rw (leads_to c.args.version (nested_at c.args.version c.args.levels) c.args.here.index _ _ _ c.in-Optional.is (c.in_ok-text.ensures.value (nested_at c.args.version c.args.levels))) c.optional.ensures.value; form = c.optional.ensures.form }

pub nested-returns-then-levels-eq0 : goal.nested-returns-then-levels-eq0
unfolding nested_at
nested-returns-then-levels-eq0 t c = record { value = rw c.if-levels-eq0.true refl; form = tt }

pub nested-returns-in_err-all : goal.nested-returns-in_err-all
nested-returns-in_err-all t c =
    let p = err_from_is_err_and c.from_residual.result c.from_residual.ensures.1 in
    let begun = enters c.args.version c.args.levels (rest_of c.args.here) _ (omega (arith, c.if-levels-eq0.false)) c.cut.ensures.back in
    rw (p.1, p.2) (record { value = rw begun (fails_then c.in_err-all.field-0.0 _ _ c.in_err-all.ensures.value); form = tt })

pub nested-returns-in_err-rest : goal.nested-returns-in_err-rest
nested-returns-in_err-rest t c =
    let p = err_from_is_err_and c.from_residual-in_err-rest.result c.from_residual-in_err-rest.ensures.1 in
    let begun = enters c.args.version c.args.levels (rest_of c.args.here) _ (omega (arith, c.if-levels-eq0.false)) c.cut.ensures.back in
    rw (p.1, p.2) (record { value = rw (begun, c.in_ok-all.ensures.value, c.in_err-rest.ensures.value) refl; form = tt })

pub nested-returns : goal.nested-returns
nested-returns t c =
    let begun = enters c.args.version c.args.levels (rest_of c.args.here) _ (omega (arith, c.if-levels-eq0.false)) c.cut.ensures.back in
    record { value = rw (begun, c.in_ok-all.ensures.value, c.in_ok-rest.ensures.value, c.past_space.ensures.value) refl; form = c.in_ok-all.ensures.form }
