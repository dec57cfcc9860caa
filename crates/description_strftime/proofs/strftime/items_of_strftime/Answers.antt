use Rattle.std.proofs.Common.{◌≡◌, false, true, refl, rules}
use Rattle.std.proofs.lemmas.Result.{err_from_is_err_and}
use Rattle.description_lexer.specs.declared.description_fault.DescriptionFault.TheVariants.{Description}
use Rattle.description_items.specs.Tree.{trees}
use Rattle.description_lexer.specs.Views.{rest_of}
use Rattle.description_strftime.specs.Reading.{at_end}
use Rattle.description_strftime.specs.Views.{items_spelled}
use Rattle.description_strftime.proofs.Parts.{reads_begins, reads_goes_on, reads_fails, reads_ends}
use Rattle.description_strftime.proofs.Sound.{step_lt}
use Rattle.description_strftime.proofs.strftime.items_of_strftime.Goals as goal

pub loop-rest-init : goal.loop-rest-init
loop-rest-init c = record { read = rw (c.new-all.ensures.items, c.whole_of-rest.ensures.value) (reads_begins c.args.text.now); form = rw c.new-all.ensures.items refl }

pub returns-in_err-spelled : goal.returns-in_err-spelled
returns-in_err-spelled c =
    let p = err_from_is_err_and c.from_residual.result c.from_residual.ensures.1 in
    let more : at_end (rest_of c.loop-rest.rest) ≡ false = search rules in
    rw (p.1, p.2) (record { value = reads_fails c.args.text.now (trees c.loop-rest.all.items) (rest_of c.loop-rest.rest) (Description c.in_err-spelled.field-0.0) c.loop-rest.invariant.read more c.in_err-spelled.ensures.value; form = tt })

pub loop-rest-smaller : goal.loop-rest-smaller
loop-rest-smaller c =
    let more : at_end (rest_of c.loop-rest.rest) ≡ false = search rules in
    step_lt (rest_of c.loop-rest.rest) (items_spelled c.in_ok-spelled.spelled, rest_of c.in_ok-spelled.after) more c.in_ok-spelled.ensures.value

pub loop-rest-preserved : goal.loop-rest-preserved
loop-rest-preserved c =
    let more : at_end (rest_of c.loop-rest.rest) ≡ false = search rules in
    let less = step_lt (rest_of c.loop-rest.rest) (items_spelled c.in_ok-spelled.spelled, rest_of c.in_ok-spelled.after) more c.in_ok-spelled.ensures.value in
    record {
      read = rw c.in_ok-push_part.ensures.items (reads_goes_on c.args.text.now (trees c.loop-rest.all.items) (rest_of c.loop-rest.rest) (items_spelled c.in_ok-spelled.spelled) (rest_of c.in_ok-spelled.after) c.loop-rest.invariant.read more less c.in_ok-spelled.ensures.value);
      form = c.in_ok-push_part.ensures.form c.loop-rest.invariant.form c.in_ok-spelled.ensures.form;
    }

pub returns : goal.returns
returns c =
    let ended : at_end (rest_of c.loop-rest.rest) ≡ true = search rules in
    record { value = reads_ends c.args.text.now (trees c.loop-rest.all.items) (rest_of c.loop-rest.rest) c.loop-rest.invariant.read ended; form = c.loop-rest.invariant.form }
