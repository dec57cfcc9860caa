use Rattle.std.proofs.Common.{◌≡◌, ◌++◌, ◌∷◌, []}
use Rattle.std.proofs.lemmas.Result.{err_from_is_err_and}
use Rattle.std.proofs.lemmas.List.{map_push}
use Rattle.description_lexer.specs.Views.{rest_of, modifier, modifiers}
use Rattle.description_lexer.specs.Words.{no_modifier, modifier_at, modifiers_at}
use Rattle.description_lexer.proofs.Many.{many_goes_on, many_fails, many_ends}
use Rattle.description_lexer.proofs.Readings.{and_then_err, and_then_ok, not_true, not_false}
use Rattle.description_lexer.proofs.Shorter.{modifier_lt}
use Rattle.description_lexer.specs.declared.description_fault.DescriptionFault.TheVariants.{Description}
use Rattle.description_lexer.proofs.modifiers.modifiers_of.Goals as goal

pub returns-in_err-modifier : goal.returns-in_err-modifier
unfolding modifiers_at
returns-in_err-modifier c =
    let p = err_from_is_err_and c.from_residual.result c.from_residual.ensures.1 in
    rw (p.1, p.2) (record { value = and_then_err _ _ _ (many_fails no_modifier modifier_at _ (modifiers c.loop-rest.all.items) (rest_of c.loop-rest.rest) (Description c.in_err-modifier.field-0.0) c.loop-rest.invariant (not_true _ c.has_word.result c.has_word.ensures c.loop-rest-test.true) c.in_err-modifier.ensures) })

pub loop-rest-smaller : goal.loop-rest-smaller
loop-rest-smaller c = modifier_lt (rest_of c.loop-rest.rest) (modifier c.in_ok-modifier.modifier, rest_of c.in_ok-modifier.after) (not_true _ c.has_word.result c.has_word.ensures c.loop-rest-test.true) c.in_ok-modifier.ensures

pub loop-rest-preserved : goal.loop-rest-preserved
loop-rest-preserved c =
    let more = not_true _ c.has_word.result c.has_word.ensures c.loop-rest-test.true in
    let less = modifier_lt (rest_of c.loop-rest.rest) (modifier c.in_ok-modifier.modifier, rest_of c.in_ok-modifier.after) more c.in_ok-modifier.ensures in
    let e : modifiers c.push.new.self.items ≡ modifiers c.loop-rest.all.items ++ modifier c.in_ok-modifier.modifier ∷ [] = rw c.in_ok-push.ensures.items (map_push _ c.loop-rest.all.items c.in_ok-modifier.modifier) in
    rw e (many_goes_on no_modifier modifier_at _ (modifiers c.loop-rest.all.items) (rest_of c.loop-rest.rest) (modifier c.in_ok-modifier.modifier) (rest_of c.in_ok-modifier.after) c.loop-rest.invariant more less c.in_ok-modifier.ensures)

pub returns : goal.returns
unfolding modifiers_at
returns c =
    record { value = rw c.past_space.ensures.value (and_then_ok _ _ _ (many_ends no_modifier modifier_at _ (modifiers c.loop-rest.all.items) (rest_of c.loop-rest.rest) c.loop-rest.invariant (not_false _ c.has_word.result c.has_word.ensures c.loop-rest-test.false))) }
