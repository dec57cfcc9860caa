use Rattle.std.proofs.Common.{◌≡◌, true, rules, Result, Ok, Err}
use Rattle.std.specs.Prelude.{IfOk}
use Rattle.description_items.specs.declared.component.Component.{Component}
use Rattle.description_items.specs.declared.item.BorrowedFormatItem.{the_lemmas}
use Rattle.description_items.specs.declared.item.BorrowedFormatItem.TheVariants as item
use Rattle.description_items.specs.Forms.{is_of_text}
use Rattle.description_strftime.proofs.items.push_offset.Goals as goal

part : (c : Component) → is_of_text (item.Component c) ≡ true
part c = search (rules, the_lemmas)

then_ok : {X E : Type 0} {P Q : Type 0} (r : Result X E) → (P → Q) → IfOk r (λ x. P) → IfOk r (λ x. Q)
then_ok (Ok x) f p = f p
then_ok (Err e) f p = tt

pub returns-clause-form : goal.returns-clause-form
returns-clause-form c = then_ok c.push_item-2.result (λ form begun. form (c.in_ok-push_item.ensures.form begun (part _)) (part _)) c.push_item-2.ensures.form
