use Rattle.std.proofs.Common.{◌≡◌, Option, Some, None, cond, option_map, refl}
use Rattle.std.specs.Option.{is_some}
use Rattle.description_tables.specs.declared.chosen.Chosen.{Chosen}
use Rattle.description_tables.proofs.chosen.looked_up.Goals as goal

-- a choice is made where there is a value
made : {A : Type 0} (o r : Option A) (f : Option A → Chosen) → r ≡ o → option_map (λ x. f (Some x)) o ≡ cond (is_some r) (Some (f r)) None
made (Some x) r f e = rw e refl
made None r f e = rw e refl

pub returns-in-Padding : goal.returns-in-Padding
returns-in-Padding c = rw c.in-Padding.is (made _ _ (λ o. record c.args.chosen { padding = o }) c.lookup-chosen.ensures)

pub returns-in-CaseSensitive : goal.returns-in-CaseSensitive
returns-in-CaseSensitive c = rw c.in-CaseSensitive.is (made _ _ (λ o. record c.args.chosen { case_sensitive = o }) c.lookup-chosen-in-CaseSensitive.ensures)

pub returns-in-OneIndexed : goal.returns-in-OneIndexed
returns-in-OneIndexed c = rw c.in-OneIndexed.is (made _ _ (λ o. record c.args.chosen { one_indexed = o }) c.lookup-chosen-in-OneIndexed.ensures)

pub returns-in-Base : goal.returns-in-Base
returns-in-Base c = rw c.in-Base.is (made _ _ (λ o. record c.args.chosen { base = o }) c.lookup-chosen-in-Base.ensures)

pub returns-in-Sign : goal.returns-in-Sign
returns-in-Sign c = rw c.in-Sign.is (made _ _ (λ o. record c.args.chosen { sign = o }) c.lookup-chosen-in-Sign.ensures)

pub returns-in-Range : goal.returns-in-Range
returns-in-Range c = rw c.in-Range.is (made _ _ (λ o. record c.args.chosen { range = o }) c.lookup-chosen-in-Range.ensures)

pub returns-in-Case : goal.returns-in-Case
returns-in-Case c = rw c.in-Case.is (made _ _ (λ o. record c.args.chosen { case = o }) c.lookup-chosen-in-Case.ensures)

pub returns-in-Digits : goal.returns-in-Digits
returns-in-Digits c = rw c.in-Digits.is (made _ _ (λ o. record c.args.chosen { digits = o }) c.lookup-chosen-in-Digits.ensures)

pub returns-in-Count : goal.returns-in-Count
returns-in-Count c = rw c.in-Count.is (made _ _ (λ o. record c.args.chosen { count = o }) c.count_of-chosen.ensures)

pub returns-in-Precision : goal.returns-in-Precision
returns-in-Precision c = rw c.in-Precision.is (made _ _ (λ o. record c.args.chosen { precision = o }) c.lookup-chosen-in-Precision.ensures)

pub returns-in-TrailingInput : goal.returns-in-TrailingInput
returns-in-TrailingInput c = rw c.in-TrailingInput.is (made _ _ (λ o. record c.args.chosen { trailing_input = o }) c.lookup-chosen-in-TrailingInput.ensures)
