-- What the laws of the roads say of a line, whatever offset is assumed.
use Rattle.std.proofs.Common.{◌≡◌, ℕ, List, Option, Some, None, Result, Ok, Err, refl, sym, ap, ◌∙◌, ℤ}
use Rattle.std.specs.Prelude.{IfSome}
use Rattle.std.specs.Result.{result_ok}
use Rattle.datetime_wall.specs.Wall.{Shown}
use Rattle.parsing_values.specs.Moment.{moment_of}
use Rattle.parsing_values.specs.declared.fields.Fields.{Fields}
use Rattle.parsing_combinator.specs.Fault.{Fault}
use Rattle.parsing_record.specs.Meaning.{Meaning}
use Rattle.parsing_components.specs.declared.fields.Record.{Record}
use Rattle.parsing_record.specs.Whole.{by_roads, whole, names, moment_named}
use Rattle.parsing_iso8601.specs.Moment.{IsOfOffset}
use Rattle.parsing_rfc2822.specs.Direct as rfc2822
use Rattle.parsing_rfc3339.specs.Direct as rfc3339
use Rattle.parsing_iso8601.proofs.Pieces.{same}
use Rattle.parsing_parsable.specs.Staged.{reads_rfc2822, reads_rfc3339, reads_iso8601}
use Rattle.parsing_parsable.specs.TwoRoads.{HoldsAtMostAnOffset}
use Rattle.parsing_parsable.specs.TwoRoads.{AgreeOn}
use Rattle.instants_sources.specs.Grammar.{Grammar, Described, Rfc2822, Rfc3339, Iso8601}
use Rattle.instants_sources.specs.Named.{defaults_of, named, IsDirect, IsNamedBy}

pub same_moment : (x y : Result Shown Fault) (m : Shown) → result_ok x ≡ result_ok y → x ≡ Ok m → y ≡ Ok m
same_moment x (Ok y) m alike e = let is : Some y ≡ Some m = sym alike ∙ ap result_ok e in ap (λ (v : Shown). Ok v) (same y m is)
same_moment x (Err f) m alike e = absurd (let none : None ≡ Some m = sym alike ∙ ap result_ok e in cc)

by_either : (direct : List ℕ → Result Shown Fault) (m : Meaning) (line : List ℕ) (moment : Shown) → AgreeOn direct m line → direct line ≡ Ok moment
    → (assumed : Option ℤ) → by_roads direct m (defaults_of assumed) line ≡ Ok moment
by_either direct m line moment agree e None = e
by_either direct m line moment agree e (Some offset) = same_moment (direct line) _ moment (agree _ _) e

assumed_alone : (assumed : Option ℤ) → HoldsAtMostAnOffset (defaults_of assumed)
assumed_alone None = tt
assumed_alone (Some offset) = refl

-- what is read directly is named
pub direct_named : ((line : List ℕ) → AgreeOn rfc2822.direct reads_rfc2822 line) → ((line : List ℕ) → AgreeOn rfc3339.direct reads_rfc3339 line)
    → ((line : List ℕ) (m : Shown) → IsOfOffset line m → (defaults : Option Record) → HoldsAtMostAnOffset defaults → names moment_named (whole reads_iso8601 defaults line) ≡ Ok m)
    → (grammar : Grammar) (line : List ℕ) (moment : Shown) → IsDirect grammar line moment → IsNamedBy grammar line moment
direct_named of_rfc2822 of_rfc3339 of_iso8601 (Described written) line moment is = absurd is
direct_named of_rfc2822 of_rfc3339 of_iso8601 Rfc2822 line moment is = by_either rfc2822.direct reads_rfc2822 line moment (of_rfc2822 line) is
direct_named of_rfc2822 of_rfc3339 of_iso8601 Rfc3339 line moment is = by_either rfc3339.direct reads_rfc3339 line moment (of_rfc3339 line) is
direct_named of_rfc2822 of_rfc3339 of_iso8601 Iso8601 line moment is = λ assumed. of_iso8601 line moment is (defaults_of assumed) (assumed_alone assumed)

-- so it is with any offset
pub found_named : ((grammar : Grammar) (line : List ℕ) (moment : Shown) → IsDirect grammar line moment → IsNamedBy grammar line moment)
    → (grammar : Grammar) (line : List ℕ) (assumed : Option ℤ) (found : Option Fields) → IfSome found (λ f. IsDirect grammar line (moment_of f)) → IfSome found (λ f. named assumed grammar line ≡ Ok (moment_of f))
found_named law grammar line assumed None is = tt
found_named law grammar line assumed (Some f) is = law grammar line (moment_of f) is assumed
