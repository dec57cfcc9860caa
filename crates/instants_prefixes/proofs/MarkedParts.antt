-- A component that says something takes a byte that is no white space, and one that says nothing changes no record.
use Rattle.std.proofs.Common.{◌++◌, ◌≡◌, ℕ, Bool, true, false, List, [], ◌∷◌, length, drop, Option, Some, None, Result, Ok, Err, refl, sym, subst, arith}
use Rattle.std.specs.Prelude.{nat_le, option_map, codes, if◌then◌else◌}
use Rattle.std.proofs.lemmas.List.{append-nil}
use Rattle.description_modifiers.specs.declared.choices.Padding.{Padding}
use Rattle.description_modifiers.specs.declared.choices.MonthRepr.{MonthRepr}
use Rattle.description_modifiers.specs.declared.choices.MonthRepr.TheVariants as month
use Rattle.description_modifiers.specs.declared.choices.WeekdayRepr.{WeekdayRepr}
use Rattle.description_modifiers.specs.declared.choices.WeekdayRepr.TheVariants as weekday
use Rattle.description_modifiers.specs.declared.choices.WeekNumberRepr.{WeekNumberRepr}
use Rattle.description_modifiers.specs.declared.choices.WeekNumberRepr.TheVariants as week
use Rattle.description_modifiers.specs.declared.choices.YearRepr.{YearRepr}
use Rattle.description_modifiers.specs.declared.choices.YearRepr.TheVariants as year_repr
use Rattle.description_modifiers.specs.declared.choices.YearRange.{YearRange}
use Rattle.description_modifiers.specs.declared.choices.YearRange.TheVariants as range
use Rattle.description_modifiers.specs.declared.choices.UnixTimestampPrecision.{UnixTimestampPrecision}
use Rattle.description_modifiers.specs.declared.choices.UnixTimestampPrecision.TheVariants as unit
use Rattle.description_modifiers.specs.declared.choices.SubsecondDigits.{SubsecondDigits}
use Rattle.description_modifiers.specs.declared.choices.SubsecondDigits.TheVariants as digits
use Rattle.description_modifiers.specs.declared.choices.TrailingInput.{TrailingInput}
use Rattle.description_modifiers.specs.declared.choices.TrailingInput.TheVariants as trailing_input
use Rattle.description_items.specs.declared.component.Component.{Component}
use Rattle.description_items.specs.declared.component.Component.TheVariants as component
use Rattle.description_items.specs.Modern.{modern, modern_month, modern_weekday, modern_week_number, modern_year, modern_hour, modern_timestamp}
use Rattle.parsing_combinator.specs.Fault.{Fault}
use Rattle.parsing_combinator.specs.Fault as fault
use Rattle.parsing_combinator.specs.Names.{named, period, short_months, long_months, short_weekdays, long_weekdays}
use Rattle.parsing_combinator.specs.Numbers.{padded}
use Rattle.parsing_combinator.specs.Readings.{piece_or}
use Rattle.parsing_combinator.specs.Shape.{Shape, digits_between, taken}
use Rattle.parsing_combinator.specs.Tame.{EndsWith}
use Rattle.parsing_combinator.proofs.lemmas.Tame.{dropped}
use Rattle.parsing_components.specs.Ranged.{kept, says}
use Rattle.parsing_components.specs.Component.{fraction_of, ignored, offset_piece, time_piece, year_piece, date_piece, component_name, at_end, begins_character, if_whole, reads_modern, reads_component, reads_component_v3}
use Rattle.parsing_components.specs.declared.said.Read.{Read}
use Rattle.parsing_components.specs.declared.said.Read.TheVariants as read
use Rattle.instants_prefixes.specs.Kinds.{is_newer, is_saying}
use Rattle.instants_prefixes.specs.declared.kind.Kind.{Kind}
use Rattle.instants_prefixes.proofs.Marked.{HasMark}
use Rattle.instants_prefixes.proofs.Says.{IsOf, nothing_held, piece_each}
use Rattle.std.specs.Prelude.{IfOk, IfSome}
use Rattle.instants_prefixes.proofs.MarkedShapes.{IsMarking, IsMarkedBefore, Takes, taken_takes, digits_marking, padded_marking, year_marking, century_marking, offset_hour_marking, timestamp_marking, period_marking, named_marking}

-- ---- what says something

said_takes : {B : Type 0} (bytes rest : List ℕ) (o : Option B) → IsMarkedBefore bytes rest → Takes bytes (option_map (λ y. (y, rest)) o)
said_takes bytes rest None h = tt
said_takes bytes rest (Some y) h = h

kept_takes : {A B : Type 0} (f : A → Option B) (bytes : List ℕ) (o : Option (A × List ℕ)) → Takes bytes o → Takes bytes (kept f o)
kept_takes f bytes None h = tt
kept_takes f bytes (Some x) h = said_takes bytes x.1 (f x.0) h

says_takes : {A B : Type 0} (f : A → Option B) (shape : Shape A) (bytes : List ℕ) → IsMarking shape → Takes bytes (says f (taken shape) bytes)
says_takes f shape bytes h = kept_takes f bytes (taken shape bytes) (taken_takes shape bytes h)

fraction_marking : (d : SubsecondDigits) → IsMarking (fraction_of d)
fraction_marking digits.OneOrMore = digits_marking _ 1 32 (omega arith)
fraction_marking _ = digits_marking _ _ _ (omega arith)

two_marking : (p : Padding) → IsMarking (padded p 2 2)
two_marking p = padded_marking p 2 2 (omega arith)

three_marking : (p : Padding) → IsMarking (padded p 3 3)
three_marking p = padded_marking p 3 3 (omega arith)

one_marking : IsMarking (digits_between 1 1)
one_marking = digits_marking _ 1 1 (omega arith)

piece_takes : (c : Component) → is_saying c ≡ true → (bytes : List ℕ) → Takes bytes (date_piece c bytes)
unfolding date_piece year_piece time_piece offset_piece
piece_takes (component.Ignore m) e bytes = absurd cc
piece_takes (component.End m) e bytes = tt
piece_takes c e bytes =
    search (says_takes, two_marking, three_marking, one_marking, fraction_marking, period_marking, named_marking, year_marking, century_marking, offset_hour_marking, timestamp_marking, refl, tt)

-- ---- what is read

-- what says something takes such a byte, and what says nothing sets nothing; what it says is of these kinds
pub record Tells (says : Bool) (kinds : Kind → Bool) (bytes : List ℕ) (x : Read × List ℕ) : Type 0 where
  pub of : IsOf kinds x.0
  pub taken : List ℕ
  pub is : bytes ≡ taken ++ x.1
  pub mark : says ≡ true → HasMark taken
  pub nothing : says ≡ false → x.0 ≡ read.Nothing

saying_tells : (f : Fault) (kinds : Kind → Bool) (bytes : List ℕ) (o : Option (Read × List ℕ)) → IfSome o (λ x. IsOf kinds x.0) → Takes bytes o → IfOk (piece_or f o) (Tells true kinds bytes)
saying_tells f kinds bytes None of takes = tt
saying_tells f kinds bytes (Some x) of takes = record { of = of; taken = takes.taken; is = takes.is; mark = λ e. takes.mark; nothing = λ e. absurd cc }

abbrev TellsNothing : List ℕ → Read × List ℕ → Type 0
TellsNothing bytes x = Tells false (λ k. false) bytes x

nothing_tells : (bytes rest : List ℕ) → EndsWith bytes rest → TellsNothing bytes (read.Nothing, rest)
nothing_tells bytes rest h = record { of = nothing_held; taken = h.0; is = h.1; mark = λ e. absurd cc; nothing = λ e. refl }

there_tells : (f : Fault) (b : Bool) (bytes rest : List ℕ) → EndsWith bytes rest → IfOk (piece_or f (if b then Some (read.Nothing, rest) else None)) (TellsNothing bytes)
there_tells f true bytes rest h = nothing_tells bytes rest h
there_tells f false bytes rest h = tt

end_tells : (t : TrailingInput) (bytes : List ℕ) → IfOk (at_end t bytes) (TellsNothing bytes)
end_tells trailing_input.Discard bytes = nothing_tells bytes [] (bytes, sym (append-nil bytes))
end_tells trailing_input.Prohibit [] = nothing_tells [] [] ([], refl)
end_tells trailing_input.Prohibit (x ∷ rest) = tt

modern_tells : (c : Component) (bytes : List ℕ) → IfOk (reads_modern c bytes) (Tells (is_saying c) (is_newer c) bytes)
unfolding reads_modern date_piece year_piece time_piece offset_piece ignored
modern_tells (component.End m) bytes = end_tells m.trailing_input bytes
modern_tells (component.Ignore m) bytes =
    there_tells (fault.component (component_name (component.Ignore m))) (nat_le m.count (length bytes)) bytes (drop m.count bytes) (dropped m.count bytes)
modern_tells c bytes = saying_tells (fault.component (component_name c)) (is_newer c) bytes (date_piece c bytes) (piece_each c bytes refl) (piece_takes c refl bytes)

-- ---- older forms

month_says : (repr : MonthRepr) (p : Padding) (b : Bool) → is_saying (modern_month repr p b) ≡ true
month_says month.Numerical p b = refl
month_says _ p b = refl

weekday_says : (repr : WeekdayRepr) (one b : Bool) → is_saying (modern_weekday repr one b) ≡ true
weekday_says weekday.Short one b = refl
weekday_says _ one b = refl

week_says : (repr : WeekNumberRepr) (p : Padding) → is_saying (modern_week_number repr p) ≡ true
week_says week.Iso p = refl
week_says _ p = refl

year_says : (weeks : Bool) (repr : YearRepr) (reach : YearRange) (p : Padding) (sign : Bool) → is_saying (modern_year weeks repr reach p sign) ≡ true
year_says true year_repr.Full range.Extended p sign = refl
year_says true year_repr.Full range.Standard p sign = refl
year_says true year_repr.Century range.Extended p sign = refl
year_says true year_repr.Century range.Standard p sign = refl
year_says true year_repr.LastTwo reach p sign = refl
year_says false year_repr.Full range.Extended p sign = refl
year_says false year_repr.Full range.Standard p sign = refl
year_says false year_repr.Century range.Extended p sign = refl
year_says false year_repr.Century range.Standard p sign = refl
year_says false year_repr.LastTwo reach p sign = refl

hour_says : (half : Bool) (p : Padding) → is_saying (modern_hour half p) ≡ true
hour_says true p = refl
hour_says false p = refl

timestamp_says : (u : UnixTimestampPrecision) (sign : Bool) → is_saying (modern_timestamp u sign) ≡ true
timestamp_says unit.Second sign = refl
timestamp_says _ sign = refl

modern_says : (c : Component) → is_saying (modern c) ≡ is_saying c
modern_says (component.Month m) = month_says m.repr m.padding m.case_sensitive
modern_says (component.Weekday m) = weekday_says m.repr m.one_indexed m.case_sensitive
modern_says (component.WeekNumber m) = week_says m.repr m.padding
modern_says (component.Year m) = year_says m.iso_week_based m.repr m.range m.padding m.sign_is_mandatory
modern_says (component.Hour m) = hour_says m.is_12_hour_clock m.padding
modern_says (component.UnixTimestamp m) = timestamp_says m.precision m.sign_is_mandatory
modern_says c = refl

pub component_tells : (c : Component) (bytes : List ℕ) → IfOk (reads_component c bytes) (Tells (is_saying c) (is_newer (modern c)) bytes)
unfolding reads_component
component_tells c bytes =
    let P : Bool → Type 0 = λ b. IfOk (reads_modern (modern c) bytes) (Tells b (is_newer (modern c)) bytes) in subst P (modern_says c) (modern_tells (modern c) bytes)

whole_tells : (f : Fault) (count : ℕ) (bytes : List ℕ) (b : Bool)
    → IfOk (piece_or f (if_whole (if b then Some (read.Nothing, drop count bytes) else None))) (TellsNothing bytes)
whole_tells f count bytes false = tt
whole_tells f count bytes true = there_tells f (begins_character (drop count bytes)) bytes (drop count bytes) (dropped count bytes)

pub component_tells_v3 : (c : Component) (bytes : List ℕ) → IfOk (reads_component_v3 c bytes) (Tells (is_saying c) (is_newer (modern c)) bytes)
unfolding reads_component_v3 ignored
component_tells_v3 (component.Ignore m) bytes = whole_tells (fault.component (codes "ignore")) m.count bytes (nat_le m.count (length bytes))
component_tells_v3 c bytes = component_tells c bytes
