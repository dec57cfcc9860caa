-- What a component leaves is the end of what was there, and the name in its fault is short.
use Rattle.std.proofs.Common.{ℕ, zero, suc, Bool, true, false, cond, List, [], ◌∷◌, length, take, drop, Option, Some, None, refl, sym, arith}
use Rattle.std.specs.Prelude.{nat_le, option_map, codes}
use Rattle.std.proofs.lemmas.List.{append-nil}
use Rattle.description_modifiers.specs.declared.choices.TrailingInput.{TrailingInput}
use Rattle.description_modifiers.specs.declared.choices.TrailingInput.TheVariants as trailing_input
use Rattle.description_items.specs.declared.component.Component.{Component}
use Rattle.description_items.specs.declared.component.Component.TheVariants as component
use Rattle.description_items.specs.Modern.{modern}
use Rattle.parsing_combinator.specs.Fault.{Fault}
use Rattle.parsing_combinator.specs.Fault as fault
use Rattle.parsing_combinator.specs.Readings.{piece_or}
use Rattle.parsing_combinator.specs.ShortName.{HasShortName}
use Rattle.parsing_combinator.specs.Tame.{EndsWith, Leaves, Tame, IsTame}
use Rattle.parsing_combinator.proofs.lemmas.Tame.{dropped, piece_tame}
use Rattle.parsing_combinator.specs.Shape.{Shape, greatest, or_before, prefix, taken}
use Rattle.parsing_combinator.specs.Names.{named, period, short_months, long_months, short_weekdays, long_weekdays}
use Rattle.parsing_components.specs.Ranged.{kept, says}
use Rattle.parsing_components.specs.Component.{fraction_of, ignored, offset_piece, time_piece, year_piece, date_piece, component_name, time_name, at_end, begins_character, if_whole, reads_modern, reads_component, reads_component_v3}
use Rattle.parsing_components.specs.declared.said.Read.{Read}
use Rattle.parsing_components.specs.declared.said.Read.TheVariants as read

prefix_leaves : {A : Type 0} (k : ℕ) (bytes : List ℕ) (o : Option A) → Leaves bytes (option_map (λ x. (x, drop k bytes)) o)
prefix_leaves k bytes None = tt
prefix_leaves k bytes (Some x) = dropped k bytes

or_leaves : {A : Type 0} (bytes : List ℕ) (one other : Option (A × List ℕ)) → Leaves bytes one → Leaves bytes other → Leaves bytes (or_before one other)
or_leaves bytes None other h k = k
or_leaves bytes (Some x) other h k = h

greatest_leaves : {A : Type 0} (shape : Shape A) (bytes : List ℕ) (n : ℕ) → Leaves bytes (greatest (prefix shape bytes) n)
greatest_leaves shape bytes zero = prefix_leaves 0 bytes (shape (take 0 bytes))
greatest_leaves shape bytes (suc n) = or_leaves bytes (prefix shape bytes (suc n)) (greatest (prefix shape bytes) n) (prefix_leaves (suc n) bytes (shape (take (suc n) bytes))) (greatest_leaves shape bytes n)

taken_leaves : {A : Type 0} (shape : Shape A) (bytes : List ℕ) → Leaves bytes (taken shape bytes)
unfolding taken
taken_leaves shape bytes = greatest_leaves shape bytes (length bytes)

said_leaves : {B : Type 0} (bytes rest : List ℕ) (o : Option B) → EndsWith bytes rest → Leaves bytes (option_map (λ y. (y, rest)) o)
said_leaves bytes rest None h = tt
said_leaves bytes rest (Some y) h = h

kept_leaves : {A B : Type 0} (f : A → Option B) (bytes : List ℕ) (o : Option (A × List ℕ)) → Leaves bytes o → Leaves bytes (kept f o)
kept_leaves f bytes None h = tt
kept_leaves f bytes (Some x) h = said_leaves bytes x.1 (f x.0) h

says_leaves : {A B : Type 0} (f : A → Option B) (shape : Shape A) (bytes : List ℕ) → Leaves bytes (says f (taken shape) bytes)
says_leaves f shape bytes = kept_leaves f bytes (taken shape bytes) (taken_leaves shape bytes)

whole_leaves : (b : Bool) (bytes : List ℕ) (x : Read × List ℕ) → EndsWith bytes x.1 → Leaves bytes (cond b (Some x) None)
whole_leaves true bytes x h = h
whole_leaves false bytes x h = tt

ignored_leaves : (count : ℕ) (bytes : List ℕ) → Leaves bytes (ignored count bytes)
unfolding ignored
ignored_leaves count bytes = whole_leaves (nat_le count (length bytes)) bytes (read.Nothing, drop count bytes) (dropped count bytes)

pub component_leaves : (c : Component) (bytes : List ℕ) → Leaves bytes (date_piece c bytes)
unfolding date_piece year_piece time_piece offset_piece
component_leaves (component.Ignore m) bytes = ignored_leaves m.count bytes
component_leaves (component.Period m) bytes = says_leaves (λ x. Some (read.Afternoon x)) (period m.is_uppercase m.case_sensitive) bytes
component_leaves (component.Subsecond m) bytes = says_leaves (λ n. Some (read.Subsecond n)) (fraction_of m.digits) bytes
component_leaves (component.MonthShort m) bytes = says_leaves (λ x. Some (read.Month x)) (named m.case_sensitive short_months) bytes
component_leaves (component.MonthLong m) bytes = says_leaves (λ x. Some (read.Month x)) (named m.case_sensitive long_months) bytes
component_leaves (component.WeekdayShort m) bytes = says_leaves (λ x. Some (read.Weekday x)) (named m.case_sensitive short_weekdays) bytes
component_leaves (component.WeekdayLong m) bytes = says_leaves (λ x. Some (read.Weekday x)) (named m.case_sensitive long_weekdays) bytes
component_leaves c bytes = search says_leaves

pub short_name : (c : Component) → HasShortName (fault.component (component_name c))
unfolding component_name time_name
short_name (component.Day m) = omega arith
short_name c = omega arith

end_tame : (t : TrailingInput) (bytes : List ℕ) → Tame bytes (at_end t bytes)
end_tame trailing_input.Discard bytes = (bytes, sym (append-nil bytes))
end_tame trailing_input.Prohibit [] = ([], refl)
end_tame trailing_input.Prohibit (x ∷ rest) = tt

modern_tame : (c : Component) → IsTame (reads_modern c)
unfolding reads_modern
modern_tame (component.End m) bytes = end_tame m.trailing_input bytes
modern_tame c bytes = piece_tame (fault.component (component_name c)) bytes (date_piece c bytes) (component_leaves c bytes) (short_name c)

pub component_tame : (c : Component) → IsTame (reads_component c)
unfolding reads_component
component_tame c = modern_tame (modern c)

if_whole_leaves : (bytes : List ℕ) (o : Option (Read × List ℕ)) → Leaves bytes o → Leaves bytes (if_whole o)
if_whole_leaves bytes None h = tt
if_whole_leaves bytes (Some x) h = whole_leaves (begins_character x.1) bytes x h

pub component_tame_v3 : (c : Component) → IsTame (reads_component_v3 c)
unfolding reads_component_v3
component_tame_v3 (component.Ignore m) bytes = piece_tame (fault.component (codes "ignore")) bytes (if_whole (ignored m.count bytes)) (if_whole_leaves bytes (ignored m.count bytes) (ignored_leaves m.count bytes)) (omega arith)
component_tame_v3 c bytes = component_tame c bytes
