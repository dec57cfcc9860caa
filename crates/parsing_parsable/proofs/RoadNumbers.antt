-- The numbers of a date and of an offset, as both ways resolve them.
use Rattle.std.proofs.Common.{◌≡◌, ℕ, ◌==◌, Bool, true, false, cond, List, ◌∷◌, length, Option, Some, None, refl, arith}
use Rattle.std.proofs.lemmas.Bool.Decides.{nat_tests}
use Rattle.std.specs.Prelude.{pos}
use Rattle.std.specs.Int.{is_in_range}
use Rattle.std.specs.Option.{option_or, unwrap_or}
use Rattle.calendar.specs.UtcOffset.{offset_of}
use Rattle.calendar_count.specs.Month.{month_number}
use Rattle.calendar_count.specs.declared.month.Month.{Month}
use Rattle.calendar_count.specs.declared.month.Month.TheVariants as month
use Rattle.parsing_components.specs.Ranged.{under}
use Rattle.parsing_values.specs.NamedDay.{calendar_date_of}
use Rattle.parsing_values.specs.Resolution.{date_of, signed_offset_of}

pub month_in_range : (m : Month) → is_in_range 1 12 (month_number m) ≡ true
month_in_range month.January = refl
month_in_range m = refl

pub same_date : (y n d : ℕ) (m : Month) → month_number m ≡ n → is_in_range 1 12 n ≡ true → calendar_date_of (pos y) (month_number m) d ≡ date_of (pos y) n d
unfolding calendar_date_of date_of
same_date y n d m is range = rw (is, range) refl

-- no other value takes the place of one that is missing
pub no_more : {A : Type 0} (o : Option A) → option_or o None ≡ o
no_more None = refl
no_more (Some n) = refl

pub same_offset : (is_named is_negative : Bool) (hours minutes : ℕ) → offset_of (under is_negative hours) (under is_negative minutes) (unwrap_or (cond is_named (Some (pos 0)) None) (pos 0)) ≡ signed_offset_of is_negative hours minutes
unfolding signed_offset_of
same_offset true true hours minutes = refl
same_offset true false hours minutes = refl
same_offset false true hours minutes = refl
same_offset false false hours minutes = refl

-- bytes that are there
pub not_all : (c : ℕ) (cs : List ℕ) → (length (c ∷ cs) == 0) ≡ false
not_all c cs = grind (arith, nat_tests)
