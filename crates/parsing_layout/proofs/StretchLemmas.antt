-- What a part reads is its stretch.
use Rattle.std.proofs.Common.{◌≡◌, ◌≤◌, ◌||◌, ℕ, Bool, true, false, List, ◌∷◌, Option, Some, refl, sym, arith}
use Rattle.std.specs.Prelude.{IfSome, ◌==◌}
use Rattle.std.specs.Char.{is_ascii_digit}
use Rattle.std.proofs.lemmas.List.Sums.{prefix_len_passes}
use Rattle.parsing_combinator.specs.Pieces.{skip_of, digit_count}
use Rattle.parsing_combinator.specs.Shape.{taken, is_sign, is_space, digits_as, spaced_between}
use Rattle.parsing_combinator.specs.Names.{named, short_months, long_months, short_weekdays, long_weekdays, periods}
use Rattle.parsing_combinator.proofs.FractionDigits.{digits_read}
use Rattle.parsing_layout.specs.Stretch.{Begins, Leaves, IsCut, stretch_of, initials, name_stands}
use Rattle.parsing_layout.specs.Layout.{Names, Part, piece_of, name_piece}
use Rattle.parsing_layout.specs.declared.parts.Names.TheVariants as names
use Rattle.parsing_layout.specs.declared.parts.Part.TheVariants as part
use Rattle.parsing_layout.proofs.LayoutLemmas.{numbered}
use Rattle.parsing_layout.proofs.PieceLemmas.{exact_said, sign_is, skip_is}
use Rattle.parsing_layout.proofs.ShapeLemmas.{Test, digits_hold, spaced_hold, taken_cuts, names_cut}
use Rattle.std.proofs.lemmas.Bool.Decides.{nat_tests}

-- ---- parts

cut_there : {A : Type 0} (t : Test) (n : ℕ) (w : Bool) (line rest : List ℕ) (o : Option (A × List ℕ)) (x : A) → o ≡ Some (x, rest) → IfSome o (λ y. Leaves t n w line y.1) → Leaves t n w line rest
cut_there t n w line rest o x e h = rw e at h

named_there : {A : Type 0} (f : A → ℕ) (t : Test) (n : ℕ) (w : Bool) (line rest : List ℕ) (o : Option (A × List ℕ)) (k : ℕ) → numbered f o ≡ Some (k, rest) → IfSome o (λ y. Leaves t n w line y.1) → Leaves t n w line rest
named_there f t n w line rest o k e h = grind (arith, nat_tests)

-- so many digits
digits_stand : (count : ℕ) (line : List ℕ) → count ≤ digit_count line → Begins (λ place c. is_ascii_digit c) count line
digits_stand count line enough place lt = prefix_len_passes is_ascii_digit line place 0 (omega (arith, lt, enough))

-- one byte
first_stands : (p : ℕ → Bool) (c : ℕ) (line rest : List ℕ) → line ≡ c ∷ rest → p c ≡ true → Leaves (λ place x. p x) 1 true line rest
first_stands p c line rest is passes = rw is (λ place lt. (let first : place ≡ 0 = omega (arith, lt) in rw first passes), λ w. refl)

literal_stands : (p : ℕ → Bool) (line rest : List ℕ) (n : ℕ) → numbered (λ _. 0) (skip_of p line) ≡ Some (n, rest) → Leaves (λ place x. p x) 1 true line rest
literal_stands p line rest n e = grind (arith, nat_tests, skip_is)

name_cut : (kind : Names) (b : Bool) (line rest : List ℕ) (n : ℕ) → name_piece kind b line ≡ Some (n, rest) → IsCut (stretch_of (part.Name kind b)) line rest
name_cut names.ShortMonth b line rest n e = named_there _ (name_stands (initials names.ShortMonth)) 3 true line rest (taken (named b short_months) line) n e (names_cut b (initials names.ShortMonth) 3 true short_months refl line)
name_cut names.LongMonth b line rest n e = named_there _ (name_stands (initials names.LongMonth)) 3 false line rest (taken (named b long_months) line) n e (names_cut b (initials names.LongMonth) 3 false long_months refl line)
name_cut names.ShortWeekday b line rest n e = named_there _ (name_stands (initials names.ShortWeekday)) 3 true line rest (taken (named b short_weekdays) line) n e (names_cut b (initials names.ShortWeekday) 3 true short_weekdays refl line)
name_cut names.LongWeekday b line rest n e = named_there _ (name_stands (initials names.LongWeekday)) 3 false line rest (taken (named b long_weekdays) line) n e (names_cut b (initials names.LongWeekday) 3 false long_weekdays refl line)
name_cut names.HalfOfDay b line rest n e = named_there _ (name_stands (initials names.HalfOfDay)) 2 true line rest (taken (named b periods) line) n e (names_cut b (initials names.HalfOfDay) 2 true periods refl line)

-- one digit at least
digits_cut : {A : Type 0} (value : List ℕ → A) (m : ℕ) (line : List ℕ) → IfSome (taken (digits_as value 1 m) line) (λ x. Leaves (λ place c. is_ascii_digit c) 1 false line x.1)
digits_cut value m = taken_cuts (λ place c. is_ascii_digit c) 1 false (digits_as value 1 m) (digits_hold value 1 m 1 false (omega arith) (λ e. absurd cc))

spaced_cut : (line : List ℕ) → IfSome (taken (spaced_between 2 2) line) (λ x. Leaves (λ place c. is_ascii_digit c || is_space c) 2 true line x.1)
spaced_cut = taken_cuts (λ place c. is_ascii_digit c || is_space c) 2 true (spaced_between 2 2) (spaced_hold 2 2 2 true (omega arith) (λ e. (refl, refl)))

-- what a part reads is cut off with its stretch
pub part_cut : (p : Part) (line rest : List ℕ) (n : ℕ) → piece_of p line ≡ Some (n, rest) → IsCut (stretch_of p) line rest
part_cut (part.Byte b) line rest n e = literal_stands (λ x. x == b) line rest n e
part_cut part.Any line rest n e = literal_stands (λ _. true) line rest n e
part_cut (part.Digits f count) line rest n e = let d = digits_read count line n rest e in (digits_stand count line d.enough, λ w. sym d.after)
part_cut (part.Bare f) line rest n e = cut_there (λ place c. is_ascii_digit c) 1 false line rest _ n e (digits_cut _ 2 line)
part_cut (part.Spaced f) line rest n e = cut_there (λ place c. is_ascii_digit c || is_space c) 2 true line rest _ n e (spaced_cut line)
part_cut (part.Name kind b) line rest n e = name_cut kind b line rest n e
part_cut part.Sign line rest n e = let k = sign_is line rest n e in first_stands is_sign n line rest k.all k.is
part_cut (part.Fraction count) line rest n e = let d = exact_said _ line rest count n refl e in (digits_stand count line d.0, λ w. sym d.2)
part_cut part.OpenFraction line rest n e = cut_there (λ place c. is_ascii_digit c) 1 false line rest _ n e (digits_cut _ 32 line)
part_cut (part.Run f most) line rest n e = cut_there (λ place c. is_ascii_digit c) 1 false line rest _ n e (digits_cut _ most line)
