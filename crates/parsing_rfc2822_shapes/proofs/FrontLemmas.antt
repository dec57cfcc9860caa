-- What stands before the day.
use Rattle.std.proofs.Common.{◌≡◌, ◌≤◌, ◌+◌, ◌∙◌, ℕ, List, [], ◌∷◌, length, get_or, drop, eqb, leb, Option, Some, None, refl, ap, arith, lit<, ◌<◌}
use Rattle.std.specs.Prelude.{true, false}
use Rattle.std.specs.Char.{is_ascii_digit, to_ascii_lowercase}
use Rattle.std.proofs.lemmas.Bool.Decides.{nat_tests}
use Rattle.std.proofs.lemmas.List.{drop-drop, get_or-drop, length-drop, take_rest}
use Rattle.std.proofs.lemmas.List.Sums.{prefix_len_passes, prefix_len-le-length}
use Rattle.parsing_combinator.specs.Pieces.{digits}
use Rattle.parsing_combinator.specs.Places.{HasDigit}
use Rattle.parsing_combinator.proofs.Decimal.{digit_here}
use Rattle.parsing_combinator.proofs.FractionDigits.{digits_read}
use Rattle.parsing_combinator.proofs.AtPlaces.{first_at, byte_there}
use Rattle.parsing_rfc2822.specs.WhiteSpace.{comments_and_white_space}
use Rattle.parsing_rfc2822.specs.Names.{weekday, weekday_of}
use Rattle.parsing_rfc2822.specs.Reading.{comma, first_or, one_or_two_digits, named_day, optional_weekday, day}
use Rattle.parsing_rfc2822.proofs.WhiteSpaceLemmas.{none_there, one_space_there, two_spaces_there}
use Rattle.parsing_rfc2822_shapes.specs.Layout.{BeginsDay}
use Rattle.parsing_rfc2822_shapes.specs.Names.{HasWeekday}

-- digits begin with one
pub digits_begin : (n : ℕ) (bytes rest : List ℕ) (m : ℕ) → 0 < n → digits n bytes ≡ Some (m, rest) → (1 ≤ length bytes) × HasDigit bytes 0
digits_begin n bytes rest m some e =
    let count = (digits_read n bytes m rest e).enough in
    let first = digit_here (get_or bytes 0 0) (prefix_len_passes is_ascii_digit bytes 0 0 (omega (arith, some, count))) in
    (omega (arith, some, count, prefix_len-le-length is_ascii_digit bytes), record { low = first.0; high = first.1 })

of_either : (bytes rest : List ℕ) (n : ℕ) (two : Option (ℕ × List ℕ)) → digits 2 bytes ≡ two → first_or two (digits 1 bytes) ≡ Some (n, rest) → HasDigit bytes 0
of_either bytes rest n (Some x) e f = (digits_begin 2 bytes x.1 x.0 (lit< tt) e).1
of_either bytes rest n None e f = (digits_begin 1 bytes rest n (lit< tt) f).1

day_begins : (bytes rest : List ℕ) (n : ℕ) → one_or_two_digits bytes ≡ Some (n, rest) → HasDigit bytes 0
unfolding one_or_two_digits
day_begins bytes rest n e = of_either bytes rest n (digits 2 bytes) refl e

-- a space before a byte that neither goes on nor opens a comment
space_after : (text : List ℕ) (place : ℕ) → place + 2 ≤ length text → get_or text place 0 ≡ 32 → 41 ≤ get_or text (place + 1) 0 → comments_and_white_space (drop place text) ≡ Some (drop (place + 1) text)
space_after text place room is next =
    let e = one_space_there (drop place text) (omega (arith, length-drop place text)) (first_at text place ∙ is) (omega (arith, get_or-drop place text 1 0)) in
    e ∙ ap (λ (t : List ℕ). Some t) (take_rest (drop place text) 1 ∙ drop-drop 1 place text)

-- a day begins after a weekday and what is skipped before a digit
begins_by : (input : List ℕ) (n : ℕ) → 6 ≤ length input → HasWeekday input → (HasDigit (drop n input) 0 → comments_and_white_space (drop 4 input) ≡ Some (drop n input)) → BeginsDay input (drop n input)
unfolding day optional_weekday named_day
begins_by input n long w skipped =
    record {
      weekday_is = Some w.weekday_is;
      reads = λ number rest e.
          let none = none_there input (omega arith) (omega (arith, w.letter)) in
          rw (none, w.named, byte_there input 3 comma (omega arith) w.comma_there, skipped (day_begins (drop n input) rest number e), e) refl;
    }

-- .. after one space
pub begins_after : (input : List ℕ) → 6 ≤ length input → HasWeekday input → BeginsDay input (drop 5 input)
begins_after input long w = begins_by input 5 long w (λ h. space_after input 4 (omega arith) w.space_there (omega (arith, first_at input 5, h.low)))

-- .. and after one more
pub begins_later : (input : List ℕ) → 7 ≤ length input → HasWeekday input → get_or input 5 0 ≡ 32 → BeginsDay input (drop 6 input)
begins_later input long w more = begins_by input 6 (omega arith) w (λ h.
    let spaces = two_spaces_there (drop 4 input) (omega (arith, length-drop 4 input)) (first_at input 4 ∙ w.space_there) (get_or-drop 4 input 1 0 ∙ more) (omega (arith, get_or-drop 4 input 2 0, first_at input 6, h.low)) in
    spaces ∙ ap (λ (t : List ℕ). Some t) (drop-drop 2 4 input))

no_name : (c d e : ℕ) → c ≤ 57 → weekday_of (c ∷ d ∷ e ∷ []) ≡ None
unfolding weekday_of
no_name c d e le =
    let m : eqb (to_ascii_lowercase c) 109 ≡ false = grind (arith, nat_tests) in
    let t : eqb (to_ascii_lowercase c) 116 ≡ false = grind (arith, nat_tests) in
    let w : eqb (to_ascii_lowercase c) 119 ≡ false = grind (arith, nat_tests) in
    let f : eqb (to_ascii_lowercase c) 102 ≡ false = grind (arith, nat_tests) in
    let s : eqb (to_ascii_lowercase c) 115 ≡ false = grind (arith, nat_tests) in
    rw (m, t, w, f, s) refl

-- no weekday begins with a digit
no_weekday : (bytes : List ℕ) → get_or bytes 0 0 ≤ 57 → weekday bytes ≡ None
unfolding weekday
no_weekday (c ∷ d ∷ e ∷ rest) le =
    let long : leb 3 (length (c ∷ d ∷ e ∷ rest)) ≡ true = grind (arith, nat_tests) in
    rw (long, no_name c d e le) refl
no_weekday bytes le = refl

-- a day begins where nothing stands before it
pub begins_alone : (input : List ℕ) → 1 ≤ length input → BeginsDay input input
unfolding day optional_weekday
begins_alone input long =
    record {
      weekday_is = None;
      reads = λ number rest e. let h = day_begins input rest number e in rw (none_there input long (omega (arith, h.low)), no_weekday input h.high, e) refl;
    }
