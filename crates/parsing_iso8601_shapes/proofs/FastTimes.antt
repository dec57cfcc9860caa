-- A time of day by its pieces, of the extended kind and of the basic one.
use Rattle.std.proofs.Common.{◌≡◌, ℕ, ◌+◌, ◌<◌, ◌≤◌, true, List, length, take, drop, Option, Some, None, refl, ◌∙◌, arith, lit<}
use Rattle.std.proofs.lemmas.Bool.Decides.{nat_tests}
use Rattle.base.specs.Bytes.{colon}
use Rattle.parsing_combinator.specs.Pieces.{digits, digit_count, digit_run, fraction, byte}
use Rattle.parsing_iso8601.specs.Designators.{time_designator}
use Rattle.parsing_iso8601.specs.Fractions.{rounded_part_of}
use Rattle.parsing_iso8601.specs.declared.kind.Kind.TheVariants.{Extended}
use Rattle.parsing_iso8601.specs.Kinds.{kind_of_time}
use Rattle.parsing_iso8601.specs.Numbers.{number, decimal_mark, fraction_digits, due_digits}
use Rattle.parsing_iso8601.specs.ReadView.{subsecond}
use Rattle.parsing_iso8601.specs.Times.{time_of, subsecond_of, time, designator, from_hour, minutes, from_minute, seconds, extended_seconds, due_second, to_second}
use Rattle.parsing_iso8601.proofs.Pieces.{only_byte, no_mark, mapped, fraction_run, run_length}
use Rattle.parsing_iso8601.proofs.Rounding.{short_fraction}

-- two digits without a fraction
pub whole_number : (bytes : List ℕ) (n : ℕ) (rest : List ℕ) → digits 2 bytes ≡ Some (n, rest) → decimal_mark rest ≡ None → number bytes ≡ Some ((n, None), rest)
unfolding number fraction_digits
whole_number bytes n rest e none = rw e (rw none refl)

-- two digits and their fraction
pub number_of : (bytes : List ℕ) (n : ℕ) (after : List ℕ) (run : Option (List ℕ)) (rest : List ℕ) → digits 2 bytes ≡ Some (n, after) → fraction_digits after ≡ Some (run, rest) → number bytes ≡ Some ((n, run), rest)
unfolding number
number_of bytes n after run rest e f = rw e (rw f refl)

pub before_colon : (bytes : List ℕ) (n : ℕ) (rest after : List ℕ) → digits 2 bytes ≡ Some (n, rest) → byte colon rest ≡ Some (tt, after) → number bytes ≡ Some ((n, None), rest)
before_colon bytes n rest after e f = whole_number bytes n rest e (only_byte colon rest (tt, after) refl refl f)

-- the time whose pieces these are
pub time_of_pieces : (b0 b1 b2 b3 b4 b5 b6 rest : List ℕ) (h m s : ℕ) (run : Option (List ℕ)) → byte time_designator b0 ≡ Some (tt, b1) → digits 2 b1 ≡ Some (h, b2) → byte colon b2 ≡ Some (tt, b3) → digits 2 b3 ≡ Some (m, b4) → byte colon b4 ≡ Some (tt, b5) → digits 2 b5 ≡ Some (s, b6) → fraction_digits b6 ≡ Some (run, rest)
    → h ≤ 23 → m ≤ 59 → s ≤ 60 → subsecond_of run < 1_000_000_000
    → time Extended true b0 ≡ Some ((time_of h m s (subsecond_of run), Extended), rest)
unfolding time designator from_hour kind_of_time minutes from_minute seconds extended_seconds due_second to_second
time_of_pieces b0 b1 b2 b3 b4 b5 b6 rest h m s run p0 p1 p2 p3 p4 p5 p6 hh hm hs hn = grind (arith, nat_tests, before_colon, number_of)

pub before_digits : (bytes : List ℕ) (n : ℕ) (rest : List ℕ) (x : ℕ × List ℕ) → digits 2 bytes ≡ Some (n, rest) → digits 2 rest ≡ Some x → number bytes ≡ Some ((n, None), rest)
before_digits bytes n rest x e f = whole_number bytes n rest e (no_mark 2 rest x (lit< tt) f)

pub no_number : (bytes : List ℕ) → digits 2 bytes ≡ None → number bytes ≡ None
unfolding number
no_number bytes e = rw e refl

-- ---- fractions

-- a time whose fraction has these nanoseconds
pub of_fraction : {C : Type 0} (after rest : List ℕ) (n : ℕ) → subsecond after ≡ Some (n, rest) → ((run : Option (List ℕ)) → fraction_digits after ≡ Some (run, rest) → subsecond_of run ≡ n → C) → C
unfolding subsecond
of_fraction after rest n f on = mapped subsecond_of (fraction_digits after) n rest f on

-- a fraction of at most nine digits
pub short_subsecond : (bytes after rest : List ℕ) (n : ℕ) → decimal_mark bytes ≡ Some (tt, after) → fraction after ≡ Some (n, rest) → length after ≤ length rest + 9 → subsecond bytes ≡ Some (n, rest)
unfolding subsecond fraction_digits due_digits
short_subsecond bytes after rest n mark f short =
    fraction_run after n rest f (λ run e is.
    let few : length run ≤ 9 = omega (arith, run_length after run rest e) in
    let value : rounded_part_of 1_000_000_000 run ≡ n = short_fraction run few ∙ is in
    rw mark (rw e (rw value refl)))

-- a fraction of so many digits, rounded
pub long_subsecond : (bytes after rest : List ℕ) (count n : ℕ) → decimal_mark bytes ≡ Some (tt, after) → 0 < count → digit_count after ≡ count → drop count after ≡ rest → rounded_part_of 1_000_000_000 (take count after) ≡ n → subsecond bytes ≡ Some (n, rest)
unfolding subsecond fraction_digits due_digits digit_run
long_subsecond bytes after rest count n mark some is left value = grind (arith, nat_tests)

pub no_subsecond : (bytes : List ℕ) → decimal_mark bytes ≡ None → subsecond bytes ≡ Some (0, bytes)
unfolding subsecond fraction_digits
no_subsecond bytes none = rw none refl
