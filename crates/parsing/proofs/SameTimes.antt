-- The time of day in both formats.
use Rattle.std.proofs.Common.{◌≡◌, ℕ, ◌+◌, ◌*◌, ◌/◌, ◌^◌, ◌<◌, ◌≤◌, ◌==◌, ◌||◌, true, false, cond, List, [], ◌∷◌, take, drop, length, Option, Some, None, Ok, refl, ap, ◌∙◌, arith, lit<, inl, inr}
use Rattle.std.specs.Prelude.{nat_lt}
use Rattle.std.specs.Option.{unwrap_or}
use Rattle.std.proofs.lemmas.Bool.Decides.{nat_tests}
use Rattle.base.specs.Bytes.{colon, dot}
use Rattle.std.specs.Str.Parse.{digits_value}
use Rattle.std.proofs.lemmas.Int.Digits.{digits_value-lt}
use Rattle.std.proofs.Math.Nat.{one-le-pow, mul-lt-mul_of_pos_right}
use Rattle.std.proofs.lemmas.Nat.{div_below}
use Rattle.std.proofs.lemmas.Bool.{cases_Bool, le-leb}
use Rattle.parsing_combinator.proofs.Decimal.{count_prefix}
use Rattle.parsing_combinator.proofs.FractionDigits.{all_digits}
use Rattle.parsing_combinator.specs.Pieces.{digits, digit_count, digit_run, fraction, nanoseconds_of, byte, skip_of, byte_of}
use Rattle.parsing_combinator.specs.declared.zone.Zone.{Zone}
use Rattle.parsing_rfc3339.specs.Reading.{clock, subsecond, due_fraction, offset, zulu, signed_offset}
use Rattle.parsing_iso8601.specs.Designators.{time_designator}
use Rattle.parsing_iso8601.specs.declared.kind.Kind.TheVariants.{Extended}
use Rattle.parsing_iso8601.specs.Kinds.{kind_of_time}
use Rattle.parsing_iso8601.specs.Numbers.{decimal_mark, fraction_digits, due_digits}
use Rattle.parsing_iso8601.specs.Times.{time_of, subsecond_of, time, designator, from_hour, minutes, from_minute, seconds, extended_seconds, due_second, to_second}
use Rattle.parsing_iso8601.proofs.Pieces.{same, passed, not_passed, fraction_run}
use Rattle.parsing_iso8601_shapes.proofs.FastTimes.{time_of_pieces, number_of, before_colon}
use Rattle.parsing_iso8601.proofs.Rounding.{rounded}
use Rattle.parsing.specs.TwoFormats.{digits_after, rounds_up}
use Rattle.parsing.proofs.Inversion.{due_piece, same_end}
use Rattle.parsing.proofs.Places.{byte_place, further}
use Rattle.parsing.proofs.RfcPieces.{clock_pieces}

-- another byte than `T` begins no time of day after a date
pub no_time : (c : ℕ) (cs : List ℕ) → (c == 84) ≡ false → time Extended true (c ∷ cs) ≡ None
unfolding time designator skip_of
no_time c cs other = rw other refl

pub designated : (c : ℕ) (cs : List ℕ) → (c == 84) ≡ true → byte time_designator (c ∷ cs) ≡ Some (tt, cs)
unfolding skip_of
designated c cs is = rw is refl

abbrev pub run_of : Option (List ℕ) → List ℕ
run_of None = []
run_of (Some ds) = ds

-- the fraction that both formats read
pub record SameFraction (bytes : List ℕ) (n : ℕ) (rest : List ℕ) : Type 0 where
  pub below : n < 1_000_000_000
  pub run : Option (List ℕ)
  pub read : fraction_digits bytes ≡ Some (run, rest)
  pub value : nanoseconds_of (run_of run) ≡ n
  pub digits : digits_after (byte dot bytes) ≡ run_of run
  pub place : ℕ
  pub after : drop place bytes ≡ rest

run_parts : (bytes run rest : List ℕ) → digit_run bytes ≡ Some (run, rest) → (take (digit_count bytes) bytes ≡ run) × (drop (digit_count bytes) bytes ≡ rest)
unfolding digit_run
run_parts bytes run rest e =
    let p = not_passed (digit_count bytes == 0) (take (digit_count bytes) bytes, drop (digit_count bytes) bytes) (run, rest) e in
    (ap (λ (x : List ℕ × List ℕ). x.0) p, ap (λ (x : List ℕ × List ℕ). x.1) p)

run_digits : (bytes run rest : List ℕ) → digit_run bytes ≡ Some (run, rest) → digit_count run ≡ length run
run_digits bytes run rest e = let is = (run_parts bytes run rest e).0 in rw (← is) (count_prefix bytes (digit_count bytes) (omega arith))

quotient_below : (v p q : ℕ) → 0 < p → 0 < q → v < p → v * q / p < q
quotient_below v p q some more less = div_below (v * q) p q some (let product : v * q < p * q = mul-lt-mul_of_pos_right less more in omega (arith, product))

below_second : (run : List ℕ) → digit_count run ≡ length run → nanoseconds_of run < 1_000_000_000
below_second run all = quotient_below (digits_value 10 run) (10 ^ length run) (10 ^ 9) (one-le-pow (length run) 10 (lit< tt)) (lit< tt) (digits_value-lt 10 run (all_digits run all))

-- a zone begins with no decimal mark
zone_first : (c : ℕ) (cs : List ℕ) (z : Zone) (last : List ℕ) → offset false (c ∷ cs) ≡ Ok (z, last) → ((c == 46) || (c == 44)) ≡ false
unfolding offset zulu signed_offset skip_of byte_of
zone_first c cs z last h =
    elim (cases_Bool ((c == 46) || (c == 44))) [
      | inl marked ↦
          let not_zulu : ((c == 90) || (c == 122)) ≡ false = grind (arith, nat_tests) in
          let not_sign : ((c == 43) || (c == 45)) ≡ false = grind (arith, nat_tests) in
          absurd (let never = rw (not_zulu, not_sign) at h in cc)
      | inr unmarked ↦ unmarked
    ]

zone_unmarked : (bytes : List ℕ) (z : Zone) (last : List ℕ) → offset false bytes ≡ Ok (z, last) → decimal_mark bytes ≡ None
unfolding decimal_mark skip_of
zone_unmarked [] z last h = refl
zone_unmarked (c ∷ cs) z last h = rw (zone_first c cs z last h) refl

point_marks : (bytes after : List ℕ) → byte dot bytes ≡ Some (tt, after) → decimal_mark bytes ≡ Some (tt, after)
unfolding decimal_mark skip_of
point_marks [] after e = absurd (cc)
point_marks (c ∷ cs) after e =
    let is : (c == 46) ≡ true = passed (c == 46) _ _ e in
    let left : cs ≡ after = ap (λ (x : Unit {0} × List ℕ). x.1) (same (tt, cs) (tt, after) (rw is at e)) in
    let t : ((c == 46) || (c == 44)) ≡ true = grind (arith, nat_tests) in
    rw t (ap (λ (s : List ℕ). Some (tt, s)) left)

with_point : (bytes after : List ℕ) (n : ℕ) (rest : List ℕ) → byte dot bytes ≡ Some (tt, after) → fraction after ≡ Some (n, rest) → SameFraction bytes n rest
unfolding fraction_digits due_digits
with_point bytes after n rest point h =
    fraction_run after n rest h (λ run e is.
    record { below = rw (← is) (below_second run (run_digits after run rest e)); run = Some run; read = rw (point_marks bytes after point) (rw e refl); value = is; digits = rw point (run_parts after run rest e).0; place = 1 + digit_count after; after = further 1 (digit_count after) bytes after rest (byte_place dot bytes after point) (run_parts after run rest e).1 })

pub fraction_by : (bytes : List ℕ) (o : Option ℕ) (n : ℕ) (rest : List ℕ) (z : Zone) (last : List ℕ) (point : Option (Unit {0} × List ℕ)) → byte dot bytes ≡ point → subsecond bytes ≡ Ok (o, rest) → unwrap_or o 0 ≡ n → offset false rest ≡ Ok (z, last) → SameFraction bytes n rest
unfolding subsecond due_fraction fraction_digits
fraction_by bytes o n rest z last None e h is zone =
    let none : (None, bytes) ≡ (o, rest) = same_end (None, bytes) (o, rest) (rw e at h) in
    let left : bytes ≡ rest = ap (λ (x : Option ℕ × List ℕ). x.1) none in
    let value : 0 ≡ n = ap (λ (x : Option ℕ × List ℕ). unwrap_or x.0 0) none ∙ is in
    let unmarked = zone_unmarked bytes z last (rw left zone) in
    record { below = rw (← value) (lit< tt); run = None; read = rw unmarked (ap (λ (s : List ℕ). Some (None, s)) left); value = value; digits = rw e refl; place = 0; after = left }
fraction_by bytes o n rest z last (Some x) e h is zone =
    due_piece _ (fraction x.1) _ (o, rest) (rw e at h) (λ v after p k.
    let there : (Some v, after) ≡ (o, rest) = same_end (Some v, after) (o, rest) k in
    let value : v ≡ n = ap (λ (y : Option ℕ × List ℕ). unwrap_or y.0 0) there ∙ is in
    let left : after ≡ rest = ap (λ (y : Option ℕ × List ℕ). y.1) there in
    with_point bytes x.1 n rest e (rw (← value, ← left) p))

-- ISO 8601's nanoseconds of the fraction, by those of RFC 3339
pub rounded_cut : (run : Option (List ℕ)) → subsecond_of run ≡ cond (rounds_up (run_of run)) (nanoseconds_of (run_of run) + 1) (nanoseconds_of (run_of run))
unfolding rounds_up
rounded_cut None = refl
rounded_cut (Some ds) = rounded ds

-- the time of day of both
pub same_time : (b0 b1 rest : List ℕ) (t : ℕ × ℕ × ℕ) (b2 : List ℕ) (n : ℕ) (f : SameFraction b2 n rest) → byte time_designator b0 ≡ Some (tt, b1) → clock false b1 ≡ Ok (t, b2) → t.0 ≤ 23 → t.1 ≤ 59 → t.2 ≤ 60 → subsecond_of f.run < 1_000_000_000
    → time Extended true b0 ≡ Some ((time_of t.0 t.1 t.2 (subsecond_of f.run), Extended), rest)
same_time b0 b1 rest t b2 n f p h hh hm hs small =
    let c = clock_pieces b1 t b2 h in
    time_of_pieces b0 b1 c.b1 c.b2 c.b3 c.b4 b2 rest t.0 t.1 t.2 f.run p c.one c.first c.two c.second c.three f.read hh hm hs small

refused_pieces : (b0 b1 b2 b3 b4 b5 b6 rest : List ℕ) (h m s : ℕ) (run : Option (List ℕ)) → byte time_designator b0 ≡ Some (tt, b1) → digits 2 b1 ≡ Some (h, b2) → byte colon b2 ≡ Some (tt, b3) → digits 2 b3 ≡ Some (m, b4) → byte colon b4 ≡ Some (tt, b5) → digits 2 b5 ≡ Some (s, b6) → fraction_digits b6 ≡ Some (run, rest)
    → h ≤ 23 → m ≤ 59 → s ≤ 60 → 1_000_000_000 ≤ subsecond_of run
    → time Extended true b0 ≡ None
unfolding time designator from_hour kind_of_time minutes from_minute seconds extended_seconds due_second to_second
refused_pieces b0 b1 b2 b3 b4 b5 b6 rest h m s run p0 p1 p2 p3 p4 p5 p6 hh hm hs hn =
    let full : nat_lt (subsecond_of run) 1_000_000_000 ≡ false = grind (arith, nat_tests) in
    rw (p0, before_colon b1 h b2 b3 p1 p2, le-leb h 23 hh, p2, before_colon b3 m b4 b5 p3 p4, le-leb m 59 hm, p4, number_of b5 s b6 run rest p5 p6)
    (rw (le-leb s 60 hs, full) refl)

-- a fraction that fills the second refuses the time
pub refused_time : (b0 b1 rest : List ℕ) (t : ℕ × ℕ × ℕ) (b2 : List ℕ) (n : ℕ) (f : SameFraction b2 n rest) → byte time_designator b0 ≡ Some (tt, b1) → clock false b1 ≡ Ok (t, b2) → t.0 ≤ 23 → t.1 ≤ 59 → t.2 ≤ 60 → 1_000_000_000 ≤ subsecond_of f.run → time Extended true b0 ≡ None
refused_time b0 b1 rest t b2 n f p h hh hm hs full =
    let c = clock_pieces b1 t b2 h in
    refused_pieces b0 b1 c.b1 c.b2 c.b3 c.b4 b2 rest t.0 t.1 t.2 f.run p c.one c.first c.two c.second c.three f.read hh hm hs full
