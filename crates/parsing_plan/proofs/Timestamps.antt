-- Unix time: what its components read, and the moment that it names.
use Rattle.std.proofs.Common.{◌≡◌, ◌==◌, ◌≤◌, ◌<◌, ◌+◌, ◌-◌, ◌*◌, ◌^◌, ◌∙◌, ℕ, Bool, true, false, List, [], take, drop, length, min, leb, Option, Some, None, Ok, refl, sym, ap, arith, pos, ℤ}
use Rattle.std.specs.Prelude.{nat_le, IfSome, if◌then◌else◌}
use Rattle.std.specs.Str.Parse.{digits_value}
use Rattle.std.proofs.lemmas.Bool.Decides.{nat_tests}
use Rattle.std.proofs.lemmas.List.{length-drop, length-take-le, take_all, drop_all}
use Rattle.std.proofs.lemmas.Nat.{pow-add}
use Rattle.datetime_wall.specs.Wall.{is_wall_clock, second_nanos}
use Rattle.description_items.specs.declared.component.Component.{Component}
use Rattle.description_items.specs.declared.component.Component.TheVariants as component
use Rattle.description_items.specs.Tree.{Part}
use Rattle.parsing_components.specs.Component.{reads_component, reads_component_v3, reads_modern, date_piece, year_piece, time_piece, offset_piece, unix_digits}
use Rattle.parsing_components.specs.Ranged.{kept, since_epoch, nanoseconds_after_epoch}
use Rattle.parsing_components.specs.declared.said.Read.TheVariants as read
use Rattle.parsing_values.specs.declared.fields.Fields.{Fields}
use Rattle.parsing_values.specs.Moment.{moment_of}
use Rattle.parsing_combinator.specs.Written.{WriteFraction}
use Rattle.parsing_values.specs.NamedMoment.{named_moment, unix_subsecond, unix_instant}
use Rattle.parsing_combinator.specs.Fault.{Fault}
use Rattle.parsing_combinator.specs.Pieces.{digits, digit_count, fraction, sign}
use Rattle.parsing_combinator.specs.Readings.{piece_or}
use Rattle.parsing_combinator.proofs.Decimal.{digit_count_within}
use Rattle.parsing_combinator.proofs.Fixed.{digits_add}
use Rattle.parsing_combinator.proofs.FractionDigits.{Read, digits_read, short_fraction}
use Rattle.parsing_components.specs.Meaning.{Meaning}
use Rattle.parsing_components.specs.Reads.{Language, reading, reads}
use Rattle.parsing_components.specs.declared.fields.Record.{Record}
use Rattle.parsing_components.specs.Whole.{whole, names, moment_named, starting}
use Rattle.parsing_combinator.specs.Numbers.{timestamp}
use Rattle.parsing_combinator.specs.Shape.{taken, digits_between}
use Rattle.parsing_combinator.proofs.Components.{taken_timestamp}
use Rattle.parsing_combinator.proofs.Longest.{taken_digits}
use Rattle.parsing_combinator.proofs.SignLemmas.{under}
use Rattle.parsing_components.specs.Prefix.{beginning}
use Rattle.parsing_plan.specs.UnixTime.{IsUnixOf}
use Rattle.parsing_layout.proofs.PieceLemmas.{exact_said}
use Rattle.parsing_layout.proofs.RunLemmas.{exact_taken}
use Rattle.parsing_item_parts.proofs.ComponentLemmas.{no_sign}
use Rattle.parsing_item_parts.proofs.MomentLemmas.{in_calendar}
use Rattle.parsing_item_parts.proofs.ReadingLemmas.{whole_is}
use Rattle.parsing_plan.proofs.Walk.{was_read}

-- ---- what a component reads

all_counted : (n number : ℕ) (line : List ℕ) → Read n line number [] → digit_count line ≡ n
all_counted n number line d = omega (arith, d.enough, digit_count_within line, length-drop n line, ap length d.after)

all_taken : (n most number : ℕ) (line : List ℕ) → 1 ≤ n → n ≤ most → Read n line number [] → taken (digits_between 1 most) line ≡ Some (number, [])
all_taken n most number line some few d =
    let count : digit_count line ≡ n = all_counted n number line d in
    let there : nat_le 1 n ≡ true = grind (arith, nat_tests) in
    let least : min n most ≡ n = omega arith in
    taken_digits (digits_value 10) 1 most line (omega arith) ∙ rw (count, there, least, d.value, d.after) refl

bare_taken : (mandatory : Bool) (n most number : ℕ) (line : List ℕ) → mandatory ≡ false → 1 ≤ n → n ≤ most → Read n line number [] → taken (timestamp mandatory most) line ≡ Some ((false, number), [])
bare_taken mandatory n most number line bare some few d =
    let none : sign line ≡ None = no_sign line (omega (arith, all_counted n number line d)) in
    rw bare (taken_timestamp false most line ∙ rw none (ap (under false) (all_taken n most number line some few d)))

in_epoch : (n : ℕ) → n ≤ 20_000_000_000_000_000_000 → nat_le n nanoseconds_after_epoch ≡ true
in_epoch n le = grind (arith, nat_tests)

unix_part : (language : Language) (c : Component) (fault : Fault) (mandatory : Bool) (n most unit finer : ℕ) → (if mandatory then None else Some n) ≡ Some finer → 10 + n ≤ most → 10 ^ (9 - n) ≡ unit → ((line : List ℕ) → language c line ≡ piece_or fault (kept (since_epoch read.Unix unit) (taken (timestamp mandatory most) line))) → IsUnixOf (reading language (Part c)) finer
unfolding reads
unix_part language c fault true n most unit finer bare room power is = absurd cc
unix_part language c fault false n most unit finer bare room power is = let same : n ≡ finer = cc in rw (← same) (λ line number e few r.
    let d : Read (10 + n) line number [] = digits_read (10 + n) line number [] e in
    let here : taken (timestamp false most) line ≡ Some ((false, number), []) = bare_taken false (10 + n) most number line refl (omega arith) room d in
    let within : nat_le (number * unit) nanoseconds_after_epoch ≡ true = in_epoch (number * unit) (rw power at few) in
    rw (is line, here, within, power) refl)

unix_component : (language : Language) (c : Component) (finer : ℕ) → ((line : List ℕ) → language c line ≡ reads_component c line) → unix_digits c ≡ Some finer → IsUnixOf (reading language (Part c)) finer
unfolding reads_component reads_modern date_piece year_piece time_piece offset_piece
unix_component language (component.UnixTimestampSecond m) finer same e = unix_part language _ _ m.sign_is_mandatory 0 14 1_000_000_000 finer e (omega arith) refl same
unix_component language (component.UnixTimestampMillisecond m) finer same e = unix_part language _ _ m.sign_is_mandatory 3 17 1_000_000 finer e (omega arith) refl same
unix_component language (component.UnixTimestampMicrosecond m) finer same e = unix_part language _ _ m.sign_is_mandatory 6 20 1_000 finer e (omega arith) refl same
unix_component language (component.UnixTimestampNanosecond m) finer same e = unix_part language _ _ m.sign_is_mandatory 9 23 1 finer e (omega arith) refl same
unix_component language c finer same e = absurd cc

-- version 3 reads them alike
same_v3 : (c : Component) (finer : ℕ) (line : List ℕ) → unix_digits c ≡ Some finer → reads_component_v3 c line ≡ reads_component c line
unfolding reads_component_v3
same_v3 (component.Ignore m) finer line e = absurd cc
same_v3 c finer line e = refl

pub unix_read : (c : Component) (o : Option ℕ) → o ≡ unix_digits c → IfSome o (IsUnixOf (reading reads_component (Part c))) × IfSome o (IsUnixOf (reading reads_component_v3 (Part c)))
unix_read c None e = (tt, tt)
unix_read c (Some finer) e = (unix_component reads_component c finer (λ line. refl) (sym e), unix_component reads_component_v3 c finer (λ line. same_v3 c finer line (sym e)) (sym e))

-- ---- the moment that it names

unix_named : (assumed : Option ℤ) (n : ℕ) → is_wall_clock (pos n) ≡ true → moment_named (record (beginning assumed) { unix_timestamp_nanos = Some (pos n) }) ≡ Ok (record { wall = pos n; offset = pos 0 })
unfolding named_moment unix_subsecond unix_instant
unix_named None n e = rw e refl
unix_named (Some offset) n e = rw e refl

-- the nanoseconds of the digits of seconds and of a fraction
scaled : (s p v q w : ℕ) → p * q ≡ w → (s * p + v) * q ≡ s * w + v * q
scaled s p v q w e = rw (← e) (grind arith)

pub record ReadsUnix (line : List ℕ) (finer nanoseconds : ℕ) : Type 0 where
  pub number : ℕ
  pub all : digits (10 + finer) line ≡ Some (number, [])
  pub scaled_is : number * 10 ^ (9 - finer) ≡ nanoseconds

-- ten digits of seconds, and then those of a fraction
seconds_read : (line later : List ℕ) (finer second nanosecond : ℕ) → finer ≤ 9 → 10 + finer ≡ length line → digits 10 line ≡ Some (second, later) → WriteFraction (drop 10 line) finer nanosecond → ReadsUnix line finer (second * second_nanos + nanosecond)
unfolding digits
seconds_read line later finer second nanosecond few long ten w =
    let run : List ℕ = take finer (drop 10 line) in
    let after : later ≡ drop 10 line = sym (digits_read 10 line second later ten).after in
    let there : leb finer (digit_count (drop 10 line)) ≡ true = let enough = w.enough in grind (arith, nat_tests) in
    let nothing : drop finer (drop 10 line) ≡ [] = drop_all finer (drop 10 line) (omega (arith, length-drop 10 line)) in
    let finer_read : digits finer later ≡ Some (digits_value 10 run, []) = rw after (rw (there, nothing) refl) in
    let run_long : length run ≡ finer = length-take-le finer (drop 10 line) (omega (arith, length-drop 10 line)) in
    let value : digits_value 10 run * 10 ^ (9 - finer) ≡ nanosecond = ap (λ (n : ℕ). digits_value 10 run * 10 ^ (9 - n)) (sym run_long) ∙ short_fraction run (omega arith) ∙ sym w.value in
    let power : 10 ^ finer * 10 ^ (9 - finer) ≡ second_nanos = sym (pow-add 10 finer (9 - finer)) ∙ ap (λ (n : ℕ). 10 ^ n) (let e : finer + (9 - finer) ≡ 9 = omega arith in e) in
    record {
      number = second * 10 ^ finer + digits_value 10 run;
      all = digits_add 10 finer line ∙ rw ten (rw finer_read refl);
      scaled_is = scaled second (10 ^ finer) (digits_value 10 run) (10 ^ (9 - finer)) second_nanos power ∙ ap (λ (n : ℕ). second * second_nanos + n) value;
    }

pub ten_read : (line rest later : List ℕ) (first last : ℕ) → digits 1 line ≡ Some (first, rest) → digits 9 rest ≡ Some (last, later) → digits 10 line ≡ Some (first * 1_000_000_000 + last, later)
ten_read line rest later first last one nine = digits_add 1 9 line ∙ rw one (rw nine refl)

unix_line : (line later : List ℕ) (finer second nanosecond : ℕ) (m : Meaning) (defaults : Option Record) (assumed : Option ℤ) (f : Fields) → finer ≤ 9 → 10 + finer ≡ length line → second < 10_000_000_000 → nanosecond < 1_000_000_000 → digits 10 line ≡ Some (second, later) → WriteFraction (drop 10 line) finer nanosecond → moment_of f ≡ record { wall = pos (second * second_nanos + nanosecond); offset = pos 0 } → IsUnixOf m finer → starting defaults ≡ beginning assumed → names moment_named (whole m defaults line) ≡ Ok (moment_of f)
unix_line line later finer second nanosecond m defaults assumed f few long below small ten w is reads_it start =
    let r = seconds_read line later finer second nanosecond few long ten w in
    let n : ℕ = second * second_nanos + nanosecond in
    let within : n ≤ 20_000_000_000_000_000_000 = omega arith in
    let read = was_read (m (starting defaults) line) _ (reads_it line r.number r.all (rw r.scaled_is within) (starting defaults)) in
    let there : m (starting defaults) line ≡ Ok (record (starting defaults) { unix_timestamp_nanos = Some (pos n) }, []) = rw (← r.scaled_is) read in
    let all = there ∙ ap (λ (x : Record). Ok (record x { unix_timestamp_nanos = Some (pos n) }, [])) start in
    rw (whole_is m defaults line (record (beginning assumed) { unix_timestamp_nanos = Some (pos n) }) all, is) (unix_named assumed n (in_calendar n within))

pub unix_lines : (line later : List ℕ) (finer second nanosecond : ℕ) (m : Meaning) (defaults : Option Record) (assumed : Option ℤ) (o : Option Fields) → finer ≤ 9 → 10 + finer ≡ length line → second < 10_000_000_000 → nanosecond < 1_000_000_000 → digits 10 line ≡ Some (second, later) → WriteFraction (drop 10 line) finer nanosecond → IfSome o (λ f. moment_of f ≡ record { wall = pos (second * second_nanos + nanosecond); offset = pos 0 }) → IsUnixOf m finer → starting defaults ≡ beginning assumed → IfSome o (λ f. names moment_named (whole m defaults line) ≡ Ok (moment_of f))
unix_lines line later finer second nanosecond m defaults assumed None few long below small ten w is reads_it start = tt
unix_lines line later finer second nanosecond m defaults assumed (Some f) few long below small ten w is reads_it start = unix_line line later finer second nanosecond m defaults assumed f few long below small ten w is reads_it start

-- no digits of a fraction
pub no_fraction_written : (bytes : List ℕ) → WriteFraction bytes 0 0
no_fraction_written bytes = record { enough = omega arith; value = refl }

-- all nine
pub nine_written : (line text rest : List ℕ) (f : ℕ) → text ≡ drop 10 line → 19 ≡ length line → fraction text ≡ Some (f, rest) → (length rest == 0) ≡ true → WriteFraction (drop 10 line) 9 f
nine_written line text rest f is long e none =
    let size : length text ≡ 9 = rw is (omega (arith, long, length-drop 10 line)) in
    let nine = exact_said _ text _ 9 f refl (exact_taken 9 f text text rest [] (omega (arith, size)) (take_all 9 text (omega (arith, size))) (drop_all 9 text (omega (arith, size))) e none) in
    record { enough = rw (← is) nine.0; value = rw (← is) (sym nine.1) }
