-- A date, a time of day and an offset name a moment, in whatever order they are tried.
use Rattle.std.proofs.Common.{◌≡◌, ℕ, Bool, List, [], Option, None, Result, Ok, Err, refl, ℤ}
use Rattle.std.specs.Prelude.{◌↔◌}
use Rattle.std.specs.Result.{result_ok}
use Rattle.calendar_count.specs.declared.component_range.ComponentRange.{ComponentRange}
use Rattle.datetime_wall.specs.Wall.{Shown, wall_clock}
use Rattle.parsing_values.specs.NamedDate.{in_range}
use Rattle.parsing_values.specs.NamedMoment.{◌>>=◌}
use Rattle.parsing_combinator.specs.Readings.{Reading, then_read, resolved, end, value_read}
use Rattle.parsing_combinator.specs.Fault.{Fault}
use Rattle.parsing_components.specs.declared.fields.Record.{Record}
use Rattle.parsing_record.specs.Whole.{names, all_read, moment_named}
use Rattle.parsing_values.specs.StandIn.{leap_checked}

abbrev pub shown : ℕ → ℕ → ℤ → Shown
shown day time seconds = record { wall = wall_clock day time; offset = seconds }

-- the moment, where each part is in range and the test of a leap second passes
abbrev pub of_parts : Bool → Result ℕ ComponentRange → Result ℕ ComponentRange → Result ℤ ComponentRange → Option Shown
of_parts leap (Ok d) (Ok t) (Ok o) = result_ok (leap_checked leap (shown d t o))
of_parts leap d t o = None

checked_read : (r : Result Shown ComponentRange) (bytes : List ℕ) → result_ok (value_read (resolved r bytes)) ≡ result_ok r
checked_read (Ok m) bytes = refl
checked_read (Err e) bytes = refl

checked_named : (r : Result Shown ComponentRange) → result_ok (in_range r) ≡ result_ok r
checked_named (Ok m) = refl
checked_named (Err e) = refl

-- what a record names
pub named_parts : (leap : Bool) (d : Result ℕ ComponentRange) (t : Result ℕ ComponentRange) (o : Result ℤ ComponentRange) → result_ok ((in_range d >>= (λ date. in_range t >>= (λ time. Ok (wall_clock date time)))) >>= (λ wall. in_range o >>= (λ offset. in_range (leap_checked leap (record { wall = wall; offset = offset }))))) ≡ of_parts leap d t o
named_parts leap (Ok d) (Ok t) (Ok o) = checked_named (leap_checked leap (shown d t o))
named_parts leap d t o = refl

-- the offset first, as RFC 3339 has it
pub offset_first : (leap : Bool) (d : Result ℕ ComponentRange) (t : Result ℕ ComponentRange) (o : Result ℤ ComponentRange) → result_ok (value_read (then_read (resolved o []) (λ offset rest. then_read (end rest) (λ _ later. then_read (resolved d later) (λ date after. then_read (resolved t after) (λ time last. resolved (leap_checked leap (record { wall = wall_clock date time; offset = offset })) last)))))) ≡ of_parts leap d t o
offset_first leap (Ok d) (Ok t) (Ok o) = checked_read (leap_checked leap (shown d t o)) []
offset_first leap (Ok d) (Ok t) (Err e) = refl
offset_first leap d t (Ok o) = refl
offset_first leap d t (Err e) = refl

-- the offset last, as RFC 2822 has it
pub offset_last : (leap : Bool) (d : Result ℕ ComponentRange) (t : Result ℕ ComponentRange) (o : Result ℤ ComponentRange) → result_ok (value_read (then_read (end []) (λ _ later. then_read (resolved d later) (λ date after. then_read (resolved t after) (λ time more. then_read (resolved o more) (λ offset last. resolved (leap_checked leap (record { wall = wall_clock date time; offset = offset })) last)))))) ≡ of_parts leap d t o
offset_last leap (Ok d) (Ok t) (Ok o) = checked_read (leap_checked leap (shown d t o)) []
offset_last leap d t o = refl

-- an answer that there is
pub record Named {A E : Type 0} (r : Result A E) : Type 0 where
  pub value : A
  pub is : r ≡ Ok value

-- the parts of a moment are there
pub record AreNamed (d t : Result ℕ ComponentRange) (o : Result ℤ ComponentRange) : Type 0 where
  pub date : Named d
  pub time : Named t
  pub offset : Named o

-- either no moment is named, or each part is in range
pub none_or_named : {C : Type 0} (leap : Bool) (d t : Result ℕ ComponentRange) (o : Result ℤ ComponentRange) → (of_parts leap d t o ≡ None → C) → (AreNamed d t o → C) → C
none_or_named leap (Ok d) (Ok t) (Ok o) none named = named (record { date = record { value = d; is = refl }; time = record { value = t; is = refl }; offset = record { value = o; is = refl } })
none_or_named leap d t o none named = none refl

-- ---- two ways to read a text

module _ {W : Type 0} (moment_of : W → Reading Shown) (set : W → Record) (IsInRange : W → Type 0) where
  -- so it is where the strict reading reads what the other one does, and is in range
  pub agree_by : ((w : W) (rest : List ℕ) → ¬ IsInRange w → result_ok (value_read (moment_of w rest)) ≡ None)
      → ((w : W) (rest : List ℕ) → IsInRange w → result_ok (value_read (moment_of w rest)) ≡ result_ok (names moment_named (all_read (Ok (set w, rest)))))
      → (strict other : Result (W × List ℕ) Fault) → ((w : W) (rest : List ℕ) → (strict ≡ Ok (w, rest)) ↔ ((other ≡ Ok (w, rest)) × IsInRange w))
      → result_ok (value_read (then_read other moment_of)) ≡ result_ok (names moment_named (all_read (then_read strict (λ w rest. Ok (set w, rest)))))
  agree_by refused alike (Ok x) other iff = let both = (iff x.0 x.1).0 refl in rw both.0 (alike x.0 x.1 both.1)
  agree_by refused alike (Err e) (Err f) iff = refl
  agree_by refused alike (Err e) (Ok y) iff = refused y.0 y.1 (λ range. let strict = (iff y.0 y.1).1 (refl, range) in cc)
