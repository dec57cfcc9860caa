-- The pieces of a text for which RFC 3339 names a moment.
use Rattle.std.proofs.Common.{◌≡◌, ℕ, false, List, [], Option, Some, Ok, ap, subst, sym, ℤ}
use Rattle.std.specs.Prelude.{pos, nat_lt, ◌==◌}
use Rattle.std.specs.Option.{unwrap_or}
use Rattle.base.specs.Bytes.{hyphen, colon}
use Rattle.datetime_wall.specs.Wall.{Shown, wall_clock}
use Rattle.parsing_combinator.specs.Pieces.{digits, byte, any_byte}
use Rattle.parsing_combinator.specs.declared.zone.Zone.{Zone}
use Rattle.parsing_values.specs.Resolution.{date_of, leap_time_of, signed_offset_of}
use Rattle.parsing_values.specs.StandIn.{leap_checked}
use Rattle.parsing_rfc3339.specs.declared.parts.Rfc3339Parts.{Rfc3339Parts}
use Rattle.parsing_rfc3339.specs.Direct.{direct, moment, moment_of}
use Rattle.parsing_rfc3339.specs.Reading.{date, clock, subsecond, offset, rfc3339}
use Rattle.parsing.proofs.Inversion.{due_piece, due_check, due_part, due_value, due_end, due_whole, last_value, same_end, three_ended}

-- three numbers, the first one of so many digits and the others of two, with a byte between them
pub record ThreePieces (n mark : ℕ) (bytes : List ℕ) (d : ℕ × ℕ × ℕ) (rest : List ℕ) : Type 0 where
  pub b1 : List ℕ
  pub b2 : List ℕ
  pub b3 : List ℕ
  pub b4 : List ℕ
  pub one : digits n bytes ≡ Some (d.0, b1)
  pub first : byte mark b1 ≡ Some (tt, b2)
  pub two : digits 2 b2 ≡ Some (d.1, b3)
  pub second : byte mark b3 ≡ Some (tt, b4)
  pub three : digits 2 b4 ≡ Some (d.2, rest)

-- `1985-04-12`
pub date_pieces : (bytes : List ℕ) (d : ℕ × ℕ × ℕ) (rest : List ℕ) → date false bytes ≡ Ok (d, rest) → ThreePieces 4 hyphen bytes d rest
unfolding date
date_pieces b0 d rest h =
    due_piece _ (digits 4 b0) _ _ h (λ y b1 p1 h1.
    due_piece _ (byte hyphen b1) _ _ h1 (λ x b2 p2 h2.
    due_piece _ (digits 2 b2) _ _ h2 (λ m b3 p3 h3.
    due_check (nat_lt 0 m) _ b3 _ _ h3 (λ low h4.
    due_piece _ (byte hyphen b3) _ _ h4 (λ z b4 p4 h5.
    due_piece _ (digits 2 b4) _ _ h5 (λ n b5 p5 h6.
    let e = three_ended y m n b5 rest d h6 in
    record { b1 = b1; b2 = b2; b3 = b3; b4 = b4; one = rw (← e.0) p1; first = p2; two = rw (← e.1) p3; second = p4; three = rw (← e.2, ← e.3) p5 }))))))

-- `23:20:50`
pub clock_pieces : (bytes : List ℕ) (t : ℕ × ℕ × ℕ) (rest : List ℕ) → clock false bytes ≡ Ok (t, rest) → ThreePieces 2 colon bytes t rest
unfolding clock
clock_pieces b0 t rest h =
    due_piece _ (digits 2 b0) _ _ h (λ y b1 p1 h1.
    due_piece _ (byte colon b1) _ _ h1 (λ x b2 p2 h2.
    due_piece _ (digits 2 b2) _ _ h2 (λ m b3 p3 h3.
    due_piece _ (byte colon b3) _ _ h3 (λ z b4 p4 h5.
    due_piece _ (digits 2 b4) _ _ h5 (λ n b5 p5 h6.
    let e = three_ended y m n b5 rest t h6 in
    record { b1 = b1; b2 = b2; b3 = b3; b4 = b4; one = rw (← e.0) p1; first = p2; two = rw (← e.1) p3; second = p4; three = rw (← e.2, ← e.3) p5 })))))

abbrev made : ℕ × ℕ × ℕ → ℕ × ℕ × ℕ → Option ℕ → Zone → Rfc3339Parts
made d t n z = record { year = d.0; month = d.1; day = d.2; hour = t.0; minute = t.1; second = t.2; subsecond = n; zone = z }

abbrev pub shown : ℕ → ℕ → ℤ → Shown
shown day time seconds = record { wall = wall_clock day time; offset = seconds }

-- the numbers at the start of a text
pub record PrefixPieces (bytes rest : List ℕ) : Type 0 where
  pub d : ℕ × ℕ × ℕ
  pub t : ℕ × ℕ × ℕ
  pub fraction : Option ℕ
  pub z : Zone
  pub b1 : List ℕ
  pub b2 : List ℕ
  pub b3 : List ℕ
  pub b4 : List ℕ
  pub date_read : date false bytes ≡ Ok (d, b1)
  pub separated : any_byte b1 ≡ Some (tt, b2)
  pub clock_read : clock false b2 ≡ Ok (t, b3)
  pub fraction_read : subsecond b3 ≡ Ok (fraction, b4)
  pub offset_read : offset false b4 ≡ Ok (z, rest)

prefix_pieces : (bytes : List ℕ) (w : Rfc3339Parts) (rest : List ℕ) → rfc3339 false bytes ≡ Ok (w, rest) → (p : PrefixPieces bytes rest) × (made p.d p.t p.fraction p.z ≡ w)
unfolding rfc3339
prefix_pieces b0 w rest h =
    due_part (date false b0) _ (w, rest) h (λ d b1 e1 k1.
    due_piece _ (any_byte b1) _ (w, rest) k1 (λ x b2 e2 k2.
    due_part (clock false b2) _ (w, rest) k2 (λ t b3 e3 k3.
    due_part (subsecond b3) _ (w, rest) k3 (λ n b4 e4 k4.
    due_part (offset false b4) _ (w, rest) k4 (λ z b5 e5 k5.
    let e = same_end (made d t n z, b5) (w, rest) k5 in
    let left : b5 ≡ rest = ap (λ (p : Rfc3339Parts × List ℕ). p.1) e in
    (record { d = d; t = t; fraction = n; z = z; b1 = b1; b2 = b2; b3 = b3; b4 = b4; date_read = e1; separated = e2; clock_read = e3; fraction_read = e4; offset_read = rw (← left) e5 }, ap (λ (p : Rfc3339Parts × List ℕ). p.0) e))))))

-- what the numbers name
pub record NamedParts (w : Rfc3339Parts) (m : Shown) : Type 0 where
  pub seconds : ℤ
  pub day : ℕ
  pub time : ℕ
  pub offset_named : signed_offset_of w.zone.is_negative w.zone.hours w.zone.minutes ≡ Ok seconds
  pub date_named : date_of (pos w.year) w.month w.day ≡ Ok day
  pub time_named : leap_time_of w.hour w.minute w.second (unwrap_or w.subsecond 0) ≡ Ok time
  pub checked : leap_checked (w.second == 60) (shown day time seconds) ≡ Ok m

named_parts : (w : Rfc3339Parts) (rest : List ℕ) (m : Shown) (last : List ℕ) → moment_of w rest ≡ Ok (m, last) → (rest ≡ []) × NamedParts w m
unfolding moment_of
named_parts w rest m last h =
    due_value (signed_offset_of w.zone.is_negative w.zone.hours w.zone.minutes) rest _ (m, last) h (λ seconds ho h2.
    due_end rest _ (m, last) h2 (λ none h3.
    due_value (date_of (pos w.year) w.month w.day) [] _ (m, last) h3 (λ day hd h4.
    due_value (leap_time_of w.hour w.minute w.second (unwrap_or w.subsecond 0)) [] _ (m, last) h4 (λ time ht h5.
    (none, record { seconds = seconds; day = day; time = time; offset_named = ho; date_named = hd; time_named = ht; checked = last_value (leap_checked (w.second == 60) (shown day time seconds)) [] (m, last) h5 })))))

-- the numbers of a whole text, and what they name
pub record TextPieces (bytes : List ℕ) (m : Shown) : Type 0 where
  pub numbers : PrefixPieces bytes []
  pub open numbers use *
  pub names : NamedParts (made d t fraction z) m
  pub open names use *

-- the nanoseconds that are read
abbrev pub nanosecond : {bytes : List ℕ} {m : Shown} → TextPieces bytes m → ℕ
nanosecond p = unwrap_or p.fraction 0

joined : (bytes : List ℕ) (m : Shown) (w : Rfc3339Parts) (p : PrefixPieces bytes []) → made p.d p.t p.fraction p.z ≡ w → NamedParts w m → TextPieces bytes m
joined bytes m w p is named = record { numbers = p; names = subst (λ (x : Rfc3339Parts). NamedParts x m) (sym is) named }

pub text_pieces : (bytes : List ℕ) (m : Shown) → direct bytes ≡ Ok m → TextPieces bytes m
unfolding direct moment
text_pieces b0 m h =
    due_whole (moment b0) m h (λ last h0.
    due_part (rfc3339 false b0) moment_of (m, last) h0 (λ w rest hw h1.
    let v = named_parts w rest m last h1 in
    let r = prefix_pieces b0 w [] (rw v.0 at hw) in
    joined b0 m w r.0 r.1 v.1))
