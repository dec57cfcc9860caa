-- What RFC 3339 and RFC 2822 leave is shorter than the text: they take a byte at least.
use Rattle.std.proofs.Common.{◌≡◌, ◌<◌, ◌≤◌, ℕ, Bool, true, false, List, [], length, drop, Option, Some, None, Result, Ok, Err, refl, sym, ap, arith, lit<, lit≤, length-drop}
use Rattle.std.specs.Prelude.{codes, nat_le, option_map, if◌then◌else◌}
use Rattle.std.specs.Char.{is_ascii_digit}
use Rattle.std.proofs.lemmas.Bool.Decides.{nat_tests}
use Rattle.std.proofs.lemmas.List.{append-nil, length-append}
use Rattle.std.proofs.lemmas.List.Sums.{prefix_len-le-length}
use Rattle.parsing_combinator.specs.Fault.{Fault, component}
use Rattle.parsing_combinator.specs.Readings.{Reading, piece_or, then_read}
use Rattle.parsing_combinator.specs.Pieces.{digit_count, digits}
use Rattle.parsing_combinator.specs.Tame.{EndsWith, Leaves, Tame}
use Rattle.parsing_combinator.proofs.lemmas.Tame.{digits_leaves, byte_leaves, skip_leaves, fraction_leaves, kept_leaves, dropped, whole_end, piece_tame, then_tame, require_tame, entered_tame}
use Rattle.parsing_rfc3339.specs.Reading as rfc3339
use Rattle.parsing_rfc2822.specs.Reading as rfc2822
use Rattle.parsing_rfc2822.specs.Skips.{optional}
use Rattle.parsing_rfc2822.specs.WhiteSpace.{comments_and_white_space}
use Rattle.parsing_rfc2822.specs.Names.{named, weekday, month, military_zone, short_zone, zone_name}
use Rattle.parsing_rfc2822.proofs.lemmas.Ends.{optional_ends, colon_ends, past_leaves, folding_ends, spacing_ends}

-- what is left, if the text is read, is shorter
abbrev pub Less : {A : Type 0} → List ℕ → Result (A × List ℕ) Fault → Type 0
Less bytes (Ok x) = length x.1 < length bytes
Less bytes (Err f) = Unit {0}

pub ends_within : (bytes rest : List ℕ) → EndsWith bytes rest → length rest ≤ length bytes
ends_within bytes rest (prefix, is) = omega (arith, ap length is, length-append prefix rest)

shorter_still : {A : Type 0} (bytes between : List ℕ) (r : Result (A × List ℕ) Fault) → length between < length bytes → Tame between r → Less bytes r
shorter_still bytes between (Ok x) less tame = let within = ends_within between x.1 tame in omega (arith, within, less)
shorter_still bytes between (Err f) less tame = tt

later_less : {A : Type 0} (bytes between : List ℕ) (r : Result (A × List ℕ) Fault) → EndsWith bytes between → Less between r → Less bytes r
later_less bytes between (Ok x) ends less = let within = ends_within bytes between ends in omega (arith, within, less)
later_less bytes between (Err f) ends less = tt

-- the first part takes a byte, or what comes after it does
first_less : {A B : Type 0} (bytes : List ℕ) (r : Result (A × List ℕ) Fault) (f : A → Reading B)
    → Less bytes r → ((x : A) (rest : List ℕ) → Tame rest (f x rest)) → Less bytes (then_read r f)
first_less bytes (Err f) g less tame = tt
first_less bytes (Ok x) f less tame = shorter_still bytes x.1 (f x.0 x.1) less (tame x.0 x.1)

others_less : {A B : Type 0} (bytes : List ℕ) (r : Result (A × List ℕ) Fault) (f : A → Reading B)
    → Tame bytes r → ((x : A) (rest : List ℕ) → Less rest (f x rest)) → Less bytes (then_read r f)
others_less bytes (Err f) g tame less = tt
others_less bytes (Ok x) f tame less = later_less bytes x.1 (f x.0 x.1) tame (less x.0 x.1)

cut_less : {A : Type 0} (b : Bool) (f : Fault) (x : A) (n : ℕ) (bytes : List ℕ)
    → (b ≡ true → n ≤ length bytes) → 0 < n → Less bytes (piece_or f (if b then Some (x, drop n bytes) else None))
cut_less true f x n bytes few some = let all = few refl in omega (arith, all, some, length-drop n bytes)
cut_less false f x n bytes few some = tt

digits_less : (f : Fault) (n : ℕ) (bytes : List ℕ) → 0 < n → Less bytes (piece_or f (digits n bytes))
unfolding digits
digits_less f n bytes some =
    cut_less (nat_le n (digit_count bytes)) f _ n bytes (λ e. grind (arith, nat_tests, prefix_len-le-length is_ascii_digit bytes)) some

ruleset tame =
    (then_tame, piece_tame, require_tame, entered_tame, whole_end, digits_leaves, fraction_leaves, byte_leaves, skip_leaves, tt, lit<, lit≤)

pub rfc3339_less : (text : List ℕ) → Less text (rfc3339.rfc3339 true text)
unfolding rfc3339.rfc3339 rfc3339.date rfc3339.clock rfc3339.subsecond rfc3339.due_fraction rfc3339.offset rfc3339.zulu rfc3339.signed_offset
rfc3339_less b0 = search (first_less, digits_less, tame) depth 40 fits 50000

-- ---- RFC 2822

either_leaves : {A : Type 0} (bytes : List ℕ) (one other : Option (A × List ℕ))
    → Leaves bytes one → Leaves bytes other → Leaves bytes (rfc2822.first_or one other)
either_leaves bytes (Some x) other h k = h
either_leaves bytes None other h k = k

either_less : {A : Type 0} (f : Fault) (bytes : List ℕ) (one other : Option (A × List ℕ))
    → Less bytes (piece_or f one) → Less bytes (piece_or f other) → Less bytes (piece_or f (rfc2822.first_or one other))
either_less f bytes (Some x) other h k = h
either_less f bytes None other h k = k

said_leaves : {A : Type 0} (bytes rest : List ℕ) (o : Option A) → EndsWith bytes rest → Leaves bytes (option_map (λ x. (x, rest)) o)
said_leaves bytes rest None h = tt
said_leaves bytes rest (Some x) h = h

if_leaves : {A : Type 0} (b : Bool) (bytes : List ℕ) (one other : Option (A × List ℕ))
    → Leaves bytes one → Leaves bytes other → Leaves bytes (if b then one else other)
if_leaves true bytes one other h k = h
if_leaves false bytes one other h k = k

named_leaves : {A : Type 0} (meaning : List ℕ → Option A) (bytes : List ℕ) → Leaves bytes (named meaning bytes)
named_leaves meaning bytes = search (if_leaves, said_leaves, dropped, tt)

nothing_left : (bytes : List ℕ) → EndsWith bytes []
nothing_left bytes = (bytes, sym (append-nil bytes))

zone_leaves : (bytes : List ℕ) → Leaves bytes (zone_name bytes)
unfolding zone_name short_zone military_zone
zone_leaves bytes = search (if_leaves, named_leaves, kept_leaves {A = ℕ} {B = ℕ} (λ c. 0), byte_leaves, nothing_left)

ruleset mail = (tame, past_leaves, named_leaves, zone_leaves, either_leaves, optional_ends, spacing_ends, folding_ends, colon_ends)

day_less : (text : List ℕ) → Less text (rfc2822.day true text)
unfolding rfc2822.day rfc2822.optional_weekday rfc2822.named_day weekday rfc2822.one_or_two_digits
day_less b0 =
    later_less b0 (optional comments_and_white_space b0) _ (optional_ends comments_and_white_space spacing_ends b0)
    (search (others_less, first_less, either_less, digits_less, mail) depth 20 fits 5000)

month_tame : (text : List ℕ) → Tame text (rfc2822.month_and_year text)
unfolding rfc2822.month_and_year month rfc2822.year rfc2822.full_year rfc2822.short_year
month_tame b0 = search mail depth 30 fits 50000

clock_tame : (text : List ℕ) → Tame text (rfc2822.clock true text)
unfolding rfc2822.clock rfc2822.hour_and_minute rfc2822.second rfc2822.due_second
clock_tame b0 = search mail depth 30 fits 50000

zone_tame : (text : List ℕ) → Tame text (rfc2822.spaced_zone true text)
unfolding rfc2822.spaced_zone rfc2822.zone rfc2822.signed_zone rfc2822.named_zone
zone_tame b0 = search mail depth 30 fits 50000

pub rfc2822_less : (text : List ℕ) → Less text (rfc2822.rfc2822 true text)
unfolding rfc2822.rfc2822
rfc2822_less b0 = first_less b0 (rfc2822.day true b0) _ (day_less b0) (λ d b1. search (month_tame, clock_tame, zone_tame, mail) depth 30 fits 50000)
