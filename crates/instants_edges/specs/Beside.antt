-- What a line says beside a date, and before it.
use Rattle.std.specs.Prelude.{ℕ, ◌+◌, ◌-◌, ◌*◌, ◌/◌, ◌%◌, ◌==◌, ◌&&◌, ◌||◌, not, nat_lt, nat_le, min, max, Bool, false, List, [], ◌∷◌, ◌++◌, length, take, drop, filter, take_while, count_by, get_or, codes, Option, None, Some, if◌then◌else◌, ℤ, pos, neg_ℤ}
use Rattle.std.specs.Char.{is_ascii_digit, is_ascii_alphabetic, is_ascii_alphanumeric, is_ascii_uppercase, is_ascii_hexdigit, to_ascii_lowercase}
use Rattle.std.specs.List.{list_any, prefix_len, suffix_len, range_with_len}
use Rattle.std.specs.Option.{option_map_or, option_or}
use Rattle.std.specs.Ordering.{int_eq}
use Rattle.std.specs.Str.Parse.{digits_value}
use Rattle.base.specs.Bytes.{space, colon, hyphen, left_bracket}
use Rattle.instants_edges.specs.Edge.{is_edge, is_sign, is_one_of, is_parameter, byte_before}
use Rattle.instants_edges.specs.Text.{comma}
use Rattle.instants_edges.specs.Words.{begin_so, begun, word, signs, signed, hours, hours_and_minutes, names_of_utc, other_names, halves, clocks}

-- at one of the places from one up to another
abbrev pub is_any : (ℕ → Bool) → ℕ → ℕ → Bool
is_any is from to = list_any is (range_with_len from (to - from))

-- ---- between a date and a word

-- what stands after a place, as far as is looked
abbrev pub after : List ℕ → ℕ → List ℕ
after line place = take 48 (drop place line)

-- a comma and digits at the start
abbrev pub fraction_length : List ℕ → ℕ
fraction_length bytes = if get_or bytes 0 0 == comma && is_ascii_digit (get_or bytes 1 0) then prefix_len is_ascii_digit (drop 1 bytes) + 1 else 0

-- a control sequence at the start
abbrev pub sequence_length : List ℕ → ℕ
sequence_length bytes =
    let long = prefix_len is_parameter (drop 2 bytes) in
    if get_or bytes 0 0 == 27 && get_or bytes 1 0 == left_bracket && is_ascii_alphabetic (get_or (drop 2 bytes) long 0) then long + 3 else 0

-- what stands after a colour and a fraction
abbrev pub near : List ℕ → List ℕ
near bytes = let plain = drop (sequence_length bytes) bytes in drop (fraction_length plain) plain

-- a byte of ASCII that is no letter, no digit, no sign and no backslash, with which JSON begins a sign
abbrev pub is_parting : ℕ → Bool
is_parting byte = nat_lt byte 128 && not (is_ascii_alphanumeric byte) && not (is_one_of (codes "+-\\") byte)

-- up to three bytes that part
abbrev pub gap : List ℕ → ℕ
gap bytes = prefix_len is_parting (take 3 bytes)

-- ---- an offset

-- the number that the digits among the first five bytes write
abbrev pub number : List ℕ → ℕ
number bytes = digits_value 10 (filter is_ascii_digit (take 5 bytes))

-- the seconds of one or two digits of hours, and of two of minutes after them or none
abbrev pub seconds_in : List ℕ → ℕ
seconds_in bytes = if nat_le (length bytes) 2 then number bytes * 3600 else number bytes / 100 * 3600 + number bytes % 100 * 60

-- a sign is a minus: a hyphen, U+2212, or a hyphen as JSON may escape it
abbrev pub is_minus : List ℕ → Bool
is_minus sign = list_any (λ byte. byte == hyphen || byte == 226 || to_ascii_lowercase byte == 100) sign

-- so many seconds are an offset, which lies within fifteen hours of UTC
abbrev pub within_fifteen_hours : Bool → ℕ → Option ℤ
within_fifteen_hours minus seconds = if nat_lt seconds 54000 then Some (if minus then neg_ℤ (pos seconds) else pos seconds) else None

-- the offset of a number in one of these forms after a sign of so many bytes
abbrev pub said_after : List (List ℕ) → List ℕ → ℕ → Option ℤ
said_after numbers bytes sign =
    let long = word numbers (drop sign bytes) in
    if long == 0 then None else within_fifteen_hours (is_minus (take sign bytes)) (seconds_in (take long (drop sign bytes)))

-- the offset of a sign and a number in one of these forms
abbrev pub said : List (List ℕ) → List ℕ → Option ℤ
said numbers bytes = if begun signs bytes == 0 then None else said_after numbers bytes (begun signs bytes)

-- a space and a bracket, or a space
abbrev pub opening : List ℕ → ℕ
opening bytes = if not (get_or bytes 0 0 == space) then 0 else if is_one_of (codes "([") (get_or bytes 1 0) then 2 else 1

-- an offset stands directly after a date, or two digits of hours over a space and a bracket
abbrev pub said_directly : List ℕ → Option ℤ
said_directly bytes = option_or (said (hours_and_minutes ++ hours) bytes) (said (codes "19" ∷ []) (drop (opening bytes) bytes))

-- the letters at the start name a zone, and an offset stands after them, directly or over a space, or UTC is named alone
abbrev pub said_by_name : List ℕ → Option ℤ
said_by_name bytes =
    let long = prefix_len is_ascii_alphabetic bytes in
    let others = drop long bytes in
    let number = drop (if get_or others 0 0 == space then 1 else 0) others in
    let is_name = nat_lt 0 long && begun (names_of_utc ++ other_names) bytes == long in
    option_or (if is_name then said (hours_and_minutes ++ hours) number else None) (if not (word names_of_utc bytes == 0) then Some (pos 0) else None)

-- the offset that stands after a date
unfoldable pub offset_after : List ℕ → Option ℤ
offset_after bytes =
    let apart = drop (gap (near bytes)) (near bytes) in
    option_or (said_directly (near bytes)) (option_or (said hours_and_minutes apart) (said_by_name apart))

-- the word of letters that stands after a date, directly or over a space
unfoldable pub word_after : List ℕ → ℕ → List ℕ
word_after line ends =
    let bytes = near (after line ends) in
    let others = drop (if get_or bytes 0 0 == space then 1 else 0) bytes in
    take (prefix_len is_ascii_alphabetic others) others

-- here stand a sign and four digits after no word: an offset that was read as a year, or a year with a sign
abbrev pub is_signed_year : List ℕ → ℕ → Bool
is_signed_year line place =
    is_sign (get_or line place 0) && begin_so (codes "9999") (drop 1 (drop place line)) && not (is_ascii_alphanumeric (byte_before line place 1))

-- here UTC is named, as it is looked for inside of what is read
abbrev pub is_utc : List ℕ → ℕ → Bool
is_utc line place = not (word (codes "utc" ∷ codes "gmt" ∷ codes "z" ∷ []) (drop place line) == 0) && is_edge line place

-- here stands an offset inside of what is read, or UTC is named where that is another one
abbrev pub is_offset : Bool → List ℕ → ℕ → Bool
is_offset is_other line place = is_signed_year line place || (is_other && is_utc line place)

-- the line says another offset after a date that is read from a place up to another, or inside of what is read
unfoldable pub has_another_offset : List ℕ → ℕ → ℕ → ℤ → Bool
has_another_offset line start ends given =
    option_map_or (λ said. not (int_eq said given)) (offset_after (after line ends)) false || is_any (is_offset (not (int_eq given (pos 0))) line) start ends

-- ---- a time of day

-- one byte or space that may stand before a half of the day, U+00A0 and U+202F among them
abbrev pub pause : List ℕ → ℕ
pause bytes = if is_one_of (codes " \t,;") (get_or bytes 0 0) then 1 else begun ((194 ∷ 160 ∷ []) ∷ (226 ∷ 128 ∷ 175 ∷ []) ∷ []) bytes

-- it says a half of the day after a date, directly or over one of these
unfoldable pub has_half_after : List ℕ → ℕ → Bool
has_half_after line ends = let bytes = near (after line ends) in not (word halves (drop (pause bytes) bytes) == 0)

abbrev pub is_clock : List ℕ → ℕ → Bool
is_clock line place = not (begun clocks (drop place line) == 0) && is_edge line place

-- it says a clock within sixteen bytes before a date or after it
unfoldable pub has_clock_beside : List ℕ → ℕ → ℕ → Bool
has_clock_beside line begins ends = is_any (is_clock line) (begins - 16) begins || is_any (is_clock line) ends (ends + 16)

-- ---- a year

-- another year from 1000 to 2999 begins bytes
abbrev pub is_other_year : ℤ → List ℕ → Bool
is_other_year year bytes =
    is_one_of (codes "12") (get_or bytes 0 0) && not (word (codes "9999" ∷ []) bytes == 0) && not (int_eq (pos (number bytes)) year)

-- what stands over one byte, or over the name of a zone in capital letters or an offset, and the spaces round it
abbrev pub past_zone : List ℕ → List ℕ
past_zone bytes =
    let others = drop 1 bytes in
    let long = max (prefix_len is_ascii_uppercase others) (signed (hours_and_minutes ++ hours) others) in
    if get_or bytes 0 0 == space && nat_lt 0 long && get_or others long 0 == space then drop (long + 1) others else others

-- one stands at the start, over one byte, over a zone, or over a comma and a space
abbrev pub is_year_after : ℤ → List ℕ → Bool
is_year_after year bytes =
    list_any (is_other_year year) (bytes ∷ drop 1 bytes ∷ past_zone bytes ∷ []) || (begin_so (codes ", ") bytes && is_other_year year (drop 2 bytes))

-- one byte, or parts, or parts round the word of a weekday
abbrev pub is_joint : List ℕ → Bool
is_joint bytes =
    let others = drop (gap bytes) bytes in
    let rest = drop (prefix_len is_ascii_alphabetic others) others in
    length bytes == 1 || (nat_lt 0 (gap bytes) && length rest == gap rest)

-- one stands so far before a date, over a joint
abbrev pub is_year_before : List ℕ → ℕ → ℤ → ℕ → Bool
is_year_before line begins year far =
    let place = begins - far in
    is_other_year year (drop place line) && is_joint (drop (place + 4) (take begins line)) && is_edge line place

-- it says another year, after a date or up to eleven bytes before it
unfoldable pub has_another_year : List ℕ → ℕ → ℕ → ℤ → Bool
has_another_year line begins ends year = is_year_after year (after line ends) || is_any (is_year_before line begins year) 5 (min 12 (begins + 1))

-- ---- a clock before a date

-- an address of IPv6 or of hardware goes on over this place: two colons or more are among its digits before it
abbrev pub is_in_address : List ℕ → ℕ → Bool
is_in_address line place =
    let before = take place line in
    let digits = suffix_len (λ byte. is_ascii_hexdigit byte || byte == colon) before in
    nat_lt 1 (count_by (λ byte. byte == colon) (drop (length before - digits) before))

-- hours, minutes and seconds begin here, and no more of a clock or an address
abbrev pub begins_seconds : List ℕ → ℕ → Bool
begins_seconds line place =
    let bytes = drop place line in
    (begin_so (codes "99:99:99") bytes && not (is_ascii_digit (byte_before line place 1))) &&
    not (is_ascii_alphanumeric (get_or bytes 8 0) || get_or bytes 8 0 == colon) && not (is_in_address line place)

-- they do before a place and all quotation marks, after which a message stands
unfoldable pub has_clock_before : List ℕ → ℕ → Bool
has_clock_before line place = let before = take_while (λ byte. not (byte == 34)) (take place line) in is_any (begins_seconds before) 0 (length before)
