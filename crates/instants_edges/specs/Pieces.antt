-- Bytes at the start and at the end of a date.
use Rattle.std.specs.Prelude.{ℕ, ◌+◌, ◌-◌, ◌==◌, ◌&&◌, not, nat_lt, List, length, take, drop, get_or, if◌then◌else◌}
use Rattle.std.specs.Char.{is_ascii_digit, is_ascii_alphabetic, is_ascii_whitespace}
use Rattle.std.specs.List.{prefix_len, suffix_len}
use Rattle.base.specs.Bytes.{space}
use Rattle.instants_edges.specs.Edge.{byte_before}
use Rattle.instants_edges.specs.Text.{comma, is_fraction}

-- white space at the start
unfoldable pub blanks : List ℕ → ℕ
blanks bytes = prefix_len is_ascii_whitespace bytes

-- the length without white space at the end
unfoldable pub trimmed_length : List ℕ → ℕ
trimmed_length bytes = length bytes - suffix_len is_ascii_whitespace bytes

-- the word of letters at the start, over one space at most: a zone that a description has as text
unfoldable pub zone_length : List ℕ → ℕ
zone_length bytes =
    let others = prefix_len is_ascii_alphabetic (drop 1 bytes) in
    if get_or bytes 0 0 == space then (if others == 0 then 0 else 1 + others) else prefix_len is_ascii_alphabetic bytes

-- digits after a comma at a date's end may be a field of a list: for sure the date reaches to the comma, and else to the end of the word of its zone
unfoldable pub reach : List ℕ → ℕ → ℕ → ℕ → ℕ
reach line begins ends zone =
    let digits = suffix_len is_ascii_digit (take (ends - begins) (drop begins line)) in
    let comma_place = ends - digits - 1 in
    if (nat_lt (digits + 1) (ends - begins) && get_or line comma_place 0 == comma) && (is_ascii_digit (byte_before line comma_place 1) && not (is_fraction (drop (ends - digits) line)))
    then comma_place else zone
