-- Words of letters at the start, and bytes without white space at their end.
use Rattle.std.proofs.Common.{◌≡◌, ℕ, ◌-◌, List, length, ap, ◌∙◌, arith}
use Rattle.std.specs.Char.{is_ascii_whitespace}
use Rattle.std.specs.List.{suffix_len}
use Rattle.std.specs.Str.{IsTrimAsciiEnd}
use Rattle.std.proofs.lemmas.List.{length-take-le}
use Rattle.std.proofs.lemmas.Str.Ascii.{trim_ascii_end_is}
use Rattle.instants_edges.specs.Pieces.{trimmed_length}

-- what std trims has the length that is said of it
pub trimmed_is : (bytes trimmed : List ℕ) → IsTrimAsciiEnd bytes trimmed → length trimmed ≡ trimmed_length bytes
unfolding trimmed_length
trimmed_is bytes trimmed trim =
    ap length (trim_ascii_end_is bytes trimmed trim) ∙ length-take-le (length bytes - suffix_len is_ascii_whitespace bytes) bytes (omega arith)
