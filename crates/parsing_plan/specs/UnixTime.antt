-- Unix time alone on a line.
use Rattle.std.specs.Prelude.{◌≡◌, ◌≤◌, ℕ, ◌+◌, ◌-◌, ◌*◌, ◌^◌, List, [], Some, pos}
use Rattle.std.specs.Result.{result_ok}
use Rattle.parsing_combinator.specs.Pieces.{digits}
use Rattle.parsing_components.specs.Meaning.{Meaning}
use Rattle.parsing_components.specs.declared.fields.Record.{Record}

-- an item reads ten digits, and so many more, as the nanoseconds since 1970 began, where they are not too many
abbrev pub IsUnixOf : Meaning → ℕ → Type 0
IsUnixOf m finer = (line : List ℕ) (number : ℕ) → digits (10 + finer) line ≡ Some (number, []) → number * 10 ^ (9 - finer) ≤ 20_000_000_000_000_000_000 → (r : Record) → result_ok (m r line) ≡ Some (record r { unix_timestamp_nanos = Some (pos (number * 10 ^ (9 - finer))) }, [])
