-- The date in both formats.
use Rattle.std.proofs.Common.{◌≡◌, ℕ, ◌≤◌, false, List, Ok}
use Rattle.std.specs.Prelude.{pos}
use Rattle.calendar_count.specs.Month.{month_number}
use Rattle.calendar_count.specs.declared.month.Month.{Month}
use Rattle.parsing_rfc3339.specs.Reading.{date}
use Rattle.parsing_iso8601.specs.declared.kind.Kind.TheVariants.{Extended}
use Rattle.parsing_iso8601.specs.declared.written.WrittenDate.TheVariants.{OfMonth}
use Rattle.parsing_iso8601.specs.Reading.{dated}
use Rattle.parsing_iso8601_shapes.proofs.FastDates.{date_of_pieces}
use Rattle.parsing.proofs.RfcPieces.{date_pieces}

-- the date that RFC 3339 reads is read by ISO 8601 too, and is of the extended kind
pub read_date : (bytes : List ℕ) (d : ℕ × ℕ × ℕ) (rest : List ℕ) (is : Month) → date false bytes ≡ Ok (d, rest) → month_number is ≡ d.1 → 1 ≤ d.2 → d.2 ≤ 31
    → dated bytes ≡ Ok ((Ok (OfMonth (pos d.0) is d.2), Extended), rest)
read_date bytes d rest is h e some most =
    let p = date_pieces bytes d rest h in
    date_of_pieces bytes p.b1 p.b2 p.b3 p.b4 rest d.0 d.1 d.2 is p.one p.first p.two e p.second p.three some most
