-- The readings of RFC 3339, RFC 2822 and ISO 8601 into a record. Each number that a record does not take is refused where it stands.
use Rattle.std.specs.Prelude.{true}
use Rattle.parsing_combinator.specs.Readings.{◌>>=◌, give}
use Rattle.parsing_record.specs.Meaning.{Meaning}
use Rattle.parsing_rfc3339.specs.Reading as rfc3339
use Rattle.parsing_rfc2822.specs.Reading as rfc2822
use Rattle.parsing_iso8601.specs.Reading as iso8601
use Rattle.parsing_parsable.specs.Put.{put_rfc3339, put_rfc2822, put_iso8601}

unfoldable pub reads_rfc3339 : Meaning
reads_rfc3339 r = do
  w ← rfc3339.rfc3339 true
  give (put_rfc3339 w r)

unfoldable pub reads_rfc2822 : Meaning
reads_rfc2822 r = do
  w ← rfc2822.rfc2822 true
  give (put_rfc2822 w r)

unfoldable pub reads_iso8601 : Meaning
reads_iso8601 r = do
  w ← iso8601.iso8601
  give (put_iso8601 w r)
