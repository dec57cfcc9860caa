-- What a source reads into a record.
use Rattle.parsing_parsable.specs.Staged.{reads_rfc2822, reads_rfc3339, reads_iso8601}
use Rattle.parsing_record.specs.Meaning.{Meaning}
use Rattle.instants_sources.specs.Grammar.{Grammar, Described, Rfc2822, Rfc3339, Iso8601}
use Rattle.instants_sources.specs.Written.{reads_written}

abbrev pub reading_of : Grammar → Meaning
reading_of (Described written) = reads_written written
reading_of Rfc2822 = reads_rfc2822
reading_of Rfc3339 = reads_rfc3339
reading_of Iso8601 = reads_iso8601
