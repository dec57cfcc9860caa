-- What a source reads at the start of bytes, and the moment that it names.
use Rattle.std.specs.Prelude.{ℕ, ℤ, ◌^◌, ◌&&◌, ◌||◌, not, nat_le, nat_lt, Bool, true, false, List, take, get_or, Option, None, Some, option_map, Ok, Err, unsigned_abs, if◌then◌else◌}
use Rattle.std.specs.Char.{is_ascii_alphanumeric}
use Rattle.datetime_wall.specs.Wall.{Shown}
use Rattle.description_items.specs.declared.component.Component.{Component}
use Rattle.description_items.specs.Tree.{listed}
use Rattle.parsing_components.specs.declared.fields.Record.{Record}
use Rattle.parsing_record.specs.Meaning.{Answer}
use Rattle.parsing_record.specs.Record.{empty}
use Rattle.instants_sources.specs.Grammar.{Grammar, Described, Rfc2822, Iso8601, Written, Items, V3}
use Rattle.instants_sources.specs.Reading.{reading_of}
use Rattle.instants_edges.specs.Text.{iso_text, mail_text}
use Rattle.instants_prefixes.specs.Given.{Given, moment_of}
use Rattle.instants_prefixes.specs.Kinds.{is_of}
use Rattle.instants_prefixes.specs.declared.kind.Kind.TheVariants as kind
pub use Rattle.instants_prefixes.specs.Has.{has, any_has}

-- a date lies within so many bytes
abbrev pub window : ℕ
window = 256

-- what a source is given of the bytes from a place on
unfoldable pub text_for : Grammar → List ℕ → List ℕ
text_for Rfc2822 bytes = mail_text 0 (take window bytes)
text_for Iso8601 bytes = iso_text (take window bytes)
text_for _ bytes = take window bytes

-- a date of RFC 2822 begins with its weekday or its day, and not with the white space or the comments that may stand before it
abbrev pub may_begin : Grammar → List ℕ → Bool
may_begin Rfc2822 text = is_ascii_alphanumeric (get_or text 0 0)
may_begin _ text = true

-- ---- which components stand in a source

-- one stands in a description: inside its choices too, or outside of all of them
abbrev pub written_has : Bool → (Component → Bool) → Written → Bool
written_has in_choices kind (Items items) = any_has in_choices kind (listed items)
written_has in_choices kind (V3 tree) = has in_choices kind tree

-- one may stand in a source; the well-known formats have none
abbrev pub stands_in : (Component → Bool) → Grammar → Bool
stands_in kind (Described written) = written_has true kind written
stands_in kind _ = false

-- neither a part of an offset nor Unix time may stand in a description: each date takes the offset that is given
abbrev pub is_local : Grammar → Bool
is_local (Described written) = not (written_has true (is_of kind.OffsetPart) written || written_has true (is_of kind.UnixTime) written)
is_local _ = false

-- ---- the record

-- what was read, and nothing where it was refused
abbrev pub record_of : Answer → Record
record_of (Ok read) = read.0
record_of (Err fault) = empty

-- the record that a source reads at the start of bytes, and an empty one where it reads none
unfoldable pub record_at : Grammar → List ℕ → Record
record_at grammar bytes = record_of (reading_of grammar empty (text_for grammar bytes))

-- ---- the moment

-- a number of Unix time inside a line has nine or ten digits of seconds, which are 1973 to 2286 and the like before 1970: shorter and longer numbers count other things
abbrev pub is_likely : Option ℤ → Bool
is_likely None = true
is_likely (Some nanoseconds) = nat_le (10 ^ 17) (unsigned_abs nanoseconds) && nat_lt (unsigned_abs nanoseconds) (10 ^ 19)

-- the moment of a record that was read, whose number of Unix time, if it has one, is likely
abbrev pub prefix_of : Given → Answer → Option (Shown × List ℕ)
prefix_of given (Ok read) = if is_likely read.0.unix_timestamp_nanos then option_map (λ moment. (moment, read.1)) (moment_of given given.years read.0) else None
prefix_of given (Err fault) = None

-- the moment that a prefix of a text names by a source, and what stands after that prefix: what is given takes the place of what the prefix lacks
--
-- There is at most one such prefix: each reading takes what it can, and tries no shorter prefix where the longer one names no moment.
unfoldable pub prefix_named : Given → Grammar → List ℕ → Option (Shown × List ℕ)
prefix_named given grammar text = if may_begin grammar text then prefix_of given (reading_of grammar empty text) else None
