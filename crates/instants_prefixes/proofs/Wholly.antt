-- A text that is a date of RFC 3339 and nothing else.
use Rattle.std.proofs.Common.{◌≡◌, ◌<◌, ◌≤◌, ◌-◌, ℕ, List, [], length, take, Some, refl, sym, ap, arith}
use Rattle.std.proofs.lemmas.List.{take_all}
use Rattle.datetime_wall.specs.Wall.{Shown}
use Rattle.parsing_record.specs.Record.{empty}
use Rattle.parsing_record.specs.Prefix.{NamesPrefix}
use Rattle.parsing_parsable.specs.Staged.{reads_rfc3339}
use Rattle.instants_sources.specs.Grammar.{Rfc3339}
use Rattle.instants_edges.specs.Pieces.{trimmed_length}
use Rattle.instants_prefixes.specs.Lengths.{lengths, whole}
use Rattle.instants_prefixes.specs.Prefix.{with_lengths}
use Rattle.instants_prefixes.specs.Reading.{record_at, text_for}
use Rattle.instants_prefixes.specs.DateSource.{IsWithin}
use Rattle.instants_prefixes.specs.Given.{nothing}
use Rattle.instants_prefixes.specs.Wholly.{IsWholly}
use Rattle.instants_prefixes.specs.declared.prefix.Prefix.{Prefix}
use Rattle.instants_prefixes.proofs.PrefixesAt.{at_within, prefix_at_is}
use Rattle.instants_prefixes.proofs.ReadPrefixes.{rfc3339_prefix}

given_whole : (text : List ℕ) → length text ≤ 64 → text_for Rfc3339 text ≡ text
unfolding text_for
given_whole text short = take_all 256 text (omega (arith, short))

pub wholly : (text : List ℕ) (moment : Shown) → 0 < length text → length text ≤ 64 → NamesPrefix reads_rfc3339 empty text [] moment
    → IsWholly Rfc3339 text (with_lengths text moment [] (whole (trimmed_length (take (length text - 0) text))))
unfolding record_at lengths
wholly text moment some short read =
    let all = given_whole text short in
    record {
      some = some;
      short = short;
      reads = λ given. prefix_at_is given Rfc3339 text text (Some (moment, [])) (sym all) (sym (rfc3339_prefix given text [] moment read));
      names = rw (all, read.reads) read.names;
      begins = refl;
      all = ap trimmed_length (take_all (length text - 0) text (omega arith));
    }

pub wholly_within : (text : List ℕ) (prefix : Prefix) → IsWholly Rfc3339 text prefix → IsWithin text prefix
wholly_within text prefix read = at_within nothing Rfc3339 text (Some prefix) (sym (read.reads nothing))
