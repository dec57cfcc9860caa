-- The prefix of a description that a plan finds.
use Rattle.std.proofs.Common.{◌≡◌, ◌-◌, ℕ, ℤ, false, List, length, take, Option, Some, None, sym, ◌∙◌}
use Rattle.std.specs.Prelude.{option_map, if◌then◌else◌}
use Rattle.datetime_wall.specs.Wall.{Shown}
use Rattle.parsing_record.specs.Prefix.{NamesPrefix, beginning}
use Rattle.instants_sources.specs.Grammar.{Grammar, Described, Written}
use Rattle.instants_sources.specs.Written.{reads_written}
use Rattle.instants_prefixes.specs.Contents.{AreContents}
use Rattle.instants_prefixes.specs.Ends.{AreEnds, LiesIn, by_texts, items_in}
use Rattle.instants_prefixes.specs.Given.{Given}
use Rattle.instants_prefixes.specs.Lengths.{lengths, lengths_from, extent_of}
use Rattle.instants_prefixes.specs.Prefix.{prefix_at, with_lengths}
use Rattle.instants_prefixes.specs.Reading.{prefix_named, text_for}
use Rattle.instants_prefixes.specs.declared.contents.Contents.{Contents}
use Rattle.instants_prefixes.specs.declared.ends.Ends.{Ends}
use Rattle.instants_prefixes.specs.declared.extent.Extent.{Extent}
use Rattle.instants_prefixes.proofs.Extents.{described_extent, extent_within}
use Rattle.instants_prefixes.proofs.PrefixesAt.{prefix_at_is, named_leaves}
use Rattle.instants_prefixes.proofs.ReadPrefixes.{planned_named}

-- where texts alone stand around what it says
module _ (given : Given) (grammar : Grammar) (written : Written) (bytes text rest : List ℕ) (moment : Shown) (contents : Contents) (ends : Ends) (assumed : Option ℤ) (extent : Extent) (described : grammar ≡ Described written) (near : text ≡ take 256 bytes) (has : AreContents grammar contents) (around : AreEnds (items_in grammar) ends)
    (plain : contents.has_unix_time ≡ false) (is : assumed ≡ (if contents.has_offset_part then None else given.offset)) (names : NamesPrefix (reads_written written) (beginning assumed) text rest moment) (by : Some extent ≡ option_map (by_texts (length text - length rest)) ends.texts) where
  text_is : text ≡ text_for (Described written) bytes
  unfolding text_for
  text_is = near

  named : Some (moment, rest) ≡ prefix_named given (Described written) text
  named = let are = rw described at has in sym (planned_named given written text rest moment contents.has_offset_part assumed are.offset_part (are.unix_time ∙ plain) is names)

  extent_is : extent ≡ extent_of written text
  extent_is = described_extent written ends text rest extent (rw described at around) (named_leaves given (Described written) text moment rest named) by

  pub planned_lies : LiesIn text extent
  planned_lies = rw extent_is (extent_within written text)

  pub planned_at : Some (with_lengths text moment rest (lengths_from text extent)) ≡ prefix_at given grammar bytes
  unfolding lengths
  planned_at = rw (described, extent_is) (sym (prefix_at_is given (Described written) bytes text (Some (moment, rest)) text_is named))
