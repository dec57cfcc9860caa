-- A prefix in which a source names a moment has a byte at least: its date ends after it begins.
use Rattle.std.proofs.Common.{◌≡◌, ◌<◌, ◌-◌, ◌∙◌, ℕ, Bool, true, false, List, [], ◌++◌, length, take, Option, Some, None, Ok, Err, refl, sym, arith, ap}
use Rattle.std.specs.Prelude.{IfSome, option_map, if◌then◌else◌}
use Rattle.std.proofs.Math.Seq.{take-append_seam}
use Rattle.std.proofs.lemmas.List.{length-append}
use Rattle.datetime_wall.specs.Wall.{Shown}
use Rattle.parsing_components.specs.declared.fields.Record.{Record}
use Rattle.parsing_components.specs.Component.{reads_component, reads_component_v3}
use Rattle.parsing_record.specs.Meaning.{Answer}
use Rattle.parsing_record.specs.Record.{empty}
use Rattle.instants_sources.specs.Grammar.{Grammar, Described, Rfc2822, Rfc3339, Iso8601, Written, Items, V3}
use Rattle.instants_sources.specs.Written.{reads_written}
use Rattle.instants_edges.specs.Pieces.{trimmed_length}
use Rattle.instants_prefixes.specs.Given.{Given, moment_of}
use Rattle.instants_prefixes.specs.Lengths.{Lengths, extent_of, items_of, lengths, whole}
use Rattle.instants_prefixes.specs.Prefix.{prefix_at, prefix_in}
use Rattle.instants_prefixes.specs.Reading.{is_likely, prefix_named, prefix_of, text_for}
use Rattle.instants_prefixes.specs.declared.kind.Kind.{Kind}
use Rattle.instants_prefixes.proofs.Formats.{format_marked}
use Rattle.instants_prefixes.proofs.ItemsLater.{EndsLater, items_later}
use Rattle.instants_prefixes.proofs.Marked.{trimmed_between}
use Rattle.instants_prefixes.proofs.MarkedParts.{component_tells, component_tells_v3}
use Rattle.instants_prefixes.proofs.MarkedShapes.{IsMarkedBefore}
use Rattle.instants_prefixes.proofs.Turns.{by_items}
use Rattle.instants_prefixes.proofs.Told.{trees_told}
use Rattle.instants_prefixes.proofs.NoYear.{nothing_named}
use Rattle.instants_prefixes.proofs.PrefixesAt.{named_read}

-- ---- descriptions

described_later : (written : Written) (text rest : List ℕ) (set : Record) → reads_written written empty text ≡ Ok (set, rest) → (set ≡ empty → ⊥) → EndsLater text (extent_of written text)
described_later (Items items) text rest set read some =
    items_later reads_component (trees_told reads_component component_tells) items text set rest read some
described_later (V3 tree) text rest set read some =
    items_later reads_component_v3 (trees_told reads_component_v3 component_tells_v3) (items_of tree) text set rest (by_items reads_component_v3 tree empty text ∙ read) some

-- ---- any source

-- the end of a date lies after its beginning
abbrev pub IsNotEmpty : Lengths → Type 0
IsNotEmpty long = long.begins < long.zone

taken_first : (taken rest : List ℕ) → take (length (taken ++ rest) - length rest) (taken ++ rest) ≡ taken
taken_first taken rest =
    let count : length (taken ++ rest) - length rest ≡ length taken = omega (arith, length-append taken rest) in
    rw count (take-append_seam taken rest)

whole_later : (text rest : List ℕ) → IsMarkedBefore text rest → IsNotEmpty (whole (trimmed_length (take (length text - length rest) text)))
whole_later text rest marked =
    let taken = marked.taken in
    let is = marked.is in
    let less = trimmed_between [] taken rest marked.mark in
    rw (is, taken_first taken rest) (omega (arith, less))

pub prefix_later : (given : Given) (grammar : Grammar) (text rest : List ℕ) (m : Shown) → Some (m, rest) ≡ prefix_named given grammar text
    → IsNotEmpty (lengths grammar text rest)
unfolding lengths
prefix_later given (Described written) text rest m e =
    let (set, read, names) = named_read given (Described written) text m rest e in
    omega (arith, described_later written text rest set read (λ same. let none : None ≡ Some m = sym (nothing_named given) ∙ ap (moment_of given given.years) (sym same) ∙ names in absurd cc))
prefix_later given Rfc2822 text rest m e = whole_later text rest (format_marked given Rfc2822 text rest m tt e)
prefix_later given Rfc3339 text rest m e = whole_later text rest (format_marked given Rfc3339 text rest m tt e)
prefix_later given Iso8601 text rest m e = whole_later text rest (format_marked given Iso8601 text rest m tt e)
