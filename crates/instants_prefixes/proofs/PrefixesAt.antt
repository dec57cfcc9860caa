-- The prefix at a place: what is read there, and where it lies.
use Rattle.std.proofs.Common.{◌≡◌, ◌-◌, ◌≤◌, ℕ, Bool, true, false, List, length, take, drop, Option, Some, None, Ok, Err, refl, sym, ap, ◌∙◌, subst, arith, length-drop}
use Rattle.std.specs.Prelude.{if◌then◌else◌, IfSome, option_map}
use Rattle.std.specs.Char.{is_ascii_whitespace}
use Rattle.std.proofs.lemmas.Bool.Decides.{nat_tests}
use Rattle.std.proofs.lemmas.List.{length-take}
use Rattle.std.proofs.lemmas.List.Sums.{prefix_len-le-length}
use Rattle.datetime_wall.specs.Wall.{Shown}
use Rattle.parsing_record.specs.Meaning.{Answer}
use Rattle.parsing_record.specs.Record.{empty}
use Rattle.instants_sources.specs.Grammar.{Grammar, Described}
use Rattle.instants_sources.specs.Reading.{reading_of}
use Rattle.instants_edges.specs.Pieces.{blanks, trimmed_length, zone_length}
use Rattle.instants_prefixes.specs.DateSource.{IsWithin}
use Rattle.instants_prefixes.specs.Ends.{LiesIn, LeavesRest}
use Rattle.instants_prefixes.specs.Prefix.{prefix_at, prefix_in, with_lengths}
use Rattle.instants_prefixes.specs.Given.{Given, moment_of}
use Rattle.instants_prefixes.specs.Lengths.{lengths, lengths_from, extent_of, whole}
use Rattle.instants_prefixes.specs.Reading.{text_for, may_begin, prefix_named, prefix_of, is_likely}
use Rattle.instants_prefixes.specs.declared.prefix.Prefix.{Prefix}
use Rattle.instants_prefixes.specs.declared.extent.Extent.{Extent}
use Rattle.instants_prefixes.proofs.Extents.{extent_within}
use Rattle.instants_prefixes.proofs.Windows.{text_within}
use Rattle.parsing_components.specs.declared.fields.Record.{Record}

-- ---- what is read

pub prefix_at_is : (given : Given) (grammar : Grammar) (bytes text : List ℕ) (o : Option (Shown × List ℕ)) → text ≡ text_for grammar bytes → o ≡ prefix_named given grammar text → prefix_at given grammar bytes ≡ prefix_in grammar text o
unfolding prefix_at
prefix_at_is given grammar bytes text o is named = rw (sym is, sym named) refl

likely : (b : Bool) (o : Option Shown) (m : Shown) (left rest : List ℕ) → (if b then option_map {U = Shown × List ℕ} (λ moment. (moment, left)) o else None) ≡ Some (m, rest) → (left ≡ rest) × (o ≡ Some m)
likely b o m left rest e = (grind arith, grind arith)

named_of : (given : Given) (a : Answer) (m : Shown) (rest : List ℕ) → prefix_of given a ≡ Some (m, rest) → (set : Record) × (a ≡ Ok (set, rest)) × (moment_of given given.years set ≡ Some m)
named_of given (Ok read) m rest e = let (same, names) = likely (is_likely read.0.unix_timestamp_nanos) (moment_of given given.years read.0) m read.1 rest e in (read.0, ap (λ (left : List ℕ). Ok (read.0, left)) same, names)
named_of given (Err f) m rest e = absurd cc

begun : {A : Type 0} (b : Bool) (o : Option A) (x : A) → Some x ≡ (if b then o else None) → o ≡ Some x
begun true o x e = sym e
begun false o x e = absurd cc

-- a prefix that is named was read
pub named_read : (given : Given) (grammar : Grammar) (text : List ℕ) (m : Shown) (rest : List ℕ) → Some (m, rest) ≡ prefix_named given grammar text
    → (set : Record) × (reading_of grammar empty text ≡ Ok (set, rest)) × (moment_of given given.years set ≡ Some m)
unfolding prefix_named
named_read given grammar text m rest e = named_of given (reading_of grammar empty text) m rest (begun (may_begin grammar text) _ (m, rest) e)

pub named_leaves : (given : Given) (grammar : Grammar) (text : List ℕ) (m : Shown) (rest : List ℕ) → Some (m, rest) ≡ prefix_named given grammar text → LeavesRest grammar text rest
named_leaves given grammar text m rest e = let (set, reads, names) = named_read given grammar text m rest e in (set, reads)

-- ---- where it lies

blanks_within : (bytes : List ℕ) → blanks bytes ≤ length bytes
unfolding blanks
blanks_within bytes = prefix_len-le-length is_ascii_whitespace bytes

trimmed_within : (bytes : List ℕ) → trimmed_length bytes ≤ length bytes
unfolding trimmed_length
trimmed_within bytes = omega arith

zone_within : (bytes : List ℕ) → zone_length bytes ≤ length bytes
unfolding zone_length
zone_within bytes = grind (arith, nat_tests, prefix_len-le-length {X = ℕ})

-- what an extent within the text gives lies within it
extent_lies : (text rest : List ℕ) (moment : Shown) (extent : Extent) → LiesIn text extent → IsWithin text (with_lengths text moment rest (lengths_from text extent))
extent_lies text rest moment extent (begins, up_to, written) =
    let all = length text - length rest in
    let ends = trimmed_length (take extent.up_to text) in
    let ends_here : ends ≤ length text = omega (arith, trimmed_within (take extent.up_to text), length-take extent.up_to text) in
    record {
      begins = omega (arith, begins, blanks_within (drop extent.begins text), length-drop extent.begins text);
      ends = ends_here;
      zone = omega (arith, ends_here, zone_within (drop ends (take extent.written text)), length-drop ends (take extent.written text), length-take extent.written text);
      all = omega (arith, trimmed_within (take all text), length-take all text);
    }

whole_lies : (text rest : List ℕ) (moment : Shown) → IsWithin text (with_lengths text moment rest (whole (trimmed_length (take (length text - length rest) text))))
whole_lies text rest moment =
    let all = length text - length rest in
    let here : trimmed_length (take all text) ≤ length text = omega (arith, trimmed_within (take all text), length-take all text) in
    record { begins = omega arith; ends = here; zone = here; all = here }

pub prefix_within : (grammar : Grammar) (text : List ℕ) (moment : Shown) (rest : List ℕ) → IsWithin text (with_lengths text moment rest (lengths grammar text rest))
unfolding lengths
prefix_within (Described written) text moment rest = extent_lies text rest moment (extent_of written text) (extent_within written text)
prefix_within _ text moment rest = whole_lies text rest moment

-- the prefix lies within the bytes
within_in : (grammar : Grammar) (text bytes : List ℕ) (named : Option (Shown × List ℕ)) → length text ≤ length bytes → IfSome (prefix_in grammar text named) (IsWithin bytes)
within_in grammar text bytes None le = tt
within_in grammar text bytes (Some (moment, rest)) le =
    let h = prefix_within grammar text moment rest in
    record { begins = omega (arith, h.begins); ends = omega (arith, h.ends); zone = omega (arith, h.zone); all = omega (arith, h.all) }

pub at_within : (given : Given) (grammar : Grammar) (bytes : List ℕ) (o : Option Prefix) → o ≡ prefix_at given grammar bytes → IfSome o (IsWithin bytes)
unfolding prefix_at
at_within given grammar bytes o e =
    let P : Option Prefix → Type 0 = λ o. IfSome o (IsWithin bytes) in
    subst P (sym e) (within_in grammar (text_for grammar bytes) bytes _ (omega (arith, text_within grammar bytes, length-take 256 bytes)))
