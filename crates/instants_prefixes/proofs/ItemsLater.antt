-- A date that names a moment has a byte at least: it ends after it begins.
use Rattle.std.proofs.Common.{◌≡◌, ◌<◌, ◌≤◌, ◌+◌, ◌-◌, ◌∙◌, ◌⊎◌, inl, inr, ℕ, Bool, true, false, List, ◌++◌, length, take, drop, Ok, sym, ap, subst, arith, refl}
use Rattle.std.specs.List.{prefix_len}
use Rattle.std.proofs.Math.Seq.{drop-append_seam}
use Rattle.std.proofs.lemmas.Bool.{both_ways, cases_lt}
use Rattle.std.proofs.lemmas.List.{length-append, take-take}
use Rattle.description_items.specs.declared.component.Component.{Component}
use Rattle.description_items.specs.Tree.{Tree, Trees, listed}
use Rattle.parsing_components.specs.declared.fields.Record.{Record}
use Rattle.parsing_record.specs.Meaning.{Answer}
use Rattle.parsing_record.specs.Record.{empty}
use Rattle.parsing_record.specs.Reads.{Language, reading_of_all}
use Rattle.instants_prefixes.specs.Has.{any_has}
use Rattle.instants_prefixes.specs.Kinds.{is_saying}
use Rattle.instants_prefixes.specs.Lengths.{is_silent, last_place, extent_by, length_read, lengths_from}
use Rattle.instants_prefixes.specs.declared.extent.Extent.{Extent}
use Rattle.instants_prefixes.proofs.Marked.{HasMark, first_bytes, trimmed_between}
use Rattle.instants_prefixes.proofs.Silent.{silent_first, silent_last}
use Rattle.instants_prefixes.proofs.Turns.{split_at}
use Rattle.instants_prefixes.proofs.Told.{Told, Reads, Refuses, Span, span_of_all}
use Rattle.instants_prefixes.proofs.Le.{le_false}

-- ---- descriptions

-- a date in a text begins, after white space, before it ends
abbrev pub EndsLater : List ℕ → Extent → Type 0
EndsLater text extent = (lengths_from text extent).begins < (lengths_from text extent).ends

-- where bytes of the text are read first, and then others, of which one is no white space
later_by : (text : List ℕ) (extent : Extent) (front middle rest : List ℕ) → text ≡ front ++ (middle ++ rest) → extent.begins ≡ length front
    → extent.up_to ≡ length front + length middle → HasMark middle → EndsLater text extent
later_by text extent front middle rest is begins up_to mark =
    let less = trimmed_between front middle rest mark in
    rw (is, begins, up_to, drop-append_seam front (middle ++ rest), first_bytes front middle rest) less

-- a reading takes bytes; it leaves the record as it is, or one of the bytes is no white space
record Took (saying : Bool) (r : Record) (bytes : List ℕ) (read : Record × List ℕ) : Type 0 where
  taken : List ℕ
  is : bytes ≡ taken ++ read.1
  silent : saying ≡ false → read.0 ≡ r
  either : (read.0 ≡ r) ⊎ HasMark taken

took : (answer : Record → Answer) (bytes : List ℕ) (span : Span) (r : Record) (read : Record × List ℕ) → Told answer bytes span → answer r ≡ Ok read → Took span.saying r bytes read
took answer bytes span r read (Refuses fault refuses) e = let refused = refuses r in absurd cc
took answer bytes span r read (Reads says kinds f taken rest h within is reads) e =
    let same : ◌≡◌ {A = Record × List ℕ} (f r, rest) read = cc (reads r) in
    let set : read.0 ≡ f r = sym (ap (λ (x : Record × List ℕ). x.0) same) in
    record {
      taken = taken;
      is = is ∙ ap (λ (x : Record × List ℕ). taken ++ x.1) same;
      silent = λ e. set ∙ h.same (le_false within.0 e) r;
      either = elim says as (λ b. says ≡ b → (read.0 ≡ r) ⊎ HasMark taken) [ true ↦ λ e. inr (h.mark e) | false ↦ λ e. inl (set ∙ h.same e r) ] refl;
    }

module _ (language : Language) (told : (ts : Trees) (bytes : List ℕ) → Told (λ r. reading_of_all language ts r bytes) bytes (span_of_all ts)) (items : List Tree) (text : List ℕ) where
  items_took : (xs : List Tree) (r : Record) (bytes : List ℕ) (read : Record × List ℕ) → reading_of_all language (listed xs) r bytes ≡ Ok read
      → Took (any_has true is_saying (listed xs)) r bytes read
  items_took xs r bytes read e = took (λ r. reading_of_all language (listed xs) r bytes) bytes (span_of_all (listed xs)) r read (told (listed xs) bytes) e

  -- what the first items read is followed by what the others up to the last read
  parts_later : (front up_to : Record × List ℕ) (one other : List ℕ)
      → reading_of_all language (listed (take (prefix_len is_silent items) items)) empty text ≡ Ok front
      → reading_of_all language (listed (take (last_place items) items)) empty text ≡ Ok up_to
      → text ≡ one ++ front.1 → front.1 ≡ other ++ up_to.1 → HasMark other → EndsLater text (extent_by language text items)
  parts_later front up_to one other first all is after mark =
      let front_long = ap length is in
      let after_long = ap length after in
      let sums = length-append one front.1 in
      let others = length-append other up_to.1 in
      let begins : length text - length front.1 ≡ length one = omega (arith, front_long, sums) in
      let ends : length text - length up_to.1 ≡ length one + length other = omega (arith, front_long, sums, after_long, others) in
      let parts = is ∙ ap (λ (bytes : List ℕ). one ++ bytes) after in
      let begins_so = ap (length_read text) first ∙ begins in
      let ends_so = ap (length_read text) all ∙ ends in
      later_by text (extent_by language text items) one other up_to.1 parts begins_so ends_so mark

  pub items_later : (set : Record) (rest : List ℕ) → reading_of_all language (listed items) empty text ≡ Ok (set, rest) → (set ≡ empty → ⊥)
      → EndsLater text (extent_by language text items)
  items_later set rest e some =
      let first = prefix_len is_silent items in
      let last = last_place items in
      let (up_to, before, after) = split_at language last items empty text (set, rest) e in
      let behind = items_took (drop last items) up_to.0 up_to.1 (set, rest) after in
      let end : set ≡ up_to.0 = behind.silent (silent_last items) in
      elim (cases_lt last first) [
        | inl less ↦
            let front = items_took (take last items) empty text up_to before in
            absurd (some (end ∙ front.silent (silent_first items last (omega (arith, less)))))
        | inr le ↦
            let (front, silent, saying) = split_at language first (take last items) empty text up_to before in
            let reads = λ (xs : List Tree). reading_of_all language (listed xs) empty text in
            let first_read = ap reads (sym (take-take first last items le)) ∙ silent in
            let one = items_took (take first items) empty text front first_read in
            let other = items_took (drop first (take last items)) front.0 front.1 up_to saying in
            elim other.either [
              | inl same ↦ absurd (some (end ∙ same ∙ one.silent (silent_first items first (omega arith))))
              | inr mark ↦ parts_later front up_to one.taken other.taken first_read before one.is other.is mark
            ]
      ]
