-- The date of a line has a byte at least and lies within the line, also where it is looked for in a part.
use Rattle.std.proofs.Common.{◌≡◌, ◌<◌, ◌≤◌, ◌+◌, ◌-◌, ℕ, Bool, true, false, List, length, drop, Option, Some, None, refl, ap, arith, length-drop}
use Rattle.std.specs.Prelude.{if◌then◌else◌}
use Rattle.std.proofs.lemmas.List.{length-take}
use Rattle.instants_fields.specs.declared.json.Member.{Member}
use Rattle.instants_found.specs.declared.found.Found.{Found}
use Rattle.instants_found.specs.declared.found.Finding.{Finding}
use Rattle.instants_found.specs.declared.found.Finding.TheVariants.{Doubtful, There}
use Rattle.instants_found.proofs.NearFound.{found_not_empty}
use Rattle.instants_lines.specs.Dates.{Search, date_at, date_by, date_in, found_by}
use Rattle.instants_lines.specs.Parts.{PartSaid, found_at, has_escape, moved, place_of_part, text_at}

-- a date of at least one byte lies within so many bytes
abbrev IsThere : ℕ → Found → Type 0
IsThere bytes date = (date.start < date.end) × (date.end ≤ bytes)

by_text : (search : Search) (text : List ℕ) (date : Found) → found_by search text ≡ Some (There date) → IsThere (length text) date
by_text search text date e = found_not_empty search.limit search.given search.setting.sources text date e

-- ---- in a part

escaped_or_moved : (at : ℕ) (escaped : Bool) (one date : Found)
    → ◌≡◌ {A = Option Finding} (Some (if escaped then Doubtful (at + one.start) else There (moved at one))) (Some (There date)) → moved at one ≡ date
escaped_or_moved at true one date e = absurd cc
escaped_or_moved at false one date e = cc

in_part : (at : ℕ) (part : PartSaid) (text : List ℕ) (bytes : ℕ) (o : Option Finding) (date : Found) → length text ≤ bytes - at
    → ((one : Found) → o ≡ Some (There one) → IsThere (length text) one) → found_at at part text o ≡ Some (There date) → IsThere bytes date
in_part at part text bytes None date long there e = absurd cc
in_part at part text bytes (Some (Doubtful place)) date long there e = absurd cc
in_part at part text bytes (Some (There one)) date long there e =
    let same = escaped_or_moved at (has_escape part text one) one date e in
    let start : at + one.start ≡ date.start = ap (λ (d : Found). d.start) same in
    let end : at + one.end ≡ date.end = ap (λ (d : Found). d.end) same in
    let here = there one refl in
    (omega (arith, start, end, here.0), omega (arith, end, here.0, here.1, long))

text_within : (place : Member) (line : List ℕ) → length (text_at place line) ≤ length line - place.start
text_within place line = omega (arith, length-take (place.end - place.start) (drop place.start line), length-drop place.start line)

by_place : (search : Search) (part : PartSaid) (line : List ℕ) (place : Option Member) (date : Found)
    → date_at search part line place ≡ Some (There date) → IsThere (length line) date
by_place search part line None date e = absurd cc
by_place search part line (Some place) date e =
    let text = text_at place line in
    in_part place.start part text (length line) (found_by search text) date (text_within place line) (by_text search text) e

by_part : (search : Search) (line : List ℕ) (part : Option PartSaid) (date : Found) → date_by search line part ≡ Some (There date)
    → IsThere (length line) date
by_part search line None date e = by_text search line date e
by_part search line (Some part) date e = by_place search part line (place_of_part part line) date e

pub date_within : (search : Search) (line : List ℕ) (date : Found) → date_in search line ≡ Some (There date) → IsThere (length line) date
date_within search line date e = by_part search line search.part date e

pub start_within : (search : Search) (line : List ℕ) (date : Found) → date_in search line ≡ Some (There date) → date.start ≤ length line
start_within search line date e = omega (arith, date_within search line date e)
