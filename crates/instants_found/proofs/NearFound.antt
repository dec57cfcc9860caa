-- What is found depends on the bytes near the first places alone, and lies near them.
use Rattle.std.proofs.Common.{◌≡◌, ◌<◌, ◌≤◌, ◌+◌, ℕ, Bool, true, false, List, ◌++◌, length, Option, Some, None, ap, subst, arith}
use Rattle.std.specs.Prelude.{IfSome, if◌then◌else◌}
use Rattle.std.proofs.lemmas.List.{take-append-le, length-take}
use Rattle.instants_sources.specs.Grammar.{Grammar}
use Rattle.instants_prefixes.specs.declared.given.Given.{Given}
use Rattle.instants_found.specs.Candidate.{is_whole}
use Rattle.instants_found.specs.Found.{found, found_in, looked_at}
use Rattle.instants_found.specs.IsFound.{IsFound}
use Rattle.instants_found.specs.Within.{IsWithin}
use Rattle.instants_found.specs.declared.candidate.Candidate.{Candidate}
use Rattle.instants_found.specs.declared.found.Found.{Found}
use Rattle.instants_found.specs.declared.found.Finding.{Finding}
use Rattle.instants_found.specs.declared.found.Finding.TheVariants.{Doubtful, There}
use Rattle.instants_found.proofs.FirstFound.{first_found_is}
use Rattle.instants_found.proofs.ReadAt.{lies_near}
use Rattle.std.proofs.lemmas.Option.{IfSome_then}

-- ---- bytes further on

pub near_found : (limit : ℕ) (given : Given) (sources : List Grammar) (line rest : List ℕ) → limit + 256 + 64 ≤ length line → found limit given sources (line ++ rest) ≡ found limit given sources line
unfolding found
near_found limit given sources line rest far = ap (found_in limit given sources) (take-append-le (limit + 256 + 64) line rest far)

-- ---- where the date that is found lies

module _ (limit : ℕ) (given : Given) (sources : List Grammar) (line : List ℕ) where
  abbrev Lies : Finding → Type 0
  Lies (There date) = (date.start < limit + 256) × (date.end < limit + 256) × (date.start < date.end) × (date.end ≤ length line) × (date.source < length sources)
  Lies (Doubtful place) = place < length (looked_at limit line)

  either_lies : (place : ℕ) (one : Candidate) (b : Bool) → Lies (There one.date) → Lies (Doubtful place) → Lies (if b then There one.date else Doubtful place)
  either_lies place one true date doubt = date
  either_lies place one false date doubt = doubt

  all_lie : (o : Option Finding) → IsFound limit given sources (looked_at limit line) o → IfSome o Lies
  all_lie None none = tt
  all_lie (Some found) (place, one, long, is) =
      let (lies, few) = lies_near given sources (looked_at limit line) place long.number one long.here.reads in
      let within = long.here.within in
      let all = length-take (limit + 256 + 64) line in
      let date : Lies (There one.date) = (omega (arith, long.near, lies.start_near), omega (arith, long.near, lies.end_near), lies.later, omega (arith, lies.end_near, within, all), omega (arith, lies.source, few)) in
      rw is (either_lies place one (is_whole one) date within)

  found_lies : IfSome (found limit given sources line) Lies
  found_lies = all_lie (found limit given sources line) (first_found_is limit given sources line)

  within_of : (finding : Finding) → Lies finding → IsWithin limit line (length sources) finding
  within_of (There date) (start, end, later, within, source) = record { start = omega (arith, later, within); end = within; source = source }
  within_of (Doubtful place) within = within

  pub found_within : IfSome (found limit given sources line) (IsWithin limit line (length sources))
  found_within = IfSome_then (found limit given sources line) found_lies within_of

  date_lies : (date : Found) → found limit given sources line ≡ Some (There date) → Lies (There date)
  date_lies date e = let P : Option Finding → Type 0 = λ o. IfSome o Lies in subst P e found_lies

  pub found_near : (date : Found) → found limit given sources line ≡ Some (There date) → (date.start < limit + 256) × (date.end < limit + 256)
  found_near date e = let lies = date_lies date e in (lies.0, lies.1)

  pub found_not_empty : (date : Found) → found limit given sources line ≡ Some (There date) → (date.start < date.end) × (date.end ≤ length line)
  found_not_empty date e = let (start, end, later, within, source) = date_lies date e in (later, within)
