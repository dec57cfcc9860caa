-- What is found so far in an object. Only the crate's private clauses cite it.
use Rattle.std.specs.Prelude.{ℕ, ◌+◌, ◌≤◌, ◌||◌, true, false, List, Option, Some, None, option_map, is_some, if◌then◌else◌}
use Rattle.std.specs.Borrow.{Bor}
use Rattle.instants_fields.specs.Json.{Item}
use Rattle.instants_fields.specs.Members.{has_name, found_in}
use Rattle.instants_fields.specs.declared.value.Kind.{Kind}
use Rattle.instants_fields.specs.declared.value.Kind.TheVariants as kind
use Rattle.instants_fields.specs.declared.value.Extent.{Extent}
use Rattle.instants_fields.specs.declared.json.Found.{Found}

-- an array or an object by its items
abbrev pub as_other : Option (List Item × List ℕ) → Option (Kind × List ℕ)
as_other r = option_map (λ p. (kind.Other, p.1)) r

-- with one more item of the name
abbrev pub noted : Option Found → Extent → Found
noted None extent = record { extent = extent; repeats = false }
noted (Some found) extent = record { extent = found.extent; repeats = true }

-- with one more item
abbrev pub with_item : List ℕ → Option Found → Item → Option Found
with_item name found one = if has_name name one then Some (noted found one.extent) else found

-- a value, and how many bytes are left where it begins
abbrev pub placed_view : Option (ℕ × Kind × Bor (List ℕ)) → Option (ℕ × Kind × List ℕ)
placed_view r = option_map (λ p. (p.0, p.1, p.2.now)) r

abbrev pub with_place : ℕ → Option (Kind × List ℕ) → Option (ℕ × Kind × List ℕ)
with_place before r = option_map (λ p. (before, p.0, p.1)) r

-- what is found, and what stands after a member
abbrev pub found_view : Option Found → Option (Bor (List ℕ)) → Option (Option Found × List ℕ)
found_view found rest = option_map (λ rest. (found, rest.now)) rest

abbrev pub found_with : List ℕ → Option Found → Option (Item × List ℕ) → Option (Option Found × List ℕ)
found_with name found r = option_map (λ p. (with_item name found p.0, p.1)) r

-- with what is found in the items that are left
abbrev pub joined : Option Found → Option Found → Option Found
joined None more = more
joined (Some found) more = Some (record { extent = found.extent; repeats = found.repeats || is_some more })

abbrev pub found_of : List ℕ → Option Found → Option (List Item × List ℕ) → Option (Option Found × List ℕ)
found_of name found r = option_map (λ p. (joined found (found_in name p.0), p.1)) r

-- the two quotation marks of a string
abbrev pub marks : Kind → ℕ
marks kind.String = 2
marks kind.Number = 0
marks kind.Other = 0

-- a value lies in a text of so many bytes
pub record IsWithin (whole : ℕ) (extent : Extent) : Type 0 where
  pub before : extent.before ≤ whole
  pub after : extent.after + marks extent.kind ≤ extent.before

abbrev pub AreWithin : ℕ → Option Found → Type 0
AreWithin whole None = Unit {0}
AreWithin whole (Some found) = IsWithin whole found.extent
