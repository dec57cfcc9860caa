-- The members of a line that is one object.
use Rattle.std.specs.Prelude.{ℕ, ◌+◌, ◌-◌, ◌&&◌, Bool, true, false, List, [], ◌∷◌, length, take, drop, filter, Option, Some, None, if◌then◌else◌}
use Rattle.std.specs.List.{list_all}
use Rattle.instants_fields.specs.Pieces.{Piece, ◌>>◌, byte}
use Rattle.instants_fields.specs.Strings.{is_text}
use Rattle.instants_fields.specs.Json.{is_space, space, Item, items, value}
use Rattle.instants_fields.specs.declared.value.Kind.{Kind}
use Rattle.instants_fields.specs.declared.value.Kind.TheVariants as kind
use Rattle.instants_fields.specs.declared.json.Found.{Found}
use Rattle.instants_fields.specs.declared.json.Member.{Member}

abbrev pub has_name : List ℕ → Item → Bool
has_name name one = is_text name one.name

-- the first of some items, and whether there are others
abbrev pub first_of_all : List Item → Option Found
first_of_all [] = None
first_of_all (one ∷ []) = Some (record { extent = one.extent; repeats = false })
first_of_all (one ∷ other ∷ more) = Some (record { extent = one.extent; repeats = true })

abbrev pub found_in : List ℕ → List Item → Option Found
found_in name all = first_of_all (filter (has_name name) all)

-- an object of at most 127 levels, with white space before it
unfoldable pub object : Piece (List Item)
object = do
  space
  byte 123
  items true (value 126)

-- where the value of a member lies, by how many bytes of the line are left there: a string without its quotation marks, or a number
abbrev pub place_of : ℕ → Kind → Found → Option Member
place_of whole kind.String found = Some (record { start = whole - found.extent.before + 1; end = whole - found.extent.after - 1; repeats = found.repeats })
place_of whole kind.Number found = Some (record { start = whole - found.extent.before; end = whole - found.extent.after; repeats = found.repeats })
place_of whole kind.Other found = None

abbrev pub place_in : ℕ → Option Found → Option Member
place_in whole None = None
place_in whole (Some found) = place_of whole found.extent.kind found

-- the line's first bytes, in which the object has to end
abbrev pub longest : ℕ
longest = 1_048_576

abbrev pub member_in : List ℕ → List ℕ → Option (List Item × List ℕ) → Option Member
member_in line name None = None
member_in line name (Some (all, rest)) =
    if list_all is_space rest && list_all is_space (drop longest line) then place_in (length (take longest line)) (found_in name all) else None

unfoldable pub member_of : List ℕ → List ℕ → Option Member
member_of line name = member_in line name (object (take longest line))
