-- What stands beside the part of a line changes no key.
use Rattle.std.proofs.Common.{◌≡◌, ◌+◌, ℕ, Bool, true, false, List, Option, None, Some, refl, sym, ap, subst, ◌∙◌}
use Rattle.std.specs.Prelude.{if◌then◌else◌, option_map}
use Rattle.instants_fields.specs.declared.json.Member.{Member}
use Rattle.instants_found.specs.declared.found.Found.{Found}
use Rattle.instants_found.specs.declared.found.Finding.{Finding}
use Rattle.instants_found.specs.declared.found.Finding.TheVariants.{Doubtful, There}
use Rattle.instants_timeline.specs.Place.{Setting}
use Rattle.instants_lines.specs.Dates.{Search, date_at, date_by, date_in, found_by, key_or, place_of_date}
use Rattle.instants_lines.specs.Going.{Going, goes_on, key_of_line}
use Rattle.instants_lines.specs.Parts.{PartSaid, found_at, has_escape, moved, place_of_part, text_at, text_of_part}

-- what is found of a date in a part that begins there
abbrev found_so : ℕ → Found → Bool → Finding
found_so at date escaped = if escaped then Doubtful (at + date.start) else There (moved at date)

module _ (setting : Setting) (key : List ℕ) (one two : ℕ) where
  -- where a part begins is not asked for
  same_so : (date : Found) (escaped : Bool) → key_or setting key (Some (found_so one date escaped)) ≡ key_or setting key (Some (found_so two date escaped))
  unfolding place_of_date
  same_so date true = refl
  same_so date false = refl

  same_found : (part : PartSaid) (text : List ℕ) (found : Option Finding)
      → key_or setting key (found_at one part text found) ≡ key_or setting key (found_at two part text found)
  same_found part text None = refl
  same_found part text (Some (Doubtful place)) = refl
  same_found part text (Some (There date)) = same_so date (has_escape part text date)

module _ (search : Search) (key : List ℕ) (part : PartSaid) (one two : List ℕ) where
  abbrev key_at : List ℕ → Option Member → List ℕ
  key_at line place = key_or search.setting key (date_at search part line place)

  abbrev text_there : List ℕ → Option Member → Option (List ℕ)
  text_there line place = option_map (λ there. text_at there line) place

  same_at : (here there : Option Member) → text_there one here ≡ text_there two there → key_at one here ≡ key_at two there
  same_at None None e = refl
  same_at None (Some there) e = absurd cc
  same_at (Some here) None e = absurd cc
  same_at (Some here) (Some there) e =
      let same : text_at here one ≡ text_at there two = cc in
      same_found search.setting key here.start there.start part (text_at here one) (found_by search (text_at here one))
      ∙ ap (λ (text : List ℕ). key_or search.setting key (found_at there.start part text (found_by search text))) same

  same_date : search.part ≡ Some part → text_of_part part one ≡ text_of_part part two
      → key_or search.setting key (date_in search one) ≡ key_or search.setting key (date_in search two)
  same_date e same =
      let P : Option PartSaid → Type 0 = λ its. key_or search.setting key (date_by search one its) ≡ key_or search.setting key (date_by search two its) in
      subst P (sym e) (same_at (place_of_part part one) (place_of_part part two) same)

abbrev key_if : Going → Bool → List ℕ → List ℕ
key_if going goes line = key_or going.search.setting going.key (if goes then None else date_in going.search line)

pub same_key : (going : Going) (part : PartSaid) (one other : List ℕ) → going.search.part ≡ Some part → text_of_part part one ≡ text_of_part part other
    → goes_on going.mode going.indent one ≡ goes_on going.mode going.indent other → key_of_line going one ≡ key_of_line going other
same_key going part one other e same on =
    ap (λ (goes : Bool). key_if going goes one) on
    ∙ elim (goes_on going.mode going.indent other) as (λ goes. key_if going goes one ≡ key_if going goes other) [
      | true ↦ refl
      | false ↦ same_date going.search going.key part one other e same
    ]
