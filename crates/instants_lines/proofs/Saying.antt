-- What words ask for that are accepted, by those of `instants` that stand for them.
use Rattle.std.proofs.Common.{◌≡◌, ℕ, List, Result, Ok, Err, refl, sym, ap, ◌∙◌}
use Rattle.std.specs.Prelude.{None, Some, Option, is_some}
use Rattle.std.specs.Borrow.{Bor}
use Rattle.zones_clock.specs.declared.zone.Zone.{Zone}
use Rattle.instants_prefixes.specs.declared.given.Given.{Given}
use Rattle.instants_words.specs.Words.{words_said}
use Rattle.instants_words.specs.declared.words.Words.{Words}
use Rattle.instants_timeline.specs.Place.{Setting}
use Rattle.instants_timeline.specs.Program as instants
use Rattle.instants_lines_words.specs.Asked.{Asking}
use Rattle.instants_lines_words.specs.Words.{mode_words_said}
use Rattle.instants_lines.specs.Asked.{begins_by, given_by, zone_lacking}
use Rattle.instants_lines.specs.Dates.{Search}
use Rattle.instants_lines.specs.Program.{AsksFor}
use Rattle.instants_lines.specs.Showing.{limit_in, part_in, search_in, setting_in}
use Rattle.instants_lines_words.specs.Part.{PartSaid}
use Rattle.instants_lines.specs.declared.date_sources.DateSources.{DateSources}

-- what they ask for
pub asks_so : (said others : List (List ℕ)) (asked : Asking) (right : Words) → words_said others ≡ Ok right → mode_words_said said ≡ Ok (asked, right)
    → (zone : Option (Bor Zone)) → zone_lacking asked.zone zone ≡ None → (setting : Setting) (limit : ℕ) → instants.AsksFor others setting limit → AsksFor said zone (begins_by asked zone setting limit)
asks_so said others asked right theirs own zone has setting limit a =
    let same : Ok right ≡ Ok a.said = sym theirs ∙ a.is_said in
    let words : right ≡ a.said = cc in
    record {
      asked = asked;
      said = a.said;
      is_said = own ∙ ap (λ words. Ok (asked, words)) words;
      setting = setting;
      asks = a.asks;
      has_zone = has;
      begins = ap (begins_by asked zone setting) a.limit_is;
    }

module _ (asked : Asking) (zone : Option (Bor Zone)) (setting : Setting) (limit : ℕ) where
  -- what dates are looked for by
  pub same_search : (dates : DateSources) (given : Given) → setting_in dates ≡ setting → part_in dates ≡ asked.part → limit_in dates ≡ limit → given ≡ given_by asked zone setting → search_in dates given ≡ (begins_by asked zone setting limit).search
  same_search dates given s p l g =
      ap (λ (one : Setting). record { setting = one; part = part_in dates; limit = limit_in dates; given = given }) s
      ∙ ap (λ (one : Option PartSaid). record { setting = setting; part = one; limit = limit_in dates; given = given }) p
      ∙ ap (λ (one : ℕ). record { setting = setting; part = asked.part; limit = one; given = given }) l
      ∙ ap (λ (one : Given). record { setting = setting; part = asked.part; limit = limit; given = one }) g

-- a zone is there also by another reference
pub still_there : (name : Option (List ℕ)) (one other : Option (Bor Zone)) → is_some one ≡ is_some other → zone_lacking name other ≡ None → zone_lacking name one ≡ None
still_there None one other alike none = refl
still_there (Some name) (Some one) other alike none = refl
still_there (Some name) None None alike none = none
still_there (Some name) None (Some other) alike none = absurd cc
