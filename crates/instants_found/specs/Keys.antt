-- Bytes that stand at one place of each date of a source.
use Rattle.std.specs.Prelude.{◌≡◌, ◌<◌, ◌+◌, ◌==◌, ℕ, Bool, true, false, List, All, drop, get_or}
use Rattle.parsing_item_layouts.specs.FirstBytes.{rule_out}
use Rattle.parsing_item_layouts.specs.declared.first_bytes.FirstBytes.{FirstBytes}
use Rattle.instants_sources.specs.Grammar.{Grammar}
use Rattle.instants_prefixes.specs.NoPrefix.{HasNoPrefix}
use Rattle.instants_found.specs.declared.key.Key.{Key}
use Rattle.instants_found.specs.declared.keys.Keys.{Keys}
use Rattle.instants_found.specs.declared.keys.KeyedLine.{KeyedLine}

-- all of these are bytes
abbrev pub AreBytes : List ℕ → Type 0
AreBytes bytes = (k : ℕ) → get_or bytes k 0 < 256

-- a key stands after this place of a line
abbrev pub stands_at : Key → List ℕ → ℕ → Bool
stands_at key line place = get_or line (place + key.place) 0 == key.byte

-- these bytes begin with what has the key
abbrev pub has_key : Key → List ℕ → Bool
has_key key bytes = get_or bytes key.place 0 == key.byte

-- ---- of the first bytes of a description

-- lines with this byte at this place are ruled out
abbrev pub IsRuledOutAt : FirstBytes → ℕ → ℕ → Type 0
IsRuledOutAt first_bytes place byte = (line : List ℕ) → get_or line place 0 ≡ byte → rule_out first_bytes line ≡ true

-- so are lines without the key
abbrev pub IsKeyOf : FirstBytes → Key → Type 0
IsKeyOf first_bytes key = (line : List ℕ) → AreBytes line → has_key key line ≡ false → rule_out first_bytes line ≡ true

-- ---- of sources

-- a source reads no prefix without the key
abbrev pub NeedsKey : Key → Grammar → Type 0
NeedsKey key grammar = (bytes : List ℕ) → AreBytes bytes → has_key key bytes ≡ false → HasNoPrefix bytes grammar

-- nor one with neither of two keys, where each date has one
abbrev pub NeedsOne : Keys → Grammar → Type 0
NeedsOne keys grammar = (bytes : List ℕ) → AreBytes bytes → keys.keyless ≡ 0 → has_key keys.first bytes ≡ false → has_key keys.second bytes ≡ false → HasNoPrefix bytes grammar

-- neither of two keys stands after this place of a line, and each date has one
abbrev pub LacksKeys : Keys → List ℕ → ℕ → Type 0
LacksKeys keys line place = (keys.keyless ≡ 0) × (stands_at keys.first line place ≡ false) × (stands_at keys.second line place ≡ false)

-- a line from where each key stands
pub record IsKeyedBy (keys : Keys) (line : List ℕ) (keyed : KeyedLine) : Type 0 where
  pub first : keyed.first.now ≡ drop keys.first.place line
  pub second : keyed.second.now ≡ drop keys.second.place line

abbrev pub AreKeys : List Grammar → Keys → Type 0
AreKeys sources keys = All (NeedsOne keys) sources
