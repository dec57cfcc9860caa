-- Footers, RFC 9636, section 3.3.
use Rattle.std.specs.Prelude.{ℕ, ◌==◌, List, [], ◌∷◌, ◌++◌, length, take, drop, position, Option, Some, None, option_map, if◌then◌else◌}
use Rattle.zones_rule.specs.declared.rule.Rule.{Rule}
use Rattle.zones_rule.specs.declared.rule.Names.{Names}
use Rattle.zones_rule.specs.Grammar.{rule_of}
use Rattle.zones_file.specs.declared.layout.Layout.{Layout}

-- a line feed, and what stands before the next
abbrev pub up_to_line_feed : List ℕ → Option (List ℕ)
up_to_line_feed bytes = option_map (λ length. take length bytes) (position (λ byte. byte == 10) bytes)

unfoldable pub line_of : List ℕ → Option (List ℕ)
line_of [] = None
line_of (byte ∷ bytes) = if byte == 10 then up_to_line_feed bytes else None

-- the text of the rule, which is empty where there is none, as in version 1
abbrev pub footer_text : List ℕ → Layout → Option (List ℕ)
footer_text bytes layout = if layout.time_size == 4 then Some [] else line_of (drop layout.end bytes)

-- its rule, and the names of standard and summer time
abbrev pub footer_of : Option (List ℕ) → Option (Rule × List ℕ × List ℕ)
footer_of None = None
footer_of (Some []) = None
footer_of (Some (byte ∷ text)) = rule_of (byte ∷ text)

abbrev pub footer_in : List ℕ → Layout → Option (Rule × List ℕ × List ℕ)
footer_in bytes layout = footer_of (footer_text bytes layout)

-- letters and after them a name, which a 0 ends
abbrev pub ended : List ℕ → List ℕ → List ℕ
ended letters name = letters ++ name ++ 0 ∷ []

-- where the names of a footer stand after letters
abbrev pub names_after : List ℕ → List ℕ → Names
names_after letters standard_name = record { standard = length letters; summer = length (ended letters standard_name) }
