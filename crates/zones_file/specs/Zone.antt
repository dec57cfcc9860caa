-- The zone of a file, RFC 9636: its table, and after it what its footer's rule gives.
use Rattle.std.specs.Prelude.{ℕ, zero, suc, ℤ, negsuc, List, ◌++◌, length, Option, Some, None}
use Rattle.zones_clock.specs.declared.zone.Step.{Step}
use Rattle.zones_clock.specs.Steps.{step_at}
use Rattle.zones_rule.specs.declared.rule.Rule.{Rule}
use Rattle.zones_rule.specs.Transitions.{FollowsFrom, steps_after}
use Rattle.zones_file.specs.declared.table.LocalType.{LocalType}
use Rattle.zones_file.specs.Layout.{data_layout}
use Rattle.zones_file.specs.Table.{type_in, steps_in, letters_in}
use Rattle.zones_file.specs.Footer.{footer_in, ended, names_after}

-- the instant after which the footer's rule holds: that of the last of so many transitions, or where there is none the earliest (section 3.3)
abbrev pub moment_after : List Step → ℕ → ℤ
moment_after steps zero = negsuc 9_223_372_036_854_775_807
moment_after steps (suc count) = (step_at steps count).from

abbrev pub last_moment : List Step → ℤ
last_moment steps = moment_after steps (length steps)

-- with what a rule gives
abbrev pub steps_with : List Step → List ℕ → Option (Rule × List ℕ × List ℕ) → List Step
steps_with steps letters None = steps
steps_with steps letters (Some (rule, standard, summer)) = steps ++ steps_after rule (names_after letters standard) (last_moment steps)

abbrev pub letters_with : List ℕ → Option (Rule × List ℕ × List ℕ) → List ℕ
letters_with letters None = letters
letters_with letters (Some (rule, standard, summer)) = ended (ended letters standard) summer

-- the parts of the block that counts, and the zone's
abbrev pub first_type : List ℕ → LocalType
first_type bytes = type_in bytes (data_layout bytes) 0

abbrev pub table_steps : List ℕ → List Step
table_steps bytes = steps_in bytes (data_layout bytes) (data_layout bytes).step_count

abbrev pub table_letters : List ℕ → List ℕ
table_letters bytes = letters_in bytes (data_layout bytes)

abbrev pub footer_of_file : List ℕ → Option (Rule × List ℕ × List ℕ)
footer_of_file bytes = footer_in bytes (data_layout bytes)

abbrev pub zone_steps : List ℕ → List Step
zone_steps bytes = steps_with (table_steps bytes) (table_letters bytes) (footer_of_file bytes)

abbrev pub zone_letters : List ℕ → List ℕ
zone_letters bytes = letters_with (table_letters bytes) (footer_of_file bytes)

-- from that instant on the clock follows the footer's rule, if there is one
abbrev pub FollowsFooter : Option (Rule × List ℕ × List ℕ) → ℤ → ℤ → List Step → Type 0
FollowsFooter None from first steps = Unit {0}
FollowsFooter (Some (rule, standard, summer)) from first steps = FollowsFrom rule from first steps
