-- The modes by their names.
use Rattle.std.specs.Prelude.{ℕ, List, Option, None, Some, codes, if◌then◌else◌}
use Rattle.std.specs.Str.{bytes_eq}
use Rattle.instants_lines_words.specs.declared.mode.Mode.{Mode}
use Rattle.instants_lines_words.specs.declared.mode.Mode.TheVariants.{Key, Carry, Replace, Explain, Locate}

abbrev pub mode_said : List ℕ → Option Mode
mode_said word =
    if bytes_eq word (codes "key") then Some Key
    else if bytes_eq word (codes "carry") then Some Carry
    else if bytes_eq word (codes "replace") then Some Replace
    else if bytes_eq word (codes "explain") then Some Explain
    else if bytes_eq word (codes "locate") then Some Locate
    else None
