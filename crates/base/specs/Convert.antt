-- Values made of others, and taken apart again.
use Rattle.std.specs.Prelude.{◌≡◌, Result, Ok, Err}

-- what the value was made of, or that it was not made so
abbrev pub GivesBack : {X Y E : Type 0} → (X → Y) → Y → Result X E → Type 0
GivesBack make y (Ok x) = y ≡ make x
GivesBack {X} make y (Err e) = (x : X) → y ≡ make x → ⊥
