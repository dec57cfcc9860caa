-- Escapes in the part of a line.
use Rattle.std.proofs.Common.{◌≡◌, ◌<◌, ◌==◌, ℕ, List, length, Some}
use Rattle.std.specs.Prelude.{position}
use Rattle.std.proofs.lemmas.List.Quantifiers.{position-Some}

-- an escape that is found is there
pub escape_within : (text : List ℕ) (place : ℕ) → position (λ byte. byte == 92) text ≡ Some place → place < length text
escape_within text place e = (position-Some (λ byte. byte == 92) text place 0 e).0
