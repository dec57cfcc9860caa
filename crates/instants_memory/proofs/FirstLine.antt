-- Whether bytes have lines.
use Rattle.std.proofs.Common.{◌≡◌, ℕ, ◌<◌, lit≤, List, [], ◌∷◌, ◌++◌, length, arith}
use Rattle.instants_stream.specs.Lines.{but_last, last, if_nonempty, parts, whole_lines, last_part, lines}
use Rattle.instants_stream.proofs.Lines.{parts_nonempty, weight, weight-parts}
use Rattle.instants_stream.proofs.NextAnswer.{no_line}

pub no_line_of : (bytes : List ℕ) → length bytes ≡ 0 → lines bytes ≡ []
no_line_of [] none = no_line
no_line_of (b ∷ bytes) none = absurd (omega (arith, none))

some_of : (ps : List (List ℕ)) → 0 < length ps → 0 < weight ps → 0 < length (but_last ps ++ if_nonempty (last ps))
some_of [] some bytes = absurd (omega (arith, some))
some_of ([] ∷ []) some bytes = absurd (omega (arith, bytes))
some_of ((b ∷ p) ∷ []) some bytes = lit≤ tt
some_of (p ∷ q ∷ ps) some bytes = omega arith

-- bytes have a line
pub some_line : (bytes : List ℕ) → 0 < length bytes → 0 < length (lines bytes)
unfolding lines whole_lines last_part
some_line bytes some = some_of (parts bytes) (parts_nonempty bytes) (rw (weight-parts bytes) some)
