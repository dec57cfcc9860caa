-- What is written in modes with keys, line by line.
use Rattle.std.proofs.Common.{◌≡◌, true, List, [], ◌∷◌, ◌++◌, ℕ, refl, ap, ◌∙◌, inl, inr}
use Rattle.base.specs.Bytes.{line_feed}
use Rattle.instants_stream.specs.Lines.{lines}
use Rattle.instants_stream.specs.Steps.{output, written}
use Rattle.instants_lines.specs.Below.{keyed_all}
use Rattle.instants_lines.specs.Going.{Going, IsKeyed, below, has_keys, keyed, near, lines_steps}
use Rattle.instants_lines_words.specs.declared.mode.Mode.{Mode}
use Rattle.instants_lines_words.specs.declared.mode.Mode.TheVariants.{Key, Carry, Replace, Explain, Locate}
use Rattle.instants_lines.proofs.Handed.{handed_said, handed_next}
use Rattle.instants_lines.proofs.WithoutKeys.{not_explained, output_is, text_of}

is_keyed : (mode : Mode) → has_keys mode ≡ true → IsKeyed mode
is_keyed Key e = inl refl
is_keyed Carry e = inr refl
is_keyed Replace e = absurd cc
is_keyed Explain e = absurd cc
is_keyed Locate e = absurd cc

written_keyed : (going : Going) → IsKeyed going.mode → (some : List (List ℕ)) → written lines_steps (near going.mode going.search) going some ≡ keyed_all going some
unfolding written keyed_all
written_keyed going keys [] = refl
written_keyed going keys (line ∷ others) =
    let hands = not_explained going.mode keys in
    rw (handed_said going line hands, handed_next going line hands, text_of going.mode keys going line)
    (ap (λ (l : List ℕ). (keyed going line ++ line_feed ∷ []) ++ l) (written_keyed (below going line) keys others))

-- the output of the program
pub keyed_output : (going : Going) (stream : List ℕ) → has_keys going.mode ≡ true → output lines_steps going (near going.mode going.search) stream ≡ keyed_all going (lines stream)
keyed_output going stream e =
    let keys = is_keyed going.mode e in
    output_is (near going.mode going.search) going keys stream ∙ written_keyed going keys (lines stream)
