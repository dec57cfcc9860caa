-- How long an output can be.
use Rattle.std.proofs.Common.{ℕ, ◌*◌, ◌≤◌, Bool, true, false, cond, List, [], ◌∷◌, ◌++◌, length, arith, lit≤, length-append}
use Rattle.std.specs.Prelude.{codes, nat_lt}
use Rattle.std.specs.List.{flat_map}
use Rattle.instants_stream.specs.Lines.{but_last, last, if_nonempty, parts, whole_lines, last_part, lines}
use Rattle.instants_stream.specs.Answers.{answer_or_long, answered, output}
use Rattle.instants_stream.proofs.Lines.{weight, weight-parts}
use Rattle.instants_timeline.specs.Place.{Setting, answer_to}
use Rattle.instants_memory.specs.OutputFor.{IsOutputFor}
use Rattle.instants_memory.proofs.Short.{answer_short}

long_or_not : (b : Bool) (answer : List ℕ) → length answer ≤ 35 → length (cond b (codes "! long") answer ++ 10 ∷ []) ≤ 36
long_or_not true answer h = lit≤ tt
long_or_not false answer h = simp length-append (omega arith)

one_line : (setting : Setting) (limit : ℕ) (line : List ℕ) → length (answered (answer_to setting) limit line) ≤ 36
unfolding answered answer_or_long
one_line setting limit line = long_or_not (nat_lt limit (length line)) (answer_to setting line) (answer_short setting line)

all_lines : (setting : Setting) (limit : ℕ) (some : List (List ℕ)) → length (flat_map (answered (answer_to setting) limit) some) ≤ 36 * length some
all_lines setting limit [] = lit≤ tt
all_lines setting limit (line ∷ others) =
    let first = one_line setting limit line in
    let rest = all_lines setting limit others in
    simp length-append (omega (arith, first, rest))

-- at most 36 bytes a line
pub room_by_lines : (setting : Setting) (limit : ℕ) (stream : List ℕ) → length (output (answer_to setting) limit stream) ≤ 36 * length (lines stream)
unfolding output
room_by_lines setting limit stream = all_lines setting limit (lines stream)

nonempty_few : (p : List ℕ) → length (if_nonempty p) ≤ length p
nonempty_few [] = omega arith
nonempty_few (b ∷ p) = omega arith

parts_few : (ps : List (List ℕ)) → length (but_last ps ++ if_nonempty (last ps)) ≤ weight ps
parts_few [] = omega arith
parts_few (p ∷ []) = nonempty_few p
parts_few (p ∷ q ∷ ps) = omega (arith, parts_few (q ∷ ps))

-- a line has a byte at least, its line feed or one of its own
pub few_lines : (stream : List ℕ) → length (lines stream) ≤ length stream
unfolding lines whole_lines last_part
few_lines stream = let few = parts_few (parts stream) in omega (arith, few, weight-parts stream)

-- what words ask for has at most 36 bytes a line
pub room_of : {words : List (List ℕ)} {input bytes : List ℕ} → IsOutputFor words input bytes → length bytes ≤ 36 * length (lines input)
room_of {words} {input} is = rw is.is_output (room_by_lines is.setting is.limit input)
