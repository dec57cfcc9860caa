-- Where each line is answered by itself, what is written is the answers.
use Rattle.std.proofs.Common.{◌≡◌, ℕ, Bool, true, false, List, [], ◌∷◌, ◌++◌, length, nat_lt, if◌then◌else◌, codes, refl, sym, ap, arith, append-nil}
use Rattle.std.specs.List.{flat_map}
use Rattle.std.proofs.lemmas.List.Concat.{flat_map-append}
use Rattle.instants_stream.specs.Lines.{if_nonempty, lines, whole_lines, last_part}
use Rattle.instants_stream.specs.Answers.{answer_or_long, answered, by_answers}
use Rattle.instants_stream.specs.Answers as answers
use Rattle.instants_stream.specs.Answering.{answering}
use Rattle.instants_stream.specs.Steps.{opened, line_said, line_next, written, after, if_any, state_within, part_said, last_part_said, output, owed, by_steps}
use Rattle.instants_stream.proofs.Written.{is_no_longer}

said_or_long : (answer : List ℕ → List ℕ) (is_long : Bool) (line : List ℕ) → (if is_long then codes "! long" ++ 10 ∷ [] else (answer line ++ 10 ∷ [])) ≡ answer_or_long answer is_long line
unfolding answer_or_long
said_or_long answer true line = refl
said_or_long answer false line = refl

last_or_long : (answer : List ℕ → List ℕ) (limit : ℕ) (is_long : Bool) (line : List ℕ) → is_long ≡ nat_lt limit (length line) → (if is_long then codes "! long" ++ 10 ∷ [] else if_any line (answer line ++ 10 ∷ [])) ≡ flat_map (answered answer limit) (if_nonempty line)
unfolding answer_or_long answered
last_or_long answer limit true [] e = let fits = is_no_longer limit 0 (omega arith) in absurd cc
last_or_long answer limit false [] e = refl
last_or_long answer limit true (b ∷ line) e = rw (← e) (sym (append-nil _))
last_or_long answer limit false (b ∷ line) e = rw (← e) (sym (append-nil _))

same : {A : Type 0} {x : A} (is_long : Bool) → (if is_long then x else x) ≡ x
same true = refl
same false = refl

module _ (answer : List ℕ → List ℕ) (limit : ℕ) where
  line_said-is : (line : List ℕ) → line_said answering limit answer line ≡ answered answer limit line
  unfolding line_said opened answered
  line_said-is line = said_or_long answer (nat_lt limit (length line)) line

  line_next-is : (line : List ℕ) → line_next answering limit answer line ≡ answer
  unfolding line_next state_within
  line_next-is line = same (nat_lt limit (length line))

  written-answered : (some : List (List ℕ)) → written answering limit answer some ≡ flat_map (answered answer limit) some
  unfolding written
  written-answered [] = refl
  written-answered (line ∷ others) = rw (line_said-is line, line_next-is line) (ap (λ (l : List ℕ). answered answer limit line ++ l) (written-answered others))

  after-answered : (some : List (List ℕ)) → after answering limit answer some ≡ answer
  unfolding after
  after-answered [] = refl
  after-answered (line ∷ others) = rw (line_next-is line) (after-answered others)

  last-answered : (part : List ℕ) → last_part_said answering limit answer part ≡ flat_map (answered answer limit) (if_nonempty part)
  unfolding last_part_said opened
  last-answered part = last_or_long answer limit (nat_lt limit (length part)) part refl

  part-answered : (part : List ℕ) → part_said answering limit answer part ≡ []
  unfolding part_said opened
  part-answered part = same (nat_lt limit (length part))

  output-answered : (stream : List ℕ) → output answering answer limit stream ≡ answers.output answer limit stream
  unfolding output answers.output lines
  output-answered stream =
      rw (written-answered (whole_lines stream), after-answered (whole_lines stream), last-answered (last_part stream)) (sym (flat_map-append (answered answer limit) (whole_lines stream) (if_nonempty (last_part stream))))

  owed-answered : (bytes : List ℕ) → owed answering answer limit bytes ≡ answers.owed answer limit bytes
  unfolding owed answers.owed
  owed-answered bytes =
      rw (after-answered (whole_lines bytes), part-answered (last_part bytes), written-answered (whole_lines bytes)) (append-nil (flat_map (answered answer limit) (whole_lines bytes)))

  pub same_writing : by_steps answering answer limit ≡ by_answers answer limit
  same_writing = λ i. record { output = λ stream. output-answered stream i; owed = λ bytes. owed-answered bytes i }
