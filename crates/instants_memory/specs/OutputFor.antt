-- What words ask for an input.
use Rattle.std.specs.Prelude.{◌≡◌, ℕ, List}
use Rattle.instants_stream.specs.Answers.{output}
use Rattle.instants_timeline.specs.Place.{Setting, answer_to}
use Rattle.instants_timeline.specs.Program.{AsksFor}

-- the bytes are the output of the input for what the words ask
pub record IsOutputFor (words : List (List ℕ)) (input bytes : List ℕ) : Type 0 where
  pub setting : Setting
  pub limit : ℕ
  pub asks : AsksFor words setting limit
  pub is_output : bytes ≡ output (answer_to setting) limit input
