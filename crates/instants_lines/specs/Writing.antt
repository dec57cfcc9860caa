-- What a writer of lines goes on with, and what is written for words.
use Rattle.std.specs.Prelude.{ℕ, option_map}
use Rattle.instants_stream.specs.Steps.{by_steps}
use Rattle.instants_stream.specs.Writing.{Writing}
use Rattle.instants_lines.specs.Showing.{given_of, part_in, search_in}
use Rattle.instants_lines.specs.Going.{Going, lines_steps, reach}
use Rattle.instants_lines.specs.Opened.{begins_in}
use Rattle.instants_lines.specs.declared.line_writer.LineWriter.{LineWriter}
use Rattle.instants_lines.specs.declared.program.LinesAsked.{LinesAsked}

abbrev pub going_of : LineWriter → Going
going_of writer = record { mode = writer.mode; search = search_in writer.dates.now (given_of writer.known writer.zone); label = option_map (λ text. text.now) writer.label; key = writer.key; indent = writer.indent }

-- what is written as words ask, where there is room for lines of so many bytes
abbrev pub writing_for : LinesAsked → ℕ → Writing
writing_for asked most = by_steps lines_steps (begins_in asked.lines.now asked.zone) (reach asked.lines.now.mode (part_in asked.lines.now.dates) most)
