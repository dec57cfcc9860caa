use Rattle.std.proofs.Common.{◌≡◌, ◌≤◌, ◌+◌, length}
use Rattle.instants_guess.specs.Candidate.{lines_with}
use Rattle.instants_guess.specs.Tallies.{is_dated, is_doubtful, is_unwritten, most}
use Rattle.instants_guess.proofs.candidate.Candidate.tally.Given as goal

-- what was counted, and what is left to count, are all
abbrev pub invariant-loop-rest : goal.invariant-loop-rest
invariant-loop-rest l = record {
  dated : lines_with is_dated l.self l.fn.text ≡ l.tally.dated + lines_with is_dated l.self l.rest;
  doubtful : lines_with is_doubtful l.self l.fn.text ≡ l.tally.doubtful + lines_with is_doubtful l.self l.rest;
  unwritten : lines_with is_unwritten l.self l.fn.text ≡ l.tally.unwritten + lines_with is_unwritten l.self l.rest;
  few : l.tally.dated + l.tally.doubtful + l.tally.unwritten + length l.rest ≤ most;
}

abbrev pub decreases-loop-rest : goal.decreases-loop-rest
decreases-loop-rest l = length l.rest
