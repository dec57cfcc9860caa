use Rattle.std.proofs.Common.{◌≡◌, length}
use Rattle.std.specs.Prelude.{bytes_eq}
use Rattle.std.specs.List.{list_any, range_with_len}
use Rattle.zones_clock.specs.Steps.{name_in}
use Rattle.zones_clock.proofs.NameLemmas.{any_from}
use Rattle.zones_clock.proofs.names.is_name_in.Given as goal

abbrev pub invariant-loop-place : goal.invariant-loop-place
invariant-loop-place l =
    list_any (λ place. bytes_eq (name_in l.letters place) l.word) (range_with_len 0 (length l.letters)) ≡ any_from (λ place. bytes_eq (name_in l.letters place) l.word) l.place (length l.letters)
