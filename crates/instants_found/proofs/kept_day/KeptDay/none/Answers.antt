use Rattle.std.proofs.Common.{◌≡◌, Option, Some, None, refl, arith}
use Rattle.std.specs.Borrow.{Bor}
use Rattle.zones_clock.specs.declared.zone.Zone.{Zone}
use Rattle.instants_found.specs.KeptDays.{IsKept}
use Rattle.instants_found.specs.declared.kept_day.KeptDay.{KeptDay}
use Rattle.instants_found.proofs.kept_day.KeptDay.none.Goals as goal

no-day : (zone : Option (Bor Zone)) (kept : KeptDay) → kept.day ≡ 0 → IsKept zone kept
no-day None kept none = tt
no-day (Some zone) kept none = λ f small on. absurd (omega (arith, f.day_is_there, on.2, none))

pub returns : goal.returns
returns c = λ zone. no-day zone _ refl
