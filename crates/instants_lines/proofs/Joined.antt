-- Joined streams.
use Rattle.std.proofs.Common.{◌≡◌, ℕ, true, false, List, [], ◌++◌, Option, None, Some, refl, ap, ◌∙◌}
use Rattle.std.specs.Prelude.{if◌then◌else◌}
use Rattle.instants_prefixes.specs.declared.given.Given.{Given}
use Rattle.instants_prefixes.specs.declared.given.Years.{Years}
use Rattle.instants_prefixes.specs.declared.given.Years.TheVariants.{Unknown}
use Rattle.instants_found.specs.declared.found.Finding.{Finding}
use Rattle.instants_found.specs.declared.found.Finding.TheVariants.{Doubtful, There}
use Rattle.instants_stream.specs.Lines.{whole_lines, last_part}
use Rattle.instants_stream.specs.Steps.{after, output}
use Rattle.instants_stream.proofs.Written.{output-append}
use Rattle.instants_lines.specs.Going.{Going, below, finding_in, given_below, is_carry, is_explain, on_clock, years_below, next_in, lines_steps}
use Rattle.instants_lines.specs.Joining.{AreJoined}
use Rattle.instants_lines_words.specs.declared.mode.Mode.{Mode}
use Rattle.instants_lines_words.specs.declared.mode.Mode.TheVariants.{Carry, Explain}
use Rattle.instants_lines.proofs.States.{after_lines}

pub joined : (going : Going) (limit : ℕ) (first second : List ℕ) → last_part first ≡ [] → AreJoined going (after lines_steps limit going (whole_lines first)) limit first second
joined going limit first second ended = output-append Going lines_steps limit going first second ended

-- ---- lines that change nothing

-- where no year is given none is kept
pub given_stays : (given : Given) (o : Option Finding) → given.years ≡ Unknown → given_below given o ≡ given
given_stays given None e = refl
given_stays given (Some (Doubtful place)) e = refl
given_stays given (Some (There date)) e =
    let same : years_below given.years (on_clock given.zone date.moment) ≡ given.years = rw e refl in
    ap (λ (years : Years). record given { years = years }) same

-- no line changes what is kept
abbrev Keeps : Going → Type 0
Keeps going = (line : List ℕ) → next_in going.mode going line ≡ going

not_carried : (mode : Mode) → (mode ≡ Carry → ⊥) → is_carry mode ≡ false
not_carried Carry other = absurd (other refl)
not_carried mode other = refl

keeps : (going : Going) → (going.mode ≡ Carry → ⊥) → going.search.given.years ≡ Unknown → Keeps going
keeps going other e line =
    elim (is_explain going.mode) as (λ explains. (if explains then going else below going line) ≡ going) [
      | true ↦ refl
      | false ↦ rw (given_stays going.search.given (finding_in going line) e, not_carried going.mode other) refl
    ]

joined_kept : (going : Going) (limit : ℕ) → Keeps going → (first second : List ℕ) → last_part first ≡ [] → AreJoined going going limit first second
joined_kept going limit keep first second ended =
    joined going limit first second ended
    ∙ ap (λ (state : Going). output lines_steps going limit first ++ output lines_steps state limit second)
    (after_lines (λ state. state ≡ going) (λ state line e. ap (λ (one : Going). next_in one.mode one line) e ∙ keep line) limit going (whole_lines first) refl)

pub joined_others : (going : Going) (limit : ℕ) (first second : List ℕ) → (going.mode ≡ Carry → ⊥) → going.search.given.years ≡ Unknown → last_part first ≡ [] → AreJoined going going limit first second
joined_others going limit first second other e ended = joined_kept going limit (keeps going other e) first second ended

pub joined_explained : (going : Going) (limit : ℕ) (first second : List ℕ) → going.mode ≡ Explain → last_part first ≡ [] → AreJoined going going limit first second
joined_explained going limit first second e ended = joined_kept going limit (λ line. rw e refl) first second ended
