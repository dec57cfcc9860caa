-- What is read by a plan.
use Rattle.std.proofs.Common.{◌≡◌, ℕ, List, Option, Some, None, Ok, refl, ℤ}
use Rattle.std.specs.Prelude.{IfSome}
use Rattle.parsing_values.specs.Moment.{moment_of}
use Rattle.parsing_values.specs.declared.fields.Fields.{Fields}
use Rattle.parsing_components.specs.Prefix.{NamesWhole}
use Rattle.parsing_plan.specs.Places.{ArePlacesOf, IsUnixTimeOf}
use Rattle.parsing_plan.specs.declared.places.Places.{Places}
use Rattle.parsing_plan.specs.Plan.{IsPlanOf}
use Rattle.parsing_record.specs.Prefix.{beginning}
use Rattle.parsing_plan.specs.declared.plan.Plan.{Plan}
use Rattle.parsing_plan.specs.declared.plan.Plan.TheVariants as plan
use Rattle.parsing_plan.specs.declared.unix.UnixTime.{UnixTime}
use Rattle.parsing_record.specs.Whole.{starting}
use Rattle.instants_sources.specs.Grammar.{Grammar, Described}
use Rattle.instants_sources.specs.Named.{defaults_of, named}
use Rattle.instants_sources.specs.Planned.{IsPlanned}
use Rattle.instants_sources.specs.Written.{reads_written}

pub beginning_of : (assumed : Option ℤ) → starting (defaults_of assumed) ≡ beginning assumed
beginning_of None = refl
beginning_of (Some offset) = refl

-- what a plan finds is what the description names
pub planned_named : (grammar : Grammar) (plan : Plan) (line : List ℕ) (assumed : Option ℤ) (result : Option Fields) → IsPlanned grammar plan
    → NamesWhole (λ m. IsPlanOf m plan) line assumed result → IfSome result (λ f. named assumed grammar line ≡ Ok (moment_of f))
planned_named (Described written) plan line assumed result is read = read (reads_written written) (defaults_of assumed) is (beginning_of assumed)
planned_named grammar plan line assumed result is read = absurd is

-- what places, or Unix time alone, find
pub places_named : (grammar : Grammar) (places : Places) (line : List ℕ) (assumed : Option ℤ) (result : Option Fields) → IsPlanned grammar (plan.Places places)
    → NamesWhole (λ m. ArePlacesOf m places) line assumed result → IfSome result (λ f. named assumed grammar line ≡ Ok (moment_of f))
places_named grammar places line assumed result is read = planned_named grammar (plan.Places places) line assumed result is (λ m defaults of starts. read m defaults (of.0 places refl) starts)

pub unix_named : (grammar : Grammar) (unix : UnixTime) (line : List ℕ) (assumed : Option ℤ) (result : Option Fields) → IsPlanned grammar (plan.Unix unix)
    → ((assumed : Option ℤ) → NamesWhole (λ m. IsUnixTimeOf m unix) line assumed result) → IfSome result (λ f. named assumed grammar line ≡ Ok (moment_of f))
unix_named grammar unix line assumed result is read = planned_named grammar (plan.Unix unix) line assumed result is (λ m defaults of starts. read assumed m defaults (of.1 unix refl) starts)
