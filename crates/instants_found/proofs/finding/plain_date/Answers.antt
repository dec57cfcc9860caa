use Rattle.std.proofs.Common.{◌≡◌, Bool, true, Some, None, refl, sym, ap, ◌∙◌}
use Rattle.std.specs.Prelude.{option_map, if◌then◌else◌}
use Rattle.std.specs.Option.{is_none}
use Rattle.instants_prefixes.specs.DateSource.{grammar_in}
use Rattle.instants_found.specs.Beside.{settled_at, why}
use Rattle.instants_found.specs.declared.zoned.Settled.{Settled}
use Rattle.instants_found.specs.Candidate.{as_candidate, found_at}
use Rattle.instants_found.specs.Found.{finding}
use Rattle.instants_found.specs.declared.found.Found.{Found}
use Rattle.instants_found.specs.declared.found.Finding.TheVariants.{Doubtful, There}
use Rattle.instants_found.proofs.Needless.{nothing_why}
use Rattle.instants_found.proofs.ReadAt.{by_read}
use Rattle.instants_prefixes.specs.Given.{nothing}
use Rattle.instants_found.proofs.finding.plain_date.Goals as goal

pub returns : goal.returns
returns c =
    let line = c.args.line.now in
    let start = c.args.start in
    let grammar = grammar_in c.args.source.now in
    let prefix = c.in-Some.prefix in
    let date : Settled = record { prefix = prefix; offset = None; doubt = None } in
    let settles : date ≡ settled_at nothing grammar line start prefix = refl in
    let whole : is_none (why nothing grammar line start date) ≡ true =
    ap is_none (sym (nothing_why nothing grammar line start date c.in-None.ensures refl refl refl refl)) in
    ap (λ (d : Found). Some (There d)) c.found_at.ensures
    ∙ ap (λ (b : Bool). Some (if b then There (found_at start c.args.number prefix) else Doubtful start)) (sym whole)
    ∙ ap (λ (d : Settled). option_map (finding start) (Some (as_candidate nothing line start c.args.number grammar d))) settles
    ∙ ap (option_map (finding start)) (by_read nothing line start c.args.number grammar prefix true (rw c.after.ensures at c.in-Some.ensures.prefix) (sym c.if-not-is_read.false ∙ c.is_read.ensures))
