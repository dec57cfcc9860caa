use Rattle.std.proofs.Common.{sym, ◌∙◌, ap, option_map}
use Rattle.std.specs.List.{find}
use Rattle.instants_formats.specs.Format.{format_said}
use Rattle.instants_formats.specs.Named.{has_name}
use Rattle.instants_formats.proofs.Finding.{find-map, option_map-map}
use Rattle.instants_formats.proofs.named.format_named.Goals as goal

pub returns : goal.returns
returns c =
    option_map-map (λ f. f.now) format_said _ ∙ (ap (option_map format_said) c.first_named.ensures ∙ (sym (find-map format_said (has_name c.args.name.now) _) ∙ ap (find (has_name c.args.name.now)) c.formats.ensures))
