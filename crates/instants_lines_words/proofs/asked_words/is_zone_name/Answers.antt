use Rattle.std.proofs.Common.{◌∙◌, ap}
use Rattle.instants_lines_words.specs.Words.{is_zone_name}
use Rattle.instants_lines_words.proofs.ZoneNames.{same_test}
use Rattle.instants_lines_words.proofs.asked_words.is_zone_name.Goals as goal

pub returns : goal.returns
returns c = same_test c.as_bytes.result.now c.is_zone_name.result c.is_zone_name.ensures ∙ ap is_zone_name c.as_bytes.ensures.value
