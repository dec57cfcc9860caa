use Rattle.instants_lines_words.proofs.ZoneNames.{decides}
use Rattle.instants_lines_words.proofs.laws.zones_by_name.Goals as goal

pub returns : goal.returns
returns c = decides
