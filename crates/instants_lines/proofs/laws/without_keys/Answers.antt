use Rattle.std.proofs.Common.{refl}
use Rattle.instants_lines.specs.Going.{beginning}
use Rattle.instants_lines.proofs.WithoutKeys.{without_keys}
use Rattle.instants_lines.proofs.laws.without_keys.Goals as goal

pub returns : goal.returns
returns c = record {
  from_beginning = λ mode label search stream keyed is_label. without_keys (beginning mode label search) stream keyed is_label refl;
  from_anywhere = λ going stream keyed is_label is. without_keys going stream keyed is_label is;
}
