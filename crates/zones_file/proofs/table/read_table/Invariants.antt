use Rattle.std.proofs.Common.{◌≡◌, ◌-◌}
use Rattle.zones_file.specs.Table.{type_in, steps_in, letters_in}
use Rattle.zones_file.specs.Faults.{steps_fault, table_fault}
use Rattle.zones_file.proofs.table.read_table.Given as goal

abbrev pub invariant-loop-index : goal.invariant-loop-index
invariant-loop-index l = record {
  first : l.zone.first ≡ (type_in l.bytes l.layout 0).offset;
  first_name : l.zone.first_name ≡ (type_in l.bytes l.layout 0).name;
  steps : l.zone.steps.items ≡ steps_in l.bytes l.layout l.index;
  letters : l.zone.letters.items ≡ letters_in l.bytes l.layout;
  faults : table_fault l.bytes l.layout ≡ steps_fault l.bytes l.layout l.index (l.layout.step_count - l.index);
}
