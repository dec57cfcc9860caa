use Rattle.std.proofs.Common.{◌≡◌, ◌≤◌, ◌+◌, [], ◌∷◌, ◌++◌, length, List, ℕ, arith}
use Rattle.std.proofs.lemmas.List.{length-append}
use Rattle.base.specs.Bytes.{tab}
use Rattle.instants_lines.specs.Going.{label_prefix}
use Rattle.instants_lines.specs.Writing.{going_of}
use Rattle.instants_lines.proofs.Keyed.{key_and_tab}
use Rattle.instants_lines.proofs.line_writer.LineWriter.write_undated.Goals as goal

-- which has room
room : (key tabbed : List ℕ) → tabbed ≡ key ++ tab ∷ [] → length key ≤ 63 → length tabbed ≤ 64
room key tabbed is few =
    let long : length (key ++ tab ∷ []) ≡ length key + 1 = length-append key (tab ∷ []) in
    rw is (omega (arith, long, few))

pub write_keyed-requires-clause-room : goal.write_keyed-requires-clause-room
write_keyed-requires-clause-room g c = room c.args.self.now.key c.args.self.now.tabbed c.args.self.now.tabbed_is c.args.self.now.room

pub returns : goal.returns
returns g c = rw (key_and_tab c.args.self.now.key c.args.self.now.tabbed (label_prefix (going_of c.args.self.now).label) c.args.line.now c.args.self.now.tabbed_is) c.write_keyed.ensures
