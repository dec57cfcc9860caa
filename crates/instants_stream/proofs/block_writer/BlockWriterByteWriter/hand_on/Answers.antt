use Rattle.std.proofs.Common.{◌≡◌, arith}
use Rattle.std.specs.Io.KnownBytes.{Keeps}
use Rattle.std.proofs.KnownBytes.{Keeps-trans}
use Rattle.instants_stream.specs.Known.{StaysOrUnknown}
use Rattle.instants_stream.specs.Gathering.{held_by, held_below}
use Rattle.instants_stream.proofs.Gathering.{gathered-below, done_below, OnOk-map, OnErr-map}
use Rattle.instants_stream.proofs.block_writer.BlockWriterByteWriter.hand_on.Goals as goal
use Rattle.instants_stream.proofs.block_writer.BlockWriterByteWriter.hand_on.Goals.{After-hand_on, then-self-gt0+in_ok-write_block, else-self-gt0}

-- all is held below, and nothing is gathered
written : (g : _) (c : After-hand_on g) → (let held = g.W.ByteWriter.held in let self = c.if-self-gt0.self in Keeps (held_by held c.args.self.now) (held_below held self) × (self.end ≡ 0))
written g c =
    let self = c.args.self.now in
    elim c.if-self-gt0.branch [
      | then-self-gt0+in_ok-write_block w ↦ rw w.self-is (w.in_ok-write_block.ensures.held, w.in_ok-write_block.ensures.empty)
      | else-self-gt0 w ↦ rw w.self-is (let none : self.end ≡ 0 = omega arith in (gathered-below (g.W.ByteWriter.held self.inner) self.block.items self.start self.end none, none))
    ]

pub returns-clause-held : goal.returns-clause-held
returns-clause-held g c =
    let (all, none) = written g (goal.at.returns-clause-held g c).After-hand_on in
    OnOk-map c.hand_on.result (λ kept. done_below Keeps (λ _. tt) _ _ _ c.if-self-gt0.self.block.items c.if-self-gt0.self.start _ all none kept) c.hand_on.ensures.held

pub returns-clause-below : goal.returns-clause-below
returns-clause-below g c =
    let (all, _) = written g (goal.at.returns-clause-below g c).After-hand_on in
    OnOk-map c.hand_on.result (λ kept. Keeps-trans _ _ _ all kept) c.hand_on.ensures.held

pub returns-clause-all : goal.returns-clause-all
returns-clause-all g c =
    let (_, none) = written g (goal.at.returns-clause-all g c).After-hand_on in
    OnOk-map c.hand_on.result (λ kept. Keeps-trans _ _ _ (gathered-below _ c.if-self-gt0.self.block.items c.if-self-gt0.self.start _ none) kept) c.hand_on.ensures.all

pub returns-clause-kept : goal.returns-clause-kept
returns-clause-kept g c =
    let (all, none) = written g (goal.at.returns-clause-kept g c).After-hand_on in
    OnErr-map c.hand_on.result (λ kept. done_below StaysOrUnknown (λ _. tt) _ _ _ c.if-self-gt0.self.block.items c.if-self-gt0.self.start _ all none kept) c.hand_on.ensures.kept
