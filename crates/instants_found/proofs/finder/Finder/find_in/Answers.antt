use Rattle.std.proofs.Common.{◌+◌, length, min, refl, sym, arith}
use Rattle.instants_found.specs.Found.{first_found}
use Rattle.instants_found.specs.Finder.{sources_of, limit_of}
use Rattle.instants_found.proofs.NoDates.{found_here, none_next, none_further, none_earlier}
use Rattle.instants_found.proofs.finder.Finder.find_in.Goals as goal

pub loop-start-init : goal.loop-start-init
unfolding first_found
loop-start-init c = record { within = c.requires.within; kept = c.requires.kept; so_far = none_further c.args.given.now (sources_of c.args.self.now) c.args.line.now 0 c.args.first (omega arith) refl c.requires.passed }

pub returns-in-Some-clause-is : goal.returns-in-Some-clause-is
returns-in-Some-clause-is c =
    found_here c.args.given.now (sources_of c.args.self.now) c.args.line.now c.loop-start.start (min (limit_of c.args.self.now) (length c.args.line.now)) c.in-Some.finding (omega arith) c.loop-start.invariant.so_far (rw c.as_slice.ensures.value at c.in-Some.ensures.is)

pub returns-in_default-next_start-clause-is : goal.returns-in_default-next_start-clause-is
returns-in_default-next_start-clause-is c =
    let given = c.args.given.now in
    let sources = sources_of c.args.self.now in
    let line = c.args.line.now in
    let next = none_next given sources line c.loop-start.start c.loop-start.invariant.so_far (rw c.as_slice.ensures.value at c.in_default.ensures.is) in
    sym (none_further given sources line (c.loop-start.start + 1) (min (limit_of c.args.self.now) (length line)) (omega arith) next c.in_default-next_start.ensures.none)

pub loop-start-preserved : goal.loop-start-preserved
loop-start-preserved c =
    let given = c.args.given.now in
    let sources = sources_of c.args.self.now in
    let line = c.args.line.now in
    let next = none_next given sources line c.loop-start.start c.loop-start.invariant.so_far (rw c.as_slice.ensures.value at c.in_default.ensures.is) in
    let (low, high) = c.in-Some-next_start.ensures.within in
    record { within = high; kept = c.in_default.ensures.kept; so_far = none_further given sources line (c.loop-start.start + 1) c.in-Some-next_start.next low next c.in-Some-next_start.ensures.passed }

pub returns-clause-is : goal.returns-clause-is
returns-clause-is c =
    sym (none_earlier c.args.given.now (sources_of c.args.self.now) c.args.line.now (min (limit_of c.args.self.now) (length c.args.line.now)) c.loop-start.start (omega (arith, c.loop-start-test.false, c.end-end.ensures)) c.loop-start.invariant.so_far)
