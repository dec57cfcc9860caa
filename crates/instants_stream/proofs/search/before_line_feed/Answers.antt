use Rattle.std.proofs.Common.{arith}
use Rattle.instants_stream.proofs.Searched.{none_set, lowest_set, lowest_within}
use Rattle.instants_stream.proofs.search.before_line_feed.Goals as goal

pub returns-then-places-eq0-clause-none : goal.returns-then-places-eq0-clause-none
returns-then-places-eq0-clause-none c =
    (none_set 16 c.args.bytes.now c.requires _ c.line_feeds-places.ensures.bits c.if-places-eq0.true).free

pub returns-clause-within : goal.returns-clause-within
returns-clause-within c = lowest_within 16 c.args.bytes.now c.requires (omega arith) _ c.line_feeds-places.ensures.bits c.if-places-eq0.false

pub returns-clause-before : goal.returns-clause-before
returns-clause-before c = (lowest_set 16 c.args.bytes.now c.requires (omega arith) _ c.line_feeds-places.ensures.bits c.if-places-eq0.false).free

pub returns-clause-line_feed : goal.returns-clause-line_feed
returns-clause-line_feed c =
    let within = lowest_within 16 c.args.bytes.now c.requires (omega arith) _ c.line_feeds-places.ensures.bits c.if-places-eq0.false in
    (lowest_set 16 c.args.bytes.now c.requires (omega arith) _ c.line_feeds-places.ensures.bits c.if-places-eq0.false).line_feed within
