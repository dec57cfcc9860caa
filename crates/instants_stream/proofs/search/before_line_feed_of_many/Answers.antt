use Rattle.std.proofs.Common.{arith}
use Rattle.std.proofs.lemmas.List.{take_rest}
use Rattle.instants_stream.proofs.Searched.{joined_bits, none_set, lowest_set, lowest_within}
use Rattle.instants_stream.proofs.search.before_line_feed_of_many.Goals as goal

pub returns-then-places-eq0-clause-none : goal.returns-then-places-eq0-clause-none
returns-then-places-eq0-clause-none c =
    let both = joined_bits c.args.bytes.now c.requires c.line_feeds_of_half.result c.line_feeds-after.result c.line_feeds_of_half.ensures.bits (rw (take_rest c.args.bytes.now 32) at c.line_feeds-after.ensures.bits) in
    (none_set 48 c.args.bytes.now c.requires _ both c.if-places-eq0.true).free

pub returns-clause-within : goal.returns-clause-within
returns-clause-within c =
    let both = joined_bits c.args.bytes.now c.requires c.line_feeds_of_half.result c.line_feeds-after.result c.line_feeds_of_half.ensures.bits (rw (take_rest c.args.bytes.now 32) at c.line_feeds-after.ensures.bits) in
    lowest_within 48 c.args.bytes.now c.requires (omega arith) _ both c.if-places-eq0.false

pub returns-clause-before : goal.returns-clause-before
returns-clause-before c =
    let both = joined_bits c.args.bytes.now c.requires c.line_feeds_of_half.result c.line_feeds-after.result c.line_feeds_of_half.ensures.bits (rw (take_rest c.args.bytes.now 32) at c.line_feeds-after.ensures.bits) in
    (lowest_set 48 c.args.bytes.now c.requires (omega arith) _ both c.if-places-eq0.false).free

pub returns-clause-line_feed : goal.returns-clause-line_feed
returns-clause-line_feed c =
    let both = joined_bits c.args.bytes.now c.requires c.line_feeds_of_half.result c.line_feeds-after.result c.line_feeds_of_half.ensures.bits (rw (take_rest c.args.bytes.now 32) at c.line_feeds-after.ensures.bits) in
    let within = lowest_within 48 c.args.bytes.now c.requires (omega arith) _ both c.if-places-eq0.false in
    (lowest_set 48 c.args.bytes.now c.requires (omega arith) _ both c.if-places-eq0.false).line_feed within
