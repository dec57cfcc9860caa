use Rattle.instants_timeline.proofs.timeline.Timeline.fill_whole.Goals as goal

pub fill_text-requires-clause-text : goal.fill_text-requires-clause-text
fill_text-requires-clause-text c =
    let whole = c.in_ok-fields.ensures.whole c.requires.whole in
    whole.0
