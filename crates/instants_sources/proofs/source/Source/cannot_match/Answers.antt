use Rattle.parsing_parsable.specs.Staged.{reads_iso8601}
use Rattle.instants_sources.specs.Grammar.{written}
use Rattle.instants_sources.specs.Written.{reads_written}
use Rattle.instants_sources.proofs.Form.{by_description}
use Rattle.instants_sources.proofs.Refused.{names_none, none_whole}
use Rattle.instants_sources.proofs.source.Source.cannot_match.Goals as goal

pub returns-in-Items : goal.returns-in-Items
returns-in-Items c = λ e assumed. rw (by_description _ _ c.in-Items.is) (none_whole (reads_written (written c.in-Items.described.description)) c.args.line.now (c.cannot_match_whole.ensures e) assumed)

pub returns-in-Iso8601 : goal.returns-in-Iso8601
returns-in-Iso8601 c = λ e assumed. rw c.in-Iso8601.is (names_none reads_iso8601 c.args.line.now (λ r. c.begins_no_part.ensures e r) assumed)
