use Rattle.std.proofs.Common.{sym, ◌∙◌}
use Rattle.instants_sources.specs.Grammar.{written}
use Rattle.instants_sources.proofs.Form.{by_description}
use Rattle.instants_found.proofs.NoStart.{described_cannot, day_cannot, year_cannot, part_cannot}
use Rattle.instants_found.proofs.starts.can_begin.Goals as goal

pub returns-in-Items : goal.returns-in-Items
returns-in-Items c = λ e. rw (by_description _ _ c.in-Items.is) (described_cannot (written c.in-Items.described.description) c.args.byte (c.can_begin.ensures e))

pub returns-in-Rfc2822 : goal.returns-in-Rfc2822
returns-in-Rfc2822 c = λ e. rw c.in-Rfc2822.is (day_cannot c.args.byte (sym c.begins_day.ensures ∙ e))

pub returns-in-Rfc3339 : goal.returns-in-Rfc3339
returns-in-Rfc3339 c = λ e. rw c.in-Rfc3339.is (year_cannot c.args.byte (sym c.is_ascii_digit.ensures.value ∙ e))

pub returns-in-Iso8601 : goal.returns-in-Iso8601
returns-in-Iso8601 c = λ e. rw c.in-Iso8601.is (part_cannot c.args.byte (sym c.begins_year.ensures ∙ e))
