use Rattle.std.proofs.Common.{◌∙◌, sym, arith}
use Rattle.instants_sources.specs.Grammar.{written}
use Rattle.instants_sources.proofs.Form.{by_description}
use Rattle.instants_prefixes.proofs.RuledOut.{digit_due, year_due}
use Rattle.instants_found.proofs.SourceKeys.{described_fourth}
use Rattle.instants_found.proofs.starts.can_be_fourth.Goals as goal

pub returns-in-Items : goal.returns-in-Items
returns-in-Items c = λ e.
    rw (by_description _ _ c.in-Items.is) (described_fourth (written c.in-Items.described.description) c.first_bytes.result.now c.first_bytes.ensures c.args.byte (c.can_stand.ensures.ruled_out e))

pub returns-in-Rfc3339 : goal.returns-in-Rfc3339
returns-in-Rfc3339 c = λ e bytes there. rw c.in-Rfc3339.is (year_due bytes 3 (omega arith) (rw there (sym c.is_ascii_digit.ensures.value ∙ e)))

pub returns-in-Iso8601 : goal.returns-in-Iso8601
returns-in-Iso8601 c = λ e bytes there. rw c.in-Iso8601.is (digit_due bytes 2 (omega arith) (rw there (sym c.is_ascii_digit-in-Iso8601.ensures.value ∙ e)))
