use Rattle.std.proofs.Common.{◌∙◌, sym}
use Rattle.instants_sources.specs.Written.{reads_written, written}
use Rattle.instants_sources.proofs.Refused.{refused_whole}
use Rattle.instants_sources.proofs.described.Described.cannot_match_whole.Goals as goal

pub returns-then-rule_out : goal.returns-then-rule_out
returns-then-rule_out c = λ e. refused_whole (reads_written (written c.args.self.now.description)) c.args.line.now (c.args.self.now.first c.args.line.now (sym c.rule_out.ensures ∙ e))
