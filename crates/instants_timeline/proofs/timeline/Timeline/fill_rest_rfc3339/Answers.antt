use Rattle.std.proofs.Common.{◌≡◌, ℤ, List, ℕ, Option, None, Some, false, drop, refl, ap, sym, ◌∙◌}
use Rattle.std.specs.Prelude.{is_some}
use Rattle.std.specs.Result.{result_ok}
use Rattle.parsing_rfc3339.specs.Direct.{direct}
use Rattle.instants_sources.specs.Grammar as grammar
use Rattle.instants_sources.specs.Named.{named}
use Rattle.instants_timeline.specs.Settings.{setting_of}
use Rattle.instants_timeline.proofs.FirstNamed.{answer_is_at, led_direct, names_from_next}
use Rattle.instants_timeline.proofs.timeline.Timeline.fill_rest_rfc3339.Goals as goal

-- with no offset assumed the moment is read directly
directly : (assumed : Option ℤ) (line : List ℕ) → is_some assumed ≡ false → named assumed grammar.Rfc3339 line ≡ direct line
directly None line e = refl
directly (Some offset) line e = absurd cc

pub returns-in-Some-clause-line : goal.returns-in-Some-clause-line
returns-in-Some-clause-line c = led_direct c.directly_named.ensures (setting_of c.args.self.now) c.read_rare_fields.result grammar.Rfc3339 c.args.line.now c.fill_found.new.room c.in-Some.len c.requires.led c.read_rare_fields.ensures c.in-Some.ensures.line

pub returns-in-Ok-clause-line : goal.returns-in-Ok-clause-line
returns-in-Ok-clause-line c =
    let setting = setting_of c.args.self.now in
    let is = directly setting.assumed c.args.line.now (sym c.is_some.ensures ∙ c.if-is_some.false) ∙ c.in-Ok.ensures.gives in
    rw (← answer_is_at setting c.args.line.now 0 grammar.Rfc3339 (drop 1 setting.sources) c.in-Ok.named refl c.requires.led is) c.fill_shown.ensures.line

pub fill_from-requires-clause-from : goal.fill_from-requires-clause-from
fill_from-requires-clause-from c =
    let setting = setting_of c.args.self.now in
    let is = directly setting.assumed c.args.line.now (sym c.is_some.ensures ∙ c.if-is_some.false) ∙ c.in-Err.ensures.gives in
    names_from_next setting c.args.line.now 0 grammar.Rfc3339 refl c.requires.led (ap result_ok is)

pub fill_from-requires-clause-known : goal.fill_from-requires-clause-known
fill_from-requires-clause-known c = record {
  grammar = grammar.Rfc3339;
  first = c.requires.led;
  refused = directly (setting_of c.args.self.now).assumed c.args.line.now (sym c.is_some.ensures ∙ c.if-is_some.false) ∙ c.in-Err.ensures.gives;
}
