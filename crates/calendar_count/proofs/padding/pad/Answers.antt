use Rattle.std.proofs.Common.{◌≡◌, sym, subst}
use Rattle.std.specs.Prelude.{IfSome}
use Rattle.std.specs.Fmt.{formatter_spec, styled_text, WritesOnOk, WritesStyledOnOk}
use Rattle.calendar_count.proofs.PaddingLemmas.{is_written, if_shown, if_shown_so}
use Rattle.calendar_count.proofs.padding.pad.Given as given
use Rattle.calendar_count.proofs.padding.pad.Goals as goal

is_shown : (g : given.Over) (c : goal.After-drop-text-2 g) → IfSome (g.D.Display.output c.args.text) (λ bs. c.as_str.result.now ≡ bs)
is_shown g c = subst (λ l. IfSome (g.D.Display.output c.args.text) (λ bs. l ≡ bs)) (sym c.as_str.ensures.value)
    (is_written (g.D.Display.output c.args.text) _ _ c.new-whole.ensures.intact c.new-whole.ensures.text c.in_ok-write.ensures.writes)

pub returns-clause-plain : goal.returns-clause-plain
returns-clause-plain g c =
    if_shown (g.D.Display.output c.args.text) _ (λ bs. WritesOnOk g.W.Write.write_str_gives c.args.f.now c.pad.result bs c.pad.new.self) (is_shown g c) c.pad.ensures.writes

pub returns-clause-styled : goal.returns-clause-styled
returns-clause-styled g c =
    if_shown_so (styled_text (formatter_spec c.args.f.now)) (g.D.Display.output c.args.text) _ (λ bs. WritesStyledOnOk g.W.Write.write_str_gives c.args.f.now c.pad.result bs c.pad.new.self) (is_shown g c) c.pad.ensures.text
