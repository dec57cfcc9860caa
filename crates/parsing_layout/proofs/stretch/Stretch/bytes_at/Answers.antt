use Rattle.std.proofs.Common.{◌∙◌, true, sym, arith, inl, inr}
use Rattle.std.proofs.lemmas.Bool.{cases_lt, true≢false}
use Rattle.std.proofs.lemmas.List.{get_or_past}
use Rattle.parsing_layout.proofs.stretch.Stretch.bytes_at.Goals as goal

pub returns : goal.returns
returns c = λ byte e.
    let range = c.range-low in
    elim (cases_lt byte range.result.0) [
      | inl below ↦ range.ensures.low byte below
      | inr from ↦
          elim (cases_lt byte c.loop-byte.byte) [
            | inl within ↦ c.loop-byte.invariant.2 byte within from e
            | inr above ↦
                elim (cases_lt byte 256) [
                  | inl few ↦ range.ensures.high byte (omega (arith, above, c.loop-byte-test.false, c.from-byte-end.ensures)) few
                  | inr past ↦ absurd (true≢false (sym (get_or_past c.loop-byte.bytes byte true (omega (arith, past, c.loop-byte.invariant.0))) ∙ e))
                ]
          ]
    ]
