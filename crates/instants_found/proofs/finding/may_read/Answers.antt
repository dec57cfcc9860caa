use borrow.Author.Count.{below_more}
use Rattle.std.proofs.Common.{◌≤◌, ℕ, map, refl, ap, ◌∙◌, inl, inr, arith}
use Rattle.std.specs.Prelude.{IfSome, slice_get, option_map}
use Rattle.std.proofs.lemmas.Bool.{cases_lt}
use Rattle.std.proofs.lemmas.List.{length-map}
use Rattle.std.proofs.lemmas.Option.{slice_get-map, slice_get_read, slice_get_past}
use Rattle.instants_prefixes.specs.DateSource.{grammar_in}
use Rattle.instants_prefixes.specs.NoPrefix.{HasNoPrefix}
use Rattle.instants_found.proofs.finding.may_read.Goals as goal

pub loop-number-preserved : goal.loop-number-preserved
loop-number-preserved c =
    let sources = c.args.sources.now in
    let P : ℕ → Type 0 = λ k. c.args.from ≤ k → IfSome (slice_get (map grammar_in sources) k) (HasNoPrefix c.args.bytes.now) in
    let source = c.index-sources-number.result in
    let there = slice_get-map grammar_in sources c.loop-number.number ∙ ap (option_map grammar_in) (slice_get_read sources _ c.loop-number.number source refl (omega arith) c.index-sources-number.is) in
    below_more P c.loop-number.number c.loop-number.invariant (λ low. rw there (rw c.source.ensures at (c.rules_out.ensures c.if-not-rules_out.false)))

pub returns : goal.returns
returns c = λ _ k low.
    elim (cases_lt k c.loop-number.number) [
      | inl lt ↦ c.loop-number.invariant k lt low
      | inr past ↦ rw (slice_get_past (map grammar_in c.args.sources.now) k (omega (arith, past, length-map c.args.sources.now grammar_in))) tt
    ]
