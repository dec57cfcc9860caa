use Rattle.std.proofs.Common.{◌≡◌, ℕ, List, ◌++◌, take, drop, length, ap, ◌∙◌, arith, length-append}
use Rattle.instants_answers.specs.Text.{offset_text}
use Rattle.instants_answers.specs.Padded.{offset_len}
use Rattle.instants_answers.proofs.TargetLemmas.{text_len, text_few, padded_len, text_prefix, text_zeros}
use Rattle.instants_answers.proofs.target.Target.push_text.Goals as goal

pub push_prefix-requires-clause-room : goal.push_prefix-requires-clause-room
push_prefix-requires-clause-room c =
    let q = c.self.inside in
    omega (arith, c.requires.room, ap length c.self.invariant.2 ∙ padded_len q.offset)

pub push_prefix-requires-clause-few : goal.push_prefix-requires-clause-few
push_prefix-requires-clause-few c =
    let q = c.self.inside in
    omega (arith, c.self.invariant.4, text_few q.offset, ap length c.self.invariant.2 ∙ padded_len q.offset)

pub push_prefix-requires-clause-zeros : goal.push_prefix-requires-clause-zeros
push_prefix-requires-clause-zeros c =
    let q = c.self.inside in
    let count : q.len ≡ offset_len q.offset = c.self.invariant.4 in
    let long : length q.text ≡ 8 = ap length c.self.invariant.2 ∙ padded_len q.offset in
    rw (count, long) (ap (drop (offset_len q.offset)) c.self.invariant.2 ∙ text_zeros q.offset)

pub returns-clause-text : goal.returns-clause-text
returns-clause-text c =
    let q = c.self.inside in
    let count : q.len ≡ offset_len q.offset = c.self.invariant.4 in
    let prefix : take (q.len) q.text ≡ offset_text q.offset = rw count (ap (take (offset_len q.offset)) c.self.invariant.2 ∙ text_prefix q.offset) in
    c.push_prefix.ensures ∙ ap (λ (l : List ℕ). c.args.answer.now ++ l) (prefix ∙ ap offset_text c.self.view_is)

pub returns-clause-len : goal.returns-clause-len
returns-clause-len c =
    let q = c.self.inside in
    let z = c.args.self.now in
    let count : q.len ≡ offset_len q.offset = c.self.invariant.4 in
    let prefix : take (q.len) q.text ≡ offset_text q.offset = rw count (ap (take (offset_len q.offset)) c.self.invariant.2 ∙ text_prefix q.offset) in
    ap length (c.push_prefix.ensures ∙ ap (λ (l : List ℕ). c.args.answer.now ++ l) (prefix ∙ ap offset_text c.self.view_is)) ∙ length-append c.args.answer.now (offset_text z) ∙ omega (arith, text_len z)
