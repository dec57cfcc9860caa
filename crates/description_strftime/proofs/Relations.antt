-- A text spells what is read, and has the fault that is read.
use Rattle.std.proofs.Common.{◌≡◌, ℕ, suc, ◌+◌, ◌<◌, ◌==◌, List, [], ◌∷◌, ◌++◌, length, Result, Ok, Err, true, false, refl, sym, ap, subst, ◌∙◌, arith}
use Rattle.std.proofs.lemmas.List.{length-append, nil_from_length}
use Rattle.std.proofs.lemmas.Bool.Decides.{nat_tests}
use Rattle.description_lexer.specs.Fault.{Fault}
use Rattle.description_items.specs.Tree.{Tree}
use Rattle.description_lexer.specs.Text.{Rest, whole}
use Rattle.description_lexer.proofs.Readings.{bind_ok, ok_is, made_err, and_then_ok, and_then_err}
use Rattle.description_lexer.proofs.Steps.{Steps, Failing, many_steps, many_failing, steps_many, steps_failing}
use Rattle.description_strftime.specs.Text.{joined}
use Rattle.description_strftime.specs.Reading.{at_end, strftime_step, read_strftime}
use Rattle.description_strftime.specs.Spelled.{SpellsPrefix, SpellsStrftime}
use Rattle.description_strftime.specs.Faulty.{BadConversion, FaultyStrftime}
use Rattle.description_strftime.proofs.Flags.{at_index}
use Rattle.description_strftime.proofs.Parts.{all_parts}
use Rattle.description_strftime.proofs.Sound.{TakesPart, part_takes, step_lt}
use Rattle.description_strftime.proofs.Again.{part_again, part_some}
use Rattle.description_strftime.proofs.Refused.{part_refused}
use Rattle.description_strftime.proofs.RefusedAgain.{bad_again, bad_some}

abbrev Goes : Rest → List (List Tree) → Rest → Type 0
Goes s parts t = Steps at_end strftime_step s parts t

no_text : (s : Rest) → at_end s ≡ true → s.text ≡ []
no_text s e = nil_from_length s.text (length_is (length s.text) e)
  where
    length_is : (n : ℕ) → (n == 0) ≡ true → n ≡ 0
    length_is n e = grind (arith, nat_tests)

not_end : (i : ℕ) (text : List ℕ) → 0 < length text → at_end (at_index i text) ≡ false
not_end i text some = grind (arith, nat_tests)

-- steps spell parts, and go on by as many bytes as they take
goes_spelled : (s : Rest) (parts : List (List Tree)) (t : Rest) → Goes s parts t → SpellsPrefix s.text parts t.text × (s.index + length s.text ≡ t.index + length t.text)
goes_spelled s [] t e = (ap (λ (p : Rest). p.text) e, ap (λ (p : Rest). p.index + length p.text) e)
goes_spelled s (part ∷ parts) t (m, more, is_part, others) =
    let one : TakesPart s part m = part_takes s (part, m) more is_part in
    let rest = goes_spelled m parts t others in
    ((one.own, m.text, one.parts, one.spells, rest.0), omega (arith, rest.1, one.index, ap (length {A = ℕ}) one.parts, length-append one.own m.text))

-- and spelled parts are such steps
spelled_goes : (i : ℕ) (text : List ℕ) (parts : List (List Tree)) (rest : List ℕ) → SpellsPrefix text parts rest → (j : ℕ) × Goes (at_index i text) parts (at_index j rest) × (i + length text ≡ j + length rest)
spelled_goes i text [] rest e = (i, ap (at_index i) e, ap (λ (t : List ℕ). i + length t) e)
spelled_goes i text (part ∷ parts) rest (own, more, is_text, is_part, others) =
    let after : ℕ = i + length own in
    let (j, goes, len) = spelled_goes after more parts rest others in
    let some : 0 < length own = part_some own more part is_part in
    let step : strftime_step (at_index i (own ++ more)) ≡ Ok (part, at_index after more) = part_again i own more part is_part in
    let some_text : 0 < length (own ++ more) = omega (arith, length-append own more) in
    let all : Goes (at_index i (own ++ more)) (part ∷ parts) (at_index j rest) = (at_index after more, not_end i (own ++ more) some_text, step, goes) in
    (j, subst (λ (t : List ℕ). Goes (at_index i t) (part ∷ parts) (at_index j rest)) (sym is_text) all, omega (arith, len, ap (length {A = ℕ}) is_text, length-append own more))

abbrev items_of : List (List Tree) × Rest → Result (List Tree) Fault
items_of parts = Ok (joined parts.0)

enough : (text : List ℕ) → length text < suc (length text)
enough text = omega arith

pub read_is_spelled : (text : List ℕ) (items : List Tree) → read_strftime text ≡ Ok items → SpellsStrftime text items
unfolding read_strftime
read_is_spelled text items e =
    let a = bind_ok (all_parts text) items_of items e in
    let steps = many_steps at_end strftime_step step_lt (suc (length text)) (whole text) a.0 (enough text) a.1 in
    let prefix = goes_spelled (whole text) a.0.0 a.0.1 steps.0 in
    record { parts = a.0.0; prefix = subst (λ (rest : List ℕ). SpellsPrefix text a.0.0 rest) (no_text a.0.1 steps.1) prefix.0; all = sym (ok_is (joined a.0.0) items a.2) }

pub spelled_is_read : (text : List ℕ) (items : List Tree) → SpellsStrftime text items → read_strftime text ≡ Ok items
unfolding read_strftime
spelled_is_read text items h =
    let (j, goes, len) = spelled_goes 0 text h.parts [] h.prefix in
    let read = steps_many at_end strftime_step step_lt (suc (length text)) (whole text) h.parts (at_index j []) (enough text) goes refl in
    and_then_ok (all_parts text) (h.parts, at_index j []) items_of read ∙ ap (λ (ts : List Tree). Ok ts) (sym h.all)

pub refused_is_faulty : (text : List ℕ) (fault : Fault) → read_strftime text ≡ Err fault → FaultyStrftime text fault
unfolding read_strftime
refused_is_faulty text fault e =
    let fails = made_err (all_parts text) (λ (parts : List (List Tree) × Rest). joined parts.0) fault e in
    let stop : Failing at_end strftime_step (whole text) fault = many_failing at_end strftime_step step_lt (suc (length text)) (whole text) fault (enough text) fails in
    let prefix = goes_spelled (whole text) stop.prefix stop.bad stop.steps in
    record { parts = stop.prefix; bad = stop.bad.text; at = stop.bad.index; prefix = prefix.0; place = omega (arith, prefix.1); is_bad = part_refused stop.bad fault stop.fails }

pub faulty_is_refused : (text : List ℕ) (fault : Fault) → FaultyStrftime text fault → read_strftime text ≡ Err fault
unfolding read_strftime
faulty_is_refused text fault h =
    let (j, goes, len) = spelled_goes 0 text h.parts h.bad h.prefix in
    let same : h.at ≡ j = omega (arith, h.place, len) in
    let bad : BadConversion j h.bad fault = subst (λ (i : ℕ). BadConversion i h.bad fault) same h.is_bad in
    let fails = bad_again j h.bad fault bad in
    let more = not_end j h.bad (bad_some j h.bad fault bad) in
    and_then_err (all_parts text) fault items_of (steps_failing at_end strftime_step step_lt (suc (length text)) (whole text) h.parts (at_index j h.bad) fault (enough text) goes more fails)
