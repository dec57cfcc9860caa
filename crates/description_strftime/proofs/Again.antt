-- What is spelled so is read.
use Rattle.std.proofs.Common.{◌≡◌, ℕ, ◌+◌, ◌<◌, ◌==◌, true, false, List, [], ◌∷◌, ◌++◌, length, take, Option, Some, Result, Ok, refl, ap, ◌∙◌, append_assoc, arith, inl, inr}
use Rattle.std.proofs.lemmas.List.{length-append, take_at, drop_at}
use Rattle.std.proofs.lemmas.Bool.Decides.{nat_tests}
use Rattle.base.specs.Bytes.{percent}
use Rattle.description_modifiers.specs.declared.choices.Padding.{Padding}
use Rattle.description_lexer.specs.Fault.{Fault}
use Rattle.description_items.specs.Tree.{Tree, Literal}
use Rattle.description_lexer.specs.Text.{Rest, after}
use Rattle.description_lexer.specs.Words.{begins}
use Rattle.description_strftime.specs.Text.{is_plain, Each, Stops}
use Rattle.description_strftime.specs.Letters.{letter_items}
use Rattle.description_strftime.specs.Reading.{letter_at, conversion_at, plain_len, strftime_step}
use Rattle.description_strftime.specs.Spelled.{flag_text, SpellsConversion, SpellsPart}
use Rattle.description_strftime.specs.Faulty.{IsNoFlag}
use Rattle.description_strftime.proofs.Flags.{at_index, no_flag, flag_again, past_again}
use Rattle.description_lexer.proofs.Prefixes.{run_again}

abbrev pub Step : Type 0
Step = Result (List Tree × Rest) Fault

abbrev pub done : List Tree → ℕ → List ℕ → Step
done items i text = Ok (items, at_index i text)

done_at : (items : List Tree) (i j : ℕ) (text : List ℕ) → i ≡ j → done items i text ≡ done items j text
done_at items i j text e = ap (λ (n : ℕ). done items n text) e

-- a conversion is its flag and then its letter
pub conversion_again : (start i : ℕ) (flag : Option Padding) (b : ℕ) (rest : List ℕ) → IsNoFlag flag b → conversion_at start (at_index i (flag_text flag ++ b ∷ rest)) ≡ letter_at start flag (at_index (i + length (flag_text flag)) (b ∷ rest))
unfolding conversion_at
conversion_again start i flag b rest h = rw (flag_again flag b rest h, past_again flag i (b ∷ rest)) refl

letter_again : (start i : ℕ) (flag : Option Padding) (b : ℕ) (rest : List ℕ) (items : List Tree) → letter_items flag b ≡ Some items → letter_at start flag (at_index i (b ∷ rest)) ≡ done items (i + 1) rest
unfolding letter_at
letter_again start i flag b rest items e = rw e refl

pub percent_again : (i : ℕ) (rest : List ℕ) → strftime_step (at_index i (percent ∷ rest)) ≡ conversion_at i (at_index (i + 1) rest)
unfolding strftime_step
percent_again i rest = refl

spelled_again : (i : ℕ) (own more : List ℕ) (items : List Tree) → SpellsConversion own items → strftime_step (at_index i (own ++ more)) ≡ done items (i + length own) more
spelled_again i own more items h =
    let prefix : List ℕ = flag_text h.flag in
    let regroup : own ++ more ≡ percent ∷ (prefix ++ h.letter ∷ more) = rw h.parts (ap (λ (l : List ℕ). percent ∷ l) (append_assoc prefix (h.letter ∷ []) more)) in
    let len : i + 1 + length prefix + 1 ≡ i + length own = omega (arith, ap (length {A = ℕ}) h.parts, length-append prefix (h.letter ∷ [])) in
    rw regroup (percent_again i (prefix ++ h.letter ∷ more)
    ∙ conversion_again i (i + 1) h.flag h.letter more (no_flag h.flag h.letter items h.means)
    ∙ letter_again i (i + 1 + length prefix) h.flag h.letter more items h.means
    ∙ done_at items (i + 1 + length prefix + 1) (i + length own) more len)

plain_is : (b : ℕ) → is_plain b ≡ true → (b == percent) ≡ false
plain_is b e = grind (arith, nat_tests)

plain_reads : (i : ℕ) (text : List ℕ) → begins percent text ≡ false → strftime_step (at_index i text) ≡ Ok (Literal (take (plain_len text) text) ∷ [], after (plain_len text) (at_index i text))
unfolding strftime_step
plain_reads i text e = rw e refl

run_reads : (i n : ℕ) (own more : List ℕ) → n ≡ length own → Ok (Literal (take n (own ++ more)) ∷ [], after n (at_index i (own ++ more))) ≡ done (Literal own ∷ []) (i + length own) more
run_reads i n own more e = rw (e, take_at own more (length own) refl, drop_at own more (length own) refl) refl

text_again : (i : ℕ) (own more : List ℕ) → 0 < length own → Each is_plain own → Stops is_plain more → strftime_step (at_index i (own ++ more)) ≡ done (Literal own ∷ []) (i + length own) more
text_again i [] more some plain ends = absurd (omega arith)
text_again i (b ∷ bs) more some plain ends = plain_reads i ((b ∷ bs) ++ more) (plain_is b plain.0) ∙ run_reads i (plain_len ((b ∷ bs) ++ more)) (b ∷ bs) more (run_again is_plain (b ∷ bs) more plain ends)

pub part_again : (i : ℕ) (own more : List ℕ) (items : List Tree) → SpellsPart own more items → strftime_step (at_index i (own ++ more)) ≡ done items (i + length own) more
part_again i own more items (inl h) = rw h.means (text_again i own more h.some h.plain h.ends)
part_again i own more items (inr h) = spelled_again i own more items h

pub part_some : (own more : List ℕ) (items : List Tree) → SpellsPart own more items → 0 < length own
part_some own more items (inl h) = h.some
part_some own more items (inr h) = omega (arith, ap (length {A = ℕ}) h.parts)
