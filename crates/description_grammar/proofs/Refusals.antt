-- Versions 1 and 2 answer no nested item.
use Rattle.std.proofs.Common.{◌≡◌, ◌<◌, ◌-◌, arith, zero, ℕ, List, suc, length, subst, Result, Ok, Err, true, false, refl}
use Rattle.std.specs.Prelude.{codes, IsErr}
use Rattle.std.proofs.lemmas.Bool.{both_ways}
use Rattle.description_lexer.specs.Fault.{Fault}
use Rattle.description_lexer.specs.declared.description_fault.DescriptionFault.{DescriptionFault}
use Rattle.description_lexer.specs.declared.description_fault.DescriptionFault.TheVariants as errors
use Rattle.description_lexer.specs.Answer.{◌>>=◌, Fails, Gives}
use Rattle.description_items.specs.Tree.{Tree, Optional, First, Compound, listed}
use Rattle.description_lexer.specs.declared.version.DescriptionVersion.{DescriptionVersion}
use Rattle.description_lexer.specs.declared.version.DescriptionVersion.TheVariants.{Three}
use Rattle.description_lexer.specs.Version.{is_three}
use Rattle.description_lexer.specs.Text.{Rest, whole, after, past, is_space}
use Rattle.description_lexer.specs.Many.{many}
use Rattle.description_lexer.specs.Words.{closed_at}
use Rattle.description_grammar.proofs.Nesting.{Reader, nesting_at}
use Rattle.description_grammar.proofs.ValueOrFault.{Reads, refuses, either, in_turn}
use Rattle.description_grammar.specs.Pieces.{read_on}
use Rattle.description_grammar.specs.declared.pieces.Piece.{Piece}
use Rattle.description_grammar.specs.Reading.{Nester, opened_at, optional_at, no_bracket, first_at, is_end, element_at, nested_at, read_items, read_tree}

some_answer : {A : Type 0} (r : Result A Fault) → Reads (λ x. Unit {0}) (λ e. Unit {0}) r
some_answer r = record { ok = λ x e. tt; err = λ e h. tt }

none_before_three : {A : Type 0} (v : DescriptionVersion) (what : List ℕ) (read : Reader A) (make : A → Tree) (bracket : ℕ) (s : Rest) → is_three v ≡ false → Reads (λ x. ⊥) (λ e. Unit {0}) (nesting_at v what read make bracket s)
none_before_three v what read make bracket s older =
    in_turn _ _ (some_answer (opened_at what s)) (λ e h. tt) (λ start h. in_turn _ _ (some_answer (read start)) (λ e h. tt) (λ x h. in_turn _ _ (some_answer (closed_at bracket x.1)) (λ e h. tt) (λ rest h. either _ _ _ (λ three. absurd (both_ways (is_three v) older three)) (λ h. refuses _ tt))))

pub no_optional : (v : DescriptionVersion) (inside : Nester) (bracket : ℕ) (s : Rest) (x : Tree × Rest) → is_three v ≡ false → optional_at v inside bracket s ≡ Ok x → ⊥
unfolding optional_at
no_optional v inside bracket s x older h = (none_before_three v (codes "whitespace after `optional`") inside (Optional true) bracket s older).ok x h

pub no_first : (v : DescriptionVersion) (inside : Nester) (bracket : ℕ) (s : Rest) (x : Tree × Rest) → is_three v ≡ false → first_at v inside bracket s ≡ Ok x → ⊥
unfolding first_at
no_first v inside bracket s x older h =
    (none_before_three v (codes "whitespace after `first`") (λ start. many no_bracket inside (suc (length start.text)) start) (λ ts. First (listed ts)) bracket s older).ok x h

-- where nothing is read, the answer is a fault
pub is_refused : {X Y : Type 0} (view : X → Y) (answer : Result X DescriptionFault) (read : Result Y Fault) → ((y : Y) → read ≡ Ok y → ⊥) → Gives view answer read → IsErr answer
is_refused view (Ok x) read none gives = absurd (none (view x) gives)
is_refused view (Err e) read none gives = refl

-- a reading that fails at once fails with all that would follow
pub fails_then : {A B : Type 0} (d : DescriptionFault) (r : Result A Fault) (f : A → Result B Fault) → Fails d r → Fails d (r >>= f)
fails_then errors.Memory r f h = tt
fails_then (errors.Description e) r f h = rw h refl

-- the whole of a text, read as its items
pub tree_fails : (d : DescriptionFault) (text : List ℕ) (s : Rest) → s ≡ whole text → Fails d (many (is_end false) (element_at Three (nested_at Three 127)) (suc (length s.text)) s) → Fails d (read_tree text)
unfolding read_tree read_items
tree_fails d text s e h =
    let begun : Fails d (many (is_end false) (element_at Three (nested_at Three 127)) (suc (length text)) (whole text)) = subst (λ (p : Rest). Fails d (many (is_end false) (element_at Three (nested_at Three 127)) (suc (length p.text)) p)) e h in
    fails_then d _ _ (fails_then d _ _ begun)

pub tree_is : (text : List ℕ) (s : Rest) (x : List Tree × Rest) → s ≡ whole text → many (is_end false) (element_at Three (nested_at Three 127)) (suc (length s.text)) s ≡ Ok x → read_tree text ≡ Ok (Compound (listed x.0))
unfolding read_tree read_items
tree_is text s x e h =
    let begun : many (is_end false) (element_at Three (nested_at Three 127)) (suc (length text)) (whole text) ≡ Ok x = subst (λ (p : Rest). many (is_end false) (element_at Three (nested_at Three 127)) (suc (length p.text)) p ≡ Ok x) e h in
    rw begun refl

-- what a known piece leads to
pub leads_to : (v : DescriptionVersion) (inside : Nester) (bracket : ℕ) (read : Result (Tree × Rest) Fault) (p q : Piece) → p ≡ q → read ≡ read_on v inside bracket p → read ≡ read_on v inside bracket q
leads_to v inside bracket read p q e h = subst (λ (p : Piece). read ≡ read_on v inside bracket p) e h

-- where a level may be opened, a nested description is its items
pub enters : (v : DescriptionVersion) (levels : ℕ) (here inside : Rest) → 0 < levels → inside ≡ after 1 here → nested_at v levels here ≡ (many (is_end true) (element_at v (nested_at v (levels - 1))) (suc (length inside.text)) inside >>= λ items. (closed_at here.index items.1 >>= λ rest. Ok (Compound (listed items.0), past is_space rest)))
unfolding nested_at
enters v zero here inside some e = absurd (omega (arith, some))
enters v (suc levels) here inside some e = let less : suc levels - 1 ≡ levels = omega arith in rw (e, less) refl
