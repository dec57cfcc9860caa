-- Where faults are.
use Rattle.std.proofs.Common.{◌≡◌, ℕ, ◌+◌, Err, refl, sym, ap, ◌∙◌, arith}
use Rattle.description_lexer.specs.Fault.{Fault, UnclosedOpeningBracket, InvalidComponentName, InvalidModifier, MissingComponentName, MissingRequiredModifier, Expected, NotSupported, DuplicateModifier, InvalidModifierCombination}
use Rattle.description_lexer.specs.Further.{further}
use Rattle.description_lexer.proofs.Readings.{failed}
use Rattle.description_grammar.specs.Faulty.{After}
use Rattle.description_grammar.proofs.Meaning.{SamePlace}

pub further_twice : (a b : ℕ) (e : Fault) → further a (further b e) ≡ further (a + b) e
further_twice a b (UnclosedOpeningBracket i) = ap (λ (n : ℕ). UnclosedOpeningBracket n) (omega arith)
further_twice a b (InvalidComponentName name i) = ap (λ (n : ℕ). InvalidComponentName name n) (omega arith)
further_twice a b (InvalidModifier value i) = ap (λ (n : ℕ). InvalidModifier value n) (omega arith)
further_twice a b (MissingComponentName i) = ap (λ (n : ℕ). MissingComponentName n) (omega arith)
further_twice a b (MissingRequiredModifier name i) = ap (λ (n : ℕ). MissingRequiredModifier name n) (omega arith)
further_twice a b (Expected what i) = ap (λ (n : ℕ). Expected what n) (omega arith)
further_twice a b (NotSupported what context i) = ap (λ (n : ℕ). NotSupported what context n) (omega arith)
further_twice a b (DuplicateModifier name i) = ap (λ (n : ℕ). DuplicateModifier name n) (omega arith)
further_twice a b (InvalidModifierCombination modifier context i) = ap (λ (n : ℕ). InvalidModifierCombination modifier context n) (omega arith)

-- a fault at the first byte
pub at_first : (make : ℕ → Fault) (n : ℕ) → make n ≡ make (n + 0)
at_first make n = ap make (omega arith)

pub at_once : {A : Type 0} (make : ℕ → Fault) (n : ℕ) (e : Fault) → further n (make 0) ≡ make (n + 0) → e ≡ make 0 → failed {A = A} (make n) ≡ Err (further n e)
at_once {A} make n e far is_e = ap (λ (e : Fault). failed {A = A} e) (at_first make n ∙ sym far ∙ ap (further n) (sym is_e))

-- a fault after a prefix, further on
pub after_further : (i n : ℕ) (Bad : Fault → Type 0) (e : Fault) (b : After n Bad e) → further (i + n) b.0 ≡ further i e
after_further i n Bad e b = sym (further_twice i n b.0) ∙ ap (further i) (sym b.2)

pub further_none : (n : ℕ) (Bad : Fault → Type 0) (e : Fault) (b : After n Bad e) → further 0 e ≡ e
further_none n Bad e b = sym (after_further 0 n Bad e b) ∙ ap (λ (n : ℕ). further n b.0) (omega arith) ∙ sym b.2

-- after two prefixes, one after the other
pub after_both : (a b n : ℕ) (Bad : Fault → Type 0) (e : Fault) → n ≡ a + b → After n Bad e → After a (After b Bad) e
after_both a b n Bad e place (own, bad, is_own) = (further b own, (own, bad, refl), is_own ∙ ap (λ (n : ℕ). further n own) place ∙ sym (further_twice a b own))

-- words at a text's beginning, and further on
pub further_on : (n : ℕ) (e f : Fault) → SamePlace 0 n e f → f ≡ further n e
further_on n e f (d, is_e, is_f) = is_f ∙ ap (λ (n : ℕ). further n d) (omega arith) ∙ sym (further_twice n 0 d) ∙ ap (further n) (sym is_e)

pub further_back : (n : ℕ) (e f : Fault) → SamePlace n 0 e f → e ≡ further n f
further_back n e f (d, is_e, is_f) = further_on n f e (d, is_f, is_e)
