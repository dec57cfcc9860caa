-- Words ask for one setting.
use Rattle.std.proofs.Common.{◌≡◌, ℕ, false, Option, List, [], ◌∷◌, ℤ, refl, sym, ap, subst, ◌∙◌}
use Rattle.description_items.specs.Tree.{Tree, Literal, Part, Compound, Optional, First, Trees}
use Rattle.description_lexer.specs.declared.version.DescriptionVersion.TheVariants.{One, Two, Three}
use Rattle.description_grammar.specs.Outcomes.{joined}
use Rattle.description_grammar.specs.Spelling.{SpellsItems, Spells, SpellsTree}
use Rattle.description_grammar.proofs.ItemsComplete.{unlisted, listed_again}
use Rattle.description_grammar.proofs.Outcomes.{one_outcome_holds}
use Rattle.description_strftime.proofs.Outcomes as letters
use Rattle.instants_words.specs.Sources.{SourceSaid}
use Rattle.instants_words.specs.Sources as said
use Rattle.instants_words.specs.declared.words.Words.{Words}
use Rattle.instants_sources.specs.Grammar.{Grammar, Described, Items, V3, Means}
use Rattle.instants_timeline.specs.Place.{Setting}
use Rattle.instants_timeline.specs.Program.{Asks, AsksFor}
use Rattle.instants_timeline.specs.Sources.{AllMean}

-- a tree that a text spells is joined of items that it spells
spells_tree : (text : List ℕ) (t : Tree) → SpellsTree Three text t → (ts : List Tree) × (t ≡ joined ts) × Spells Three text ts
spells_tree text (Compound ts) h = (unlisted ts, sym (ap Compound (listed_again ts)), subst (λ (x : Trees). SpellsItems Three false 127 text x) (sym (listed_again ts)) h)
spells_tree text (Literal bytes) h = absurd h
spells_tree text (Part c) h = absurd h
spells_tree text (Optional f t) h = absurd h
spells_tree text (First ts) h = absurd h

one_tree : (text : List ℕ) (t u : Tree) → SpellsTree Three text t → SpellsTree Three text u → t ≡ u
one_tree text t u h k =
    let (ts, is_t, spells_t) = spells_tree text t h in
    let (us, is_u, spells_u) = spells_tree text u k in
    is_t ∙ ap joined ((one_outcome_holds Three text).one_tree ts us spells_t spells_u) ∙ sym is_u

-- what is said of a source means one grammar
one_grammar : (s : SourceSaid) (g h : Grammar) → Means s g → Means s h → g ≡ h
one_grammar (said.V1 text) g h a b = a.1 ∙ ap (λ items. Described (Items items)) ((one_outcome_holds One text).one_tree a.0 b.0 a.2 b.2) ∙ sym b.1
one_grammar (said.V2 text) g h a b = a.1 ∙ ap (λ items. Described (Items items)) ((one_outcome_holds Two text).one_tree a.0 b.0 a.2 b.2) ∙ sym b.1
one_grammar (said.V3 text) g h a b = a.1 ∙ ap (λ tree. Described (V3 tree)) (one_tree text a.0 b.0 a.2 b.2) ∙ sym b.1
one_grammar (said.Strftime text) g h a b = a.1 ∙ ap (λ items. Described (Items items)) ((letters.one_outcome_holds text).one_list a.0 b.0 a.2 b.2) ∙ sym b.1
one_grammar said.Rfc2822 g h a b = a ∙ sym b
one_grammar said.Rfc3339 g h a b = a ∙ sym b
one_grammar said.Iso8601 g h a b = a ∙ sym b

one_list : (sources : List SourceSaid) (gs hs : List Grammar) → AllMean sources gs → AllMean sources hs → gs ≡ hs
one_list [] [] [] a b = refl
one_list [] [] (h ∷ hs) a b = absurd b
one_list [] (g ∷ gs) hs a b = absurd a
one_list (s ∷ others) [] hs a b = absurd a
one_list (s ∷ others) (g ∷ gs) [] a b = absurd b
one_list (s ∷ others) (g ∷ gs) (h ∷ hs) a b =
    ap (λ x. x ∷ gs) (one_grammar s g h a.0 b.0) ∙ ap (λ xs. h ∷ xs) (one_list others gs hs a.1 b.1)

abbrev made : List Grammar → ℤ → Option ℤ → Setting
made sources target assumed = record { sources = sources; target = target; assumed = assumed }

one_asked : (words : Words) (s t : Setting) → Asks words s → Asks words t → s ≡ t
one_asked words s t a b =
    ap (λ sources. made sources s.target s.assumed) (one_list words.sources s.sources t.sources a.sources b.sources)
    ∙ ap (λ target. made t.sources target s.assumed) (a.target ∙ sym b.target)
    ∙ ap (made t.sources t.target) (a.assumed ∙ sym b.assumed)

-- words ask for one setting, and for one limit
pub one_setting : {words : List (List ℕ)} {s t : Setting} {m n : ℕ} → AsksFor words s m → AsksFor words t n → (t ≡ s) × (n ≡ m)
one_setting {s} {t} a b =
    let said : b.said ≡ a.said = cc (a.is_said, b.is_said) in (
      one_asked a.said t s (subst (λ (said : Words). Asks said t) said b.asks) a.asks,
      b.limit_is ∙ ap (λ (said : Words). said.limit) said ∙ sym a.limit_is,
    )
