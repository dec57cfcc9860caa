-- Items that versions 2 and 3 read alike.
use Rattle.std.proofs.Common.{◌≡◌, ℕ, suc, List, [], ◌∷◌, Option, Result, refl, sym, ap, ◌∙◌, arith}
use Rattle.description_modifiers.specs.declared.ignore.Ignore.{Ignore}
use Rattle.description_items.specs.declared.component.Component.{Component}
use Rattle.description_items.specs.declared.component.Component.TheVariants as component
use Rattle.description_items.specs.Tree.{Tree, Literal, Part, Compound, Optional, First, listed}
use Rattle.description_lexer.specs.declared.version.DescriptionVersion.TheVariants.{Two, Three}
use Rattle.description_grammar.specs.Spelling.{Spells}
use Rattle.description_grammar.specs.Outcomes.{joined}
use Rattle.description.specs.Versions.{SpellsRanged}
use Rattle.parsing_combinator.specs.Fault.{Fault}
use Rattle.parsing_combinator.specs.Readings.{then_read, give}
use Rattle.parsing_components.specs.Component.{reads_component, reads_component_v3}
use Rattle.parsing_components.specs.Put.{put}
use Rattle.parsing_components.specs.declared.said.Read.{Read}
use Rattle.parsing_components.specs.declared.fields.Record.{Record}
use Rattle.parsing_record.specs.Meaning.{Answer, Meaning}
use Rattle.parsing_record.specs.Reads.{reads, each_reads, reading}
use Rattle.parsing_record.specs.Whole.{whole, names, starting, all_read as all_ended, moment_named}
use Rattle.parsing.specs.Joined.{by_items, by_tree}
use Rattle.parsing.specs.TwoVersions.{IgnoresNothing, IsReadByBoth}
use Rattle.parsing.proofs.ItemLemmas.{items_read, first_in_turn, same_after}

component_alike : (c : Component) → ((m : Ignore) → ¬ (c ≡ component.Ignore m)) → (bytes : List ℕ) → reads_component_v3 c bytes ≡ reads_component c bytes
unfolding reads_component_v3
component_alike (component.Ignore m) h bytes = absurd (h m refl)
component_alike other h bytes = refl

first_is_other : (c : Component) (items : List Tree) → IgnoresNothing (Part c ∷ items) → (m : Ignore) → ¬ (c ≡ component.Ignore m)
first_is_other c items h m e = h m (0, omega arith, ap Part e)

after_is_other : (t : Tree) (items : List Tree) → IgnoresNothing (t ∷ items) → IgnoresNothing items
after_is_other t items h m (k, lt, e) = h m (suc k, omega arith, e)

first_alike : (t : Tree) (items : List Tree) → ((r : Record) (bytes : List ℕ) → reading reads_component_v3 t r bytes ≡ reading reads_component t r bytes) → ((r : Record) (bytes : List ℕ) → items_read reads_component_v3 items r bytes ≡ items_read reads_component items r bytes) → (r : Record) (bytes : List ℕ) → items_read reads_component_v3 (t ∷ items) r bytes ≡ items_read reads_component (t ∷ items) r bytes
first_alike t items h k r bytes =
    first_in_turn reads_component_v3 t (listed items) r bytes
    ∙ ap (λ (a : Answer). then_read a (items_read reads_component_v3 items)) (h r bytes)
    ∙ same_after _ _ (reading reads_component t r bytes) k
    ∙ sym (first_in_turn reads_component t (listed items) r bytes)

part_alike : (c : Component) → ((m : Ignore) → ¬ (c ≡ component.Ignore m)) → (r : Record) (bytes : List ℕ) → reading reads_component_v3 (Part c) r bytes ≡ reading reads_component (Part c) r bytes
unfolding reads
part_alike c h r bytes = ap (λ (a : Result (Read × List ℕ) Fault). then_read a (λ said. give (put said r))) (component_alike c h bytes)

items_alike : (text : List ℕ) (items : List Tree) → SpellsRanged text items → IgnoresNothing items → (r : Record) (bytes : List ℕ) → items_read reads_component_v3 items r bytes ≡ items_read reads_component items r bytes
unfolding reads each_reads
items_alike text [] h n r bytes = refl
items_alike text (Literal own ∷ items) (first, more, parts, one, others) n r bytes = first_alike (Literal own) items (λ _ _. refl) (items_alike more items others (after_is_other (Literal own) items n)) r bytes
items_alike text (Part c ∷ items) (first, more, parts, one, says, others) n r bytes = first_alike (Part c) items (part_alike c (first_is_other c items n)) (items_alike more items others (after_is_other (Part c) items n)) r bytes
items_alike text (other ∷ items) h n r bytes = absurd h

pub read_by_both : ((text : List ℕ) (items : List Tree) → SpellsRanged text items → Spells Three text items × Spells Two text items) → (text : List ℕ) (items : List Tree) → SpellsRanged text items → IgnoresNothing items → IsReadByBoth text items
unfolding reads whole
read_by_both ranged text items h n =
    let accepted = ranged text items h in
    let same : (r : Record) (bytes : List ℕ) → by_tree (joined items) r bytes ≡ by_items items r bytes = items_alike text items h n in
    record { in_three = accepted.0; others = items; in_two = accepted.1; same_reading = same; same_moment = λ defaults line. ap (λ (a : Answer). names moment_named (all_ended a)) (same (starting defaults) line) }
