-- What a text spells has few nodes.
use Rattle.std.proofs.Common.{◌≡◌, ℕ, ◌+◌, ◌≤◌, Bool, true, false, List, [], ◌∷◌, ◌++◌, length, map, Option, Some, None, cond, inl, inr, refl, subst, arith}
use Rattle.std.specs.Prelude.{IfSome, codes}
use Rattle.std.specs.Option.{option_map, option_or, unwrap_or}
use Rattle.std.proofs.lemmas.List.{length-append}
use Rattle.description_modifiers.specs.declared.choices.Padding.{Padding}
use Rattle.description_items.specs.Tree.{Tree, Literal, Part, Compound, listed}
use Rattle.description_lexer.specs.declared.version.DescriptionVersion.{DescriptionVersion}
use Rattle.description.specs.Laws.{nodes, all_nodes}
use Rattle.description.proofs.Nodes.{tree_nodes}
use Rattle.description_grammar.specs.Spelling.{Spells}
use Rattle.description_strftime.specs.Letters.{is_in, item_of, component_of, text_of, offset, composite, separator, part_of, letter_items}
use Rattle.description_strftime.specs.Text.{joined}
use Rattle.description_strftime.specs.Spelled.{SpellsPart, SpellsPrefix, SpellsStrftime}

-- the root of the tree is left out
pub items_few : (version : DescriptionVersion) (text : List ℕ) (items : List Tree) → Spells version text items → all_nodes (listed items) ≤ length text
unfolding nodes
items_few version text items h = omega (arith, tree_nodes version text (Compound (listed items)) h)

-- ---- strftime

-- a tree that is one node; trees of which each is one
abbrev IsSingle : Tree → Type 0
IsSingle t = nodes t ≡ 1

abbrev AreSingle : List Tree → Type 0
AreSingle ts = all_nodes (listed ts) ≡ length ts

some_or : {A : Type 0} (P : A → Type 0) (one other : Option A) → IfSome one P → IfSome other P → IfSome (option_or one other) P
some_or P None other h k = k
some_or P (Some x) other h k = h

some_map : {A B : Type 0} (P : A → Type 0) (Q : B → Type 0) (f : A → B) (o : Option A) → ((x : A) → P x → Q (f x)) → IfSome o P → IfSome (option_map f o) Q
some_map P Q f None h k = tt
some_map P Q f (Some x) h k = h x k

some_made : {A B : Type 0} (Q : B → Type 0) (f : A → B) (o : Option A) → ((x : A) → Q (f x)) → IfSome (option_map f o) Q
some_made Q f None h = tt
some_made Q f (Some x) h = h x

some_else : {A : Type 0} (P : A → Type 0) (o : Option A) (d : A) → IfSome o P → P d → P (unwrap_or o d)
some_else P None d h k = k
some_else P (Some x) d h k = h

some_if : {A : Type 0} (P : A → Type 0) (b : Bool) (x : A) → P x → IfSome (cond b (Some x) None) P
some_if P true x h = h
some_if P false x h = tt

item_single : (flag : Option Padding) (letter : ℕ) → IfSome (item_of flag letter) IsSingle
unfolding item_of nodes
item_single flag letter =
    some_or IsSingle (option_map (λ c. Part c) (component_of flag letter)) (option_map (λ t. Literal t) (text_of letter))
    (some_made IsSingle (λ c. Part c) (component_of flag letter) (λ c. refl))
    (some_made IsSingle (λ t. Literal t) (text_of letter) (λ t. refl))

part_single : (b : ℕ) → IsSingle (part_of b)
unfolding part_of nodes
part_single b = some_else IsSingle (item_of None b) (Literal (separator b)) (item_single None b) refl

parts_single : (letters : List ℕ) → AreSingle (map part_of letters)
unfolding all_nodes
parts_single [] = refl
parts_single (b ∷ bs) = omega (arith, part_single b, parts_single bs)

alone_single : (t : Tree) → IsSingle t → AreSingle (t ∷ [])
unfolding all_nodes
alone_single t h = omega (arith, h)

letter_single : (flag : Option Padding) (letter : ℕ) → IfSome (letter_items flag letter) AreSingle
unfolding letter_items nodes
letter_single flag letter =
    some_or AreSingle (option_map (λ t. t ∷ []) (item_of flag letter)) _
    (some_map IsSingle AreSingle (λ t. t ∷ []) (item_of flag letter) alone_single (item_single flag letter))
    (some_or AreSingle (cond (is_in (codes "z") letter) (Some offset) None) (option_map (λ letters. map part_of letters) (composite letter))
    (some_if AreSingle (is_in (codes "z") letter) offset refl)
    (some_made AreSingle (λ letters. map part_of letters) (composite letter) parts_single))

part_items_single : (own rest : List ℕ) (items : List Tree) → SpellsPart own rest items → AreSingle items
unfolding nodes
part_items_single own rest items (inl h) = rw h.means refl
part_items_single own rest items (inr h) = subst (λ (o : Option (List Tree)). IfSome o AreSingle) h.means (letter_single h.flag h.letter)

nodes_append : (ss ts : List Tree) → all_nodes (listed (ss ++ ts)) ≡ all_nodes (listed ss) + all_nodes (listed ts)
unfolding all_nodes
nodes_append [] ts = omega arith
nodes_append (s ∷ ss) ts = omega (arith, nodes_append ss ts)

prefix_single : (text : List ℕ) (parts : List (List Tree)) (rest : List ℕ) → SpellsPrefix text parts rest → AreSingle (joined parts)
unfolding all_nodes
prefix_single text [] rest h = refl
prefix_single text (part ∷ parts) rest (own, more, is_text, is_part, others) =
    omega (arith, part_items_single own more part is_part, prefix_single more parts rest others, nodes_append part (joined parts), length-append part (joined parts))

pub letters_single : (text : List ℕ) (items : List Tree) → SpellsStrftime text items → all_nodes (listed items) ≡ length items
letters_single text items h = rw h.all (prefix_single text h.parts [] h.prefix)
