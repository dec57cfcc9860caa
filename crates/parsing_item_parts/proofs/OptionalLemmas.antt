-- A byte and a part after it that may be missing together.
use Rattle.std.proofs.Common.{◌≡◌, ◌∙◌, ◌==◌, ℕ, Bool, true, false, List, [], ◌∷◌, ◌++◌, map, take, Option, Some, None, Ok, Err, ap, inl, inr}
use Rattle.std.proofs.lemmas.List.{append-nil}
use Rattle.std.specs.Prelude.{IfSome, bytes_eq}
use Rattle.description_items.specs.Tree.{Tree, Literal, Compound, Optional, listed}
use Rattle.parsing_combinator.specs.Fault.{literal}
use Rattle.parsing_combinator.specs.Pieces.{byte, skip_of}
use Rattle.parsing_components.specs.Meaning.{literally, or_unchanged, optionally}
use Rattle.parsing_components.specs.Reads.{Language, reading, reading_of_all, reads, each_reads}
use Rattle.parsing_components.specs.declared.fields.Record.{Record}
use Rattle.parsing_layout.specs.Items.{SaysItem}
use Rattle.parsing_layout.specs.Layout.{Values}
use Rattle.parsing_layout.specs.declared.parts.Part.{Part}
use Rattle.parsing_layout.specs.declared.items.Item.TheVariants as item
use Rattle.parsing_layout.specs.declared.parts.Part.TheVariants as part
use Rattle.parsing_layout.proofs.PieceLemmas.{inside}
use Rattle.parsing_item_parts.specs.Items.{set_all, IsItem, AreItems, AddsItem, literal_items}
use Rattle.parsing_item_parts.specs.declared.list.Items.{Items}
use Rattle.parsing_item_parts.proofs.ComponentLemmas.{literal_item}
use Rattle.parsing_item_parts.proofs.ItemLemmas.{refused, item_and_items, items_of_parts, no_parts}
use Rattle.std.proofs.Common.{arith}
use Rattle.std.proofs.lemmas.Bool.Decides.{nat_tests}

pub any_format : (language : Language) (format : Bool) (t : Tree) (o : Option Items) (old : Items)
    → IfSome o (AddsItem language (Optional true t) old) → IfSome o (AddsItem language (Optional format t) old)
unfolding reads
any_format language format t o old h = grind (arith, nat_tests)

other_byte : (b : Bool) (c x : ℕ) (xs : List ℕ) → (x == c) ≡ b → byte c (x ∷ xs) ≡ None → bytes_eq (take 1 (x ∷ xs)) (c ∷ []) ≡ false
unfolding skip_of
other_byte b c x xs is e = grind (arith, nat_tests)

no_literal : (language : Language) (c : ℕ) (line : List ℕ) (r : Record) → byte c line ≡ None → reading language (Literal (c ∷ [])) r line ≡ Err literal
unfolding reads literally
no_literal language c line r e = grind (arith, nat_tests, other_byte)

pair_at : (language : Language) (b : ℕ) (t : Tree) (p : Part) → IsItem (reading language t) (p ∷ []) → (line rest : List ℕ) (v : Values)
    (way : List Part) (r new : Record) → SaysItem (item.Optional b p) line v rest way → set_all way v r ≡ Some new
    → reading language (Optional true (Compound (listed (Literal (b ∷ []) ∷ t ∷ [])))) r line ≡ Ok (new, rest)
unfolding reads each_reads optionally
pair_at language b t p is line rest v way r new (inl there) sets =
    let after : IsItem (reading_of_all language (listed (t ∷ []))) (p ∷ []) = item_and_items language t [] (p ∷ []) [] is (no_parts language) in
    let both : IsItem (reading_of_all language (listed (Literal (b ∷ []) ∷ t ∷ []))) (part.Byte b ∷ p ∷ []) =
    item_and_items language (Literal (b ∷ [])) (t ∷ []) (part.Byte b ∷ []) (p ∷ []) (literal_item language (b ∷ [])) after in
    ap (λ a. or_unchanged a r line) (both line v rest r new there.1 (rw there.0 at sets))
pair_at language b t p is line rest v way r new (inr missing) sets =
    let same : r ≡ new = inside r new (rw missing.none at sets) in
    ap (λ a. or_unchanged a r line) (refused language (Literal (b ∷ [])) (t ∷ []) r line literal (no_literal language b line r missing.other))
    ∙ ap (λ (x : Record). Ok (x, line)) same ∙ ap (λ (xs : List ℕ). Ok (new, xs)) missing.same

pub pair_item : (language : Language) (b : ℕ) (t : Tree) (p : Part) → IsItem (reading language t) (p ∷ [])
    → AreItems (reading language (Optional true (Compound (listed (Literal (b ∷ []) ∷ t ∷ []))))) (item.Optional b p ∷ [])
pair_item language b t p is line v rest way r new says sets =
    let all : way ≡ says.1 = says.3 ∙ ap (λ (xs : List Part). says.1 ++ xs) says.5.0 ∙ append-nil says.1 in
    pair_at language b t p is line says.0 v says.1 r new says.4 (rw all at sets) ∙ ap (λ (xs : List ℕ). Ok (new, xs)) says.5.1

-- ---- a literal

pub literal_read : (language : Language) (text : List ℕ) → AreItems (reading language (Literal text)) (literal_items text)
literal_read language text = items_of_parts (reading language (Literal text)) (map part.Byte text) (literal_item language text)
