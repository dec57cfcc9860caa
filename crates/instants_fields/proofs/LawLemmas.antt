-- Objects of one member.
use Rattle.std.proofs.Common.{◌≡◌, ◌∙◌, ℕ, ◌+◌, ◌-◌, ◌≤◌, true, false, List, [], ◌∷◌, ◌++◌, length, Option, Some, ap, arith}
use Rattle.std.specs.List.{AllByRecursion}
use Rattle.std.proofs.lemmas.List.{take_all, drop_all, length-append}
use Rattle.instants_fields.specs.Pieces.{byte, after_byte, without, last, then_more, repeated}
use Rattle.instants_fields.specs.Json.{named, key, Item, item, separator, turn, items, opened, scalar, quoted, value}
use Rattle.instants_fields.specs.Members.{object, member_of, member_in, place_in, found_in, longest}
use Rattle.instants_fields.specs.Laws.{IsPlain, one_member, EachGivesText}
use Rattle.instants_fields.specs.declared.value.Kind.TheVariants as kind
use Rattle.instants_fields.specs.declared.json.Member.{Member}
use Rattle.instants_fields.proofs.Turns.{one_turn}
use Rattle.instants_fields.proofs.PlainLemmas.{plain_string, plain_text, same_bytes}

plain_name : (name rest : List ℕ) → AllByRecursion IsPlain name → named (34 ∷ (name ++ (34 ∷ 58 ∷ 34 ∷ rest))) ≡ Some (Some name, 34 ∷ rest)
unfolding named byte without
plain_name name rest h = rw (plain_string name (58 ∷ 34 ∷ rest) h, plain_text name)

plain_value : (text rest : List ℕ) → AllByRecursion IsPlain text → value 126 (34 ∷ (text ++ (34 ∷ rest))) ≡ Some (kind.String, rest)
unfolding value opened scalar quoted after_byte byte
plain_value text rest h = rw (plain_string text rest h)

abbrev closed : List ℕ → List ℕ
closed text = text ++ (34 ∷ 125 ∷ [])

-- what stands after the opening brace
abbrev inside : List ℕ → List ℕ → List ℕ
inside name text = 34 ∷ (name ++ (34 ∷ 58 ∷ 34 ∷ closed text))

abbrev the_item : List ℕ → List ℕ → Item
the_item name text = record { name = Some name; extent = record { kind = kind.String; before = length (34 ∷ closed text); after = 1 } }

plain_turn : (name text : List ℕ) → AllByRecursion IsPlain name → AllByRecursion IsPlain text → turn true (value 126) (inside name text) ≡ Some (last (the_item name text ∷ []), [])
unfolding turn item key separator byte after_byte without
plain_turn name text p q = rw (plain_name name (closed text) p, plain_value text (125 ∷ []) q)

plain_object : (name text : List ℕ) → AllByRecursion IsPlain name → AllByRecursion IsPlain text → object (one_member name text) ≡ Some (the_item name text ∷ [], [])
unfolding object items byte after_byte without
plain_object name text p q =
    one_turn (turn true (value 126)) (inside name text) ∙ ap (then_more (repeated (turn true (value 126))) (length (inside name text))) (plain_turn name text p q)

abbrev there : ℕ → ℕ → Option Member
there start end = Some (record { start = start; end = end; repeats = false })

placed : (line name : List ℕ) (one : Item) → length line ≤ longest → member_in line name (Some (one ∷ [], [])) ≡ place_in (length line) (found_in name (one ∷ []))
placed line name one short = rw (take_all longest line short, drop_all longest line short)

found : (whole : ℕ) (name text : List ℕ) → place_in whole (found_in name (the_item name text ∷ [])) ≡ there (whole - length (34 ∷ closed text) + 1) (whole - 1 - 1)
found whole name text = rw (same_bytes name)

pub gives_text : EachGivesText
unfolding member_of
gives_text name text p q short =
    let line : List ℕ = one_member name text in
    let long : length line ≡ length name + 7 + length text = omega (arith, length-append name (34 ∷ 58 ∷ 34 ∷ closed text), length-append text (34 ∷ 125 ∷ [])) in
    let start : length line - length (34 ∷ closed text) + 1 ≡ length name + 5 = omega (arith, long, length-append text (34 ∷ 125 ∷ [])) in
    let end : length line - 1 - 1 ≡ length name + 5 + length text = omega (arith, long) in
    ap (λ (l : List ℕ). member_in line name (object l)) (take_all longest line short) ∙ ap (member_in line name) (plain_object name text p q) ∙ placed line name (the_item name text) short ∙ found (length line) name text
    ∙ ap (λ (n : ℕ). there n (length line - 1 - 1)) start ∙ ap (λ (n : ℕ). there (length name + 5) n) end
