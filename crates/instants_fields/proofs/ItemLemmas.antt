-- Items, one by one.
use Rattle.std.proofs.Common.{◌≡◌, refl, sym, ◌∙◌, ℕ, zero, suc, ◌<◌, ◌≤◌, ◌-◌, Bool, true, false, cond, ◌==◌, nat_lt, List, [], ◌∷◌, length, get_or, Option, Some, None, ap, arith}
use Rattle.std.proofs.lemmas.Bool.Decides.{nat_tests}
use Rattle.instants_fields.specs.Pieces.{Piece, then_cut, ◌>>=◌, give, left, rest_of, then_more, with_first, repeated, byte, after_byte, without}
use Rattle.instants_fields.specs.Json.{is_space, key, Item, item, item_named, closing, separator, turn_of, ended, turn, items, opened, value_in, value, scalar, quoted, number}
use Rattle.instants_fields.specs.Found.{as_other, with_place}
use Rattle.instants_fields.specs.declared.value.Kind.{Kind}
use Rattle.instants_fields.specs.declared.value.Kind.TheVariants as kind
use Rattle.instants_fields.proofs.Turns.{one_turn, if_below}
use Rattle.instants_fields.proofs.StringLemmas.{mark_first}

abbrev pub after_separator : ℕ → (List ℕ → Option (Kind × List ℕ)) → Option (Bool × List ℕ) → Option (Kind × List ℕ)
after_separator room more None = None
after_separator room more (Some (true, rest)) = Some (kind.Other, rest)
after_separator room more (Some (false, rest)) = cond (nat_lt (length rest) room) (more rest) None

abbrev pub after_value : Bool → ℕ → (List ℕ → Option (Kind × List ℕ)) → Option (Kind × List ℕ) → Option (Kind × List ℕ)
after_value is_object room more None = None
after_value is_object room more (Some (k, rest)) = after_separator room more (separator is_object (without is_space rest))

abbrev pub after_name : Bool → Piece Kind → ℕ → (List ℕ → Option (Kind × List ℕ)) → Option (List ℕ) → Option (Kind × List ℕ)
after_name is_object v room more None = None
after_name is_object v room more (Some rest) = after_value is_object room more (v rest)

if_other : (b : Bool) (one : Item) (r : Option (List Item × List ℕ)) → as_other (cond b (with_first one r) None) ≡ cond b (as_other r) None
if_other false one r = refl
if_other true one None = refl
if_other true one (Some p) = refl

other_ended : (room : ℕ) (more : Piece (List Item)) (one : Item) (r : Option (Bool × List ℕ)) →
    as_other (then_more more room (then_cut r (λ is_last. give (turn_of one is_last)))) ≡ after_separator room (λ rest. as_other (more rest)) r
other_ended room more one None = refl
other_ended room more one (Some (true, rest)) = refl
other_ended room more one (Some (false, rest)) = if_other (nat_lt (length rest) room) one (more rest)

other_value : (is_object : Bool) (room : ℕ) (more : Piece (List Item)) (name : Option (List ℕ)) (before : ℕ) (r : Option (Kind × List ℕ)) →
    as_other (then_more more room (then_cut (then_cut r (λ k. left >>= (λ after. give (record { name = name; extent = record { kind = k; before = before; after = after } })))) (ended is_object)))
    ≡ after_value is_object room (λ rest. as_other (more rest)) r
other_value is_object room more name before None = refl
other_value is_object room more name before (Some (k, rest)) = other_ended room more _ (separator is_object (without is_space rest))

other_name : (is_object : Bool) (v : Piece Kind) (room : ℕ) (more : Piece (List Item)) (r : Option (Option (List ℕ) × List ℕ)) →
    as_other (then_more more room (then_cut (then_cut r (item_named v)) (ended is_object))) ≡ after_name is_object v room (λ rest. as_other (more rest)) (rest_of r)
other_name is_object v room more None = refl
other_name is_object v room more (Some (name, rest)) = other_value is_object room more name (length rest) (v rest)

-- one item, and then the others
pub one_item : (is_object : Bool) (v : Piece Kind) (text : List ℕ) →
    as_other (repeated (turn is_object v) text)
    ≡ after_name is_object v (length text) (λ rest. as_other (repeated (turn is_object v) rest)) (rest_of (key is_object (without is_space text)))
unfolding turn item
one_item is_object v text = ap as_other (one_turn (turn is_object v) text) ∙ other_name is_object v (length text) (repeated (turn is_object v)) (key is_object (without is_space text))

-- an item that another follows
pub next_item : (is_object : Bool) (v : Piece Kind) (text first named : List ℕ) (k : Kind) (valued second : List ℕ) (is_last : Bool) (next : List ℕ) →
    first ≡ without is_space text → Some named ≡ rest_of (key is_object first) → Some (k, valued) ≡ v named → second ≡ without is_space valued → Some (is_last, next) ≡ separator is_object second → is_last ≡ false → length next < length text →
    as_other (repeated (turn is_object v) next) ≡ as_other (repeated (turn is_object v) text)
next_item is_object v text first named k valued second is_last next first_is name_is value_is second_is end_is goes_on lt =
    let more : List ℕ → Option (Kind × List ℕ) = λ rest. as_other (repeated (turn is_object v) rest) in
    let name_of = λ (t : List ℕ). after_name is_object v (length text) more (rest_of (key is_object t)) in
    let end_of = λ (t : List ℕ). after_separator (length text) more (separator is_object t) in
    let last_of = λ (b : Bool). after_separator (length text) more (Some (b, next)) in
    sym (one_item is_object v text ∙ ap name_of (sym first_is) ∙ ap (after_name is_object v (length text) more) (sym name_is) ∙ ap (after_value is_object (length text) more) (sym value_is)
    ∙ ap end_of (sym second_is) ∙ ap (after_separator (length text) more) (sym end_is) ∙ ap last_of goes_on ∙ if_below (length next) (length text) (more next) None lt)

-- a string
string_value : (levels : ℕ) (rest : List ℕ) → value levels (34 ∷ rest) ≡ quoted rest
unfolding value opened scalar after_byte byte
string_value zero rest = refl
string_value (suc n) rest = refl

pub string_is : (levels : ℕ) (text rest : List ℕ) → Some rest ≡ rest_of (byte 34 text) → value levels text ≡ quoted rest
string_is levels text rest h = ap (value levels) (mark_first text rest h) ∙ string_value levels rest

-- a string that nothing stands before
pub string_here : (levels : ℕ) (text rest : List ℕ) → Some rest ≡ rest_of (byte 34 text) →
    with_place (length (without is_space text)) (value levels (without is_space text)) ≡ with_place (length text) (quoted rest)
unfolding without
string_here levels text rest h =
    let at_mark : text ≡ 34 ∷ rest = mark_first text rest h in
    ap (λ (t : List ℕ). with_place (length (without is_space t)) (value levels (without is_space t))) at_mark
    ∙ ap (with_place (length (34 ∷ rest))) (string_value levels rest) ∙ ap (λ (t : List ℕ). with_place (length t) (quoted rest)) (sym at_mark)

-- a number
number_value : (levels c : ℕ) (rest : List ℕ) → 45 ≤ c → c ≤ 57 → value levels (c ∷ rest) ≡ number (c ∷ rest)
unfolding value opened scalar after_byte byte
number_value zero c rest low high =
    let a : (c == 34) ≡ false = grind (arith, nat_tests, low) in
    let b : (c == 116) ≡ false = grind (arith, nat_tests, high) in
    let d : (c == 102) ≡ false = grind (arith, nat_tests, high) in
    let e : (c == 110) ≡ false = grind (arith, nat_tests, high) in
    rw (a, b, d, e)
number_value (suc n) c rest low high =
    let f : (c == 123) ≡ false = grind (arith, nat_tests, high) in
    let g : (c == 91) ≡ false = grind (arith, nat_tests, high) in
    let a : (c == 34) ≡ false = grind (arith, nat_tests, low) in
    let b : (c == 116) ≡ false = grind (arith, nat_tests, high) in
    let d : (c == 102) ≡ false = grind (arith, nat_tests, high) in
    let e : (c == 110) ≡ false = grind (arith, nat_tests, high) in
    rw (f, g, a, b, d, e)

no_space : (c : ℕ) (rest : List ℕ) → 33 ≤ c → without is_space (c ∷ rest) ≡ c ∷ rest
unfolding without
no_space c rest low =
    let a : (c == 32) ≡ false = grind (arith, nat_tests, low) in
    let b : (c == 9) ≡ false = grind (arith, nat_tests, low) in
    let d : (c == 10) ≡ false = grind (arith, nat_tests, low) in
    let e : (c == 13) ≡ false = grind (arith, nat_tests, low) in
    rw (a, b, d, e)

-- a number that nothing stands before
pub number_here : (levels : ℕ) (text : List ℕ) → 1 ≤ length text → 45 ≤ get_or text 0 0 → get_or text 0 0 ≤ 57 →
    with_place (length (without is_space text)) (value levels (without is_space text)) ≡ with_place (length text) (number text)
number_here levels [] long low high = absurd (omega (arith, long))
number_here levels (c ∷ rest) long low high =
    ap (λ (t : List ℕ). with_place (length t) (value levels t)) (no_space c rest (omega (arith, low))) ∙ ap (with_place (suc (length rest))) (number_value levels c rest low high)

-- an array or an object without items, or with some
abbrev pub after_closing : List ℕ → (List ℕ → Option (Kind × List ℕ)) → Option (List ℕ) → Option (Kind × List ℕ)
after_closing text more None = more text
after_closing text more (Some rest) = Some (kind.Other, rest)

at_closing : (wanted : ℕ) (more : Piece (List Item)) (text : List ℕ) → as_other (after_byte wanted (give []) more text) ≡ after_closing text (λ rest. as_other (more rest)) (rest_of (byte wanted text))
unfolding after_byte byte
at_closing wanted more [] = refl
at_closing wanted more (c ∷ rest) = elim (c == wanted) as (λ b. as_other (cond b (give [] rest) (more (c ∷ rest))) ≡ after_closing (c ∷ rest) (λ rest. as_other (more rest)) (rest_of (cond b (Some (tt, rest)) None))) [ true ↦ refl | false ↦ refl ]

pub items_are : (is_object : Bool) (v : Piece Kind) (text : List ℕ) →
    as_other (items is_object v text) ≡ after_closing (without is_space text) (λ rest. as_other (repeated (turn is_object v) rest)) (rest_of (byte (closing is_object) (without is_space text)))
unfolding items
items_are is_object v text = at_closing (closing is_object) (repeated (turn is_object v)) (without is_space text)

pred : (n : ℕ) → n ≡ suc n - 1
pred n = omega arith

pub value_is : (levels : ℕ) (text : List ℕ) → 0 < levels → value levels text ≡ value_in (value (levels - 1)) text (opened text)
unfolding value
value_is zero text h = absurd (omega arith)
value_is (suc n) text h = ap (λ m. value_in (value m) text (opened text)) (pred n)

pub no_levels : (levels : ℕ) (text : List ℕ) → levels ≡ 0 → value levels text ≡ scalar text
unfolding value
no_levels zero text e = refl
no_levels (suc n) text e = absurd (omega arith)
