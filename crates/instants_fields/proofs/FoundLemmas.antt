-- The members of a name, one by one.
use Rattle.std.proofs.Common.{◌≡◌, refl, sym, ◌∙◌, ℕ, ◌<◌, ◌≤◌, ◌==◌, Bool, true, false, ◌||◌, ◌&&◌, cond, nat_lt, List, [], ◌∷◌, length, take, drop, filter, Option, Some, None, ap, arith}
use Rattle.std.specs.List.{list_all}
use Rattle.instants_fields.specs.Pieces.{Piece, then_cut, ◌>>=◌, ◌>>◌, give, left, rest_of, then_more, with_first, repeated, byte, after_byte, without}
use Rattle.instants_fields.specs.Strings.{string, text_of, is_text}
use Rattle.instants_fields.specs.Compared.{says_after}
use Rattle.instants_fields.specs.Json.{is_space, space, named, key, Item, item, item_named, closing, separator, turn_of, ended, turn, items, value}
use Rattle.instants_fields.specs.Members.{has_name, found_in, first_of_all, object, longest, member_in, member_of, place_in}
use Rattle.instants_fields.specs.Found.{with_place, noted, with_item, found_with, joined, found_of, AreWithin}
use Rattle.instants_fields.specs.declared.string.Character.{Character}
use Rattle.instants_fields.specs.declared.value.Kind.{Kind}
use Rattle.instants_fields.specs.declared.json.Found.{Found}
use Rattle.instants_fields.specs.declared.json.Member.{Member}
use Rattle.instants_fields.proofs.Turns.{one_turn, if_below}

-- a member: its name between quotation marks, a colon, and its value
abbrev pub by_value : Option Found → Bool → Option (ℕ × Kind × List ℕ) → Option (Option Found × List ℕ)
by_value found is_named None = None
by_value found is_named (Some (before, k, rest)) =
    Some (cond is_named (Some (noted found (record { kind = k; before = before; after = length rest }))) found, rest)

abbrev pub by_colon : Option Found → Piece Kind → Bool → Option (List ℕ) → Option (Option Found × List ℕ)
by_colon found v is_named None = None
by_colon found v is_named (Some rest) = by_value found is_named (with_place (length (without is_space rest)) (v (without is_space rest)))

abbrev pub by_name : Option Found → Piece Kind → Bool → Option (List ℕ) → Option (Option Found × List ℕ)
by_name found v is_named None = None
by_name found v is_named (Some rest) = by_colon found v is_named (rest_of (byte 58 (without is_space rest)))

abbrev pub by_mark : List ℕ → Option Found → Piece Kind → Option (List ℕ) → Option (Option Found × List ℕ)
by_mark name found v None = None
by_mark name found v (Some text) = by_name found v (says_after None name (string text)) (rest_of (string text))

value_of_member : (name : List ℕ) (found : Option Found) (its : Option (List ℕ)) (before : ℕ) (r : Option (Kind × List ℕ)) →
    found_with name found (then_cut r (λ k. left >>= (λ after. give (record { name = its; extent = record { kind = k; before = before; after = after } })))) ≡ by_value found (is_text name its) (with_place before r)
value_of_member name found its before None = refl
value_of_member name found its before (Some (k, rest)) = refl

colon_of_member : (name : List ℕ) (found : Option Found) (v : Piece Kind) (its : Option (List ℕ)) (r : Option (Unit {0} × List ℕ)) →
    found_with name found (then_cut (then_cut r (λ _. space >> give its)) (item_named v)) ≡ by_colon found v (is_text name its) (rest_of r)
colon_of_member name found v its None = refl
colon_of_member name found v its (Some (u, rest)) = value_of_member name found its (length (without is_space rest)) (v (without is_space rest))

name_of_member : (name : List ℕ) (found : Option Found) (v : Piece Kind) (r : Option (List Character × List ℕ)) →
    found_with name found (then_cut (then_cut r (λ characters. space >> (byte 58 >> (space >> give (text_of characters))))) (item_named v)) ≡ by_name found v (says_after None name r) (rest_of r)
name_of_member name found v None = refl
name_of_member name found v (Some (characters, rest)) = colon_of_member name found v (text_of characters) (byte 58 (without is_space rest))

mark_of_member : (name : List ℕ) (found : Option Found) (v : Piece Kind) (r : Option (Unit {0} × List ℕ)) →
    found_with name found (then_cut (then_cut r (λ _. string >>= (λ characters. space >> (byte 58 >> (space >> give (text_of characters)))))) (item_named v)) ≡ by_mark name found v (rest_of r)
mark_of_member name found v None = refl
mark_of_member name found v (Some (u, text)) = name_of_member name found v (string text)

pub member_is : (name : List ℕ) (found : Option Found) (v : Piece Kind) (text : List ℕ) → found_with name found (item true v text) ≡ by_mark name found v (rest_of (byte 34 text))
unfolding item key named
member_is name found v text = mark_of_member name found v (byte 34 text)

-- ---- one member, and then the others

abbrev pub after_separator : ℕ → (List ℕ → Option (Option Found × List ℕ)) → Option Found → Option (Bool × List ℕ) → Option (Option Found × List ℕ)
after_separator room more found None = None
after_separator room more found (Some (true, rest)) = Some (found, rest)
after_separator room more found (Some (false, rest)) = cond (nat_lt (length rest) room) (more rest) None

abbrev pub after_member : ℕ → (Option Found → List ℕ → Option (Option Found × List ℕ)) → Option (Option Found × List ℕ) → Option (Option Found × List ℕ)
after_member room more None = None
after_member room more (Some (found, rest)) = after_separator room (more found) found (separator true (without is_space rest))

or_true : (b : Bool) → (b || true) ≡ true
or_true true = refl
or_true false = refl

or_false : (b : Bool) → (b || false) ≡ b
or_false true = refl
or_false false = refl

none_joined : (found : Option Found) → joined found None ≡ found
none_joined None = refl
none_joined (Some found) = ap (λ b. Some (record { extent = found.extent; repeats = b })) (or_false found.repeats)

-- one more of the name, before the others
one_joined : (found : Option Found) (one : Item) (more : List Item) → joined found (first_of_all (one ∷ more)) ≡ joined (Some (noted found one.extent)) (first_of_all more)
one_joined None one [] = refl
one_joined None one (other ∷ []) = refl
one_joined None one (other ∷ next ∷ more) = refl
one_joined (Some found) one [] = ap (λ b. Some (record { extent = found.extent; repeats = b })) (or_true found.repeats)
one_joined (Some found) one (other ∷ []) = ap (λ b. Some (record { extent = found.extent; repeats = b })) (or_true found.repeats)
one_joined (Some found) one (other ∷ next ∷ more) = ap (λ b. Some (record { extent = found.extent; repeats = b })) (or_true found.repeats)

named_joined : (found : Option Found) (is_named : Bool) (one : Item) (more : List Item) →
    joined found (first_of_all (cond is_named (one ∷ more) more)) ≡ joined (cond is_named (Some (noted found one.extent)) found) (first_of_all more)
named_joined found true one more = one_joined found one more
named_joined found false one more = refl

found_more : (name : List ℕ) (found : Option Found) (one : Item) (more : List Item) → joined found (found_in name (one ∷ more)) ≡ joined (with_item name found one) (found_in name more)
found_more name found one more = named_joined found (has_name name one) one (filter (has_name name) more)

found_last : (name : List ℕ) (found : Option Found) (one : Item) → joined found (found_in name (one ∷ [])) ≡ with_item name found one
found_last name found one = found_more name found one [] ∙ none_joined (with_item name found one)

if_found : (b : Bool) (name : List ℕ) (found : Option Found) (one : Item) (r : Option (List Item × List ℕ)) →
    found_of name found (cond b (with_first one r) None) ≡ cond b (found_of name (with_item name found one) r) None
if_found false name found one r = refl
if_found true name found one None = refl
if_found true name found one (Some (more, rest)) = ap (λ f. Some (f, rest)) (found_more name found one more)

member_ended : (name : List ℕ) (found : Option Found) (room : ℕ) (more : Piece (List Item)) (one : Item) (r : Option (Bool × List ℕ)) →
    found_of name found (then_more more room (then_cut r (λ is_last. give (turn_of one is_last)))) ≡ after_separator room (λ rest. found_of name (with_item name found one) (more rest)) (with_item name found one) r
member_ended name found room more one None = refl
member_ended name found room more one (Some (true, rest)) = ap (λ f. Some (f, rest)) (found_last name found one)
member_ended name found room more one (Some (false, rest)) = if_found (nat_lt (length rest) room) name found one (more rest)

member_then : (name : List ℕ) (found : Option Found) (room : ℕ) (more : Piece (List Item)) (r : Option (Item × List ℕ)) →
    found_of name found (then_more more room (then_cut r (ended true))) ≡ after_member room (λ found rest. found_of name found (more rest)) (found_with name found r)
member_then name found room more None = refl
member_then name found room more (Some (one, rest)) = member_ended name found room more one (separator true (without is_space rest))

pub one_member : (name : List ℕ) (found : Option Found) (v : Piece Kind) (text : List ℕ) →
    found_of name found (repeated (turn true v) text)
    ≡ after_member (length text) (λ found rest. found_of name found (repeated (turn true v) rest)) (found_with name found (item true v (without is_space text)))
unfolding turn
one_member name found v text = ap (found_of name found) (one_turn (turn true v) text) ∙ member_then name found (length text) (repeated (turn true v)) (item true v (without is_space text))

-- a member that another follows
pub next_member : (name : List ℕ) (found : Option Found) (v : Piece Kind) (text first : List ℕ) (then_found : Option Found) (valued second : List ℕ) (is_last : Bool) (next : List ℕ) →
    first ≡ without is_space text → Some (then_found, valued) ≡ found_with name found (item true v first) → second ≡ without is_space valued → Some (is_last, next) ≡ separator true second → is_last ≡ false → length next < length text →
    found_of name then_found (repeated (turn true v) next) ≡ found_of name found (repeated (turn true v) text)
next_member name found v text first then_found valued second is_last next first_is member_is second_is end_is goes_on lt =
    let more : Option Found → List ℕ → Option (Option Found × List ℕ) = λ found rest. found_of name found (repeated (turn true v) rest) in
    let member_of_text = λ (t : List ℕ). after_member (length text) more (found_with name found (item true v t)) in
    let end_of = λ (t : List ℕ). after_separator (length text) (more then_found) then_found (separator true t) in
    let last_of = λ (b : Bool). after_separator (length text) (more then_found) then_found (Some (b, next)) in
    sym (one_member name found v text ∙ ap member_of_text (sym first_is) ∙ ap (after_member (length text) more) (sym member_is)
    ∙ ap end_of (sym second_is) ∙ ap (after_separator (length text) (more then_found) then_found) (sym end_is) ∙ ap last_of goes_on ∙ if_below (length next) (length text) (more then_found next) None lt)

-- ---- members, or none

abbrev pub after_closing : List ℕ → (List ℕ → Option (Option Found × List ℕ)) → Option (List ℕ) → Option (Option Found × List ℕ)
after_closing text more None = more text
after_closing text more (Some rest) = Some (None, rest)

at_closing : (name : List ℕ) (more : Piece (List Item)) (wanted : ℕ) (text : List ℕ) →
    found_of name None (after_byte wanted (give []) more text) ≡ after_closing text (λ rest. found_of name None (more rest)) (rest_of (byte wanted text))
unfolding after_byte byte
at_closing name more wanted [] = refl
at_closing name more wanted (c ∷ rest) = elim (c == wanted) as (λ b. found_of name None (cond b (give [] rest) (more (c ∷ rest))) ≡ after_closing (c ∷ rest) (λ rest. found_of name None (more rest)) (rest_of (cond b (Some (tt, rest)) None))) [ true ↦ refl | false ↦ refl ]

pub items_are : (name : List ℕ) (v : Piece Kind) (text : List ℕ) →
    found_of name None (items true v text) ≡ after_closing (without is_space text) (λ rest. found_of name None (repeated (turn true v) rest)) (rest_of (byte (closing true) (without is_space text)))
unfolding items
items_are name v text = at_closing name (repeated (turn true v)) (closing true) (without is_space text)

-- ---- a line

abbrev pub in_braces : List ℕ → Option (List ℕ) → Option (Option Found × List ℕ)
in_braces name None = None
in_braces name (Some rest) = found_of name None (items true (value 126) rest)

braces_are : (name : List ℕ) (r : Option (Unit {0} × List ℕ)) → found_of name None (then_cut r (λ _. items true (value 126))) ≡ in_braces name (rest_of r)
braces_are name None = refl
braces_are name (Some p) = refl

pub object_is : (name text : List ℕ) → found_of name None (object text) ≡ in_braces name (rest_of (byte 123 (without is_space text)))
unfolding object
object_is name text = braces_are name (byte 123 (without is_space text))

abbrev pub placed : List ℕ → Option (Option Found × List ℕ) → Option Member
placed line None = None
placed line (Some (found, rest)) =
    cond (list_all is_space rest && list_all is_space (drop longest line)) (place_in (length (take longest line)) found) None

placed_is : (line name : List ℕ) (r : Option (List Item × List ℕ)) → member_in line name r ≡ placed line (found_of name None r)
placed_is line name None = refl
placed_is line name (Some p) = refl

pub member_of_is : (line name : List ℕ) → member_of line name ≡ placed line (found_of name None (object (take longest line)))
unfolding member_of
member_of_is line name = placed_is line name (object (take longest line))

pub within_more : (less whole : ℕ) (found : Option Found) → AreWithin less found → less ≤ whole → AreWithin whole found
within_more less whole None h le = tt
within_more less whole (Some found) h le = record { before = omega arith; after = h.after }
