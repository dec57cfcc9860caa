-- Strings, character by character.
use Rattle.std.proofs.Common.{◌≡◌, refl, ◌∙◌, ℕ, ◌==◌, ◌&&◌, Bool, true, false, cond, nat_lt, nat_eq, List, [], ◌∷◌, ◌++◌, length, take, drop, Option, Some, None, ap, arith}
use Rattle.std.specs.Str.{bytes_eq}
use Rattle.std.proofs.lemmas.Bool.Decides.{nat_tests}
use Rattle.std.specs.Char.{encode_utf8}
use Rattle.instants_fields.specs.Pieces.{Piece, byte, then_cut, give, rest_of, then_more, with_first, repeated}
use Rattle.instants_fields.specs.Strings.{character, turn, turn_of, string, is_text, text_after, after_bytes, is_high, is_low, pair}
use Rattle.instants_fields.specs.Compared.{behind, matched, no_surrogate, says_after}
use Rattle.instants_fields.specs.declared.string.Character.{Character}
use Rattle.instants_fields.specs.declared.string.Character.TheVariants.{Plain, Escaped}
use Rattle.instants_fields.proofs.Turns.{one_turn, rest_of_turn, rest_more}

-- what stands behind a string that begins with a character
abbrev pub behind_one : (List ℕ → Option (List ℕ)) → ℕ → Option (Option Character × List ℕ) → Option (List ℕ)
behind_one more room None = None
behind_one more room (Some (None, rest)) = Some rest
behind_one more room (Some (Some c, rest)) = cond (nat_lt (length rest) room) (more rest) None

as_turn : (more : List ℕ → Option (List ℕ)) (room : ℕ) (r : Option (Option Character × List ℕ)) → rest_more more room (then_cut r (λ one. give (turn_of one))) ≡ behind_one more room r
as_turn more room None = refl
as_turn more room (Some (None, rest)) = refl
as_turn more room (Some (Some c, rest)) = refl

pub behind_character : (text : List ℕ) → rest_of (string text) ≡ behind_one (λ rest. rest_of (string rest)) (length text) (character text)
unfolding string turn
behind_character text = rest_of_turn turn text ∙ as_turn (λ rest. rest_of (repeated turn rest)) (length text) (character text)

mark_if : (b : Bool) (c : ℕ) (more rest : List ℕ) → (c == 34) ≡ b → Some rest ≡ rest_of {A = Unit {0}} (cond b (Some (tt, more)) None) → c ∷ more ≡ 34 ∷ rest
mark_if true c more rest e h = let is : c ≡ 34 = grind (arith, nat_tests, e) in cc
mark_if false c more rest e h = cc

-- a quotation mark, and what stands after it
pub mark_first : (text rest : List ℕ) → Some rest ≡ rest_of (byte 34 text) → text ≡ 34 ∷ rest
unfolding byte
mark_first [] rest h = cc
mark_first (c ∷ more) rest h = mark_if (c == 34) c more rest refl h

at_mark : (rest : List ℕ) → rest_of (string (34 ∷ rest)) ≡ Some rest
unfolding character
at_mark rest = behind_character (34 ∷ rest)

pub behind_mark : (text rest : List ℕ) → Some rest ≡ rest_of (byte 34 text) → rest_of (string text) ≡ Some rest
behind_mark text rest h = ap (λ (t : List ℕ). rest_of (string t)) (mark_first text rest h) ∙ at_mark rest

-- ---- what a string says

abbrev behind_text : Option (List ℕ) → Option (List ℕ) → Bool
behind_text None text = false
behind_text (Some due) text = is_text due text

and_if : (p q r x : Bool) → x ≡ cond q r false → (p && x) ≡ cond (p && q) r false
and_if true q r x e = e
and_if false q r x e = refl

-- bytes that are due are there
joined : (bytes due text : List ℕ) → bytes_eq due (bytes ++ text) ≡ cond (bytes_eq (take (length bytes) due) bytes) (bytes_eq (drop (length bytes) due) text) false
joined [] [] text = refl
joined [] (d ∷ due) text = refl
joined (b ∷ bytes) [] text = refl
joined (b ∷ bytes) (d ∷ due) text = and_if (nat_eq d b) (bytes_eq (take (length bytes) due) bytes) _ _ (joined bytes due text)

if_behind : (b : Bool) (due text : List ℕ) → cond b (bytes_eq due text) false ≡ behind_text (cond b (Some due) None) (Some text)
if_behind true due text = refl
if_behind false due text = refl

if_none : (b : Bool) (due : List ℕ) → false ≡ behind_text (cond b (Some due) None) None
if_none true due = refl
if_none false due = refl

behind_is : (bytes due : List ℕ) (text : Option (List ℕ)) → is_text due (after_bytes bytes text) ≡ behind_text (behind bytes due) text
behind_is bytes due None = if_none (bytes_eq (take (length bytes) due) bytes) (drop (length bytes) due)
behind_is bytes due (Some text) = joined bytes due text ∙ if_behind (bytes_eq (take (length bytes) due) bytes) (drop (length bytes) due) text

-- what is due after a character
abbrev matched_text : Option (Option ℕ × List ℕ) → List Character → Bool
matched_text None more = false
matched_text (Some (high, due)) more = is_text due (text_after high more)

alone : (r : Option (List ℕ)) (more : List Character) → behind_text r (text_after None more) ≡ matched_text (no_surrogate r) more
alone None more = refl
alone (Some due) more = refl

escape_is : (high low : Bool) (code : ℕ) (due : List ℕ) (more : List Character) →
    is_text due (cond high (text_after (Some code) more) (cond low None (after_bytes (encode_utf8 code) (text_after None more))))
    ≡ matched_text (cond high (Some (Some code, due)) (cond low None (no_surrogate (behind (encode_utf8 code) due)))) more
escape_is true low code due more = refl
escape_is false true code due more = refl
escape_is false false code due more = behind_is (encode_utf8 code) due (text_after None more) ∙ alone (behind (encode_utf8 code) due) more

pair_is : (low : Bool) (code : ℕ) (due : List ℕ) (more : List Character) →
    is_text due (cond low (after_bytes (encode_utf8 code) (text_after None more)) None) ≡ matched_text (cond low (no_surrogate (behind (encode_utf8 code) due)) None) more
pair_is true code due more = behind_is (encode_utf8 code) due (text_after None more) ∙ alone (behind (encode_utf8 code) due) more
pair_is false code due more = refl

matched_is : (high : Option ℕ) (one : Character) (due : List ℕ) (more : List Character) → is_text due (text_after high (one ∷ more)) ≡ matched_text (matched high one due) more
matched_is None (Plain c) due more = behind_is (c ∷ []) due (text_after None more) ∙ alone (behind (c ∷ []) due) more
matched_is None (Escaped code) due more = escape_is (is_high code) (is_low code) code due more
matched_is (Some high) (Plain c) due more = refl
matched_is (Some high) (Escaped code) due more = pair_is (is_low code) (pair high code) due more

-- what a string says that begins with a character
abbrev pub says_matched : Option (Option ℕ × List ℕ) → Option (List Character × List ℕ) → Bool
says_matched None more = false
says_matched (Some (high, due)) more = says_after high due more

abbrev pub says_one : Option ℕ → List ℕ → ℕ → (List ℕ → Option (List Character × List ℕ)) → Option (Option Character × List ℕ) → Bool
says_one high due room more None = false
says_one high due room more (Some (None, rest)) = is_text due (text_after high [])
says_one high due room more (Some (Some c, rest)) = cond (nat_lt (length rest) room) (says_matched (matched high c due) (more rest)) false

never : (r : Option (Option ℕ × List ℕ)) → false ≡ says_matched r None
never None = refl
never (Some p) = refl

also : (r : Option (Option ℕ × List ℕ)) (more : List Character) (rest : List ℕ) → matched_text r more ≡ says_matched r (Some (more, rest))
also None more rest = refl
also (Some p) more rest = refl

one_says : (b : Bool) (high : Option ℕ) (c : Character) (due : List ℕ) (r : Option (List Character × List ℕ)) → says_after high due (cond b (with_first c r) None) ≡ cond b (says_matched (matched high c due) r) false
one_says false high c due r = refl
one_says true high c due None = never (matched high c due)
one_says true high c due (Some (more, rest)) = matched_is high c due more ∙ also (matched high c due) more rest

turn_says : (high : Option ℕ) (due : List ℕ) (room : ℕ) (more : Piece (List Character)) (r : Option (Option Character × List ℕ)) → says_after high due (then_more more room (then_cut r (λ one. give (turn_of one)))) ≡ says_one high due room more r
turn_says high due room more None = refl
turn_says high due room more (Some (None, rest)) = refl
turn_says high due room more (Some (Some c, rest)) = one_says (nat_lt (length rest) room) high c due (more rest)

pub says_character : (high : Option ℕ) (due text : List ℕ) → says_after high due (string text) ≡ says_one high due (length text) string (character text)
unfolding string turn
says_character high due text = ap (says_after high due) (one_turn turn text) ∙ turn_says high due (length text) (repeated turn) (character text)
