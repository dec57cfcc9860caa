-- The first source that names a moment.
use Rattle.std.proofs.Common.{◌≡◌, ◌<◌, ◌≤◌, ◌+◌, ℕ, List, [], ◌∷◌, length, get_or, drop, map, sym, ◌∙◌, Option, None, Some, Result, Ok, Err, refl, ap, unwrap_or, IfSome, ℤ}
use Rattle.std.proofs.lemmas.List.{drop_more, drop_all, drop-map}
use Rattle.std.specs.Option.{ok_or, option_map}
use Rattle.std.specs.Result.{result_ok}
use Rattle.datetime_wall.specs.Wall.{Shown}
use Rattle.parsing_values.specs.Moment.{moment_of}
use Rattle.parsing_values.specs.declared.fields.Fields.{Fields}
use Rattle.parsing_combinator.specs.Fault.{Fault}
use Rattle.instants_answers.specs.Line.{HoldsLine}
use Rattle.parsing_rfc3339.specs.Direct.{direct}
use Rattle.instants_sources.specs.Grammar.{Grammar, Rfc3339, grammar_of}
use Rattle.instants_sources.specs.declared.source.Source.{Source}
use Rattle.instants_sources.proofs.Roads.{found_named}
use Rattle.instants_sources.specs.Named.{named, IsDirect, IsNamedBy}
use Rattle.instants_timeline.specs.Place.{Setting, or_named, first_named, place_of, place_text, shown_or_refused, answer_to}
use Rattle.instants_faults.specs.Refusal.{refusal_of, refusal_text}
use Rattle.instants_timeline.specs.FirstNamed.{HoldsAnswer, IsLedBy, NamesFrom}

here : (o : Result Shown Fault) (others : Option Shown) (moment : Shown) → result_ok o ≡ Some moment → result_ok (or_named o others) ≡ Some moment
here (Ok m) others moment e = e
here (Err f) others moment e = absurd cc

-- a source that names one
first_named-here : (assumed : Option ℤ) (grammar : Grammar) (others : List Grammar) (line : List ℕ) (moment : Shown) → result_ok (named assumed grammar line) ≡ Some moment → result_ok (first_named assumed (grammar ∷ others) line) ≡ Some moment
unfolding first_named
first_named-here assumed grammar others line moment e = here (named assumed grammar line) (result_ok (first_named assumed others line)) moment e

pub result_ok-ok_or : (o : Option Shown) (fault : Fault) → result_ok (ok_or o fault) ≡ o
result_ok-ok_or None fault = refl
result_ok-ok_or (Some m) fault = refl

later : (o : Result Shown Fault) (others : Option Shown) → result_ok o ≡ None → result_ok (or_named o others) ≡ others
later (Ok m) others e = absurd cc
later (Err f) others e = result_ok-ok_or others f

-- a source that names none
first_named-later : (assumed : Option ℤ) (grammar : Grammar) (others : List Grammar) (line : List ℕ) → result_ok (named assumed grammar line) ≡ None → result_ok (first_named assumed (grammar ∷ others) line) ≡ result_ok (first_named assumed others line)
unfolding first_named
first_named-later assumed grammar others line e = later (named assumed grammar line) (result_ok (first_named assumed others line)) e

-- the line of the answer for a moment, wherever it is named
pub held_alike : {setting : Setting} {one other : Option Shown} {len : ℕ} {room : List ℕ} (a : HoldsAnswer setting one len room) → other ≡ Some a.moment → HoldsAnswer setting other len room
held_alike a e = record { moment = a.moment; is = e; line = a.line }

pub ok_of : (r : Result Shown Fault) (m : Shown) → result_ok r ≡ Some m → r ≡ Ok m
ok_of (Ok x) m e = ap (λ (o : Option Shown). Ok (unwrap_or o x)) e
ok_of (Err f) m e = absurd cc

-- what is answered for what the sources name
pub answer_is : (setting : Setting) (line : List ℕ) (found : Result Shown Fault) → first_named setting.assumed setting.sources line ≡ found → place_text (shown_or_refused setting.target found) ≡ answer_to setting line
unfolding answer_to place_of
answer_is setting line found e = rw e refl

-- a place's source names a moment for a line, and those before it none
pub first_is_at : (setting : Setting) (line : List ℕ) (place : ℕ) (grammar : Grammar) (others : List Grammar) (moment : Shown) → NamesFrom setting line place → drop place setting.sources ≡ grammar ∷ others
    → named setting.assumed grammar line ≡ Ok moment → first_named setting.assumed setting.sources line ≡ Ok moment
first_is_at setting line place grammar others moment from cut is =
    let there : result_ok (first_named setting.assumed (drop place setting.sources) line) ≡ Some moment = rw cut (first_named-here setting.assumed grammar others line moment (ap result_ok is)) in
    ok_of (first_named setting.assumed setting.sources line) moment (sym from ∙ there)

pub answer_is_at : (setting : Setting) (line : List ℕ) (place : ℕ) (grammar : Grammar) (others : List Grammar) (moment : Shown) → NamesFrom setting line place → drop place setting.sources ≡ grammar ∷ others
    → named setting.assumed grammar line ≡ Ok moment → place_text (shown_or_refused setting.target (Ok moment)) ≡ answer_to setting line
answer_is_at setting line place grammar others moment from cut is = answer_is setting line (Ok moment) (first_is_at setting line place grammar others moment from cut is)

-- a room that holds the line of the answer for it
pub held_at : (setting : Setting) (line room : List ℕ) (len place : ℕ) (grammar : Grammar) (others : List Grammar) → NamesFrom setting line place → drop place setting.sources ≡ grammar ∷ others
    → HoldsAnswer setting (result_ok (named setting.assumed grammar line)) len room → HoldsLine (answer_to setting line) len room
held_at setting line room len place grammar others from cut a = rw (← answer_is_at setting line place grammar others a.moment from cut (ok_of (named setting.assumed grammar line) a.moment a.is)) a.line

-- a room that holds the line of the answer for the moment that fields name
pub held_found : (setting : Setting) (found : Option Fields) (grammar : Grammar) (line room : List ℕ) (len : ℕ) → IfSome found (λ fields. named setting.assumed grammar line ≡ Ok (moment_of fields))
    → HoldsAnswer setting (option_map moment_of found) len room → HoldsAnswer setting (result_ok (named setting.assumed grammar line)) len room
held_found setting None grammar line room len h a = absurd (let no : None ≡ Some a.moment = a.is in cc)
held_found setting (Some fields) grammar line room len h a = held_alike a (ap result_ok h ∙ a.is)

pub held_if : (setting : Setting) (found : Option Fields) (grammar : Grammar) (line room : List ℕ) (filled : Option ℕ) → IfSome found (λ fields. named setting.assumed grammar line ≡ Ok (moment_of fields))
    → IfSome filled (λ len. HoldsAnswer setting (option_map moment_of found) len room) → IfSome filled (λ len. HoldsAnswer setting (result_ok (named setting.assumed grammar line)) len room)
held_if setting found grammar line room None h a = tt
held_if setting found grammar line room (Some len) h a = held_found setting found grammar line room len h a

-- what is found for the first source is the answer
pub led_found : (setting : Setting) (found : Option Fields) (grammar : Grammar) (line room : List ℕ) (len : ℕ) → IsLedBy setting grammar → IfSome found (λ fields. named setting.assumed grammar line ≡ Ok (moment_of fields))
    → HoldsAnswer setting (option_map moment_of found) len room → HoldsLine (answer_to setting line) len room
led_found setting found grammar line room len led is a = held_at setting line room len 0 grammar (drop 1 setting.sources) refl led (held_found setting found grammar line room len is a)

-- the same of what a well-known format reads directly
module _ (law : (grammar : Grammar) (line : List ℕ) (moment : Shown) → IsDirect grammar line moment → IsNamedBy grammar line moment) (setting : Setting) (found : Option Fields) (grammar : Grammar) (line room : List ℕ) where
  pub held_direct : (filled : Option ℕ) → IfSome found (λ fields. IsDirect grammar line (moment_of fields))
      → IfSome filled (λ len. HoldsAnswer setting (option_map moment_of found) len room) → IfSome filled (λ len. HoldsAnswer setting (result_ok (named setting.assumed grammar line)) len room)
  held_direct filled is a = held_if setting found grammar line room filled (found_named law grammar line setting.assumed found is) a

  pub led_direct : (len : ℕ) → IsLedBy setting grammar → IfSome found (λ fields. IsDirect grammar line (moment_of fields)) → HoldsAnswer setting (option_map moment_of found) len room → HoldsLine (answer_to setting line) len room
  led_direct len led is a = led_found setting found grammar line room len led (found_named law grammar line setting.assumed found is) a

-- the same where RFC 3339 is first
pub led_read : ((grammar : Grammar) (line : List ℕ) (moment : Shown) → IsDirect grammar line moment → IsNamedBy grammar line moment) → (setting : Setting) (line room : List ℕ) (len : ℕ)
    → IsLedBy setting Rfc3339 → HoldsAnswer setting (result_ok (direct line)) len room → HoldsLine (answer_to setting line) len room
led_read law setting line room len led a = held_at setting line room len 0 Rfc3339 (drop 1 setting.sources) refl led (held_alike a (ap result_ok (law Rfc3339 line a.moment (ok_of (direct line) a.moment a.is) setting.assumed)))

after : (setting : Setting) (line : List ℕ) (place : ℕ) (grammar : Grammar) (others : List Grammar) → NamesFrom setting line place → drop place setting.sources ≡ grammar ∷ others
    → result_ok (named setting.assumed grammar line) ≡ None → result_ok (first_named setting.assumed setting.sources line) ≡ result_ok (first_named setting.assumed others line)
after setting line place grammar others from cut none =
    let there : result_ok (first_named setting.assumed (drop place setting.sources) line) ≡ result_ok (first_named setting.assumed others line) = rw cut (first_named-later setting.assumed grammar others line none) in
    sym from ∙ there

-- a place whose source names none names what the next one does
pub names_from_next : (setting : Setting) (line : List ℕ) (place : ℕ) (grammar : Grammar) → NamesFrom setting line place → drop place setting.sources ≡ grammar ∷ drop (place + 1) setting.sources
    → result_ok (named setting.assumed grammar line) ≡ None → NamesFrom setting line (place + 1)
names_from_next setting line place grammar from cut none = sym (after setting line place grammar (drop (place + 1) setting.sources) from cut none)

fault_of_first : (r : Result Shown Fault) (o : Option Shown) (fault : Fault) → result_ok (or_named r o) ≡ None → r ≡ Err fault → or_named r o ≡ Err fault
fault_of_first r None fault none e = rw e refl
fault_of_first r (Some m) fault none e = absurd (let found : Some m ≡ None = ap result_ok (ap (λ (x : Result Shown Fault). or_named x (Some m)) (sym e)) ∙ none in cc)

-- where none does the first one's fault is what they name
pub first_is_fault : (setting : Setting) (line : List ℕ) (grammar : Grammar) (others : List Grammar) (fault : Fault) → setting.sources ≡ grammar ∷ others
    → result_ok (first_named setting.assumed setting.sources line) ≡ None → named setting.assumed grammar line ≡ Err fault → first_named setting.assumed setting.sources line ≡ Err fault
unfolding first_named
first_is_fault setting line grammar others fault e none refused = rw e (fault_of_first (named setting.assumed grammar line) (result_ok (first_named setting.assumed others line)) fault (rw e at none) refused)

-- and the answer
pub answer_is_fault : (setting : Setting) (line : List ℕ) (grammar : Grammar) (others : List Grammar) (fault : Fault) → setting.sources ≡ grammar ∷ others
    → result_ok (first_named setting.assumed setting.sources line) ≡ None → named setting.assumed grammar line ≡ Err fault → refusal_text (refusal_of fault) ≡ answer_to setting line
answer_is_fault setting line grammar others fault e none refused = answer_is setting line (Err fault) (first_is_fault setting line grammar others fault e none refused)

-- the source at a place, and those after it
pub sources_from : (sources : List Source) (i : ℕ) (x : Source) → i < length sources → x ≡ get_or sources i x → map grammar_of (drop i sources) ≡ grammar_of x ∷ map grammar_of (drop (i + 1) sources)
sources_from sources i x lt e =
    let there : drop i sources ≡ get_or sources i x ∷ drop (i + 1) sources = drop_more sources i x lt in
    let cut : drop i sources ≡ x ∷ drop (i + 1) sources = rw (← e) at there in
    ap (map grammar_of) cut

pub source_at : (sources : List Source) (place : ℕ) (source : Source) → place < length sources → source ≡ get_or sources place source
    → drop place (map grammar_of sources) ≡ grammar_of source ∷ drop (place + 1) (map grammar_of sources)
source_at sources place source within is =
    drop-map grammar_of place sources ∙ sources_from sources place source within is ∙ ap (λ (rest : List Grammar). grammar_of source ∷ rest) (sym (drop-map grammar_of (place + 1) sources))

-- after all places there is none
pub none_at_end : (setting : Setting) (line : List ℕ) (place : ℕ) → length setting.sources ≤ place → NamesFrom setting line place → result_ok (first_named setting.assumed setting.sources line) ≡ None
unfolding first_named
none_at_end setting line place end from =
    let over : drop place setting.sources ≡ [] = drop_all place setting.sources end in
    sym (rw over at from)
