-- What one source more changes.
use Rattle.std.proofs.Common.{◌≡◌, ◌<◌, ℕ, List, [], ◌∷◌, ◌++◌, Option, None, Some, Result, Ok, Err, length, refl, ap, ◌∙◌, ℤ, arith}
use Rattle.std.proofs.lemmas.Bool.{lt-ltb}
use Rattle.std.specs.Result.{result_ok}
use Rattle.datetime_wall.specs.Wall.{Shown}
use Rattle.parsing_combinator.specs.Fault.{Fault}
use Rattle.instants_sources.specs.Grammar.{Grammar}
use Rattle.instants_sources.specs.Named.{named}
use Rattle.instants_stream.specs.Answers.{answered, answer_or_long}
use Rattle.instants.specs.Appended.{with_source}
use Rattle.instants_timeline.proofs.FirstNamed.{ok_of}
use Rattle.instants_timeline.specs.Place.{Setting, or_named, first_named, shown_or_refused, place_of, place_text, answer_to}

-- the moment, or else the other one
abbrev pub or_else : Option Shown → Option Shown → Option Shown
or_else (Some m) other = Some m
or_else None other = other

or_same : (o : Result Shown Fault) (others more : Option Shown) → result_ok (or_named o (or_else others more)) ≡ or_else (result_ok (or_named o others)) more
or_same (Ok m) others more = refl
or_same (Err f) None None = refl
or_same (Err f) None (Some m) = refl
or_same (Err f) (Some m) more = refl

or_none : (o : Result Shown Fault) → result_ok (or_named o None) ≡ result_ok o
or_none (Ok m) = refl
or_none (Err f) = refl

-- the first moment of the others, or else that of the new source
appended_ok : (assumed : Option ℤ) (grammars : List Grammar) (grammar : Grammar) (line : List ℕ)
    → result_ok (first_named assumed (grammars ++ grammar ∷ []) line) ≡ or_else (result_ok (first_named assumed grammars line)) (result_ok (named assumed grammar line))
unfolding first_named
appended_ok assumed [] grammar line = or_none (named assumed grammar line)
appended_ok assumed (first ∷ others) grammar line =
    ap (λ o. result_ok (or_named (named assumed first line) o)) (appended_ok assumed others grammar line)
    ∙ or_same (named assumed first line) (result_ok (first_named assumed others line)) (result_ok (named assumed grammar line))

pub kept_moment : (assumed : Option ℤ) (grammars : List Grammar) (grammar : Grammar) (line : List ℕ) (m : Shown)
    → first_named assumed grammars line ≡ Ok m → first_named assumed (grammars ++ grammar ∷ []) line ≡ Ok m
kept_moment assumed grammars grammar line m e = ok_of (first_named assumed (grammars ++ grammar ∷ []) line) m (appended_ok assumed grammars grammar line ∙ rw e refl)

pub gained_moment : (assumed : Option ℤ) (grammars : List Grammar) (grammar : Grammar) (line : List ℕ) (f : Fault) (m : Shown)
    → first_named assumed grammars line ≡ Err f → named assumed grammar line ≡ Ok m → first_named assumed (grammars ++ grammar ∷ []) line ≡ Ok m
gained_moment assumed grammars grammar line f m e n = ok_of (first_named assumed (grammars ++ grammar ∷ []) line) m (appended_ok assumed grammars grammar line ∙ rw (e, n) refl)

-- a fault of the first source, whatever the others name
fault_of_first : (o : Result Shown Fault) (others more : Option Shown) (f : Fault) → or_named o others ≡ Err f → more ≡ None → or_named o more ≡ Err f
fault_of_first (Ok m) others more f e n = e
fault_of_first (Err g) None more f e n = rw n e
fault_of_first (Err g) (Some m) more f e n = absurd cc

none_of : (o : Result Shown Fault) (others : Option Shown) (f : Fault) → or_named o others ≡ Err f → others ≡ None
none_of (Ok m) others f e = absurd cc
none_of (Err g) None f e = refl
none_of (Err g) (Some m) f e = absurd cc

pub kept_fault : (assumed : Option ℤ) (grammars : List Grammar) (grammar : Grammar) (line : List ℕ) (f g : Fault)
    → 0 < length grammars → first_named assumed grammars line ≡ Err f → named assumed grammar line ≡ Err g → first_named assumed (grammars ++ grammar ∷ []) line ≡ Err f
unfolding first_named
kept_fault assumed [] grammar line f g some e n = absurd (omega (arith, some))
kept_fault assumed (first ∷ others) grammar line f g some e n =
    fault_of_first (named assumed first line) (result_ok (first_named assumed others line)) (result_ok (first_named assumed (others ++ grammar ∷ []) line)) f e
    (appended_ok assumed others grammar line ∙ rw (none_of (named assumed first line) (result_ok (first_named assumed others line)) f e, n) refl)

pub answer_of : (setting : Setting) (line : List ℕ) (r : Result Shown Fault) → first_named setting.assumed setting.sources line ≡ r → answer_to setting line ≡ place_text (shown_or_refused setting.target r)
unfolding answer_to place_of
answer_of setting line r e = rw e refl

pub long_stays : (setting : Setting) (grammar : Grammar) (limit : ℕ) (line : List ℕ) → limit < length line → answered (answer_to (with_source setting grammar)) limit line ≡ answered (answer_to setting) limit line
unfolding answered answer_or_long
long_stays setting grammar limit line h = rw (lt-ltb limit (length line) h) refl
