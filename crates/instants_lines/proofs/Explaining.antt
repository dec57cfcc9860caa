-- What the first source says that names a moment.
use Rattle.std.proofs.Common.{◌≡◌, ℕ, ◌+◌, ◌⊎◌, inl, inr, List, [], ◌∷◌, ◌++◌, Option, Some, Result, Ok, Err, length, refl, sym, ap, ◌∙◌, arith}
use Rattle.std.specs.Prelude.{decimal, unwrap_or, IsErr}
use Rattle.std.specs.List.{All}
use Rattle.std.proofs.lemmas.List.Elements.{All-nil, All-cons}
use Rattle.std.specs.Result.{result_ok}
use Rattle.datetime_wall.specs.Wall.{Shown}
use Rattle.parsing_combinator.specs.Fault.{Fault}
use Rattle.instants_sources.specs.Grammar.{Grammar}
use Rattle.instants_sources.specs.Named.{named}
use Rattle.instants_timeline.specs.Place.{Setting, or_named, first_named, shown_or_refused, place_of, place_text, answer_to}
use Rattle.instants_lines.specs.Explained.{IsFirstToName, text_by, said_by, first_answer, all_said, explained}

-- the first source names the moment, or it names none and the others do
first_or_others : (n r : Result Shown Fault) (moment : Shown) → or_named n (result_ok r) ≡ Ok moment → (n ≡ Ok moment) ⊎ (((fault : Fault) × (n ≡ Err fault)) × (r ≡ Ok moment))
first_or_others (Ok m) r moment e = inl e
first_or_others (Err f) (Ok m) moment e = inr ((f, refl), e)
first_or_others (Err f) (Err g) moment e = absurd cc

-- what the first source says that names a moment, after those that name none
record FirstSays (setting : Setting) (line : List ℕ) (number : ℕ) (sources : List Grammar) (moment : Shown) : Type 0 where
  before : List Grammar
  source : Grammar
  after : List Grammar
  parts : sources ≡ before ++ source ∷ after
  names : named setting.assumed source line ≡ Ok moment
  none_before : All (λ other. IsErr (named setting.assumed other line)) before
  says : first_answer setting line number sources ≡ Some ((decimal (length before + number) ++ 9 ∷ []) ++ place_text (shown_or_refused setting.target (Ok moment)))

first_says : (setting : Setting) (line : List ℕ) (number : ℕ) (sources : List Grammar) (moment : Shown) → first_named setting.assumed sources line ≡ Ok moment → FirstSays setting line number sources moment
unfolding first_named first_answer said_by text_by
first_says setting line number [] moment e = absurd cc
first_says setting line number (grammar ∷ others) moment e =
    elim (first_or_others (named setting.assumed grammar line) (first_named setting.assumed others line) moment e) [
      | inl h ↦ record {
        before = [];
        source = grammar;
        after = others;
        parts = refl;
        names = h;
        none_before = All-nil (λ (other : Grammar). IsErr (named setting.assumed other line));
        says = let none : 0 + number ≡ number = omega arith in rw (h, none) refl;
      }
      | inr h ↦
          let next = first_says setting line (number + 1) others moment h.1 in
          let places : length next.before + (number + 1) ≡ length (grammar ∷ next.before) + number = omega arith in
          record {
            before = grammar ∷ next.before;
            source = next.source;
            after = next.after;
            parts = ap (λ (sources : List Grammar). grammar ∷ sources) next.parts;
            names = next.names;
            none_before = All-cons (λ (other : Grammar). IsErr (named setting.assumed other line)) grammar next.before (rw h.0.1 refl) next.none_before;
            says = rw (h.0.1, ← places) next.says;
          }
    ]

pub explained_by : (setting : Setting) (line : List ℕ) (moment : Shown) → first_named setting.assumed setting.sources line ≡ Ok moment
    → (first : IsFirstToName setting line moment) × (explained setting line ≡ (decimal (length first.before + 1) ++ 9 ∷ []) ++ answer_to setting line)
unfolding explained answer_to place_of
explained_by setting line moment e =
    let first = first_says setting line 1 setting.sources moment e in (
      record { before = first.before; source = first.source; after = first.after; parts = first.parts; names = first.names; none_before = first.none_before },
      ap (λ (o : Option (List ℕ)). unwrap_or o (all_said setting line 1 setting.sources)) first.says
          ∙ ap (λ (n : Result Shown Fault). (decimal (length first.before + 1) ++ 9 ∷ []) ++ place_text (shown_or_refused setting.target n)) (sym e),
    )
