-- A written line, read again by one source alone.
use Rattle.std.proofs.Common.{◌≡◌, ◌≤◌, ℕ, List, [], ◌∷◌, ◌++◌, Option, Ok, false, length, inl, inr, refl, sym, ap, ◌∙◌, ℤ, arith}
use Rattle.std.specs.Prelude.{nat_lt}
use Rattle.std.proofs.lemmas.Bool.Decides.{nat_tests}
use Rattle.base.specs.Bytes.{line_feed}
use Rattle.calendar.specs.UtcOffset.{IsClockOffset}
use Rattle.datetime_wall.specs.Wall.{Shown, instant, shown_at}
use Rattle.instants_answers.specs.Text.{moment_text}
use Rattle.instants_answers.specs.Written.{IsWritten}
use Rattle.instants.proofs.Again.{rfc3339_again, iso8601_again}
use Rattle.instants_answers.proofs.FillLemmas.{at_most_35}
use Rattle.instants_sources.specs.Grammar.{Grammar}
use Rattle.instants_sources.specs.Named.{named}
use Rattle.instants_stream.specs.Answers.{answered, answer_or_long}
use Rattle.instants.specs.Answered.{IsAnswered, with_target}
use Rattle.instants.specs.FixedPoint.{ReadsLines, alone}
use Rattle.instants_timeline.specs.Place.{Setting, in_written_years, first_named, place_of, place_text, answer_to}
use Rattle.instants.proofs.Answered.{answered_shows}

named_again : (grammar : Grammar) (a : Shown) → ReadsLines grammar → IsWritten a → IsClockOffset a.offset → (assumed : Option ℤ) → named assumed grammar (moment_text a) ≡ Ok a
named_again grammar a (inl is) written clock assumed = rw is (rfc3339_again a written clock assumed)
named_again grammar a (inr is) written clock assumed = rw is (iso8601_again a written clock assumed)

-- what a source alone answers to a line that it names a moment for
alone_answers : (grammar : Grammar) (target : ℤ) (assumed : Option ℤ) (line : List ℕ) (a : Shown) → named assumed grammar line ≡ Ok a
    → answer_to (alone grammar target assumed) line ≡ place_text (in_written_years (shown_at target (instant a)))
unfolding answer_to place_of first_named
alone_answers grammar target assumed line a e = rw e refl

answers_at : (setting : Setting) (target : ℤ) (line : List ℕ) (m : Shown) → first_named setting.assumed setting.sources line ≡ Ok m
    → answer_to (with_target setting target) line ≡ place_text (in_written_years (shown_at target (instant m)))
unfolding answer_to place_of
answers_at setting target line m e = rw e refl

-- a line within the limit has its answer and a line feed
pub answered_within : (answer : List ℕ → List ℕ) (limit : ℕ) (line : List ℕ) → length line ≤ limit → answered answer limit line ≡ answer line ++ line_feed ∷ []
unfolding answered answer_or_long
answered_within answer limit line h = let short : nat_lt limit (length line) ≡ false = grind (arith, nat_tests) in rw short refl

pub again : (setting : Setting) (grammar : Grammar) (assumed : Option ℤ) (target : ℤ) (line : List ℕ) (m : Shown)
    → IsClockOffset setting.target → IsAnswered setting line m → ReadsLines grammar
    → (answer_to (alone grammar target assumed) (answer_to setting line) ≡ answer_to (with_target setting target) line) × (length (answer_to setting line) ≤ 35)
again setting grammar assumed target line m clock h reads =
    let shown = answered_shows setting line m h in
    let a = shown.0 in
    let shows = shown.1 in
    let at_target : IsClockOffset a.offset = rw shows.offset clock in
    let read = named_again grammar a reads shows.written at_target assumed in
    let there = answers_at setting target line m h.first in (
      rw shows.line (alone_answers grammar target assumed (moment_text a) a read) ∙ ap (λ i. place_text (in_written_years (shown_at target i))) shows.same ∙ sym there,
      rw shows.line (at_most_35 a),
    )
