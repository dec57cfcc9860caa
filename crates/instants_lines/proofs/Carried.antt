-- Joined streams in mode `carry`, where a line with a date begins the second.
use Rattle.std.specs.Prelude.{nat_lt, if◌then◌else◌}
use Rattle.std.proofs.Common.{◌≡◌, ℕ, true, false, List, [], ◌∷◌, ◌++◌, Option, None, Some, refl, sym, ap, ◌∙◌, inr, arith}
use Rattle.std.specs.Option.{option_map_or}
use Rattle.std.proofs.Math.Bool.{and-false}
use Rattle.std.proofs.lemmas.Bool.Decides.{nat_tests}
use Rattle.base.specs.Bytes.{line_feed}
use Rattle.instants_prefixes.specs.declared.given.Given.{Given}
use Rattle.instants_prefixes.specs.declared.given.Years.TheVariants.{Unknown}
use Rattle.instants_found.specs.declared.found.Finding.{Finding}
use Rattle.instants_found.specs.declared.found.Finding.TheVariants.{Doubtful, There}
use Rattle.instants_stream.specs.Lines.{lines, whole_lines, last_part}
use Rattle.instants_stream.specs.Steps.{line_next, written, after, output}
use Rattle.instants_timeline.specs.Place.{Setting}
use Rattle.instants_lines.specs.Dates.{date_in, key_or}
use Rattle.instants_lines.specs.Going.{Going, below, below_by, depth, finding_in, is_carry, is_explain, keyed, next_in, near, text_in, lines_steps}
use Rattle.instants_lines.specs.Joining.{AreJoined}
use Rattle.instants_lines_words.specs.declared.mode.Mode.{Mode}
use Rattle.instants_lines_words.specs.declared.mode.Mode.TheVariants.{Carry}
use Rattle.instants_lines.proofs.Handed.{handed_said, handed_next}
use Rattle.instants_lines.proofs.Joined.{given_stays, joined}
use Rattle.instants_lines.proofs.States.{after_lines}
use Rattle.instants_lines.proofs.WithoutKeys.{output_is}

-- ---- where no year is given lines change the key and the indent alone

abbrev with_kept : Going → List ℕ → Option ℕ → Going
with_kept going key indent = record going { key = key; indent = indent }

abbrev IsWithKept : Going → Going → Type 0
IsWithKept going later = (key : List ℕ) × (indent : Option ℕ) × (later ≡ with_kept going key indent)

next_kept : (going : Going) (line : List ℕ) → going.search.given.years ≡ Unknown → IsWithKept going (next_in going.mode going line)
next_kept going line e =
    elim (is_explain going.mode) as (λ explains. IsWithKept going (if explains then going else below going line)) [
      | true ↦ (going.key, going.indent, refl)
      | false ↦ (_, _, ap (λ (given : Given). record (below going line) { search = record going.search { given = given } }) (given_stays going.search.given (finding_in going line) e))
    ]

after_kept : (many : ℕ) (going : Going) (some : List (List ℕ)) → going.search.given.years ≡ Unknown → IsWithKept going (after lines_steps many going some)
after_kept many going some years =
    after_lines (IsWithKept going) (λ later line (key, indent, e).
    let next = next_kept (with_kept going key indent) line years in
    (next.0, next.1, ap (λ (one : Going). next_in one.mode one line) e ∙ next.2)) many going some (going.key, going.indent, refl)

-- ---- what is written from a line with a date on

-- the key before it is not asked for
same_key : (setting : Setting) (key other : List ℕ) (finding : Finding) → key_or setting key (Some finding) ≡ key_or setting other (Some finding)
same_key setting key other (Doubtful place) = refl
same_key setting key other (There date) = refl

-- no line is deeper than the margin
none_deeper : (indent : Option ℕ) → option_map_or (λ above. nat_lt above 0) indent false ≡ false
none_deeper None = refl
none_deeper (Some above) = grind (arith, nat_tests)

module _ (going : Going) (line : List ℕ) (others : List (List ℕ)) (finding : Finding) (carries : going.mode ≡ Carry) (margin : depth line ≡ 0) (e : date_in going.search line ≡ Some finding) where
  abbrev many : ℕ
  many = near going.mode going.search

  hands : is_explain going.mode ≡ false
  hands = ap is_explain carries

  its_date : (key : List ℕ) (indent : Option ℕ) → finding_in (with_kept going key indent) line ≡ Some finding
  its_date key indent = rw (margin, none_deeper indent, and-false (is_carry going.mode), e) refl

  same_keyed : (key : List ℕ) (indent : Option ℕ) → keyed (with_kept going key indent) line ≡ keyed going line
  same_keyed key indent = rw (its_date key indent, its_date going.key going.indent, same_key going.search.setting key going.key finding) refl

  next_found : (key : List ℕ) (indent : Option ℕ) → line_next lines_steps many (with_kept going key indent) line ≡ below_by (record going { mode = Carry }) (depth line) (Some finding)
  next_found key indent = handed_next (with_kept going key indent) line hands ∙ rw (its_date key indent, carries, same_key going.search.setting key going.key finding) refl

  written_from : (key : List ℕ) (indent : Option ℕ)
      → written lines_steps many (with_kept going key indent) (line ∷ others) ≡ (keyed going line ++ line_feed ∷ []) ++ written lines_steps many (below_by (record going { mode = Carry }) (depth line) (Some finding)) others
  unfolding written
  written_from key indent =
      rw (handed_said (with_kept going key indent) line hands, next_found key indent, ap (λ (mode : Mode). text_in mode (with_kept going key indent) line) carries ∙ same_keyed key indent) refl

  module _ (second : List ℕ) (cut : lines second ≡ line ∷ others) where
    output_from : (key : List ℕ) (indent : Option ℕ) → output lines_steps (with_kept going key indent) many second ≡ output lines_steps going many second
    output_from key indent =
        output_is many (with_kept going key indent) (inr carries) second
        ∙ rw cut (written_from key indent ∙ sym (written_from going.key going.indent))
        ∙ sym (ap (written lines_steps many going) cut)
        ∙ sym (output_is many going (inr carries) second)

    pub joined_carried : (first : List ℕ) → going.search.given.years ≡ Unknown → last_part first ≡ [] → AreJoined going going many first second
    joined_carried first years ended =
        let state = after_kept many going (whole_lines first) years in
        joined going many first second ended
        ∙ ap (λ (state : Going). output lines_steps going many first ++ output lines_steps state many second) state.2
        ∙ ap (λ (text : List ℕ). output lines_steps going many first ++ text) (output_from state.0 state.1)
