-- Keys are ordered as instants.
use Rattle.std.proofs.Common.{◌≡◌, refl, sym, ap, ◌∙◌}
use Rattle.std.specs.Prelude.{◌↔◌, IsOk}
use Rattle.std.specs.Ordering.{int_cmp}
use Rattle.datetime_wall.specs.Wall.{Shown, instant, shown_at}
use Rattle.instants_answers.proofs.Compares.{Compares, same_when, int_cmp-equal}
use Rattle.instants_answers.proofs.Lines.{line_field}
use Rattle.instants_found.specs.declared.found.Found.{Found}
use Rattle.instants_timeline.specs.Place.{Setting}
use Rattle.instants_timeline.proofs.Shows.{Shows, shown_in}
use Rattle.instants_lines.specs.Dates.{place_of_date, key_of_date}

key_shows : (setting : Setting) (date : Found) → IsOk (place_of_date setting date) → (a : Shown) × Shows setting.target (instant date.moment) (key_of_date setting date) a
unfolding place_of_date
key_shows setting date h = shown_in setting.target (instant date.moment) (shown_at setting.target (instant date.moment)) refl h

module _ (one other : Setting) (date another : Found) (e : one.target ≡ other.target) (h : IsOk (place_of_date one date)) (k : IsOk (place_of_date other another)) where
  pub keys_compare : Compares (key_of_date one date) (key_of_date other another) (int_cmp (instant date.moment) (instant another.moment))
  keys_compare =
      let first = key_shows one date h in
      let second = key_shows other another k in
      let lines = line_field first.0 second.0 first.1.written second.1.written (first.1.offset ∙ e ∙ sym second.1.offset) in
      let instants : int_cmp (instant first.0) (instant second.0) ≡ int_cmp (instant date.moment) (instant another.moment) =
      ap (λ i. int_cmp i (instant second.0)) first.1.same ∙ ap (λ i. int_cmp (instant date.moment) i) second.1.same in
      rw (first.1.line, second.1.line) (rw instants at lines)

  pub keys_equal : (key_of_date one date ≡ key_of_date other another) ↔ (instant date.moment ≡ instant another.moment)
  keys_equal =
      let keys = same_when _ _ _ keys_compare in
      let instants = int_cmp-equal (instant date.moment) (instant another.moment) in
      (λ same. instants.0 (keys.1 same), λ same. keys.0 (instants.1 same))
