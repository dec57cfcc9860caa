-- Words that are right say to `instants` what they ask for.
use Rattle.std.proofs.Common.{◌≡◌, ℕ, ◌<◌, Bool, false, Option, Some, None, Result, Ok, Err, List, [], ◌∷◌, length, refl, ◌∙◌, arith, ℤ}
use Rattle.std.specs.Result.{result_err, result_map_both}
use Rattle.instants_words.specs.Sources.{SourceSaid}
use Rattle.instants_words.specs.Words.{words_said}
use Rattle.instants_words.proofs.TextLemmas.{said_four}
use Rattle.instants_lines_words.specs.Asked.{Asking}
use Rattle.instants_lines_words.specs.Filled.{target_in, assumed_in, limit_in, is_whole, zone_in, year_first, time_first, field_first, column_first, separator_first, label_first}
use Rattle.instants_lines_words.specs.Modes.{mode_said}
use Rattle.instants_lines_words.specs.Spelled.{spelled_out}
use Rattle.instants_lines_words.specs.Words.{asked_by, first_wrong, joined, mode_words_said, others_said, part_said, settings_said, some_of, sources_read}
use Rattle.instants_lines_words.specs.declared.mode.Mode.{Mode}
use Rattle.instants_lines_words.specs.Wrong.{Wrong}
use Rattle.instants_lines_words.proofs.Spelling.{spelled, spelled_some}

-- the parts after a mode
pub by_parts : (all : List (List ℕ)) (word : List ℕ) (others : List (List ℕ)) (mode : Mode) (target assumed limit : List ℕ) (whole : Bool) (named year time field column separator label : Option (List ℕ)) (sources : List (List ℕ))
    → all ≡ word ∷ others → mode_said word ≡ Some mode → target ≡ target_in others → assumed ≡ assumed_in others → limit ≡ limit_in others → whole ≡ is_whole others
    → named ≡ zone_in others → year ≡ (year_first others).0 → time ≡ (time_first others).0 → field ≡ (field_first others).0 → column ≡ (column_first others).0 → separator ≡ (separator_first others).0 → label ≡ (label_first others).0 → sources ≡ (label_first others).1
    → mode_words_said all ≡ joined (some_of sources) (settings_said target assumed limit) (asked_by mode named year time (part_said mode field column separator) label) (result_map_both (λ all. all) (first_wrong whole) (sources_read None 1 sources))
unfolding mode_words_said others_said
by_parts all word others mode target assumed limit whole named year time field column separator label sources e m t a l w z y c f n p b s = rw (e, m, t, a, l, w, z, y, c, f, n, p, b, s) refl

pub some_there : (sources : List (List ℕ)) → 0 < length sources → some_of sources ≡ Ok tt
some_there [] some = absurd (omega arith)
some_there (word ∷ words) some = refl

pub wrong_there : {A : Type 0} (read : Result A Wrong) (wrong : Wrong) → Some wrong ≡ result_err read → read ≡ Err wrong
wrong_there (Ok said) wrong e = absurd cc
wrong_there (Err other) wrong e = cc

pub there : {A : Type 0} (read : Result A Wrong) → None ≡ result_err read → (said : A) × (read ≡ Ok said)
there (Ok said) none = (said, refl)
there (Err wrong) none = absurd cc

pub all_right : (some : Result (Unit {0}) Wrong) (settings : Result (ℤ × Option ℤ × ℕ) Wrong) (asked : Result Asking Wrong) (sources : Result (List SourceSaid) Wrong) (setting : ℤ × Option ℤ × ℕ) (asking : Asking) (all : List SourceSaid)
    → some ≡ Ok tt → settings ≡ Ok setting → asked ≡ Ok asking → sources ≡ Ok all → joined some settings asked sources ≡ Ok (asking, record { target = setting.0; assumed = setting.1; limit = setting.2; sources = all })
all_right some settings asked sources setting asking all e s a l = rw (e, s, a, l) refl

pub right : (target assumed limit : List ℕ) (sources : List (List ℕ)) (setting : ℤ × Option ℤ × ℕ) (all : List SourceSaid) → 0 < length sources → settings_said target assumed limit ≡ Ok setting → sources_read None 1 sources ≡ Ok all
    → words_said (target ∷ assumed ∷ limit ∷ spelled_out false sources) ≡ Ok (record { target = setting.0; assumed = setting.1; limit = setting.2; sources = all })
right target assumed limit sources setting all some settings reads =
    let theirs = spelled None 1 1 sources all reads in
    said_four (target ∷ assumed ∷ limit ∷ spelled_out false sources) (spelled_out false sources) target assumed limit refl (spelled_some sources some) ∙ grind arith
