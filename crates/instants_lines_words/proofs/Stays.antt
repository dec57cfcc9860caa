-- Words that nothing is left out of stay as they are.
use Rattle.std.proofs.Common.{◌≡◌, ℕ, ◌+◌, ◌<◌, ◌⊎◌, inl, inr, true, false, Option, None, Some, is_some, option_map, Result, Ok, Err, List, [], ◌∷◌, length, codes, if◌then◌else◌, refl, sym, ap, ◌∙◌, subst, arith, ℤ}
use Rattle.std.proofs.lemmas.Slice.Eq.{bytes_eq-Decides}
use Rattle.std.specs.Str.{bytes_eq}
use Rattle.instants_words.specs.declared.words.Words.{Words}
use Rattle.instants_words.specs.Pieces.{number_said, offset_said, limit_said, assumed_said}
use Rattle.instants_words.specs.Sources.{SourceSaid, also, format_named, language_named, last_said, next_said, sources_said}
use Rattle.instants_words.specs.Words.{◌or◌, ◌>>=◌, words_said}
use Rattle.instants_words.proofs.TextLemmas.{said_four}
use Rattle.instants_words.specs.declared.fault.WordsFault.{WordsFault}
use Rattle.instants_words.specs.declared.fault.WordsFault.TheVariants as words
use Rattle.instants_lines_words.specs.Spelled.{spelled_out}
use Rattle.instants_lines_words.proofs.Spelling.{format_alone}
use Rattle.instants_lines_words.specs.Filled.{has_sign_or_digit, is_utc, is_setting, as_offset, target_in, assumed_first, assumed_in, limit_in, year_first, time_first, field_first, column_first, separator_first, label_first, filled}

-- an offset begins with a sign, and is no name of UTC
sign_first : (word : List ℕ) (offset : ℤ) → offset_said word ≡ Some offset → (has_sign_or_digit word ≡ true) × (is_utc word ≡ false)
unfolding offset_said has_sign_or_digit is_utc
sign_first (sign ∷ h ∷ i ∷ mark ∷ m ∷ n ∷ []) offset e = (grind arith, grind arith)
sign_first word offset e = absurd cc

-- a limit begins with a digit
digit_first : (word : List ℕ) (limit : ℕ) → limit_said word ≡ Some limit → has_sign_or_digit word ≡ true
unfolding number_said has_sign_or_digit
digit_first [] limit e = absurd cc
digit_first (first ∷ rest) limit e = grind arith

-- what is assumed begins with a sign, and is no name of UTC
assumed_begins_by : (word : List ℕ) (said : Option ℤ) (assumed : Option ℤ) → offset_said word ≡ said → (if bytes_eq word (codes "-") then Some None else option_map Some said) ≡ Some assumed → (has_sign_or_digit word ≡ true) × (is_utc word ≡ false)
unfolding has_sign_or_digit is_utc
assumed_begins_by word (Some offset) assumed is e = sign_first word offset is
assumed_begins_by [] None assumed is e = absurd cc
assumed_begins_by (first ∷ rest) None assumed is e = (grind arith, grind arith)

assumed_begins : (word : List ℕ) (assumed : Option ℤ) → assumed_said word ≡ Some assumed → (has_sign_or_digit word ≡ true) × (is_utc word ≡ false)
assumed_begins word assumed e = assumed_begins_by word (offset_said word) assumed refl e

-- the first of sources that are accepted is not the name of anything else
is_known : (place : ℕ) (source : List ℕ) (others : List (List ℕ)) (all : List SourceSaid) → format_named source ≡ None → language_named source ≡ None → sources_said place (source ∷ others) ≡ Ok all → ⊥
unfolding sources_said
is_known place source [] all f l e = let none = rw f at e in absurd cc
is_known place source (next ∷ others) all f l e = let none = rw f at (rw l at e) in absurd cc

-- sources that are accepted have no names of formats to spell out
also_ok : (source : SourceSaid) (sources : Result (List SourceSaid) WordsFault) (all : List SourceSaid) → also source sources ≡ Ok all → (others : List SourceSaid) × (sources ≡ Ok others)
also_ok source (Ok others) all e = (others, refl)
also_ok source (Err fault) all e = absurd cc

last_format : (place : ℕ) (format : Option SourceSaid) (all : List SourceSaid) → last_said place format ≡ Ok all → is_some format ≡ true
last_format place (Some format) all e = refl
last_format place None all e = absurd cc

-- a format with sources after it, or a language with its description and others after these
next_source : (place : ℕ) (format : Option SourceSaid) (language : Option (List ℕ → SourceSaid)) (next : List ℕ) (after after_description : Result (List SourceSaid) WordsFault) (all : List SourceSaid)
    → next_said place format language next after after_description ≡ Ok all
    → ((is_some format ≡ true) × ((others : List SourceSaid) × (after ≡ Ok others))) ⊎ ((is_some language ≡ true) × ((others : List SourceSaid) × (after_description ≡ Ok others)))
next_source place (Some format) language next after after_description all e = inl (refl, also_ok format after all e)
next_source place None (Some language) next after after_description all e = inr (refl, also_ok (language next) after_description all e)
next_source place None None next after after_description all e = absurd cc

spelled : (place : ℕ) (sources : List (List ℕ)) (all : List SourceSaid) → sources_said place sources ≡ Ok all → spelled_out false sources ≡ sources
unfolding sources_said spelled_out
spelled place [] all e = refl
spelled place (word ∷ []) all e = let alone = format_alone word (last_format place (format_named word) all e) in rw (alone.1, alone.0) refl
spelled place (word ∷ next ∷ words) all e =
    elim (next_source place (format_named word) (language_named word) next (sources_said (place + 1) (next ∷ words)) (sources_said (place + 1) words) all e) [
      | inl h ↦ let alone = format_alone word h.0 in rw (alone.1, alone.0) (ap (λ (l : List (List ℕ)). word ∷ l) (spelled (place + 1) (next ∷ words) h.1.0 h.1.1))
      | inr h ↦ rw h.0 (ap (λ (l : List (List ℕ)). word ∷ next ∷ l) (spelled (place + 1) words h.1.0 h.1.1))
    ]

module _ (source : List ℕ) (others : List (List ℕ)) (all : List SourceSaid) (good : sources_said 1 (source ∷ others) ≡ Ok all) where
  unnamed : (name : List ℕ) → format_named name ≡ None → language_named name ≡ None → bytes_eq source name ≡ false
  unnamed name f l =
      elim (bytes_eq source name) as (λ same. bytes_eq source name ≡ same → same ≡ false) [
        | true ↦ λ is.
            let named : source ≡ name = (bytes_eq-Decides source name).0 is in
            absurd (is_known 1 name others all f l (subst (λ (word : List ℕ). sources_said 1 (word ∷ others) ≡ Ok all) named good))
        | false ↦ λ is. refl
      ] refl

  -- three words of such looks are the target, the assumed offset and the limit, and the source is no name
  stays : (target assumed limit : List ℕ) → has_sign_or_digit target ≡ true → has_sign_or_digit assumed ≡ true → has_sign_or_digit limit ≡ true → is_utc target ≡ false → is_utc assumed ≡ false
      → filled (target ∷ assumed ∷ limit ∷ source ∷ others) ≡ target ∷ assumed ∷ limit ∷ source ∷ others
  unfolding filled target_in assumed_first assumed_in limit_in year_first time_first field_first column_first separator_first label_first is_setting as_offset
  stays target assumed limit t a l et ea =
      rw (
        t,
        a,
        a,
        l,
        et,
        ea,
        unnamed (codes "year") refl refl,
        unnamed (codes "time") refl refl,
        unnamed (codes "field") refl refl,
        unnamed (codes "column") refl refl,
        unnamed (codes "separator") refl refl,
        unnamed (codes "label") refl refl,
        spelled 1 (source ∷ others) all good,
      ) refl

known : (t : Option ℤ) (a : Option (Option ℤ)) (l : Option ℕ) (sources : Result (List SourceSaid) WordsFault) (said : Words)
    → ((t or words.Target) >>= (λ x. (a or words.Assumed) >>= (λ y. (l or words.Limit) >>= (λ z. sources >>= (λ s. Ok (record { target = x; assumed = y; limit = z; sources = s })))))) ≡ Ok said
    → (t ≡ Some said.target) × (a ≡ Some said.assumed) × (l ≡ Some said.limit) × (sources ≡ Ok said.sources)
known (Some t) (Some a) (Some l) (Ok sources) said e =
    let same : record { target = t; assumed = a; limit = l; sources = sources } ≡ said = cc in
    (ap (λ words. Some words.target) same, ap (λ words. Some words.assumed) same, ap (λ words. Some words.limit) same, ap (λ words. Ok words.sources) same)
known t a l sources said e = absurd cc

few : (words : List (List ℕ)) (said : Words) → length words < 4 → words_said words ≡ Ok said → ⊥
unfolding words_said
few (t ∷ a ∷ l ∷ source ∷ others) said h e = omega arith
few words said h e = cc

-- words that `instants` accepts stay as they are
pub in_full : (words : List (List ℕ)) (said : Words) → words_said words ≡ Ok said → filled words ≡ words
in_full (t ∷ a ∷ l ∷ source ∷ others) said e =
    let is = known (offset_said t) (assumed_said a) (limit_said l) (sources_said 1 (source ∷ others)) said (sym (said_four (t ∷ a ∷ l ∷ source ∷ others) (source ∷ others) t a l refl (omega arith)) ∙ e) in
    let target = sign_first t said.target is.0 in
    let assumed = assumed_begins a said.assumed is.1 in
    stays source others said.sources is.3 t a l target.0 assumed.0 (digit_first l said.limit is.2) target.1 assumed.1
in_full words said e = absurd (few words said (omega arith) e)
