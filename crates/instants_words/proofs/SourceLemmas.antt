-- The sources that words say, one after the other.
use Rattle.std.proofs.Common.{◌≡◌, ℕ, ◌+◌, ◌<◌, Option, None, Some, Result, Ok, Err, List, [], ◌∷◌, length, refl, sym, ap, ◌∙◌, arith}
use Rattle.std.proofs.lemmas.List.{append_assoc, append-nil, length-map}
use Rattle.instants_words.specs.declared.fault.WordsFault.{WordsFault}
use Rattle.instants_words.specs.declared.fault.WordsFault.TheVariants.{Source}
use Rattle.instants_words.specs.Sources.{SourceSaid, format_named, language_named, also, last_said, next_said, sources_said}
use Rattle.instants_words.specs.FirstSource.{counted, first_said, source_said}

-- what is said where the first source is this one, or none
abbrev pub first_or : ℕ → Option (SourceSaid × List (List ℕ)) → Result (List SourceSaid) WordsFault
first_or place (Some said) = also said.0 (sources_said (place + 1) said.1)
first_or place None = Err (Source place)

last_step : (place : ℕ) (format : Option SourceSaid) (language : Option (List ℕ → SourceSaid)) → last_said place format ≡ first_or place (first_said format language [])
unfolding sources_said
last_step place (Some f) language = refl
last_step place None (Some l) = refl
last_step place None None = refl

next_step : (place : ℕ) (format : Option SourceSaid) (language : Option (List ℕ → SourceSaid)) (next : List ℕ) (words : List (List ℕ))
    → next_said place format language next (sources_said (place + 1) (next ∷ words)) (sources_said (place + 1) words) ≡ first_or place (first_said format language (next ∷ words))
next_step place (Some f) language next words = refl
next_step place None (Some l) next words = refl
next_step place None None next words = refl

-- sources are the first one and those after it
pub sources_step : (place : ℕ) (word : List ℕ) (words : List (List ℕ)) → sources_said place (word ∷ words) ≡ first_or place (source_said (word ∷ words))
unfolding sources_said
sources_step place word [] = last_step place (format_named word) (language_named word)
sources_step place word (next ∷ words) = next_step place (format_named word) (language_named word) next words

pub step_some : (place : ℕ) (words others : List (List ℕ)) (s : SourceSaid) → source_said words ≡ Some (s, others) → sources_said place words ≡ also s (sources_said (place + 1) others)
step_some place [] others s e = absurd cc
step_some place (word ∷ words) others s e = sources_step place word words ∙ ap (first_or place) e

pub step_none : (place : ℕ) (words : List (List ℕ)) → 0 < length words → source_said words ≡ None → sources_said place words ≡ Err (Source place)
step_none place [] some e = absurd (omega arith)
step_none place (word ∷ words) some e = sources_step place word words ∙ ap (first_or place) e

-- words that are accepted say a source, and others after it
also_ok : (s : SourceSaid) (others : Result (List SourceSaid) WordsFault) (all : List SourceSaid) → also s others ≡ Ok all → (rest : List SourceSaid) × (others ≡ Ok rest) × (all ≡ s ∷ rest)
also_ok s (Ok rest) all e = (rest, refl, cc)
also_ok s (Err fault) all e = absurd cc

pub step_ok : (place : ℕ) (words others : List (List ℕ)) (s : SourceSaid) (all : List SourceSaid) → sources_said place words ≡ Ok all → source_said words ≡ Some (s, others)
    → (rest : List SourceSaid) × (sources_said (place + 1) others ≡ Ok rest) × (all ≡ s ∷ rest)
step_ok place words others s all e f = also_ok s _ all (sym (step_some place words others s f) ∙ e)

-- or there are none
pub end_ok : (place : ℕ) (words : List (List ℕ)) (all : List SourceSaid) → sources_said place words ≡ Ok all → source_said words ≡ None → all ≡ []
unfolding sources_said
end_ok place [] all e none = cc
end_ok place (word ∷ words) all e none = let wrong = step_none place (word ∷ words) (omega arith) none in absurd cc

-- ---- how many they are

also_counted : (before : ℕ) (s : SourceSaid) (others : Result (List SourceSaid) WordsFault) → counted before (also s others) ≡ counted (before + 1) others
also_counted before s (Ok sources) = ap Ok (omega arith)
also_counted before s (Err fault) = refl

abbrev pub first_counted : ℕ → Option (SourceSaid × List (List ℕ)) → Result ℕ WordsFault
first_counted before (Some said) = counted (before + 1) (sources_said (before + 1 + 1) said.1)
first_counted before None = Err (Source (before + 1))

by_first : (before : ℕ) (first : Option (SourceSaid × List (List ℕ))) → counted before (first_or (before + 1) first) ≡ first_counted before first
by_first before (Some said) = also_counted before said.0 (sources_said (before + 1 + 1) said.1)
by_first before None = refl

pub count_step : (before : ℕ) (words : List (List ℕ)) → 0 < length words → counted before (sources_said (before + 1) words) ≡ first_counted before (source_said words)
count_step before [] some = absurd (omega arith)
count_step before (word ∷ words) some = ap (counted before) (sources_step (before + 1) word words) ∙ by_first before (source_said (word ∷ words))

pub count_none : (before place : ℕ) (words : List (List ℕ)) → length words ≡ 0 → counted before (sources_said place words) ≡ Ok before
unfolding sources_said
count_none before place [] none = ap Ok (omega arith)
count_none before place (word ∷ words) none = absurd (omega arith)

pub counted_ok : (before n : ℕ) (said : Result (List SourceSaid) WordsFault) → Ok n ≡ counted before said → (all : List SourceSaid) × (said ≡ Ok all)
counted_ok before n (Ok sources) e = (sources, refl)
counted_ok before n (Err fault) e = absurd cc

pub counted_err : (before : ℕ) (fault : WordsFault) (said : Result (List SourceSaid) WordsFault) → Err fault ≡ counted before said → said ≡ Err fault
counted_err before fault (Ok sources) e = absurd cc
counted_err before fault (Err other) e = cc

pub ruleset counts = (count_step, count_none, counted_ok, counted_err, length-map)

-- ---- words say one source at least

pub said_some : (place : ℕ) (words : List (List ℕ)) (sources : List SourceSaid) → 0 < length words → sources_said place words ≡ Ok sources → 0 < length sources
said_some place words sources some e =
    elim (source_said words) as (λ first. source_said words ≡ first → 0 < length sources) [
      | Some said ↦ λ f. let (rest, reads, are) = step_ok place words said.1 said.0 sources e f in rw are (omega arith)
      | None ↦ λ f. let wrong = step_none place words some f in absurd cc
    ] refl
