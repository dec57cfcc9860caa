-- What is wrong with sources, word by word.
use Rattle.std.proofs.Common.{◌≡◌, ℕ, ◌+◌, ◌<◌, true, false, Option, None, Some, is_some, option_map, Result, Ok, Err, List, [], ◌∷◌, ◌++◌, append_assoc, length, get_or, drop, map, refl, ap, ◌∙◌}
use Rattle.std.specs.Result.{result_err}
use Rattle.std.proofs.lemmas.List.{append-nil, map-append}
use Rattle.instants_words.specs.Sources.{SourceSaid, language_named}
use Rattle.instants_lines_words.specs.Words.{◌or◌, ◌>>=◌, also, described, source_named, sources_read}
use Rattle.instants_lines_words.specs.Wrong.{Wrong, Source}

pub ruleset added = (append_assoc, append-nil, map-append)

by_source : (said : Option SourceSaid) (wrong : Wrong) (others : Result (List SourceSaid) Wrong) → is_some said ≡ true → result_err (said or wrong >>= (λ source. also source others)) ≡ result_err others
by_source (Some source) wrong (Ok sources) is = refl
by_source (Some source) wrong (Err other) is = refl
by_source None wrong others is = absurd cc

by_none : (said : Option SourceSaid) (wrong : Wrong) (others : Result (List SourceSaid) Wrong) → is_some said ≡ false → result_err (said or wrong >>= (λ source. also source others)) ≡ Some wrong
by_none (Some source) wrong others is = absurd cc
by_none None wrong others is = refl

is_described : (language : Option (List ℕ → SourceSaid)) (description : List ℕ) → is_some language ≡ true → is_some (option_map (λ said. said description) language) ≡ true
is_described (Some said) description is = refl
is_described None description is = absurd cc

module _ (place : ℕ) (word : List ℕ) (words : List (List ℕ)) where
  pub description : (language : List ℕ) → is_some (language_named language) ≡ true → result_err (sources_read (Some language) place (word ∷ words)) ≡ result_err (sources_read None (place + 1) words)
  unfolding sources_read
  description language is = by_source (described language word) _ (sources_read None (place + 1) words) (is_described (language_named language) word is)

  pub language : is_some (language_named word) ≡ true → sources_read None place (word ∷ words) ≡ sources_read (Some word) place words
  unfolding sources_read
  language is = rw is refl

  pub source : is_some (language_named word) ≡ false → is_some (source_named word) ≡ true → result_err (sources_read None place (word ∷ words)) ≡ result_err (sources_read None (place + 1) words)
  unfolding sources_read
  source none is = rw none (by_source (source_named word) _ (sources_read None (place + 1) words) is)

  pub no_source : is_some (language_named word) ≡ false → is_some (source_named word) ≡ false → result_err (sources_read None place (word ∷ words)) ≡ Some (Source place word)
  unfolding sources_read
  no_source none is = rw none (by_none (source_named word) (Source place word) (sources_read None (place + 1) words) is)

pub ruleset steps = (description, language, source, no_source)
