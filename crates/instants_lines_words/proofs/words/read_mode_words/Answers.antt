use Rattle.std.proofs.Common.{◌≡◌, ◌<◌, ℕ, ℤ, false, Option, None, Ok, List, length, map, refl, sym, ap, ◌∙◌, arith}
use Rattle.std.specs.Result.{is_ok, result_map_both}
use Rattle.instants_words.specs.Sources.{SourceSaid}
use Rattle.instants_lines_words.specs.Asked.{asking_of}
use Rattle.std.proofs.lemmas.List.{length-map}
use Rattle.instants_lines_words.specs.Words.{first_wrong, mode_words_said, settings_said, sources_read}
use Rattle.instants_lines_words.proofs.Reading.{all_right, by_parts, right, some_there, there, wrong_there}
use Rattle.instants_lines_words.proofs.words.read_mode_words.Goals as goal
use Rattle.instants_lines_words.proofs.words.read_mode_words.Goals.{After-is_empty, In_default-wrong_source}

-- some sources are there
some : (c : After-is_empty) → c.is_empty.result ≡ false → 0 < length (map (λ word. word.now) c.part-parted.result.sources.now)
some c there_are = rw (length-map c.part-parted.result.sources.now (λ word. word.now)) (grind (arith, c.is_empty.ensures, there_are))

pub returns-in-Err-clause-err : goal.returns-in-Err-clause-err
returns-in-Err-clause-err c =
    let is = c.part-parted.ensures in
    by_parts _ _ _ _ _ _ _ _ _ _ _ _ _ _ _ _ (ap (map (λ word. word.now)) c.in-Some.ensures.cases.0) (sym c.mode_named.ensures ∙ c.in-Some-mode_named.is) is.target is.assumed is.limit is.whole is.zone is.year is.time is.field is.column is.separator is.label is.sources
    ∙ rw (some_there _ (some (goal.at.returns-in-Err-clause-err c).After-is_empty c.if-is_empty.false), (there _ c.in_default-wrong_setting.ensures).1, ← c.in-Err.ensures) refl

pub returns-in-Some-wrong_source-clause-err : goal.returns-in-Some-wrong_source-clause-err
returns-in-Some-wrong_source-clause-err c =
    let is = c.part-parted.ensures in
    by_parts _ _ _ _ _ _ _ _ _ _ _ _ _ _ _ _ (ap (map (λ word. word.now)) c.in-Some.ensures.cases.0) (sym c.mode_named.ensures ∙ c.in-Some-mode_named.is) is.target is.assumed is.limit is.whole is.zone is.year is.time is.field is.column is.separator is.label is.sources
    ∙ rw (some_there _ (some (goal.at.returns-in-Some-wrong_source-clause-err c).After-is_empty c.if-is_empty.false), (there _ c.in_default-wrong_setting.ensures).1, ← c.in-Ok.ensures, wrong_there _ _ c.in-Some-wrong_source.ensures, c.first_wrong.ensures) refl

-- words in which nothing is wrong
accepted : (c : In_default-wrong_source) → 0 < length (map (λ word. word.now) c.part-parted.result.sources.now) → (setting : ℤ × Option ℤ × ℕ) × (all : List SourceSaid) × (sources_read None 1 (map (λ word. word.now) c.part-parted.result.sources.now) ≡ Ok all)
    × (settings_said c.part-parted.result.target.now c.part-parted.result.assumed.now c.part-parted.result.limit.now ≡ Ok setting)
    × (mode_words_said (map (λ word. word.now) c.args.words.now) ≡ Ok (asking_of c.in-Ok.asked, record { target = setting.0; assumed = setting.1; limit = setting.2; sources = all }))
accepted c are =
    let is = c.part-parted.ensures in
    let setting = there _ c.in_default-wrong_setting.ensures in
    let all = there _ c.in_default-wrong_source.ensures in (
      setting.0,
      all.0,
      all.1,
      setting.1,
      by_parts _ _ _ _ _ _ _ _ _ _ _ _ _ _ _ _ (ap (map (λ word. word.now)) c.in-Some.ensures.cases.0) (sym c.mode_named.ensures ∙ c.in-Some-mode_named.is) is.target is.assumed is.limit is.whole is.zone is.year is.time is.field is.column is.separator is.label is.sources
          ∙ all_right _ _ _ _ setting.0 _ all.0 (some_there _ are) setting.1 (sym c.in-Ok.ensures) (ap (result_map_both (λ all. all) (first_wrong c.part-parted.result.is_whole)) all.1),
    )

pub returns-in-Ok-fill-clause-ok : goal.returns-in-Ok-fill-clause-ok
returns-in-Ok-fill-clause-ok c =
    let parted = c.part-parted.result in
    let at = goal.at.returns-in-Ok-fill-clause-ok c in
    let are = some at.After-is_empty c.if-is_empty.false in
    let (setting, all, sources, settings, said) = accepted at.In_default-wrong_source are in (
      record { target = setting.0; assumed = setting.1; limit = setting.2; sources = all },
      rw c.in-Ok-fill.ensures (right parted.target.now parted.assumed.now parted.limit.now (map (λ word. word.now) parted.sources.now) setting all are settings sources),
      said,
    )

pub returns-in-Err-fill-clause-err : goal.returns-in-Err-fill-clause-err
returns-in-Err-fill-clause-err c =
    let at = goal.at.returns-in-Err-fill-clause-err c in
    let (setting, all, sources, settings, said) = accepted at.In_default-wrong_source (some at.After-is_empty c.if-is_empty.false) in
    ap is_ok said
