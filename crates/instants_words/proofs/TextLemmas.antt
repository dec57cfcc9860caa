-- The words of a text, one after the other.
use Rattle.std.proofs.Common.{◌≡◌, ◌+◌, ◌<◌, ◌≤◌, ◌==◌, ℕ, ℤ, false, Option, None, Some, Result, Ok, Err, List, [], ◌∷◌, length, refl, ap, arith}
use Rattle.std.specs.Prelude.{IsOk, IfSome, IfNone}
use Rattle.std.specs.Result.{result_err}
use Rattle.std.specs.List.{position_or_len, before_first, after_first}
use Rattle.std.proofs.lemmas.List.Splits.{slice_split_first, slice_split_none, length-slice_split}
use Rattle.std.proofs.lemmas.List.Elements.{All-from_get_or}
use Rattle.std.proofs.lemmas.List.Sums.{fails_before_first, count_by-le-length}
use Rattle.instants_words.specs.declared.fault.WordsFault.TheVariants.{Target, Assumed, Limit}
use Rattle.instants_words.specs.declared.fault.WordsFault.{WordsFault}
use Rattle.instants_words.specs.declared.words.Words.{Words}
use Rattle.instants_words.specs.Pieces.{offset_said, assumed_said, limit_said}
use Rattle.instants_words.specs.Sources.{SourceSaid, format_named, language_named, sources_said}
use Rattle.instants_words.specs.FirstSource.{counted, first_said, source_said}
use Rattle.instants_words.specs.TextWords.{words_in}
use Rattle.instants_words.specs.Words.{◌or◌, ◌>>=◌, words_said}

-- a word, and after its line feed more
pub more_words : (text word rest : List ℕ) → word ≡ before_first (λ b. b == 10) text → rest ≡ after_first (λ b. b == 10) text → position_or_len (λ b. b == 10) text < length text
    → words_in text ≡ word ∷ words_in rest
unfolding words_in
more_words text word rest first left here = rw (first, left) (slice_split_first (λ b. b == 10) text 0 here)

-- a text without a line feed is one word
pub one_word : (text : List ℕ) → position_or_len (λ b. b == 10) text ≡ length text → words_in text ≡ text ∷ []
unfolding words_in
one_word text none =
    slice_split_none (λ b. b == 10) text (All-from_get_or (λ b. (b == 10) ≡ false) text 0 (λ i h. fails_before_first (λ b. b == 10) text i 0 (rw none h)))

abbrev left_len : Option (SourceSaid × List (List ℕ)) → ℕ
left_len None = 0
left_len (Some x) = length x.1

-- what a source leaves is shorter
first_shorter : (format : Option SourceSaid) (language : Option (List ℕ → SourceSaid)) (words : List (List ℕ)) (s : SourceSaid) (rest : List (List ℕ))
    → first_said format language words ≡ Some (s, rest) → length rest ≤ length words
first_shorter (Some f) language words s rest e = omega (arith, ap left_len e)
first_shorter None (Some l) (description ∷ words) s rest e = omega (arith, ap left_len e)
first_shorter None (Some l) [] s rest e = absurd cc
first_shorter None None words s rest e = absurd cc

pub shorter : (words : List (List ℕ)) (s : SourceSaid) (rest : List (List ℕ)) → source_said words ≡ Some (s, rest) → length rest + 1 ≤ length words
shorter [] s rest e = absurd cc
shorter (word ∷ words) s rest e = let h = first_shorter (format_named word) (language_named word) words s rest e in omega (arith, h)

pub some_words : (text : List ℕ) → 0 < length (words_in text)
unfolding words_in
some_words text = omega (arith, length-slice_split (λ b. b == 10) text)

pub few_words : (text : List ℕ) → length (words_in text) ≤ length text + 1
unfolding words_in
few_words text = omega (arith, length-slice_split (λ b. b == 10) text, count_by-le-length (λ b. b == 10) text)

pub ruleset left_words = (shorter, some_words, few_words)

-- ---- all words

-- what four words or more say
abbrev pub four_said : List ℕ → List ℕ → List ℕ → List (List ℕ) → Result Words WordsFault
four_said target_word assumed_word limit_word others = do
  target ← offset_said target_word or Target
  assumed ← assumed_said assumed_word or Assumed
  limit ← limit_said limit_word or Limit
  sources ← sources_said 1 others
  Ok (record { target = target; assumed = assumed; limit = limit; sources = sources })

pub said_four : (ws others : List (List ℕ)) (t a l : List ℕ) → ws ≡ t ∷ (a ∷ (l ∷ others)) → 0 < length others → words_said ws ≡ four_said t a l others
unfolding words_said
said_four ws [] t a l e some = absurd (omega arith)
said_four ws (word ∷ others) t a l e some = rw e refl

pub four : (t a l text : List ℕ) → words_said (t ∷ a ∷ l ∷ words_in text) ≡ four_said t a l (words_in text)
four t a l text = said_four _ (words_in text) t a l refl (some_words text)

-- the fault of the sources is that of all words, where those before are right
pub last_fault : (before : ℕ) (target : ℤ) (assumed : Option ℤ) (limit : ℕ) (said : Result (List SourceSaid) WordsFault)
    → result_err {T = Words} (said >>= (λ sources. Ok (record { target = target; assumed = assumed; limit = limit; sources = sources }))) ≡ result_err (counted before said)
last_fault before target assumed limit (Ok sources) = refl
last_fault before target assumed limit (Err fault) = refl

pub ruleset fours = (four, last_fault, few_words)

pub some_fault : {A : Type 0} (said : Result A WordsFault) (fault : Option WordsFault) → fault ≡ result_err said → IfSome fault (λ fault. said ≡ Err fault)
some_fault (Ok right) fault e = rw e tt
some_fault (Err wrong) fault e = rw e refl

pub no_fault : {A : Type 0} (said : Result A WordsFault) (fault : Option WordsFault) → fault ≡ result_err said → IfNone fault (IsOk said)
no_fault (Ok right) fault e = rw e refl
no_fault (Err wrong) fault e = rw e tt
