-- Words that stand in one text, and what is wrong with them.
use Rattle.std.proofs.Common.{◌≡◌, ℕ, Result, Ok, Err, List}
use Rattle.std.specs.Prelude.{IsOk}
use Rattle.instants_stream.specs.Lines.{parts}
use Rattle.instants_words.specs.declared.fault.WordsFault.{WordsFault}
use Rattle.instants_words.specs.declared.words.Words.{Words}
use Rattle.instants_words.specs.TextWords.{words_in}
use Rattle.instants_words.specs.Words.{words_said}

-- what is wrong with the words of a text is wrong with those between line feeds
pub told : (text bytes : List ℕ) (fault : WordsFault) → text ≡ bytes → words_said (words_in text) ≡ Err fault → words_said (parts bytes) ≡ Err fault
unfolding parts words_in
told text bytes fault same e = rw same at e

-- words have one first fault
pub same_fault : (bytes : List ℕ) (one other : WordsFault) → words_said (parts bytes) ≡ Err one → words_said (parts bytes) ≡ Err other → one ≡ other
same_fault bytes one other e f = cc

accepted_is_no_fault : (r : Result Words WordsFault) (fault : WordsFault) → IsOk r → r ≡ Err fault → ⊥
accepted_is_no_fault (Ok words) fault ok e = absurd cc
accepted_is_no_fault (Err f) fault ok e = absurd cc

-- words that are accepted have none
pub no_fault : (text bytes : List ℕ) (fault : WordsFault) → text ≡ bytes → IsOk (words_said (words_in text)) → words_said (parts bytes) ≡ Err fault → ⊥
unfolding parts words_in
no_fault text bytes fault same ok e = accepted_is_no_fault (words_said (words_in text)) fault ok (rw same e)

-- words of a text that are accepted are accepted between line feeds
pub accepted : (text bytes : List ℕ) → text ≡ bytes → IsOk (words_said (words_in text)) → IsOk (words_said (parts bytes))
unfolding parts words_in
accepted text bytes same ok = rw (← same) ok
