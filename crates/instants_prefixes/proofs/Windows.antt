-- The bytes that a source is given, and that nothing else counts.
use Rattle.std.proofs.Common.{◌≡◌, ◌≤◌, ◌∙◌, ℕ, Bool, false, List, length, take, get_or, sym, ap, arith}
use Rattle.std.proofs.lemmas.Grind.{common_steps}
use Rattle.std.proofs.lemmas.List.{length-take, take-take}
use Rattle.instants_edges.proofs.TextPrefixes.{IsPrefix, iso_is_prefix, mail_is_prefix}
use Rattle.instants_sources.specs.Grammar.{Grammar, Rfc2822, Iso8601}
use Rattle.instants_prefixes.specs.Reading.{text_for}
use Rattle.std.proofs.Math.Seq.{take-length}

-- ---- a text is a prefix of the bytes

prefix_near : (grammar : Grammar) (bytes : List ℕ) → IsPrefix (text_for grammar bytes) (take 256 bytes)
unfolding text_for
prefix_near Rfc2822 bytes = mail_is_prefix 0 (take 256 bytes)
prefix_near Iso8601 bytes = iso_is_prefix (take 256 bytes)
prefix_near _ bytes = (length (take 256 bytes), omega arith, sym (take-length (take 256 bytes)))

taken_fails : (n : ℕ) (bytes : List ℕ) (place : ℕ) (p : ℕ → Bool) → p 0 ≡ false → p (get_or bytes place 0) ≡ false → p (get_or (take n bytes) place 0) ≡ false
taken_fails n bytes place p none fails = grind (arith, common_steps)

-- the text of a source are the first bytes, no more than those within the window
pub text_taken : (grammar : Grammar) (bytes : List ℕ) → (n : ℕ) × (n ≤ 256) × (text_for grammar bytes ≡ take n bytes)
text_taken grammar bytes =
    let (n, within, is) = prefix_near grammar bytes in
    let near : n ≤ 256 = omega (arith, within, length-take 256 bytes) in
    (n, near, is ∙ take-take n 256 bytes near)

-- a source is given no more than the bytes within the window
pub text_within : (grammar : Grammar) (bytes : List ℕ) → length (text_for grammar bytes) ≤ length (take 256 bytes)
text_within grammar bytes = let (n, near, is) = text_taken grammar bytes in omega (arith, near, ap length is, length-take n bytes, length-take 256 bytes)

-- a test that a byte does not pass, nor one that is not there, is passed by no byte there of the text
pub text_fails : (grammar : Grammar) (bytes : List ℕ) (place : ℕ) (p : ℕ → Bool) → p 0 ≡ false → p (get_or bytes place 0) ≡ false → p (get_or (text_for grammar bytes) place 0) ≡ false
text_fails grammar bytes place p none fails = let (n, near, is) = text_taken grammar bytes in rw is (taken_fails n bytes place p none fails)
