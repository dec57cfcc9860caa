-- The parts that were read, and the items that they stand for.
use Rattle.std.proofs.Common.{◌≡◌, ℕ, ◌<◌, suc, List, [], ◌∷◌, ◌++◌, length, Result, Ok, true, false, refl, sym, ap, ◌∙◌, append_assoc}
use Rattle.std.proofs.lemmas.List.{append-nil}
use Rattle.description_lexer.specs.declared.description_fault.DescriptionFault.{DescriptionFault}
use Rattle.description_lexer.specs.declared.description_fault.DescriptionFault.TheVariants as errors
use Rattle.description_lexer.specs.Fault.{Fault}
use Rattle.description_lexer.specs.Answer.{◌>>=◌, Fails}
use Rattle.description_items.specs.Tree.{Tree}
use Rattle.description_lexer.specs.Text.{Rest, whole}
use Rattle.description_lexer.specs.Many.{many}
use Rattle.description_lexer.proofs.Many.{SoFar, many_begins, many_goes_on, many_fails, many_ends}
use Rattle.description_lexer.proofs.Readings.{and_then_ok}
use Rattle.description_strftime.specs.Text.{joined}
use Rattle.description_strftime.specs.Reading.{at_end, strftime_step, read_strftime}

pub joined_append : (ps qs : List (List Tree)) → joined (ps ++ qs) ≡ joined ps ++ joined qs
joined_append [] qs = refl
joined_append (p ∷ ps) qs = ap (λ (ts : List Tree). p ++ ts) (joined_append ps qs) ∙ sym (append_assoc p (joined ps) (joined qs))

-- all the parts of a text
abbrev pub all_parts : List ℕ → Result (List (List Tree) × Rest) Fault
all_parts text = many at_end strftime_step (suc (length text)) (whole text)

-- what was read so far are these items, and this is still to be read
pub record Reads (text : List ℕ) (items : List Tree) (rest : Rest) : Type 0 where
  pub parts : List (List Tree)
  pub all : items ≡ joined parts
  pub so_far : SoFar at_end strftime_step (all_parts text) parts rest

pub reads_begins : (text : List ℕ) → Reads text [] (whole text)
reads_begins text = record { parts = []; all = refl; so_far = many_begins at_end strftime_step (whole text) }

pub reads_goes_on : (text : List ℕ) (items : List Tree) (s : Rest) (part : List Tree) (after : Rest) → Reads text items s → at_end s ≡ false → length after.text < length s.text → strftime_step s ≡ Ok (part, after) → Reads text (items ++ part) after
reads_goes_on text items s part after h more less e = record {
  parts = h.parts ++ part ∷ [];
  all = ap (λ (ts : List Tree). ts ++ part) h.all ∙ (sym (joined_append h.parts (part ∷ []) ∙ ap (λ (ts : List Tree). joined h.parts ++ ts) (append-nil part)));
  so_far = many_goes_on at_end strftime_step (all_parts text) h.parts s part after h.so_far more less e;
}

pub reads_fails : (text : List ℕ) (items : List Tree) (s : Rest) (d : DescriptionFault) → Reads text items s → at_end s ≡ false → Fails d (strftime_step s) → Fails d (read_strftime text)
unfolding read_strftime
reads_fails text items s d h more e = then d (many_fails at_end strftime_step (all_parts text) h.parts s d h.so_far more e)
  where
    then : (d : DescriptionFault) → Fails d (all_parts text) → Fails d (all_parts text >>= λ parts. Ok (joined parts.0))
    then errors.Memory f = tt
    then (errors.Description fault) f = rw f refl

pub reads_ends : (text : List ℕ) (items : List Tree) (s : Rest) → Reads text items s → at_end s ≡ true → read_strftime text ≡ Ok items
unfolding read_strftime
reads_ends text items s h ended = and_then_ok (all_parts text) (h.parts, s) (λ parts. Ok (joined parts.0)) (many_ends at_end strftime_step (all_parts text) h.parts s h.so_far ended) ∙ ap (λ (ts : List Tree). Ok ts) (sym h.all)
