-- The lines of the output, without their keys, are those of the stream.
use Rattle.std.proofs.Common.{◌≡◌, ◌==◌, ℕ, true, false, Option, List, [], ◌∷◌, ◌++◌, map, refl, sym, ap, subst, ◌∙◌, inl, inr, arith, append-nil}
use Rattle.std.specs.Prelude.{⊤, cond, if◌then◌else◌}
use Rattle.std.specs.List.{slice_split, onto_first}
use Rattle.std.proofs.lemmas.List.Elements.{All-nil, All-cons, All-append}
use Rattle.base.specs.Bytes.{tab, line_feed}
use Rattle.instants_stream.specs.Lines.{HasNoLineFeed, but_last, if_nonempty, parts, whole_lines, last_part, lines}
use Rattle.instants_stream.specs.Steps.{state_within, line_said, written, after, last_part_said, output}
use Rattle.instants_stream.proofs.Lines.{whole_lines-line, last_part-line, last_part-append, lines-append, whole_lines_none, last_part_of_none, last_part_free}
use Rattle.instants_stream.proofs.Written.{is_no_longer, written-append}
use Rattle.instants_lines.specs.Fields.{IsLabel, is_field, without_fields}
use Rattle.instants_lines.specs.Going.{Going, IsKeyed, below, is_carry, is_explain, key_of_line, keyed, label_prefix, text_in, near, last_end, lines_steps}
use Rattle.instants_lines_words.specs.declared.mode.Mode.{Mode}
use Rattle.instants_lines_words.specs.declared.mode.Mode.TheVariants.{Key, Carry}
use Rattle.instants_lines.proofs.Fields.{line_field, either_field, field_free, label_free, without_both}
use Rattle.instants_lines.proofs.Handed.{handed_said, handed_next}
use Rattle.instants_lines.proofs.States.{after_lines}

-- ---- the lines of a stream have no line feed

abbrev pub Frees : List (List ℕ) → Type 0
Frees [] = ⊤
Frees (part ∷ others) = HasNoLineFeed part × Frees others

none_free : HasNoLineFeed []
none_free = All-nil (λ (b : ℕ). (b == 10) ≡ false)

one_free : (byte : ℕ) (bytes : List ℕ) → (byte == 10) ≡ false → HasNoLineFeed bytes → HasNoLineFeed (byte ∷ bytes)
one_free byte bytes e free = All-cons (λ (b : ℕ). (b == 10) ≡ false) byte bytes e free

onto_free : (byte : ℕ) (some : List (List ℕ)) → (byte == 10) ≡ false → Frees some → Frees (onto_first byte some)
onto_free byte [] e free = (one_free byte [] e none_free, tt)
onto_free byte (part ∷ others) e free = (one_free byte part e free.0, free.1)

split_free : (bytes : List ℕ) → Frees (slice_split (λ b. b == 10) bytes)
split_free [] = (none_free, tt)
split_free (byte ∷ bytes) =
    elim (byte == 10) as (λ v. (byte == 10) ≡ v → Frees (cond v ([] ∷ slice_split (λ b. b == 10) bytes) (onto_first byte (slice_split (λ b. b == 10) bytes)))) [
      | true ↦ λ e. (none_free, split_free bytes)
      | false ↦ λ e. onto_free byte (slice_split (λ b. b == 10) bytes) e (split_free bytes)
    ] refl

but_last_free : (some : List (List ℕ)) → Frees some → Frees (but_last some)
but_last_free [] free = tt
but_last_free (part ∷ []) free = tt
but_last_free (part ∷ next ∷ others) free = (free.0, but_last_free (next ∷ others) free.1)

nonempty_free : (part : List ℕ) → HasNoLineFeed part → Frees (if_nonempty part)
nonempty_free [] free = tt
nonempty_free (byte ∷ bytes) free = (free, tt)

append_free : (some others : List (List ℕ)) → Frees some → Frees others → Frees (some ++ others)
append_free [] others free free_too = free_too
append_free (part ∷ some) others free free_too = (free.0, append_free some others free.1 free_too)

pub whole_free : (stream : List ℕ) → Frees (whole_lines stream)
unfolding whole_lines parts
whole_free stream = but_last_free (slice_split (λ b. b == 10) stream) (split_free stream)

lines_free : (stream : List ℕ) → Frees (lines stream)
unfolding lines
lines_free stream = append_free (whole_lines stream) (if_nonempty (last_part stream)) (whole_free stream) (nonempty_free (last_part stream) (last_part_free stream))

-- ---- the two modes

-- what holds of both
pub of_keyed : (P : Mode → Type 0) → P Key → P Carry → (mode : Mode) → IsKeyed mode → P mode
of_keyed P key carry mode (inl e) = subst P (sym e) key
of_keyed P key carry mode (inr e) = subst P (sym e) carry

pub not_explained : (mode : Mode) → IsKeyed mode → is_explain mode ≡ false
not_explained mode is = of_keyed (λ mode. is_explain mode ≡ false) refl refl mode is

pub text_of : (mode : Mode) → IsKeyed mode → (going : Going) (line : List ℕ) → text_in mode going line ≡ keyed going line
text_of mode is going line = of_keyed (λ mode. text_in mode going line ≡ keyed going line) refl refl mode is

end_of : (mode : Mode) → IsKeyed mode → last_end mode ≡ line_feed ∷ []
end_of mode is = of_keyed (λ mode. last_end mode ≡ line_feed ∷ []) refl refl mode is

-- ---- the output is written line by line

last_is : (many : ℕ) (going : Going) → IsKeyed going.mode → (part : List ℕ) → last_part_said lines_steps many going part ≡ written lines_steps many going (if_nonempty part)
unfolding last_part_said written line_said state_within
last_is many going keyed [] = rw (is_no_longer many 0 (omega arith)) refl
last_is many going keyed (byte ∷ bytes) = rw (not_explained going.mode keyed, end_of going.mode keyed) (sym (append-nil _))

pub output_is : (many : ℕ) (going : Going) → IsKeyed going.mode → (stream : List ℕ) → output lines_steps going many stream ≡ written lines_steps many going (lines stream)
unfolding output lines
output_is many going keyed stream =
    let still = after_lines (λ later. IsKeyed later.mode) (λ later line is. elim (is_explain later.mode) as (λ explains. IsKeyed (if explains then later else below later line).mode) [ true ↦ is | false ↦ is ]) many going (whole_lines stream) keyed in
    ap (λ (text : List ℕ). written lines_steps many going (whole_lines stream) ++ text) (last_is many (after lines_steps many going (whole_lines stream)) still (last_part stream))
    ∙ sym (written-append Going lines_steps many going (whole_lines stream) (if_nonempty (last_part stream)))

-- ---- without their keys

one_line : (text : List ℕ) → HasNoLineFeed text → lines (text ++ line_feed ∷ []) ≡ text ∷ []
unfolding lines
one_line text free = rw (whole_lines-line [] text free, last_part-line [] text free, whole_lines_none, last_part_of_none) refl

record AreLines (label : Option (List ℕ)) (texts : List ℕ) (some : List (List ℕ)) : Type 0 where
  ends : last_part texts ≡ []
  are : map (without_fields label) (lines texts) ≡ some

none_are : (label : Option (List ℕ)) (texts : List ℕ) → texts ≡ [] → AreLines label texts []
unfolding lines
none_are label texts e =
    let P : List ℕ → Type 0 = λ t. AreLines label t [] in
    subst P (sym e) (record { ends = last_part_of_none; are = rw (whole_lines_none, last_part_of_none) refl })

module _ (label : Option (List ℕ)) (is_label : IsLabel label) where
  one_more : (key line texts more : List ℕ) (others : List (List ℕ)) → is_field key ≡ true → HasNoLineFeed line → texts ≡ ((key ++ tab ∷ (label_prefix label ++ line)) ++ line_feed ∷ []) ++ more → AreLines label more others
      → AreLines label texts (line ∷ others)
  one_more key line texts more others is free e rest =
      let text : List ℕ = key ++ tab ∷ (label_prefix label ++ line) in
      let line_is : HasNoLineFeed (label_prefix label ++ line) = All-append (λ (b : ℕ). (b == 10) ≡ false) (label_prefix label) line (label_free label is_label) free in
      let text_free : HasNoLineFeed text = All-append (λ (b : ℕ). (b == 10) ≡ false) key (tab ∷ (label_prefix label ++ line)) (field_free key is) (one_free tab (label_prefix label ++ line) refl line_is) in
      let end : last_part (text ++ line_feed ∷ []) ≡ [] = last_part-line [] text text_free in
      record {
        ends = ap last_part e ∙ last_part-append (text ++ line_feed ∷ []) more end ∙ rest.ends;
        are =
            ap (λ (t : List ℕ). map (without_fields label) (lines t)) e
            ∙ ap (λ (ls : List (List ℕ)). map (without_fields label) ls) (lines-append (text ++ line_feed ∷ []) more end ∙ ap (λ (ls : List (List ℕ)). ls ++ lines more) (one_line text text_free))
            ∙ ap (λ (l : List ℕ). l ∷ map (without_fields label) (lines more)) (without_both key label line is is_label)
            ∙ ap (λ (ls : List (List ℕ)). line ∷ ls) rest.are;
      }

written_lines : (going : Going) → IsKeyed going.mode → IsLabel going.label → is_field going.key ≡ true → (some : List (List ℕ)) → Frees some → AreLines going.label (written lines_steps (near going.mode going.search) going some) some
unfolding written
written_lines going keys is_label is [] free = none_are going.label [] refl
written_lines going keys is_label is (line ∷ others) free =
    let many : ℕ = near going.mode going.search in
    let key_is = line_field going line is in
    let rest = written_lines (below going line) keys is_label (either_field (is_carry going.mode) going.key (key_of_line going line) is key_is) others free.1 in
    let hands = not_explained going.mode keys in
    one_more going.label is_label (key_of_line going line) line _ (written lines_steps many (below going line) others) others key_is free.0
    (rw (handed_said going line hands, handed_next going line hands, text_of going.mode keys going line) refl) rest

pub without_keys : (going : Going) (stream : List ℕ) → IsKeyed going.mode → IsLabel going.label → is_field going.key ≡ true
    → map (without_fields going.label) (lines (output lines_steps going (near going.mode going.search) stream)) ≡ lines stream
without_keys going stream keys is_label is =
    ap (λ (text : List ℕ). map (without_fields going.label) (lines text)) (output_is (near going.mode going.search) going keys stream) ∙ (written_lines going keys is_label is (lines stream) (lines_free stream)).are
