-- Lemmas on the parts of bytes between line feeds.
use Rattle.std.proofs.Common.{◌≡◌, ◌==◌, ℕ, suc, ◌+◌, ◌<◌, ◌⊎◌, true, false, cond, List, [], ◌∷◌, ◌++◌, length, refl, ap, ◌∙◌, inl, inr, arith, append_assoc, append-nil}
use Rattle.std.specs.List.{onto_first}
use Rattle.std.proofs.lemmas.List.Splits.{slice_split_none, slice_split_at, length-slice_split}
use Rattle.std.proofs.lemmas.List.Elements.{All-nil, All-cons}
use Rattle.std.proofs.lemmas.List.Concat.{flat_map-append}
use Rattle.instants_stream.specs.Lines.{HasNoLineFeed, but_last, last, if_nonempty, parts, whole_lines, last_part, lines}
use Rattle.instants_stream.specs.Answers.{answered, output}

-- the bytes before the first part
abbrev pub glue : List ℕ → List (List ℕ) → List (List ℕ)
glue [] ps = ps
glue (b ∷ bs) ps = onto_first b (glue bs ps)

pub glue-cons : (l q : List ℕ) (qs : List (List ℕ)) → glue l (q ∷ qs) ≡ (l ++ q) ∷ qs
glue-cons [] q qs = refl
glue-cons (b ∷ l) q qs = ap (onto_first b) (glue-cons l q qs)

but_last-append : (ps : List (List ℕ)) (q : List ℕ) (qs : List (List ℕ)) → but_last (ps ++ q ∷ qs) ≡ ps ++ but_last (q ∷ qs)
but_last-append [] q qs = refl
but_last-append (p ∷ []) q qs = refl
but_last-append (p ∷ r ∷ ps) q qs = ap (λ (xs : List (List ℕ)). p ∷ xs) (but_last-append (r ∷ ps) q qs)

last-append : (ps : List (List ℕ)) (q : List ℕ) (qs : List (List ℕ)) → last (ps ++ q ∷ qs) ≡ last (q ∷ qs)
last-append [] q qs = refl
last-append (p ∷ []) q qs = refl
last-append (p ∷ r ∷ ps) q qs = last-append (r ∷ ps) q qs

-- a part of its own before
join_part : (ps qs : List (List ℕ)) → 0 < length ps → [] ∷ (but_last ps ++ glue (last ps) qs) ≡ but_last ([] ∷ ps) ++ glue (last ([] ∷ ps)) qs
join_part [] qs h = absurd (omega arith)
join_part (p ∷ ps) qs h = refl

-- a byte before the first part
join_byte : (x : ℕ) (ps qs : List (List ℕ)) → onto_first x (but_last ps ++ glue (last ps) qs) ≡ but_last (onto_first x ps) ++ glue (last (onto_first x ps)) qs
join_byte x [] qs = refl
join_byte x (p ∷ []) qs = refl
join_byte x (p ∷ r ∷ ps) qs = refl

pub parts_nonempty : (s : List ℕ) → 0 < length (parts s)
unfolding parts
parts_nonempty s = omega (arith, length-slice_split (λ b. b == 10) s)

-- the parts of joined bytes: the last part of the first goes before the first part of the second
pub parts_joined : (s t : List ℕ) → parts (s ++ t) ≡ but_last (parts s) ++ glue (last (parts s)) (parts t)
unfolding parts
parts_joined [] t = refl
parts_joined (x ∷ s) t =
    let whole = parts_joined s t in
    rw whole (elim (x == 10) as (λ v. cond v ([] ∷ (but_last (parts s) ++ glue (last (parts s)) (parts t))) (onto_first x (but_last (parts s) ++ glue (last (parts s)) (parts t))) ≡ but_last (cond v ([] ∷ parts s) (onto_first x (parts s))) ++ glue (last (cond v ([] ∷ parts s) (onto_first x (parts s)))) (parts t)) [
      | true ↦ join_part (parts s) (parts t) (parts_nonempty s)
      | false ↦ join_byte x (parts s) (parts t)
    ])

-- the parts after a piece with no line feed
parts-piece : (s piece : List ℕ) → HasNoLineFeed piece → parts (s ++ piece) ≡ but_last (parts s) ++ (last (parts s) ++ piece) ∷ []
unfolding parts
parts-piece s piece h = parts_joined s piece ∙ rw (slice_split_none (λ (b : ℕ). b == 10) piece h, glue-cons) refl

-- the parts after such a piece and a line feed
parts-line : (s piece : List ℕ) → HasNoLineFeed piece → parts (s ++ (piece ++ 10 ∷ [])) ≡ but_last (parts s) ++ (last (parts s) ++ piece) ∷ [] ∷ []
unfolding parts
parts-line s piece h = parts_joined s (piece ++ 10 ∷ []) ∙ rw (slice_split_at (λ (b : ℕ). b == 10) piece 10 [] h refl, glue-cons) refl

pub whole_lines-piece : (s piece : List ℕ) → HasNoLineFeed piece → whole_lines (s ++ piece) ≡ whole_lines s
unfolding whole_lines
whole_lines-piece s piece h = rw (parts-piece s piece h, but_last-append) (append-nil (but_last (parts s)))

pub last_part-piece : (s piece : List ℕ) → HasNoLineFeed piece → last_part (s ++ piece) ≡ last_part s ++ piece
unfolding last_part
last_part-piece s piece h = rw (parts-piece s piece h, last-append) refl

pub whole_lines-line : (s piece : List ℕ) → HasNoLineFeed piece → whole_lines (s ++ (piece ++ 10 ∷ [])) ≡ whole_lines s ++ (last_part s ++ piece) ∷ []
unfolding whole_lines last_part
whole_lines-line s piece h = rw (parts-line s piece h, but_last-append) refl

pub last_part-line : (s piece : List ℕ) → HasNoLineFeed piece → last_part (s ++ (piece ++ 10 ∷ [])) ≡ []
unfolding last_part
last_part-line s piece h = rw (parts-line s piece h, last-append) refl

-- where nothing stands after the last line feed, the lines of joined bytes are the lines of each
parts-append : (s t : List ℕ) → last_part s ≡ [] → parts (s ++ t) ≡ but_last (parts s) ++ parts t
unfolding last_part
parts-append s t h = parts_joined s t ∙ ap (λ (l : List ℕ). but_last (parts s) ++ glue l (parts t)) h

pub but_last-append_nonempty : (ps qs : List (List ℕ)) → 0 < length qs → but_last (ps ++ qs) ≡ ps ++ but_last qs
but_last-append_nonempty ps [] h = absurd (omega arith)
but_last-append_nonempty ps (q ∷ qs) h = but_last-append ps q qs

pub last-append_nonempty : (ps qs : List (List ℕ)) → 0 < length qs → last (ps ++ qs) ≡ last qs
last-append_nonempty ps [] h = absurd (omega arith)
last-append_nonempty ps (q ∷ qs) h = last-append ps q qs

pub last_part-append : (s t : List ℕ) → last_part s ≡ [] → last_part (s ++ t) ≡ last_part t
unfolding last_part
last_part-append s t h = ap last (parts-append s t h) ∙ last-append_nonempty (but_last (parts s)) (parts t) (parts_nonempty t)

pub whole_lines-append : (s t : List ℕ) → last_part s ≡ [] → whole_lines (s ++ t) ≡ whole_lines s ++ whole_lines t
unfolding whole_lines
whole_lines-append s t h = ap but_last (parts-append s t h) ∙ but_last-append_nonempty (but_last (parts s)) (parts t) (parts_nonempty t)

pub lines-append : (s t : List ℕ) → last_part s ≡ [] → lines (s ++ t) ≡ lines s ++ lines t
unfolding lines
lines-append s t h = rw (whole_lines-append s t h, last_part-append s t h, h) (rw append-nil (append_assoc (whole_lines s) (whole_lines t) (if_nonempty (last_part t))))

-- an empty stream, or one that ends in a line feed, has nothing after its last line feed
pub last_part_none : (s : List ℕ) → ((s ≡ []) ⊎ ((prefix : List ℕ) × (s ≡ prefix ++ 10 ∷ []))) → last_part s ≡ []
unfolding last_part parts
last_part_none s (inl e) = rw e refl
last_part_none s (inr w) = ap last_part w.1 ∙ last_part-line w.0 [] (All-nil (λ b. (b == 10) ≡ false))

pub output-append : (answer : List ℕ → List ℕ) (limit : ℕ) (s t : List ℕ) → last_part s ≡ [] → output answer limit (s ++ t) ≡ output answer limit s ++ output answer limit t
unfolding output
output-append answer limit s t h = rw (lines-append s t h) (flat_map-append (answered answer limit) (lines s) (lines t))

-- no bytes have no lines
pub whole_lines_none : whole_lines [] ≡ []
unfolding whole_lines parts
whole_lines_none = refl

pub last_part_of_none : last_part [] ≡ []
unfolding last_part parts
last_part_of_none = refl

-- after bytes with no line feed
pub parts_glued : (line t : List ℕ) → HasNoLineFeed line → parts (line ++ t) ≡ glue line (parts t)
unfolding parts
parts_glued line t free = rw (parts_joined line t, slice_split_none (λ (b : ℕ). b == 10) line free) refl

-- how many bytes the parts and the line feeds between them are
abbrev pub weight : List (List ℕ) → ℕ
weight [] = 0
weight (p ∷ []) = length p
weight (p ∷ q ∷ ps) = length p + 1 + weight (q ∷ ps)

weight_part : (ps : List (List ℕ)) → 0 < length ps → weight ([] ∷ ps) ≡ suc (weight ps)
weight_part [] h = absurd (omega arith)
weight_part (p ∷ ps) h = omega arith

weight_byte : (x : ℕ) (ps : List (List ℕ)) → 0 < length ps → weight (onto_first x ps) ≡ suc (weight ps)
weight_byte x [] h = absurd (omega arith)
weight_byte x (p ∷ []) h = refl
weight_byte x (p ∷ q ∷ ps) h = omega arith

last_byte : (x : ℕ) (ps : List (List ℕ)) → (x == 10) ≡ false → HasNoLineFeed (last ps) → HasNoLineFeed (last (onto_first x ps))
last_byte x [] e h = All-cons (λ (b : ℕ). (b == 10) ≡ false) x [] e (All-nil (λ (b : ℕ). (b == 10) ≡ false))
last_byte x (p ∷ []) e h = All-cons (λ (b : ℕ). (b == 10) ≡ false) x p e h
last_byte x (p ∷ q ∷ ps) e h = h

last_after : (ps : List (List ℕ)) → 0 < length ps → last ([] ∷ ps) ≡ last ps
last_after [] h = absurd (omega arith)
last_after (p ∷ ps) h = refl

pub weight-parts : (s : List ℕ) → weight (parts s) ≡ length s
unfolding parts
weight-parts [] = refl
weight-parts (x ∷ s) = elim (x == 10) as (λ v. weight (cond v ([] ∷ parts s) (onto_first x (parts s))) ≡ suc (length s)) [
  | true ↦ weight_part (parts s) (parts_nonempty s) ∙ ap suc (weight-parts s)
  | false ↦ weight_byte x (parts s) (parts_nonempty s) ∙ ap suc (weight-parts s)
]

-- no line feed stands after the last line feed
pub last_part_free : (s : List ℕ) → HasNoLineFeed (last_part s)
unfolding last_part parts
last_part_free [] = All-nil (λ (b : ℕ). (b == 10) ≡ false)
last_part_free (x ∷ s) = elim (x == 10) as (λ v. (x == 10) ≡ v → HasNoLineFeed (last (cond v ([] ∷ parts s) (onto_first x (parts s))))) [
  | true ↦ λ e. rw (last_after (parts s) (parts_nonempty s)) (last_part_free s)
  | false ↦ λ e. last_byte x (parts s) e (last_part_free s)
] refl

pub glue_some : (l : List ℕ) (ps : List (List ℕ)) → 0 < length ps → 0 < length (glue l ps)
glue_some l [] h = absurd (omega arith)
glue_some l (p ∷ ps) h = rw (glue-cons l p ps) (omega arith)
