-- What is nested after its name: what is read is spelled so, what is refused is faulty so, and the other way round.
use Rattle.std.proofs.Common.{◌≡◌, ℕ, ◌+◌, ◌<◌, List, [], ◌∷◌, ◌++◌, length, Result, true, false, refl, ap, subst, ◌∙◌, append_assoc, arith, inl, inr, ◌⊎◌, Ok, Err, eqb}
use Rattle.std.specs.Prelude.{codes}
use Rattle.std.proofs.lemmas.List.{length-append, drop_at}
use Rattle.std.proofs.lemmas.List.Folds.{length-prefix_len}
use Rattle.std.proofs.lemmas.Bool.{eqb-true, eq-eqb}
use Rattle.base.specs.Bytes.{left_bracket, right_bracket}
use Rattle.description_lexer.specs.Fault.{Fault, UnclosedOpeningBracket, Expected, NotSupported}
use Rattle.description_lexer.specs.Answer.{◌>>=◌}
use Rattle.description_items.specs.Tree.{Tree}
use Rattle.description_lexer.specs.declared.version.DescriptionVersion.{DescriptionVersion}
use Rattle.description_lexer.specs.Version.{is_three}
use Rattle.description_lexer.specs.Text.{Rest, is_space, run, past, after}
use Rattle.description_lexer.specs.Words.{is_named, begins, closed_at}
use Rattle.description_grammar.specs.Reading.{is_same, opened_at, supported}
use Rattle.description_grammar.specs.Heads.{Each, Stops, SpellsOpening, SpellsNesting}
use Rattle.description_grammar.specs.Faulty.{After, Wrong, LacksSpace, LacksBracket, BadNesting}
use Rattle.description_grammar.proofs.Results.{lt_of, differs}
use Rattle.description_grammar.proofs.ValueOrFault.{Reads, gives, refuses, either, in_turn}
use Rattle.description_grammar.proofs.Places.{at_first, after_both}
use Rattle.description_grammar.proofs.Runs.{each_run, stops_past, stops_from_none, Takes, takes_then, takes_run, takes_length, takes_byte, closed_reads, at_index, run_again, stops_91, closed_again}
use Rattle.description_grammar.proofs.ComponentText.{TakesName}
use Rattle.std.specs.Str.{str_to_ascii_lowercase}
use Rattle.std.proofs.lemmas.Cmp.{nat_list_eq_equiv}
use Rattle.description_lexer.specs.declared.version.DescriptionVersion.TheVariants.{One, Two, Three}

-- ---- the white space and the bracket

pub record TakesSpace (s start : Rest) : Type 0 where
  pub blank : List ℕ
  pub takes : Takes s blank start
  pub spaces : Each is_space blank
  pub some : 0 < length blank
  pub no_space : Stops is_space start.text

space_taken : (s : Rest) → is_same (past is_space s) s ≡ false → TakesSpace s (past is_space s)
space_taken s h =
    let len = takes_length s (run is_space s).text (past is_space s) (takes_run is_space s) in
    let less : length (past is_space s).text < length s.text = lt_of (length (past is_space s).text) (length s.text) (omega (arith, len)) h in
    record { blank = (run is_space s).text; takes = takes_run is_space s; spaces = each_run is_space s.text; some = omega (arith, len); no_space = stops_past is_space s.text }

no_space_there : (s : Rest) → is_same (past is_space s) s ≡ true → Stops is_space s.text
no_space_there s h =
    let len = takes_length s (run is_space s).text (past is_space s) (takes_run is_space s) in
    let same : length (past is_space s).text ≡ length s.text = eqb-true _ _ h in
    stops_from_none is_space s.text (omega (arith, len, length-prefix_len is_space s.text))

-- what is wrong where no opening ends
abbrev Unopened : List ℕ → Rest → Fault → Type 0
Unopened what s e = (Stops is_space s.text × (e ≡ Expected what s.index)) ⊎ (TakesSpace s (past is_space s) × (begins left_bracket (past is_space s).text ≡ false) × (e ≡ Expected (codes "opening bracket") (past is_space s).index))

opened_reads : (what : List ℕ) (s : Rest) → Reads (λ (start : Rest). TakesSpace s start × (begins left_bracket start.text ≡ true)) (Unopened what s) (opened_at what s)
unfolding opened_at
opened_reads what s = either _ _ _ (λ h. refuses _ (inl (no_space_there s h, refl))) (λ h. either _ _ _ (λ g. gives _ (space_taken s h, g)) (λ g. refuses _ (inr (space_taken s h, g, refl))))

-- ---- the opening

record MakesOpening (v : DescriptionVersion) (name : List ℕ) (s start : Rest) : Type 0 where
  opening : List ℕ
  takes : Takes s opening start
  is_opening : SpellsOpening v name opening

opening_of : (v : DescriptionVersion) (nesting : List ℕ) (s name next start : Rest) → begins left_bracket s.text ≡ true → TakesName (after 1 s) name next → is_named v name.text nesting ≡ true → TakesSpace next start → MakesOpening v nesting s start
opening_of v nesting s name next start opens n is_name blank =
    let first : Takes s (left_bracket ∷ (n.first ++ name.text)) next = takes_then s (left_bracket ∷ []) (after 1 s) (n.first ++ name.text) next (takes_byte left_bracket s opens) n.takes in
    record {
      opening = (left_bracket ∷ (n.first ++ name.text)) ++ blank.blank;
      takes = takes_then s (left_bracket ∷ (n.first ++ name.text)) next blank.blank start first blank.takes;
      is_opening = record {
        first = n.first;
        word = name.text;
        blank = blank.blank;
        parts = ap (λ (t : List ℕ). left_bracket ∷ t) (append_assoc n.first name.text blank.blank);
        is_first = n.is_first;
        is_word = n.is_name;
        is_name = is_name;
        spaces = blank.spaces;
        some_space = blank.some;
      };
    }

-- ---- what is nested

-- what a reading of nested descriptions took, and what is known of it
pub record TakesInside {A : Type 0} (Means : List ℕ → A → Type 0) (Inside : List ℕ → List ℕ → Type 0) (start : Rest) (x : A × Rest) : Type 0 where
  pub own : List ℕ
  pub takes : Takes start own x.1
  pub means : Means own x.0
  pub inside : Inside own x.1.text
  pub no_space : Stops is_space x.1.text

pub record RefusesInside (Before : List ℕ → Type 0) (Deeper : Wrong) (start : Rest) (e : Fault) : Type 0 where
  pub before : List ℕ
  pub bad : Rest
  pub takes : Takes start before bad
  pub is_before : Before before
  pub is_bad : After bad.index (Deeper bad.text) e

abbrev pub Reader : Type 0 → Type 0
Reader A = Rest → Result (A × Rest) Fault

-- a nested item after its name
abbrev pub nesting_at : {A : Type 0} → DescriptionVersion → List ℕ → Reader A → (A → Tree) → ℕ → Rest → Result (Tree × Rest) Fault
nesting_at v what read make bracket s = opened_at what s >>= λ start. read start >>= λ x. closed_at bracket x.1 >>= λ rest. supported v bracket (make x.0) rest

pub record TakesNesting {A : Type 0} (v : DescriptionVersion) (nesting : List ℕ) (Means : List ℕ → A → Type 0) (make : A → Tree) (s : Rest) (x : Tree × Rest) : Type 0 where
  pub own : List ℕ
  pub takes : Takes s own x.1
  pub some : 0 < length own
  pub three : is_three v ≡ true
  pub value : A
  pub made : make value ≡ x.0
  pub spells : SpellsNesting v nesting own (λ inside. Means inside value)

-- where an opening is not read, it has one of the first two faults
opening_refused : (v : DescriptionVersion) (nesting what : List ℕ) (s name next : Rest) (e : Fault) → begins left_bracket s.text ≡ true → TakesName (after 1 s) name next → is_named v name.text nesting ≡ true → Unopened what next e
    → After s.index (LacksSpace v nesting what s.text) e ⊎ After s.index (LacksBracket v nesting s.text) e
opening_refused v nesting what s name next e opens n is_name (inl g) =
    let first : Takes s (left_bracket ∷ (n.first ++ name.text)) next = takes_then s (left_bracket ∷ []) (after 1 s) (n.first ++ name.text) next (takes_byte left_bracket s opens) n.takes in
    let i : next.index ≡ s.index + (1 + length n.first + length name.text) = omega (arith, first.index, length-append n.first name.text) in
    inl (
      Expected what (1 + length n.first + length name.text),
      record {
        first = n.first;
        word = name.text;
        rest = next.text;
        parts = first.parts ∙ ap (λ (t : List ℕ). left_bracket ∷ t) (append_assoc n.first name.text next.text);
        is_first = n.is_first;
        is_word = n.is_name;
        is_name = is_name;
        no_space = g.0;
        no_word = n.no_word;
        fault_is = refl;
      },
      g.1 ∙ ap (λ (i : ℕ). Expected what i) i,
    )
opening_refused v nesting what s name next e opens n is_name (inr g) =
    let o : MakesOpening v nesting s (past is_space next) = opening_of v nesting s name next (past is_space next) opens n is_name g.0 in
    inr (
      Expected (codes "opening bracket") (length o.opening),
      record {
        opening = o.opening;
        rest = (past is_space next).text;
        parts = o.takes.parts;
        is_opening = o.is_opening;
        no_space = g.0.no_space;
        no_bracket = g.1;
        fault_is = refl;
      },
      g.2 ∙ ap (λ (i : ℕ). Expected (codes "opening bracket") i) o.takes.index,
    )

pub nesting_reads : {A : Type 0} (v : DescriptionVersion) (nesting what : List ℕ) (read : Reader A) (make : A → Tree) (Means : List ℕ → A → Type 0) (Inside : List ℕ → List ℕ → Type 0) (Before : List ℕ → Type 0) (Deeper : Wrong)
    → ((start : Rest) → begins left_bracket start.text ≡ true → Reads (TakesInside Means Inside start) (RefusesInside Before Deeper start) (read start))
    → (s name next : Rest) → begins left_bracket s.text ≡ true → TakesName (after 1 s) name next → is_named v name.text nesting ≡ true
    → Reads (TakesNesting v nesting Means make s) (After s.index (BadNesting v nesting what Before Inside Deeper s.text)) (nesting_at v what read make s.index next)
nesting_reads {A} v nesting what read make Means Inside Before Deeper reads s name next opens n is_name =
    in_turn _ _ (opened_reads what next) (λ e h. elim (opening_refused v nesting what s name next e opens n is_name h) [ inl g ↦ (g.0, inl g.1, g.2) | inr g ↦ (g.0, inr (inl g.1), g.2) ]) (λ start blank. begun start blank.1 (opening_of v nesting s name next start opens n is_name blank.0))
  where
    Whole : Result (Tree × Rest) Fault → Type 0
    Whole r = Reads (TakesNesting v nesting Means make s) (After s.index (BadNesting v nesting what Before Inside Deeper s.text)) r

    ended : (start : Rest) (o : MakesOpening v nesting s start) (x : A × Rest) (i : TakesInside Means Inside start x) (rest : Rest) → Takes x.1 (right_bracket ∷ []) rest → Whole (supported v s.index (make x.0) rest)
    ended start o x i rest close =
        let inner : Takes start (i.own ++ right_bracket ∷ []) rest = takes_then start i.own x.1 (right_bracket ∷ []) rest i.takes close in
        let own : List ℕ = o.opening ++ (i.own ++ right_bracket ∷ []) in
        let whole : Takes s own rest = takes_then s o.opening start (i.own ++ right_bracket ∷ []) rest o.takes inner in
        either _ _ _ (λ three. gives _ (record { own = own; takes = whole; some = omega (arith, length-append o.opening (i.own ++ right_bracket ∷ []), length-append i.own (right_bracket ∷ [])); three = three; value = x.0; made = refl; spells = record { opening = o.opening; inside = i.own; parts = refl; is_opening = o.is_opening; is_inside = i.means } })) (
        λ older. refuses _ (
          NotSupported (codes "nested item") (codes "versions 1 and 2") 0,
          inr (inr (inr (inr (record {
            own = own;
            rest = rest.text;
            parts = whole.parts;
            not_three = older;
            is_own = record { opening = o.opening; inside = i.own; parts = refl; is_opening = o.is_opening; is_inside = subst (λ (t : List ℕ). Inside i.own t) close.parts i.inside };
            fault_is = refl;
          })))),
          at_first (λ i. NotSupported (codes "nested item") (codes "versions 1 and 2") i) s.index,
        )
        )

    begun : (start : Rest) → begins left_bracket start.text ≡ true → MakesOpening v nesting s start → Whole (read start >>= λ x. closed_at s.index x.1 >>= λ rest. supported v s.index (make x.0) rest)
    begun start at_bracket o = in_turn _ _ (reads start at_bracket) (λ e r. let b = after_both s.index (length o.opening + length r.before) r.bad.index (Deeper r.bad.text) e (omega (arith, r.takes.index, o.takes.index)) r.is_bad in (
      b.0,
      inr (inr (inl (record {
        opening = o.opening;
        before = r.before;
        rest = r.bad.text;
        parts = o.takes.parts ∙ ap (λ (t : List ℕ). o.opening ++ t) r.takes.parts;
        is_opening = o.is_opening;
        is_before = r.is_before;
        is_bad = b.1;
      }))),
      b.2,
    )) (λ x i. in_turn _ _ (closed_reads s.index x.1) (λ e k. (
      UnclosedOpeningBracket 0,
      inr (inr (inr (inl (record {
        opening = o.opening;
        inside = i.own;
        rest = x.1.text;
        parts = o.takes.parts ∙ ap (λ (t : List ℕ). o.opening ++ t) i.takes.parts;
        is_opening = o.is_opening;
        is_inside = i.inside;
        no_space = i.no_space;
        open_still = k.0;
        fault_is = refl;
      })))),
      k.1 ∙ at_first (λ i. UnclosedOpeningBracket i) s.index,
    )) (λ rest close. ended start o x i rest close))

-- the two nesting names differ, whatever the case of their letters
pub not_optional : (v : DescriptionVersion) (word : List ℕ) → is_named v word (codes "first") ≡ true → is_named v word (codes "optional") ≡ false
not_optional One word h = nat_list_eq_equiv.congr (str_to_ascii_lowercase word) (str_to_ascii_lowercase (codes "first")) (str_to_ascii_lowercase (codes "optional")) h
not_optional Two word h = nat_list_eq_equiv.congr (str_to_ascii_lowercase word) (str_to_ascii_lowercase (codes "first")) (str_to_ascii_lowercase (codes "optional")) h
not_optional Three word h = nat_list_eq_equiv.congr word (codes "first") (codes "optional") h

-- ---- white space and a bracket that are spelled so are read

abbrev unequal : List ℕ → List ℕ → Type 0
unequal blank tail = eqb (length tail) (length (blank ++ tail)) ≡ false

apart : (blank tail : List ℕ) → 0 < length blank → unequal blank tail
apart blank tail some = differs (length tail) (length (blank ++ tail)) (omega (arith, length-append blank tail))

opened_again : (what : List ℕ) (i : ℕ) (blank tail : List ℕ) → Each is_space blank → 0 < length blank → begins left_bracket tail ≡ true → opened_at what (at_index i (blank ++ tail)) ≡ Ok (at_index (i + length blank) tail)
unfolding opened_at
opened_again what i blank tail spaces some opens = rw (run_again is_space blank tail spaces (stops_91 tail opens), drop_at blank tail (length blank) refl, apart blank tail some, opens) refl

unopened_again : (what : List ℕ) (i : ℕ) (blank tail : List ℕ) → Each is_space blank → 0 < length blank → Stops is_space tail → begins left_bracket tail ≡ false → opened_at what (at_index i (blank ++ tail)) ≡ Err (Expected (codes "opening bracket") (i + length blank))
unfolding opened_at
unopened_again what i blank tail spaces some stops none = rw (run_again is_space blank tail spaces stops, drop_at blank tail (length blank) refl, apart blank tail some, none) refl

unspaced_again : (what : List ℕ) (i : ℕ) (rest : List ℕ) → Stops is_space rest → opened_at what (at_index i rest) ≡ Err (Expected what i)
unfolding opened_at
unspaced_again what i rest stops = rw (run_again is_space [] rest tt stops, eq-eqb (length rest) (length rest) refl) refl

pub opening_len : (v : DescriptionVersion) (nesting opening : List ℕ) (i : ℕ) (o : SpellsOpening v nesting opening) → i + 1 + length o.first + length o.word + length o.blank ≡ i + length opening
opening_len v nesting opening i o = omega (arith, ap (length {A = ℕ}) o.parts, length-append o.first (o.word ++ o.blank), length-append o.word o.blank)

-- ---- so is what is nested, and what is wrong there is refused

abbrev pub from_start : {A : Type 0} → DescriptionVersion → (A → Tree) → ℕ → Result (A × Rest) Fault → Result (Tree × Rest) Fault
from_start v make bracket r = r >>= λ x. closed_at bracket x.1 >>= λ rest. supported v bracket (make x.0) rest

abbrev pub ok_tree : Tree → Rest → Result (Tree × Rest) Fault
ok_tree t p = Ok (t, p)

abbrev pub ok_value : {A : Type 0} → A → Rest → Result (A × Rest) Fault
ok_value x p = Ok (x, p)

-- after an opening, the nested descriptions are read
pub from_opening : {A : Type 0} (v : DescriptionVersion) (what : List ℕ) (read : Reader A) (make : A → Tree) (bracket i : ℕ) (blank tail : List ℕ) → Each is_space blank → 0 < length blank → begins left_bracket tail ≡ true
    → nesting_at v what read make bracket (at_index i (blank ++ tail)) ≡ from_start v make bracket (read (at_index (i + length blank) tail))
from_opening v what read make bracket i blank tail spaces some opens =
    ap (λ (r : Result Rest Fault). r >>= λ start. from_start v make bracket (read start)) (opened_again what i blank tail spaces some opens)

pub closed_here : {A : Type 0} (v : DescriptionVersion) (make : A → Tree) (bracket j : ℕ) (rest : List ℕ) (a : A) → from_start v make bracket (ok_value a (at_index j (right_bracket ∷ rest))) ≡ supported v bracket (make a) (at_index (j + 1) rest)
closed_here v make bracket j rest a = ap (λ (r : Result Rest Fault). r >>= λ rest. supported v bracket (make a) rest) (closed_again bracket j rest)

pub unclosed_here : {A : Type 0} (v : DescriptionVersion) (make : A → Tree) (bracket j : ℕ) (rest : List ℕ) (a : A) → begins right_bracket rest ≡ false → from_start v make bracket (ok_value a (at_index j rest)) ≡ Err (UnclosedOpeningBracket bracket)
unfolding closed_at
unclosed_here v make bracket j rest a open_still = rw open_still refl

pub lacks_space_again : {A : Type 0} (v : DescriptionVersion) (what : List ℕ) (read : Reader A) (make : A → Tree) (bracket i : ℕ) (rest : List ℕ) → Stops is_space rest → nesting_at v what read make bracket (at_index i rest) ≡ Err (Expected what i)
lacks_space_again v what read make bracket i rest stops = ap (λ (r : Result Rest Fault). r >>= λ start. from_start v make bracket (read start)) (unspaced_again what i rest stops)

pub lacks_bracket_again : {A : Type 0} (v : DescriptionVersion) (what : List ℕ) (read : Reader A) (make : A → Tree) (bracket i : ℕ) (blank rest : List ℕ) → Each is_space blank → 0 < length blank → Stops is_space rest → begins left_bracket rest ≡ false
    → nesting_at v what read make bracket (at_index i (blank ++ rest)) ≡ Err (Expected (codes "opening bracket") (i + length blank))
lacks_bracket_again v what read make bracket i blank rest spaces some stops none = ap (λ (r : Result Rest Fault). r >>= λ start. from_start v make bracket (read start)) (unopened_again what i blank rest spaces some stops none)
