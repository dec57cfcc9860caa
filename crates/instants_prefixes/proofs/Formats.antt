-- A prefix in which a well-known format names a moment has a byte that is no white space.
use Rattle.std.proofs.Common.{◌≡◌, ◌<◌, ◌∙◌, inl, inr, ℕ, Bool, true, false, List, [], ◌∷◌, length, get_or, Option, Some, None, Result, Ok, Err, refl, sym, ap, subst, arith}
use Rattle.std.specs.Prelude.{if◌then◌else◌}
use Rattle.std.specs.Char.{is_ascii_digit, is_ascii_whitespace}
use Rattle.std.proofs.lemmas.Bool.Decides.{nat_tests}
use Rattle.datetime_wall.specs.Wall.{Shown}
use Rattle.parsing_combinator.specs.Fault.{Fault}
use Rattle.parsing_combinator.specs.Pieces.{digits}
use Rattle.parsing_combinator.specs.Readings.{give, then_read}
use Rattle.parsing_combinator.specs.Tame.{EndsWith, Tame}
use Rattle.parsing_components.specs.declared.fields.Record.{Record}
use Rattle.parsing_record.specs.Record.{empty}
use Rattle.parsing_iso8601.specs.Numbers.{year}
use Rattle.parsing_iso8601.specs.declared.written.Iso8601Parts.{Iso8601Parts}
use Rattle.parsing_iso8601.specs.Reading as iso8601
use Rattle.parsing_rfc2822.specs.declared.parts.Rfc2822Parts.{Rfc2822Parts}
use Rattle.parsing_rfc2822.specs.Reading as rfc2822
use Rattle.parsing_rfc2822.proofs.WhiteSpaceLemmas.{none_at}
use Rattle.parsing_rfc3339.specs.declared.parts.Rfc3339Parts.{Rfc3339Parts}
use Rattle.parsing_rfc3339.specs.Reading as rfc3339
use Rattle.parsing_parsable.specs.Put.{put_iso8601, put_rfc2822, put_rfc3339}
use Rattle.parsing_parsable.specs.Staged.{reads_iso8601, reads_rfc2822, reads_rfc3339}
use Rattle.instants_sources.specs.Grammar.{Grammar, Described, Iso8601, Rfc2822, Rfc3339}
use Rattle.instants_prefixes.specs.Given.{Given}
use Rattle.instants_prefixes.specs.NoPrefix.{begins_year}
use Rattle.instants_prefixes.specs.Reading.{may_begin, prefix_named}
use Rattle.instants_prefixes.proofs.IsoYear.{year_read}
use Rattle.instants_prefixes.proofs.MarkedShapes.{IsMarkedBefore}
use Rattle.instants_prefixes.proofs.NoYear.{none_without_date, part_none, without_year}
use Rattle.instants_prefixes.proofs.NoneNamed.{year_none}
use Rattle.instants_prefixes.proofs.PrefixesAt.{named_leaves}
use Rattle.instants_prefixes.proofs.Shorter.{Less, rfc2822_less, rfc3339_less}
use Rattle.parsing_rfc3339.proofs.TameLemmas.{rfc3339_tame}
use Rattle.parsing_rfc2822.proofs.TameLemmas.{rfc2822_tame}
use Rattle.parsing_iso8601.proofs.TameLemmas.{iso8601_tame}

-- bytes before a shorter rest are not empty, so the first of them is one that is no white space
marked_by : (text rest : List ℕ)
    → is_ascii_whitespace (get_or text 0 0) ≡ false → EndsWith text rest → length rest < length text → IsMarkedBefore text rest
marked_by text rest e ([], is) less = absurd (omega (arith, ap length is, less))
marked_by text rest e (c ∷ taken, is) less =
    record { taken = c ∷ taken; is = is; mark = record { place = 0; within = omega arith; is = ap (λ (bytes : List ℕ). is_ascii_whitespace (get_or bytes 0 0)) (sym is) ∙ e } }

-- what was put into a record was read
put_marked : {W : Type 0} (put : W → Record) (text rest : List ℕ) (x : Result (W × List ℕ) Fault) (set : Record)
    → is_ascii_whitespace (get_or text 0 0) ≡ false → Tame text x → Less text x
    → then_read x (λ w. give (put w)) ≡ Ok (set, rest) → IsMarkedBefore text rest
put_marked put text rest (Err f) set first tame less e = absurd cc
put_marked put text rest (Ok x) set first tame less e =
    let same : ◌≡◌ {A = Record × List ℕ} (put x.0, x.1) (set, rest) = cc in
    subst (IsMarkedBefore text) (ap (λ (read : Record × List ℕ). read.1) same) (marked_by text x.1 first tame less)

-- where the first byte rules out what is read it is another one
first_so : {X : Type 0} (b : Bool) (o : Option X) (x : X) → Some x ≡ o → (b ≡ false → o ≡ None) → b ≡ true
first_so true o x e none = refl
first_so false o x e none = let nothing = e ∙ none refl in absurd cc

-- a text of ISO 8601 that names a moment says a date
iso_less : (given : Given) (text rest : List ℕ) (m : Shown) → Some (m, rest) ≡ prefix_named given Iso8601 text → Less text (iso8601.iso8601 text)
unfolding prefix_named
iso_less given text rest m e = elim (year text) as (λ o. year text ≡ o → Less text (iso8601.iso8601 text)) [
  | None ↦ λ none. let nothing = e ∙ without_year text given none in absurd cc
  | Some y ↦ λ is. elim (year_read text y.1 y.0 is) [
    | inl none ↦ let nothing = e ∙ none_without_date text given none.kind none.fault none.is in absurd cc
    | inr less ↦ less
  ]
] refl

-- a source is a well-known format
abbrev pub IsFormat : Grammar → Type 0
IsFormat (Described written) = ⊥
IsFormat _ = Unit {0}

pub format_marked : (given : Given) (grammar : Grammar) (text rest : List ℕ) (m : Shown) → IsFormat grammar
    → Some (m, rest) ≡ prefix_named given grammar text → IsMarkedBefore text rest
unfolding prefix_named reads_rfc3339 reads_rfc2822 reads_iso8601
format_marked given (Described written) text rest m is e = absurd is
format_marked given Rfc2822 text rest m is e =
    let (set, read) = named_leaves given Rfc2822 text m rest e in
    let first = first_so (may_begin Rfc2822 text) _ (m, rest) e (λ no. rw no refl) in
    put_marked (λ w. put_rfc2822 w empty) text rest (rfc2822.rfc2822 true text) set (grind (arith, nat_tests)) (rfc2822_tame true text) (rfc2822_less text) read
format_marked given Rfc3339 text rest m is e =
    let (set, read) = named_leaves given Rfc3339 text m rest e in
    let first = first_so (is_ascii_digit (get_or text 0 0)) _ (m, rest) e (λ no. year_none text 0 (omega arith) no given) in
    put_marked (λ w. put_rfc3339 w empty) text rest (rfc3339.rfc3339 true text) set (grind (arith, nat_tests)) (rfc3339_tame true text) (rfc3339_less text) read
format_marked given Iso8601 text rest m is e =
    let (set, read) = named_leaves given Iso8601 text m rest e in
    let first = first_so (begins_year (get_or text 0 0)) _ (m, rest) e (λ no. part_none text no given) in
    put_marked (λ w. put_iso8601 w empty) text rest (iso8601.iso8601 text) set (grind (arith, nat_tests)) (iso8601_tame text) (iso_less given text rest m e) read
