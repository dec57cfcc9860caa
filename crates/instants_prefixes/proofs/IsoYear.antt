-- What ISO 8601 leaves after a date is shorter than the text: the year takes a byte at least.
use Rattle.std.proofs.Common.{◌≡◌, ◌<◌, ◌≤◌, ◌+◌, ◌∙◌, ◌||◌, ◌⊎◌, inl, inr, ℕ, ℤ, pos, Bool, true, false, eqb, List, [], ◌∷◌, ◌++◌, length, get_or, Option, Some, None, Result, Ok, Err, refl, sym, ap, subst, arith}
use Rattle.std.specs.Prelude.{nat_le, if◌then◌else◌}
use Rattle.std.specs.Char.{is_ascii_digit}
use Rattle.std.specs.Str.Parse.{digits_value}
use Rattle.std.proofs.lemmas.Bool.{cases_lt}
use Rattle.std.proofs.lemmas.Bool.Decides.{nat_tests}
use Rattle.std.proofs.lemmas.List.{length-append}
use Rattle.base.specs.Bytes.{hyphen, plus}
use Rattle.parsing_combinator.specs.Fault.{Fault}
use Rattle.parsing_combinator.specs.Pieces.{byte, byte_of, digits, digit_count}
use Rattle.parsing_combinator.specs.Tame.{EndsWith, Tame}
use Rattle.parsing_iso8601.specs.Dates.{date_after, date_of_month, date_of_week, date_of_year, date_without_month, year_and_kind}
use Rattle.parsing_iso8601.specs.Kinds.{kind_of_date}
use Rattle.parsing_iso8601.specs.Numbers.{signed_year, plain_year, year}
use Rattle.parsing_iso8601.specs.Reading.{dated, iso8601}
use Rattle.parsing_iso8601.specs.declared.kind.Kind.{Kind}
use Rattle.parsing_iso8601.specs.declared.kind.Kind.TheVariants.{Basic, Extended}
use Rattle.parsing_iso8601.specs.declared.written.Iso8601Parts.{Iso8601Parts}
use Rattle.parsing_iso8601.specs.declared.written.WrittenDate.{WrittenDate}
use Rattle.parsing_iso8601.proofs.TameLemmas.{iso8601_tame}
use Rattle.instants_prefixes.proofs.Shorter.{Less}

-- what is left of a text that is read
abbrev left_of : {A : Type 0} → Result (A × List ℕ) Fault → Option (List ℕ)
left_of (Ok x) = Some x.1
left_of (Err f) = None

-- its year is read, but no date
pub record IsDateless (text : List ℕ) : Type 0 where
  pub kind : Kind
  pub fault : Fault
  pub is : dated text ≡ Ok ((Err fault, kind), text)

-- ---- which year it is counts for nothing in what is left

after_year : (kind : Kind) (y z : ℤ) (bytes : List ℕ) → left_of (date_after kind y bytes) ≡ left_of (date_after kind z bytes)
unfolding date_after date_of_month date_without_month date_of_year date_of_week
after_year kind y z bytes = grind arith

read_too : {A : Type 0} (r : Result (A × List ℕ) Fault) (left : List ℕ) → left_of r ≡ Some left → (x : A) × (r ≡ Ok (x, left))
read_too (Ok x) left e = (x.0, grind arith)
read_too (Err f) left e = absurd cc

module _ (a b rest : List ℕ) (y z : ℤ) (one : year a ≡ Some (y, rest)) (other : year b ≡ Some (z, rest)) where
  abbrev AreAlike : Type 0
  AreAlike = IsDateless a ⊎ (left_of (iso8601 a) ≡ left_of (iso8601 b))

  dated_alike : (kind : Kind) (left after : List ℕ) (date too : WrittenDate) → year_and_kind a ≡ Ok ((y, kind), left) → year_and_kind b ≡ Ok ((z, kind), left)
      → date_after kind y left ≡ Ok (date, after) → date_after kind z left ≡ Ok (too, after) → left_of (iso8601 a) ≡ left_of (iso8601 b)
  unfolding iso8601 dated
  dated_alike kind left after date too k l d e = rw (k, l, d, e) (grind arith)

  after_kind : (kind : Kind) (left : List ℕ) → year_and_kind a ≡ Ok ((y, kind), left) → year_and_kind b ≡ Ok ((z, kind), left) → AreAlike
  unfolding dated
  after_kind kind left k l = elim (date_after kind y left) as (λ r. date_after kind y left ≡ r → AreAlike) [
    | Err f ↦ λ d. inl (record { kind = kind; fault = f; is = rw (k, d) refl })
    | Ok x ↦ λ d.
        let (too, e) = read_too (date_after kind z left) x.1 (after_year kind z y left ∙ ap left_of d) in
        inr (dated_alike kind left x.1 x.0 too k l d e)
  ] refl

  alike : AreAlike
  unfolding year_and_kind kind_of_date
  alike = elim (byte hyphen rest) as (λ o. byte hyphen rest ≡ o → AreAlike) [
    | None ↦ λ e. after_kind Basic rest (rw (one, e) refl) (rw (other, e) refl)
    | Some x ↦ λ e. after_kind Extended x.1 (rw (one, e) refl) (rw (other, e) refl)
  ] refl

-- ---- so what is left is that of two other years, and no longer than what stands after both

abbrev four : ℕ → List ℕ → List ℕ
four c rest = c ∷ c ∷ c ∷ c ∷ rest

four_read : (c : ℕ) (rest : List ℕ) → is_ascii_digit c ≡ true → (eqb c plus || eqb c hyphen) ≡ false → (y : ℤ) × (year (four c rest) ≡ Some (y, rest))
unfolding year plain_year byte_of digits
four_read c rest digit sign =
    let enough : nat_le 4 (digit_count (four c rest)) ≡ true = grind (arith, nat_tests) in
    (pos (digits_value 10 (c ∷ c ∷ c ∷ c ∷ [])), rw (sign, enough) refl)

-- bytes that end four equal bytes and others reach into the others alone, or begin with such a byte
ends_four : (c : ℕ) (rest left : List ℕ) → EndsWith (four c rest) left → (length left ≤ length rest) ⊎ (get_or left 0 0 ≡ c)
ends_four c rest left ([], is) = inr (ap (λ (bytes : List ℕ). get_or bytes 0 0) (sym is))
ends_four c rest left (p ∷ [], is) = inr (ap (λ (bytes : List ℕ). get_or bytes 1 0) (sym is))
ends_four c rest left (p ∷ q ∷ [], is) = inr (ap (λ (bytes : List ℕ). get_or bytes 2 0) (sym is))
ends_four c rest left (p ∷ q ∷ r ∷ [], is) = inr (ap (λ (bytes : List ℕ). get_or bytes 3 0) (sym is))
ends_four c rest left (p ∷ q ∷ r ∷ s ∷ more, is) = inl (omega (arith, ap length is, length-append more left))

left_ends : (text left : List ℕ) → left_of (iso8601 text) ≡ Some left → EndsWith text left
left_ends text left e =
    let (parts, read) = read_too (iso8601 text) left e in
    let P : Result (Iso8601Parts × List ℕ) Fault → Type 0 = λ r. Tame text r in subst P read (iso8601_tame text)

no_longer : (rest left : List ℕ) → EndsWith (four 48 rest) left → EndsWith (four 49 rest) left → length left ≤ length rest
no_longer rest left one other = elim (ends_four 48 rest left one) [
  | inl le ↦ le
  | inr first ↦ elim (ends_four 49 rest left other) [ inl le ↦ le | inr second ↦ absurd (omega (arith, first, second)) ]
]

year_less : (text rest : List ℕ) (y : ℤ) → year text ≡ Some (y, rest) → length rest < length text
unfolding year signed_year plain_year byte_of digits
year_less [] rest y e = absurd cc
year_less (c ∷ cs) rest y e = grind (arith, nat_tests)

shorter : (text rest : List ℕ) (r : Result (Iso8601Parts × List ℕ) Fault) → length rest < length text → ((left : List ℕ) → left_of r ≡ Some left → length left ≤ length rest) → Less text r
shorter text rest (Ok x) less le = let few = le x.1 refl in omega (arith, few, less)
shorter text rest (Err f) less le = tt

pub year_read : (text rest : List ℕ) (y : ℤ) → year text ≡ Some (y, rest) → IsDateless text ⊎ Less text (iso8601 text)
year_read text rest y e =
    let (z, zero) = four_read 48 rest refl refl in
    let (u, unit) = four_read 49 rest refl refl in
    elim (alike text (four 48 rest) rest y z e zero) [
      | inl none ↦ inl none
      | inr same ↦ elim (alike text (four 49 rest) rest y u e unit) [
        | inl none ↦ inl none
        | inr too ↦ inr (shorter text rest (iso8601 text) (year_less text rest y e)
            (λ left is. no_longer rest left (left_ends (four 48 rest) left (sym same ∙ is)) (left_ends (four 49 rest) left (sym too ∙ is))))
      ]
    ]
