-- Bytes at which no date begins, as their first ones show.
use Rattle.std.proofs.Common.{◌≡◌, ◌<◌, ◌≤◌, ◌⊎◌, inl, inr, ℕ, zero, suc, Bool, true, false, eqb, List, [], ◌∷◌, get_or, take, None, refl, sym, ap, ◌∙◌, arith}
use Rattle.std.specs.Result.{result_ok}
use Rattle.std.specs.Char.{is_ascii_digit}
use Rattle.base.specs.Bytes.{hyphen}
use Rattle.parsing_components.specs.declared.fields.Record.{Record}
use Rattle.parsing_rfc2822.specs.Reading as rfc2822
use Rattle.instants_sources.specs.Grammar.{Described, Iso8601, Rfc2822, Rfc3339, Written}
use Rattle.instants_sources.specs.Written.{reads_written}
use Rattle.instants_prefixes.specs.Given.{Given}
use Rattle.instants_prefixes.specs.NoPrefix.{HasNoPrefix}
use Rattle.instants_prefixes.specs.Reading.{text_for, prefix_named}
use Rattle.instants_prefixes.proofs.NoneNamed.{after_day, described_none, hyphen_none, year_none, comma_none, space_none, nothing_rfc2822}
use Rattle.instants_prefixes.proofs.NoYear.{no_year_of, without_year}
use Rattle.instants_prefixes.proofs.Windows.{text_fails, text_taken}

pub hyphen_due : (bytes : List ℕ) → eqb (get_or bytes 4 0) hyphen ≡ false → HasNoPrefix bytes Rfc3339
hyphen_due bytes e given = hyphen_none (text_for Rfc3339 bytes) (text_fails Rfc3339 bytes 4 (λ b. eqb b hyphen) refl e) given

pub year_due : (bytes : List ℕ) (n : ℕ) → n < 4 → is_ascii_digit (get_or bytes n 0) ≡ false → HasNoPrefix bytes Rfc3339
year_due bytes n lt e given = year_none (text_for Rfc3339 bytes) n lt (text_fails Rfc3339 bytes n is_ascii_digit refl e) given

pub comma_due : (bytes : List ℕ) → is_ascii_digit (get_or bytes 0 0) ≡ false → eqb (get_or bytes 3 0) rfc2822.comma ≡ false → HasNoPrefix bytes Rfc2822
comma_due bytes digit e given =
    comma_none (text_for Rfc2822 bytes) (text_fails Rfc2822 bytes 0 is_ascii_digit refl digit) (text_fails Rfc2822 bytes 3 (λ b. eqb b rfc2822.comma) refl e) given

-- a prefix is empty, or the same stands after its day, or nothing
kept : (n : ℕ) (bytes : List ℕ) → is_ascii_digit (get_or bytes 0 0) ≡ true → 41 ≤ get_or (after_day bytes) 0 41
    → (take n bytes ≡ []) ⊎ ((is_ascii_digit (get_or (take n bytes) 0 0) ≡ true) × (41 ≤ get_or (after_day (take n bytes)) 0 41))
kept zero bytes digit h = inl refl
kept (suc n) [] digit h = inl refl
kept (suc zero) (b ∷ bs) digit h = inr (digit, omega arith)
kept (suc (suc n)) (b ∷ []) digit h = inr (digit, h)
kept (suc (suc zero)) (b ∷ c ∷ bs) digit h = inr (digit, grind arith)
kept (suc (suc (suc n))) (b ∷ c ∷ []) digit h = inr (digit, h)
kept (suc (suc (suc n))) (b ∷ c ∷ d ∷ bs) digit h = inr (digit, grind arith)

there_too : (bytes : List ℕ) → 41 ≤ get_or bytes 0 0 → 41 ≤ get_or bytes 0 41
there_too [] h = absurd (omega (arith, h))
there_too (byte ∷ bytes) h = h

pub space_due : (bytes : List ℕ) → is_ascii_digit (get_or bytes 0 0) ≡ true → 41 ≤ get_or (after_day bytes) 0 0 → HasNoPrefix bytes Rfc2822
space_due bytes digit h given =
    let there = there_too (after_day bytes) h in
    let (n, near, is) = text_taken Rfc2822 bytes in
    ap (prefix_named given Rfc2822) is ∙ elim (kept n bytes digit there) [
      | inl e ↦ rw e (nothing_rfc2822 given)
      | inr (d, after) ↦ space_none (take n bytes) d after given
    ]

-- ISO 8601: no moment is named where no year is read
pub digit_due : (bytes : List ℕ) (n : ℕ) → n < 3 → is_ascii_digit (get_or bytes (suc n) 0) ≡ false → HasNoPrefix bytes Iso8601
digit_due bytes n lt other given = without_year (text_for Iso8601 bytes) given (no_year_of (text_for Iso8601 bytes) n lt (text_fails Iso8601 bytes (suc n) is_ascii_digit refl other))

pub described_due : (written : Written) (bytes text : List ℕ) → text ≡ text_for (Described written) bytes → ((r : Record) → result_ok (reads_written written r text) ≡ None) → HasNoPrefix bytes (Described written)
described_due written bytes text is refused given = ap (prefix_named given (Described written)) (sym is) ∙ described_none written text refused given
