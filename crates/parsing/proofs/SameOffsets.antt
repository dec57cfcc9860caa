-- The offset in both formats.
use Rattle.std.proofs.Common.{◌≡◌, ℕ, ◌<◌, ◌==◌, ◌||◌, ◌⊎◌, inl, inr, true, false, List, [], ◌∷◌, length, get_or, drop, Some, None, Ok, refl, ap, ◌∙◌, arith, length-drop, ℤ}
use Rattle.std.specs.Prelude.{pos, nat_le}
use Rattle.std.specs.Char.{is_ascii_digit}
use Rattle.std.specs.Option.{unwrap_or}
use Rattle.std.proofs.lemmas.Bool.{cases_Bool, eqb-true}
use Rattle.std.proofs.lemmas.Bool.Decides.{nat_tests}
use Rattle.base.specs.Bytes.{colon, hyphen}
use Rattle.calendar.specs.UtcOffset.{offset_of}
use Rattle.parsing_combinator.specs.Pieces.{digits, byte, byte_of, skip_of, sign}
use Rattle.std.proofs.lemmas.List.Sums.{prefix_len_passes}
use Rattle.parsing_combinator.proofs.Decimal.{digit_here, digit_count_within}
use Rattle.parsing_combinator.proofs.FractionDigits.{cut_of, digits_read}
use Rattle.parsing_combinator.specs.declared.zone.Zone.{Zone}
use Rattle.parsing_values.specs.Resolution.{signed_offset_of}
use Rattle.parsing_rfc3339.specs.Reading as rfc
use Rattle.parsing_iso8601.specs.declared.kind.Kind.TheVariants.{Extended}
use Rattle.parsing_iso8601.specs.declared.written.WrittenOffset.{WrittenOffset}
use Rattle.parsing_iso8601.specs.Offsets as iso
use Rattle.parsing_iso8601_shapes.proofs.EndLemmas.{colon_there}
use Rattle.parsing_iso8601_shapes.proofs.FastOffsets.{seconds_of, signed_there, minute_there}
use Rattle.parsing.specs.TwoFormats.{last_byte}
use Rattle.parsing.proofs.Inversion.{due_piece, due_check, same_end}
use Rattle.parsing.proofs.Places.{digits_place, byte_place, further, last_of_rest}
use Rattle.parsing_values.proofs.lemmas.Ranges.{offset_ranges}

-- an offset that both formats read, all that is there
pub record SameOffset (bytes : List ℕ) (seconds : ℤ) : Type 0 where
  pub read : WrittenOffset
  pub is : iso.offset Extended bytes ≡ Some (read, [])
  pub value : offset_of read.hour read.minute (unwrap_or read.second (pos 0)) ≡ Ok seconds
  pub some : 0 < length bytes
  pub large : (last_byte bytes == 122) ≡ false

sign_place : (bytes : List ℕ) (mark : ℕ) (rest : List ℕ) → sign bytes ≡ Some (mark, rest) → drop 1 bytes ≡ rest
unfolding byte_of
sign_place [] mark rest e = absurd (cc)
sign_place (c ∷ cs) mark rest e = ap (λ (x : ℕ × List ℕ). x.1) (cut_of ((c == 43) || (c == 45)) (c, cs) (mark, rest) e).1

-- two digits at the end
two_last : (bytes : List ℕ) (v : ℕ) → digits 2 bytes ≡ Some (v, []) → (0 < length bytes) × ((last_byte bytes == 122) ≡ false)
two_last bytes v e =
    let read = digits_read 2 bytes v [] e in
    let long : length bytes ≡ 2 = omega (arith, length-drop 2 bytes, ap length read.after, read.enough, digit_count_within bytes) in
    let d = digit_here (get_or bytes 1 0) (prefix_len_passes is_ascii_digit bytes 1 0 (omega (arith, read.enough))) in
    (omega arith, rw long (grind (arith, nat_tests)))

no_zulu : (c : ℕ) (cs : List ℕ) → (c == 90) ≡ false → byte 90 (c ∷ cs) ≡ None
unfolding skip_of
no_zulu c cs e = rw e refl

-- the zones that RFC 3339 reads
abbrev signed_by : ℕ → ℕ → ℕ → Zone
signed_by mark hours minutes = record { is_named = false; is_negative = mark == hyphen; hours = hours; minutes = minutes }

abbrev named_zulu : Zone
named_zulu = record { is_named = true; is_negative = false; hours = 0; minutes = 0 }

signed_zone : (c : ℕ) (cs : List ℕ) (z : Zone) (seconds : ℤ) → (c == 90) ≡ false → rfc.signed_offset false (c ∷ cs) ≡ Ok (z, []) → signed_offset_of z.is_negative z.hours z.minutes ≡ Ok seconds → SameOffset (c ∷ cs) seconds
unfolding rfc.signed_offset iso.offset
signed_zone c cs z seconds plain h hs =
    due_piece _ (sign (c ∷ cs)) _ (z, []) h (λ mark b1 p0 h1.
    due_piece _ (digits 2 b1) _ (z, []) h1 (λ hours b2 p1 h2.
    due_check (nat_le hours 23) _ b2 _ (z, []) h2 (λ low h3.
    due_piece _ (byte colon b2) _ (z, []) h3 (λ x b3 p2 h4.
    due_piece _ (digits 2 b3) _ (z, []) h4 (λ minutes b4 p3 h5.
    let e = same_end (signed_by mark hours minutes, b4) (z, []) h5 in
    let ez : signed_by mark hours minutes ≡ z = ap (λ (p : Zone × List ℕ). p.0) e in
    let left : b4 ≡ [] = ap (λ (p : Zone × List ℕ). p.1) e in
    let named : signed_offset_of (mark == hyphen) hours minutes ≡ Ok seconds = rw (← ez) at hs in
    let few = offset_ranges (mark == hyphen) hours minutes seconds named in
    let signed = signed_there Extended (c ∷ cs) b1 b2 b3 mark hours minutes p0 p1 few.hours (colon_there b2 b3 p2) (minute_there b3 minutes (rw left at p3) few.minutes) in
    let place : drop 4 (c ∷ cs) ≡ b3 = further 3 1 (c ∷ cs) b2 b3 (further 1 2 (c ∷ cs) b1 b2 (sign_place (c ∷ cs) mark b1 p0) (digits_place 2 b1 hours b2 p1).1) (byte_place colon b2 b3 p2) in
    let last = two_last b3 minutes (rw left at p3) in
    let some : 0 < length (drop 4 (c ∷ cs)) = rw place last.0 in
    record {
      read = iso.offset_of (mark == hyphen) hours minutes;
      is = rw (no_zulu c cs plain) signed;
      value = seconds_of (mark == hyphen) hours minutes ∙ named;
      some = omega arith;
      large = rw (last_of_rest 4 (c ∷ cs) some) (rw place last.1);
    })))))

zulu_zone : (cs : List ℕ) (z : Zone) (seconds : ℤ) → rfc.offset false (90 ∷ cs) ≡ Ok (z, []) → signed_offset_of z.is_negative z.hours z.minutes ≡ Ok seconds → SameOffset (90 ∷ cs) seconds
unfolding rfc.offset rfc.zulu iso.offset skip_of signed_offset_of
zulu_zone cs z seconds h hs =
    let e = same_end (named_zulu, cs) (z, []) h in
    let ez : named_zulu ≡ z = ap (λ (p : Zone × List ℕ). p.0) e in
    let left : cs ≡ [] = ap (λ (p : Zone × List ℕ). p.1) e in
    record {
      read = iso.zulu;
      is = ap (λ (s : List ℕ). Some (iso.zulu, s)) left;
      value = rw (← ez) at hs;
      some = omega arith;
      large = rw left refl;
    }

small_zone : (cs : List ℕ) (z : Zone) → rfc.offset false (122 ∷ cs) ≡ Ok (z, []) → cs ≡ []
unfolding rfc.offset rfc.zulu skip_of
small_zone cs z h = ap (λ (p : Zone × List ℕ). p.1) (same_end (named_zulu, cs) (z, []) h)

plain_zone : (c : ℕ) (cs : List ℕ) (z : Zone) → (c == 90) ≡ false → (c == 122) ≡ false → rfc.offset false (c ∷ cs) ≡ Ok (z, []) → rfc.signed_offset false (c ∷ cs) ≡ Ok (z, [])
unfolding rfc.offset rfc.zulu skip_of
plain_zone c cs z large small h = rw (large, small) at h

empty_zone : (z : Zone) (seconds : ℤ) → rfc.offset false [] ≡ Ok (z, []) → SameOffset [] seconds
unfolding rfc.offset rfc.zulu rfc.signed_offset skip_of byte_of
empty_zone z seconds h = absurd (cc)

-- the zone that RFC 3339 reads is a small `z`, or ISO 8601 reads it too
pub same_zone : (bytes : List ℕ) (z : Zone) (seconds : ℤ) → rfc.offset false bytes ≡ Ok (z, []) → signed_offset_of z.is_negative z.hours z.minutes ≡ Ok seconds → (bytes ≡ 122 ∷ []) ⊎ SameOffset bytes seconds
same_zone [] z seconds h hs = inr (empty_zone z seconds h)
same_zone (c ∷ cs) z seconds h hs =
    elim (cases_Bool (c == 122)) [
      | inl small ↦
          let e = eqb-true c 122 small in
          inl (rw e (ap (λ (s : List ℕ). 122 ∷ s) (small_zone cs z (rw e at h))))
      | inr other ↦
          elim (cases_Bool (c == 90)) [
            | inl large ↦ let e = eqb-true c 90 large in inr (rw e (zulu_zone cs z seconds (rw e at h) hs))
            | inr plain ↦ inr (signed_zone c cs z seconds plain (plain_zone c cs z plain other h) hs)
          ]
    ]
