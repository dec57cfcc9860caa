-- Runs of bytes that stand for themselves.
use Rattle.std.proofs.Common.{◌≡◌, ◌∙◌, ℕ, zero, suc, ◌+◌, ◌-◌, ◌<◌, ◌≤◌, max, Option, None, Some, Bool, true, false, cond, nat_lt, List, [], ◌∷◌, ◌++◌, length, take, drop, get_or, map, sym, ap, subst, inl, inr, refl, arith}
use Rattle.std.specs.Prelude.{bit_or, ◌==◌, position}
use Rattle.std.specs.Int.{bit_at}
use Rattle.std.specs.Simd.Lanes.{mask_l}
use Rattle.std.proofs.lemmas.Simd.{bit_mask_l}
use Rattle.std.specs.List.{AllByRecursion}
use Rattle.std.specs.Str.{bytes_eq}
use Rattle.std.proofs.lemmas.Bool.{cases_lt}
use Rattle.std.proofs.lemmas.List.{get_or-map, get_or-drop, take-append-drop}
use Rattle.std.proofs.lemmas.List.Quantifiers.{position-Some}
use Rattle.std.proofs.lemmas.Nat.Bits.{bit_at-zero, bit_at_or}
use Rattle.std.proofs.lemmas.Bool.Decides.{nat_tests}
use Rattle.instants_fields.specs.Pieces.{rest_of}
use Rattle.instants_fields.specs.Strings.{string, is_text}
use Rattle.instants_fields.specs.Compared.{says_after}
use Rattle.instants_fields.specs.declared.string.Character.TheVariants.{Plain}
use Rattle.instants_fields.specs.Laws.{IsPlain}
use Rattle.instants_fields.proofs.PlainLemmas.{plain_character, plain_string, plain_text}
use Rattle.instants_fields.proofs.StringLemmas.{behind_character, behind_one}

none_where : (b : Bool) → cond {A = ℕ} b 1 0 ≡ 0 → b ≡ false
none_where true h = absurd (omega (arith, h))
none_where false h = refl

-- a bit for each lane that passes a test
pub bits_passing : (test : ℕ → Bool) (v : List ℕ) → length v ≡ 16 → (m : ℕ) → m ≡ mask_l (map test v) → (k : ℕ) → k < 16 → bit_at m k ≡ 0 → test (get_or v k 0) ≡ false
bits_passing test v long m mask k lt none =
    let bit : bit_at m k ≡ cond (test (get_or v k 0)) 1 0 = rw mask (bit_mask_l (map test v) k ∙ ap (λ (b : Bool). cond {A = ℕ} b 1 0) (get_or-map test v k 0 false (omega (arith, long, lt)))) in
    none_where (test (get_or v k 0)) (sym bit ∙ none)

pub either_none : (a b k : ℕ) → bit_at (bit_or a b) k ≡ 0 → (bit_at a k ≡ 0) × (bit_at b k ≡ 0)
either_none a b k e = let most : max (bit_at a k) (bit_at b k) ≡ 0 = sym (bit_at_or a b k) ∙ e in (omega (arith, most), omega (arith, most))

-- these are at the start of a text
abbrev pub BeginPlain : ℕ → List ℕ → Type 0
BeginPlain n text = (k : ℕ) → k < n → IsPlain (get_or text k 0)

if_below : (n m : ℕ) (r : Option (List ℕ)) → n < m → cond (nat_lt n m) r None ≡ r
if_below n m r lt = let b : nat_lt n m ≡ true = grind (arith, nat_tests, lt) in rw b refl

pub pass_plain : (n : ℕ) (text : List ℕ) → n ≤ length text → BeginPlain n text → rest_of (string (drop n text)) ≡ rest_of (string text)
pass_plain zero text within plain = refl
pass_plain (suc n) [] within plain = refl
pass_plain (suc n) (c ∷ text) within plain =
    pass_plain n text (omega (arith, within)) (λ k lt. plain (suc k) (omega (arith, lt)))
    ∙ sym (behind_character (c ∷ text) ∙ ap (behind_one (λ rest. rest_of (string rest)) (suc (length text))) (plain_character c text (plain 0 (omega arith))) ∙ if_below (length text) (suc (length text)) (rest_of (string text)) (omega arith))

-- one run after another
pub more_plain : (n m : ℕ) (text : List ℕ) → BeginPlain n text → BeginPlain m (drop n text) → BeginPlain (n + m) text
more_plain n m text first next = λ k lt. elim (cases_lt k n) as (λ _. IsPlain (get_or text k 0)) [
  | inl before ↦ first k before
  | inr behind ↦
      let at : get_or (drop n text) (k - n) 0 ≡ get_or text k 0 = get_or-drop n text (k - n) 0 ∙ ap (λ (i : ℕ). get_or text i 0) (omega (arith, behind)) in
      subst IsPlain at (next (k - n) (omega (arith, lt, behind)))
]

all_plain : (n : ℕ) (text : List ℕ) → n ≤ length text → BeginPlain n text → AllByRecursion IsPlain (take n text)
all_plain zero text within plain = tt
all_plain (suc n) [] within plain = absurd (omega (arith, within))
all_plain (suc n) (c ∷ text) within plain = (plain 0 (omega arith), all_plain n text (omega (arith, within)) (λ k lt. plain (suc k) (omega (arith, lt))))

-- a string without escapes
plain_cut : (n : ℕ) (text rest : List ℕ) → n ≤ length text → BeginPlain n text → drop n text ≡ 34 ∷ rest → string text ≡ Some (map Plain (take n text), rest)
plain_cut n text rest within plain at_mark =
    let whole : text ≡ take n text ++ (34 ∷ rest) = sym (take-append-drop n text) ∙ ap (λ (t : List ℕ). take n text ++ t) at_mark in
    ap string whole ∙ plain_string (take n text) rest (all_plain n text within plain)

pub plain_says : (n : ℕ) (name text rest : List ℕ) → n ≤ length text → BeginPlain n text → drop n text ≡ 34 ∷ rest → says_after None name (string text) ≡ bytes_eq name (take n text)
plain_says n name text rest within plain at_mark = ap (says_after None name) (plain_cut n text rest within plain at_mark) ∙ ap (is_text name) (plain_text (take n text))

pub no_bit : (bits k : ℕ) → bits ≡ 0 → bit_at bits k ≡ 0
no_bit bits k none = rw none (bit_at-zero k)

pub plain_sixteen : (text : List ℕ) (bits : ℕ) → bits ≡ 0 → ((k : ℕ) → k < 16 → bit_at bits k ≡ 0 → IsPlain (get_or text k 0)) → BeginPlain 16 text
plain_sixteen text bits none plain = λ k lt. plain k lt (no_bit bits k none)

-- ---- texts without a backslash

-- the first bytes are none
abbrev pub BeginFree : ℕ → List ℕ → Type 0
BeginFree n text = (k : ℕ) → k < n → (get_or text k 0 == 92) ≡ false

pub more_free : (n m : ℕ) (text : List ℕ) → BeginFree n text → BeginFree m (drop n text) → BeginFree (n + m) text
more_free n m text first next = λ k lt. elim (cases_lt k n) as (λ _. (get_or text k 0 == 92) ≡ false) [
  | inl before ↦ first k before
  | inr behind ↦
      let at : get_or (drop n text) (k - n) 0 ≡ get_or text k 0 = get_or-drop n text (k - n) 0 ∙ ap (λ (i : ℕ). get_or text i 0) (omega (arith, behind)) in
      rw at at (next (k - n) (omega (arith, lt, behind)))
]

-- those before a place, and sixteen from an earlier one on, are all
pub all_free : (n last : ℕ) (text : List ℕ) → last ≤ n → last + 16 ≡ length text → BeginFree n text → BeginFree 16 (drop last text) → BeginFree (length text) text
all_free n last text few whole first next = λ k lt. more_free last 16 text (λ i l. first i (omega (arith, l, few))) next k (omega (arith, lt, whole))

pub free_position : (text : List ℕ) (o : Option ℕ) → position (λ c. c == 92) text ≡ o → BeginFree (length text) text → o ≡ None
free_position text None e free = refl
free_position text (Some i) e free =
    let at = position-Some (λ c. c == 92) text i 0 e in
    absurd (cc (sym at.1 ∙ free i at.0))
