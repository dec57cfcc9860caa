-- What sources need, by their first bytes.
use Rattle.std.proofs.Common.{◌≡◌, ◌∙◌, ℕ, true, List, take, Option, Some, None, refl, subst, arith}
use Rattle.std.specs.Prelude.{IfSome}
use Rattle.std.specs.Option.{ForSome}
use Rattle.std.proofs.lemmas.List.{get_or-take}
use Rattle.base.specs.Bytes.{hyphen}
use Rattle.parsing_item_layouts.specs.FirstBytes.{AreOf, rule_out}
use Rattle.parsing_item_layouts.specs.declared.first_bytes.FirstBytes.{FirstBytes}
use Rattle.instants_prefixes.specs.NoPrefix.{HasNoPrefix}
use Rattle.instants_prefixes.specs.Reading.{window, text_for}
use Rattle.instants_sources.specs.Grammar.{Described, Rfc3339, Written}
use Rattle.instants_sources.specs.Written.{reads_written}
use Rattle.instants_found.specs.Starts.{CannotStand}
use Rattle.instants_found.specs.Keys.{IsKeyOf, IsRuledOutAt, NeedsKey}
use Rattle.instants_found.specs.declared.key.Key.{Key}
use Rattle.instants_prefixes.proofs.RuledOut.{described_due, hyphen_due}

pub if_some : {T : Type 0} (P Q : T → Type 0) (o : Option T) → ((x : T) → P x → Q x) → IfSome o P → IfSome o Q
if_some P Q (Some x) f h = f x h
if_some P Q None f h = h

pub for_some : {T : Type 0} (P : T → Type 0) (o : Option T) → IfSome o P → ForSome o P
for_some P (Some x) h y e = let same : x ≡ y = cc in subst P same h
for_some P None h y e = absurd cc

-- ---- descriptions

-- the first bytes alone are looked at
cut : (f : FirstBytes) (bytes : List ℕ) → rule_out f (take window bytes) ≡ rule_out f bytes
unfolding rule_out
cut f bytes =
    rw (get_or-take window bytes 0 0 (omega arith), get_or-take window bytes 1 0 (omega arith), get_or-take window bytes 2 0 (omega arith), get_or-take window bytes 3 0 (omega arith)) refl

module _ (written : Written) (f : FirstBytes) (are : AreOf (reads_written written) f) where
  ruled_out : (bytes : List ℕ) → rule_out f bytes ≡ true → HasNoPrefix bytes (Described written)
  unfolding text_for
  ruled_out bytes is = described_due written bytes (take window bytes) refl (are (take window bytes) (cut f bytes ∙ is))

  pub described_key : (key : Key) → IsKeyOf f key → NeedsKey key (Described written)
  described_key key is = λ bytes few none. ruled_out bytes (is bytes few none)

  pub described_fourth : (byte : ℕ) → IsRuledOutAt f 3 byte → CannotStand 3 byte (Described written)
  described_fourth byte is = λ bytes there. ruled_out bytes (is bytes there)

-- ---- RFC 3339

pub year_key : NeedsKey (record { place = 4; byte = hyphen }) Rfc3339
year_key = λ bytes few none. hyphen_due bytes none
