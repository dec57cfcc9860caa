-- Places at which no date begins, by keys.
use Rattle.std.proofs.Common.{◌≡◌, ◌<◌, ◌≤◌, ◌+◌, ◌==◌, inl, inr, ℕ, Bool, false, List, length, get_or, drop, refl, ◌∙◌, ap, subst, arith}
use Rattle.std.specs.Prelude.{All}
use Rattle.std.specs.Int.{bit_at}
use Rattle.std.proofs.lemmas.Bool.{cases_lt}
use Rattle.std.proofs.lemmas.List.{get_or-drop, get_or_past}
use Rattle.std.proofs.lemmas.List.Elements.{All-weaker}
use Rattle.instants_prefixes.specs.NoPrefix.{HasNoPrefix}
use Rattle.instants_sources.specs.Grammar.{Grammar}
use Rattle.instants_found.specs.Starts.{AreMarked, CannotStand, HasNoDate, IsNoDate, MarkPlaces}
use Rattle.instants_found.specs.Keys.{AreBytes, stands_at, has_key, LacksKeys, NeedsOne, AreKeys}
use Rattle.instants_found.specs.declared.key.Key.{Key}
use Rattle.instants_found.specs.declared.keys.Keys.{Keys}
use Rattle.instants_found.specs.Marks.{AreMarks, IsUnmarked}
use Rattle.instants_found.specs.declared.marks.Marks.{Marks}
use Rattle.instants_found.proofs.NoDates.{no_prefix_there, none_starts}

-- ---- places

bytes_after : (line : List ℕ) (start : ℕ) → AreBytes line → AreBytes (drop start line)
bytes_after line start few k = let same : get_or (drop start line) k 0 ≡ get_or line (start + k) 0 = get_or-drop start line k 0 in rw same (few (start + k))

no_key_after : (key : Key) (line : List ℕ) (start : ℕ) → stands_at key line start ≡ false → has_key key (drop start line) ≡ false
no_key_after key line start none = ap (λ (n : ℕ). n == key.byte) (get_or-drop start line key.place 0) ∙ none

module _ (sources : List Grammar) (line : List ℕ) where
  -- neither key stands after the place
  pub unkeyed_none : (keys : Keys) (start : ℕ) → AreKeys sources keys → AreBytes line → LacksKeys keys line start → IsNoDate sources line start
  unkeyed_none keys start are few (each, first, second) =
      no_prefix_there sources line start
      (All-weaker (NeedsOne keys) (HasNoPrefix (drop start line)) (λ grammar needs. needs (drop start line) (bytes_after line start few) each (no_key_after keys.first line start first) (no_key_after keys.second line start second)) sources are)

  -- the byte at the fourth place after it can't stand there
  fourth_none : (start byte : ℕ) → All (CannotStand 3 byte) sources → get_or line (start + 3) 0 ≡ byte → IsNoDate sources line start
  fourth_none start byte are there = no_prefix_there sources line start (All-weaker (CannotStand 3 byte) (HasNoPrefix (drop start line)) (λ grammar cannot. cannot (drop start line) (get_or-drop start line 3 0 ∙ there)) sources are)

  -- what isn't marked has no date
  pub unmarked_none : (starts : List Bool) (marks : Marks) (start : ℕ) → AreMarked 0 sources starts → AreMarks sources starts marks → AreBytes line → IsUnmarked marks line start → IsNoDate sources line start
  unmarked_none starts marks start are right few none =
      elim none [
        | inl keys ↦ unkeyed_none marks.keys start right.keys few keys
        | inr (inl first) ↦ none_starts sources starts line start are (right.first (get_or line start 0) (few start) first)
        | inr (inr fourth) ↦ fourth_none start (get_or line (start + 3) 0) (right.fourth (get_or line (start + 3) 0) (few (start + 3)) fourth) refl
      ]

  -- the bits of the marks of sixteen places
  pub marks_of : (starts : List Bool) (marks : Marks) (at bits : ℕ) → AreMarked 0 sources starts → AreMarks sources starts marks → AreBytes line
      → ((k : ℕ) → k < 16 → bit_at bits k ≡ 0 → IsUnmarked marks line (at + k)) → MarkPlaces sources line at (at + 16) bits
  marks_of starts marks at bits are right few is_bits = λ k lt none. unmarked_none starts marks (at + k) are right few (is_bits k (omega (arith, lt)) none)

  -- only the first of the last four places may have a date
  pub none_at_end : (from : ℕ) → All (CannotStand 3 0) sources → length line ≤ from + 4 → (length line ≡ from + 4 → IsNoDate sources line from) → HasNoDate sources line from (length line)
  none_at_end from are end here = λ place low high.
      elim (cases_lt (length line) (place + 4)) [
        | inl short ↦ fourth_none place 0 are (get_or_past line (place + 3) 0 (omega (arith, short)))
        | inr long ↦
            let same : from ≡ place = omega (arith, end, low, long) in
            let P : ℕ → Type 0 = λ n. IsNoDate sources line n in
            subst P same (here (omega (arith, end, low, long)))
      ]
