-- Layouts one after another, and layouts at places.
use Rattle.std.proofs.Common.{◌≡◌, ℕ, ◌+◌, List, [], ◌∷◌, ◌++◌, drop, Option, Some, refl, arith}
use Rattle.std.specs.Prelude.{option_map}
use Rattle.parsing_layout.specs.Layout.{Part, Values, Says, Fits, piece_of, value_of, width, length_of}

-- what a machine takes at its places, a text says
pub says_there : (Takes : Part → ℕ → Type 0) (text : List ℕ) (v : Values) → ((p : Part) (at : ℕ) → Takes p at → piece_of p (drop at text) ≡ Some (value_of p v, drop (at + width p) text)) → (parts : List Part) (at end : ℕ) → end ≡ at + length_of parts → Fits Takes parts at → Says parts (drop at text) v (drop end text)
says_there Takes text v takes [] at end is h = rw is (let same : at + 0 ≡ at = omega arith in rw same refl)
says_there Takes text v takes (p ∷ ps) at end is h = (drop (at + width p) text, takes p at h.0, says_there Takes text v takes ps (at + width p) end (omega (arith, is)) h.1)

-- a text that says one layout, and its rest another, says both
pub says_both : (ps qs : List Part) (bytes mid rest : List ℕ) (v : Values) → Says ps bytes v mid → Says qs mid v rest → Says (ps ++ qs) bytes v rest
says_both [] qs bytes mid rest v h k = rw h k
says_both (p ∷ ps) qs bytes mid rest v h k = (h.0, h.1, says_both ps qs h.0 mid rest v h.2 k)

pub says_first : (ps qs : List Part) (bytes rest : List ℕ) (v : Values) → Says (ps ++ qs) bytes v rest → (mid : List ℕ) × Says ps bytes v mid × Says qs mid v rest
says_first [] qs bytes rest v h = (bytes, refl, h)
says_first (p ∷ ps) qs bytes rest v h = let k = says_first ps qs h.0 rest v h.2 in (k.0, (h.0, h.1, k.1), k.2)

-- what was cut off, as a number
abbrev pub numbered : {A : Type 0} → (A → ℕ) → Option (A × List ℕ) → Option (ℕ × List ℕ)
numbered f o = option_map (λ x. (f x.0, x.1)) o
