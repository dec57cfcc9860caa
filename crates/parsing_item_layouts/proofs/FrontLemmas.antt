-- What no line can begin with is refused.
use Rattle.std.proofs.Common.{◌≡◌, ◌<◌, ◌≤◌, ◌+◌, ◌-◌, ◌∙◌, ◌==◌, ◌&&◌, ℕ, zero, suc, Bool, true, false, not, List, [], ◌∷◌, length, get_or, replicate, None, Ok, Err, refl, sym, ap, arith}
use Rattle.parsing_layout.proofs.BoundsLemmas.{set_each}
use Rattle.std.specs.Prelude.{set, nat_lt, IfOk}
use Rattle.std.specs.Result.{result_ok}
use Rattle.std.proofs.lemmas.Bool.Decides.{nat_tests}
use Rattle.std.proofs.lemmas.List.{get_or-drop}
use Rattle.parsing_components.specs.Meaning.{Meaning, Answer}
use Rattle.parsing_components.specs.declared.fields.Record.{Record}
use Rattle.parsing_components.specs.Whole.{whole, starting, all_read}
use Rattle.parsing_layout.specs.declared.stretch.Stretch.{Stretch}
use Rattle.parsing_layout.specs.Stretch.{IsCut, stands}
use Rattle.parsing_item_layouts.specs.Fronts.{Leads}
use Rattle.parsing_item_layouts.specs.FirstBounds.{IsWithin, AreBoundsOf}
use Rattle.parsing_item_layouts.specs.FirstBytes.{AreOf, Fits, fits_at, rule_out}
use Rattle.parsing_item_layouts.specs.declared.first_bounds.FirstBounds.{FirstBounds}
use Rattle.parsing_item_layouts.specs.declared.first_bytes.FirstBytes.{FirstBytes}

-- ---- what does not fit is refused

none_fits : (P : List ℕ → Type 0) (x : Answer) → IfOk x (λ y. P y.1) → ((rest : List ℕ) → P rest → ⊥) → result_ok x ≡ None
none_fits P (Ok y) h never = absurd (never y.1 h)
none_fits P (Err e) h never = refl

ended_none : (P : List ℕ → Type 0) (b : Bool) (r : Record) (rest : List ℕ) → (length rest == 0) ≡ b → P rest → (P [] → ⊥) → result_ok (all_read (Ok (r, rest))) ≡ None
ended_none P true r [] e h never = absurd (never h)
ended_none P true r (c ∷ cs) e h never = absurd (let zero : length (c ∷ cs) ≡ 0 = grind (arith, nat_tests, e) in omega (arith, zero))
ended_none P false r rest e h never = rw e refl

none_whole : (P : List ℕ → Type 0) (x : Answer) → IfOk x (λ y. P y.1) → (P [] → ⊥) → result_ok (all_read x) ≡ None
none_whole P (Ok y) h never = ended_none P (length y.1 == 0) y.0 y.1 refl h never
none_whole P (Err e) h never = refl

pub bounds_of : (m : Meaning) (end b : FirstBounds) → Leads IsWithin m end b → ((line : List ℕ) → IsWithin false end line) → IsWithin true end [] → AreBoundsOf m b
unfolding whole
bounds_of m end b leads any none = record {
  outside = λ line out r. none_fits (λ rest. IsWithin false end rest → IsWithin false b line) (m r line) (leads false r line) (λ rest k. out (k (any rest)));
  too_long = λ line out defaults. none_whole (λ rest. IsWithin true end rest → IsWithin true b line) (m (starting defaults) line) (leads true (starting defaults) line) (λ k. out (k none));
}

-- ---- the bytes of four places

all_fit : (a b c d : Bool) → a ≡ true → b ≡ true → c ≡ true → d ≡ true → not (a && (b && (c && d))) ≡ true → ⊥
all_fit a b c d h0 h1 h2 h3 e = absurd (let never : false ≡ true = rw (h0, h1, h2, h3) at e in cc)

fitting : (f : FirstBytes) (line : List ℕ) → Fits f line → rule_out f line ≡ true → ⊥
unfolding rule_out
fitting f line h e = all_fit (fits_at f line 0) (fits_at f line 1) (fits_at f line 2) (fits_at f line 3) (h 0) (h 1) (h 2) (h 3) e

pub bytes_of : (m : Meaning) (end f : FirstBytes) → Leads (λ all g line. Fits g line) m end f → ((line : List ℕ) → Fits end line) → AreOf m f
bytes_of m end f leads any line out r = none_fits (λ rest. Fits end rest → Fits f line) (m r line) (leads false r line) (λ rest k. fitting f line (k (any rest)) out)

pub fits_four : (a b c d : List Bool) (line : List ℕ) → get_or a (get_or line 0 0) true ≡ true → get_or b (get_or line 1 0) true ≡ true
    → get_or c (get_or line 2 0) true ≡ true → get_or d (get_or line 3 0) true ≡ true → Fits (record { places = a ∷ b ∷ c ∷ d ∷ [] }) line
fits_four a b c d line h0 h1 h2 h3 zero = h0
fits_four a b c d line h0 h1 h2 h3 (suc zero) = h1
fits_four a b c d line h0 h1 h2 h3 (suc (suc zero)) = h2
fits_four a b c d line h0 h1 h2 h3 (suc (suc (suc zero))) = h3
fits_four a b c d line h0 h1 h2 h3 (suc (suc (suc (suc place)))) = let far : nat_lt (suc (suc (suc (suc place)))) 4 ≡ false = grind (arith, nat_tests) in rw far refl

pub all_true : (n b : ℕ) → get_or (replicate n true) b true ≡ true
all_true zero b = refl
all_true (suc n) zero = refl
all_true (suc n) (suc b) = all_true n b

-- what holds of each byte that is not in a set, where one is added or left out
pub set_one : (P : ℕ → Type 0) (bytes : List Bool) (i : ℕ) (v : Bool) → ((b : ℕ) → get_or bytes b true ≡ false → P b) → (v ≡ false → P i) → (b : ℕ) → get_or (set bytes i v) b true ≡ false → P b
set_one P bytes i v h k = set_each (λ b in_it. in_it ≡ false → P b) bytes i v true h k

-- a byte that stands at its place of a stretch is one of those of the place
pub stands_there : (s : Stretch) (bytes : List Bool) (line rest : List ℕ) (place : ℕ) → ((byte : ℕ) → get_or bytes byte true ≡ false → stands s.kind place byte ≡ false) → place < s.least → IsCut s line rest → get_or bytes (get_or line place 0) true ≡ true
stands_there s bytes line rest place h lt cut = go (get_or bytes (get_or line place 0) true) (h (get_or line place 0))
  where
    go : (b : Bool) → (b ≡ false → stands s.kind place (get_or line place 0) ≡ false) → b ≡ true
    go true k = refl
    go false k = absurd (let never : true ≡ false = sym (cut.0 place lt) ∙ k refl in cc)

-- what stands after a stretch, at its places
pub after_stretch : (f : FirstBytes) (s : Stretch) (line rest : List ℕ) (place : ℕ) → s.least ≤ place → s.is_whole ≡ true → place - s.least < 4 → IsCut s line rest → Fits f rest
    → get_or (get_or f.places (place - s.least) []) (get_or line place 0) true ≡ true
after_stretch f s line rest place le whole few cut h =
    let at : s.least + (place - s.least) ≡ place = omega (arith, le) in
    let same : get_or rest (place - s.least) 0 ≡ get_or line place 0 = ap (λ (r : List ℕ). get_or r (place - s.least) 0) (cut.1 whole) ∙ get_or-drop s.least line (place - s.least) 0 ∙ ap (λ k. get_or line k 0) at in
    let here : nat_lt (place - s.least) 4 ≡ true = grind (arith, nat_tests) in
    rw (same, here) at (h (place - s.least))
