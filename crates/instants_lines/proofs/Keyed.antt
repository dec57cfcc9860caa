-- The key of a line, and what is kept below it.
use Rattle.std.proofs.Common.{◌≡◌, ℕ, Bool, true, false, List, [], ◌∷◌, ◌++◌, None, refl, sym, ap, ◌∙◌, append_assoc}
use Rattle.std.specs.Prelude.{if◌then◌else◌}
use Rattle.base.specs.Bytes.{tab, line_feed}
use Rattle.instants_lines.specs.Dates.{date_in}
use Rattle.instants_lines.specs.Going.{Going, below, below_by, given_below, is_carry}

same_either : {A : Type 0} (b : Bool) (x : A) → (if b then x else x) ≡ x
same_either true x = refl
same_either false x = refl

-- nothing changes below a line without a date
pub below_none : (going : Going) (deep : ℕ) → below_by going deep None ≡ going
below_none going deep = rw (same_either (is_carry going.mode) going.key, same_either (is_carry going.mode) going.indent) refl

-- where nothing is carried no line goes on, and nothing is kept but what is given
pub plain_below : (going : Going) (line : List ℕ) → is_carry going.mode ≡ false → below going line ≡ record going { search = record going.search { given = given_below going.search.given (date_in going.search line) } }
plain_below going line e = rw e refl

-- a key and the tab after it are written as one part
pub key_and_tab : (key tabbed label line : List ℕ) → tabbed ≡ key ++ tab ∷ [] → (key ++ tab ∷ (label ++ line)) ++ line_feed ∷ [] ≡ tabbed ++ (label ++ (line ++ line_feed ∷ []))
key_and_tab key tabbed label line is =
    append_assoc key (tab ∷ (label ++ line)) (line_feed ∷ [])
    ∙ ap (λ (l : List ℕ). key ++ tab ∷ l) (append_assoc label line (line_feed ∷ []))
    ∙ sym (append_assoc key (tab ∷ []) (label ++ (line ++ line_feed ∷ [])))
    ∙ ap (λ (prefix : List ℕ). prefix ++ (label ++ (line ++ line_feed ∷ []))) (sym is)
