-- A test that all pass, and one more.
use Rattle.std.proofs.Common.{◌≡◌, Bool, true, ◌&&◌, List, [], ◌∷◌, ◌++◌, map, ap, ◌∙◌}
use Rattle.std.specs.Cmp.{first_so, second_so}
use Rattle.description_items.specs.Forms.{all_true}

pub all_push : {A : Type 0} (f : A → Bool) (xs : List A) (x : A) → all_true (map f xs) ≡ true → f x ≡ true → all_true (map f (xs ++ x ∷ [])) ≡ true
all_push f [] x all one = ap (λ b. b && true) one
all_push f (y ∷ ys) x all one =
    ap (λ b. b && all_true (map f (ys ++ x ∷ []))) (first_so (f y) (all_true (map f ys)) all) ∙ all_push f ys x (second_so (f y) (all_true (map f ys)) all) one
