-- The texts of faults, by their numbers.
use Rattle.std.proofs.Common.{◌≡◌, ◌==◌, ◌≢◌, ℕ, suc, ◌+◌, ◌≤◌, Bool, true, false, cond, List, [], ◌∷◌, ◌++◌, length, ap, arith}
use Rattle.std.specs.Prelude.{codes, nat_lt}
use Rattle.std.proofs.lemmas.Bool.Decides.{nat_tests}
use Rattle.std.specs.Str.{bytes_eq}
use Rattle.instants_memory.specs.Numbers.{name_number, names, number_in}
use Rattle.instants_memory.specs.Printed.{fault_text, name_numbered}
use Rattle.instants_memory.proofs.Named.{named}

few_of : (v : Bool) (first number count : ℕ) → number ≤ first + 1 + count → cond v first number ≤ first + suc count
few_of true first number count h = omega arith
few_of false first number count h = omega (arith, h)

few_in : (name : List ℕ) (first : ℕ) (some : List (List ℕ)) → number_in name first some ≤ first + length some
few_in name first [] = omega arith
few_in name first (known ∷ others) = few_of (bytes_eq name known) first (number_in name (first + 1) others) (length others) (few_in name (first + 1) others)

pub few_names : (name : List ℕ) → name_number name ≤ 27
unfolding name_number
few_names name = few_in name 1 names

component_text : (number : ℕ) → number ≤ 27 → fault_text (200 + number) ≡ codes "! component " ++ name_numbered number
unfolding fault_text
component_text number few =
    let literal : (200 + number == 100) ≡ false = grind (arith, nat_tests) in
    let trailing : (200 + number == 300) ≡ false = grind (arith, nat_tests) in
    let insufficient : (200 + number == 400) ≡ false = grind (arith, nat_tests) in
    let year : (200 + number == 600) ≡ false = grind (arith, nat_tests) in
    let long : (200 + number == 700) ≡ false = grind (arith, nat_tests) in
    let below : nat_lt (200 + number) 300 ≡ true = grind (arith, nat_tests) in
    rw (literal, trailing, insufficient, year, long, below) (ap (λ n. codes "! component " ++ name_numbered n) (omega arith))

range_text : (number : ℕ) → number ≤ 27 → fault_text (500 + number) ≡ codes "! range " ++ name_numbered number
unfolding fault_text
range_text number few =
    let literal : (500 + number == 100) ≡ false = grind (arith, nat_tests) in
    let trailing : (500 + number == 300) ≡ false = grind (arith, nat_tests) in
    let insufficient : (500 + number == 400) ≡ false = grind (arith, nat_tests) in
    let year : (500 + number == 600) ≡ false = grind (arith, nat_tests) in
    let long : (500 + number == 700) ≡ false = grind (arith, nat_tests) in
    let below : nat_lt (500 + number) 300 ≡ false = grind (arith, nat_tests) in
    rw (literal, trailing, insufficient, year, long, below) (ap (λ n. codes "! range " ++ name_numbered n) (omega arith))

-- a component that can't be read, and one that is out of range, by a name that has a number
pub component_is : (name : List ℕ) → name_number name ≢ 0 → fault_text (200 + name_number name) ≡ codes "! component " ++ name
component_is name h = rw (component_text (name_number name) (few_names name)) (ap (λ n. codes "! component " ++ n) (named name h))

pub range_is : (name : List ℕ) → name_number name ≢ 0 → fault_text (500 + name_number name) ≡ codes "! range " ++ name
range_is name h = rw (range_text (name_number name) (few_names name)) (ap (λ n. codes "! range " ++ n) (named name h))
