use Rattle.std.proofs.Common.{◌≡◌, ℕ, ◌+◌, ◌<◌, List, ◌∷◌, length, get_or, drop, max, refl, arith, add-one, drop-cons}
use Rattle.description_items.specs.Tree.{Compound, First, listed}
use Rattle.description_tree.specs.declared.inner.FormatDescriptionV3Inner.{FormatDescriptionV3Inner}
use Rattle.description_tree.specs.Inner.{inner_tree, inner_trees}
use Rattle.description_tree.specs.Reserved.{reserved, reserved_in_turn, greatest_reserved}
use Rattle.description_tree.proofs.InnerTrees.{tree-OwnedCompound, tree-OwnedFirst}
use Rattle.description_tree.proofs.reserved.+bytes.Goals as goal

-- the node at an index is the first of those from there on
prefix : (nodes : List FormatDescriptionV3Inner) (i : ℕ) (node : FormatDescriptionV3Inner) → i < length nodes → node ≡ get_or nodes i node → drop i nodes ≡ node ∷ drop (i + 1) nodes
prefix nodes i node h is = rw (add-one, drop-cons nodes i node, ← is) refl

sum_on : (nodes : List FormatDescriptionV3Inner) (i : ℕ) (node : FormatDescriptionV3Inner) → i < length nodes → node ≡ get_or nodes i node → reserved_in_turn (listed (inner_trees (drop i nodes))) ≡ reserved (inner_tree node) + reserved_in_turn (listed (inner_trees (drop (i + 1) nodes)))
sum_on nodes i node h is = rw (prefix nodes i node h is) refl

greatest_on : (nodes : List FormatDescriptionV3Inner) (i : ℕ) (node : FormatDescriptionV3Inner) → i < length nodes → node ≡ get_or nodes i node → greatest_reserved (listed (inner_trees (drop i nodes))) ≡ max (reserved (inner_tree node)) (greatest_reserved (listed (inner_trees (drop (i + 1) nodes))))
greatest_on nodes i node h is = rw (prefix nodes i node h is) refl

pub greatest_reserved-loop-node-preserved : goal.greatest_reserved-loop-node-preserved
greatest_reserved-loop-node-preserved t c = omega (arith, c.loop-node.invariant, greatest_on c.args.nodes.now c.loop-node.node-index c.node-item.result c.loop-node-test.true c.node-item.is, c.in_ok-reserved.ensures.some, c.max-greatest.ensures)

pub greatest_reserved-returns-in_err-reserved-clause-none : goal.greatest_reserved-returns-in_err-reserved-clause-none
greatest_reserved-returns-in_err-reserved-clause-none t c = λ e. omega (arith, c.loop-node.invariant, greatest_on c.args.nodes.now c.loop-node.node-index c.node-item.result c.loop-node-test.true c.node-item.is, c.in_err-reserved.ensures.none refl)

pub reserved_in_turn-loop-node-preserved : goal.reserved_in_turn-loop-node-preserved
reserved_in_turn-loop-node-preserved t c = omega (arith, c.loop-node.invariant, sum_on c.args.nodes.now c.loop-node.node-index c.node-item.result c.loop-node-test.true c.node-item.is, c.in_ok-reserved.ensures.some, c.in_ok-total.ensures)

pub reserved_in_turn-returns-in_err-reserved-clause-none : goal.reserved_in_turn-returns-in_err-reserved-clause-none
reserved_in_turn-returns-in_err-reserved-clause-none t c = λ e. omega (arith, c.loop-node.invariant, sum_on c.args.nodes.now c.loop-node.node-index c.node-item.result c.loop-node-test.true c.node-item.is, c.in_err-reserved.ensures.none refl)

pub reserved_in_turn-returns-in_err-total-clause-none : goal.reserved_in_turn-returns-in_err-total-clause-none
reserved_in_turn-returns-in_err-total-clause-none t c = λ e. omega (arith, c.loop-node.invariant, sum_on c.args.nodes.now c.loop-node.node-index c.node-item.result c.loop-node-test.true c.node-item.is, c.in_ok-reserved.ensures.some, c.in_err-total.ensures)

pub reserved-returns-in-OwnedCompound : goal.reserved-returns-in-OwnedCompound
reserved-returns-in-OwnedCompound t c =
    let e : inner_tree c.args.node.now ≡ Compound (listed (inner_trees c.in-OwnedCompound.items.items)) = rw c.in-OwnedCompound.is (tree-OwnedCompound c.in-OwnedCompound.items) in
    rw (e, ← c.deref.ensures.value) (record { some = c.reserved_in_turn-in-OwnedCompound.ensures.some; none = c.reserved_in_turn-in-OwnedCompound.ensures.none })

pub reserved-returns-in-OwnedFirst : goal.reserved-returns-in-OwnedFirst
reserved-returns-in-OwnedFirst t c =
    let e : inner_tree c.args.node.now ≡ First (listed (inner_trees c.in-OwnedFirst.items.items)) = rw c.in-OwnedFirst.is (tree-OwnedFirst c.in-OwnedFirst.items) in
    rw (e, ← c.deref-in-OwnedFirst.ensures.value) (record { some = c.greatest_reserved-in-OwnedFirst.ensures.some; none = c.greatest_reserved-in-OwnedFirst.ensures.none })
