-- A reading begins each node of a tree at most once.
use Rattle.std.proofs.Common.{ℕ, ◌+◌, ◌≤◌, List, Option, Ok, Err, arith}
use Rattle.description_items.specs.Tree.{Tree, Trees, Literal, Part, Compound, Optional, First, none, also}
use Rattle.description.specs.Laws.{nodes, all_nodes}
use Rattle.parsing_components.specs.declared.fields.Record.{Record}
use Rattle.parsing_record.specs.Meaning.{Answer, Counted, then_counted, all_of, optionally, or_next, first_success, or_found, first_of}
use Rattle.parsing_record.specs.Reads.{Language, reads, each_reads}

-- from whatever record and bytes, so many items at most are begun
abbrev BeginsAtMost : Counted → ℕ → Type 0
BeginsAtMost c most = (r : Record) (bytes : List ℕ) → (c r bytes).1 ≤ most

then_tried : (a : Answer) (n m k : ℕ) (next : Counted) → n ≤ m → BeginsAtMost next k → (then_counted a n next).1 ≤ m + k
then_tried (Ok x) n m k next one others = let rest = others x.0 x.1 in omega arith
then_tried (Err f) n m k next one others = omega arith

next_tried : (a : Answer) (n m k : ℕ) (others : Option Answer × ℕ) → n ≤ m → others.1 ≤ k → (or_next a n others).1 ≤ m + k
next_tried (Ok x) n m k others one more = omega arith
next_tried (Err f) n m k others one more = omega arith

found_tried : (a : Answer) (n m k : ℕ) (others : Option Answer × ℕ) → n ≤ m → others.1 ≤ k → (or_found a n others).1 ≤ m + k
found_tried (Ok x) n m k others one more = omega arith
found_tried (Err f) n m k others one more = omega arith

mutual
  unfolding reads each_reads all_of optionally first_of first_success nodes all_nodes

  pub tree_tried : (language : Language) (t : Tree) → BeginsAtMost (reads language t) (nodes t)
  tree_tried language (Literal text) r bytes = omega arith
  tree_tried language (Part c) r bytes = omega arith
  tree_tried language (Compound ts) r bytes = omega (arith, in_turn_tried language ts r bytes)
  tree_tried language (Optional format t) r bytes = omega (arith, tree_tried language t r bytes)
  tree_tried language (First ts) r bytes = omega (arith, first_tried language ts r bytes)

  pub in_turn_tried : (language : Language) (ts : Trees) → BeginsAtMost (all_of (each_reads language ts)) (all_nodes ts)
  in_turn_tried language none r bytes = omega arith
  in_turn_tried language (also t ts) r bytes =
      then_tried (reads language t r bytes).0 (reads language t r bytes).1 (nodes t) (all_nodes ts) (all_of (each_reads language ts)) (tree_tried language t r bytes) (in_turn_tried language ts)

  first_tried : (language : Language) (ts : Trees) → BeginsAtMost (first_of (each_reads language ts)) (all_nodes ts)
  first_tried language none r bytes = omega arith
  first_tried language (also t ts) r bytes =
      found_tried (reads language t r bytes).0 (reads language t r bytes).1 (nodes t) (all_nodes ts) (first_success (each_reads language ts) r bytes) (tree_tried language t r bytes) (success_tried language ts r bytes)

  success_tried : (language : Language) (ts : Trees) (r : Record) (bytes : List ℕ) → (first_success (each_reads language ts) r bytes).1 ≤ all_nodes ts
  success_tried language none r bytes = omega arith
  success_tried language (also t ts) r bytes =
      next_tried (reads language t r bytes).0 (reads language t r bytes).1 (nodes t) (all_nodes ts) (first_success (each_reads language ts) r bytes) (tree_tried language t r bytes) (success_tried language ts r bytes)
