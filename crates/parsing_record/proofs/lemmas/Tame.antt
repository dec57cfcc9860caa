-- What a tree leaves is the end of what was there, and the name in its fault is short.
use Rattle.std.proofs.Common.{ℕ, Bool, true, false, cond, List, [], ◌∷◌, length, take, drop, Option, Some, None, Result, Ok, Err, refl, sym, take-append-drop}
use Rattle.std.specs.Prelude.{bytes_eq, IfSome}
use Rattle.description_items.specs.declared.component.Component.{Component}
use Rattle.description_items.specs.Tree.{Tree, Trees, Literal, Part, Compound, Optional, First, none, also}
use Rattle.parsing_combinator.specs.Fault.{Fault, literal}
use Rattle.parsing_combinator.specs.ShortName.{HasShortName}
use Rattle.parsing_combinator.specs.Readings.{give}
use Rattle.parsing_combinator.specs.Tame.{Tame, IsTame}
use Rattle.parsing_combinator.proofs.lemmas.Tame.{further, whole_end, then_tame as then_read_tame}
use Rattle.parsing_components.specs.declared.fields.Record.{Record}
use Rattle.parsing_components.specs.Put.{put}
use Rattle.parsing_components.specs.Meaning.{Answer, Meaning, Counted, meaning, literally, then_counted, all_of, or_unchanged, optionally, or_next, first_success, found_or, or_found, first_of}
use Rattle.parsing_components.specs.Reads.{Language, reads, each_reads}

abbrev pub IsTameMeaning : Meaning → Type 0
IsTameMeaning m = (r : Record) (bytes : List ℕ) → Tame bytes (m r bytes)

abbrev AreTame : List Counted → Type 0
AreTame [] = Unit {0}
AreTame (c ∷ cs) = IsTameMeaning (meaning c) × AreTame cs

literal_rest : (b : Bool) (k : ℕ) (bytes : List ℕ) → Tame bytes (cond b (Ok (tt {0}, drop k bytes)) (Err literal))
literal_rest true k bytes = (take k bytes, sym (take-append-drop k bytes))
literal_rest false k bytes = tt

literally_tame : (text : List ℕ) → IsTame (literally text)
unfolding literally
literally_tame text bytes = literal_rest (bytes_eq (take (length text) bytes) text) (length text) bytes

then_tame : (bytes : List ℕ) (a : Answer) (n : ℕ) (next : Counted) → Tame bytes a → IsTameMeaning (meaning next) → Tame bytes (then_counted a n next).0
then_tame bytes (Ok x) n next t others = further bytes x.1 (meaning next x.0 x.1) t (others x.0 x.1)
then_tame bytes (Err f) n next t others = t

all_tame : (cs : List Counted) → AreTame cs → IsTameMeaning (meaning (all_of cs))
unfolding all_of
all_tame [] each r bytes = ([], refl)
all_tame (c ∷ cs) each r bytes = then_tame bytes (meaning c r bytes) (c r bytes).1 (all_of cs) (each.0 r bytes) (all_tame cs each.1)

or_unchanged_tame : (a : Answer) (r : Record) (bytes : List ℕ) → Tame bytes a → Tame bytes (or_unchanged a r bytes)
or_unchanged_tame (Ok x) r bytes t = t
or_unchanged_tame (Err f) r bytes t = ([], refl)

optionally_tame : (c : Counted) → IsTameMeaning (meaning c) → IsTameMeaning (meaning (optionally c))
unfolding optionally
optionally_tame c t r bytes = or_unchanged_tame (meaning c r bytes) r bytes (t r bytes)

or_next_tame : (bytes : List ℕ) (a : Answer) (n : ℕ) (others : Option Answer × ℕ) → Tame bytes a → IfSome others.0 (Tame bytes) → IfSome (or_next a n others).0 (Tame bytes)
or_next_tame bytes (Ok x) n others t found = t
or_next_tame bytes (Err f) n others t found = found

success_tame : (cs : List Counted) → AreTame cs → (r : Record) (bytes : List ℕ) → IfSome (first_success cs r bytes).0 (Tame bytes)
unfolding first_success
success_tame [] each r bytes = tt
success_tame (c ∷ cs) each r bytes = or_next_tame bytes (meaning c r bytes) (c r bytes).1 (first_success cs r bytes) (each.0 r bytes) (success_tame cs each.1 r bytes)

found_or_tame : (bytes : List ℕ) (f : Fault) (found : Option Answer) → HasShortName f → IfSome found (Tame bytes) → Tame bytes (found_or f found)
found_or_tame bytes f None short t = short
found_or_tame bytes f (Some a) short t = t

or_found_tame : (bytes : List ℕ) (a : Answer) (n : ℕ) (others : Option Answer × ℕ) → Tame bytes a → IfSome others.0 (Tame bytes) → Tame bytes (or_found a n others).0
or_found_tame bytes (Ok x) n others t found = t
or_found_tame bytes (Err f) n others t found = found_or_tame bytes f others.0 t found

first_tame : (cs : List Counted) → AreTame cs → IsTameMeaning (meaning (first_of cs))
unfolding first_of
first_tame [] each r bytes = ([], refl)
first_tame (c ∷ cs) each r bytes = or_found_tame bytes (meaning c r bytes) (c r bytes).1 (first_success cs r bytes) (each.0 r bytes) (success_tame cs each.1 r bytes)

-- the components of a language are tame
abbrev pub IsTameLanguage : Language → Type 0
IsTameLanguage language = (c : Component) → IsTame (language c)

mutual
  unfolding reads each_reads

  pub tree_tame : (language : Language) → IsTameLanguage language → (t : Tree) → IsTameMeaning (meaning (reads language t))
  tree_tame language h (Literal text) r bytes = then_read_tame bytes (literally text bytes) (λ _ rest. Ok (r, rest)) (literally_tame text bytes) (λ _ rest. whole_end rest)
  tree_tame language h (Part c) r bytes = then_read_tame bytes (language c bytes) (λ said. give (put said r)) (h c bytes) (λ _ rest. whole_end rest)
  tree_tame language h (Compound ts) r bytes = all_tame (each_reads language ts) (trees_tame language h ts) r bytes
  tree_tame language h (Optional format t) r bytes = optionally_tame (reads language t) (tree_tame language h t) r bytes
  tree_tame language h (First ts) r bytes = first_tame (each_reads language ts) (trees_tame language h ts) r bytes

  pub trees_tame : (language : Language) → IsTameLanguage language → (ts : Trees) → AreTame (each_reads language ts)
  trees_tame language h none = tt
  trees_tame language h (also t ts) = (tree_tame language h t, trees_tame language h ts)

-- trees one after the other
pub in_turn_tame : (language : Language) → IsTameLanguage language → (ts : Trees) → IsTameMeaning (meaning (all_of (each_reads language ts)))
in_turn_tame language h ts = all_tame (each_reads language ts) (trees_tame language h ts)
