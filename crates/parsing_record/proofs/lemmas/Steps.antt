-- One item more of a list that is read, whatever the items are: each has a tree.
use Rattle.std.proofs.Common.{◌≡◌, ℕ, suc, ◌+◌, ◌<◌, ◌≤◌, List, length, get_or, drop, map, Option, Some, None, Ok, Err, refl, sym, ap, ◌∙◌, arith, drop-cons}
use Rattle.std.proofs.lemmas.List.{drop_all}
use Rattle.std.specs.Option.{option_map, option_or}
use Rattle.description_items.specs.Tree.{Tree, Trees, also, listed}
use Rattle.parsing_combinator.specs.declared.fault.ParseFromDescription.{ParseFromDescription}
use Rattle.parsing_combinator.specs.Fault.{Fault}
use Rattle.parsing_combinator.specs.FaultOf.{reading_fault}
use Rattle.parsing_components.specs.declared.fields.Record.{Record}
pub use Rattle.parsing_components.proofs.lemmas.Sizes.{from, split}
use Rattle.parsing_components.specs.Meaning.{Answer, Counted, more, then_counted, all_of, first_of, first_success, or_next, or_found, found_or}
use Rattle.parsing_components.specs.Reads.{Language, reads, each_reads, reading, reading_of_all, tried}

pub all_on : {X : Type 0} (l : Language) (t : X → Tree) (xs : List X) (i : ℕ) (x : X) (r next : Record) (bytes rest : List ℕ) → i < length xs → x ≡ get_or xs i x → reading l (t x) r bytes ≡ Ok (next, rest) → all_of (each_reads l (from t xs i)) r bytes ≡ more (tried l (t x) r bytes) (all_of (each_reads l (from t xs (i + 1))) next rest)
unfolding all_of each_reads
all_on l t xs i x r next bytes rest lt e read = rw (split t xs i x lt e, read) refl

pub all_stop : {X : Type 0} (l : Language) (t : X → Tree) (xs : List X) (i : ℕ) (x : X) (r : Record) (bytes : List ℕ) (fault : Fault) → i < length xs → x ≡ get_or xs i x → reading l (t x) r bytes ≡ Err fault → all_of (each_reads l (from t xs i)) r bytes ≡ (Err fault, tried l (t x) r bytes)
unfolding all_of each_reads
all_stop l t xs i x r bytes fault lt e read = rw (split t xs i x lt e, read) refl

pub all_end : {X : Type 0} (l : Language) (t : X → Tree) (xs : List X) (i : ℕ) (r : Record) (bytes : List ℕ) → length xs ≤ i → all_of (each_reads l (from t xs i)) r bytes ≡ (Ok (r, bytes), 0)
unfolding all_of each_reads
all_end l t xs i r bytes le = rw (drop_all i xs le) refl

-- what is still to come, once the first fault is known
abbrev pub still : Option Fault → List Counted → Counted
still None cs r bytes = first_of cs r bytes
still (Some f) cs r bytes = (found_or f (first_success cs r bytes).0, (first_success cs r bytes).1)

abbrev pub first_fault : Option Fault → Fault → Fault
first_fault None f = f
first_fault (Some g) f = g

pub still_refused : {X : Type 0} (l : Language) (t : X → Tree) (xs : List X) (i : ℕ) (x : X) (r : Record) (bytes : List ℕ) (so_far : Option Fault) (fault : Fault) → i < length xs → x ≡ get_or xs i x → reading l (t x) r bytes ≡ Err fault → still so_far (each_reads l (from t xs i)) r bytes ≡ more (tried l (t x) r bytes) (still (Some (first_fault so_far fault)) (each_reads l (from t xs (i + 1))) r bytes)
unfolding first_of first_success each_reads
still_refused l t xs i x r bytes None fault lt e read = rw (split t xs i x lt e, read) refl
still_refused l t xs i x r bytes (Some g) fault lt e read = rw (split t xs i x lt e, read) refl

pub still_read : {X : Type 0} (l : Language) (t : X → Tree) (xs : List X) (i : ℕ) (x : X) (r : Record) (bytes : List ℕ) (so_far : Option Fault) (found : Record × List ℕ) → i < length xs → x ≡ get_or xs i x → reading l (t x) r bytes ≡ Ok found → still so_far (each_reads l (from t xs i)) r bytes ≡ (Ok found, tried l (t x) r bytes)
unfolding first_of first_success each_reads
still_read l t xs i x r bytes None found lt e read = rw (split t xs i x lt e, read) refl
still_read l t xs i x r bytes (Some g) found lt e read = rw (split t xs i x lt e, read) refl

pub still_none : {X : Type 0} (l : Language) (t : X → Tree) (xs : List X) (i : ℕ) (r : Record) (bytes : List ℕ) (fault : Option ParseFromDescription) → length xs ≤ i → fault ≡ None → still (option_map reading_fault fault) (each_reads l (from t xs i)) r bytes ≡ (Ok (r, bytes), 0)
unfolding first_of each_reads
still_none l t xs i r bytes fault le e = rw (e, drop_all i xs le) refl

pub still_some : {X : Type 0} (l : Language) (t : X → Tree) (xs : List X) (i : ℕ) (r : Record) (bytes : List ℕ) (fault : Option ParseFromDescription) (refused : ParseFromDescription) → length xs ≤ i → fault ≡ Some refused → still (option_map reading_fault fault) (each_reads l (from t xs i)) r bytes ≡ (Err (reading_fault refused), 0)
unfolding first_success each_reads
still_some l t xs i r bytes fault refused le e = rw (e, drop_all i xs le) refl

-- the fault that is kept
pub kept_first : (so_far : Option ParseFromDescription) (refused : ParseFromDescription) → option_map reading_fault (option_or so_far (Some refused)) ≡ Some (first_fault (option_map reading_fault so_far) (reading_fault refused))
kept_first None refused = refl
kept_first (Some g) refused = refl

-- ---- the answer alone

pub goes_on : {X : Type 0} (l : Language) (t : X → Tree) (xs : List X) (i : ℕ) (x : X) (r next : Record) (bytes rest : List ℕ) (total : Answer) → i < length xs → x ≡ get_or xs i x → reading l (t x) r bytes ≡ Ok (next, rest) → total ≡ reading_of_all l (from t xs i) r bytes → total ≡ reading_of_all l (from t xs (i + 1)) next rest
goes_on l t xs i x r next bytes rest total lt e read so_far = so_far ∙ ap (λ y. y.0) (all_on l t xs i x r next bytes rest lt e read)

pub stops : {X : Type 0} (l : Language) (t : X → Tree) (xs : List X) (i : ℕ) (x : X) (r : Record) (bytes : List ℕ) (fault : Fault) (total : Answer) → i < length xs → x ≡ get_or xs i x → reading l (t x) r bytes ≡ Err fault → total ≡ reading_of_all l (from t xs i) r bytes → total ≡ Err fault
stops l t xs i x r bytes fault total lt e read so_far = so_far ∙ ap (λ y. y.0) (all_stop l t xs i x r bytes fault lt e read)

pub ends : {X : Type 0} (l : Language) (t : X → Tree) (xs : List X) (i : ℕ) (r : Record) (bytes : List ℕ) (total : Answer) → length xs ≤ i → total ≡ reading_of_all l (from t xs i) r bytes → total ≡ Ok (r, bytes)
ends l t xs i r bytes total le so_far = so_far ∙ ap (λ y. y.0) (all_end l t xs i r bytes le)
