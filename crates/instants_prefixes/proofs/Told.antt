-- What a description reads: it changes each record in one way, by the kinds of the components that it reads.
use Rattle.std.proofs.Common.{◌≡◌, ◌∙◌, ◌||◌, inl, inr, ℕ, ℤ, Bool, true, false, List, [], ◌++◌, length, take, drop, Option, None, Result, Ok, Err, refl, sym, ap, take-append-drop}
use Rattle.std.specs.Prelude.{bytes_eq, if◌then◌else◌}
use Rattle.std.proofs.lemmas.Bool.{or_cases, or_parts, or_right}
use Rattle.std.proofs.lemmas.List.{append_assoc}
use Rattle.description_items.specs.declared.component.Component.{Component}
use Rattle.description_items.specs.Modern.{modern}
use Rattle.description_items.specs.Tree.{Tree, Trees, Literal, Part, Compound, Optional, First, none, also, listed}
use Rattle.parsing_combinator.specs.Fault.{Fault, literal}
use Rattle.parsing_combinator.specs.Readings.{then_read, give}
use Rattle.parsing_components.specs.Component.{reads_component, reads_component_v3}
use Rattle.parsing_components.specs.Put.{put}
use Rattle.parsing_components.specs.declared.said.Read.{Read}
use Rattle.parsing_components.specs.declared.said.Read.TheVariants as read
use Rattle.parsing_components.specs.declared.fields.Record.{Record}
use Rattle.parsing_components.specs.Record.{empty}
use Rattle.parsing_components.specs.Meaning.{Answer, meaning, literally, then_counted, all_of, or_unchanged, optionally, or_next, first_success, found_or, or_found, first_of}
use Rattle.parsing_components.specs.Reads.{Language, reads, each_reads, reading, reading_of_all}
use Rattle.instants_prefixes.specs.Has.{has, any_has}
use Rattle.instants_prefixes.specs.Kinds.{is_newer, is_saying}
use Rattle.instants_prefixes.specs.declared.kind.Kind.{Kind}
use Rattle.instants_prefixes.specs.declared.kind.Kind.TheVariants as kind
use Rattle.instants_prefixes.specs.Reading.{written_has}
use Rattle.instants_sources.specs.Grammar.{Written, Items, V3}
use Rattle.instants_sources.specs.Written.{reads_written}
use Rattle.instants_prefixes.proofs.Le.{Le, none_le, le_refl, le_trans, left_le, right_le, or_le}
use Rattle.instants_prefixes.proofs.Marked.{HasMark, mark_before, mark_after}
use Rattle.instants_prefixes.proofs.MarkedParts.{Tells, component_tells, component_tells_v3}
use Rattle.instants_prefixes.proofs.Says.{IsOf, holds, nothing_held, put_holds}
use Rattle.std.specs.Prelude.{IfOk}
use Rattle.std.proofs.Math.Bool.{or-false}

-- ---- changes

-- a record with the hour and the minute of an offset
abbrev pub placed : Option ℤ → Option ℤ → Record → Record
placed hour minute r = record r { offset_hour = hour; offset_minute = minute }

-- a reading that takes these bytes changes each record so; it says something or not, and parts of these kinds
pub record Changes (says : Bool) (kinds : Kind → Bool) (f : Record → Record) (taken : List ℕ) : Type 0 where
  -- what is said is there then, and all that was there
  pub adds : (k : Kind) (r : Record) → holds (f r) k ≡ (kinds k || holds r k)
  -- without a part of an offset it may come before one or after it
  pub moves : kinds kind.OffsetPart ≡ false → (hour minute : Option ℤ) (r : Record) → f (placed hour minute r) ≡ placed hour minute (f r)
  pub mark : says ≡ true → HasMark taken
  pub same : says ≡ false → (r : Record) → f r ≡ r

unchanged : (taken : List ℕ) → Changes false (λ k. false) (λ r. r) taken
unchanged taken = record { adds = λ k r. refl; moves = λ e hour minute r. refl; mark = λ e. absurd cc; same = λ e r. refl }

turned : (a b c : Bool) → (b || (a || c)) ≡ ((a || b) || c)
turned true b c = or_right b true refl
turned false b c = refl

both : (a b : Bool) (one other : Kind → Bool) (f g : Record → Record) (first second : List ℕ)
    → Changes a one f first → Changes b other g second → Changes (a || b) (λ k. one k || other k) (λ r. g (f r)) (first ++ second)
both a b one other f g first second h j = record {
  adds = λ k r. j.adds k (f r) ∙ ap (λ x. other k || x) (h.adds k r) ∙ turned (one k) (other k) (holds r k);
  moves = λ e hour minute r. let parts = or_parts _ _ e in ap g (h.moves parts.0 hour minute r) ∙ j.moves parts.1 hour minute (f r);
  mark = λ e. elim (or_cases a b e) [ inl x ↦ mark_before first second (h.mark x) | inr y ↦ mark_after first second (j.mark y) ];
  same = λ e r. let parts = or_parts a b e in ap g (h.same parts.0 r) ∙ j.same parts.1 r;
}

moves : (said : Read) → holds (put said empty) kind.OffsetPart ≡ false
    → (hour minute : Option ℤ) (r : Record) → put said (placed hour minute r) ≡ placed hour minute (put said r)
moves (read.OffsetHour h n) e hour minute r = absurd cc
moves (read.OffsetMinute n) e hour minute r = absurd cc
moves said e hour minute r = refl

-- in a record without any field nothing else is there
pub said_alone : (says : Bool) (kinds : Kind → Bool) (f : Record → Record) (taken : List ℕ)
    → Changes says kinds f taken → (k : Kind) → holds (f empty) k ≡ kinds k
said_alone says kinds f taken h k = h.adds k empty ∙ ap (λ x. kinds k || x) (nothing_held k) ∙ or-false (kinds k)

-- ---- what may be said

-- whether something may be said, and what of each kind may be and always is
pub record Span : Type 0 where
  pub saying : Bool
  pub may : Kind → Bool
  pub always : Kind → Bool

-- one after the other, and one or the other
abbrev joint : Span → Span → Span
joint one other = record { saying = one.saying || other.saying; may = λ k. one.may k || other.may k; always = λ k. one.always k || other.always k }

abbrev loose : Span → Span
loose span = record { saying = span.saying; may = span.may; always = λ k. false }

abbrev Within : Bool → (Kind → Bool) → Span → Type 0
Within says kinds span = Le says span.saying × ((k : Kind) → Le (kinds k) (span.may k) × Le (span.always k) (kinds k))

-- each record is refused, or is changed in one way and leaves one rest
pub data Told (answer : Record → Answer) (bytes : List ℕ) (span : Span) : Type 0 where
  Reads : (says : Bool) (kinds : Kind → Bool) (f : Record → Record) (taken rest : List ℕ) → Changes says kinds f taken
      → Within says kinds span → bytes ≡ taken ++ rest → ((r : Record) → answer r ≡ Ok (f r, rest)) → Told answer bytes span
  Refuses : (fault : Fault) → ((r : Record) → answer r ≡ Err fault) → Told answer bytes span

abbrev silent : Span
silent = record { saying = false; may = λ k. false; always = λ k. false }

unchanged_told : (span : Span) (bytes : List ℕ) → Told (λ r. Ok (r, bytes)) bytes (loose span)
unchanged_told span bytes = Reads false (λ k. false) (λ r. r) [] bytes (unchanged []) (none_le, λ k. (none_le, le_refl)) refl (λ r. refl)

text_told : (b : Bool) (n : ℕ) (bytes : List ℕ)
    → Told (λ r. then_read (if b then Ok (tt {0}, drop n bytes) else Err literal) (λ _ rest. Ok (r, rest))) bytes silent
text_told true n bytes =
    Reads false (λ k. false) (λ r. r) (take n bytes) (drop n bytes) (unchanged (take n bytes)) (le_refl, λ k. (le_refl, le_refl)) (sym (take-append-drop n bytes)) (λ r. refl)
text_told false n bytes = Refuses literal (λ r. refl)

part_told : (says : Bool) (kinds : Kind → Bool) (bytes : List ℕ) (x : Result (Read × List ℕ) Fault) → IfOk x (Tells says kinds bytes) → Told (λ r. then_read x (λ said. give (put said r))) bytes (record { saying = says; may = kinds; always = kinds })
part_told says kinds bytes (Err f) tells = Refuses f (λ r. refl)
part_told says kinds bytes (Ok (said, rest)) tells =
    Reads says kinds (put said) tells.taken rest
    (record { adds = λ k r. put_holds said k r ∙ ap (λ b. b || holds r k) (tells.of k); moves = λ e. moves said (tells.of kind.OffsetPart ∙ e); mark = tells.mark; same = λ e r. ap (λ x. put x r) (tells.nothing e) })
    (le_refl, λ k. (le_refl, le_refl)) tells.is (λ r. refl)

-- ---- one after the other

after : (one other : Record → Answer) (bytes between : List ℕ) (span more : Span) (a : Bool) (kinds : Kind → Bool) (f : Record → Record) (taken : List ℕ) → Changes a kinds f taken → Within a kinds span → bytes ≡ taken ++ between → Told other between more → ((r : Record) → one r ≡ other (f r)) → Told one bytes (joint span more)
after one other bytes between span more a kinds f taken h within is (Reads b others g next rest j further ends gives) so =
    Reads (a || b) (λ k. kinds k || others k) (λ r. g (f r)) (taken ++ next) rest (both a b kinds others f g taken next h j) (or_le within.0 further.0, λ k. (or_le (within.1 k).0 (further.1 k).0, or_le (within.1 k).1 (further.1 k).1))
    (is ∙ ap (λ xs. taken ++ xs) ends ∙ sym (append_assoc taken next rest)) (λ r. so r ∙ gives (f r))
after one other bytes between span more a kinds f taken h within is (Refuses fault refuses) so = Refuses fault (λ r. so r ∙ refuses (f r))

then_told : (first : Record → Answer) (bytes : List ℕ) (span more : Span) (join : Record → Answer → Answer) (other : Record → List ℕ → Answer) → Told first bytes span → ((rest : List ℕ) → Told (λ r. other r rest) rest more) → ((r : Record) (x : Record × List ℕ) → join r (Ok x) ≡ other x.0 x.1) → ((r : Record) (f : Fault) → join r (Err f) ≡ Err f) → Told (λ r. join r (first r)) bytes (joint span more)
then_told first bytes span more join other (Reads a kinds f taken rest h within is gives) others here there =
    after (λ r. join r (first r)) (λ r. other r rest) bytes rest span more a kinds f taken h within is (others rest) (λ r. ap (join r) (gives r) ∙ here r (f r, rest))
then_told first bytes span more join other (Refuses fault refuses) others here there = Refuses fault (λ r. ap (join r) (refuses r) ∙ there r fault)

-- ---- the one or, where it is refused, the other

abbrev Under : Span → Span → Type 0
Under span most = Le span.saying most.saying × ((k : Kind) → Le (span.may k) (most.may k))

wider : (one other : Record → Answer) (bytes : List ℕ) (span most : Span)
    → Under span most → Told other bytes span → ((r : Record) → one r ≡ other r) → Told one bytes (loose most)
wider one other bytes span most under (Reads a kinds f taken rest h within is gives) so =
    Reads a kinds f taken rest h (le_trans within.0 under.0, λ k. (le_trans (within.1 k).0 (under.1 k), none_le)) is (λ r. so r ∙ gives r)
wider one other bytes span most under (Refuses fault refuses) so = Refuses fault (λ r. so r ∙ refuses r)

either_told : (first : Record → Answer) (bytes : List ℕ) (span more most : Span) (join : Record → Answer → Answer) (other : Fault → Record → Answer) → Under span most → Under more most → Told first bytes span → ((fault : Fault) → Told (other fault) bytes more) → ((r : Record) (x : Record × List ℕ) → join r (Ok x) ≡ Ok x) → ((r : Record) (f : Fault) → join r (Err f) ≡ other f r) → Told (λ r. join r (first r)) bytes (loose most)
either_told first bytes span more most join other left right (Reads a kinds f taken rest h within is gives) others here there =
    Reads a kinds f taken rest h (le_trans within.0 left.0, λ k. (le_trans (within.1 k).0 (left.1 k), none_le)) is (λ r. ap (join r) (gives r) ∙ here r (f r, rest))
either_told first bytes span more most join other left right (Refuses fault refuses) others here there =
    wider (λ r. join r (first r)) (other fault) bytes more most right (others fault) (λ r. ap (join r) (refuses r) ∙ there r fault)

-- ---- trees

abbrev is_so : Kind → Component → Bool
is_so k c = is_newer (modern c) k

abbrev pub span_of : Tree → Span
span_of t = record { saying = has true is_saying t; may = λ k. has true (is_so k) t; always = λ k. has false (is_so k) t }

abbrev pub span_of_all : Trees → Span
span_of_all ts = record { saying = any_has true is_saying ts; may = λ k. any_has true (is_so k) ts; always = λ k. any_has false (is_so k) ts }

this_first : (t : Tree) (ts : Trees) → Under (span_of t) (span_of_all (also t ts))
this_first t ts = (left_le _ _, λ k. left_le _ _)

these_after : (t : Tree) (ts : Trees) → Under (span_of_all ts) (span_of_all (also t ts))
these_after t ts = (right_le _ _, λ k. right_le _ _)

module _ (language : Language) (tells : (c : Component) (bytes : List ℕ) → IfOk (language c bytes) (Tells (is_saying c) (is_newer (modern c)) bytes)) where
  mutual
    unfolding reads each_reads all_of first_of first_success optionally literally

    pub tree_told : (t : Tree) (bytes : List ℕ) → Told (λ r. reading language t r bytes) bytes (span_of t)
    tree_told (Literal text) bytes = text_told (bytes_eq (take (length text) bytes) text) (length text) bytes
    tree_told (Part c) bytes = part_told (is_saying c) (is_newer (modern c)) bytes (language c bytes) (tells c bytes)
    tree_told (Compound ts) bytes = trees_told ts bytes
    tree_told (Optional format t) bytes =
        either_told (λ r. reading language t r bytes) bytes (span_of t) (loose (span_of t)) (span_of t) (λ r a. or_unchanged a r bytes) (λ f r. Ok (r, bytes)) (le_refl, λ k. le_refl) (le_refl, λ k. le_refl) (tree_told t bytes) (λ f. unchanged_told (span_of t) bytes) (λ r x. refl) (λ r f. refl)
    tree_told (First ts) bytes = first_told ts bytes

    pub trees_told : (ts : Trees) (bytes : List ℕ) → Told (λ r. reading_of_all language ts r bytes) bytes (span_of_all ts)
    trees_told none bytes = unchanged_told silent bytes
    trees_told (also t ts) bytes =
        then_told (λ r. reading language t r bytes) bytes (span_of t) (span_of_all ts) (λ r a. (then_counted a (reads language t r bytes).1 (all_of (each_reads language ts))).0) (reading_of_all language ts) (tree_told t bytes) (trees_told ts) (λ r x. refl) (λ r f. refl)

    first_told : (ts : Trees) (bytes : List ℕ) → Told (λ r. meaning (first_of (each_reads language ts)) r bytes) bytes (loose (span_of_all ts))
    first_told none bytes = unchanged_told silent bytes
    first_told (also t ts) bytes =
        either_told (λ r. reading language t r bytes) bytes (span_of t) (loose (span_of_all ts)) (span_of_all (also t ts)) (λ r a. (or_found a (reads language t r bytes).1 (first_success (each_reads language ts) r bytes)).0) (λ f r. found_or f (first_success (each_reads language ts) r bytes).0) (this_first t ts) (these_after t ts) (tree_told t bytes) (success_told ts bytes) (λ r x. refl) (λ r f. refl)

    -- the first that reads, or a fault
    success_told : (ts : Trees) (bytes : List ℕ) (fault : Fault)
        → Told (λ r. found_or fault (first_success (each_reads language ts) r bytes).0) bytes (loose (span_of_all ts))
    success_told none bytes fault = Refuses fault (λ r. refl)
    success_told (also t ts) bytes fault =
        either_told (λ r. reading language t r bytes) bytes (span_of t) (loose (span_of_all ts)) (span_of_all (also t ts)) (λ r a. found_or fault (or_next a (reads language t r bytes).1 (first_success (each_reads language ts) r bytes)).0) (λ f r. found_or fault (first_success (each_reads language ts) r bytes).0) (this_first t ts) (these_after t ts) (tree_told t bytes) (λ f. success_told ts bytes fault) (λ r x. refl) (λ r f. refl)

abbrev pub span_written : Written → Span
span_written written = record { saying = written_has true is_saying written; may = λ k. written_has true (is_so k) written; always = λ k. written_has false (is_so k) written }

pub described_told : (written : Written) (text : List ℕ) → Told (λ r. reads_written written r text) text (span_written written)
described_told (Items items) text = trees_told reads_component component_tells (listed items) text
described_told (V3 tree) text = tree_told reads_component_v3 component_tells_v3 tree text
