-- What a description reads holds the kinds of parts that always stand in it, and no others than may stand there.
use Rattle.std.proofs.Common.{◌≡◌, ◌||◌, not, ℕ, ℤ, Bool, true, false, List, Option, Some, None, Result, Ok, Err, refl, sym, ap, ◌∙◌, arith}
use Rattle.std.specs.Prelude.{is_some}
use Rattle.std.specs.Option.{is_none}
use Rattle.std.proofs.Math.Bool.{or-false}
use Rattle.std.proofs.lemmas.Bool.{or_parts, or_right}
use Rattle.description_items.specs.Modern.{modern}
use Rattle.parsing_combinator.specs.Fault.{Fault}
use Rattle.parsing_combinator.specs.Readings.{then_read, give}
use Rattle.parsing_components.specs.Put.{put}
use Rattle.parsing_components.specs.declared.said.Read.{Read}
use Rattle.parsing_components.specs.declared.said.Read.TheVariants as read
use Rattle.parsing_components.specs.declared.fields.Record.{Record}
use Rattle.parsing_record.specs.Meaning.{Answer}
use Rattle.parsing_record.specs.Record.{empty}
use Rattle.parsing_iso8601.specs.Reading as iso8601
use Rattle.parsing_iso8601.specs.declared.written.Iso8601Parts.{Iso8601Parts}
use Rattle.parsing_rfc2822.specs.Reading as rfc2822
use Rattle.parsing_rfc3339.specs.Reading as rfc3339
use Rattle.parsing_parsable.specs.Put.{put_rfc3339, put_rfc2822, put_iso8601}
use Rattle.parsing_parsable.specs.Staged.{reads_rfc3339, reads_rfc2822, reads_iso8601}
use Rattle.instants_sources.specs.Grammar.{Grammar, Described, Rfc2822, Rfc3339, Iso8601, Written}
use Rattle.instants_sources.specs.Reading.{reading_of}
use Rattle.instants_sources.specs.Written.{reads_written}
use Rattle.instants_prefixes.specs.Kinds.{is_newer}
use Rattle.instants_prefixes.specs.Given.{lacks_offset}
use Rattle.instants_prefixes.specs.Reading.{is_local, written_has, stands_in, record_of, record_at, text_for}
use Rattle.instants_prefixes.specs.declared.kind.Kind.{Kind}
use Rattle.instants_prefixes.specs.declared.kind.Kind.TheVariants as kind
use Rattle.instants_prefixes.proofs.Le.{Le, le_false}
use Rattle.instants_prefixes.proofs.Says.{holds, nothing_held}
use Rattle.instants_prefixes.proofs.Told.{Changes, Reads, Refuses, Span, Told, described_told, placed, said_alone, span_written}

-- ---- what is held

-- what a description says of each record that it reads
pub record Holds (written : Written) (r : Record) : Type 0 where
  pub may : (k : Kind) → Le (holds r k) (written_has true (λ c. is_newer (modern c) k) written)
  pub always : (k : Kind) → Le (written_has false (λ c. is_newer (modern c) k) written) (holds r k)

held_by : (answer : Record → Answer) (bytes : List ℕ) (span : Span) (read : Record × List ℕ) → Told answer bytes span → answer empty ≡ Ok read → (k : Kind) → Le (holds read.0 k) (span.may k) × Le (span.always k) (holds read.0 k)
held_by answer bytes span read (Reads says kinds f taken rest h within is reads) e k =
    let same : ◌≡◌ {A = Record × List ℕ} read (f empty, rest) = cc (reads empty) in
    let held : holds read.0 k ≡ kinds k = ap (λ (x : Record × List ℕ). holds x.0 k) same ∙ said_alone says kinds f taken h k in
    let between = within.1 k in
    rw held between
held_by answer bytes span read (Refuses fault refuses) e k = let refused = refuses empty in absurd cc

pub read_holds : (written : Written) (text : List ℕ) (read : Record × List ℕ) → reads_written written empty text ≡ Ok read → Holds written read.0
read_holds written text read e =
    let held = held_by (λ r. reads_written written r text) text (span_written written) read (described_told written text) e in
    record { may = λ k. (held k).0; always = λ k. (held k).1 }

-- what stands nowhere in a description is not there
unheld : (written : Written) (text : List ℕ) (k : Kind) (a : Answer) → written_has true (λ c. is_newer (modern c) k) written ≡ false → reads_written written empty text ≡ a → holds (record_of a) k ≡ false
unheld written text k (Ok read) free e = le_false ((read_holds written text read e).may k) free
unheld written text k (Err f) free e = nothing_held k

-- ---- an offset in the record from the start

-- what is read with it is what is read without it, and it
pub record IsPlaced (answer : Record → Answer) (hour minute : Option ℤ) (set : Record) (rest : List ℕ) : Type 0 where
  pub plain : Record
  pub reads : answer empty ≡ Ok (plain, rest)
  pub is : set ≡ placed hour minute plain
  pub none : plain.offset_hour ≡ None

-- no part of an offset was read
abbrev pub SaysNoOffset : Answer → Type 0
SaysNoOffset answer = holds (record_of answer) kind.OffsetPart ≡ false

pub of_told : (answer : Record → Answer) (bytes : List ℕ) (span : Span) (hour minute : Option ℤ) (set : Record) (rest : List ℕ) → Told answer bytes span → SaysNoOffset (answer empty) → answer (placed hour minute empty) ≡ Ok (set, rest) → IsPlaced answer hour minute set rest
of_told answer bytes span hour minute set rest (Reads says kinds f taken left h within is reads) none e =
    let said : kinds kind.OffsetPart ≡ false = sym (said_alone says kinds f taken h kind.OffsetPart) ∙ ap (λ (a : Answer). holds (record_of a) kind.OffsetPart) (sym (reads empty)) ∙ none in
    let moved = h.moves said in
    let same : ◌≡◌ {A = Record × List ℕ} (f (placed hour minute empty), left) (set, rest) = cc (reads (placed hour minute empty)) in
    record {
      plain = f empty;
      reads = reads empty ∙ ap (λ (x : Record × List ℕ). Ok (f empty, x.1)) same;
      is = sym (ap (λ (x : Record × List ℕ). x.0) same) ∙ moved hour minute empty;
      none = ap (λ (x : Record). x.offset_hour) (moved None None empty);
    }
of_told answer bytes span hour minute set rest (Refuses fault refuses) none e = let refused = refuses (placed hour minute empty) in absurd cc

pub read_placed : (written : Written) (hour minute : Option ℤ) (text rest : List ℕ) (set : Record) → SaysNoOffset (reads_written written empty text) → reads_written written (placed hour minute empty) text ≡ Ok (set, rest) → IsPlaced (λ r. reads_written written r text) hour minute set rest
read_placed written hour minute text rest set none e = of_told (λ r. reads_written written r text) text (span_written written) hour minute set rest (described_told written text) none e

pub none_said_by : (written : Written) (text : List ℕ) → written_has true (λ c. is_newer (modern c) kind.OffsetPart) written ≡ false → SaysNoOffset (reads_written written empty text)
none_said_by written text free = unheld written text kind.OffsetPart (reads_written written empty text) free refl

-- ---- Unix time

pub none_of : {A : Type 0} (o : Option A) → is_some o ≡ false → o ≡ None
none_of None e = refl
none_of (Some x) e = absurd cc

iso_timeless : (w : Iso8601Parts) → (put_iso8601 w empty).unix_timestamp_nanos ≡ None
iso_timeless w = grind arith

put_timeless : {W : Type 0} (put : W → Record → Record) (x : Result (W × List ℕ) Fault) → ((w : W) → (put w empty).unix_timestamp_nanos ≡ None) → (record_of (then_read x (λ w. give (put w empty)))).unix_timestamp_nanos ≡ None
put_timeless put (Ok y) h = h y.0
put_timeless put (Err f) h = refl

-- a source without numbers of Unix time reads none
pub timeless : (grammar : Grammar) → stands_in (λ c. is_newer (modern c) kind.UnixTime) grammar ≡ false → (text : List ℕ) → (record_of (reading_of grammar empty text)).unix_timestamp_nanos ≡ None
unfolding reads_rfc3339 reads_rfc2822 reads_iso8601
timeless (Described written) free text = none_of _ (unheld written text kind.UnixTime (reads_written written empty text) free refl)
timeless Rfc2822 free text = put_timeless put_rfc2822 (rfc2822.rfc2822 true text) (λ w. refl)
timeless Rfc3339 free text = put_timeless put_rfc3339 (rfc3339.rfc3339 true text) (λ w. refl)
timeless Iso8601 free text = put_timeless put_iso8601 (iso8601.iso8601 text) iso_timeless

pub timeless_at : (grammar : Grammar) → stands_in (λ c. is_newer (modern c) kind.UnixTime) grammar ≡ false → (bytes : List ℕ) → (record_at grammar bytes).unix_timestamp_nanos ≡ None
unfolding record_at
timeless_at grammar free bytes = timeless grammar free (text_for grammar bytes)

-- ---- no offset

none_said : {A B C : Type 0} (hour : Option A) (minute : Option B) (second : Option C) → (is_some hour || is_some minute || is_some second) ≡ false → is_none hour ≡ true
none_said None minute second e = refl
none_said (Some h) minute second e = absurd cc

local_of : (r : Record) → holds r kind.OffsetPart ≡ false → lacks_offset r ≡ true
local_of r e = none_said r.offset_hour r.offset_minute r.offset_second e

neither : (a b : Bool) → not (a || b) ≡ true → (a ≡ false) × (b ≡ false)
neither false false e = (refl, refl)
neither false true e = absurd cc
neither true b e = absurd cc

-- a description without a part of an offset reads no hour of one
pub local_at : (grammar : Grammar) → is_local grammar ≡ true → (bytes : List ℕ) → lacks_offset (record_at grammar bytes) ≡ true
unfolding record_at
local_at (Described written) local bytes = local_of (record_of (reads_written written empty (text_for (Described written) bytes))) (none_said_by written (text_for (Described written) bytes) (neither _ _ local).0)
local_at Rfc2822 local bytes = absurd cc
local_at Rfc3339 local bytes = absurd cc
local_at Iso8601 local bytes = absurd cc

pub local_timeless_at : (grammar : Grammar) → is_local grammar ≡ true → (bytes : List ℕ) → (record_at grammar bytes).unix_timestamp_nanos ≡ None
local_timeless_at (Described written) local bytes = timeless_at (Described written) (neither _ _ local).1 bytes
local_timeless_at Rfc2822 local bytes = absurd cc
local_timeless_at Rfc3339 local bytes = absurd cc
local_timeless_at Iso8601 local bytes = absurd cc
