-- What the items of a description mean: a record and bytes to a record and the rest, or a fault, and how many items were tried. The ways to combine meanings.
use Rattle.std.specs.Prelude.{◌≡◌, ℕ, ◌+◌, List, [], ◌∷◌, length, take, drop, Option, Some, None, Result, Ok, Err, bytes_eq, if◌then◌else◌}
use Rattle.std.specs.Borrow.{Bor}
use Rattle.parsing_combinator.specs.Fault.{Fault, literal}
use Rattle.parsing_combinator.specs.FaultOf.{reading_fault}
use Rattle.parsing_combinator.specs.Readings.{Reading, then_read}
use Rattle.parsing_combinator.specs.declared.fault.ParseFromDescription.{ParseFromDescription}
use Rattle.parsing_components.specs.declared.fields.Record.{Record}
pub use Rattle.parsing_components.specs.Put.{Answer, Meaning, Reads}

-- the same, with the number of items that were begun
abbrev pub Counted : Type 0
Counted = Record → List ℕ → Answer × ℕ

-- the meaning alone
abbrev pub meaning : Counted → Meaning
meaning c r bytes = (c r bytes).0

-- one item by itself
abbrev pub alone : Meaning → Counted
alone m r bytes = (m r bytes, 1)

-- so many items more
abbrev pub more : ℕ → Answer × ℕ → Answer × ℕ
more n x = (x.0, n + x.1)

-- these bytes, which set nothing
unfoldable pub literally : List ℕ → Reading (Unit {0})
literally text bytes = if bytes_eq (take (length text) bytes) text then Ok (tt, drop (length text) bytes) else Err literal

abbrev pub unchanged : Reading (Unit {0}) → Meaning
unchanged reading r bytes = then_read (reading bytes) (λ _ rest. Ok (r, rest))

-- after what was read the next one; a refusal is that of all
abbrev pub then_counted : Answer → ℕ → Counted → Answer × ℕ
then_counted (Ok x) n next = more n (next x.0 x.1)
then_counted (Err f) n next = (Err f, n)

-- each from the rest and record of the one before; one refusal refuses the whole
unfoldable pub all_of : List Counted → Counted
all_of [] r bytes = (Ok (r, bytes), 0)
all_of (c ∷ cs) r bytes = then_counted (c r bytes).0 (c r bytes).1 (all_of cs)

-- what was read, and else as it was
abbrev pub or_unchanged : Answer → Record → List ℕ → Answer
or_unchanged (Ok x) r bytes = Ok x
or_unchanged (Err f) r bytes = Ok (r, bytes)

unfoldable pub optionally : Counted → Counted
optionally c r bytes = (or_unchanged (c r bytes).0 r bytes, (c r bytes).1)

-- what was read, or what another reads
abbrev pub or_next : Answer → ℕ → Option Answer × ℕ → Option Answer × ℕ
or_next (Ok x) n others = (Some (Ok x), n)
or_next (Err f) n others = (others.0, n + others.1)

-- the first that reads, each from the same record and bytes, if there is one
unfoldable pub first_success : List Counted → Record → List ℕ → Option Answer × ℕ
first_success [] r bytes = (None, 0)
first_success (c ∷ cs) r bytes = or_next (c r bytes).0 (c r bytes).1 (first_success cs r bytes)

abbrev pub found_or : Fault → Option Answer → Answer
found_or f None = Err f
found_or f (Some x) = x

abbrev pub or_found : Answer → ℕ → Option Answer × ℕ → Answer × ℕ
or_found (Ok x) n others = (Ok x, n)
or_found (Err f) n others = (found_or f others.0, n + others.1)

-- the first that reads, else the fault of the first; where there is none, as they were
unfoldable pub first_of : List Counted → Counted
first_of [] r bytes = (Ok (r, bytes), 0)
first_of (c ∷ cs) r bytes = or_found (c r bytes).0 (c r bytes).1 (first_success cs r bytes)

-- ---- what a call answered

-- the rest and the record after it, or the fault, whatever the record is then
abbrev pub Answers : Result (Bor (List ℕ)) ParseFromDescription → Record → Answer → Type 0
Answers (Ok rest) new read = read ≡ Ok (new, rest.now)
Answers (Err e) new read = read ≡ Err (reading_fault e)
