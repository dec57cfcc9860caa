-- Devices over lent memory, as callers see them.
use Rattle.std.specs.Prelude.{ℕ, zero, suc, ◌-◌, Bool, ◌&&◌, ◌==◌, nat_lt, min, List, Option, None, Some, Result, Ok, Err, if◌then◌else◌}
use Rattle.instants_stream.specs.declared.devices.DeviceFailed.{DeviceFailed}

-- a reader: the bytes that are left, how many bytes one read gives at most, how many all reads give before one fails, and
-- whether one has failed
pub record CutReading : Type 0 where
  pub left : List ℕ
  pub most : ℕ
  pub until_failure : Option ℕ
  pub has_failed : Bool

-- a writer: the bytes written, how many there is room for, how many bytes one write takes at most, how many all writes take
-- before one fails, whether one has failed, whether there was none since the last flush, and how many flushes succeeded
pub record CutWriting : Type 0 where
  pub held : List ℕ
  pub room : ℕ
  pub most : ℕ
  pub until_failure : Option ℕ
  pub has_failed : Bool
  pub is_flushed : Bool
  pub flushes : ℕ

-- what a call moves of these many bytes: no more than may be moved before a failure, and it fails where none may
abbrev pub moved : ℕ → Option ℕ → Result ℕ DeviceFailed
moved count None = Ok count
moved count (Some zero) = Err (record {})
moved count (Some (suc n)) = Ok (min count (suc n))

-- how many may be moved before a failure, once these many were
abbrev pub left_until_failure : Option ℕ → ℕ → Option ℕ
left_until_failure None count = None
left_until_failure (Some n) count = Some (n - count)

-- what a write takes of these many bytes: what one write takes and there is room for, and it fails also where there is room for none
abbrev pub taken : CutWriting → ℕ → Result ℕ DeviceFailed
taken w count = if nat_lt 0 count && w.room == 0 then Err (record {}) else moved (min (min w.most count) w.room) w.until_failure
