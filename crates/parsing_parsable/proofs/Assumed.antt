-- What is read with an assumed offset or none is read from a record that holds no more than an offset.
use Rattle.std.proofs.Common.{◌≡◌, ℕ, List, Option, Some, None, Ok, refl, ap, ◌∙◌, ℤ}
use Rattle.datetime_wall.specs.Wall.{Shown}
use Rattle.parsing_iso8601.specs.Moment.{IsOfOffset}
use Rattle.parsing_record.specs.Meaning.{Meaning}
use Rattle.parsing_components.specs.declared.fields.Record.{Record}
use Rattle.parsing_record.specs.Whole.{starting, whole, names, moment_named}
use Rattle.parsing_parsable.specs.Staged.{reads_iso8601}
use Rattle.parsing_parsable.specs.Moment.{staged}
use Rattle.parsing_parsable.specs.TwoRoads.{holding, HoldsAtMostAnOffset}
use Rattle.parsing_parsable.proofs.Iso8601Road.{from_holding}

-- the hour and the minute of the offset that is assumed
pub record Assumed (defaults : Option Record) : Type 0 where
  pub hour : Option ℤ
  pub minute : Option ℤ
  pub is : starting defaults ≡ holding hour minute

pub assumed : (defaults : Option Record) → HoldsAtMostAnOffset defaults → Assumed defaults
assumed None h = record { hour = None; minute = None; is = refl }
assumed (Some r) h = record { hour = r.offset_hour; minute = r.offset_minute; is = h }

pub as_staged : (m : Meaning) (defaults : Option Record) (a : Assumed defaults) (bytes : List ℕ) → names moment_named (whole m defaults bytes) ≡ staged m (holding a.hour a.minute) bytes
unfolding whole
as_staged m defaults a bytes = ap (λ (r : Record). staged m r bytes) a.is

-- the moment of a text with an offset is that of the record which the text sets
pub one_road : (bytes : List ℕ) (m : Shown) → IsOfOffset bytes m → (defaults : Option Record) → HoldsAtMostAnOffset defaults → names moment_named (whole reads_iso8601 defaults bytes) ≡ Ok m
one_road bytes m has_offset defaults holds =
    let a = assumed defaults holds in
    as_staged reads_iso8601 defaults a bytes ∙ from_holding bytes m has_offset a.hour a.minute
