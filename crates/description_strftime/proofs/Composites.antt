-- A composite letter stands for what its expansion spells.
use Rattle.std.proofs.Common.{◌≡◌, ℕ, List, refl, sym, ◌∙◌}
use Rattle.std.specs.Prelude.{codes}
use Rattle.description_lexer.specs.Many.{many}
use Rattle.description_strftime.specs.Letters.{flag_of, day_number, year_number, time_number, unpadded, component_of, text_of, item_of, composite, separator, part_of, letter_items}
use Rattle.description_strftime.specs.Reading.{letter_at, conversion_at, strftime_step, read_strftime}
use Rattle.description_strftime.specs.Composites.{SpellSame}
use Rattle.description_strftime.proofs.Relations.{read_is_spelled, spelled_is_read}

same : (s t : List ℕ) → read_strftime s ≡ read_strftime t → SpellSame s t
same s t e items = (λ h. read_is_spelled t items (sym e ∙ spelled_is_read s items h), λ h. read_is_spelled s items (e ∙ spelled_is_read t items h))

pub date_and_time : SpellSame (codes "%c") (codes "%a %b %e %T %Y")
unfolding read_strftime many strftime_step conversion_at letter_at letter_items item_of component_of day_number year_number time_number unpadded text_of composite separator part_of flag_of
date_and_time = same (codes "%c") (codes "%a %b %e %T %Y") refl

pub american_date : SpellSame (codes "%D") (codes "%m/%d/%y")
unfolding read_strftime many strftime_step conversion_at letter_at letter_items item_of component_of day_number year_number time_number unpadded text_of composite separator part_of flag_of
american_date = same (codes "%D") (codes "%m/%d/%y") refl

pub local_date : SpellSame (codes "%x") (codes "%m/%d/%y")
unfolding read_strftime many strftime_step conversion_at letter_at letter_items item_of component_of day_number year_number time_number unpadded text_of composite separator part_of flag_of
local_date = same (codes "%x") (codes "%m/%d/%y") refl

pub iso_date : SpellSame (codes "%F") (codes "%Y-%m-%d")
unfolding read_strftime many strftime_step conversion_at letter_at letter_items item_of component_of day_number year_number time_number unpadded text_of composite separator part_of flag_of
iso_date = same (codes "%F") (codes "%Y-%m-%d") refl

pub time_of_twelve_hours : SpellSame (codes "%r") (codes "%I:%M:%S %p")
unfolding read_strftime many strftime_step conversion_at letter_at letter_items item_of component_of day_number year_number time_number unpadded text_of composite separator part_of flag_of
time_of_twelve_hours = same (codes "%r") (codes "%I:%M:%S %p") refl

pub hours_and_minutes : SpellSame (codes "%R") (codes "%H:%M")
unfolding read_strftime many strftime_step conversion_at letter_at letter_items item_of component_of day_number year_number time_number unpadded text_of composite separator part_of flag_of
hours_and_minutes = same (codes "%R") (codes "%H:%M") refl

pub full_time : SpellSame (codes "%T") (codes "%H:%M:%S")
unfolding read_strftime many strftime_step conversion_at letter_at letter_items item_of component_of day_number year_number time_number unpadded text_of composite separator part_of flag_of
full_time = same (codes "%T") (codes "%H:%M:%S") refl

pub local_time : SpellSame (codes "%X") (codes "%H:%M:%S")
unfolding read_strftime many strftime_step conversion_at letter_at letter_items item_of component_of day_number year_number time_number unpadded text_of composite separator part_of flag_of
local_time = same (codes "%X") (codes "%H:%M:%S") refl
