use Rattle.description_strftime.proofs.Composites as shown
use Rattle.description_strftime.proofs.laws.composites.Goals as goal

pub returns : goal.returns
returns c = record {
  date_and_time = shown.date_and_time;
  american_date = shown.american_date;
  local_date = shown.local_date;
  iso_date = shown.iso_date;
  time_of_twelve_hours = shown.time_of_twelve_hours;
  hours_and_minutes = shown.hours_and_minutes;
  full_time = shown.full_time;
  local_time = shown.local_time;
}
