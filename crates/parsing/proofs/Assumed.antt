-- Both formats with an assumed offset or none.
use Rattle.std.proofs.Common.{◌≡◌, ℕ, List, Option, Some, None, Result, Ok, Err, sym, ap, ◌∙◌}
use Rattle.std.specs.Result.{result_ok}
use Rattle.datetime_wall.specs.Wall.{Shown}
use Rattle.parsing_iso8601.proofs.Pieces.{same}
use Rattle.parsing_iso8601.specs.Moment.{IsOfOffset}
use Rattle.parsing_combinator.specs.Fault.{Fault}
use Rattle.parsing_components.specs.declared.fields.Record.{Record}
use Rattle.parsing_record.specs.Whole.{whole, names, moment_named, by_roads}
use Rattle.parsing_rfc3339.specs.Direct.{direct}
use Rattle.parsing_parsable.specs.Staged.{reads_rfc3339, reads_iso8601}
use Rattle.parsing_parsable.specs.TwoRoads.{AgreeOn, HoldsAtMostAnOffset}
use Rattle.parsing_parsable.proofs.Assumed.{assumed, as_staged}
use Rattle.parsing_parsable.proofs.Iso8601Road.{from_unread}
use Rattle.parsing.specs.TwoFormats.{IsReadAlike, rounded}
use Rattle.parsing.proofs.Moments.{placed, accepted, not_accepted}
use Rattle.parsing.proofs.RfcPieces.{text_pieces}

pub same_moment : (x y : Result Shown Fault) (m : Shown) → result_ok x ≡ result_ok y → y ≡ Ok m → x ≡ Ok m
same_moment (Ok x) y m alike e = let is : Some x ≡ Some m = alike ∙ ap result_ok e in ap (λ (v : Shown). Ok v) (same x m is)
same_moment (Err f) y m alike e = absurd (let none : None ≡ Some m = alike ∙ ap result_ok e in cc)

-- what is named by a record is named directly
named_directly : (bytes : List ℕ) (defaults : Option Record) (m : Shown) → AgreeOn direct reads_rfc3339 bytes → HoldsAtMostAnOffset defaults → by_roads direct reads_rfc3339 defaults bytes ≡ Ok m → direct bytes ≡ Ok m
named_directly bytes None m agree holds named = named
named_directly bytes (Some r) m agree holds named =
    let a = assumed (Some r) holds in
    same_moment (direct bytes) _ m (agree a.hour a.minute) (sym (as_staged reads_rfc3339 (Some r) a bytes) ∙ named)

-- what the laws of the roads say decides it
pub two_formats : (bytes : List ℕ) → AgreeOn direct reads_rfc3339 bytes
    → ((m : Shown) → IsOfOffset bytes m → (defaults : Option Record) → HoldsAtMostAnOffset defaults → names moment_named (whole reads_iso8601 defaults bytes) ≡ Ok m)
    → (defaults : Option Record) → HoldsAtMostAnOffset defaults → (m : Shown) → by_roads direct reads_rfc3339 defaults bytes ≡ Ok m → IsReadAlike defaults bytes m
two_formats bytes agree one_way defaults holds m named =
    let text = placed bytes m (text_pieces bytes m (named_directly bytes defaults m agree holds named)) in
    record {
      named = λ both. one_way (rounded bytes m) (accepted bytes m text both) defaults holds;
      refused = λ neither. from_unread bytes (not_accepted bytes m text neither) defaults;
    }
