-- What is read of all of the first bytes is the prefix that is read.
use Rattle.std.proofs.Common.{◌≡◌, ℕ, true, List, [], ◌∷◌, length, take, drop, None, Result, Ok, Err, refl, arith}
use Rattle.std.proofs.Math.Seq.{take-length, drop-length}
use Rattle.std.proofs.lemmas.Bool.Decides.{nat_tests}
use Rattle.datetime_wall.specs.Wall.{Shown}
use Rattle.parsing_combinator.specs.Fault.{Fault}
use Rattle.parsing_combinator.specs.Readings.{then_read, give}
use Rattle.parsing_record.specs.Record.{empty}
use Rattle.parsing_record.specs.Whole.{whole, names, moment_named, all_read}
use Rattle.parsing_rfc3339.specs.Direct.{direct}
use Rattle.parsing_rfc3339.specs.Reading.{rfc3339}
use Rattle.parsing_rfc3339.specs.declared.parts.Rfc3339Parts.{Rfc3339Parts}
use Rattle.parsing_rfc3339.proofs.PrefixLemmas.{prefix_read}
use Rattle.parsing_parsable.specs.Put.{put_rfc3339}
use Rattle.parsing_parsable.specs.Staged.{reads_rfc3339}
use Rattle.parsing_record.specs.Prefix.{NamesPrefix}
use Rattle.parsing_parsable.specs.TwoRoads.{AgreeOn}
use Rattle.instants_sources.proofs.Roads.{same_moment}

by_whole : (bytes : List ℕ) (n : ℕ) (moment : Shown) (read : Result (Rfc3339Parts × List ℕ) Fault) → rfc3339 true (take n bytes) ≡ read → names moment_named (all_read (then_read read (λ w. give (put_rfc3339 w empty)))) ≡ Ok moment → NamesPrefix reads_rfc3339 empty bytes (drop n bytes) moment
unfolding reads_rfc3339
by_whole bytes n moment (Ok (w, [])) is e = let read = prefix_read true bytes n w is in record { set = put_rfc3339 w empty; reads = rw read refl; names = e }
by_whole bytes n moment (Ok (w, c ∷ rest)) is e = absurd (grind (arith, nat_tests))
by_whole bytes n moment (Err f) is e = absurd cc

pub named_prefix : (bytes : List ℕ) (n : ℕ) (moment : Shown) → AgreeOn direct reads_rfc3339 (take n bytes) → direct (take n bytes) ≡ Ok moment → NamesPrefix reads_rfc3339 empty bytes (drop n bytes) moment
unfolding whole reads_rfc3339
named_prefix bytes n moment agree is = by_whole bytes n moment (rfc3339 true (take n bytes)) refl (same_moment (direct (take n bytes)) _ moment (agree None None) is)

-- all of it is one
pub named_whole : (bytes : List ℕ) (moment : Shown) → AgreeOn direct reads_rfc3339 bytes → direct bytes ≡ Ok moment → NamesPrefix reads_rfc3339 empty bytes [] moment
named_whole bytes moment agree is =
    let all : take (length bytes) bytes ≡ bytes = take-length bytes in
    let none : drop (length bytes) bytes ≡ [] = drop-length bytes in
    rw none at (named_prefix bytes (length bytes) moment (rw all agree) (rw all is))
