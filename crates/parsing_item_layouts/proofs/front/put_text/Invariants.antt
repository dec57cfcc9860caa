use Rattle.std.proofs.Common.{ℕ, ◌-◌, ◌++◌, Bool, List, length, drop}
use Rattle.parsing_item_layouts.proofs.front.put_text.Given as goal

-- the last so many bytes stand before
abbrev pub invariant-loop-place : goal.invariant-loop-place
invariant-loop-place g l = (whole : Bool) (rest : List ℕ) → g.F.Front.fits whole l.fn.front rest → g.F.Front.fits whole l.front (drop (length l.text - l.place) l.text ++ rest)
