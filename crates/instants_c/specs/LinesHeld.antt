-- What a handle for lines holds.
use Rattle.std.specs.Prelude.{Option, None, Some}
use base.Fml.{Fml, ftrue}
use Rattle.std.specs.Coded.{Coded, coded_option}
use denote.RawPtr.{Ptr}
use Rattle.std.specs.Box.Ownership.{box_owns}
use Rattle.std.specs.contracts.alloc.Global.{the_row as Heap}
use Rattle.std.specs.contracts.impls.GlobalAllocator.TheImpl.{ghosts}
use Rattle.instants_c.specs.contracts.lines_kept.KeptLines.{the_row}

-- the allocator of the C library, which is one value
abbrev heap : Heap.Denot
heap = record { memory = record { seal = tt } }

-- nothing, or what is kept and the right to free it, by the allocator of the C library
abbrev pub held : Ptr → Option the_row.Denot → Fml
held p None = ftrue
held p (Some kept) = box_owns (ghosts.dealloc_token heap) the_row p kept

-- proofs tell such values apart by what the type's row says
abbrev pub kept_coded : Coded (Option the_row.Denot)
kept_coded = coded_option the_row.coded
