-- What proofs of functions of C's memory name, in one place.
pub use Rattle.std.proofs.Common.{◌≡◌, ℕ, List, [], ◌∷◌, ◌++◌, length, refl, sym, ap, subst, w8, Bor, ◌∙◌, Some}
pub use mir.Syntax.{named, impl, tnil, dnil, Fn, Body, place, copy, assign, rv_opd, seq, return, Dict, a_type, dcons}
pub use mir.Val.{Val, vptr, vunit, vstruct, vcons, vnil, has_ty, WT, of_list}
pub use base.Logic.{SProp, ent, emp, never, id⊢, fst∗}
pub use base.Fml.{ftrue, fsep, flft}
pub use prog.Wp.{WpFn, Tables}
pub use types.Logic.{sem, Logic}
pub use types.Kit.{‵, raw, ◌⊛◌, some, later, ◌$◌, ◌∵◌, !, qed, by, move, keep, drop, split, join, fsplit, fjoin, pick, suffices, use0, use1, await, feq_l, feq_i, fpack, at_ret, split3, rewrite, done, fpick}
pub use types.Run.{of_opd, no_more, and_then, returns, enter, addr, stop, fld, hop, from, unit_lit, first, blocks, exec}
pub use types.ByLocal.{alloc_all, pass_all, free_all, look_at, look_in_at, get, get_in, sets, lands_as, through, lands_last, env}
pub use types.Part.{agg, sub, whole}
pub use contract.Monad.{fact, fact_i, Fun}
pub use contract.Running.{tables}
pub use contract.Lifetimes.{Lfts}
pub use denote.Exit.{yes, no}
pub use denote.Signature.{plain, shr_slice_of}
pub use denote.Builtin.{RawPtr, u8, usize, unit}
pub use denote.Laws.{Is, shows}
pub use denote.Memory.{shared_of}
pub use denote.Opens.{hide}
pub use denote.Plain.{uint_Lawful}
pub use denote.RattleType.{RattleType, Valss}
pub use denote.RawPtr.{Ptr, ptr_val, in_a_block, rawptr_vals, rawptr_Tells, block_ptr, null_ptr}
pub use denote.Ref.{MutRef, mut_vals, mut_Tells}
pub use denote.Slice.{ShrSlice, MutSlice, shr_slice_vals, mut_slice_vals, shr_slice_Tells, mut_slice_Tells, shr_slice_Lawful, mut_slice_Lawful, slice_val}
pub use denote.Steps.{nothing, heard, peeks, only}
pub use denote.Struct.Lending.{lent_at}
pub use denote.Triple.Clauses.{Lasts, lasts, ensured, Ended, Clauses}
pub use denote.Triple.Spec.{triple_of}
pub use denote.Triple.Call.{calls_at, calls_at_last}
pub use denote.Triple.Table.{framed, entered}
pub use denote.Triple.Walked.{Stays, stay_dropped, gave_slice, gave_ref, Goes-dropped, Goes-gave_slice, Goes-gave_ref, walk_of, says, ends_at, walk_Meets}
pub use Rattle.std.proofs.raw_atomic.Walks.{proved, leaves, proved_at}
pub use Rattle.instants_c.specs.Answered.{IsAnswered, IsNumbered}
pub use Rattle.std.proofs.alloc.Calls.{handle_tells, token, Goes-blank}
pub use Rattle.std.specs.contracts.impls.GlobalAllocator.TheImpl.{ghosts, dict}
pub use Rattle.std_alloc.proofs.BoxSteps.Steps.{box_in, box_out}
pub use seplogic.Ra.Ura.{Ura}
pub use mir.MapTy.{inst_fn}
pub use contract.BorrowLft.{◌⊑◌}
pub use prog.Memory.{Memory}
pub use prog.Routine.{Routine}
pub use sound.WpLaws.{fm_of, WpFn-mono}
pub use denote.Triple.Statement.{Triple, Contract}
pub use Rattle.std_alloc.proofs.BoxSteps.Form.{Bx, D, R, P, B, args, box_ty, word, box_typed, τ}
