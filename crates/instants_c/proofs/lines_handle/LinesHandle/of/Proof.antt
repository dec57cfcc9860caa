-- `of` keeps the pointer, and what its parts own goes with it.
use Rattle.instants_c.proofs.Kit.{◌≡◌, List, [], ◌∷◌, ◌++◌, refl, sym, subst, Some, impl, tnil, dnil, Val, vptr, vstruct, vcons, vnil, SProp, ent, emp, id⊢, ftrue, fsep, WpFn, ‵, raw, ◌⊛◌, ◌$◌, ◌∵◌, !, qed, by, move, keep, drop, use0, use1, split, fsplit, fjoin, fpack, feq_i, suffices, whole, sub, agg, stop, fld, no_more}
use Rattle.instants_c.proofs.Kit.{and_then, of_opd, returns, enter, alloc_all, pass_all, free_all, look_at, get, get_in, sets, fact, fact_i, tables, no, plain, RawPtr, RattleType, Valss, block_ptr, nothing, Stays, stay_dropped, Goes-dropped, walk_of, proved_at, leaves, ghosts, dict, box_out}
use denote.Struct.Struct.{within}
use denote.Struct.Owning.{shape}
use Rattle.std.specs.contracts.alloc.Global.{the_row as Heap}
use Rattle.std.proofs.alloc.Global.TheLaws as heap
use Rattle.std_alloc.proofs.BoxSteps.Form as box
use Rattle.instants_c.specs.contracts.lines_kept.KeptLines.{the_row as Kept}
use Rattle.instants_c.proofs.lines_kept.KeptLines.TheLaws as kept
use Rattle.instants_c.specs.contracts.parts.Parts as parts
use Rattle.instants_c.specs.contracts.lines_handle.LinesHandle as handle
use Rattle.instants_c.specs.contracts.lines_handle.LinesHandle.of as f
use Rattle.instants_c.proofs.lines_handle.LinesHandle.of.Statement.{statement}
use Rattle.instants_c.proofs.lines_handle.LinesHandle.of.Code as code

abbrev E : box.Bx
E = record { row = Kept; laws = kept.the_row_laws; al = record { row = Heap; laws = heap.the_row_laws; g = ghosts; d = dict; drops = impl [] tnil dnil } }

abbrev From : RattleType
From = parts.the_row Kept Heap ghosts

abbrev To : RattleType
To = handle.the_row

abbrev stayed : Stays f.ended.signature.params f.ended.kept
stayed = (stay_dropped _ no, tt)

pub of_spec : {M : Type 1} → statement M
of_spec 𝓤 𝓛 𝓜 𝓡 wired =
    let H = 𝓛.H in let 𝓣 = tables 𝓤 H 𝓜 𝓡 𝓡.env in let fn = code.function in let c = f.clauses 𝓛 𝓜.mem 𝓡.returns in
    proved_at 𝓛 f.ended stayed c 𝓜 𝓡 (Goes-dropped 𝓛 0 (plain (λ _. From)) no (λ κs x h. refl), tt) f.Key.name fn (code.unfolded 𝓤 H 𝓜 𝓡 wired) (λ z are.
    let Post : Val → SProp 𝓤 = (walk_of 𝓛 f.ended stayed c).post z in let Run : List Val → SProp 𝓤 = λ ws. WpFn 𝓤 H 𝓣.C 𝓣.Λ fn ws Post in
    let v : box.D E = record { ptr = z.0.3.0.ptr; alloc = z.0.3.0.alloc; value = z.0.3.0.value } in
    qed 𝓛 ((‵ ftrue ⊛ ‵ (fsep ((box.B E).own_val v z.0.4.0) ftrue)) ∷ raw (emp 𝓤) ∷ []) ∵ split ! $ drop ! $ fsplit ! $
    box_out E ! v z.0.4.0 (λ b o hv e ws fa. fjoin ! $ move ! (0 ∷ []) $
    -- [what is kept, and the right to free it; the rest]
    let w : Val = box.word E hv b o in let w' : Val = vstruct (vcons (vptr b o) vnil) in let made : To.Denot = record { at = block_ptr b o; kept = Some v.value } in
    suffices ! (Run (w ∷ [])) (subst (λ (us : List Val). ent 𝓤 (Run (w ∷ [])) (Run us)) (sym (λ i. ws i ++ [])) (id⊢ 𝓤 (Run (w ∷ [])))) $
    enter ! 𝓣.C 𝓣.Λ fn (w ∷ []) Post $ alloc_all ! (λ ls. pass_all ! refl (box.box_typed E hv b o fa, tt) $
    sets ! (of_opd ! (get_in ! (fld ! refl (stop !)) (sub ! 0 refl (whole !)))) refl (tt, tt) $ sets ! (of_opd ! (get ! refl)) refl (tt, tt) $
    sets ! (agg ! (and_then ! (get ! refl) (no_more !))) refl (tt, (tt, tt)) $
    nothing ! $ feq_i ! (List Val) (vptr b o ∷ []) (vptr b o ∷ []) refl $ fjoin ! $ feq_i ! (List Val) (w' ∷ []) (w' ∷ []) refl $ fjoin ! $
    fpack ! (Valss (RawPtr ∷ [])) (within (shape handle.the_type) (block_ptr b o, tt) (w' ∷ [])) (vptr b o ∷ [], tt) $ fjoin ! $ use1 𝓛 (‵ (To.own_val made (w' ∷ []))) (id⊢ 𝓤 _) $
    use0 𝓛 (raw (fact 𝓤 (made.kept ≡ Some v.value))) (fact_i 𝓤 (made.kept ≡ Some v.value) (emp 𝓤) refl) $ nothing ! $ nothing ! $ fjoin ! $ nothing ! $
    returns ! (look_at ! 0 refl) $ free_all ! refl $ keep ! (0 ∷ 1 ∷ 3 ∷ 2 ∷ []) $ by ! (leaves 𝓛 f.ended stayed c z w' made (tt, tt) (tt, tt)))))
