-- `instants_lines_close` makes the parts of a box of what its caller owns, and hands them on.
use Rattle.instants_c.proofs.Kit.{◌≡◌, List, [], ◌∷◌, ◌++◌, refl, sym, ap, ◌∙◌, subst, impl, tnil, dnil, Val, vunit, vptr, SProp, ent, emp, never, id⊢, fst∗, ftrue, fsep, WpFn, sem, ‵, raw, ◌⊛◌, some, later, ◌$◌, ◌∵◌, !, qed, by, move, keep, drop, split, join, fsplit, fjoin, pick, suffices, use0, use1, await, feq_l, feq_i}
use Rattle.instants_c.proofs.Kit.{of_opd, no_more, and_then, returns, enter, unit_lit, alloc_all, pass_all, free_all, look_at, get, sets, lands_as, agg, tables, yes, plain, RawPtr, unit, RattleType, Ptr, block_ptr, null_ptr, ptr_val, in_a_block, nothing, only, ensured, triple_of, calls_at, framed, Stays, stay_dropped}
use Rattle.instants_c.proofs.Kit.{Goes-dropped, walk_of, handle_tells, proved_at, leaves, ghosts, dict, box_in}
use mir.Raw.{raw as bare}
use Rattle.std.specs.Box.Ownership.{box_owns}
use Rattle.std.specs.contracts.alloc.Global.{the_row as Heap}
use Rattle.std.proofs.alloc.Global.TheLaws as heap
use Rattle.std_alloc.proofs.BoxSteps.Form as box
use Rattle.instants_c.specs.contracts.lines_kept.KeptLines.{the_row as Kept}
use Rattle.instants_c.proofs.lines_kept.KeptLines.TheLaws as kept
use Rattle.instants_c.specs.contracts.parts.Parts as parts
use Rattle.instants_c.specs.contracts.lines_kept.close as g
use Rattle.instants_c.proofs.lines_kept.close.Met.{met}
use Rattle.instants_c.specs.contracts.line_calls.instants_lines_close as f
use Rattle.instants_c.proofs.line_calls.instants_lines_close.Statement.{statement}
use Rattle.instants_c.proofs.line_calls.instants_lines_close.Code as code

abbrev E : box.Bx
E = record { row = Kept; laws = kept.the_row_laws; al = record { row = Heap; laws = heap.the_row_laws; g = ghosts; d = dict; drops = impl [] tnil dnil } }

abbrev To : RattleType
To = parts.the_row Kept Heap ghosts

abbrev stayed : Stays f.ended.signature.params f.ended.kept
stayed = (stay_dropped (plain (λ _. Heap)) yes, (stay_dropped (plain (λ _. RawPtr)) yes, tt))

pub instants_lines_close_spec : {M : Type 1} → statement M
instants_lines_close_spec 𝓤 𝓛 𝓜 𝓡 wired =
    let H = 𝓛.H in let 𝓣 = tables 𝓤 H 𝓜 𝓡 𝓡.env in let fn = code.function in let c = f.clauses 𝓛 𝓜.mem 𝓡.returns in let G = triple_of 𝓛 g.signature (g.spec 𝓛 𝓜.mem 𝓡.returns) in
    proved_at 𝓛 f.ended stayed c 𝓜 𝓡 (Goes-dropped 𝓛 0 (plain (λ _. Heap)) yes (λ κs x h. refl), (Goes-dropped 𝓛 0 (plain (λ _. RawPtr)) yes (λ κs x h. refl), tt)) f.Key.name fn (code.unfolded 𝓤 H 𝓜 𝓡 wired) (λ z are.
    let a = z.0.3.0 in let p = z.0.3.1.0 in let x = z.1 in let us = z.0.4.0 in let vs = z.0.4.1.0 in
    let Post : Val → SProp 𝓤 = (walk_of 𝓛 f.ended stayed c).post z in let Run : List Val → SProp 𝓤 = λ ws. WpFn 𝓤 H 𝓣.C 𝓣.Λ fn ws Post in
    qed 𝓛 ((‵ ftrue ⊛ ‵ (fsep (Heap.own_val a us) (fsep (RawPtr.own_val p vs) ftrue))) ∷ ‵ (box_owns (ghosts.dealloc_token a) Kept p x) ∷ []) ∵
    split ! $ drop ! $ fsplit ! $ handle_tells E.al ! a us (λ hv ea fa. move ! (1 ∷ []) $ fsplit ! $ feq_l ! (λ ev. drop ! $ move ! (1 ∷ []) $
    in_a_block ! p (λ q. box_owns (ghosts.dealloc_token a) Kept q x) (fst∗ 𝓤 (never 𝓤) (sem 𝓛 (ghosts.dealloc_token a (bare (box.τ E)) null_ptr))) (λ b o e. fsplit ! $
    -- [what is kept; the right to free it; the handle]
    let d : box.D E = record { ptr = block_ptr b o; alloc = a; value = x } in let w : Val = box.word E hv b o in let made : To.Denot = record { ptr = block_ptr b o; alloc = a; value = x } in
    let typed = box.box_typed E hv b o fa in
    let y : G.Ghost = ((tt, tt, tt, (made, tt), (w ∷ [], tt)), tt) in
    let is : vs ≡ vptr b o ∷ [] = ev ∙ ap (λ (q : Ptr). ptr_val q ∷ []) e in
    box_in E ! d b o x refl refl $ use1 𝓛 (‵ (To.own_val made (w ∷ []))) (id⊢ 𝓤 _) $
    suffices ! (Run (hv ∷ vptr b o ∷ [])) (subst (λ (ws : List Val). ent 𝓤 (Run (hv ∷ vptr b o ∷ [])) (Run ws)) (sym (λ i. ea i ++ (is i ++ []))) (id⊢ 𝓤 (Run (hv ∷ vptr b o ∷ [])))) $
    enter ! 𝓣.C 𝓣.Λ fn (hv ∷ vptr b o ∷ []) Post $ alloc_all ! (λ l. pass_all ! refl (fa, ((tt, tt), tt)) $
    sets ! (of_opd ! (get ! refl)) refl (tt, tt) $ sets ! (agg ! (and_then ! (get ! refl) (and_then ! (get ! refl) (no_more !)))) refl typed $
    nothing ! $ move ! (1 ∷ 0 ∷ []) $ fjoin ! $ nothing ! $ join ! $ nothing ! $ move ! (1 ∷ 0 ∷ []) $ join ! $ use1 𝓛 (raw (G.pre y)) (id⊢ 𝓤 _) $
    calls_at ! (framed 𝓤 𝓛.H 𝓜 𝓣) G (met 𝓤 𝓛 𝓜 𝓡 (code.calls-instants_c::lines_kept::close 𝓡.env wired)) y (and_then ! (get ! refl) (no_more !)) (λ v.
    use1 𝓛 (later (some (λ (u : Unit {0}). (‵ ftrue ⊛ ‵ (unit.own_val u (v ∷ []))) ⊛ raw (ensured 𝓛 g.ended (g.clauses 𝓛 𝓜.mem 𝓡.returns) tt (made, tt) tt u)))) (id⊢ 𝓤 _) $
    await ! tt $ pick ! (λ u. split ! $ split ! $ drop ! $ feq_l ! (λ is_unit. drop ! $
    lands_as ! (ap only is_unit) refl (tt, tt) $ sets ! (of_opd ! (unit_lit !)) refl (tt, tt) $
    use0 𝓛 (raw (emp 𝓤)) (id⊢ 𝓤 (emp 𝓤)) $ feq_i ! (List Val) (vunit ∷ []) (vunit ∷ []) refl $ nothing ! $ nothing ! $ fjoin ! $ nothing ! $ fjoin ! $ nothing ! $
    returns ! (look_at ! 0 refl) $ free_all ! refl $ keep ! (0 ∷ 1 ∷ 2 ∷ 3 ∷ []) $ by ! (leaves 𝓛 f.ended stayed c z vunit tt (tt, (tt, tt)) (tt, (tt, tt)))))))))))
