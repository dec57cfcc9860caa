-- `instants_lines_keys` reads what it is lent, and hands its references on.
use Rattle.instants_c.proofs.Kit.{◌≡◌, ℕ, List, [], ◌∷◌, ◌++◌, length, refl, sym, ap, subst, w8, Bor, named, Val, vptr, SProp, ent, emp, never, id⊢, fst∗, ftrue, fsep, flft, WpFn, sem, ‵, raw, ◌⊛◌, some, later, ◌$◌, ◌∵◌, !, qed, by, move, keep, drop, split, join, fsplit, fjoin, pick, suffices, use0, use1, await, feq_l}
use Rattle.instants_c.proofs.Kit.{feq_i, of_opd, no_more, and_then, returns, enter, addr, stop, fld, hop, from, alloc_all, pass_all, free_all, look_at, look_in_at, get, get_in, sets, lands_as, through, agg, sub, whole, fact, fact_i, tables, Lfts, yes, plain, shr_slice_of, RawPtr, u8, usize, Is, shows, shared_of, hide}
use Rattle.instants_c.proofs.Kit.{uint_Lawful, RattleType, Ptr, ptr_val, in_a_block, rawptr_vals, rawptr_Tells, MutRef, mut_vals, mut_Tells, ShrSlice, MutSlice, shr_slice_vals, mut_slice_vals, shr_slice_Tells, mut_slice_Tells, shr_slice_Lawful, mut_slice_Lawful, slice_val, nothing, heard, peeks, lent_at, Lasts, lasts}
use Rattle.instants_c.proofs.Kit.{triple_of, calls_at, framed, Stays, stay_dropped, gave_slice, gave_ref, Goes-dropped, Goes-gave_slice, Goes-gave_ref, walk_of, proved, leaves}
use denote.Triple.Entry.{Args}
use Rattle.instants_c.specs.LinesPut.{AreKeysPut}
use Rattle.instants_lines.specs.contracts.above.Above.{the_row as Above}
use Rattle.instants_c.specs.contracts.lines_kept.KeptLines.{the_row as Kept}
use Rattle.instants_c.specs.contracts.lines_kept.write_keys as g
use Rattle.instants_c.proofs.lines_kept.write_keys.Met.{met}
use Rattle.instants_c.specs.contracts.line_calls.instants_lines_keys as f
use Rattle.instants_c.proofs.line_calls.instants_lines_keys.Statement.{statement}
use Rattle.instants_c.proofs.line_calls.instants_lines_keys.Code as code

abbrev stayed : Stays f.ended.signature.params f.ended.kept
stayed = (stay_dropped (plain (λ _. RawPtr)) yes, (stay_dropped (shr_slice_of (0 ∷ []) tt (plain (λ _. u8))) yes, (gave_slice (1 ∷ []) tt (plain (λ _. u8)), (gave_ref (2 ∷ []) tt (plain (λ _. usize)), (gave_ref (3 ∷ []) tt (plain (λ _. Above)), tt)))))

pub instants_lines_keys_spec : {M : Type 1} → statement M
instants_lines_keys_spec 𝓤 𝓛 𝓜 𝓡 wired =
    let H = 𝓛.H in let 𝓣 = tables 𝓤 H 𝓜 𝓡 𝓡.env in let fn = code.function in let c = f.clauses 𝓛 𝓜.mem 𝓡.returns in let G = triple_of 𝓛 g.signature (g.spec 𝓛 𝓜.mem 𝓡.returns) in
    proved 𝓛 f.ended stayed c 𝓜 𝓡
    (Goes-dropped 𝓛 4 (plain (λ _. RawPtr)) yes (λ κs x h. refl), (Goes-dropped 𝓛 4 (shr_slice_of (0 ∷ []) tt (plain (λ _. u8))) yes (λ κs x h. refl), (Goes-gave_slice 𝓛 4 1 tt (plain (λ _. u8)), (Goes-gave_ref 𝓛 4 2 tt (plain (λ _. usize)), (Goes-gave_ref 𝓛 4 3 tt (plain (λ _. Above)), tt)))))
    f.Key.name fn (code.unfolded 𝓤 H 𝓜 𝓡 wired)
    (λ κs. (rawptr_vals, (shr_slice_vals, (mut_slice_vals, (mut_vals, (mut_vals, tt))))))
    (λ κs. (rawptr_Tells, (shr_slice_Tells (named 0) κs.0 u8, (mut_slice_Tells (named 1) κs.1.0 u8, (mut_Tells (named 2) κs.1.1.0 usize, (mut_Tells (named 3) κs.1.1.1.0 Above, tt))))))
    (λ κs qs bounds a z are.
    let p = a.0 in let input = a.1.0 in let output = a.1.1.0 in let written = a.1.1.1.0 in let above = a.1.1.1.1.0 in
    let κ = z.0.0 in let q = z.0.1 in let x = z.1 in
    let vi = shr_slice_vals input in let vo = mut_slice_vals output in let vw = mut_vals written in let va = mut_vals above in
    let iv : Val = slice_val input.ref_ptr (length input.now) in let ov : Val = slice_val output.ref_ptr (length output.now) in let wv : Val = vptr written.ref_ptr.0 written.ref_ptr.1 in let av : Val = vptr above.ref_ptr.0 above.ref_ptr.1 in
    let bound : (walk_of 𝓛 f.ended stayed c).Ghost = ((κs, qs, bounds, a, (rawptr_vals p, (vi, (vo, (vw, (va, tt)))))), z) in
    let Post : Val → SProp 𝓤 = (walk_of 𝓛 f.ended stayed c).post bound in let Run : List Val → SProp 𝓤 = λ ws. WpFn 𝓤 H 𝓣.C 𝓣.Λ fn ws Post in
    let t₁ = ‵ (flft κs.0 qs.0) in let t₂ = ‵ (flft κs.1.0 qs.1.0) in let t₃ = ‵ (flft κs.1.1.0 qs.1.1.0) in let t₄ = ‵ (flft κs.1.1.1.0 qs.1.1.1.0) in
    let I : RattleType = ShrSlice (named 0) κs.0 u8 in let O : RattleType = MutSlice (named 1) κs.1.0 u8 in let W : RattleType = MutRef (named 2) κs.1.1.0 usize in let A : RattleType = MutRef (named 3) κs.1.1.1.0 Above in
    qed 𝓛 (((t₁ ⊛ t₂ ⊛ t₃ ⊛ t₄ ⊛ ‵ ftrue) ⊛ ‵ (fsep (RawPtr.own_val p (rawptr_vals p)) (fsep (I.own_val input vi) (fsep (O.own_val output vo) (fsep (W.own_val written vw) (fsep (A.own_val above va) ftrue)))))) ∷ ‵ (fsep (lent_at Kept p x κ) (flft κ q)) ∷ []) ∵
    split ! $ move ! (1 ∷ []) $ fsplit ! $ drop ! $ move ! (2 ∷ []) $ fsplit ! $
    in_a_block ! p (λ r. lent_at Kept r x κ) (fst∗ 𝓤 (never 𝓤) (sem 𝓛 (shared_of Kept x 0 0 κ))) (λ b o e. fsplit ! $ drop ! $ hide ! $
    -- [what a reference to what is kept has; its token; what the other parameters own; the tokens]
    let s : Bor Kept.Denot = record { ref_ptr = (b, o); now = x } in
    let κ₅ : Lfts 5 = (κ, (κs.0, (κs.1.0, (κs.1.1.0, (κs.1.1.1.0, tt))))) in let args : Args g.signature κ₅ = (s, (input, (output, (written, (above, tt))))) in
    let y : G.Ghost = ((κ₅, (q, (qs.0, (qs.1.0, (qs.1.1.0, (qs.1.1.1.0, tt))))), tt, args, (vptr b o ∷ [], (vi, (vo, (vw, (va, tt)))))), tt) in
    let is : rawptr_vals p ≡ vptr b o ∷ [] = ap (λ (r : Ptr). ptr_val r ∷ []) e in
    let us : List Val = vptr b o ∷ iv ∷ ov ∷ wv ∷ av ∷ [] in
    let ti = ((shr_slice_Lawful 𝓛 (named 0) κs.0 u8).typed input vi are.1.0).0 in
    let to = ((mut_slice_Lawful 𝓛 (named 1) κs.1.0 u8).typed output vo are.1.1.0).0 in
    suffices ! (Run us) (subst (λ (ws : List Val). ent 𝓤 (Run us) (Run ws)) (sym (λ i. is i ++ (iv ∷ ov ∷ wv ∷ av ∷ []))) (id⊢ 𝓤 (Run us))) $
    enter ! 𝓣.C 𝓣.Λ fn us Post $ alloc_all ! (λ l. pass_all ! refl ((tt, tt), (ti, (to, ((tt, tt), ((tt, tt), tt))))) $
    sets ! (of_opd ! (get ! refl)) refl (tt, tt) $ sets ! (addr ! (through ! refl (stop !))) refl (tt, tt) $
    sets ! (addr ! (from ! (fld ! refl (hop ! (look_in_at ! 3 (sub ! 0 refl (whole !))) (stop !))))) refl (tt, tt) $
    sets ! (agg ! (and_then ! (get ! refl) (and_then ! (get_in ! (fld ! refl (stop !)) (sub ! 1 refl (whole !))) (no_more !)))) refl to $
    sets ! (addr ! (through ! refl (stop !))) refl (tt, tt) $ sets ! (addr ! (through ! refl (stop !))) refl (tt, tt) $
    feq_i ! (List Val) (vptr b o ∷ []) (vptr b o ∷ []) refl $ fjoin ! $ move ! (0 ∷ 2 ∷ []) $ fjoin ! $
    -- [all that the parameters own; the token of what is kept; the tokens]
    move ! (2 ∷ []) $ move ! (2 ∷ 0 ∷ []) $ join ! $ join ! $ nothing ! $ move ! (1 ∷ 0 ∷ []) $ join ! $ use1 𝓛 (raw (G.pre y)) (id⊢ 𝓤 _) $
    calls_at ! (framed 𝓤 𝓛.H 𝓜 𝓣) G (met 𝓤 𝓛 𝓜 𝓡 (code.calls-instants_c::lines_kept::write_keys 𝓡.env wired)) y (and_then ! (get ! refl) (and_then ! (get ! refl) (and_then ! (get ! refl) (and_then ! (get ! refl) (and_then ! (get ! refl) (no_more !)))))) (λ v.
    use1 𝓛 (later (some (λ (r : ℕ). ((‵ (flft κ q) ⊛ t₁ ⊛ t₂ ⊛ t₃ ⊛ t₄ ⊛ ‵ ftrue) ⊛ ‵ (u8.own_val r (v ∷ []))) ⊛ some (λ (ws : Lasts g.ended κ₅ args). ‵ (lasts g.ended κ₅ args ws) ⊛ raw (fact 𝓤 (AreKeysPut x above.now input.now r ws.1.1.1.0 output.now ws.1.1.1.1.0 ws.1.1.0)))))) (id⊢ 𝓤 _) $
    await ! tt $ pick ! (λ r. split ! $ move ! (1 ∷ []) $ pick ! (λ ws. split ! $ move ! (1 ∷ []) $ heard ! (AreKeysPut x above.now input.now r ws.1.1.1.0 output.now ws.1.1.1.1.0 ws.1.1.0) (λ said.
    -- [what is left of the references; the tokens and the result]
    fsplit ! $ drop ! $ fsplit ! $ drop ! $ fsplit ! $ fsplit ! $ fsplit ! $ move ! (1 ∷ []) $ feq_l ! (λ fits. move ! (0 ∷ 1 ∷ []) $ fjoin ! $ move ! (0 ∷ 1 ∷ []) $ fjoin ! $
    nothing ! $ fjoin ! $ nothing ! $ fjoin ! $ move ! (1 ∷ []) $ split ! $ move ! (1 ∷ []) $
    -- [the result; the tokens; what is left of the references]
    peeks ! u8 (Is u8) (shows 𝓛 u8) r (v ∷ []) (λ h. lands_as ! refl refl ((uint_Lawful 𝓛 w8).typed r _ h).0 $
    move ! (1 ∷ []) $ split ! $ use0 𝓛 (raw (fact 𝓤 (AreKeysPut x above.now input.now r ws.1.1.1.0 output.now ws.1.1.1.1.0 ws.1.1.0))) (fact_i 𝓤 (AreKeysPut x above.now input.now r ws.1.1.1.0 output.now ws.1.1.1.1.0 ws.1.1.0) (emp 𝓤) said) $ move ! (1 ∷ 0 ∷ []) $ join ! $
    returns ! (look_at ! 0 refl) $ free_all ! refl $ keep ! (1 ∷ 3 ∷ 2 ∷ 0 ∷ []) $ by ! (leaves 𝓛 f.ended stayed c bound v r (tt, (tt, (ws.1.1.0, (ws.1.1.1.0, (ws.1.1.1.1.0, tt))))) (tt, (tt, (fits, (tt, (tt, tt)))))))))))))))
