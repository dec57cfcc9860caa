-- `forget` lets go what a handle holds.
use Rattle.instants_c.proofs.Kit.{List, [], ◌∷◌, ◌++◌, refl, sym, subst, impl, tnil, dnil, Val, vunit, SProp, ent, emp, id⊢, ftrue, fsep, WpFn, ‵, raw, ◌⊛◌, ◌$◌, ◌∵◌, !, qed, by, keep, drop, use0, split, fsplit, fjoin, feq_i, suffices, of_opd, unit_lit, returns, enter, alloc_all, pass_all, free_all, look_at, sets, tables}
use Rattle.instants_c.proofs.Kit.{yes, plain, RattleType, nothing, Stays, stay_dropped, Goes-dropped, walk_of, handle_tells, proved_at, leaves, dict}
use Rattle.instants_c.specs.contracts.lines_handle.LinesHandle as handle
use Rattle.instants_c.proofs.lines_handle.LinesHandle.TheLaws as laws
use Rattle.instants_c.specs.contracts.lines_handle.LinesHandle.forget as f
use Rattle.instants_c.proofs.lines_handle.LinesHandle.forget.Statement.{statement}
use Rattle.instants_c.proofs.lines_handle.LinesHandle.forget.Code as code

abbrev From : RattleType
From = handle.the_row

abbrev stayed : Stays f.ended.signature.params f.ended.kept
stayed = (stay_dropped (plain (λ _. From)) yes, tt)

pub forget_spec : {M : Type 1} → statement M
forget_spec 𝓤 𝓛 𝓜 𝓡 wired =
    let H = 𝓛.H in let 𝓣 = tables 𝓤 H 𝓜 𝓡 𝓡.env in let fn = code.function in let c = f.clauses 𝓛 𝓜.mem 𝓡.returns in
    proved_at 𝓛 f.ended stayed c 𝓜 𝓡 (Goes-dropped 𝓛 0 (plain (λ _. From)) yes (λ κs x h. refl), tt) f.Key.name fn (code.unfolded 𝓤 H 𝓜 𝓡 wired) (λ z are.
    let Post : Val → SProp 𝓤 = (walk_of 𝓛 f.ended stayed c).post z in let Run : List Val → SProp 𝓤 = λ ws. WpFn 𝓤 H 𝓣.C 𝓣.Λ fn ws Post in
    qed 𝓛 ((‵ ftrue ⊛ ‵ (fsep (From.own_val z.0.3.0 z.0.4.0) ftrue)) ∷ raw (emp 𝓤) ∷ []) ∵ split ! $ drop ! $ fsplit ! $
    handle_tells (record { row = From; laws = laws.the_row_laws; g = record { dealloc_token = λ a σ p. ftrue }; d = dict; drops = impl [] tnil dnil }) ! z.0.3.0 z.0.4.0 (λ w ew fw. drop ! $
    suffices ! (Run (w ∷ [])) (subst (λ (us : List Val). ent 𝓤 (Run (w ∷ [])) (Run us)) (sym (λ i. ew i ++ [])) (id⊢ 𝓤 (Run (w ∷ [])))) $
    enter ! 𝓣.C 𝓣.Λ fn (w ∷ []) Post $ alloc_all ! (λ ls. pass_all ! refl (fw, tt) $ sets ! (of_opd ! (unit_lit !)) refl (tt, tt) $
    use0 𝓛 (raw (emp 𝓤)) (id⊢ 𝓤 (emp 𝓤)) $ feq_i ! (List Val) (vunit ∷ []) (vunit ∷ []) refl $ nothing ! $ nothing ! $ fjoin ! $ nothing ! $
    returns ! (look_at ! 0 refl) $ free_all ! refl $ keep ! (0 ∷ 1 ∷ 2 ∷ 3 ∷ []) $ by ! (leaves 𝓛 f.ended stayed c z vunit tt (tt, tt) (tt, tt)))))
