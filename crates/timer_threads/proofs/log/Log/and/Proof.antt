-- `and` makes the struct, with the items that its clause names.
use Rattle.std.proofs.Common.{List, [], ◌∷◌, ◌++◌, refl}
use mir.Syntax.{a_type}
use mir.Val.{Val, vptr}
use mir.MapTy.{inst_fn}
use base.Logic.{SProp}
use prog.Wp.{WpFn}
use contract.Running.{tables}
use types.Kit.{Goal, ‵, raw, ◌⊛◌, prop, ◌$◌, ◌∵◌, !, qed, move, keep, drop, split, fsplit, fjoin, feq_l, regoal, suffices, done}
use types.Part.{agg}
use types.Run.{enter, returns, and_then, no_more}
use types.ByLocal.{alloc_all, pass_all, free_all, look_at, get, sets}
use denote.Exit.{yes}
use denote.RattleType.{RattleType, owns}
use denote.Builtin.{RefOf}
use denote.Param.{param, layouts}
use denote.Signature.{plain, types_at}
use denote.Steps.{nothing}
use denote.Triple.Entry.{alive}
use denote.Triple.Walked.{says, Stays, stay_dropped, walk_of, ends_at, Goes-dropped}
use Rattle.std.proofs.raw_atomic.Walks.{proved_at}
use Rattle.timer_threads.proofs.LogParts.{one, log_made}
use Rattle.timer_threads.specs.contracts.log.Log.{the_row}
use Rattle.timer_threads.specs.contracts.log.Log.and as f
use Rattle.timer_threads.proofs.log.Log.and.Statement.{statement}
use Rattle.timer_threads.proofs.log.Log.and.Code as code

pub and_spec : {M : Type 1} → statement M
and_spec 𝓤 𝓛 𝓜 𝓡 wired T L =
    let R : RattleType = param 0 T in let En = f.ended T in let c = f.clauses T 𝓛 𝓜.mem 𝓡.returns in
    let at = layouts (a_type ∷ []) (T, tt) in let fn = inst_fn at code.function in
    let Self = RefOf (0 ∷ []) tt (plain (λ _. the_row R)) (λ _. tt) in let Item = RefOf (1 ∷ []) tt (plain (λ _. R)) (λ _. tt) in
    let stayed : Stays En.signature.params En.kept = (stay_dropped Self yes, (stay_dropped Item yes, tt)) in
    let 𝓣 = tables 𝓤 𝓛.H 𝓜 𝓡 𝓡.env in
    proved_at 𝓛 En stayed c 𝓜 𝓡 (Goes-dropped 𝓛 3 Self yes (λ κs x f. refl), (Goes-dropped 𝓛 3 Item yes (λ κs x f. refl), tt))
    (f.Key.name at) fn (code.unfolded 𝓤 𝓛.H 𝓜 𝓡 wired (T, tt)) (λ z are.
    let a = z.0.3 in let vss = z.0.4 in let Post : Val → SProp 𝓤 = (walk_of 𝓛 En stayed c).post z in
    let p = vptr a.0.ref_ptr.0 a.0.ref_ptr.1 in let q = vptr a.1.0.ref_ptr.0 a.1.0.ref_ptr.1 in
    let Runs : List Val → Goal 𝓤 𝓛.H = λ us. prop (WpFn 𝓤 𝓛.H 𝓣.C 𝓣.Λ fn us Post) in let items = a.0.now.items ++ a.1.0.now ∷ [] in
    qed 𝓛 ((raw (alive 𝓛 En.signature z.0.0 z.0.1) ⊛ ‵ (owns (types_at En.signature.params z.0.0) a vss)) ∷
    raw ((c z.0.0 a).requires z.1) ∷ []) ∵
    keep ! (0 ∷ []) $ split ! $ move ! (1 ∷ []) $
    fsplit ! $ fsplit ! $ feq_l ! (λ is₀. drop ! $ fsplit ! $ fsplit ! $ feq_l ! (λ is₁. drop ! $ drop ! $
    regoal ! (λ (us : List Val). Runs (us ++ (vss.1.0 ++ []))) is₀ refl $ regoal ! (λ (us : List Val). Runs (p ∷ us ++ [])) is₁ refl $
    enter ! 𝓣.C 𝓣.Λ fn (p ∷ q ∷ []) Post $ alloc_all ! (λ l. pass_all ! refl ((tt, tt), ((tt, tt), tt)) $
    sets ! (agg ! (no_more !)) refl (tt, tt) $
    sets ! (agg ! (and_then ! (get ! refl) (no_more !))) refl (tt, (tt, tt)) $
    log_made R ! items $ returns ! (look_at ! 0 refl) $ free_all ! refl $
    suffices ! _ (ends_at 𝓛 En stayed c z one (record { of = record {}; items = items }) (tt, (tt, tt)) (tt, (tt, tt))) $ says ! refl $
    nothing ! $ nothing ! $ fjoin ! $ nothing ! $ fjoin ! $ move ! (2 ∷ 0 ∷ 1 ∷ []) $ done !))))
