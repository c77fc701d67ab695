-- `new` makes the struct, with the items that its clause names.
use Rattle.std.proofs.Common.{[], ◌∷◌, refl}
use mir.Syntax.{a_type}
use mir.Val.{Val}
use mir.MapTy.{inst_fn}
use base.Logic.{SProp}
use types.Kit.{‵, raw, ◌⊛◌, ◌$◌, ◌∵◌, !, qed, move, keep, split, suffices, done}
use types.Part.{agg}
use types.Run.{enter, returns, and_then, no_more}
use types.ByLocal.{alloc_all, pass_all, free_all, look_at, get, sets}
use denote.RattleType.{owns}
use denote.Param.{param, layouts}
use denote.Signature.{types_at}
use denote.Steps.{nothing}
use denote.Triple.Entry.{alive}
use denote.Triple.Walked.{says, walk_of, ends_at}
use Rattle.std.proofs.raw_atomic.Walks.{proved_at}
use Rattle.timer_threads.proofs.LogParts.{one, log_made}
use Rattle.timer_threads.specs.contracts.log.Log.new as f
use Rattle.timer_threads.proofs.log.Log.new.Statement.{statement}
use Rattle.timer_threads.proofs.log.Log.new.Code as code

pub new_spec : {M : Type 1} → statement M
new_spec 𝓤 𝓛 𝓜 𝓡 wired T L =
    let En = f.ended T in let c = f.clauses T 𝓛 𝓜.mem 𝓡.returns in
    let at = layouts (a_type ∷ []) (T, tt) in let fn = inst_fn at code.function in
    proved_at 𝓛 En tt c 𝓜 𝓡 tt (f.Key.name at) fn (code.unfolded 𝓤 𝓛.H 𝓜 𝓡 wired (T, tt)) (λ z are.
    let Post : Val → SProp 𝓤 = (walk_of 𝓛 En tt c).post z in
    qed 𝓛 ((raw (alive 𝓛 En.signature z.0.0 z.0.1) ⊛ ‵ (owns (types_at En.signature.params z.0.0) z.0.3 z.0.4)) ∷
    raw ((c z.0.0 z.0.3).requires z.1) ∷ []) ∵
    keep ! (0 ∷ []) $ split ! $ keep ! (0 ∷ []) $
    enter ! _ _ fn [] Post $ alloc_all ! (λ l. pass_all ! refl tt $
    sets ! (agg ! (no_more !)) refl (tt, tt) $
    sets ! (agg ! (and_then ! (get ! refl) (no_more !))) refl (tt, (tt, tt)) $
    log_made (param 0 T) ! [] $ returns ! (look_at ! 0 refl) $ free_all ! refl $
    suffices ! _ (ends_at 𝓛 En tt c z one (record { of = record {}; items = [] }) tt tt) $ says ! refl $
    nothing ! $ move ! (2 ∷ 0 ∷ 1 ∷ []) $ done !))
