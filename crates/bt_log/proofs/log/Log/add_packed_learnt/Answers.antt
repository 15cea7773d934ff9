use Rattle.std.proofs.Common.{◌∷◌, ◌++◌, [], ap, ◌∙◌}
use Rattle.std.proofs.lemmas.Result.{err_from_is_err_and}
use Rattle.bt_log.specs.Logs.{LogParts, Learnt}
use Rattle.bt_log.specs.declared.pooled_step.PooledStep.TheVariants as kept
use Rattle.bt_log.specs.inner.Keeping.{kept_steps}
use Rattle.bt_log.proofs.KeptLists.{grows_not, are_kept, same_steps, step_added, kept_added, keeps_learnt}
use Rattle.bt_log.proofs.log.Log.add_packed_learnt.Goals as goal

pub returns-in_err-ids : goal.returns-in_err-ids
returns-in_err-ids c =
    let f = c.self.inside in
    let p = err_from_is_err_and c.from_residual.result c.from_residual.ensures.1 in
    let same = same_steps f.lits c.keep_both.new.all_lits f.weights f.weights f.hints c.keep_both.new.all_items c.keep_both.ensures.lits_grow (grows_not f.weights) c.keep_both.ensures.items_grow f.steps.items c.self.invariant in
    rw p.1 (ap (λ steps. record { first = f.first; steps = steps }) same ∙ c.self.view_is)

pub returns-in_err-push : goal.returns-in_err-push
returns-in_err-push c =
    let f = c.self.inside in
    let p = err_from_is_err_and c.from_residual-in_err-push.result c.from_residual-in_err-push.ensures.1 in
    let same = same_steps f.lits c.keep_both.new.all_lits f.weights f.weights f.hints c.keep_both.new.all_items c.keep_both.ensures.lits_grow (grows_not f.weights) c.keep_both.ensures.items_grow f.steps.items c.self.invariant in
    rw p.1
    (ap (λ kept. record { first = f.first; steps = kept_steps c.keep_both.new.all_lits f.weights c.keep_both.new.all_items kept }) c.in_err-push.ensures.items
    ∙ ap (λ steps. record { first = f.first; steps = steps }) same ∙ c.self.view_is)

pub invariant_of-self-2 : goal.invariant_of-self-2
invariant_of-self-2 c =
    let f = c.self.inside in
    let keeps = keeps_learnt c.keep_both.new.all_lits f.weights c.keep_both.new.all_items c.args.lits.now c.args.hints.now c.in_ok-ids.ids.0 c.in_ok-ids.ids.1 c.in_ok-ids.ensures.kept.0 c.in_ok-ids.ensures.kept.1 in
    let are = are_kept f.lits c.keep_both.new.all_lits f.weights f.weights f.hints c.keep_both.new.all_items c.keep_both.ensures.lits_grow (grows_not f.weights) c.keep_both.ensures.items_grow f.steps.items c.self.invariant in
    kept_added c.keep_both.new.all_lits f.weights c.keep_both.new.all_items f.steps.items c.push.new.self.items (kept.Learnt c.in_ok-ids.ids.0 c.in_ok-ids.ids.1) c.in_ok-push.ensures.items are keeps.0

pub returns : goal.returns
returns c =
    let f = c.self.inside in
    let keeps = keeps_learnt c.keep_both.new.all_lits f.weights c.keep_both.new.all_items c.args.lits.now c.args.hints.now c.in_ok-ids.ids.0 c.in_ok-ids.ids.1 c.in_ok-ids.ensures.kept.0 c.in_ok-ids.ensures.kept.1 in
    let same = same_steps f.lits c.keep_both.new.all_lits f.weights f.weights f.hints c.keep_both.new.all_items c.keep_both.ensures.lits_grow (grows_not f.weights) c.keep_both.ensures.items_grow f.steps.items c.self.invariant in
    let step = Learnt c.args.lits.now c.args.hints.now in
    ap (λ steps. record { first = f.first; steps = steps })
    (step_added c.keep_both.new.all_lits f.weights c.keep_both.new.all_items f.steps.items c.push.new.self.items (kept.Learnt c.in_ok-ids.ids.0 c.in_ok-ids.ids.1) (kept_steps f.lits f.weights f.hints f.steps.items) step
    c.in_ok-push.ensures.items same keeps.1)
    ∙ ap (λ (log : LogParts). record log { steps = log.steps ++ step ∷ [] }) c.self.view_is
