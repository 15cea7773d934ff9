use Rattle.std.proofs.Common.{◌+◌, ◌<◌, arith, drop, length, ◌++◌, ap, sym, ◌∙◌}
use Rattle.std.proofs.lemmas.Bool.{iff_false}
use Rattle.bt_pivot.specs.SolvedForms.{basis_from}
use Rattle.bt_simplex.proofs.BasisLists.{basis_some, basis_none, push_more}
use Rattle.bt_simplex.proofs.traces.positions.Goals as goal
use Rattle.bt_simplex.proofs.traces.positions.Goals.{then-has+in_ok-push, else-has}

pub loop-position-preserved : goal.loop-position-preserved
loop-position-preserved c =
    let inside : c.loop-position.position < length c.args.basis.now = omega arith in
    elim c.if-has.branch [
      | then-has+in_ok-push w ↦
          ap (λ l. l ++ basis_from (c.loop-position.position + 1) (drop (c.loop-position.position + 1) c.args.basis.now)) (ap (λ v. v.items) w.positions-is ∙ w.in_ok-push.ensures.items)
          ∙ push_more c.loop-position.positions.items c.loop-position.position (basis_from (c.loop-position.position + 1) (drop (c.loop-position.position + 1) c.args.basis.now))
          ∙ ap (λ l. c.loop-position.positions.items ++ l) (sym (basis_some c.loop-position.position c.args.basis.now inside (c.has.ensures.0 w.if-has.true)))
          ∙ c.loop-position.invariant
      | else-has w ↦
          ap (λ l. l ++ basis_from (c.loop-position.position + 1) (drop (c.loop-position.position + 1) c.args.basis.now)) (ap (λ v. v.items) w.positions-is)
          ∙ ap (λ l. c.loop-position.positions.items ++ l) (sym (basis_none c.loop-position.position c.args.basis.now inside (iff_false c.has.ensures w.if-has.false)))
          ∙ c.loop-position.invariant
    ]
