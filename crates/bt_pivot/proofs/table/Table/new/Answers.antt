use Rattle.std.proofs.Common.{◌≡◌, length, replicate, Some, subst}
use Rattle.bt_pivot.specs.Tableaus.{TableauParts, IsTableau}
use Rattle.bt_pivot.specs.inner.Rests.{nowhere}
use Rattle.bt_pivot.proofs.FirstForms.{start_tableau, start_new}
use Rattle.bt_pivot.proofs.FreeRests.{free_rests}
use Rattle.bt_pivot.proofs.table.Table.new.Goals as goal

pub invariant_of-result : goal.invariant_of-result
invariant_of-result c =
    let t : TableauParts = record { rows = c.in_ok-copied.field-0.items; columns = c.args.columns; bound = c.in_ok-bound.bound.items; slots = c.in_ok-basis.basis } in
    let tableau : IsTableau t =
    start_tableau c.args.rows.now c.args.columns c.in_ok-copied.field-0.items c.in_ok-bound.bound.items c.in_ok-basis.basis c.all_known.ensures c.requires
    c.in_ok-copied.ensures c.in_ok-bound.ensures c.in_ok-basis.ensures in
    (tableau, free_rests t tableau (length c.args.rows.now) c.in_ok-rests.rests.items c.in_ok-bound.ensures (subst (λ n. c.in_ok-rests.rests.items ≡ replicate n (Some nowhere)) c.len.ensures c.in_ok-rests.ensures))

pub returns : goal.returns
returns c =
    start_new c.args.rows.now c.args.columns c.in_ok-copied.field-0.items c.in_ok-bound.bound.items c.in_ok-basis.basis c.in_ok-copied.ensures c.in_ok-bound.ensures c.in_ok-basis.ensures
