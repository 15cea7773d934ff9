use Rattle.std.proofs.Common.{ℕ, List, Vec, Global, length, sym, subst}
use Rattle.std.specs.List.{All}
use Rattle.hint_graphs.specs.Places.{AreBelow}
use Rattle.hint_scopes.proofs.scopes.direct_scopes.Goals as goal

pub returns : goal.returns
returns c =
    let end = length c.args.rows.now in
    c.in_order.ensures end c.requires (subst (λ (lists : List (Vec ℕ Global)). All (λ (list : Vec ℕ Global). AreBelow end list.items) lists) (sym c.deref_mut.ensures.value) c.in_ok-lists.ensures)
