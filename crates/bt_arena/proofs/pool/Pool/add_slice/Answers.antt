use Rattle.std.proofs.Common.{[], ◌∷◌, ◌++◌, length, ap, sym, ◌∙◌}
use Rattle.bt_arena.proofs.Issued.{added_answers, kept_by_appending}
use Rattle.bt_arena.proofs.PoolPieces.{length-pieces, added}
use Rattle.bt_arena.proofs.pool.Pool.add_slice.Goals as goal

pub invariant_of-self-2 : goal.invariant_of-self-2
invariant_of-self-2 g c =
    let pushed = rw c.unwrap.ensures at c.push.ensures.items in
    (added _ _ _ _ _ _ _ _ c.self.invariant c.in_ok-extend_from_slice.ensures.items c.reserve.ensures.items pushed c.len.ensures c.extend_from_slice.new.self.ok.0).0

pub returns-clause-added : goal.returns-clause-added
returns-clause-added g c =
    let pushed = rw c.unwrap.ensures at c.push.ensures.items in
    let more = (added _ _ _ _ _ _ _ _ c.self.invariant c.in_ok-extend_from_slice.ensures.items c.reserve.ensures.items pushed c.len.ensures c.extend_from_slice.new.self.ok.0).1 in
    let place = c.new.ensures ∙ c.len-place.ensures ∙ c.reserve.ensures.len ∙ c.self.inside.ends.ok.0
    ∙ sym (length-pieces 0 c.self.inside.ends.items c.self.inside.items.items) ∙ ap length c.self.view_is in
    added_answers _ _ _ _ (more ∙ ap (λ lists. lists ++ c.args.items.now ∷ []) c.self.view_is) place

pub returns-clause-kept : goal.returns-clause-kept
returns-clause-kept g c =
    let pushed = rw c.unwrap.ensures at c.push.ensures.items in
    let more = (added _ _ _ _ _ _ _ _ c.self.invariant c.in_ok-extend_from_slice.ensures.items c.reserve.ensures.items pushed c.len.ensures c.extend_from_slice.new.self.ok.0).1 in
    kept_by_appending _ _ _ (more ∙ ap (λ lists. lists ++ c.args.items.now ∷ []) c.self.view_is)
