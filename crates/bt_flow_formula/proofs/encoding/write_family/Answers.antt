use Rattle.std.proofs.Common.{ℕ, List, [], refl, arith}
use Rattle.std.specs.List.{flat_map, range_with_len}
use Rattle.bt_flow_formula.specs.declared.state_literal.StateLiteral.{StateLiteral}
use Rattle.bt_flow_formula.specs.Families.{clauses_at, places}
use Rattle.bt_flow_formula.specs.inner.Variables.{at_in}
use Rattle.bt_flow_formula.specs.inner.Within.{AreWithin}
use Rattle.bt_arena.proofs.Loops.{place_more}
use Rattle.bt_flow_formula.proofs.Numbers.{with_none, added_more, marks_stay, all_within_more}
use Rattle.bt_flow_formula.proofs.Withins.{from_flat_map, at_range}
use Rattle.bt_flow_formula.proofs.encoding.write_family.Goals as goal

pub loop-place-init : goal.loop-place-init
loop-place-init c = with_none (at_in c.args.pairs.now) c.args.formula.now

pub add_at-requires-clause-within : goal.add_at-requires-clause-within
add_at-requires-clause-within c =
    let n = c.args.net.now in
    let f = c.args.family in
    let at = at_in c.args.pairs.now in
    let vars = c.args.formula.now.vars in
    let k = c.loop-place.place in
    all_within_more at vars c.loop-place.formula.vars (marks_stay at vars c.args.formula.now c.loop-place.formula _ c.loop-place.invariant (omega arith)) (clauses_at n f k)
    (at_range (λ j. AreWithin at vars (clauses_at n f j)) 0 (places n f) k (from_flat_map _ (clauses_at n f) (range_with_len 0 (places n f)) c.requires.within) (omega arith) (omega arith))

pub loop-place-preserved : goal.loop-place-preserved
loop-place-preserved c =
    let f : ℕ → List (List StateLiteral) = clauses_at c.args.net.now c.args.family in
    added_more (at_in c.args.pairs.now) c.args.formula.now c.loop-place.formula c.add_at.new.formula _ _ _ c.loop-place.invariant c.in_ok-add_at.ensures
    (place_more f [] (flat_map f (range_with_len 0 c.loop-place.place)) _ c.loop-place.place refl refl)
