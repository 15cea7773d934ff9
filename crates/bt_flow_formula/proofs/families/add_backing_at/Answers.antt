use Rattle.std.proofs.Common.{◌≡◌, ◌<◌, map, ◌∙◌, sym, subst, arith}
use Rattle.std.specs.List.{flat_map}
use Rattle.bt_net.specs.declared.network.TheConstants.{MOST_OF_EACH}
use Rattle.bt_flow_formula.specs.Columns.{in_edges, out_edges}
use Rattle.bt_flow_formula.specs.Families.{backing_clause}
use Rattle.bt_flow_formula.specs.inner.Variables.{at_in}
use Rattle.bt_flow_formula.specs.inner.Within.{AreWithin}
use Rattle.bt_flow_formula.proofs.families.add_backing_at.Goals as goal

pub add_backing-requires : goal.add_backing-requires
add_backing-requires c =
    let n = c.args.net.now in
    let k = c.args.splitter in
    let at = at_in c.args.pairs.now in
    let vars = c.args.formula.now.vars in
    let few : k < MOST_OF_EACH = let a = c.requires.ports.network.few_splitters in let b = c.requires.splitter in omega (arith, a, b) in
    let entering : c.deref.result.now ≡ in_edges n k = c.deref.ensures ∙ c.in_ok-entering.ensures ∙ c.requires.ports.into.at k few _ in
    let leaving : c.deref-2.result.now ≡ out_edges n k = c.deref-2.ensures ∙ c.in_ok-leaving.ensures ∙ c.requires.ports.out_of.at k few _ in
    subst (λ ins. AreWithin at vars (flat_map (λ a. map (backing_clause n a) c.deref-2.result.now) ins)) (sym entering)
    (subst (λ outs. AreWithin at vars (flat_map (λ a. map (backing_clause n a) outs) (in_edges n k))) (sym leaving) c.requires.within)
