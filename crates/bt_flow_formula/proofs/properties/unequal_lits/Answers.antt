use Rattle.std.proofs.Common.{ℕ, List, ◌-◌, ◌∷◌, [], ◌++◌, length, take, drop, get_or, ap, ◌∙◌, refl}
use Rattle.std.specs.List.{flat_map}
use Rattle.bt_frac.specs.Rows.{RowParts}
use Rattle.bt_flow_formula.specs.declared.state_literal.StateLiteral.{StateLiteral}
use Rattle.bt_flow_formula.specs.declared.state_literal.StateLiteral.TheVariants.{Says}
use Rattle.bt_flow_formula.specs.Columns.{above}
use Rattle.bt_flow_formula.specs.Properties.{differ}
use Rattle.bt_arena.proofs.Loops.{taken_more}
use Rattle.bt_flow_formula.specs.inner.Variables.{at_in}
use Rattle.bt_flow_formula.proofs.Numbers.{rows_added}
use Rattle.bt_flow_formula.proofs.properties.unequal_lits.Goals as goal

pub loop-other-preserved : goal.loop-other-preserved
loop-other-preserved c =
    let edges = c.args.edges.now in
    let first : ℕ = get_or edges 0 0 in
    let others : List ℕ = take (length edges - 1) (drop 1 edges) in
    let i = c.loop-other.other-index in
    let front : List StateLiteral = flat_map (differ first) (take i others) in
    let same =
    ap {A = RowParts} {B = List StateLiteral} (λ r. front ++ Says r ∷ Says c.in_ok-less.less ∷ []) c.in_ok-more.ensures
    ∙ ap {A = RowParts} {B = List StateLiteral} (λ r. front ++ Says (above first (get_or others i 0)) ∷ Says r ∷ []) c.in_ok-less.ensures
    ∙ taken_more (differ first) others [] front _ i 0 c.loop-other-test.true refl refl in
    rows_added (at_in c.args.pairs.now) c.args.formula.now c.loop-other.formula c.literal_of.new.formula c.literal_of-in-loop-other.new.formula front _ _ _ c.loop-other.lits.items c.push.new.self.items _ _ _
    c.loop-other.invariant c.in_ok-literal_of.ensures c.in_ok-push.ensures.items c.in_ok-literal_of-2.ensures c.in_ok-push-2.ensures.items same
