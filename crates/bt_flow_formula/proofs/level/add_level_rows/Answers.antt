use Rattle.std.proofs.Common.{◌≡◌, ◌++◌, OnOk, refl, subst}
use Rattle.bt_flow_formula.specs.declared.level.LevelRow.TheVariants.{Below, Short, Reached}
use Rattle.bt_flow_formula.specs.Levels.{end_rows, with_rows}
use Rattle.bt_flow_formula.proofs.Adding.{more_rows}
use Rattle.bt_flow_formula.proofs.level.add_level_rows.Goals as goal

pub returns : goal.returns
returns c =
    let old = c.args.formula.now in
    let now = c.add_end_rows-2.new.formula in
    let below = end_rows c.args.net.now c.args.end Below in
    let short = end_rows c.args.net.now c.args.end Short in
    let reached = end_rows c.args.net.now c.args.end Reached in
    let both = more_rows old c.add_end_rows.new.formula now below short c.in_ok-add_end_rows.ensures c.in_ok-add_end_rows-2.ensures in
    subst (λ f. OnOk c.add_end_rows-3.result (c.add_end_rows-3.new.formula ≡ f)) (more_rows old now (with_rows now reached) (below ++ short) reached both refl) c.add_end_rows-3.ensures
