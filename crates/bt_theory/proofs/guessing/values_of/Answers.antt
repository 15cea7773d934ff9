use Rattle.std.proofs.Common.{Vec, Global, Option, Some, None, map, ap, refl, ◌∙◌}
use Rattle.std.specs.Prelude.{IfSome}
use Rattle.std.proofs.lemmas.Result.{IfOk-weaker}
use Rattle.bt_cnf.specs.Assignments.{truth_in}
use Rattle.bt_frac.specs.Ratio.{Ratio}
use Rattle.bt_simplex.specs.Checks.{MeetsBoundRows}
use Rattle.bt_pivot.specs.Tableaus.{TableauParts}
use Rattle.bt_theory.specs.Outcomes.{IsSolution}
use Rattle.bt_theory.specs.inner.Bases.{base_in}
use Rattle.bt_theory.proofs.Reached.{bound_for, table_bound}
use Rattle.bt_theory.proofs.Rounds.{solves}
use Rattle.bt_theory.proofs.guessing.values_of.Goals as goal

-- what is said of values that were found
of_found : (P Q : Vec Ratio Global → Type 0) → ((values : Vec Ratio Global) → P values → Q values) → (o : Option (Vec Ratio Global)) → IfSome o P → IfSome o Q
of_found P Q f None h = tt
of_found P Q f (Some values) h = f values h

pub returns : goal.returns
returns c =
    let b = c.args.base.now in
    let f = base_in b c.args.formula.now in
    let t0 = c.in_ok-tableau.tableau in
    let t1 = c.bind.new.tableau in
    let chosen = c.args.assignment.now in
    let bound = bound_for t0 t1 b.atoms.items c.atoms.result.now chosen chosen c.atoms.ensures refl c.bind.ensures in
    let table = table_bound f t0 t1 (map (truth_in chosen) b.atoms.items) bound c.in_ok-tableau.ensures.tableau in
    let trues = ap (λ (x : TableauParts). x.bound) bound ∙ ap (map (truth_in chosen)) c.requires.base.atoms in
    let meets : Vec Ratio Global → Type 0 = λ values. MeetsBoundRows t1 values.items in
    let solved : Vec Ratio Global → Type 0 = λ values. IsSolution f values.items chosen in
    IfOk-weaker c.bound_values.result (λ o. IfSome o meets) (λ o. IfSome o solved)
    (of_found meets solved (λ values h. solves f t1 chosen table trues c.requires.met values.items c.requires.size h)) c.bound_values.ensures
