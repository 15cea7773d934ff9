use Rattle.std.proofs.Common.{sym, subst}
use Rattle.std.specs.Prelude.{IfOk}
use Rattle.bt_extend.specs.Extending.{extended}
use Rattle.bt_theory.specs.Outcomes.{IsOutcomeOver}
use Rattle.bt_theory.specs.inner.Bases.{base_in, IsBase}
use Rattle.bt_theory.proofs.Bases.{base_extended, is_base}
use Rattle.bt_theory.proofs.solving.solve.Goals as goal

pub search-requires : goal.search-requires
search-requires g c =
    subst (IsBase c.in_ok-base.base) (sym c.in_ok-formula.ensures.formula) (is_base c.args.formula c.in_ok-base.base c.extend_all.new.definitions.items c.in_ok-base.ensures)

pub returns-clause-outcome : goal.returns-clause-outcome
returns-clause-outcome g c =
    let b = c.in_ok-base.base in
    let further = extended c.args.formula c.extend_all.new.definitions.items in
    subst (λ f. IfOk c.search.result (IsOutcomeOver f further c.args.limits)) (base_extended c.args.formula b c.extend_all.new.definitions.items c.in_ok-base.ensures)
    (subst (λ g. IfOk c.search.result (IsOutcomeOver (base_in b g) g c.args.limits)) c.in_ok-formula.ensures.formula c.search.ensures)
