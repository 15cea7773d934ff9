use Rattle.std.proofs.Common.{length, sym, subst, ◌∙◌, refl}
use Rattle.bt_watch.specs.Levels.{IsReady, Stands}
use Rattle.bt_choosers.specs.Orders.{HasUnset}
use Rattle.bt_sat.specs.inner.LoggedFormula.{clauses_in}
use Rattle.bt_watch.proofs.Chosen
use Rattle.bt_choosers.proofs.Listing
use Rattle.bt_sat.proofs.choosing.begin_with.Goals as goal

pub returns-clause-decides : goal.returns-clause-decides
returns-clause-decides c =
    let p = c.args.progress.now in
    let all = clauses_in p.known in
    let values = p.search.assignment.values in
    let l = c.args.lit.now in
    let new = c.begin_level.new.search in
    let begins = c.in_ok-begin_level.ensures in
    let is = c.requires.lacks in
    let was : IsReady all p.propagated p.search = subst (Stands all p.propagated p.search) c.requires.none c.requires.running.stands in
    let ready : IsReady all (length p.search.assignment.trail.items) p.search = subst (λ n. IsReady all n p.search) c.requires.propagated was in
    let now = Chosen.level_ready all p.search new l begins ready is.0 is.1 in (
      record { known = refl; limit = refl },
      record {
        logged = c.requires.running.logged;
        variables = Chosen.same_values all p.search new l begins ready is.0 is.1 ∙ c.requires.running.variables;
        stands = subst (Stands all p.propagated new) (sym c.requires.none) (subst (λ n. IsReady all n new) (sym c.requires.propagated) now);
      },
      c.requires.none,
      Chosen.fewer_unset all p.search new l begins ready is.0 is.1,
      subst (λ vs. HasUnset vs p.order) (sym begins.assigns.values) (Listing.set_has values p.order l.var l.positive c.requires.listed),
    )
