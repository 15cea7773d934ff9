use Rattle.std.proofs.Common.{List, subst}
use Rattle.bt_cnf.specs.declared.literal.Lit.{Lit}
use Rattle.bt_choosers.specs.inner.FirstUnset.{IsFirstUnset}
use Rattle.bt_choosers.proofs.Ascending.{first_is}
use Rattle.bt_choosers.proofs.choosers.RecentChooser.pick.Goals as goal

pub returns-clause-picks : goal.returns-clause-picks
returns-clause-picks c =
    let unset = c.args.unset.now in
    let place = c.first_unset.result in
    first_is c.args.self.now.clause.items unset place c.requires.ascending c.requires.some
    (subst (λ (clause : List Lit). IsFirstUnset clause unset place) c.deref.ensures.value c.first_unset.ensures.first)
