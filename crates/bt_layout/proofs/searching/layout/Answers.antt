use Rattle.std.proofs.Common.{sym, ◌∙◌}
use Rattle.std.proofs.lemmas.Bool.{false≢true}
use Rattle.bt_layout.proofs.Written.{layout_told}
use Rattle.bt_layout.proofs.searching.layout.Goals as goal

pub returns-in_ok-layout : goal.returns-in_ok-layout
returns-in_ok-layout g c =
    layout_told c.args.request.now c.args.learnt c.in_ok-layout.layout c.search.ensures.request (c.in_ok-has_formula.ensures.0 c.if-branch.true) c.in_ok-layout.ensures.sought

pub proposed-requires : goal.proposed-requires
proposed-requires g c = λ has. false≢true (sym c.if-branch.false ∙ c.in_ok-has_formula.ensures.1 has)
