use Rattle.bt_linear_forms.specs.Lines.{signed_terms, one}
use Rattle.bt_pivot.specs.Tableaus.{with_slots}
use Rattle.std.proofs.Common.{◌∷◌, []}
use Rattle.bt_simplex.proofs.Enters.{enters_by, enters_line}
use Rattle.bt_simplex.proofs.bland.entering_by.Goals as goal

pub returns-in-Line : goal.returns-in-Line
returns-in-Line c =
    enters_by (with_slots c.args.tableau.now c.args.basis.now) c.args.leaves (signed_terms c.in-Line.negated c.in-Line.line.now) c.args.order c.requires.fails c.requires.order c.in-Line.ensures.0 c.first_entering.result c.first_entering.ensures

pub returns-in-Like : goal.returns-in-Like
returns-in-Like c =
    enters_by (with_slots c.args.tableau.now c.args.basis.now) c.args.leaves (signed_terms c.in-Like.negated ((c.in-Like.other, one) ∷ [])) c.args.order c.requires.fails c.requires.order c.in-Like.ensures.0
    c.alone_entering.result c.alone_entering.ensures

pub returns-in-Outside : goal.returns-in-Outside
returns-in-Outside c e can = enters_line (with_slots c.args.tableau.now c.args.basis.now) c.args.leaves e c.in-Outside.ensures can
