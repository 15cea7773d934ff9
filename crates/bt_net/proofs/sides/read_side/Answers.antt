use Rattle.std.proofs.Common.{◌∙◌, sym, subst}
use Rattle.std.proofs.lemmas.Bool.{iff_false}
use Rattle.bt_net.specs.PinText.{HasEnds}
use Rattle.bt_net.proofs.SideSpelling.{cut_side, side_space, ends_apart}
use Rattle.bt_net.proofs.sides.read_side.Goals as goal

pub returns-in_err-ends-clause-none : goal.returns-in_err-ends-clause-none
returns-in_err-ends-clause-none c = rw c.from_residual-in_err-ends.ensures (λ side is.
    side_space c.args.wiring.now c.args.number c.args.line.now _ side c.requires is c.in_ok-after_word.ensures.some c.in_err-ends.ensures.none)

pub returns-in_err-ends-2-clause-none : goal.returns-in_err-ends-2-clause-none
returns-in_err-ends-2-clause-none c = rw c.from_residual-in_err-ends-2.ensures (λ side is.
    let cut = cut_side c.args.wiring.now c.args.number c.args.line.now _ _ _ side c.requires c.in_ok-after_word.ensures.some c.in_ok-ends.ensures.some is in
    c.in_err-ends-2.ensures.none side.ends cut.2 cut.0)

pub returns-in_err-dir-clause-none : goal.returns-in_err-dir-clause-none
returns-in_err-dir-clause-none c = rw c.from_residual-in_err-dir.ensures (λ side is.
    c.in_err-dir.ensures.none side.dir (cut_side c.args.wiring.now c.args.number c.args.line.now _ _ _ side c.requires c.in_ok-after_word.ensures.some c.in_ok-ends.ensures.some is).1)

pub returns-then-not-has_ends-clause-none : goal.returns-then-not-has_ends-clause-none
returns-then-not-has_ends-clause-none c = λ side is.
    let cut = cut_side c.args.wiring.now c.args.number c.args.line.now _ _ _ side c.requires c.in_ok-after_word.ensures.some c.in_ok-ends.ensures.some is in
    let same = ends_apart side.ends c.in_ok-ends-2.ends cut.2 c.in_ok-ends-2.ensures.fits (sym cut.0 ∙ c.in_ok-ends-2.ensures.some) in
    iff_false c.has_ends.ensures c.if-not-has_ends.true (subst (λ e. HasEnds c.args.wiring.now e) same is.has_ends)
