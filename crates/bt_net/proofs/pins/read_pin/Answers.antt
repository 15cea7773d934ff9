use Rattle.std.proofs.Common.{◌∙◌, sym, subst}
use Rattle.std.proofs.lemmas.Bool.{iff_false}
use Rattle.bt_net.specs.Network.{HasEnd}
use Rattle.bt_net.proofs.PinSpelling.{cut_pin, pin_space, end_apart}
use Rattle.bt_net.proofs.pins.read_pin.Goals as goal

pub returns-in_err-end-clause-none : goal.returns-in_err-end-clause-none
returns-in_err-end-clause-none c = rw c.from_residual-in_err-end.ensures (λ pin is.
    pin_space c.args.wiring.now c.args.number c.args.line.now _ pin c.requires is c.in_ok-after_word.ensures.some c.in_err-end.ensures.none)

pub returns-in_err-end-2-clause-none : goal.returns-in_err-end-2-clause-none
returns-in_err-end-2-clause-none c = rw c.from_residual-in_err-end-2.ensures (λ pin is.
    let cut = cut_pin c.args.wiring.now c.args.number c.args.line.now _ _ _ pin c.requires c.in_ok-after_word.ensures.some c.in_ok-end.ensures.some is in
    c.in_err-end-2.ensures.none pin.end cut.2 cut.0)

pub returns-in_err-x-clause-none : goal.returns-in_err-x-clause-none
returns-in_err-x-clause-none c = rw c.from_residual-in_err-x.ensures (λ pin is.
    c.in_err-x.ensures.none pin.x pin.y pin.dir (cut_pin c.args.wiring.now c.args.number c.args.line.now _ _ _ pin c.requires c.in_ok-after_word.ensures.some c.in_ok-end.ensures.some is).1)

pub returns-then-not-has_end-clause-none : goal.returns-then-not-has_end-clause-none
returns-then-not-has_end-clause-none c = λ pin is.
    let cut = cut_pin c.args.wiring.now c.args.number c.args.line.now _ _ _ pin c.requires c.in_ok-after_word.ensures.some c.in_ok-end.ensures.some is in
    let same = end_apart pin.end c.in_ok-end-2.end cut.2 c.in_ok-end-2.ensures.fits (sym cut.0 ∙ c.in_ok-end-2.ensures.some) in
    iff_false c.has_end.ensures c.if-not-has_end.true (subst (λ e. HasEnd c.args.wiring.now e) same is.has_end)
