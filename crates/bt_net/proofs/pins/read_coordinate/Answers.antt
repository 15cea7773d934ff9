use Rattle.std.proofs.Common.{◌∙◌, sym, arith}
use Rattle.bt_net.proofs.PinSpelling.{number_apart}
use Rattle.bt_net.proofs.pins.read_coordinate.Goals as goal

pub returns-else-number-lt-NO_COORDINATE-clause-none : goal.returns-else-number-lt-NO_COORDINATE-clause-none
returns-else-number-lt-NO_COORDINATE-clause-none c = λ n short is.
    omega (arith, short, c.if-number-lt-NO_COORDINATE.false, number_apart c.in_ok-number.number n (omega arith) short (sym c.in_ok-number.ensures.some ∙ is))
