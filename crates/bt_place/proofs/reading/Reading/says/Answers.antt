use Rattle.std.proofs.Common.{sym, subst}
use Rattle.bt_rules.specs.Within.{IsWithin}
use Rattle.bt_place.specs.Within.{IsNumbered}
use Rattle.bt_place.proofs.Numbered.{numbered_of}
use Rattle.bt_place.proofs.reading.Reading.says.Goals as goal

pub variable-requires : goal.variable-requires
variable-requires c =
    subst (λ z. IsNumbered z c.args.fact) (sym c.self.invariant)
    (numbered_of c.self.inside.request.now c.args.fact (subst (λ t. IsWithin t.request c.args.fact) (sym c.self.view_is) c.requires))
