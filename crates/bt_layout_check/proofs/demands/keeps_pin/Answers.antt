use Rattle.std.proofs.lemmas.Bool.{false≢true}
use Rattle.std.proofs.lemmas.Option.{MatchOption-at_none}
use Rattle.bt_parts.specs.declared.part.Part.{Part}
use Rattle.bt_layout_check.specs.Laid.{naming_of}
use Rattle.bt_layout_check.specs.inner.Naming.{Bears}
use Rattle.bt_layout_check.proofs.demands.keeps_pin.Goals as goal

pub returns-in-None : goal.returns-in-None
returns-in-None c =
    let none = MatchOption-at_none ((part : Part) → Bears c.args.parts.now (naming_of c.args.names.now) c.args.pin.end part → ⊥) (Bears c.args.parts.now (naming_of c.args.names.now) c.args.pin.end)
    c.in-None.is c.bearer.ensures in
    (λ t. absurd (false≢true t), λ stands. absurd (none stands.part (stands.index, stands.named, stands.is_part)))
