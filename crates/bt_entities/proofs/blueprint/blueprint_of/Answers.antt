use Rattle.std.proofs.Common.{inr}
use Rattle.bt_json.specs.Stands.{json_of}
use Rattle.bt_entities.proofs.blueprint.blueprint_of.Goals as goal

pub returns-in_default-major_of : goal.returns-in_default-major_of
returns-in_default-major_of c = λ members.
    inr (inr (inr (inr (json_of c.in_ok-blueprint.blueprint.now, c.in_ok-blueprint.ensures.0, c.in_default-major_of.ensures))))
