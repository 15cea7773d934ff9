use Rattle.std.proofs.Common.{sym, subst}
use Rattle.bt_json.specs.Stands.{json_of}
use Rattle.bt_entities.specs.Entities.{IsPlain}
use Rattle.bt_entities.specs.inner.Pieces.{special_of}
use Rattle.bt_entities.proofs.Placed.{plain_layout}
use Rattle.bt_entities.proofs.piece.Piece.special.Goals as goal

pub returns-in-Layouts-None-None : goal.returns-in-Layouts-None-None
returns-in-Layouts-None-None c = λ major p.
    subst (λ r. IsPlain (special_of r) (json_of c.args.entity.now)) (sym c.in-Layouts-None-None.is-0)
    (plain_layout (json_of c.args.entity.now) c.args.self.now.priority c.if-has_member.ensures c.if-has_member-2.ensures c.in-Layouts-None-None.is-1 c.in-Layouts-None-None.is-2 p.has_priority)
