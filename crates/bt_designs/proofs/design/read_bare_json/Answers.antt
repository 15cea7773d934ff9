use Rattle.std.proofs.Common.{◌≡◌, ap, refl, Ok, Err}
use Rattle.bt_designs.specs.declared.fault.DesignFault.TheVariants.{Memory}
use Rattle.bt_designs.specs.Designs.{IsJsonLayout, in_basic_belts}
use Rattle.bt_designs.specs.Steps.{went_on}
use Rattle.bt_designs.proofs.InTurns.{stops}
use Rattle.bt_designs.proofs.design.read_bare_json.Goals as goal

pub returns-in-Ok-in_basic_belts-clause-design : goal.returns-in-Ok-in_basic_belts-clause-design
returns-in-Ok-in_basic_belts-clause-design c = went_on _ c.in-Ok.ensures.layout (ap (λ n. Ok (n, c.in-Ok.used)) c.in-Ok-in_basic_belts.ensures)

pub returns-in-Err-clause-design : goal.returns-in-Err-clause-design
returns-in-Err-clause-design c =
    stops Memory Memory (IsJsonLayout c.args.bytes.now) Err (λ found answer. answer ≡ Ok (in_basic_belts found.0, found.1))
    c.in-Err.fault (Err c.in-Err.fault) refl c.in-Err.ensures.layout refl
