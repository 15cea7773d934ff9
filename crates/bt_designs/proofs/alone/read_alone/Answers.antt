use Rattle.bt_designs.specs.Designs.{IsDesign}
use Rattle.bt_designs.proofs.StandingAlone.{stands_alone, refused_alone, faulty_alone}
use Rattle.bt_designs.proofs.alone.read_alone.Goals as goal

pub returns-in-None : goal.returns-in-None
returns-in-None c = stands_alone IsDesign c.args.bytes.now _ c.in-Ok.ensures.design c.in-None.ensures

pub returns-in-Some : goal.returns-in-Some
returns-in-Some c = refused_alone IsDesign c.args.bytes.now _ _ c.in-Ok.ensures.design c.in-Some.ensures

pub returns-in-Err : goal.returns-in-Err
returns-in-Err c = faulty_alone IsDesign c.args.bytes.now _ c.in-Err.ensures.design
