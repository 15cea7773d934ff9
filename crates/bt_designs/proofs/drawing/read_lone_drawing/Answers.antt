use Rattle.bt_designs.specs.Designs.{IsJsonPreferring}
use Rattle.bt_designs.proofs.StandingAlone.{stands_alone, refused_alone, faulty_alone}
use Rattle.bt_designs.proofs.drawing.read_lone_drawing.Goals as goal

pub returns-in-None-clause-layout : goal.returns-in-None-clause-layout
returns-in-None-clause-layout c = stands_alone IsJsonPreferring c.args.bytes.now _ c.in-Ok.ensures.layout c.in-None.ensures

pub returns-in-Some-clause-layout : goal.returns-in-Some-clause-layout
returns-in-Some-clause-layout c = refused_alone IsJsonPreferring c.args.bytes.now _ _ c.in-Ok.ensures.layout c.in-Some.ensures

pub returns-in-Err-clause-layout : goal.returns-in-Err-clause-layout
returns-in-Err-clause-layout c = faulty_alone IsJsonPreferring c.args.bytes.now _ c.in-Err.ensures.layout
