use Rattle.std.proofs.Common.{◌≡◌, refl, List, sym, subst, Err}
use Rattle.std.proofs.lemmas.Result.{IfOk-weaker}
use Rattle.bt_text.specs.Answers.{seen}
use Rattle.bt_parts.specs.declared.part.Part.{Part}
use Rattle.bt_designs.specs.declared.fault.DesignFault.TheVariants.{Memory}
use Rattle.bt_designs.specs.Alone.{IsAlone}
use Rattle.bt_designs.specs.Designs.{IsJsonPreferring}
use Rattle.bt_designs.specs.Found.{blueprint_request_of}
use Rattle.bt_designs.specs.Kept.{AreDrawn, IsKeptFor}
use Rattle.bt_designs.proofs.InTurns.{stops, went, weaker}
use Rattle.bt_designs.proofs.kept.read_kept_request.Goals as goal

pub returns-in-Ok-clause-request : goal.returns-in-Ok-clause-request
returns-in-Ok-clause-request c =
    let drawing = c.in-Ok.drawing in
    let told = seen blueprint_request_of c.kept_request.result in
    went Memory (IsAlone IsJsonPreferring c.args.bytes.now) Err (λ laid answer. (parts : List Part) × AreDrawn c.args.bytes.now parts × IsKeptFor c.args.rect c.args.tier parts laid answer)
    drawing.laid told c.in-Ok.ensures.layout
    (weaker Memory (IsKeptFor c.args.rect c.args.tier drawing.grid drawing.laid)
    (λ answer. (parts : List Part) × AreDrawn c.args.bytes.now parts × IsKeptFor c.args.rect c.args.tier parts drawing.laid answer) told (λ r h. (drawing.grid, c.in-Ok.ensures.drawn, h))
    c.kept_request.ensures.request)

pub returns-in-Ok-clause-drawn : goal.returns-in-Ok-clause-drawn
returns-in-Ok-clause-drawn c =
    IfOk-weaker c.kept_request.result (λ found. found.grid ≡ c.in-Ok.drawing.grid) (λ found. AreDrawn c.args.bytes.now found.grid)
    (λ found e. subst (AreDrawn c.args.bytes.now) (sym e) c.in-Ok.ensures.drawn) c.kept_request.ensures.grid

pub returns-in-Err-clause-request : goal.returns-in-Err-clause-request
returns-in-Err-clause-request c =
    stops Memory Memory (IsAlone IsJsonPreferring c.args.bytes.now) Err (λ laid answer. (parts : List Part) × AreDrawn c.args.bytes.now parts × IsKeptFor c.args.rect c.args.tier parts laid answer)
    c.in-Err.fault (Err c.in-Err.fault) refl c.in-Err.ensures.layout refl
