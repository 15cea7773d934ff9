use Rattle.std.proofs.Common.{◌≤◌, arith, map, length, inl}
use Rattle.std.proofs.lemmas.List.{length-map}
use Rattle.std.proofs.lemmas.Result.{err_from_is_err_and}
use Rattle.bt_text.specs.Answers.{seen}
use Rattle.bt_json.specs.Stands.{json_of}
use Rattle.bt_entities.specs.declared.blueprint.TheConstants.{MOST_ENTITIES}
use Rattle.bt_entities.specs.Answers.{parts_and_priorities_in}
use Rattle.bt_entities.specs.inner.Pieces.{special_of}
use Rattle.bt_entities.proofs.Whole.{told_of_root}
use Rattle.bt_entities.proofs.blueprint.read_as.Goals as goal

pub returns-in_err-blueprint : goal.returns-in_err-blueprint
returns-in_err-blueprint c =
    let p = err_from_is_err_and c.from_residual.result c.from_residual.ensures.1 in
    rw (p.1, p.2) (inl (c.in_err-blueprint.ensures (special_of c.args.reading)))

pub returns-then-blueprint-gt-MOST_ENTITIES : goal.returns-then-blueprint-gt-MOST_ENTITIES
returns-then-blueprint-gt-MOST_ENTITIES c =
    let es = c.in_ok-blueprint.blueprint.entities.now in
    inl (c.in_ok-blueprint.blueprint.major, map json_of es, c.in_ok-blueprint.ensures, omega (arith, length-map es json_of))

pub returns : goal.returns
returns c =
    let es = c.in_ok-blueprint.blueprint.entities.now in
    let few : length (map json_of es) ≤ MOST_ENTITIES = omega (arith, length-map es json_of) in
    told_of_root (special_of c.args.reading) (json_of c.args.tree.now) c.in_ok-blueprint.blueprint.major (map json_of es) c.in_ok-blueprint.ensures few (seen parts_and_priorities_in c.parts_with.result) c.parts_with.ensures
