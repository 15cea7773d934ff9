use Rattle.std.proofs.Common.{◌≡◌, Some, refl, arith, map, length}
use Rattle.std.specs.Prelude.{slice_get}
use Rattle.std.proofs.lemmas.List.{length-map}
use Rattle.std.proofs.lemmas.Option.{slice_get_read}
use Rattle.std.proofs.lemmas.Result.{err_from_is_err_and}
use Rattle.bt_json.specs.Stands.{json_of}
use Rattle.bt_entities.specs.Blueprints.{HasEntity}
use Rattle.bt_entities.specs.inner.Pieces.{special_of}
use Rattle.bt_entities.proofs.Whole.{read_more, all_read, entity_at, shift_at_next, told_first}
use Rattle.bt_entities.proofs.blueprint.parts_with.Goals as goal

pub returns-in_err-shift : goal.returns-in_err-shift
returns-in_err-shift c =
    let es = c.args.entities.now in
    let at : slice_get es c.loop-place.place ≡ Some c.index-entities-place.result =
    slice_get_read es (length es) c.loop-place.place c.index-entities-place.result refl c.loop-place-test.true c.index-entities-place.is in
    let p = err_from_is_err_and c.from_residual.result c.from_residual.ensures.1 in
    rw (p.1, p.2) (told_first (special_of c.args.reading) c.args.major (map json_of es) c.loop-place.place c.loop-place.set c.loop-place.parts.items c.loop-place.priorities.items (json_of c.index-entities-place.result)
    c.in_err-shift.field-0.0 (entity_at es c.loop-place.place c.index-entities-place.result at) c.loop-place.invariant (λ first h. c.in_err-shift.ensures first h))

pub loop-place-preserved : goal.loop-place-preserved
loop-place-preserved c =
    let es = c.args.entities.now in
    let at : slice_get es c.loop-place.place ≡ Some c.index-entities-place.result =
    slice_get_read es (length es) c.loop-place.place c.index-entities-place.result refl c.loop-place-test.true c.index-entities-place.is in
    let here : HasEntity (map json_of es) c.loop-place.place (json_of c.index-entities-place.result) = entity_at es c.loop-place.place c.index-entities-place.result at in
    rw (c.in_ok-push.ensures.items, c.in_ok-push-2.ensures.items) (read_more (special_of c.args.reading) c.args.major (map json_of es) c.loop-place.place c.loop-place.set c.loop-place.parts.items c.loop-place.priorities.items
    (json_of c.index-entities-place.result) c.in_ok-shift.shift c.in_ok-shift.part c.in_ok-shift.priority here
    (λ first start. c.in_ok-shift.ensures first (shift_at_next (special_of c.args.reading) c.args.major (map json_of es) c.loop-place.place c.loop-place.set c.loop-place.parts.items c.loop-place.priorities.items first
    (json_of c.index-entities-place.result) c.loop-place.invariant start here)) c.loop-place.invariant)

pub returns : goal.returns
returns c =
    let es = c.args.entities.now in
    let all : c.loop-place.place ≡ length (map json_of es) = omega (arith, length-map es json_of) in
    all_read (special_of c.args.reading) c.args.major (map json_of es) c.loop-place.place c.loop-place.set c.loop-place.parts.items c.loop-place.priorities.items all c.loop-place.invariant
