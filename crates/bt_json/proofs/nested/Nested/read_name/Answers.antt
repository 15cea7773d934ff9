use Rattle.std.proofs.Common.{List, ◌∷◌, map, sym, ap, ◌∙◌, subst}
use Rattle.std.proofs.lemmas.Result.{err_from_is_err_and}
use Rattle.bt_json.specs.Json.{Json}
use Rattle.bt_json.specs.Stands.{json_of}
use Rattle.bt_json.specs.inner.Names.{names_of}
use Rattle.bt_json.specs.inner.Reading.{due, in_object}
use Rattle.bt_json.specs.inner.Running.{Faults, rest_of}
use Rattle.bt_json.specs.inner.Frames.{item_due}
use Rattle.bt_json.specs.inner.Nested.{frame_with}
use Rattle.bt_json.proofs.nested.Nested.read_name.Goals as goal

pub returns-in_err-due-clause-read : goal.returns-in_err-due-clause-read
returns-in_err-due-clause-read c =
    let vs = map json_of c.args.self.now.values.items in
    let p = err_from_is_err_and c.from_residual.result c.from_residual.ensures.1 in
    rw (p.1, p.2) (λ k. subst (λ o. Faults c.in_err-due.field-0.0 (rest_of c.args.bytes.now c.args.start (item_due (frame_with o vs) k))) (sym c.in-Some.is) (c.in_err-due.ensures.read (vs, k)))

pub returns-clause-read : goal.returns-clause-read
returns-clause-read c =
    let bs = c.args.bytes.now in
    let vs = map json_of c.args.self.now.values.items in
    let end = c.in_ok-due.due in (
      c.in_ok-due.ensures.read.0,
      λ k. ap (λ o. rest_of bs c.args.start (item_due (frame_with o vs) k)) c.in-Some.is ∙ c.in_ok-due.ensures.read.1 (vs, k)
          ∙ ap (λ (ws : List Json). rest_of bs end (due (in_object (names_of c.read_name.new.names) ws ∷ k))) (ap (map json_of) (sym c.in_ok-make_room.ensures)),
    )
