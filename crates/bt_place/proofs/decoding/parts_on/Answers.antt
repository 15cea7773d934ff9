use Rattle.std.proofs.Common.{◌≡◌, ◌+◌, ◌<◌, ap, sym, ◌∙◌, subst, arith}
use Rattle.std.proofs.lemmas.Bool.{both_ways}
use Rattle.bt_place.specs.inner.Grid.{spots_in}
use Rattle.bt_place.specs.inner.Reaching.{IsMarked}
use Rattle.bt_place.proofs.Gathering.{IsGathered, gathered_unmarked, gathered_none, gathered_more, gathered_lays, gathered_order}
use Rattle.bt_place.proofs.decoding.parts_on.Goals as goal
use Rattle.bt_place.proofs.decoding.parts_on.Goals.{in-Some+in_ok-push, in_default}

pub loop-i-preserved-then-not-marks-i : goal.loop-i-preserved-then-not-marks-i
loop-i-preserved-then-not-marks-i c =
    let t = c.args.reading.now in
    let marks = c.args.marks.now in
    let end : c.spots-i-end.result ≡ spots_in t.request.rect = c.spots-i-end.ensures.spots ∙ ap spots_in c.rect.ensures.rect in
    let within : c.loop-i.i < spots_in t.request.rect = subst (λ n. c.loop-i.i < n) end c.loop-i-test.true in
    gathered_unmarked t c.requires.solved marks c.requires.marks c.loop-i.i within c.loop-i.parts.items c.loop-i.invariant c.requires.starts
    (λ (marked : IsMarked marks c.loop-i.i). both_ways _ c.if-not-marks-i.true marked)

pub loop-i-preserved : goal.loop-i-preserved
loop-i-preserved c =
    let t = c.args.reading.now in
    let marks = c.args.marks.now in
    let end : c.spots-i-end.result ≡ spots_in t.request.rect = c.spots-i-end.ensures.spots ∙ ap spots_in c.rect.ensures.rect in
    let within : c.loop-i.i < spots_in t.request.rect = subst (λ n. c.loop-i.i < n) end c.loop-i-test.true in
    let marked : IsMarked marks c.loop-i.i = c.if-not-marks-i.false in
    elim c.match-part_on.branch [
      | in-Some+in_ok-push w ↦
          subst (λ items. IsGathered t (c.loop-i.i + 1) items) (sym w.in_ok-push.ensures.items ∙ ap (λ v. v.items) (sym w.parts-is))
          (gathered_more t c.requires.solved marks c.requires.marks c.loop-i.i within c.loop-i.parts.items c.loop-i.invariant
          w.in-Some.part marked w.in-Some.ensures.0 w.in-Some.ensures.1.0 w.in-Some.ensures.1.1)
      | in_default w ↦
          subst (λ v. IsGathered t (c.loop-i.i + 1) v.items) (sym w.parts-is)
          (gathered_none t c.requires.solved marks c.requires.marks c.loop-i.i within c.loop-i.parts.items c.loop-i.invariant
          w.in_default.ensures)
    ]

pub returns-clause-lays : goal.returns-clause-lays
returns-clause-lays c =
    let t = c.args.reading.now in
    let end : c.spots-i-end.result ≡ spots_in t.request.rect = c.spots-i-end.ensures.spots ∙ ap spots_in c.rect.ensures.rect in
    let all : c.loop-i.i ≡ spots_in t.request.rect = omega (arith, end) in
    gathered_lays t c.requires.solved c.loop-i.parts.items (subst (λ n. IsGathered t n c.loop-i.parts.items) all c.loop-i.invariant)

pub returns-clause-in_order : goal.returns-clause-in_order
returns-clause-in_order c =
    gathered_order c.args.reading.now c.requires.solved c.loop-i.parts.items c.loop-i.i c.loop-i.invariant
