use Rattle.std.proofs.Common.{subst, sym}
use Rattle.std.proofs.lemmas.Bool.{iff_false}
use Rattle.std.proofs.lemmas.Option.{slice_get-get_or}
use Rattle.bt_parts.specs.Layouts.{IsAt}
use Rattle.bt_model.proofs.PathLemmas.{entrance_links, splitter_links, links_ahead, links_found, links_missed}
use Rattle.bt_model.proofs.ringing.next_link.Goals as goal

pub returns-then-is_kind-clause-next : goal.returns-then-is_kind-clause-next
returns-then-is_kind-clause-next c = λ j link.
    splitter_links c.args.parts.now c.args.i j _ (slice_get-get_or c.args.parts.now c.args.i _ c.requires.within) (c.is_kind.ensures.0 c.if-is_kind.true) link

pub returns-then-is_kind-2-clause-next : goal.returns-then-is_kind-2-clause-next
returns-then-is_kind-2-clause-next c =
    entrance_links c.args.parts.now c.args.i _ c.exit_of.result (slice_get-get_or c.args.parts.now c.args.i _ c.requires.within)
    (c.is_kind-2.ensures.0 c.if-is_kind-2.true) c.exit_of.ensures.pair

pub returns-in_default-clause-next : goal.returns-in_default-clause-next
returns-in_default-clause-next c = λ j link.
    c.in_default.ensures.there j (subst (λ cell. IsAt c.args.parts.now j cell) (sym c.front.ensures)
    (links_ahead c.args.parts.now c.args.i j _ (slice_get-get_or c.args.parts.now c.args.i _ c.requires.within)
    (iff_false c.is_kind-2.ensures c.if-is_kind-2.false) link).1)

pub returns-then-feeds_link-clause-next : goal.returns-then-feeds_link-clause-next
returns-then-feeds_link-clause-next c =
    let takes = c.feeds_link.ensures.0 c.if-feeds_link.true in
    links_found c.args.parts.now c.args.i c.in-Some.j _ _
    (slice_get-get_or c.args.parts.now c.args.i _ c.requires.within) (slice_get-get_or c.args.parts.now c.in-Some.j _ c.in-Some.ensures.within)
    (iff_false c.is_kind.ensures c.if-is_kind.false) takes.0 takes.1

pub returns-else-feeds_link-clause-next : goal.returns-else-feeds_link-clause-next
returns-else-feeds_link-clause-next c =
    links_missed c.args.parts.now c.requires.well_placed c.args.i c.in-Some.j _ _
    (slice_get-get_or c.args.parts.now c.args.i _ c.requires.within) (slice_get-get_or c.args.parts.now c.in-Some.j _ c.in-Some.ensures.within)
    (iff_false c.is_kind-2.ensures c.if-is_kind-2.false)
    (subst (λ cell. IsAt c.args.parts.now c.in-Some.j cell) c.front.ensures c.in-Some.ensures.there)
    (λ link takes. iff_false c.feeds_link.ensures c.if-feeds_link.false (link, takes))
