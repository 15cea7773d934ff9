use Rattle.std.proofs.Common.{length, ap, subst, sym}
use Rattle.bt_watch.specs.declared.search.Search.{Search}
use Rattle.bt_watch.specs.Keeping.{AreWatched}
use Rattle.bt_watch.specs.Propagating.{root_of}
use Rattle.bt_watch.specs.inner.PropagatingLit.{with_watches, PropagatesLit}
use Rattle.bt_watch.specs.WatchersParts.{WatchersParts}
use Rattle.bt_watch.proofs.Lent.{standing_after, with_taken}
use Rattle.bt_watch.proofs.search.propagate_lit.Goals as goal

pub visit_list-requires-clause-watched : goal.visit_list-requires-clause-watched
visit_list-requires-clause-watched c =
    let old = with_taken c.args.search.now c.args.false_lit.now c.replace-list.new.self c.new.result.items c.replace-list.result.items c.replace-list.ensures.put c.replace-list.ensures.taken in
    subst (AreWatched (root_of c.args.search.now) (length c.args.search.now.assignment.values) c.args.search.now.clauses) (sym (ap (λ (s : Search). s.watchers) old)) c.requires.watched

pub replace-requires : goal.replace-requires
replace-requires c =
    let old = with_taken c.args.search.now c.args.false_lit.now c.replace-list.new.self c.new.result.items c.replace-list.result.items c.replace-list.ensures.put c.replace-list.ensures.taken in
    let now = subst (λ s. PropagatesLit c.args.false_lit.now s (with_watches c.visit_list.new.search c.args.false_lit.now c.visit_list.new.list.items) c.in_ok-failed.failed) old c.in_ok-failed.ensures in
    standing_after c.args.search.now c.visit_list.new.search c.args.false_lit.now c.visit_list.new.list.items c.in_ok-failed.failed c.requires.watched c.requires.truths c.requires.false_lit
    c.requires.variable now

pub returns : goal.returns
returns c =
    let old = with_taken c.args.search.now c.args.false_lit.now c.replace-list.new.self c.new.result.items c.replace-list.result.items c.replace-list.ensures.put c.replace-list.ensures.taken in
    let now = subst (λ s. PropagatesLit c.args.false_lit.now s (with_watches c.visit_list.new.search c.args.false_lit.now c.visit_list.new.list.items) c.in_ok-failed.failed) old c.in_ok-failed.ensures in
    let new = c.visit_list.new.search in
    let make : WatchersParts → Search = λ w. record { assignment = new.assignment; clauses = new.clauses; watchers = w; numbers = new.numbers; starts = new.starts } in
    subst (λ w. PropagatesLit c.args.false_lit.now c.args.search.now (make w) c.in_ok-failed.failed) (sym c.replace.ensures.put) now
