use Rattle.std.proofs.Common.{◌<◌, ◌+◌, ◌-◌, ℕ, arith, [], ap, length, get_or, ◌∙◌, subst, sym, vec_len}
use Rattle.std.specs.Global.{Vec}
use Rattle.std.proofs.lemmas.List.{get_or_default}
use Rattle.std.specs.List.{All}
use Rattle.bt_watch.specs.declared.clause_pool.Watch.{Watch}
use Rattle.bt_watch.specs.declared.search.Next.TheVariants.{Done}
use Rattle.bt_watch.specs.inner.PropagatingLit.{with_watches, Advances, ComesTo, Finds}
use Rattle.bt_watch.specs.Propagating.{root_of}
use Rattle.bt_watch.specs.inner.Roots.{bound_of}
use Rattle.bt_watch.proofs.Advancing.{goes_twice, starts}
use Rattle.bt_watch.proofs.Lent.{len_of, without_of}
use Rattle.bt_watch.proofs.Watches.{no_watch}
use Rattle.bt_watch.proofs.Lent
use Rattle.bt_watch.proofs.search.visit_list.Goals as goal

pub visit_at-requires-clause-watched : goal.visit_at-requires-clause-watched
visit_at-requires-clause-watched c = (c.loop-from.invariant.visiting [] (starts c.args.false_lit.now (with_watches c.args.search.now c.args.false_lit.now c.args.list.now.items) c.requires.watched c.requires.truths c.requires.false_lit)).watched

pub visit_at-requires-clause-truths : goal.visit_at-requires-clause-truths
visit_at-requires-clause-truths c = (c.loop-from.invariant.visiting [] (starts c.args.false_lit.now (with_watches c.args.search.now c.args.false_lit.now c.args.list.now.items) c.requires.watched c.requires.truths c.requires.false_lit)).truths

pub visit_at-requires-clause-false_lit : goal.visit_at-requires-clause-false_lit
visit_at-requires-clause-false_lit c = (c.loop-from.invariant.visiting [] (starts c.args.false_lit.now (with_watches c.args.search.now c.args.false_lit.now c.args.list.now.items) c.requires.watched c.requires.truths c.requires.false_lit)).lit_is_false

pub find_next-requires-clause-bound : goal.find_next-requires-clause-bound
find_next-requires-clause-bound c =
    c.root_bound-root.ensures ∙ ap bound_of c.deref.ensures.value ∙ ap (λ (starts : Vec ℕ). bound_of starts.items) (sym c.loop-from.invariant.goes.starts)

pub find_next-requires-clause-variables : goal.find_next-requires-clause-variables
find_next-requires-clause-variables c =
    let v = c.loop-from.invariant.visiting [] (starts c.args.false_lit.now (with_watches c.args.search.now c.args.false_lit.now c.args.list.now.items) c.requires.watched c.requires.truths c.requires.false_lit) in
    let inside = subst (λ n. c.args.false_lit.now.var < n) (sym c.loop-from.invariant.goes.variables) c.requires.variable in
    subst (All (λ (w : Watch). w.blocker.var < length c.loop-from.search.assignment.values)) (sym c.deref-in-loop-from.ensures.value)
    (Lent.blockers_below c.loop-from.search c.args.false_lit.now c.loop-from.list.items inside v.watched)

pub loop-from-preserved-in-Nothing : goal.loop-from-preserved-in-Nothing
loop-from-preserved-in-Nothing c =
    let inside = subst (λ n. c.args.false_lit.now.var < n) (sym c.loop-from.invariant.goes.variables) c.requires.variable in
    record {
      goes = c.loop-from.invariant.goes;
      visiting = λ part v.
          Lent.comes_behind c.loop-from.search c.args.false_lit.now c.loop-from.list.items inside c.deref-in-loop-from.result.now c.deref-in-loop-from.ensures.value part c.loop-from.from (c.loop-from.invariant.visiting part v) c.len-from.result
          (omega (arith, c.loop-from-test.true, c.len.ensures, c.len-from.ensures)) (c.len-from.ensures ∙ c.loop-from.list.ok.0) c.in-Nothing.ensures;
    }

pub loop-from-smaller-in-Stays : goal.loop-from-smaller-in-Stays
loop-from-smaller-in-Stays c =
    let now = subst (Advances c.args.false_lit.now c.in-Open.place (with_watches c.loop-from.search c.args.false_lit.now c.loop-from.list.items) (with_watches c.visit_at.new.search c.args.false_lit.now c.visit_at.new.list.items)) c.in-Stays.is c.in_ok-visit_at-in-Open.ensures in
    let v = c.loop-from.invariant.visiting [] (starts c.args.false_lit.now (with_watches c.args.search.now c.args.false_lit.now c.args.list.now.items) c.requires.watched c.requires.truths c.requires.false_lit) in
    let inside = subst (λ n. c.args.false_lit.now.var < n) (sym c.loop-from.invariant.goes.variables) c.requires.variable in
    let before = len_of c.loop-from.search c.args.false_lit.now c.loop-from.list.items c.loop-from.from v inside in
    let after = len_of c.visit_at.new.search c.args.false_lit.now c.visit_at.new.list.items (c.in-Open.place + 1) (now.2 [] (Lent.comes_to c.loop-from.search c.args.false_lit.now c.loop-from.list.items inside c.deref-in-loop-from.result.now c.deref-in-loop-from.ensures.value [] c.loop-from.from (c.loop-from.invariant.visiting [] (starts c.args.false_lit.now (with_watches c.args.search.now c.args.false_lit.now c.args.list.now.items) c.requires.watched c.requires.truths c.requires.false_lit)) c.in-Open.place c.in-Open.ensures)) (subst (λ n. c.args.false_lit.now.var < n) (sym now.0.variables) inside) in
    let at = subst (λ ws. ComesTo c.loop-from.search.assignment.values ws c.loop-from.from c.in-Open.place) c.deref-in-loop-from.ensures.value c.in-Open.ensures in
    let less : vec_len c.visit_at.new.list - (c.in-Open.place + 1) < vec_len c.loop-from.list - c.loop-from.from =
    omega (arith, now.1, before, after, c.loop-from.list.ok.0, c.visit_at.new.list.ok.0, at.order, at.within) in
    less

pub loop-from-preserved-in-Stays : goal.loop-from-preserved-in-Stays
loop-from-preserved-in-Stays c =
    let now = subst (Advances c.args.false_lit.now c.in-Open.place (with_watches c.loop-from.search c.args.false_lit.now c.loop-from.list.items) (with_watches c.visit_at.new.search c.args.false_lit.now c.visit_at.new.list.items)) c.in-Stays.is c.in_ok-visit_at-in-Open.ensures in
    let inside = subst (λ n. c.args.false_lit.now.var < n) (sym c.loop-from.invariant.goes.variables) c.requires.variable in
    record {
      goes =
          goes_twice (with_watches c.args.search.now c.args.false_lit.now c.args.list.now.items) (with_watches c.loop-from.search c.args.false_lit.now c.loop-from.list.items)
          (with_watches c.visit_at.new.search c.args.false_lit.now c.visit_at.new.list.items) c.loop-from.invariant.goes now.0;
      visiting = λ part v. now.2 part (Lent.comes_to c.loop-from.search c.args.false_lit.now c.loop-from.list.items inside c.deref-in-loop-from.result.now c.deref-in-loop-from.ensures.value part c.loop-from.from (c.loop-from.invariant.visiting part v) c.in-Open.place c.in-Open.ensures);
    }

pub loop-from-smaller : goal.loop-from-smaller
loop-from-smaller c =
    let now = subst (Advances c.args.false_lit.now c.in-Open.place (with_watches c.loop-from.search c.args.false_lit.now c.loop-from.list.items) (with_watches c.visit_at.new.search c.args.false_lit.now c.visit_at.new.list.items)) c.in-Leaves.is c.in_ok-visit_at-in-Open.ensures in
    let v = c.loop-from.invariant.visiting [] (starts c.args.false_lit.now (with_watches c.args.search.now c.args.false_lit.now c.args.list.now.items) c.requires.watched c.requires.truths c.requires.false_lit) in
    let inside = subst (λ n. c.args.false_lit.now.var < n) (sym c.loop-from.invariant.goes.variables) c.requires.variable in
    let before = len_of c.loop-from.search c.args.false_lit.now c.loop-from.list.items c.loop-from.from v inside in
    let after = len_of c.visit_at.new.search c.args.false_lit.now c.visit_at.new.list.items (c.in-Open.place) (now.2 [] (Lent.comes_to c.loop-from.search c.args.false_lit.now c.loop-from.list.items inside c.deref-in-loop-from.result.now c.deref-in-loop-from.ensures.value [] c.loop-from.from (c.loop-from.invariant.visiting [] (starts c.args.false_lit.now (with_watches c.args.search.now c.args.false_lit.now c.args.list.now.items) c.requires.watched c.requires.truths c.requires.false_lit)) c.in-Open.place c.in-Open.ensures)) (subst (λ n. c.args.false_lit.now.var < n) (sym now.0.variables) inside) in
    let at = subst (λ ws. ComesTo c.loop-from.search.assignment.values ws c.loop-from.from c.in-Open.place) c.deref-in-loop-from.ensures.value c.in-Open.ensures in
    let less : vec_len c.visit_at.new.list - (c.in-Open.place) < vec_len c.loop-from.list - c.loop-from.from =
    omega (arith, now.1, before, after, c.loop-from.list.ok.0, c.visit_at.new.list.ok.0, at.order, at.within) in
    less

pub loop-from-preserved : goal.loop-from-preserved
loop-from-preserved c =
    let now = subst (Advances c.args.false_lit.now c.in-Open.place (with_watches c.loop-from.search c.args.false_lit.now c.loop-from.list.items) (with_watches c.visit_at.new.search c.args.false_lit.now c.visit_at.new.list.items)) c.in-Leaves.is c.in_ok-visit_at-in-Open.ensures in
    let inside = subst (λ n. c.args.false_lit.now.var < n) (sym c.loop-from.invariant.goes.variables) c.requires.variable in
    record {
      goes =
          goes_twice (with_watches c.args.search.now c.args.false_lit.now c.args.list.now.items) (with_watches c.loop-from.search c.args.false_lit.now c.loop-from.list.items)
          (with_watches c.visit_at.new.search c.args.false_lit.now c.visit_at.new.list.items) c.loop-from.invariant.goes now.0;
      visiting = λ part v. now.2 part (Lent.comes_to c.loop-from.search c.args.false_lit.now c.loop-from.list.items inside c.deref-in-loop-from.result.now c.deref-in-loop-from.ensures.value part c.loop-from.from (c.loop-from.invariant.visiting part v) c.in-Open.place c.in-Open.ensures);
    }

pub loop-from-preserved-in-Done : goal.loop-from-preserved-in-Done
loop-from-preserved-in-Done c =
    let v = c.loop-from.invariant.visiting [] (starts c.args.false_lit.now (with_watches c.args.search.now c.args.false_lit.now c.args.list.now.items) c.requires.watched c.requires.truths c.requires.false_lit) in
    let inside = subst (λ n. c.args.false_lit.now.var < n) (sym c.loop-from.invariant.goes.variables) c.requires.variable in
    let list = c.loop-from.list.items in
    let at = subst (λ ws. Finds c.loop-from.search.assignment.values (root_of c.loop-from.search) ws c.loop-from.from (Done c.in-Done.place)) c.deref-in-loop-from.ensures.value c.in-Done.ensures in
    let watch = get_or list c.in-Done.place no_watch in
    let now = Lent.dropped c.loop-from.search c.args.false_lit.now list c.in-Done.place watch v.watched inside at.0.within
    (get_or_default list c.in-Done.place no_watch watch at.0.within) c.swap_remove.new.self.items (at.1 no_watch).1
    (without_of c.in-Done.place c.loop-from.list c.swap_remove.new.self (record { size = c.swap_remove.ensures.len; last = c.swap_remove.ensures.by_index.0; others = c.swap_remove.ensures.by_index.1 })) in
    record {
      goes =
          goes_twice (with_watches c.args.search.now c.args.false_lit.now c.args.list.now.items) (with_watches c.loop-from.search c.args.false_lit.now c.loop-from.list.items)
          (with_watches c.loop-from.search c.args.false_lit.now c.swap_remove.new.self.items) c.loop-from.invariant.goes now.0;
      visiting = λ part v. now.2 part (Lent.comes_to c.loop-from.search c.args.false_lit.now c.loop-from.list.items inside c.deref-in-loop-from.result.now c.deref-in-loop-from.ensures.value part c.loop-from.from (c.loop-from.invariant.visiting part v) c.in-Done.place c.in-Done.ensures.0);
    }

pub returns-in-Conflict : goal.returns-in-Conflict
returns-in-Conflict c =
    let now = subst (Advances c.args.false_lit.now c.in-Open.place (with_watches c.loop-from.search c.args.false_lit.now c.loop-from.list.items) (with_watches c.visit_at.new.search c.args.false_lit.now c.visit_at.new.list.items)) c.in-Conflict.is c.in_ok-visit_at-in-Open.ensures in
    let v = c.loop-from.invariant.visiting [] (starts c.args.false_lit.now (with_watches c.args.search.now c.args.false_lit.now c.args.list.now.items) c.requires.watched c.requires.truths c.requires.false_lit) in (
      goes_twice (with_watches c.args.search.now c.args.false_lit.now c.args.list.now.items) (with_watches c.loop-from.search c.args.false_lit.now c.loop-from.list.items)
          (with_watches c.visit_at.new.search c.args.false_lit.now c.visit_at.new.list.items) c.loop-from.invariant.goes now.0,
      now.1,
      (λ whole. now.2 (record { watched = v.watched; truths = v.truths })),
    )

pub returns : goal.returns
returns c =
    let v = c.loop-from.invariant.visiting [] (starts c.args.false_lit.now (with_watches c.args.search.now c.args.false_lit.now c.args.list.now.items) c.requires.watched c.requires.truths c.requires.false_lit) in
    let inside = subst (λ n. c.args.false_lit.now.var < n) (sym c.loop-from.invariant.goes.variables) c.requires.variable in
    let all = len_of c.loop-from.search c.args.false_lit.now c.loop-from.list.items c.loop-from.from v inside in (
      c.loop-from.invariant.goes,
      (λ part v. (c.loop-from.from, omega (arith, c.loop-from-test.false, c.len.ensures, all, c.loop-from.list.ok.0), c.loop-from.invariant.visiting part v)),
    )
