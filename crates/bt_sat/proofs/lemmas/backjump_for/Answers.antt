use Rattle.std.proofs.Common.{◌≡◌, ◌<◌, length, get_or, arith, sym, subst, ap, ◌∙◌}
use Rattle.std.specs.List.{All}
use Rattle.std.specs.List.Sorted.{IsNonDecreasing}
use Rattle.std.proofs.lemmas.List.{get_or_default, length-map}
use Rattle.bt_sat.specs.inner.Analysing.{false_at, falses_at}
use Rattle.bt_sat.specs.inner.Lemmas.{BackjumpsFor}
use Rattle.bt_sat.specs.inner.Asserting.{IsAssertionLevel}
use Rattle.bt_watch.proofs.Leveled.{start_rises}
use Rattle.bt_sat.proofs.BackjumpedFor
use Rattle.bt_sat.proofs.lemmas.backjump_for.Goals as goal

pub name_lits-requires : goal.name_lits-requires
name_lits-requires c =
    subst (λ ts. All (λ k. k < length ts) c.deref.result.now) (sym c.deref-2.ensures.value)
    (subst (All (λ k. k < length c.args.search.now.assignment.trail.items)) (sym c.deref.ensures.value)
    (λ k d small. c.in_ok-pick.ensures.within (get_or c.pick.new.analysis.picked.items k d) (k, small, get_or_default c.pick.new.analysis.picked.items k (get_or c.pick.new.analysis.picked.items k d) d small)))

pub assertion_level-level-requires : goal.assertion_level-level-requires
assertion_level-level-requires c =
    let s = c.args.search.now in
    let end = length s.assignment.trail.items in
    let rising : IsNonDecreasing s.starts.items = λ i j d order small.
    let rises = start_rises s c.requires.traceable.levels i j order in
    let at_i = get_or_default s.starts.items i end d (omega (arith, order, small)) in
    let at_j = get_or_default s.starts.items j end d small in
    omega (arith, rises, at_i, at_j) in
    subst IsNonDecreasing (sym c.deref-3.ensures.value) rising

pub returns : goal.returns
returns c =
    let s = c.args.search.now in
    let T = s.assignment.trail.items in
    let picked = c.pick.new.analysis.picked.items in
    let level = c.assertion_level-level.result in
    let at : IsAssertionLevel s.starts.items picked level =
    subst (λ ss. IsAssertionLevel ss picked level) c.deref-3.ensures.value (subst (λ ps. IsAssertionLevel c.deref-3.result.now ps level) c.deref-4.ensures.value c.assertion_level-level.ensures) in
    let lits : falses_at T picked ≡ c.name_lits.new.lits.items =
    sym (c.in_ok-name_lits.ensures ∙ ap (λ ts. falses_at ts c.deref.result.now) c.deref-2.ensures.value ∙ ap (falses_at T) c.deref.ensures.value) in
    subst (BackjumpsFor s c.args.lits.now c.backjump.new.search) lits (record {
      same = c.in_ok-pick.ensures.same;
      variables = c.backjump.ensures.forgets.variables;
      admits = λ all propagated ready some.
          BackjumpedFor.admits all s c.backjump.new.search c.args.lits.now picked level propagated ready c.in_ok-pick.ensures at c.backjump.ensures (omega (arith, some, length-map picked (false_at T)));
    })
