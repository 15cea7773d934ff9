use Rattle.std.proofs.Common.{◌≡◌, ◌<◌, length, get_or, arith, sym, subst, ap, ◌∙◌}
use Rattle.std.specs.List.{All}
use Rattle.std.specs.List.Sorted.{IsNonDecreasing}
use Rattle.std.proofs.lemmas.List.{get_or_default}
use Rattle.bt_sat.specs.inner.Analysing.{falses_at}
use Rattle.bt_sat.specs.inner.Asserting.{IsPrepared, IsAssertionLevel}
use Rattle.bt_sat.specs.inner.LoggedFormula.{clauses_in}
use Rattle.bt_watch.proofs.Leveled.{start_rises}
use Rattle.bt_sat.proofs.Asserted
use Rattle.bt_sat.proofs.learning.prepare.Goals as goal

pub name_lits-requires : goal.name_lits-requires
name_lits-requires c =
    subst (λ ts. All (λ k. k < length ts) c.deref.result.now) (sym c.deref-2.ensures.value)
    (subst (All (λ k. k < length c.args.search.now.assignment.trail.items)) (sym c.deref.ensures.value)
    (λ k d small. c.in_ok-analyse.ensures.within (get_or c.analyse.new.analysis.picked.items k d) (k, small, get_or_default c.analyse.new.analysis.picked.items k (get_or c.analyse.new.analysis.picked.items k d) d small)))

pub assertion_level-level-requires : goal.assertion_level-level-requires
assertion_level-level-requires c =
    let s = c.args.search.now in
    let end = length s.assignment.trail.items in
    let rising : IsNonDecreasing s.starts.items = λ i j d order small.
    let rises = start_rises s c.requires.ordered.levels i j order in
    let at_i = get_or_default s.starts.items i end d (omega (arith, order, small)) in
    let at_j = get_or_default s.starts.items j end d small in
    omega (arith, rises, at_i, at_j) in
    subst IsNonDecreasing (sym c.deref-3.ensures.value) rising

pub returns : goal.returns
returns c =
    let all = clauses_in c.args.known.now in
    let s = c.args.search.now in
    let picked = c.analyse.new.analysis.picked.items in
    let level = c.assertion_level-level.result in
    let at : IsAssertionLevel s.starts.items picked level =
    subst (λ ss. IsAssertionLevel ss picked level) c.deref-3.ensures.value (subst (λ ps. IsAssertionLevel c.deref-3.result.now ps level) c.deref-4.ensures.value c.assertion_level-level.ensures) in
    let lits : falses_at s.assignment.trail.items picked ≡ c.name_lits.new.lits.items =
    sym (c.in_ok-name_lits.ensures ∙ ap (λ ts. falses_at ts c.deref.result.now) c.deref-2.ensures.value ∙ ap (falses_at s.assignment.trail.items) c.deref.ensures.value) in
    subst (λ ls. IsPrepared all (length s.assignment.values) c.backjump.new.search ls c.analyse.new.analysis.hints.items) lits
    (Asserted.prepared all s c.backjump.new.search picked c.analyse.new.analysis.hints.items level c.requires.ordered c.in_ok-analyse.ensures at c.backjump.ensures c.requires.held)
