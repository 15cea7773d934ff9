use Rattle.std.proofs.Common.{◌≡◌, ◌<◌, ℕ, List, [], ◌∷◌, ◌++◌, length, arith, sym, subst, ap, ◌∙◌}
use Rattle.std.specs.List.{All}
use Rattle.bt_cnf.specs.declared.literal.Lit.{Lit}
use Rattle.bt_cnf.specs.Units.{clause_at}
use Rattle.bt_sat.specs.inner.Analysing.{IsTracing, MarksSeen}
use Rattle.bt_sat.specs.inner.KnownLits.{lits_in}
use Rattle.bt_sat.specs.inner.LoggedFormula.{clauses_in}
use Rattle.bt_sat.proofs.Deriving
use Rattle.bt_sat.proofs.analysis.begin.Goals as goal

pub mark_seen-requires : goal.mark_seen-requires
mark_seen-requires c =
    let all = clauses_in c.args.known.now in
    let s = c.args.search.now in
    subst (λ ps. All (λ (l : Lit). l.var < length ps) (lits_in c.clause-clause.result)) (sym c.deref.ensures.value)
    (subst (All (λ (l : Lit). l.var < length s.assignment.places.items)) (sym c.clause-clause.ensures)
    (Deriving.false_below all s c.requires.ordered c.args.conflict c.requires.falses))

-- the same of equal lists
seen : (places places' : List ℕ) (clause clause' : List Lit) (size size' : ℕ) (old old' now : List ℕ) → places ≡ places' → clause ≡ clause' → size ≡ size' → old ≡ old' → MarksSeen places clause size old now
    → MarksSeen places' clause' size' old' now
seen places places' clause clause' size size' old old' now p c s o marks =
    subst (λ xs. MarksSeen xs clause' size' old' now) p (subst (λ xs. MarksSeen places xs size' old' now) c (subst (λ n. MarksSeen places clause n old' now) s (subst (λ xs. MarksSeen places clause size xs now) o marks)))

pub conflict_level-requires-clause-inside : goal.conflict_level-requires-clause-inside
conflict_level-requires-clause-inside c =
    let all = clauses_in c.args.known.now in
    let s = c.args.search.now in
    let size : c.len-size.result ≡ length s.assignment.trail.items = omega (arith, c.len-size.ensures) in
    Deriving.conflict_inside all s c.requires.ordered c.args.conflict c.mark_seen.new.agenda c.requires.below c.requires.falses
    (seen c.deref.result.now s.assignment.places.items (lits_in c.clause-clause.result) (clause_at all c.args.conflict) c.len-size.result (length s.assignment.trail.items) c.clear.new.self [] c.mark_seen.new.agenda c.deref.ensures.value
    c.clause-clause.ensures size c.clear.ensures c.in_ok-mark_seen.ensures)

pub returns : goal.returns
returns c =
    let all = clauses_in c.args.known.now in
    let s = c.args.search.now in
    let size : c.len-size.result ≡ length s.assignment.trail.items = omega (arith, c.len-size.ensures) in
    let marks = seen c.deref.result.now s.assignment.places.items (lits_in c.clause-clause.result) (clause_at all c.args.conflict) c.len-size.result (length s.assignment.trail.items) c.clear.new.self [] c.mark_seen.new.agenda
    c.deref.ensures.value c.clause-clause.ensures size c.clear.ensures c.in_ok-mark_seen.ensures in
    let none : [] ≡ c.clear-2.new.self.items = sym c.clear-2.ensures.items in
    let one : c.args.conflict ∷ [] ≡ c.push.new.self.items = ap (λ ns. ns ++ c.args.conflict ∷ []) (sym c.clear-3.ensures.items) ∙ sym c.in_ok-push.ensures.items in
    subst (λ ps. IsTracing all s c.conflict_level.result c.mark_seen.new.agenda ps (length s.assignment.trail.items) c.push.new.self.items) none
    (subst (IsTracing all s c.conflict_level.result c.mark_seen.new.agenda [] (length s.assignment.trail.items)) one (record {
      derived = Deriving.begun all s c.requires.ordered c.args.conflict c.mark_seen.new.agenda c.requires.below c.requires.falses marks;
      root = c.conflict_level.ensures.root;
      cuts = c.conflict_level.ensures.cuts;
    }))
