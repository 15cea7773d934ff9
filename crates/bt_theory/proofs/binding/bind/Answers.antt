use Rattle.std.proofs.Common.{◌≡◌, ◌<◌, ◌+◌, ◌++◌, ◌∷◌, [], Bool, true, false, ℕ, List, take, drop, map, length, get_or, ◌∙◌, ap, sym, arith}
use Rattle.std.proofs.lemmas.List.{length-map, length-take-le, set_at, drop_more, map_more, append_assoc}
use Rattle.std.proofs.Math.ListN.{set}
use Rattle.bt_cnf.specs.Assignments.{truth_in}
use Rattle.bt_pivot.specs.Tableaus.{TableauParts}
use Rattle.bt_theory.proofs.binding.bind.Goals as goal
use Rattle.bt_theory.proofs.binding.bind.Goals.{then-is_true, else-is_true}

-- one more place is set as its variable says
one_set : (truth : ℕ → Bool) (atoms : List ℕ) (bound : List Bool) (row : ℕ) (b : Bool) (d : ℕ) → row < length atoms → length atoms ≡ length bound → truth (get_or atoms row d) ≡ b
    → set (map truth (take row atoms) ++ drop row bound) row b ≡ map truth (take (row + 1) atoms) ++ drop (row + 1) bound
one_set truth atoms bound row b d l long t =
    let front = map truth (take row atoms) in
    let size : length front ≡ row = length-map (take row atoms) truth ∙ length-take-le row atoms (omega (arith, l)) in
    ap (λ x. set (front ++ x) row b) (drop_more bound row false (omega (arith, l, long)))
    ∙ set_at front (get_or bound row false) (drop (row + 1) bound) b row size
    ∙ ap (λ x. front ++ x ∷ drop (row + 1) bound) (sym t)
    ∙ sym (append_assoc front (truth (get_or atoms row d) ∷ []) (drop (row + 1) bound))
    ∙ ap (λ x. x ++ drop (row + 1) bound) (sym (map_more truth atoms row d l))

-- the tableau after one more place
one_bound : (truth : ℕ → Bool) (atoms : List ℕ) (first now new : TableauParts) (row var : ℕ) (b : Bool) → row < length atoms → length atoms ≡ length first.rows → length first.bound ≡ length first.rows
    → now ≡ record first { bound = map truth (take row atoms) ++ drop row first.bound } → new ≡ record now { bound = set now.bound row b } → var ≡ get_or atoms row var → truth var ≡ b
    → new ≡ record first { bound = map truth (take (row + 1) atoms) ++ drop (row + 1) first.bound }
one_bound truth atoms first now new row var b l long size e f at t =
    f ∙ ap {A = TableauParts} {B = TableauParts} (λ x. record x { bound = set x.bound row b }) e
    ∙ ap (λ bound. record first { bound = bound }) (one_set truth atoms first.bound row b var l (long ∙ sym size) (ap truth (sym at) ∙ t))

pub loop-row-preserved : goal.loop-row-preserved
loop-row-preserved c =
    let truth = truth_in c.args.assignment.now in
    let now = c.loop-row.tableau in
    elim c.if-is_true.branch [
      | then-is_true w ↦
          one_bound truth c.args.atoms.now c.args.tableau.now now c.if-is_true.tableau c.loop-row.row c.index-atoms-row.result true c.loop-row-test.true c.requires c.all_known.ensures.bound c.loop-row.invariant
          (w.tableau-is ∙ w.set_bound.ensures) c.index-atoms-row.is (ap truth (sym c.place.ensures) ∙ sym c.is_true.ensures ∙ w.if-is_true.true)
      | else-is_true w ↦
          one_bound truth c.args.atoms.now c.args.tableau.now now c.if-is_true.tableau c.loop-row.row c.index-atoms-row.result false c.loop-row-test.true c.requires c.all_known.ensures.bound c.loop-row.invariant
          (w.tableau-is ∙ w.clear_bound.ensures) c.index-atoms-row.is (ap truth (sym c.place.ensures) ∙ sym c.is_true.ensures ∙ w.if-is_true.false)
    ]
