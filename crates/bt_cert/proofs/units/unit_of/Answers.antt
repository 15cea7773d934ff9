use Rattle.std.proofs.Common.{arith, rules, ◌≡◌, ◌+◌, ◌∷◌, ◌++◌, [], Bool, Option, Some, None, IfNone, take, ap, sym, subst, ◌∙◌, List, ℕ}
use Rattle.std.proofs.lemmas.List.{take_more, take_all}
use Rattle.std.proofs.lemmas.Grind.{common_steps}
use Rattle.bt_cnf.specs.declared.literal.Lit.{Lit}
use Rattle.bt_cert.specs.inner.Assuming.{IsUnitSoFar, IsUnitIn, HasNoUnit}
use Rattle.bt_cert.proofs.Assumed.{so_far_false, so_far_first, so_far_same, no_unit_false}
use Rattle.bt_cert.proofs.units.unit_of.Goals as goal
use Rattle.bt_cert.proofs.units.unit_of.Goals.{in-False, in-Unset, in-Some+else-ne, in_default}

so_far : (values : List (Option Bool)) (lits : List Lit) (i : ℕ) (lit : Lit) (unit next : Option Lit) → take (i + 1) lits ≡ take i lits ++ lit ∷ [] → next ≡ unit
    → IsUnitSoFar values (take i lits ++ lit ∷ []) unit → IsUnitSoFar values (take (i + 1) lits) next
so_far values lits i lit unit next is same so =
    subst (IsUnitSoFar values (take (i + 1) lits)) (sym same) (subst (λ xs. IsUnitSoFar values xs unit) (sym is) so)

pub loop-lit-preserved : goal.loop-lit-preserved
loop-lit-preserved c =
    let values = c.args.assumed.now in
    let lits = c.args.clause.now in
    let i = c.loop-lit.lit-index in
    let lit = c.lit-item.result in
    let is = take_more lits i lit c.loop-lit-test.true ∙ ap (λ x. take i lits ++ x ∷ []) (sym c.lit-item.is) in
    elim c.match-truth_of.branch [
      | in-False w ↦
          so_far values lits i lit c.loop-lit.unit c.match-truth_of.unit is w.unit-is
          (so_far_false values (take i lits) lit c.loop-lit.unit c.loop-lit.invariant w.in-False.ensures)
      | in-Unset w ↦
          let here : IsUnitIn values (take i lits ++ lit ∷ []) lit =
          elim w.match-unit.branch [
            | in-Some+else-ne w' ↦
                let same : w'.in-Some.other ≡ lit = first_of (search rules, grind (arith, common_steps)) in
                so_far_same values (take i lits) lit (subst (IsUnitSoFar values (take i lits)) (w'.in-Some.is ∙ ap Some same) c.loop-lit.invariant)
            | in_default w' ↦
                so_far_first values (take i lits) lit (subst (IsUnitSoFar values (take i lits)) w'.in_default.is c.loop-lit.invariant) w.in-Unset.ensures
          ] in
          so_far values lits i lit (Some lit) c.match-truth_of.unit is w.unit-is here
    ]

none_left : (values : List (Option Bool)) (lits : List Lit) (unit : Option Lit) → IsUnitSoFar values lits unit → IfNone unit (HasNoUnit values lits)
none_left values lits None so = no_unit_false values lits so
none_left values lits (Some l) so = tt

pub returns-clause-none : goal.returns-clause-none
returns-clause-none c =
    let all = take_all c.loop-lit.lit-index c.args.clause.now c.loop-lit-test.false in
    none_left c.args.assumed.now c.args.clause.now c.loop-lit.unit (subst (λ xs. IsUnitSoFar c.args.assumed.now xs c.loop-lit.unit) all c.loop-lit.invariant)
