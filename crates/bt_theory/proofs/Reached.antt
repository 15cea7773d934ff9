-- Pivots of Bland's rule lead from reachable bases to reachable ones.
use Rattle.std.proofs.Common.{◌≡◌, ℕ, Bool, List, [], ◌∷◌, map, ap, sym, ◌∙◌, refl, subst}
use Rattle.std.specs.List.{All}
use Rattle.bt_cnf.specs.Assignments.{truth_in}
use Rattle.bt_cnf.specs.Formulas.{FormulaParts}
use Rattle.bt_cnf.specs.Meeting.{MeetsClause}
use Rattle.bt_pivot.specs.SolvedForms.{IsSolvedForm, basis_of}
use Rattle.bt_pivot.specs.Tableaus.{TableauParts}
use Rattle.bt_simplex.specs.Pivots.{Follows}
use Rattle.bt_simplex.specs.Runs.{LeadsTo}
use Rattle.bt_pivot.specs.declared.basis.Pivot.{Pivot}
use Rattle.bt_theory.specs.Reaching.{atom_vars, IsTableauOf, IsGuided, IsReachable, steps_on}

-- a tableau of the formula at a reachable basis, with such rows bound
pub record IsReached (f : FormulaParts) (t : TableauParts) : Type 0 where
  pub tableau : IsTableauOf f t
  pub guided : IsGuided f t
  pub reachable : IsReachable f (basis_of t.slots)

module _ (f : FormulaParts) where
  reach_on : (steps : List Pivot) (t t' : TableauParts) → IsTableauOf f t → IsGuided f t → IsReachable f (basis_of t.slots) → Follows t steps t'
      → IsTableauOf f t' × IsReachable f (basis_of t'.slots)
  reach_on [] t t' table guided reach e = (subst (IsTableauOf f) e table, subst (λ (x : TableauParts). IsReachable f (basis_of x.slots)) e reach)
  reach_on (pivot ∷ steps) t t' table guided reach (between, bland, pivoted, rest) =
      let stays = pivoted.stays in
      reach_on steps between t'
      (record {
        rows = ap (λ x. x.rows) stays ∙ table.rows;
        columns = ap (λ x. x.columns) stays ∙ table.columns;
        solved = subst (λ (x : TableauParts). IsSolvedForm x.rows x.columns between.slots) (sym stays) pivoted.solved;
      })
      (record { assignment = guided.assignment; meets = guided.meets; bound = ap (λ x. x.bound) stays ∙ guided.bound })
      (steps_on t between pivot reach table guided bland pivoted) rest

  pub reached_on : (pivots : ℕ) (t t' : TableauParts) → IsReached f t → LeadsTo pivots t t' → IsTableauOf f t' × IsReachable f (basis_of t'.slots)
  reached_on pivots t t' reached leads = reach_on leads.steps t t' reached.tableau reached.guided reached.reachable leads.follows

  -- the same tableau with other rows bound
  pub bound_reached : (t t' : TableauParts) (assignment : ℕ → Bool) → t' ≡ record t { bound = map assignment (atom_vars f) } → All (MeetsClause assignment) f.clauses
      → IsTableauOf f t → IsReachable f (basis_of t.slots) → IsReached f t'
  bound_reached t t' assignment e meets table reach =
      subst (IsReached f) (sym e)
      (record {
        tableau = record { rows = table.rows; columns = table.columns; solved = table.solved };
        guided = record { assignment = assignment; meets = meets; bound = refl };
        reachable = reach;
      })

-- what a tableau of the formula is doesn't depend on which rows are bound
pub table_bound : (f : FormulaParts) (t t' : TableauParts) (bound : List Bool) → t' ≡ record t { bound = bound } → IsTableauOf f t → IsTableauOf f t'
table_bound f t t' bound e table = subst (IsTableauOf f) (sym e) (record { rows = table.rows; columns = table.columns; solved = table.solved })

-- the rows that are bound are those of the atoms and the assignment that were lent
pub bound_for : (t t' : TableauParts) (atoms lent_atoms : List ℕ) (chosen lent : List Bool) → lent_atoms ≡ atoms → lent ≡ chosen
    → t' ≡ record t { bound = map (truth_in lent) lent_atoms } → t' ≡ record t { bound = map (truth_in chosen) atoms }
bound_for t t' atoms lent_atoms chosen lent same e h =
    h ∙ ap (λ list. record t { bound = map (truth_in list) lent_atoms }) e ∙ ap (λ vars. record t { bound = map (truth_in chosen) vars }) same
