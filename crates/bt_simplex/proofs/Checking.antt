-- What a check answers, by where its run ends.
use Rattle.std.proofs.Common.{◌≡◌, ◌<◌, ◌≤◌, List, Vec, Global, length, ap, sym, ◌∙◌, refl, subst, ℕ}
use Rattle.bt_frac.specs.Ratio.{Ratio}
use Rattle.bt_simplex.specs.Counting.{most_bases}
use Rattle.bt_pivot.specs.SolvedForms.{Slots}
use Rattle.bt_pivot.specs.Tableaus.{TableauParts, IsTableau, with_slots}
use Rattle.bt_simplex.specs.Pivots.{IsMet, IsStuckAt, Follows}
use Rattle.bt_simplex.specs.Runs.{LeadsTo}
use Rattle.bt_simplex.specs.Causes.{IsCause}
use Rattle.bt_simplex.specs.Checks.{StartsAt, IsPivots, IsWideCheck, MeetsBoundRows, RefutesBoundRows}
use Rattle.bt_pivot.specs.declared.basis.Pivot.{Pivot}
use Rattle.bt_simplex.specs.declared.answers.PivotTrace.{PivotTrace}
use Rattle.bt_simplex.specs.declared.answers.Wide.{Wide}
use Rattle.bt_simplex.specs.declared.answers.Check.TheVariants.{Sat, Unsat, Pivots as Limit, Wide as Unfit}
use Rattle.bt_pivot.specs.declared.causes.Cause.{Cause}
use Rattle.bt_simplex.specs.declared.running.End.{End}
use Rattle.bt_simplex.specs.declared.running.End.TheVariants.{Met, Stuck, Pivots, Wide as TooWide}
use Rattle.bt_simplex.specs.inner.Checking.{Concludes, IsWideFor}
use Rattle.bt_simplex.specs.inner.Runs.{IsEnd, IsRun}
use Rattle.bt_simplex.proofs.FewPivots.{few_steps}

module _ (pivots : ℕ) (t : TableauParts) (steps : List Pivot) (slots : Slots) (end : End) (is : IsRun pivots t steps slots end) where
  ends : (other : End) → end ≡ other → IsEnd pivots t is.last steps slots other
  ends other e = subst (λ x. IsEnd pivots t is.last steps slots x) e is.ends

  leads : is.last ≡ with_slots t slots → LeadsTo pivots t (with_slots t slots)
  leads e = record { steps = steps; few = is.few; follows = subst (λ u. Follows t steps u) e is.follows }

  pub met_tableau : end ≡ Met → IsTableau (with_slots t slots)
  met_tableau e = let h = ends Met e in subst IsTableau h.0 h.1

  pub met_met : end ≡ Met → IsMet (with_slots t slots)
  met_met e = let h = ends Met e in subst (λ u. IsMet u) h.0 h.2

  pub stuck_tableau : (position : ℕ) → end ≡ Stuck position → IsTableau (with_slots t slots)
  stuck_tableau position e = let h = ends (Stuck position) e in subst IsTableau h.0 h.1

  pub stuck_stuck : (position : ℕ) → end ≡ Stuck position → IsStuckAt (with_slots t slots) position
  stuck_stuck position e = let h = ends (Stuck position) e in subst (λ u. IsStuckAt u position) h.0 h.2

  -- the answers by what was found at the end
  pub met_concludes : (values : Vec Ratio Global) → end ≡ Met → MeetsBoundRows (with_slots t slots) values.items → Concludes pivots t slots (Sat values)
  met_concludes values e meets = record {
    tableau = met_tableau e;
    checked = (leads (ends Met e).0, met_met e, record { columns = meets.columns; holds = meets.holds });
  }

  pub stuck_concludes : (weights : Vec (ℕ × Ratio) Global) (position : ℕ) → end ≡ Stuck position → RefutesBoundRows (with_slots t slots) weights.items
      → Concludes pivots t slots (Unsat weights)
  stuck_concludes weights position e refutes = record {
    tableau = stuck_tableau position e;
    checked = (leads (ends (Stuck position) e).0, (position, stuck_stuck position e), record { ascend = refutes.ascend; bound = refutes.bound; accepted = refutes.accepted });
  }

  pivots_answer : IsTableau t → end ≡ Pivots → (trace : PivotTrace) → StartsAt t trace → trace.steps.items ≡ steps → IsPivots pivots t trace
  pivots_answer tableau e trace starts same =
      let h = ends Pivots e in
      record {
        starts = starts;
        few = subst (λ n. n < most_bases t.columns t.rows) h.0 (few_steps t steps is.last tableau is.follows);
        goes_on = record {
          many = ap length same ∙ h.0;
          last = is.last;
          follows = subst (λ l. Follows t l is.last) (sym same) is.follows;
          goes_on = h.1;
        };
      }

  pub pivots_concludes : (trace : PivotTrace) → IsTableau t → end ≡ Pivots → StartsAt t trace → trace.steps.items ≡ steps → Concludes pivots t slots (Limit trace)
  pivots_concludes trace tableau e starts same = record { tableau = tableau; checked = (refl, pivots_answer tableau e trace starts same) }

  wide_concludes : (cause : Cause) (answer : Wide) → IsTableau t → IsCause is.last cause → IsWideFor t steps slots cause answer → Concludes pivots t slots (Unfit answer)
  wide_concludes cause answer tableau told answers =
      let wide : IsWideCheck pivots t answer = record {
        starts = answers.starts;
        few = subst (λ l. length l ≤ pivots) (sym answers.steps_are) is.few;
        last = is.last;
        follows = subst (λ l. Follows t l is.last) (sym answers.steps_are) is.follows;
        basis = answers.basis ∙ is.basis;
        cause = subst (λ c. IsCause is.last c) (sym answers.cause_is) told;
      } in record { tableau = tableau; checked = (refl, wide) }

  pub met_wide : (cause : Cause) (answer : Wide) → IsTableau t → end ≡ Met → IsCause (with_slots t slots) cause → IsWideFor t steps slots cause answer
      → Concludes pivots t slots (Unfit answer)
  met_wide cause answer tableau e told = wide_concludes cause answer tableau (subst (λ u. IsCause u cause) (sym (ends Met e).0) told)

  pub stuck_wide : (cause : Cause) (answer : Wide) (position : ℕ) → IsTableau t → end ≡ Stuck position → IsCause (with_slots t slots) cause
      → IsWideFor t steps slots cause answer → Concludes pivots t slots (Unfit answer)
  stuck_wide cause answer position tableau e told = wide_concludes cause answer tableau (subst (λ u. IsCause u cause) (sym (ends (Stuck position) e).0) told)

  pub pivot_wide : (cause : Cause) (answer : Wide) → IsTableau t → end ≡ TooWide cause → IsWideFor t steps slots cause answer → Concludes pivots t slots (Unfit answer)
  pivot_wide cause answer tableau e = wide_concludes cause answer tableau (ends (TooWide cause) e)
