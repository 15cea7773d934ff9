-- What trying goals comes to.
use Rattle.std.proofs.Common.{◌≡◌, ℕ, ◌<◌, ◌≤◌, Bool, List, length, Option, Some, ap, ◌∙◌, arith, length-append}
use Rattle.std.specs.List.{All, Any}
use Rattle.std.proofs.lemmas.List.Elements.{All-weaker}
use Rattle.bt_frac.specs.Rows.{RowParts}
use Rattle.bt_log.specs.Logs.{Step}
use Rattle.bt_sat.specs.Answering.{Assumes, GivesNext}
use Rattle.bt_sat.specs.Solving.{SolverParts, IsLearnt, GoesOnBy}
use Rattle.bt_sat.specs.declared.answer.Answer.{Answer}
use Rattle.bt_sat.specs.declared.answer.Answer.TheVariants as answer
use Rattle.bt_sat.specs.declared.answer.Assumed.{Assumed}
use Rattle.bt_sat.specs.declared.answer.Assumed.TheVariants as assumed
use Rattle.bt_theory.specs.Outcomes.{Fits}
use Rattle.bt_theory.specs.declared.base.Base.{Base}
use Rattle.bt_theory.specs.inner.Goals.{AllFit, GoesOn, IsOfSame, IsPossible, IsGrown, IsTry}
use Rattle.bt_theory.specs.inner.Rounds.{IsEnd, IsRound}
use Rattle.bt_theory.specs.inner.Scopes.{IsConflictIn, IsScopeOf}
use Rattle.bt_theory.specs.declared.goal.Tried.{Tried}
use Rattle.bt_theory.specs.declared.goal.Tried.TheVariants as tried
use Rattle.bt_theory.specs.declared.lemma.Conflict.{Conflict}
use Rattle.bt_theory.specs.declared.round.End.{End}
use Rattle.bt_theory.specs.declared.round.End.TheVariants as end
use Rattle.bt_cnf.specs.Formulas.{FormulaParts}
use Rattle.bt_cnf.specs.declared.literal.Lit.{Lit}
use Rattle.bt_theory.proofs.Rounds.{conflict_among, fits_on, learnt_fit, sound_log, used_up}
use Rattle.bt_pivot.specs.Tableaus.{TableauParts}

-- the search goes on with more steps
advances : (s s' : SolverParts) (more : List Step) → GoesOnBy more s s' → AllFit s → All (Fits s.formula) more → length s'.steps ≤ s'.limit → GoesOn s s'
advances s s' more goes fits also within =
    let long = ap length goes.steps ∙ length-append s.steps more in
    record {
      same = record { formula = goes.formula; limit = goes.limit };
      fits = fits_on s s' more goes fits also;
      more = omega (arith, long);
      within = within;
    }

-- with learnt ones
learns : (s s' : SolverParts) (more : List Step) → GoesOnBy more s s' → AllFit s → All IsLearnt more → length s'.steps ≤ s'.limit → GoesOn s s'
learns s s' more goes fits learnt within = advances s s' more goes fits (All-weaker IsLearnt (Fits s.formula) (learnt_fit s.formula) more learnt) within

module _ (old new : SolverParts) (waiting left : List (Option (List (List Lit)))) (fits : AllFit old) where
  pub assumed_on : (said : Assumed) → Assumes old waiting new left said → GoesOn old new
  assumed_on said a = learns old new a.added a.goes_on fits a.learnt a.sound.within

  pub assumed_refuted : (pivots : ℕ) → Assumes old waiting new left assumed.Refuted → IsTry pivots old new (tried.Ends end.Refuted)
  assumed_refuted pivots a =
      let on = assumed_on assumed.Refuted a in
      (on.same, λ _. (record { sound = sound_log new a.sound on.fits; refutes = a.says.1 }, a.sound.within))

  pub assumed_spent : (pivots : ℕ) → Assumes old waiting new left assumed.Spent → IsTry pivots old new (tried.Ends end.Spent)
  assumed_spent pivots a =
      let on = assumed_on assumed.Spent a in
      (on.same, λ _. used_up new a.sound on.fits a.says.1)

  pub given_on : (a : Answer) → GivesNext old waiting new left a → GoesOn old new
  given_on a gives = learns old new gives.added gives.goes_on fits gives.learnt gives.sound.within

  pub given_refuted : (pivots : ℕ) → GivesNext old waiting new left answer.Refuted → IsTry pivots old new (tried.Ends end.Refuted)
  given_refuted pivots a =
      let on = given_on answer.Refuted a in
      (on.same, λ _. (record { sound = sound_log new a.sound on.fits; refutes = a.says.1 }, a.sound.within))

  pub given_spent : (pivots : ℕ) → GivesNext old waiting new left answer.Spent → IsTry pivots old new (tried.Ends end.Spent)
  given_spent pivots a =
      let on = given_on answer.Spent a in
      (on.same, λ _. used_up new a.sound on.fits a.says.1)

-- a goal is worth another try where the log has grown
pub grown_try : (pivots : ℕ) (old new : SolverParts) (before now : ℕ) (said : Tried) → GoesOn old new → before ≡ length old.steps → now ≡ length new.steps → IsGrown before now said
    → IsTry pivots old new said
grown_try pivots old new before now tried.Done on was is grown = on
grown_try pivots old new before now tried.Again on was is grown = (on, (let l : length old.steps < length new.steps = omega (arith, was, is, grown) in l))
grown_try pivots old new before now (tried.Ends e) on was is grown = absurd grown

same_next : (old mid new : SolverParts) → IsOfSame old mid → IsOfSame mid new → IsOfSame old new
same_next old mid new was is = record { formula = is.formula ∙ was.formula; limit = is.limit ∙ was.limit }

-- one after the other
goes_next : (old mid new : SolverParts) → GoesOn old mid → GoesOn mid new → GoesOn old new
goes_next old mid new was is = record {
  same = same_next old mid new was.same is.same;
  fits = is.fits;
  more = omega (arith, was.more, is.more);
  within = is.within;
}

pub then_try : (pivots : ℕ) (old mid new : SolverParts) (said : Tried) → GoesOn old mid → IsTry pivots mid new said → IsTry pivots old new said
then_try pivots old mid new tried.Done on is = goes_next old mid new on is
then_try pivots old mid new tried.Again on is =
    let first = on.more in
    let second = is.1 in
    (goes_next old mid new on is.0, (let l : length old.steps < length new.steps = omega (arith, first, second) in l))
then_try pivots old mid new (tried.Ends e) on is = (same_next old mid new on.same is.0, is.1)

-- the conflict that scopes have is one of the formula
pub possible : (f : FormulaParts) (truths : List Bool) (conflict : Conflict) (scopes : List (List ℕ × List RowParts)) → All (IsScopeOf f) scopes → Any (IsConflictIn truths conflict) scopes → IsPossible f conflict
possible f truths conflict scopes are found = record { assignment = truths; is = conflict_among f truths conflict scopes are found }

-- the search is at an end by a goal
pub goals_end : (pivots : ℕ) (b : Base) (old new : SolverParts) (t : TableauParts) (e : End) → IsOfSame old new × ((b : Base) → IsEnd pivots b new e) → IsRound pivots b old new t (Some e)
goals_end pivots b old new t e (same, says) = record { formula = same.formula; limit = same.limit; says = says b }
