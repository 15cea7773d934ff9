-- The search, from conflict to conflict.
use Rattle.std.proofs.Common.{◌≡◌, ℕ, ◌<◌, List, [], ◌∷◌, ◌++◌, length, sym, subst, refl, ap, ◌∙◌, Option, None, Some, append-nil, append_assoc}
use Rattle.std.specs.List.{All}
use Rattle.std.proofs.lemmas.List.Elements.{All-nil, All-push}
use Rattle.bt_cnf.specs.declared.literal.Lit.{Lit}
use Rattle.bt_log.specs.Logs.{Step, LogParts}
use Rattle.bt_watch.specs.declared.search.Search.{Search}
use Rattle.bt_watch.specs.Levels.{Backjumps, IsHeld, IsOrdered, IsReady, Stands}
use Rattle.bt_sat.specs.Serving.{TellsSteps}
use Rattle.bt_sat.specs.Solving.{IsLearnt}
use Rattle.bt_sat.specs.declared.cdcl.Found.{Found}
use Rattle.bt_sat.specs.declared.cdcl.Found.TheVariants.{Model, Refuted, Spent}
use Rattle.bt_sat.specs.declared.logged_formula.LoggedFormula.{LoggedFormula}
use Rattle.bt_sat.specs.declared.progress.Progress.{Progress}
use Rattle.bt_sat.specs.inner.Choices.{KeepsLog}
use Rattle.bt_sat.specs.inner.Searching.{AssumesTo, Finds, Restarts, SearchesOn, LearnsAndTells, StepsOn}
use Rattle.bt_sat.specs.inner.Progressing.{KeepsFormula}
use Rattle.bt_cnf.proofs.Lists.{all_more}
use Rattle.bt_watch.proofs.Leveled
use Rattle.bt_sat.proofs.Served.{tells_more, tells_none, tells_step}

-- the search jumps back to a level that it has
pub ready_back : (all : List (List Lit)) (level : ℕ) (old new : Search) → IsOrdered all old → All (IsHeld old) all → Backjumps level old new → level < length old.starts.items
    → IsReady all (length new.assignment.trail.items) new
ready_back all level old new ordered held back known = record {
  ordered = Leveled.back_ordered all old new level ordered back;
  held = all_more (IsHeld old) (IsHeld new) all (Leveled.back_held all old new level ordered back) held;
  propagates = Leveled.back_propagated all old new level ordered back known;
}

-- the trail is in order, whether a clause is false or not
pub stands_ordered : (all : List (List Lit)) (propagated : ℕ) (s : Search) (conflict : Option ℕ) → Stands all propagated s conflict → IsOrdered all s
stands_ordered all propagated s None stands = stands.ordered
stands_ordered all propagated s (Some conflict) stands = stands.ordered

-- all clauses are kept where something was chosen
pub stands_held : (all : List (List Lit)) (propagated : ℕ) (s : Search) (conflict : Option ℕ) → Stands all propagated s conflict → 0 < length s.starts.items → All (IsHeld s) all
stands_held all propagated s None stands some = stands.held
stands_held all propagated s (Some conflict) stands some = stands.held some

-- the log is of the same formula still
pub kept_next : (old mid new : Progress) → KeepsFormula old mid → KeepsFormula mid new → KeepsFormula old new
kept_next old mid new was is = record {
  formula = is.formula ∙ was.formula;
  first = is.first ∙ was.first;
}

-- the search went back, and its log stays
pub restart_keeps : (old new : Progress) → Restarts old new → KeepsLog old new
restart_keeps old new back = record { known = back.known; limit = back.limit }

pub restart_kept : (old new : Progress) → Restarts old new → KeepsFormula old new
restart_kept old new back = record { formula = ap (λ (k : LoggedFormula). k.formula) back.known; first = ap (λ (k : LoggedFormula). k.log.first) back.known }

-- at first no step was added
pub searches_none : (p : Progress) (waiting : List (Option (List (List Lit)))) → SearchesOn p waiting p waiting
searches_none p waiting = record {
  added = [];
  learnt = All-nil IsLearnt;
  formula = refl;
  log = ap (λ ss. record_of p.known.log.first ss) (sym (append-nil p.known.log.steps));
  limit = refl;
  tells = tells_none p.known.log.steps waiting;
}
  where
    record_of : ℕ → List Step → LogParts
    record_of first steps = record { first = first; steps = steps }

-- nothing of the log has changed
pub searches_kept : (old mid new : Progress) (waiting left left' : List (Option (List (List Lit)))) → SearchesOn old waiting mid left → KeepsLog mid new → left' ≡ left → SearchesOn old waiting new left'
searches_kept old mid new waiting left left' on keeps same = record {
  added = on.added;
  learnt = on.learnt;
  formula = ap (λ (k : LoggedFormula). k.formula) keeps.known ∙ on.formula;
  log = ap (λ (k : LoggedFormula). k.log) keeps.known ∙ on.log;
  limit = keeps.limit ∙ on.limit;
  tells =
      subst (λ (k : LoggedFormula). TellsSteps old.known.log.steps k.log.steps waiting left') (sym keeps.known)
      (subst (TellsSteps old.known.log.steps mid.known.log.steps waiting) (sym same) on.tells);
}

-- one step more
pub searches_step : (old mid new : Progress) (waiting left left' : List (Option (List (List Lit)))) → SearchesOn old waiting mid left → StepsOn mid left new left' → SearchesOn old waiting new left'
searches_step old mid new waiting left left' on steps =
    let mid_steps : mid.known.log.steps ≡ old.known.log.steps ++ on.added = ap (λ (l : LogParts). l.steps) on.log in
    let new_steps : new.known.log.steps ≡ mid.known.log.steps ++ steps.step ∷ [] = ap (λ (l : LogParts). l.steps) steps.logs.log in
    let mid_first : mid.known.log.first ≡ old.known.log.first = ap (λ (l : LogParts). l.first) on.log in
    let make : ℕ → List Step → LogParts = λ first ss. record { first = first; steps = ss } in
    record {
      added = on.added ++ steps.step ∷ [];
      learnt = All-push IsLearnt on.added steps.step on.learnt steps.learnt;
      formula = steps.logs.formula ∙ on.formula;
      log =
          steps.logs.log ∙ ap (λ n. make n (mid.known.log.steps ++ steps.step ∷ [])) mid_first
          ∙ ap (make old.known.log.first) (ap (λ ss. ss ++ steps.step ∷ []) mid_steps ∙ append_assoc old.known.log.steps on.added (steps.step ∷ []));
      limit = steps.limit ∙ on.limit;
      tells =
          subst (λ all. TellsSteps old.known.log.steps all waiting left') (sym new_steps)
          (tells_more old.known.log.steps mid.known.log.steps (mid.known.log.steps ++ steps.step ∷ []) waiting left left' on.tells
          (tells_step mid.known.log.steps steps.step left left' steps.tells));
    }

-- the search came to its end at a conflict
pub searches_end : (old mid new : Progress) (waiting left left' : List (Option (List (List Lit)))) (found : Found) → SearchesOn old waiting mid left → LearnsAndTells mid left new left' (Some found)
    → SearchesOn old waiting new left' × Finds new found
searches_end old mid new waiting left left' Model on learns = absurd learns
searches_end old mid new waiting left left' Refuted on learns = (searches_step old mid new waiting left left' on learns.0, learns.1)
searches_end old mid new waiting left left' Spent on learns = (searches_kept old mid new waiting left left' on learns.0 learns.1, learns.2)

-- literals were made false until the search came to its end
pub assumes_end : (old mid new : Progress) (waiting left left' : List (Option (List (List Lit)))) (found : Found) → SearchesOn old waiting mid left → LearnsAndTells mid left new left' (Some found)
    → AssumesTo old waiting new left' (Some found)
assumes_end old mid new waiting left left' Model on learns = absurd learns
assumes_end old mid new waiting left left' Refuted on learns = (searches_step old mid new waiting left left' on learns.0, learns.1)
assumes_end old mid new waiting left left' Spent on learns = (searches_kept old mid new waiting left left' on learns.0 learns.1, learns.2)
