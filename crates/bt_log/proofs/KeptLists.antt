-- Steps whose lists lie in pools that grow.
use Rattle.std.proofs.Common.{◌≡◌, ℕ, ◌<◌, arith, List, [], ◌∷◌, ◌++◌, length, get_or, ap, sym, ◌∙◌, refl, subst, append-nil, length-append}
use Rattle.std.proofs.lemmas.List.{get_or_append_left}
use Rattle.std.proofs.lemmas.List.Elements.{All-nil, All-cons, All-head, All-tail, All-push}
use Rattle.bt_frac.specs.Ratio.{Ratio}
use Rattle.bt_cnf.specs.declared.literal.Lit.{Lit}
use Rattle.bt_log.specs.Logs.{Step}
use Rattle.bt_log.specs.Logs as step
use Rattle.bt_log.specs.declared.pooled_step.PooledStep.{PooledStep}
use Rattle.bt_log.specs.declared.pooled_step.PooledStep.TheVariants.{Lemma, Learnt}
use Rattle.bt_log.specs.inner.Keeping.{kept_step, kept_steps, IsKept, AreKept, Grows, IsAt}

pub grows_not : {X : Type 0} (xs : List (List X)) → Grows xs xs
grows_not xs = ([], sym (append-nil xs))

longer : {X : Type 0} (old new : List (List X)) (n : ℕ) → Grows old new → n < length old → n < length new
longer old new n grows inside = omega (arith, inside, ap length grows.1, length-append old grows.0)

stays : {X : Type 0} (old new : List (List X)) (n : ℕ) → Grows old new → n < length old → get_or new n [] ≡ get_or old n []
stays old new n grows inside = ap (λ xs. get_or xs n []) grows.1 ∙ get_or_append_left old grows.0 [] n inside

module _ (lits lits' : List (List Lit)) (weights weights' : List (List Ratio)) (hints hints' : List (List ℕ)) (more_lits : Grows lits lits') (more_weights : Grows weights weights')
    (more_hints : Grows hints hints') where
  pub is_kept : (kept : PooledStep) → IsKept lits weights hints kept → IsKept lits' weights' hints' kept
  is_kept (Lemma l w) is = (longer lits lits' l more_lits is.0, longer weights weights' w more_weights is.1)
  is_kept (Learnt l h) is = (longer lits lits' l more_lits is.0, longer hints hints' h more_hints is.1)

  pub same_step : (kept : PooledStep) → IsKept lits weights hints kept → kept_step lits' weights' hints' kept ≡ kept_step lits weights hints kept
  same_step (Lemma l w) is =
      ap (λ xs. step.Lemma xs (get_or weights' w [])) (stays lits lits' l more_lits is.0) ∙ ap (λ xs. step.Lemma (get_or lits l []) xs) (stays weights weights' w more_weights is.1)
  same_step (Learnt l h) is =
      ap (λ xs. step.Learnt xs (get_or hints' h [])) (stays lits lits' l more_lits is.0) ∙ ap (λ xs. step.Learnt (get_or lits l []) xs) (stays hints hints' h more_hints is.1)

  pub are_kept : (steps : List PooledStep) → AreKept lits weights hints steps → AreKept lits' weights' hints' steps
  are_kept [] are = All-nil (IsKept lits' weights' hints')
  are_kept (kept ∷ steps) are =
      All-cons (IsKept lits' weights' hints') kept steps (is_kept kept (All-head (IsKept lits weights hints) kept steps are))
      (are_kept steps (All-tail (IsKept lits weights hints) kept steps are))

  pub same_steps : (steps : List PooledStep) → AreKept lits weights hints steps → kept_steps lits' weights' hints' steps ≡ kept_steps lits weights hints steps
  same_steps [] are = refl
  same_steps (kept ∷ steps) are =
      ap (λ x. x ∷ kept_steps lits' weights' hints' steps) (same_step kept (All-head (IsKept lits weights hints) kept steps are))
      ∙ ap (λ xs. kept_step lits weights hints kept ∷ xs) (same_steps steps (All-tail (IsKept lits weights hints) kept steps are))

steps-push : (lits : List (List Lit)) (weights : List (List Ratio)) (hints : List (List ℕ)) (steps : List PooledStep) (kept : PooledStep)
    → kept_steps lits weights hints (steps ++ kept ∷ []) ≡ kept_steps lits weights hints steps ++ kept_step lits weights hints kept ∷ []
steps-push lits weights hints [] kept = refl
steps-push lits weights hints (s ∷ steps) kept = ap (λ xs. kept_step lits weights hints s ∷ xs) (steps-push lits weights hints steps kept)

-- with one more step
pub step_added : (lits : List (List Lit)) (weights : List (List Ratio)) (hints : List (List ℕ)) (steps later : List PooledStep) (kept : PooledStep) (before : List Step) (s : Step)
    → later ≡ steps ++ kept ∷ [] → kept_steps lits weights hints steps ≡ before → kept_step lits weights hints kept ≡ s → kept_steps lits weights hints later ≡ before ++ s ∷ []
step_added lits weights hints steps later kept before s is same here =
    ap (kept_steps lits weights hints) is ∙ steps-push lits weights hints steps kept ∙ ap (λ xs. xs ++ kept_step lits weights hints kept ∷ []) same ∙ ap (λ x. before ++ x ∷ []) here

pub kept_added : (lits : List (List Lit)) (weights : List (List Ratio)) (hints : List (List ℕ)) (steps later : List PooledStep) (kept : PooledStep) → later ≡ steps ++ kept ∷ []
    → AreKept lits weights hints steps → IsKept lits weights hints kept → AreKept lits weights hints later
kept_added lits weights hints steps later kept is are here = subst (AreKept lits weights hints) (sym is) (All-push (IsKept lits weights hints) steps kept are here)

-- the lists of a step are there, and are these
pub keeps_lemma : (lits : List (List Lit)) (weights : List (List Ratio)) (hints : List (List ℕ)) (l : List Lit) (w : List Ratio) (i j : ℕ) → IsAt lits l i → IsAt weights w j
    → IsKept lits weights hints (Lemma i j) × (kept_step lits weights hints (Lemma i j) ≡ step.Lemma l w)
keeps_lemma lits weights hints l w i j a b = ((a.0, b.0), ap (λ xs. step.Lemma xs (get_or weights j [])) a.1 ∙ ap (λ xs. step.Lemma l xs) b.1)

pub keeps_learnt : (lits : List (List Lit)) (weights : List (List Ratio)) (hints : List (List ℕ)) (l : List Lit) (h : List ℕ) (i j : ℕ) → IsAt lits l i → IsAt hints h j
    → IsKept lits weights hints (Learnt i j) × (kept_step lits weights hints (Learnt i j) ≡ step.Learnt l h)
keeps_learnt lits weights hints l h i j a b = ((a.0, b.0), ap (λ xs. step.Learnt xs (get_or hints j [])) a.1 ∙ ap (λ xs. step.Learnt l xs) b.1)
