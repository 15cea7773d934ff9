-- A search that begins.
use Rattle.std.specs.Prelude.{◌≡◌, ℕ, []}
use Rattle.bt_cnf.specs.Formulas.{FormulaParts}
use Rattle.bt_sat.specs.declared.progress.Progress.{Progress}
use Rattle.bt_sat.specs.inner.Progressing.{IsRunning}

-- the search may go on from the clauses of the formula, and nothing is logged
pub record IsLoaded (of : FormulaParts) (most : ℕ) (p : Progress) : Type 0 where
  pub formula : p.known.formula ≡ of
  pub steps : p.known.log.steps ≡ []
  pub limit : p.limit ≡ most
  pub running : IsRunning p
