-- Written steps, as the lists that a step line has and lends.
use Rattle.std.specs.Prelude.{ℕ, List, All}
use Rattle.bt_frac.specs.Ratio.{Ratio, IsLowest}
use Rattle.bt_cert.specs.StepLines as step
use Rattle.bt_extend.specs.Words.{IsNumber, IsWrittenLit}
use Rattle.bt_cert.specs.StepLines.{WrittenStep}
use Rattle.bt_cert.specs.declared.written.StepKind.{StepKind}
use Rattle.bt_cert.specs.declared.written.StepKind.TheVariants as kind
use Rattle.bt_extend.specs.declared.written.WrittenLit.{WrittenLit}
use Rattle.bt_cert.specs.declared.written.WrittenView.{WrittenView}
use Rattle.bt_cert.specs.declared.written.WrittenView.TheVariants.{Lemma, Learnt}

-- the step whose lists are lent
abbrev pub written_of : WrittenView → WrittenStep
written_of (Lemma lits weights) = step.Lemma lits.now weights.now
written_of (Learnt lits hints) = step.Learnt lits.now hints.now

-- the step of this kind with those of the lists that it has
abbrev pub step_of_kind : StepKind → List WrittenLit → List Ratio → List ℕ → WrittenStep
step_of_kind kind.Lemma lits weights hints = step.Lemma lits weights
step_of_kind kind.Learnt lits weights hints = step.Learnt lits hints

-- these lists may be written
pub record AreWritten (lits : List WrittenLit) (weights : List Ratio) (hints : List ℕ) : Type 0 where
  pub literals : All IsWrittenLit lits
  pub fractions : All IsLowest weights
  pub numbers : All IsNumber hints
