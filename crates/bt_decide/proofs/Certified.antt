-- What is printed of a log that refutes a flow formula, or the formula of two networks, is a certificate.
use Rattle.std.proofs.Common.{◌≡◌, ◌<◌, ◌≤◌, ◌^◌, List, [], ◌++◌, length, sym, subst, arith}
use Rattle.std.specs.List.{All, zip}
use Rattle.std.proofs.lemmas.List.Elements.{All-weaker}
use Rattle.bt_farkas.specs.FalseSums.{MayWeigh}
use Rattle.bt_farkas.specs.Farkas.{IsWidePlace}
use Rattle.bt_cnf.specs.Formulas.{FormulaParts, IsFormula}
use Rattle.bt_log.specs.Logs.{Step, Lemma, Learnt}
use Rattle.bt_log.specs.LogText.{log_text}
use Rattle.bt_extend.specs.Extending.{extended, AreDefinitions}
use Rattle.bt_extend.specs.Texts.{definitions_text}
use Rattle.bt_extend.specs.declared.definition.Definition.{Definition}
use Rattle.bt_extend.proofs.Formed.{extended_is_formula}
use Rattle.bt_extend.proofs.Sizes.{vars_extended, clauses_extended}
use Rattle.bt_cert.specs.Laws.{written_step}
use Rattle.bt_cert.specs.declared.defining.TheConstants.{MOST_DEFINITIONS}
use Rattle.bt_cert.specs.Judging.{Negate, IsWideNowhere}
use Rattle.bt_cert.specs.Certificates.{IsCertificate}
use Rattle.bt_cert.proofs.Narrow.{steps_written}
use Rattle.bt_cert.proofs.OneJudgement.{rows_same}
use Rattle.bt_cert.proofs.Printed.{lits_back}
use Rattle.bt_cert.proofs.PrintedDefined.{all_stand, defined_is_certificate}
use Rattle.bt_flow_formula.specs.FlowFormula.{flow_formula}
use Rattle.bt_flow_formula.proofs.Formulas.{is_formula}
use Rattle.bt_flow_formula.proofs.Sizes.{flow_formulas_small}
use Rattle.bt_same.specs.SameFormula.{same_formula}
use Rattle.bt_same.proofs.Formed.{formed, same_formulas_small}
use Rattle.bt_theory.specs.Outcomes.{Fits, IsRefutation}
use Rattle.bt_decide.specs.Certified.{YesIsCertificate, SameIsCertificate}
use Rattle.bt_decide.proofs.SomeRows.{flow_formula_has_rows, same_formula_has_rows}

module _ (f : FormulaParts) (is : IsFormula f) where
  -- a sum that fits is wide nowhere, whichever rows are those of the atoms: there are no others
  wide_nowhere : (step : Step) → Fits f step → IsWideNowhere f (written_step step)
  wide_nowhere (Lemma lits weights) fits = λ w row place wide.
      let same = rows_same f is lits fits.rows w.rows fits.negated (subst (λ ls. Negate f ls w.rows) (lits_back lits) w.negated) in
      fits.accepted.0 (subst (λ rows. All MayWeigh (zip rows weights)) (sym same) w.weighed.weights_fit) row place (subst (λ rows. IsWidePlace (zip rows weights) row place) (sym same) wide)
  wide_nowhere (Learnt lits hints) fits = tt

-- what is printed of definitions of a formula that has rows, few variables and few clauses, and of a log that refutes
-- what they extend, and whose sums fit, is a certificate
printed : (f : FormulaParts) (definitions : List Definition) (steps : List Step) → IsFormula f → (f.atoms ≡ [] → ⊥) → f.vars < 2 ^ 22 → length f.clauses < 2 ^ 22
    → AreDefinitions f definitions → length definitions ≤ MOST_DEFINITIONS → IsRefutation (extended f definitions) steps → length steps < 10 ^ 17
    → IsCertificate f (definitions_text definitions ++ log_text steps)
printed f definitions steps is rows vars clauses are most refutes few =
    let further = extended f definitions in
    let formed = extended_is_formula f definitions is are in
    let few_vars = vars_extended f definitions in
    let few_clauses = clauses_extended f definitions are (omega (arith, vars, most)) in
    let written = steps_written further formed (omega (arith, vars, most, few_vars)) further.clauses steps (omega (arith, clauses, most, few_clauses, few)) refutes.refutes.valid in
    defined_is_certificate f definitions steps (all_stand f definitions are rows (omega (arith, vars, most))) most refutes.refutes written
    (All-weaker (Fits further) (λ step. IsWideNowhere further (written_step step)) (wide_nowhere further formed) steps refutes.sound.fits)

pub yes_is_certificate : YesIsCertificate
yes_is_certificate n p definitions steps is made refutes few =
    let small = flow_formulas_small n p is in
    let vars = small.vars in
    let clauses = small.clauses in
    printed (flow_formula n p) definitions steps (is_formula n p is) (flow_formula_has_rows n is p) (omega (arith, vars)) (omega (arith, clauses)) made.are made.few refutes few

pub same_is_certificate : SameIsCertificate
same_is_certificate a b definitions steps first second made refutes few =
    let small = same_formulas_small a b first second in
    printed (same_formula a b) definitions steps (formed a b first second) (same_formula_has_rows a b first) small.vars small.clauses made.are made.few refutes few
