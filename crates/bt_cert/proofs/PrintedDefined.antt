-- What is printed of definitions, and of a log over the formula that they extend, is a certificate.
use Rattle.std.proofs.Common.{◌≡◌, ◌+◌, ◌*◌, ◌^◌, ◌<◌, ◌≤◌, List, [], ◌∷◌, ◌++◌, length, refl, subst, inr, arith, append-nil}
use Rattle.std.specs.List.{All, flat_map}
use Rattle.std.proofs.lemmas.List.Elements.{All-weaker}
use Rattle.bt_cnf.specs.Formulas.{FormulaParts}
use Rattle.bt_log.specs.Logs.{Step}
use Rattle.bt_log.specs.LogText.{log_text}
use Rattle.bt_log.specs.Refuting.{Refutes}
use Rattle.bt_extend.specs.Definitions.{IsDefinition}
use Rattle.bt_extend.specs.Extending.{with_definition, extended, AreDefinitions}
use Rattle.bt_extend.specs.Texts as text
use Rattle.bt_extend.specs.Texts.{definition_line, IsNumbered}
use Rattle.bt_extend.specs.declared.definition.NamedLit.{NamedLit}
use Rattle.bt_extend.specs.declared.definition.Definition.{Definition}
use Rattle.bt_extend.specs.declared.definition.Definition.TheVariants.{Comparison, Cases, Disjunction}
use Rattle.bt_extend.proofs.Formed.{named_below}
use Rattle.bt_extend.proofs.Sizes.{vars_with}
use Rattle.bt_cert.specs.Certificates.{AreDefined, IsCertificate, NoneComesFirst}
use Rattle.bt_cert.specs.Judging.{IsWideNowhere}
use Rattle.bt_cert.specs.Laws.{MayBeWritten, written_step}
use Rattle.bt_cert.specs.declared.defining.TheConstants.{MOST_DEFINITIONS}
use Rattle.bt_cert.specs.inner.Defining.{MayAllStand}
use Rattle.bt_cert.proofs.Defined.{lines_defined}
use Rattle.bt_cert.proofs.Earlier.{no_definition}
use Rattle.bt_cert.proofs.Printed.{printed_refutation}

-- ---- which definitions may stand

no_end : {A : Type 0} (xs : List A) (y : A) (ys : List A) → xs ++ y ∷ ys ≡ [] → ⊥
no_end [] y ys e = absurd cc
no_end (x ∷ xs) y ys e = absurd cc

-- a definition takes no row away
still_rows : (f : FormulaParts) (d : Definition) → (f.atoms ≡ [] → ⊥) → (with_definition f d).atoms ≡ [] → ⊥
still_rows f (Comparison form) rows e = no_end f.atoms _ _ e
still_rows f (Cases var first second) rows e = no_end _ _ _ e
still_rows f (Disjunction lits) rows e = rows e

-- a definition over few variables may be written
may_be_written : (f : FormulaParts) (d : Definition) → IsDefinition f d → f.vars < 10 ^ 17 → text.MayBeWritten d
may_be_written f (Comparison form) is few = is.is_form
may_be_written f (Cases var first second) is few = (omega (arith, is.0, few), is.1.is_form, is.2.is_form)
may_be_written f (Disjunction lits) is few =
    All-weaker (λ (l : NamedLit). l.var < f.vars) (λ (l : NamedLit). IsNumbered l.var) (λ l below. omega (arith, below, few)) lits (named_below f.vars 0 lits is.1)

-- definitions of a formula that has rows and few variables may stand in a certificate
pub all_stand : (f : FormulaParts) (ds : List Definition) → AreDefinitions f ds → (f.atoms ≡ [] → ⊥) → f.vars + 8 * length ds < 10 ^ 17 → MayAllStand f ds
all_stand f [] are rows few = tt
all_stand f (d ∷ ds) are rows few = (
  record { written = may_be_written f d are.0 (omega (arith, few)); defines = are.0; alone = λ none. absurd (rows none) },
  all_stand (with_definition f d) ds are.1 (still_rows f d rows) (omega (arith, few, vars_with f d)),
)

-- ---- certificates

pub defined_is_certificate : (f : FormulaParts) (ds : List Definition) (steps : List Step) → MayAllStand f ds → length ds ≤ MOST_DEFINITIONS
    → Refutes (extended f ds) steps → All MayBeWritten steps → All (λ step. IsWideNowhere (extended f ds) (written_step step)) steps
    → IsCertificate f (flat_map definition_line ds ++ log_text steps)
defined_is_certificate f ds steps stand few refutes all fits =
    let log = printed_refutation (extended f ds) steps refutes all fits in
    let none : NoneComesFirst (extended f ds) (log_text steps) =
    no_definition (extended f ds) (log_text steps) log.steps log.spells.blanks log.spells.written log.spells.begins in
    record {
      definitions = ds;
      rest = log_text steps;
      defined = subst (λ (es : List Definition). AreDefined MOST_DEFINITIONS f (flat_map definition_line ds ++ log_text steps) es (log_text steps)) (append-nil ds)
          (lines_defined MOST_DEFINITIONS f ds [] (log_text steps) (log_text steps) stand few (refl, inr none));
      read = log;
    }
