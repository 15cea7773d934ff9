use Rattle.std.proofs.Common.{map, Ok, Err, ap, sym, subst, ◌∙◌}
use Rattle.bt_cnf.specs.Formulas.{LitsBelow, IsFormula}
use Rattle.bt_cert.specs.inner.Checking.{Checking}
use Rattle.bt_cert.specs.StepLines.{lit_of}
use Rattle.bt_cert.specs.inner.Knowing.{AddsClause}
use Rattle.bt_cert.specs.inner.Reading.{AreRead}
use Rattle.bt_cert.specs.inner.Weighing.{JudgesLemma}
use Rattle.bt_cert.proofs.Stepped.{lemma_unread, lemma_refused, lemma_kept}
use Rattle.bt_cert.proofs.checker.Checker.judge_lemma.Goals as goal

pub returns-then-not-branch : goal.returns-then-not-branch
returns-then-not-branch c =
    let old = c.args.self.now in
    let unread = subst (AreRead c.formula-formula.result.now.vars c.args.lits.now c.read_lits.new.lits.items) c.if-not-branch.true c.in_ok-read_lits.ensures in
    let same = c.formula-formula.ensures.value ∙ ap (λ (k : Checking). k.formula) c.self.view_is in
    lemma_unread old c.self.inside.known (ap (λ (k : Checking). k.formula) c.self.view_is) c.args.lits.now c.args.weights.now
    (subst (λ (k : Checking). IsFormula k.formula) c.self.view_is c.formula-formula.ensures.sound.formula)
    (λ below. unread (subst (λ n. LitsBelow n (map lit_of c.args.lits.now)) (sym (ap (λ f. f.vars) same)) below))

pub returns-in-Err : goal.returns-in-Err
returns-in-Err c =
    let weights = c.args.weights.now in
    let fault = c.in-Err.fault in
    let read = subst (AreRead c.formula-formula.result.now.vars c.args.lits.now c.read_lits.new.lits.items) c.if-not-branch.false c.in_ok-read_lits.ensures in
    let same = c.formula-formula.ensures.value ∙ ap (λ (k : Checking). k.formula) c.self.view_is in
    lemma_refused c.args.self.now c.self.inside.known (ap (λ (k : Checking). k.formula) c.self.view_is) c.args.lits.now weights fault
    (subst (λ f. JudgesLemma f (map lit_of c.args.lits.now) weights (Err fault)) same
    (subst (λ xs. JudgesLemma c.formula-formula.result.now xs weights (Err fault)) (c.deref.ensures.value ∙ read.0) c.in-Err.ensures))

pub returns : goal.returns
returns c =
    let old = c.args.self.now in
    let weights = c.args.weights.now in
    let read = subst (AreRead c.formula-formula.result.now.vars c.args.lits.now c.read_lits.new.lits.items) c.if-not-branch.false c.in_ok-read_lits.ensures in
    let same = c.formula-formula.ensures.value ∙ ap (λ (k : Checking). k.formula) c.self.view_is in
    lemma_kept old c.add.new.self c.args.lits.now c.in_ok-add.field-0
    (subst (λ known. AddsClause known (map lit_of c.args.lits.now) c.add.new.self c.in_ok-add.field-0) c.self.view_is
    (subst (λ xs. AddsClause c.self.inside.known xs c.add.new.self c.in_ok-add.field-0) (c.deref-2.ensures.value ∙ read.0) c.in_ok-add.ensures.added))
    weights
    (subst (λ f. JudgesLemma f (map lit_of c.args.lits.now) weights (Ok tt)) same
    (subst (λ xs. JudgesLemma c.formula-formula.result.now xs weights (Ok tt)) (c.deref.ensures.value ∙ read.0) c.in_default.ensures))
