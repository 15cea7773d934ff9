use Rattle.std.proofs.Common.{◌≡◌, Some, IfOk, ap, sym, ◌∙◌, subst}
use Rattle.bt_linear_forms.specs.Changes.{IsChange}
use Rattle.bt_linear_forms.specs.inner.Forms.{form_terms}
use Rattle.bt_linear_forms.proofs.line.Line.substitute.Goals.{in-Some+in_default-form, in_default}
use Rattle.bt_linear_forms.proofs.line.Line.substitute.Goals as goal

pub invariant_of-self : goal.invariant_of-self
invariant_of-self c = c.known.ensures

pub returns-in-Whole : goal.returns-in-Whole
returns-in-Whole c =
    subst (λ z. IfOk c.substitute-change.result (IsChange c.args.enters z (Some c.args.self.now) (Some c.substitute-change.new.self))) c.in-Some.ensures
    (subst (λ l. IfOk c.substitute-change.result (IsChange c.args.enters c.in-Some.other.now (Some l) (Some c.substitute-change.new.self))) (ap form_terms (sym c.in-Whole.is) ∙ c.self.view_is) c.substitute-change.ensures)

pub returns : goal.returns
returns c =
    let same : c.match-short.self ≡ c.args.self.now = elim c.match-short.branch [
      | in-Some+in_default-form w ↦ w.self-is ∙ c.self.view_is
      | in_default w ↦ w.self-is
    ] in
    subst (λ s. IsChange c.args.enters c.args.zero.now (Some s) (Some c.match-short.self) c.unchanged.result) same (c.unchanged.ensures c.args.zero.now)
