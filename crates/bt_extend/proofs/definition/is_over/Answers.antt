use Rattle.std.proofs.Common.{◌≡◌, ◌-◌, length, slice_get, Some, List, ℕ, arith, sym, subst}
use Rattle.std.proofs.lemmas.Bool.{lt-ltb, ltb-true}
use Rattle.bt_frac.specs.Ratio.{Ratio}
use Rattle.bt_cnf.proofs.Ends.{IsLast, last_is}
use Rattle.bt_extend.specs.Forms.{FormParts, IsForm}
use Rattle.bt_extend.proofs.definition.is_over.Goals as goal

last_of : (form : FormParts) (terms : List (ℕ × Ratio)) (t : ℕ × Ratio) → terms ≡ form.terms → IsForm form → Some t ≡ slice_get terms (length terms - 1) → IsLast 0 form.terms t
last_of form terms t same is last = last_is 0 form.terms t is.columns (subst (λ ts. slice_get ts (length ts - 1) ≡ Some t) same (sym last))

pub returns-in-Some : goal.returns-in-Some
returns-in-Some c =
    let column = c.in-Some.field-0.now.0 in
    let last = last_of c.args.form.now c.terms.result.now c.in-Some.field-0.now c.terms.ensures.value c.terms.ensures.known c.in-Some.ensures.value in
    let end = last.end in (
      λ e. record { is_form = c.terms.ensures.known; within = let l = ltb-true column c.args.columns e in omega (arith, end, l) },
      λ o. lt-ltb column c.args.columns (let w = o.within in omega (arith, end, w)),
    )
