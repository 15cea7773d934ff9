use Rattle.std.proofs.Common.{◌≡◌, ◌∷◌, [], ◌++◌, ◌+◌, ℕ, List, Option, sym, subst, ap, ◌∙◌, arith, true, false}
use Rattle.std.specs.Option.{is_some}
use Rattle.bt_cnf.specs.Places.{IsPlaceOf}
use Rattle.bt_theory.specs.Reaching.{atom_vars}
use Rattle.bt_theory.proofs.Atoms.{IsSplitAt, split_found, split_other, split_all, found_at, not_found}
use Rattle.bt_theory.proofs.base.atoms_of.Goals as goal
use Rattle.bt_theory.proofs.base.atoms_of.Goals.{then-is_some+in_ok-push, else-is_some}

-- a place whose variable is an atom, and one whose variable is none
found : (vars items now : List ℕ) (place end var : ℕ) (o : Option ℕ) → IsPlaceOf vars var o → is_some o ≡ true → var ≡ place → now ≡ items ++ var ∷ [] → IsSplitAt vars items place end
    → IsSplitAt vars now (place + 1) end
found vars items now place end var o at some same e h =
    subst (λ l. IsSplitAt vars l (place + 1) end) (sym (e ∙ ap (λ v. items ++ v ∷ []) same)) (split_found vars items place end h (found_at vars place o (subst (λ v. IsPlaceOf vars v o) same at) some))

other : (vars items now : List ℕ) (place end var : ℕ) (o : Option ℕ) → IsPlaceOf vars var o → is_some o ≡ false → var ≡ place → now ≡ items → IsSplitAt vars items place end
    → IsSplitAt vars now (place + 1) end
other vars items now place end var o at none same e h =
    subst (λ l. IsSplitAt vars l (place + 1) end) (sym e) (split_other vars items place end h (not_found vars place o (subst (λ v. IsPlaceOf vars v o) same at) none))

pub loop-place-preserved : goal.loop-place-preserved
loop-place-preserved c =
    let vars = atom_vars c.args.formula.now in
    let items = c.loop-place.atoms.items in
    let end = c.args.formula.now.vars in
    elim c.if-is_some.branch [
      | then-is_some+in_ok-push w ↦
          found vars items c.if-is_some.atoms.items c.loop-place.place end c.in-Some.var c.row_of.result c.row_of.ensures (sym c.is_some.ensures ∙ w.if-is_some.true) c.in-Some.ensures.some
          (ap (λ v. v.items) w.atoms-is ∙ w.in_ok-push.ensures.items) c.loop-place.invariant
      | else-is_some w ↦
          other vars items c.if-is_some.atoms.items c.loop-place.place end c.in-Some.var c.row_of.result c.row_of.ensures (sym c.is_some.ensures ∙ w.if-is_some.false) c.in-Some.ensures.some
          (ap (λ v. v.items) w.atoms-is) c.loop-place.invariant
    ]

pub returns : goal.returns
returns c =
    let vars = atom_vars c.args.formula.now in
    let items = c.loop-place.atoms.items in
    let end = c.args.formula.now.vars in
    let at : c.loop-place.place ≡ end = (let a = c.loop-place.auto.place-end in let b = c.loop-place-test.false in let e = c.vars-place-end.ensures in omega (arith, a, b, e)) in
    split_all vars items end (subst (λ p. IsSplitAt vars items p end) at c.loop-place.invariant)
