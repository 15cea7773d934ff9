use Rattle.std.proofs.Common.{◌≡◌, ◌+◌, Bool, false, IsTrue, ◌∷◌, ◌++◌, [], not, length, take, ap, sym, subst, ◌∙◌, length-set, Some}
use Rattle.std.proofs.lemmas.List.{take_more, take_all}
use Rattle.std.proofs.lemmas.Bool.{false≢true}
use Rattle.bt_cnf.specs.Formulas.{LitsBelow}
use Rattle.bt_cert.specs.inner.Assuming.{Tells, with_value}
use Rattle.bt_cert.proofs.Told.{joins_back, tells_more, no_both_signs, both_signs}
use Rattle.bt_cert.proofs.Walks.{among_front, among_at, var_below}
use Rattle.bt_cert.proofs.learnt.assume_false.Goals as goal

not_yet : (b : Bool) → b ≡ false → IsTrue b → ⊥
not_yet b is_no is_yes = false≢true (sym is_no ∙ is_yes)

pub returns-then-is_true-clause-assumed : goal.returns-then-is_true-clause-assumed
returns-then-is_true-clause-assumed c =
    let lits = c.args.lits.now in
    let i = c.loop-lit.lit-index in
    let lit = c.lit-item.result in
    let values = c.loop-lit.assumed in
    both_signs values (take i lits) lits lit c.loop-lit.invariant.tells
    (var_below lits i lit (length c.args.assumed.now) (length values) c.requires.lits c.loop-lit-test.true c.lit-item.is c.loop-lit.invariant.size)
    (c.is_true.ensures.0 c.if-is_true.true) (among_at lits i lit c.loop-lit-test.true c.lit-item.is) (λ m among. among_front lits i m among)

pub loop-lit-preserved : goal.loop-lit-preserved
loop-lit-preserved c =
    let lits = c.args.lits.now in
    let i = c.loop-lit.lit-index in
    let lit = c.lit-item.result in
    let values = c.loop-lit.assumed in
    let is = take_more lits i lit c.loop-lit-test.true ∙ ap (λ x. take i lits ++ x ∷ []) (sym c.lit-item.is) in
    let inside = var_below lits i lit (length c.args.assumed.now) (length values) c.requires.lits c.loop-lit-test.true c.lit-item.is c.loop-lit.invariant.size in
    record {
      size = ap length c.in_ok-assume.ensures.set ∙ length-set values lit.var (Some (not lit.positive)) ∙ c.loop-lit.invariant.size;
      tells =
          subst (λ now. Tells now (take (i + 1) lits)) (sym c.in_ok-assume.ensures.set)
          (subst (Tells (with_value values lit.var (not lit.positive))) (sym is)
          (tells_more values (take i lits) (take i lits ++ lit ∷ []) lit c.loop-lit.invariant.tells (joins_back (take i lits) lit) inside
          (λ is_true. not_yet c.is_true.result c.if-is_true.false (c.is_true.ensures.1 is_true))));
    }

pub returns-clause-assumed : goal.returns-clause-assumed
returns-clause-assumed c =
    let lits = c.args.lits.now in
    let values = c.loop-lit.assumed in
    let all = take_all c.loop-lit.lit-index lits c.loop-lit-test.false in
    let tells = subst (Tells values) all c.loop-lit.invariant.tells in
    (no_both_signs values lits tells (subst (λ n. LitsBelow n lits) (sym c.loop-lit.invariant.size) c.requires.lits), tells)
