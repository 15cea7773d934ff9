-- A lemma is a step of the log.
use Rattle.std.proofs.Common.{◌≡◌, ◌≢◌, ◌<◌, inl, inr, arith, List, [], ◌∷◌, length, refl, ap, ◌∙◌}
use Rattle.std.specs.List.{zip}
use Rattle.std.proofs.lemmas.Int.{ints}
use Rattle.std.proofs.lemmas.Slice.Zip.{AllZip-long}
use Rattle.bt_frac.specs.Ratio.{Ratio}
use Rattle.bt_cnf.specs.Formulas.{FormulaParts}
use Rattle.bt_cnf.specs.declared.literal.Lit.{Lit}
use Rattle.bt_log.specs.Validity.{IsValidLemma, NegatesAtom}
use Rattle.bt_watch.specs.Reasons.{AreSame}
use Rattle.bt_cnf.proofs.Lists.{none_in}

-- no rows are weighted
no_rows : {X Y : Type 0} (xs : List X) (ys : List Y) → length xs ≡ 0 → length ys ≡ 0 → zip xs ys ≡ []
no_rows [] [] none_x none_y = refl
no_rows (x ∷ xs) ys none_x none_y = absurd (omega (arith, none_x))
no_rows [] (y ∷ ys) none_x none_y = absurd (omega (arith, none_y))

-- the sum of no rows isn't false, so that no lemma is empty
pub some_lits : (f : FormulaParts) (lits : List Lit) (weights : List Ratio) → IsValidLemma f lits weights → lits ≢ []
some_lits f lits weights valid none =
    let size : length lits ≡ 0 = ap length none in
    let empty : zip valid.rows weights ≡ [] = no_rows valid.rows weights (AllZip-long (NegatesAtom f) lits valid.rows valid.negated ∙ size) (valid.counted ∙ size) in
    elim valid.false_sum.bounds [
      | inl less ↦ omega (arith, ints, simp empty at less)
      | inr (same, (k, row, small, above, positive)) ↦ omega (arith, small, ap length empty)
    ]

-- the same literals are as many as one or more
pub some_same : (old new : List Lit) → AreSame old new → old ≢ [] → 0 < length new
some_same [] new same some = absurd (some refl)
some_same (l ∷ old) [] same some = absurd (none_in l ((same l).0 (0, omega arith, refl)))
some_same (l ∷ old) (m ∷ new) same some = omega arith
