-- What is printed of a log that refutes a placement formula is a certificate.
use Rattle.std.proofs.Common.{◌≡◌, ℕ, List, [], ◌∷◌, ◌++◌, get_or, refl, arith}
use Rattle.std.specs.List.{zip}
use Rattle.bt_frac.specs.Ratio.{Ratio}
use Rattle.bt_frac.specs.Rows.{RowParts}
use Rattle.bt_farkas.specs.Farkas.{IsWidePlace}
use Rattle.bt_farkas.specs.declared.places.Place.{Place}
use Rattle.bt_cnf.specs.declared.literal.Lit.{Lit}
use Rattle.bt_log.specs.Logs.{Step, Lemma, Learnt}
use Rattle.bt_cert.specs.Laws.{written_step}
use Rattle.bt_cert.specs.Judging.{Negate, IsWideNowhere}
use Rattle.bt_cert.proofs.Narrow.{steps_written}
use Rattle.bt_cert.proofs.Printed.{printed_is_certificate}
use Rattle.bt_model.specs.Requests.{LayoutRequest}
use Rattle.bt_place.specs.PlaceFormula.{place_formula}
use Rattle.bt_place.proofs.Sizing.{few_of_request}
use Rattle.bt_layout.specs.Laws.{NowhereIsCertificate}
use Rattle.bt_layout.proofs.Formulas.{place_is_formula}
use Rattle.bt_layout.proofs.Sizes.{clauses_few}

nothing_first : {X : Type 0} (front : List X) (here : X) (rest : List X) → [] ≡ front ++ here ∷ rest → ⊥
nothing_first [] here rest e = cc
nothing_first (x ∷ front) here rest e = cc

module _ (r : LayoutRequest) where
  -- the formula has no atoms, so no lemma has a row
  no_rows : (lits : List Lit) (rows : List RowParts) → Negate (place_formula r) lits rows → rows ≡ []
  no_rows [] [] h = refl
  no_rows [] (row ∷ rows) h = absurd h
  no_rows (l ∷ lits) [] h = refl
  no_rows (l ∷ lits) (row ∷ rows) h = let there = h.0.1.1 in absurd (omega (arith, there))

  none_wide : (weights : List Ratio) (rows : List RowParts) (row : ℕ) (place : Place) → rows ≡ [] → IsWidePlace (zip rows weights) row place → ⊥
  none_wide weights [] row place e wide = nothing_first wide.front wide.here wide.rest wide.split
  none_wide weights (x ∷ rows) row place e wide = cc

  wide_nowhere : (step : Step) → IsWideNowhere (place_formula r) (written_step step)
  wide_nowhere (Lemma lits weights) = λ w row place wide. none_wide weights w.rows row place (no_rows _ w.rows w.negated) wide
  wide_nowhere (Learnt lits hints) = tt

pub nowhere_is_certificate : NowhereIsCertificate
nowhere_is_certificate r steps is refutes few =
    let f = place_formula r in
    let vars = few_of_request r is in
    let clauses = clauses_few r is in
    printed_is_certificate f steps refutes.refutes
    (steps_written f (place_is_formula r is) (omega (arith, vars)) f.clauses steps (omega (arith, clauses, few)) refutes.refutes.valid)
    (λ k d lt. wide_nowhere r (get_or steps k d))
