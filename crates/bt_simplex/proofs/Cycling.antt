-- No run of Bland's pivots comes back to a basis.
use Rattle.std.proofs.Common.{◌≡◌, ◌≢◌, ◌⊎◌, ◌↔◌, inl, inr, ◌<◌, ◌≤◌, arith, List, ◌∷◌, Some, None, ap, sym, ◌∙◌, refl, subst, ℕ}
use Rattle.bt_frac.specs.Deltas.{IsLessDelta}
use Rattle.bt_frac.specs.Ratio.{Ratio}
use Rattle.bt_frac.specs.Rows.{RowParts}
use Rattle.bt_frac.specs.Values.{times}
use Rattle.bt_frac.specs.declared.delta.Delta.{Delta}
use Rattle.bt_frac.specs.declared.relation.Relation.TheVariants.{Equal}
use Rattle.bt_farkas.specs.WeightedRows.{coefficient_at}
use Rattle.bt_simplex.specs.Laws.{NoBasisComesBack}
use Rattle.bt_pivot.specs.Points.{bound_value, bound_row, value_or_zero, resting, standing, point_at, Breaks, Fails}
use Rattle.bt_pivot.specs.SolvedForms.{Slots, IsOutside, InBasis}
use Rattle.bt_pivot.specs.Tableaus.{TableauParts, IsTableau, with_slots}
use Rattle.bt_simplex.specs.Pivots.{MovesTowards, MayMove, IsBlandPivot, Follows}
use Rattle.bt_pivot.specs.declared.basis.Pivot.{Pivot}
use Rattle.bt_pivot.proofs.Failing.{row_is}
use Rattle.bt_linear_forms.proofs.Indicators.{decide}
use Rattle.bt_simplex.proofs.Lexical.{IsUp, less, HasSome, still_up, rises_up, falls_up, less_than}
use Rattle.bt_simplex.proofs.Refutations.{line_all, never_both}
use Rattle.bt_pivot.proofs.Resting.{point_some, rest_value, rest_tiny, bound_within}
use Rattle.bt_simplex.proofs.Signs.{IsAbove}
use Rattle.bt_simplex.proofs.BasisOf.{same_members}
use Rattle.bt_simplex.proofs.Stretches.{in_or_out, not_in, enters_out, leaves_in, Made, IsMadeOf, Moves, IsMadeAt, made_at, enters_leaves, leaves_enters, differs_moves, IsGreatest, greatest}
use Rattle.bt_simplex.proofs.TwoPoints.{not_higher}
use Rattle.bt_linear_forms.proofs.Zeros.{named_has}

-- the position is a bound row that is no equation
pub record IsOneSided (t : TableauParts) (position : ℕ) : Type 0 where
  pub row : RowParts
  pub is_bound : bound_row t position ≡ Some row
  pub unequal : row.relation ≢ Equal

-- such a position fails only below its bound value
one_sided_below : (t : TableauParts) (position : ℕ) (row : RowParts) → IsOneSided t position → bound_row t position ≡ Some row → Breaks row (point_at t position) → IsLessDelta (point_at t position) (bound_value row)
one_sided_below t position row sided is_bound (inl below) = below
one_sided_below t position row sided is_bound (inr (equal, above)) = absurd (sided.unequal (ap (λ (r : RowParts). r.relation) (row_is sided.row row (bound_row t position) sided.is_bound is_bound) ∙ equal))

fails_below : (t : TableauParts) (position : ℕ) (sided : IsOneSided t position) → Fails t position → IsLessDelta (point_at t position) (bound_value sided.row)
fails_below t position sided fails =
    subst (λ r. IsLessDelta (point_at t position) (bound_value r)) (row_is fails.row sided.row (bound_row t position) fails.is_bound sided.is_bound)
    (one_sided_below t position fails.row sided fails.is_bound fails.breaks)

-- outside the basis it stands at its bound value
rests_at_bound : (t : TableauParts) (position : ℕ) (sided : IsOneSided t position) → resting t position ≡ bound_value sided.row
rests_at_bound t position sided = ap value_or_zero sided.is_bound

stands_at_rest : (t : TableauParts) (position : ℕ) → (InBasis t.slots position → ⊥) → point_at t position ≡ resting t position
stands_at_rest t position out = ap (λ o. standing (resting t) position o) (not_in t.slots position out)

some_at : (t : TableauParts) → IsTableau t → (p : ℕ) → HasSome (point_at t p)
some_at t tableau p = record { value = (point_some t tableau p).0; tiny = (point_some t tableau p).1 }

-- two bases of one run: at the first one position leaves and another, which the second one loses, enters
module _ (t : TableauParts) (slots : Slots) (pivot : Pivot) (leaving : Pivot) (tableau : IsTableau t) (other : IsTableau (with_slots t slots)) (bland : IsBlandPivot t pivot) (bland' : IsBlandPivot (with_slots t slots) leaving)
    (same : leaving.leaves ≡ pivot.enters) (sided : (p : ℕ) → (p ≡ pivot.leaves) ⊎ ((InBasis t.slots p → ⊥) × InBasis slots p) → IsOneSided t p × (p ≤ pivot.enters)) where
  -- no lesser position fails at the second basis
  spared : (j : ℕ) → j < pivot.enters → Fails (with_slots t slots) j → ⊥
  spared j before fails = let low = bland'.leaves.1 j fails in omega (arith, low, before, same)

  apart : pivot.leaves ≢ pivot.enters
  apart e = enters_out t pivot tableau bland (subst (λ n. InBasis t.slots n) e (leaves_in t pivot bland))

  own : IsOneSided t pivot.leaves
  own = (sided pivot.leaves (inl refl)).0

  before : pivot.leaves < pivot.enters
  before = let most = (sided pivot.leaves (inl refl)).1 in less pivot.leaves pivot.enters most apart
    where
      less : (m n : ℕ) → m ≤ n → m ≢ n → m < n
      less m n low apart = omega (arith, low, apart)

  -- a position that doesn't fail at the second basis isn't below its bound value there
  not_below : (j : ℕ) (is : IsOneSided t j) → (Fails (with_slots t slots) j → ⊥) → IsLessDelta (point_at (with_slots t slots) j) (bound_value is.row) → ⊥
  not_below j is holds low = elim (in_or_out slots j) [
    | inl has ↦ holds (record { basic = has; row = is.row; is_bound = is.is_bound; breaks = inl low })
    | inr out ↦
        let at : point_at (with_slots t slots) j ≡ bound_value is.row = stands_at_rest (with_slots t slots) j out ∙ rests_at_bound t j is in
        let both = subst (λ d. IsLessDelta d (bound_value is.row)) at low in
        never_both (bound_value is.row) (bound_value is.row) both both
  ]

  below : IsLessDelta (point_at t pivot.leaves) (bound_value own.row)
  below = fails_below t pivot.leaves own bland.leaves.0

  bound_some : HasSome (bound_value own.row)
  bound_some = subst HasSome (rests_at_bound t pivot.leaves own) (record { value = rest_value t tableau.rows pivot.leaves; tiny = rest_tiny t pivot.leaves })

  -- so the position that leaves at the first basis stands higher at the second
  higher : IsLessDelta (point_at t pivot.leaves) (point_at (with_slots t slots) pivot.leaves)
  higher =
      less_than (point_at t pivot.leaves) (bound_value own.row) (point_at (with_slots t slots) pivot.leaves) (some_at t tableau pivot.leaves) bound_some (some_at (with_slots t slots) other pivot.leaves) below
      (not_below pivot.leaves own (spared pivot.leaves before))

  -- what moves it towards its bound value is above 0
  moves_up : (number : Ratio) (row : RowParts) → bound_row t pivot.leaves ≡ Some row → MovesTowards row (point_at t pivot.leaves) number → IsAbove number
  moves_up number row is (inl (low, up)) = up
  moves_up number row is (inr (high, down)) =
      absurd (never_both (point_at t pivot.leaves) (bound_value row) (subst (λ r. IsLessDelta (point_at t pivot.leaves) (bound_value r)) (row_is own.row row (bound_row t pivot.leaves) own.is_bound is) below) high)

  may_up : (e : ℕ) (number : Ratio) → IsOneSided t e → MayMove t pivot.leaves e number → IsAbove number
  may_up e number is (inl none) = let both : None ≡ Some is.row = sym none ∙ is.is_bound in absurd cc
  may_up e number is (inr (o, is_other, unequal, (row, is_row, moves))) = moves_up number row is_row moves

  adds : (j : ℕ) (number : Ratio) → Type 0
  adds j number =
      IsUp (times number (less (resting t j).value (point_at (with_slots t slots) j).value)) (times number (less (resting t j).tiny (point_at (with_slots t slots) j).tiny))

  -- the position that enters is below its bound value at the second basis
  entering_adds : (number : Ratio) → IsOneSided t pivot.enters → coefficient_at pivot.enters bland.enters.0.terms ≡ Some number → adds pivot.enters number
  unfolding adds
  entering_adds number is named =
      rises_up number (resting t pivot.enters) (point_at (with_slots t slots) pivot.enters)
      (subst IsAbove number_is (may_up pivot.enters bland.enters.0.number is bland.enters.0.may_move))
      (subst (λ d. IsLessDelta (point_at (with_slots t slots) pivot.enters) d) (sym (rests_at_bound t pivot.enters is))
      (fails_below (with_slots t slots) pivot.enters (record { row = is.row; is_bound = is.is_bound; unequal = is.unequal }) (subst (λ n. Fails (with_slots t slots) n) same bland'.leaves.0)))
    where
      number_is : bland.enters.0.number ≡ number
      number_is = let both : Some bland.enters.0.number ≡ Some number = sym bland.enters.0.names ∙ named in cc

  -- a lesser one can't enter at the first basis, and doesn't fail at the second
  lesser_adds : (j : ℕ) (number : Ratio) → IsOneSided t j → j < pivot.enters → coefficient_at j bland.enters.0.terms ≡ Some number → adds j number
  unfolding adds
  lesser_adds j number is less named =
      falls_up number (resting t j) (point_at (with_slots t slots) j) (λ above. cant above)
      (λ low. not_below j is (spared j less) (subst (λ d. IsLessDelta (point_at (with_slots t slots) j) d) (rests_at_bound t j is) low))
    where
      cant : IsAbove number → ⊥
      cant above =
          let least = bland.enters.1 j (record {
            terms = bland.enters.0.terms;
            line = bland.enters.0.line;
            number = number;
            names = named;
            may_move = inr (is.row, is.is_bound, is.unequal, (own.row, own.is_bound, inl (below, above)));
          }) in
          omega (arith, least, less)

  each_adds : (j : ℕ) (number : Ratio) → coefficient_at j bland.enters.0.terms ≡ Some number → adds j number
  unfolding adds
  each_adds j number named = elim (in_or_out slots j) [
    | inr out ↦
        subst (λ (d : Delta). IsUp (times number (less (resting t j).value d.value)) (times number (less (resting t j).tiny d.tiny))) (sym (stands_at_rest (with_slots t slots) j out))
        (still_up number (resting t j) (resting t j) refl refl)
    | inl has ↦
        let out = named_has (λ q. IsOutside t.slots q) j bland.enters.0.terms number (tableau.solved.lines pivot.leaves bland.enters.0.terms bland.enters.0.line).1 named in
        let is = sided j (inr (λ h. outside j out h, has)) in
        elim (decide j pivot.enters) [
          | inl here ↦ subst (λ n. adds n number) (sym here) (entering_adds number (subst (λ n. IsOneSided t n) here is.0) (subst (λ n. coefficient_at n bland.enters.0.terms ≡ Some number) here named))
          | inr away ↦ lesser_adds j number is.0 (before_it j pivot.enters is.1 away) named
        ]
  ]
    where
      outside : (j : ℕ) → IsOutside t.slots j → InBasis t.slots j → ⊥
      outside j out h = let both : None ≡ Some h.0 = sym out.outside ∙ h.1 in cc

      before_it : (m n : ℕ) → m ≤ n → m ≢ n → m < n
      before_it m n low apart = omega (arith, low, apart)

  pub never : ⊥
  unfolding adds
  never =
      let line = bland.enters.0.line in
      let within = bound_within t tableau pivot.leaves own.row own.is_bound in
      let of = (tableau.solved.lines pivot.leaves bland.enters.0.terms line).0 in
      not_higher t slots tableau other pivot.leaves bland.enters.0.terms line within
      (line_all (λ u. adds u.0 u.1) bland.enters.0.terms of (λ q z named. each_adds q z named)) higher

-- a run that comes back
module _ (t : TableauParts) (first : Pivot) (steps : List Pivot) (t' : TableauParts) (follows : Follows t (first ∷ steps) t') (tableau : IsTableau t) (same : (p : ℕ) → InBasis t'.slots p ↔ InBasis t.slots p) where
  made_is : (at : TableauParts) (pivot : Pivot) → Made t (first ∷ steps) t' follows at pivot → IsMadeAt t at pivot
  made_is at pivot made = made_at t (first ∷ steps) t' follows at pivot tableau made

  bound_same : (at : TableauParts) (pivot : Pivot) → Made t (first ∷ steps) t' follows at pivot → (p : ℕ) → bound_row at p ≡ bound_row t p
  bound_same at pivot made p = ap (λ u. bound_row u p) (made_is at pivot made).stays

  -- what enters is a bound row that is no equation
  entered_sided : (at : TableauParts) (pivot : Pivot) (made : Made t (first ∷ steps) t' follows at pivot) (p : ℕ) → pivot.enters ≡ p → IsOneSided t p
  entered_sided at pivot made p is = by (enters_leaves t (first ∷ steps) t' follows tableau same at pivot made)
    where
      sided : (row : RowParts) → bound_row t pivot.enters ≡ Some row → MayMove at pivot.leaves pivot.enters (made_is at pivot made).bland.enters.0.number → IsOneSided t pivot.enters
      sided row bound (inl none) = let both : None ≡ Some row = sym none ∙ bound_same at pivot made pivot.enters ∙ bound in absurd cc
      sided row bound (inr (other, is_other, unequal, moves)) = record { row = other; is_bound = sym (bound_same at pivot made pivot.enters) ∙ is_other; unequal = unequal }

      by : IsMadeOf t (first ∷ steps) t' follows (λ u. u.leaves) pivot.enters → IsOneSided t p
      by (b, (v, made', leaves)) =
          let fails = (made_is b v made').bland.leaves.0 in
          let bound : bound_row t pivot.enters ≡ Some fails.row = ap (λ n. bound_row t n) (sym leaves) ∙ sym (bound_same b v made' v.leaves) ∙ fails.is_bound in
          subst (λ n. IsOneSided t n) is (sided fails.row bound (made_is at pivot made).bland.enters.0.may_move)

  pub comes_back : ⊥
  comes_back = by (greatest t first steps t' follows)
    where
      by : (at : TableauParts) × ((pivot : Pivot) × IsGreatest t (first ∷ steps) t' follows at pivot) → ⊥
      by (at, (pivot, is)) = with_leaving (enters_leaves t (first ∷ steps) t' follows tableau same at pivot is.made)
        where
          here : IsMadeAt t at pivot
          here = made_is at pivot is.made

          sided_at : (p : ℕ) → IsMadeOf t (first ∷ steps) t' follows (λ u. u.enters) p → IsOneSided at p × (p ≤ pivot.enters)
          sided_at p (b, (v, made, enters)) =
              let low = is.most b v made in
              let of = entered_sided b v made p enters in (
                record { row = of.row; is_bound = bound_same at pivot is.made p ∙ of.is_bound; unequal = of.unequal },
                omega (arith, low, enters),
              )

          with_leaving : IsMadeOf t (first ∷ steps) t' follows (λ u. u.leaves) pivot.enters → ⊥
          with_leaving (b, (v, made, leaves)) =
              never at b.slots pivot v here.tableau (subst IsTableau there_is there.tableau) here.bland (subst (λ u. IsBlandPivot u v) there_is there.bland) leaves sided
            where
              there : IsMadeAt t b v
              there = made_is b v made

              there_is : b ≡ with_slots at b.slots
              there_is = there.stays ∙ sym (ap (λ u. with_slots u b.slots) here.stays)

              sided : (p : ℕ) → (p ≡ pivot.leaves) ⊎ ((InBasis at.slots p → ⊥) × InBasis b.slots p) → IsOneSided at p × (p ≤ pivot.enters)
              sided p (inl own) = sided_at p (subst (λ n. IsMadeOf t (first ∷ steps) t' follows (λ u. u.enters) n) (sym own) (leaves_enters t (first ∷ steps) t' follows tableau same at pivot is.made))
              sided p (inr (out, has)) = moved (differs_moves t (first ∷ steps) t' follows at b pivot v p is.made made out has)
                where
                  moved : Moves t (first ∷ steps) t' follows p → IsOneSided at p × (p ≤ pivot.enters)
                  moved (inl enters) = sided_at p enters
                  moved (inr (c, (w, made_w, gone))) =
                      sided_at p (subst (λ n. IsMadeOf t (first ∷ steps) t' follows (λ u. u.enters) n) gone (leaves_enters t (first ∷ steps) t' follows tableau same c w made_w))

pub no_basis_comes_back : NoBasisComesBack
no_basis_comes_back t t' pivot steps tableau follows same =
    comes_back t pivot steps t' follows tableau (λ p. (same_members t'.slots t.slots same p, same_members t.slots t'.slots (sym same) p))
