-- The pivots of a run: what enters and what leaves in it.
use Rattle.std.proofs.Common.{◌≡◌, ◌≢◌, ◌⊎◌, ◌↔◌, inl, inr, ◌<◌, ◌≤◌, arith, List, ◌∷◌, Option, Some, None, ap, sym, ◌∙◌, refl, subst, ℕ, []}
use Rattle.std.proofs.lemmas.Bool.{cases_lt}
use Rattle.bt_linear_forms.specs.Lines.{Terms}
use Rattle.bt_pivot.specs.SolvedForms.{Slots, slot_at, IsOutside, InBasis}
use Rattle.bt_pivot.specs.Tableaus.{TableauParts, IsTableau, with_slots}
use Rattle.bt_simplex.specs.Pivots.{IsBlandPivot, IsPivotedBy, Follows}
use Rattle.bt_pivot.specs.declared.basis.Pivot.{Pivot}
use Rattle.bt_linear_forms.proofs.Indicators.{decide}
use Rattle.bt_linear_forms.proofs.Zeros.{named_has}

-- the pivot is made at this tableau in the run
abbrev pub Made : (t : TableauParts) (steps : List Pivot) (t' : TableauParts) → Follows t steps t' → TableauParts → Pivot → Type 0
Made t [] t' follows at pivot = ⊥
Made t (first ∷ steps) t' follows at pivot = ((at ≡ t) × (pivot ≡ first)) ⊎ Made follows.0 steps t' follows.3 at pivot

-- a position is in the basis or not
pub in_or_out : (slots : Slots) (p : ℕ) → InBasis slots p ⊎ (InBasis slots p → ⊥)
in_or_out slots p = by (slot_at slots p) refl
  where
    by : (o : Option Terms) → slot_at slots p ≡ o → InBasis slots p ⊎ (InBasis slots p → ⊥)
    by (Some terms) e = inl (terms, e)
    by None e = inr (λ has. let both : None ≡ Some has.0 = sym e ∙ has.1 in cc)

pub not_in : (slots : Slots) (p : ℕ) → (InBasis slots p → ⊥) → slot_at slots p ≡ None
not_in slots p out = by (slot_at slots p) refl
  where
    by : (o : Option Terms) → slot_at slots p ≡ o → slot_at slots p ≡ None
    by (Some terms) e = absurd (out (terms, e))
    by None e = e

-- what enters is outside the basis
pub enters_out : (t : TableauParts) (pivot : Pivot) → IsTableau t → IsBlandPivot t pivot → InBasis t.slots pivot.enters → ⊥
enters_out t pivot tableau bland has =
    let can = bland.enters.0 in
    let out = named_has (λ q. IsOutside t.slots q) pivot.enters can.terms can.number (tableau.solved.lines pivot.leaves can.terms can.line).1 can.names in
    let both : None ≡ Some has.0 = sym out.outside ∙ has.1 in
    cc

pub leaves_in : (t : TableauParts) (pivot : Pivot) → IsBlandPivot t pivot → InBasis t.slots pivot.leaves
leaves_in t pivot bland = bland.leaves.0.basic

-- a turned tableau is one
pub pivoted_is : (t t' : TableauParts) (pivot : Pivot) → IsTableau t → IsPivotedBy pivot t t' → IsTableau t'
pivoted_is t t' pivot tableau pivoted = subst IsTableau (sym pivoted.stays) (record { rows = tableau.rows; over = tableau.over; bound = tableau.bound; solved = pivoted.solved })

-- a tableau at which a pivot is made has the rows of the first, and the pivot is Bland's
pub record IsMadeAt (t at : TableauParts) (pivot : Pivot) : Type 0 where
  pub stays : at ≡ with_slots t at.slots
  pub tableau : IsTableau at
  pub bland : IsBlandPivot at pivot

made_later : (t between at : TableauParts) (pivot : Pivot) → between ≡ with_slots t between.slots → IsMadeAt between at pivot → IsMadeAt t at pivot
made_later t between at pivot stays made = record { stays = made.stays ∙ ap (λ u. with_slots u at.slots) stays; tableau = made.tableau; bland = made.bland }

pub made_at : (t : TableauParts) (steps : List Pivot) (t' : TableauParts) (follows : Follows t steps t') (at : TableauParts) (pivot : Pivot) → IsTableau t → Made t steps t' follows at pivot → IsMadeAt t at pivot
made_at t [] t' follows at pivot tableau made = absurd made
made_at t (first ∷ steps) t' follows at pivot tableau (inl (here, same)) =
    record {
      stays = subst (λ u. u ≡ with_slots t u.slots) (sym here) refl;
      tableau = subst IsTableau (sym here) tableau;
      bland = subst (λ u. IsBlandPivot u pivot) (sym here) (subst (λ u. IsBlandPivot t u) (sym same) follows.1);
    }
made_at t (first ∷ steps) t' follows at pivot tableau (inr later) =
    made_later t follows.0 at pivot follows.2.stays (made_at follows.0 steps t' follows.3 at pivot (pivoted_is t follows.0 first tableau follows.2) later)

-- a property of tableaus that pivots bring and take
pub record IsBrought (Has : TableauParts → Type 0) (comes goes : Pivot → ℕ) (position : ℕ) : Type 0 where
  pub told : (t : TableauParts) → Has t ⊎ (Has t → ⊥)
  pub stays : (t t' : TableauParts) (pivot : Pivot) → IsTableau t → IsBlandPivot t pivot → IsPivotedBy pivot t t' → goes pivot ≢ position → Has t → Has t'
  pub gives : (t t' : TableauParts) (pivot : Pivot) → IsTableau t → IsBlandPivot t pivot → IsPivotedBy pivot t t' → comes pivot ≡ position → Has t'
  pub lacks : (t : TableauParts) (pivot : Pivot) → IsTableau t → IsBlandPivot t pivot → comes pivot ≡ position → Has t → ⊥

-- a pivot of the run that has this of a position
abbrev pub IsMadeOf : (t : TableauParts) (steps : List Pivot) (t' : TableauParts) → Follows t steps t' → (Pivot → ℕ) → ℕ → Type 0
IsMadeOf t steps t' follows of position = (at : TableauParts) × ((pivot : Pivot) × Made t steps t' follows at pivot × (of pivot ≡ position))

some_here : (t : TableauParts) (first : Pivot) (steps : List Pivot) (t' : TableauParts) (follows : Follows t (first ∷ steps) t') (of : Pivot → ℕ) (position : ℕ) → of first ≡ position
    → IsMadeOf t (first ∷ steps) t' follows of position
some_here t first steps t' follows of position is = (t, (first, inl (refl, refl), is))

some_later : (t : TableauParts) (first : Pivot) (steps : List Pivot) (t' : TableauParts) (follows : Follows t (first ∷ steps) t') (of : Pivot → ℕ) (position : ℕ)
    → IsMadeOf follows.0 steps t' follows.3 of position → IsMadeOf t (first ∷ steps) t' follows of position
some_later t first steps t' follows of position (at, (pivot, made, is)) = (at, (pivot, inr made, is))

module _ (Has : TableauParts → Type 0) (comes goes : Pivot → ℕ) (position : ℕ) (brought : IsBrought Has comes goes position) where
  -- what is there and isn't at the end goes
  goes_by_end : (t : TableauParts) (steps : List Pivot) (t' : TableauParts) (follows : Follows t steps t') → IsTableau t → Has t → (Has t' → ⊥) → IsMadeOf t steps t' follows goes position
  goes_by_end t [] t' follows tableau has lacks = absurd (lacks (subst Has follows has))
  goes_by_end t (first ∷ steps) t' follows tableau has lacks = elim (decide (goes first) position) [
    | inl here ↦ some_here t first steps t' follows goes position here
    | inr apart ↦
        some_later t first steps t' follows goes position
        (goes_by_end follows.0 steps t' follows.3 (pivoted_is t follows.0 first tableau follows.2) (brought.stays t follows.0 first tableau follows.1 follows.2 apart has) lacks)
  ]

  -- what is there and comes goes before
  goes_before : (t : TableauParts) (steps : List Pivot) (t' : TableauParts) (follows : Follows t steps t') (at : TableauParts) (pivot : Pivot) → IsTableau t → Has t → Made t steps t' follows at pivot
      → comes pivot ≡ position → IsMadeOf t steps t' follows goes position
  goes_before t [] t' follows at pivot tableau has made is = absurd made
  goes_before t (first ∷ steps) t' follows at pivot tableau has (inl (here, same)) is =
      absurd (brought.lacks t first tableau follows.1 (subst (λ u. comes u ≡ position) same is) has)
  goes_before t (first ∷ steps) t' follows at pivot tableau has (inr later) is = elim (decide (goes first) position) [
    | inl here ↦ some_here t first steps t' follows goes position here
    | inr apart ↦
        some_later t first steps t' follows goes position
        (goes_before follows.0 steps t' follows.3 at pivot (pivoted_is t follows.0 first tableau follows.2) (brought.stays t follows.0 first tableau follows.1 follows.2 apart has) later is)
  ]

  -- what comes and isn't there at the end goes after
  goes_after : (t : TableauParts) (steps : List Pivot) (t' : TableauParts) (follows : Follows t steps t') (at : TableauParts) (pivot : Pivot) → IsTableau t → (Has t' → ⊥) → Made t steps t' follows at pivot
      → comes pivot ≡ position → IsMadeOf t steps t' follows goes position
  goes_after t [] t' follows at pivot tableau lacks made is = absurd made
  goes_after t (first ∷ steps) t' follows at pivot tableau lacks (inl (here, same)) is =
      let comes_first = subst (λ u. comes u ≡ position) same is in
      some_later t first steps t' follows goes position
      (goes_by_end follows.0 steps t' follows.3 (pivoted_is t follows.0 first tableau follows.2) (brought.gives t follows.0 first tableau follows.1 follows.2 comes_first) lacks)
  goes_after t (first ∷ steps) t' follows at pivot tableau lacks (inr later) is =
      some_later t first steps t' follows goes position (goes_after follows.0 steps t' follows.3 at pivot (pivoted_is t follows.0 first tableau follows.2) lacks later is)

  -- where the run comes back, what comes goes
  pub comes_goes : (t : TableauParts) (steps : List Pivot) (t' : TableauParts) (follows : Follows t steps t') (at : TableauParts) (pivot : Pivot) → IsTableau t → (Has t' → Has t) → Made t steps t' follows at pivot
      → comes pivot ≡ position → IsMadeOf t steps t' follows goes position
  comes_goes t steps t' follows at pivot tableau returns made is = elim (brought.told t) [
    | inl has ↦ goes_before t steps t' follows at pivot tableau has made is
    | inr lacks ↦ goes_after t steps t' follows at pivot tableau (λ h. lacks (returns h)) made is
  ]

-- what enters leaves
enters_brought : (position : ℕ) → IsBrought (λ t. InBasis t.slots position) (λ u. u.enters) (λ u. u.leaves) position
enters_brought position = record {
  told = λ t. in_or_out t.slots position;
  stays = λ t t' pivot tableau bland pivoted apart has. (pivoted.basis position).1 (inr (has, λ e. apart (sym e)));
  gives = λ t t' pivot tableau bland pivoted is. (pivoted.basis position).1 (inl (sym is));
  lacks = λ t pivot tableau bland is has. enters_out t pivot tableau bland (subst (λ n. InBasis t.slots n) (sym is) has);
}

-- what leaves enters
leaves_brought : (position : ℕ) → IsBrought (λ t. InBasis t.slots position → ⊥) (λ u. u.leaves) (λ u. u.enters) position
leaves_brought position = record {
  told = told;
  stays = stays;
  gives = gives;
  lacks = λ t pivot tableau bland is out. out (subst (λ n. InBasis t.slots n) is (leaves_in t pivot bland));
}
  where
    told : (t : TableauParts) → (InBasis t.slots position → ⊥) ⊎ ((InBasis t.slots position → ⊥) → ⊥)
    told t = elim (in_or_out t.slots position) [
      | inl has ↦ inr (λ out. out has)
      | inr out ↦ inl out
    ]

    stays : (t t' : TableauParts) (pivot : Pivot) → IsTableau t → IsBlandPivot t pivot → IsPivotedBy pivot t t' → pivot.enters ≢ position → (InBasis t.slots position → ⊥) → InBasis t'.slots position → ⊥
    stays t t' pivot tableau bland pivoted apart out has = elim ((pivoted.basis position).0 has) [
      | inl same ↦ apart (sym same)
      | inr kept ↦ out kept.0
    ]

    gives : (t t' : TableauParts) (pivot : Pivot) → IsTableau t → IsBlandPivot t pivot → IsPivotedBy pivot t t' → pivot.leaves ≡ position → InBasis t'.slots position → ⊥
    gives t t' pivot tableau bland pivoted is has = elim ((pivoted.basis position).0 has) [
      | inl same ↦ enters_out t pivot tableau bland (subst (λ n. InBasis t.slots n) (is ∙ same) (leaves_in t pivot bland))
      | inr kept ↦ kept.1 (sym is)
    ]

-- a run that comes back
module _ (t : TableauParts) (steps : List Pivot) (t' : TableauParts) (follows : Follows t steps t') (tableau : IsTableau t) (same : (p : ℕ) → InBasis t'.slots p ↔ InBasis t.slots p) where
  pub enters_leaves : (at : TableauParts) (pivot : Pivot) → Made t steps t' follows at pivot → IsMadeOf t steps t' follows (λ u. u.leaves) pivot.enters
  enters_leaves at pivot made =
      comes_goes (λ s. InBasis s.slots pivot.enters) (λ u. u.enters) (λ u. u.leaves) pivot.enters (enters_brought pivot.enters) t steps t' follows at pivot tableau (λ h. (same pivot.enters).0 h) made refl

  pub leaves_enters : (at : TableauParts) (pivot : Pivot) → Made t steps t' follows at pivot → IsMadeOf t steps t' follows (λ u. u.enters) pivot.leaves
  leaves_enters at pivot made =
      comes_goes (λ s. InBasis s.slots pivot.leaves → ⊥) (λ u. u.leaves) (λ u. u.enters) pivot.leaves (leaves_brought pivot.leaves) t steps t' follows at pivot tableau
      (λ out h. out ((same pivot.leaves).1 h)) made refl

-- a position enters or leaves in the run
abbrev pub Moves : (t : TableauParts) (steps : List Pivot) (t' : TableauParts) → Follows t steps t' → ℕ → Type 0
Moves t steps t' follows position = IsMadeOf t steps t' follows (λ u. u.enters) position ⊎ IsMadeOf t steps t' follows (λ u. u.leaves) position

moves_later : (t : TableauParts) (first : Pivot) (steps : List Pivot) (t' : TableauParts) (follows : Follows t (first ∷ steps) t') (position : ℕ)
    → Moves follows.0 steps t' follows.3 position → Moves t (first ∷ steps) t' follows position
moves_later t first steps t' follows position (inl some) = inl (some_later t first steps t' follows (λ u. u.enters) position some)
moves_later t first steps t' follows position (inr some) = inr (some_later t first steps t' follows (λ u. u.leaves) position some)

-- or it is in the basis throughout, or never
moves_or_stays : (t : TableauParts) (steps : List Pivot) (t' : TableauParts) (follows : Follows t steps t') (at : TableauParts) (pivot : Pivot) (position : ℕ) → Made t steps t' follows at pivot
    → Moves t steps t' follows position ⊎ (InBasis t.slots position ↔ InBasis at.slots position)
moves_or_stays t [] t' follows at pivot position made = absurd made
moves_or_stays t (first ∷ steps) t' follows at pivot position (inl (here, same)) = inr (subst (λ u. InBasis t.slots position ↔ InBasis u.slots position) (sym here) (λ h. h, λ h. h))
moves_or_stays t (first ∷ steps) t' follows at pivot position (inr later) = by (decide first.enters position) (decide first.leaves position) (moves_or_stays follows.0 steps t' follows.3 at pivot position later)
  where
    by : (first.enters ≡ position) ⊎ (first.enters ≢ position) → (first.leaves ≡ position) ⊎ (first.leaves ≢ position)
        → Moves follows.0 steps t' follows.3 position ⊎ (InBasis follows.0.slots position ↔ InBasis at.slots position)
        → Moves t (first ∷ steps) t' follows position ⊎ (InBasis t.slots position ↔ InBasis at.slots position)
    by (inl here) out rest = inl (inl (some_here t first steps t' follows (λ u. u.enters) position here))
    by (inr apart) (inl here) rest = inl (inr (some_here t first steps t' follows (λ u. u.leaves) position here))
    by (inr apart) (inr away) (inl moves) = inl (moves_later t first steps t' follows position moves)
    by (inr apart) (inr away) (inr same) = inr (forth, from)
      where
        forth : InBasis t.slots position → InBasis at.slots position
        forth has = same.0 ((follows.2.basis position).1 (inr (has, λ e. away (sym e))))

        from : InBasis at.slots position → InBasis t.slots position
        from has = elim ((follows.2.basis position).0 (same.1 has)) [
          | inl entered ↦ absurd (apart (sym entered))
          | inr kept ↦ kept.0
        ]

-- what is outside at one basis and inside at another moves
pub differs_moves : (t : TableauParts) (steps : List Pivot) (t' : TableauParts) (follows : Follows t steps t') (a b : TableauParts) (u v : Pivot) (position : ℕ) → Made t steps t' follows a u → Made t steps t' follows b v
    → (InBasis a.slots position → ⊥) → InBasis b.slots position → Moves t steps t' follows position
differs_moves t steps t' follows a b u v position made made' out has = by (moves_or_stays t steps t' follows a u position made) (moves_or_stays t steps t' follows b v position made')
  where
    by : Moves t steps t' follows position ⊎ (InBasis t.slots position ↔ InBasis a.slots position) → Moves t steps t' follows position ⊎ (InBasis t.slots position ↔ InBasis b.slots position)
        → Moves t steps t' follows position
    by (inl moves) second = moves
    by (inr first) (inl moves) = moves
    by (inr first) (inr second) = absurd (out (first.0 (second.1 has)))

-- a pivot that enters the greatest position
pub record IsGreatest (t : TableauParts) (steps : List Pivot) (t' : TableauParts) (follows : Follows t steps t') (at : TableauParts) (pivot : Pivot) : Type 0 where
  pub made : Made t steps t' follows at pivot
  pub most : (b : TableauParts) (v : Pivot) → Made t steps t' follows b v → v.enters ≤ pivot.enters

pub greatest : (t : TableauParts) (first : Pivot) (steps : List Pivot) (t' : TableauParts) (follows : Follows t (first ∷ steps) t')
    → (at : TableauParts) × ((pivot : Pivot) × IsGreatest t (first ∷ steps) t' follows at pivot)
greatest t first [] t' follows = (t, (first, record { made = inl (refl, refl); most = λ b v made. only b v made }))
  where
    only : (b : TableauParts) (v : Pivot) → ((b ≡ t) × (v ≡ first)) ⊎ ⊥ → v.enters ≤ first.enters
    only b v (inl (here, same)) = let e = ap (λ (u : Pivot). u.enters) same in omega (arith, e)
    only b v (inr none) = absurd none
greatest t first (second ∷ steps) t' follows = by (greatest follows.0 second steps t' follows.3)
  where
    by : (at : TableauParts) × ((pivot : Pivot) × IsGreatest follows.0 (second ∷ steps) t' follows.3 at pivot) → (at : TableauParts) × ((pivot : Pivot) × IsGreatest t (first ∷ second ∷ steps) t' follows at pivot)
    by (at, (pivot, is)) = elim (cases_lt pivot.enters first.enters) [
      | inl less ↦ (t, (first, record { made = inl (refl, refl); most = λ b v made. mine b v less made }))
      | inr not_less ↦ (at, (pivot, record { made = inr is.made; most = λ b v made. theirs b v not_less made }))
    ]
      where
        mine : (b : TableauParts) (v : Pivot) → pivot.enters < first.enters → Made t (first ∷ second ∷ steps) t' follows b v → v.enters ≤ first.enters
        mine b v less (inl (here, same)) = let e = ap (λ (u : Pivot). u.enters) same in omega (arith, e)
        mine b v less (inr later) = let low = is.most b v later in omega (arith, low, less)

        theirs : (b : TableauParts) (v : Pivot) → first.enters ≤ pivot.enters → Made t (first ∷ second ∷ steps) t' follows b v → v.enters ≤ pivot.enters
        theirs b v low (inl (here, same)) = let e = ap (λ (u : Pivot). u.enters) same in omega (arith, e, low)
        theirs b v low (inr later) = is.most b v later
