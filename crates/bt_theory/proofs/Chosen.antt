-- What is chosen within a model settles a literal of each clause.
use Rattle.std.proofs.Common.{◌≡◌, ℕ, ◌<◌, ◌+◌, inl, inr, Bool, true, List, length, get_or, Option, Some, None, slice_get, take, ap, sym, ◌∙◌, subst}
use Rattle.std.specs.List.{All}
use Rattle.std.proofs.lemmas.Bool.{false≢true, cases_Bool}
use Rattle.std.proofs.lemmas.Option.{slice_get_within, get_or_from_slice_get}
use Rattle.std.proofs.lemmas.List.Elements.{All-more}
use Rattle.bt_cnf.specs.Assignments.{truth_in}
use Rattle.bt_cnf.specs.Meeting.{IsTrueUnder, MeetsClause}
use Rattle.bt_cnf.specs.declared.literal.Lit.{Lit}
use Rattle.bt_theory.specs.inner.Choosing.{IsWithin, IsSettled, HasSettled, IsChoice, IsChosen}

-- so far: no literal is true in the model, or this one is
abbrev pub Found : List Bool → List Lit → ℕ → Option ℕ → Type 0
Found model lits i None = (k : ℕ) (d : Lit) → k < i → IsTrueUnder (truth_in model) (get_or lits k d) → ⊥
Found model lits i (Some var) = IsChoice model lits var

-- a literal that isn't settled and is true in the model is positive
pub is_positive : (model chosen : List Bool) (l : Lit) → (IsSettled model chosen l → ⊥) → IsTrueUnder (truth_in model) l → l.positive ≡ true
is_positive model chosen l open_lit holds =
    elim (cases_Bool l.positive) [ inl p ↦ p | inr n ↦ absurd (open_lit (inr (n, holds ∙ n))) ]

-- a settled literal is true under what is chosen
settled_true : (model chosen : List Bool) (l : Lit) → IsWithin model chosen → IsSettled model chosen l → IsTrueUnder (truth_in chosen) l
settled_true model chosen l within (inl h) = h.1 ∙ sym h.0
settled_true model chosen l within (inr h) =
    elim (cases_Bool (truth_in chosen l.var)) [
      | inl t ↦ absurd (false≢true (sym h.1 ∙ within l.var t))
      | inr n ↦ n ∙ sym h.0
    ]

pub chosen_meets : (model chosen : List Bool) (clauses : List (List Lit)) → IsChosen model chosen clauses → All (MeetsClause (truth_in chosen)) clauses
chosen_meets model chosen clauses h = λ k d l.
    let some = h.settled k d l in
    (some.0, some.1, some.2, some.3, settled_true model chosen some.1 h.within some.4)

-- what is settled stays so, where more is chosen
more_settled : (model chosen more : List Bool) (lits : List Lit) → IsWithin more chosen → HasSettled model chosen lits → HasSettled model more lits
more_settled model chosen more lits grows h =
    (h.0, h.1, h.2, h.3, elim h.4 [ inl p ↦ inl (p.0, grows h.1.var p.1) | inr n ↦ inr n ])

pub all_settled : (model chosen more : List Bool) (clauses : List (List Lit)) → IsWithin more chosen → All (HasSettled model chosen) clauses → All (HasSettled model more) clauses
all_settled model chosen more clauses grows h = λ k d l. more_settled model chosen more (get_or clauses k d) grows (h k d l)

-- what holds of the clauses before a place holds of one more
pub one_more : (P : List Lit → Type 0) (clauses : List (List Lit)) (place id : ℕ) (clause : List Lit) → slice_get clauses id ≡ Some clause → id ≡ place → All P (take place clauses) → P clause
    → All P (take (place + 1) clauses)
one_more P clauses place id clause at same h here =
    let got = get_or_from_slice_get clauses id clause clause at in
    let l : place < length clauses = subst (λ k. k < length clauses) same (slice_get_within clauses id clause at) in
    All-more P clauses place clause l h (subst P (sym (ap (λ k. get_or clauses k clause) (sym same) ∙ got)) here)

-- one more clause is settled
pub chosen_more : (model chosen more : List Bool) (clauses : List (List Lit)) (place id : ℕ) (clause : List Lit) → slice_get clauses id ≡ Some clause → id ≡ place
    → IsChosen model chosen (take place clauses) → length more ≡ length chosen → IsWithin model more → IsWithin more chosen → HasSettled model more clause
    → IsChosen model more (take (place + 1) clauses)
chosen_more model chosen more clauses place id clause at same h size within grows settled =
    record {
      size = size ∙ h.size;
      within = within;
      settled = one_more (HasSettled model more) clauses place id clause at same (all_settled model chosen more (take place clauses) grows h.settled) settled;
    }
