-- What a watched clause does where a literal has become false.
use Rattle.std.proofs.Common.{◌≡◌, ℕ, ◌≤◌, ◌<◌, ◌⊎◌, inl, inr, arith, Bool, List, length, get_or, zero, suc, sym, subst, ap, ◌∙◌, Option}
use Rattle.std.specs.Prelude.{IsPermutation}
use Rattle.std.specs.List.{All, swap}
use Rattle.std.proofs.lemmas.List.{get_or_default}
use Rattle.std.proofs.lemmas.List.Edits.{Swapped, swapped_from_swap}
use Rattle.std.proofs.lemmas.List.Sorted.{IsPermutation-swap, IsPermutation-trans, IsPermutation-refl}
use Rattle.bt_cnf.specs.declared.literal.Lit.{Lit}
use Rattle.bt_cnf.specs.Truths.{IsFalseIn}
use Rattle.bt_watch.specs.declared.watched.Visit.{Visit}
use Rattle.bt_watch.specs.declared.watched.Visit.TheVariants.{Stale, Satisfied, NewWatch, UnitLit, Conflict}
use Rattle.bt_watch.specs.Watched.{no_lit, first, second}
use Rattle.bt_watch.specs.inner.VisitingClause.{KeepsPair, LeavesOne, VisitsClause}
use Rattle.bt_watch.specs.inner.Visits.{BringsSecond, Visits}
use Rattle.bt_cnf.proofs.Lists.{lit_or}

-- the clause with the literal in the second place, where it was watched
pub record Brought (false_lit : Lit) (old new : List Lit) : Type 0 where
  pub kept : KeepsPair old new
  pub not_first : first new ≡ false_lit → second new ≡ false_lit
  pub size : length new ≡ length old

pub brought : (false_lit : Lit) (old new : List Lit) → 2 ≤ length old → length new ≡ length old → BringsSecond false_lit old new → Brought false_lit old new
brought false_lit old new two size brings =
    elim (lit_or (first old) false_lit) [
      | inl same ↦
          let swapped : new ≡ swap old 0 1 = brings.first (λ d. get_or_default old 0 d no_lit (omega arith) ∙ same) in
          let by : Swapped (λ i. get_or old i no_lit) (λ i. get_or new i no_lit) 0 1 = swapped_from_swap old new 0 1 no_lit (omega arith) (omega arith) swapped in
          record {
            kept = record { permuted = IsPermutation-swap old new 0 1 (omega arith) (omega arith) swapped; pair = inr (by.0, by.1) };
            not_first = λ e. by.1 ∙ same;
            size = size;
          }
      | inr differs ↦
          let is : new ≡ old = brings.other (λ d e. differs (get_or_default old 0 no_lit d (omega arith) ∙ e)) in
          record {
            kept = record { permuted = subst (IsPermutation old) (sym is) (IsPermutation-refl old); pair = inl (ap first is, ap second is) };
            not_first = λ e. absurd (differs (sym (ap first is) ∙ e));
            size = size;
          }
    ]

-- a literal of the clause is the first, the second, or behind the two
all_places : (P : Lit → Type 0) (lits : List Lit) → P (first lits) → P (second lits) → ((k : ℕ) (d : Lit) → 2 ≤ k → k < length lits → P (get_or lits k d)) → All P lits
all_places P lits at_first at_second behind zero d below = subst P (get_or_default lits 0 no_lit d below) at_first
all_places P lits at_first at_second behind (suc zero) d below = subst P (get_or_default lits 1 no_lit d below) at_second
all_places P lits at_first at_second behind (suc (suc k)) d below = behind (suc (suc k)) d (omega arith) below

kept_same : (old mid new : List Lit) → KeepsPair old mid → new ≡ mid → KeepsPair old new
kept_same old mid new kept is = subst (KeepsPair old) (sym is) kept

left_one : (false_lit : Lit) (old mid new : List Lit) → KeepsPair old mid → IsPermutation mid new → first new ≡ first mid → second mid ≡ false_lit → LeavesOne false_lit old new
left_one false_lit old mid new kept moved same is = record {
  permuted = IsPermutation-trans old mid new kept.permuted moved;
  pair = elim kept.pair [
    | inl pair ↦ inl (same ∙ pair.0, sym pair.1 ∙ is)
    | inr pair ↦ inr (same ∙ pair.0, sym pair.1 ∙ is)
  ];
}

pub visited_clause : (values : List (Option Bool)) (false_lit : Lit) (old mid new : List Lit) (visit : Visit) → 2 ≤ length mid → Brought false_lit old mid → second mid ≡ false_lit → IsFalseIn values false_lit
    → Visits values mid new visit → VisitsClause values false_lit old new visit
visited_clause values false_lit old mid new Stale two at is falsity visits = absurd visits
visited_clause values false_lit old mid new (Satisfied other) two at is falsity visits =
    (kept_same old mid new at.kept visits.0, ap second visits.0 ∙ is, ap first visits.0 ∙ visits.1 no_lit, visits.2)
visited_clause values false_lit old mid new (NewWatch l other) two at is falsity visits =
    let moved = visits.1 in
    let by : Swapped (λ i. get_or mid i no_lit) (λ i. get_or new i no_lit) 1 moved.place =
    swapped_from_swap mid new 1 moved.place no_lit (omega arith) moved.within moved.swapped in
    let same : first new ≡ first mid = by.2 0 (λ e. absurd (omega arith)) (λ e. absurd (omega (arith, moved.behind))) in (
      left_one false_lit old mid new at.kept (IsPermutation-swap mid new 1 moved.place (omega arith) moved.within moved.swapped) same is,
      same ∙ visits.0 no_lit,
      record {
        stands = by.0 ∙ moved.stood no_lit;
        not_false = moved.not_false;
        differs = λ e. moved.differs (e ∙ same ∙ visits.0 no_lit);
      },
    )
visited_clause values false_lit old mid new (UnitLit l) two at is falsity visits =
    let still = visits.1 in (
      kept_same old mid new at.kept still.same,
      ap second still.same ∙ is,
      record {
        stands = ap first still.same ∙ visits.0 no_lit;
        others =
            subst (All (λ m. (m ≡ l) ⊎ IsFalseIn values m)) (sym still.same)
            (all_places (λ m. (m ≡ l) ⊎ IsFalseIn values m) mid (inl (visits.0 no_lit)) (inr (subst (IsFalseIn values) (sym is) falsity)) still.falses);
        not_true = visits.2;
        not_false = visits.3;
      },
    )
visited_clause values false_lit old mid new Conflict two at is falsity visits =
    let still = visits.2 in
    let false_first : IsFalseIn values (first mid) = subst (IsFalseIn values) (sym (visits.1 no_lit)) visits.3 in (
      kept_same old mid new at.kept still.same,
      subst (All (IsFalseIn values)) (sym still.same)
          (all_places (IsFalseIn values) mid false_first (subst (IsFalseIn values) (sym is) falsity)
          (λ k d from below. elim (still.falses k d from below) [ inl e ↦ subst (IsFalseIn values) (sym e) visits.3 | inr f ↦ f ])),
    )
