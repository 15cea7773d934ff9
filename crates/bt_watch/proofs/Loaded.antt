-- Loading the clauses of a formula.
use Rattle.std.proofs.Common.{◌≡◌, ℕ, ◌≤◌, ◌<◌, ◌+◌, ◌⊎◌, inl, inr, arith, List, [], ◌∷◌, length, get_or, sym, subst, refl, ap, ◌∙◌, None, Some, length-append}
use Rattle.std.specs.Prelude.{Contains}
use Rattle.std.specs.List.{All, swap}
use Rattle.std.specs.Global.{Vec}
use Rattle.std.proofs.lemmas.List.{get_or_default, get_or_push}
use Rattle.std.proofs.lemmas.List.Edits.{Swapped, length-swap, swapped_from_swap}
use Rattle.std.proofs.lemmas.List.Elements.{Contains-push}
use Rattle.std.proofs.lemmas.List.Sorted.{All-permutation, Contains-permutation, IsPermutation-swap, IsPermutation-sym}
use Rattle.bt_cnf.specs.Formulas.{LitsBelow}
use Rattle.bt_cnf.specs.declared.literal.Lit.{Lit}
use Rattle.bt_cnf.specs.Truths.{IsTrueIn, IsFalseIn}
use Rattle.bt_cnf.specs.Units.{opposite, clause_at}
use Rattle.bt_watch.specs.declared.assignment.Assignment.{Assignment}
use Rattle.bt_watch.specs.declared.search.Search.{Search}
use Rattle.bt_watch.specs.Assigning.{Assigns}
use Rattle.bt_watch.specs.Watched.{no_lit, first, second}
use Rattle.bt_watch.specs.Keeping.{kept_at, AreTrue, IsAtRest, IsWatchable}
use Rattle.bt_watch.specs.Levels.{start_of, front_of, AreLevels, IsHeld, among_watched, alone, IsReady}
use Rattle.bt_watch.specs.inner.Loads.{IsOther, ArePaired, HasLoaded}
use Rattle.bt_watch.specs.Propagating.{Keeps}
use Rattle.bt_watch.specs.Reasons.{AreSame, lit_at, IsReason, AreReasons}
use Rattle.bt_cnf.proofs.Lists.{past, none_in, lt_or_eq, all_of}
use Rattle.bt_watch.proofs.Longer.{with_assignment, held_longer, held_more, numbered_kept, ordered_longer}
use Rattle.bt_watch.proofs.Backjumped.{take_all_of}

nothing : {X : Type 0} (P : X → Type 0) (xs : List X) → xs ≡ [] → All P xs
nothing P xs none k d small = absurd (omega (arith, small, ap length none))

no_levels : (s : Search) → s.starts.items ≡ [] → AreLevels s
no_levels s none =
    let count : length s.starts.items ≡ 0 = ap length none in
    record {
      within = λ j small. absurd (omega (arith, small, count));
      ascend = λ i j order small. absurd (omega (arith, small, count));
      rests = λ j small. absurd (omega (arith, small, count));
    }

-- where nothing was chosen, all that is true was so before the first choice
root_is : (s : Search) → s.starts.items ≡ [] → front_of s 0 ≡ s.assignment.trail.items
root_is s none =
    take_all_of (start_of s 0) s.assignment.trail.items (omega (arith, past s.starts.items 0 (length s.assignment.trail.items) (omega (arith, ap length none))))

-- all clauses are kept, and nothing is said to be propagated
pub all_loaded : (all : List (List Lit)) (count : ℕ) (s : Search) → HasLoaded all count s → length all ≤ count → IsReady all 0 s
all_loaded all count s is whole = record {
  ordered = is.ordered;
  held = λ k d small. subst (IsHeld s) (get_or_default all k [] d small) (is.held k (omega (arith, small, whole)));
  propagates = record {
    whole = is.ordered.whole;
    part = [];
    part_in = nothing (Contains s.assignment.trail.items) [] refl;
    covers = λ k d below small. absurd (omega (arith, below));
    rest = all_of (IsAtRest [] s.assignment.trail.items) s.clauses (λ c among. record {
      if_first = λ h. absurd (none_in (opposite (first c)) h);
      if_second = λ h. absurd (none_in (opposite (second c)) h);
    });
  };
}

-- one more clause is held
one_more : (all : List (List Lit)) (s : Search) (number : ℕ) → ((n : ℕ) → n < number → IsHeld s (clause_at all n)) → IsHeld s (clause_at all number) → (n : ℕ) → n < number + 1 → IsHeld s (clause_at all n)
one_more all s number before here n small = elim (lt_or_eq n number small) [
  | inl earlier ↦ before n earlier
  | inr same ↦ subst (λ m. IsHeld s (clause_at all m)) (sym same) here
]

-- a clause that has one literal alone, which is true already
module _ (all : List (List Lit)) (number : ℕ) (l : Lit) (below : number < length all) (some : 0 < length (clause_at all number)) (only : All (λ m. m ≡ l) (clause_at all number)) where
  among : Contains (clause_at all number) l
  among = (0, some, only 0 l some)

  root_held : (s : Search) → s.starts.items ≡ [] → Contains s.assignment.trail.items l → IsHeld s (clause_at all number)
  root_held s none true_l = alone l among only (subst (λ front. Contains front l) (sym (root_is s none)) true_l)

  pub true_loaded : (s : Search) → HasLoaded all number s → IsTrueIn s.assignment.values l → HasLoaded all (number + 1) s
  true_loaded s is true_l = record {
    ordered = is.ordered;
    held = one_more all s number is.held (root_held s is.starts (is.ordered.whole.truths.in_trail l true_l));
    starts = is.starts;
  }

  -- one that becomes true
  pub unit_loaded : (s : Search) (a : Assignment) → HasLoaded all number s → Assigns s.assignment a l (Some number) → l.var < length s.assignment.values → (IsTrueIn s.assignment.values l → ⊥) → (IsFalseIn s.assignment.values l → ⊥)
      → HasLoaded all (number + 1) (with_assignment s a)
  unit_loaded s a is assigns small not_true not_false =
      let new = with_assignment s a in
      let reason : IsReason all s.assignment.trail.items l number = record { below = below; among = among; others = λ k d inside. inl (only k d inside) } in
      record {
        ordered = ordered_longer all s a l (Some number) is.ordered assigns small not_true not_false
            (λ n e. subst (IsReason all s.assignment.trail.items l) (some_same number n e) reason) (λ e. absurd (none_some number e));
        held = one_more all new number (λ n earlier. held_longer s new l (Some number) assigns refl refl is.ordered.levels (clause_at all n) (is.held n earlier))
            (root_held new is.starts (subst (λ ts. Contains ts l) (sym assigns.trail) (Contains-push s.assignment.trail.items l)));
        starts = is.starts;
      }
    where
      some_same : (m n : ℕ) → Some m ≡ Some n → m ≡ n
      some_same m n e = cc

      none_some : (m : ℕ) → Some m ≡ None → ⊥
      none_some m e = cc

-- a literal that isn't the first one was put second
pub paired_by : (lits paired : List Lit) (place : ℕ) → IsOther lits (Some place) → paired ≡ swap lits 1 place → ArePaired lits paired
paired_by lits paired place other is =
    let size : length paired ≡ length lits = ap length is ∙ length-swap lits 1 place in
    let behind : 0 < place = elim (nat_zero place) [ inl zero_place ↦ absurd (other.1 (ap (lit_at lits) zero_place)) | inr more ↦ more ] in
    let two : 2 ≤ length lits = omega (arith, other.0, behind) in
    let by : Swapped (λ i. get_or lits i no_lit) (λ i. get_or paired i no_lit) 1 place = swapped_from_swap lits paired 1 place no_lit (omega (arith, two)) other.0 is in
    record {
      permuted = IsPermutation-swap lits paired 1 place (omega (arith, two)) other.0 is;
      two = omega (arith, two, size);
      differ = λ e. other.1 (sym by.0 ∙ sym e ∙ by.2 0 (λ z. absurd (omega arith)) (λ z. absurd (omega (arith, behind))));
    }
  where
    nat_zero : (n : ℕ) → (n ≡ 0) ⊎ (0 < n)
    nat_zero n = grind arith

pub paired_watchable : (vars : ℕ) (lits paired : List Lit) → LitsBelow vars lits → ArePaired lits paired → IsWatchable vars paired
paired_watchable vars lits paired below are = record { two = are.two; below = All-permutation (λ (l : Lit). l.var < vars) lits paired are.permuted below; differ = are.differ }

-- a clause that is watched
pub many_loaded : (all : List (List Lit)) (number : ℕ) (s mid : Search) (paired : List Lit) → number < length all → HasLoaded all number s → ArePaired (clause_at all number) paired → Keeps paired number s mid
    → HasLoaded all (number + 1) mid
many_loaded all number s mid paired below is are keeps =
    let clause = clause_at all number in
    let same : AreSame clause paired = λ l. (
      Contains-permutation clause paired l are.permuted,
      Contains-permutation paired clause l (IsPermutation-sym clause paired are.permuted),
    ) in
    let starts : mid.starts.items ≡ [] = ap (λ (v : Vec ℕ). v.items) keeps.starts ∙ is.starts in
    let last : kept_at mid.clauses (length s.clauses) ≡ paired = ap (λ cs. kept_at cs (length s.clauses)) keeps.clauses ∙ get_or_push s.clauses paired [] (length s.clauses) refl in
    let more : length mid.clauses ≡ length s.clauses + 1 = ap length keeps.clauses ∙ length-append s.clauses (paired ∷ []) in
    record {
      ordered = record {
        whole = record {
          watched = keeps.watched;
          truths = subst (λ (b : Assignment). AreTrue b.values b.trail.items) (sym keeps.assignment) is.ordered.whole.truths;
        };
        numbered = numbered_kept s mid paired number keeps all below same is.ordered.numbered;
        reasoned =
            subst (AreReasons all mid.starts.items) (sym keeps.assignment) (subst (λ (v : Vec ℕ). AreReasons all v.items s.assignment) (sym keeps.starts) is.ordered.reasoned);
        levels = no_levels mid starts;
      };
      held = one_more all mid number (λ n earlier. held_more s mid paired number keeps (clause_at all n) (is.held n earlier))
          (among_watched (length s.clauses) (omega (arith, more)) (subst (AreSame clause) (sym last) same));
      starts = starts;
    }
