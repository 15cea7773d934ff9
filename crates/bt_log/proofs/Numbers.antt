-- The numbers of places.
use Rattle.std.proofs.Common.{◌≡◌, ℕ, ◌+◌, ◌-◌, ◌<◌, ◌≤◌, inl, arith, List, [], ◌∷◌, ◌++◌, length, get_or, take, sym, subst, ap, ◌∙◌}
use Rattle.std.specs.Prelude.{Contains, slice_get, Some}
use Rattle.std.specs.List.{AllZip}
use Rattle.std.proofs.lemmas.List.{take_more}
use Rattle.std.proofs.lemmas.List.Elements.{All-contains}
use Rattle.std.proofs.lemmas.Slice.Zip.{all_zipped_more}
use Rattle.bt_cnf.proofs.Lists.{got_at, got_within}
use Rattle.bt_log.specs.Logs.{Lemma, LogParts, Step}
use Rattle.bt_log.specs.Trimming.{hints_of, IsLeft, IsRenamed, IsRenumbered, step_at}
use Rattle.bt_log.specs.inner.Needed.{AreNeeded, IsNumbered}
use Rattle.bt_log.specs.declared.needed.Kept.{Kept}
use Rattle.bt_log.proofs.Left.{at_least, numbered}

-- what the numbers say of a hint of an earlier step
pub record IsFound (first : ℕ) (kept : Kept) (hint : ℕ) : Type 0 where
  pub number : ℕ
  pub left : number < length kept.places.items
  pub at : get_or kept.places.items number 0 ≡ hint - first
  pub inside : hint - first < length kept.numbers.items
  pub numbers : get_or kept.numbers.items (hint - first) 0 ≡ number
  pub small : first + number ≤ hint

pub found : (first : ℕ) (kept : Kept) (hint : ℕ) → first ≤ hint → IsNumbered kept → Contains kept.places.items (hint - first) → IsFound first kept hint
found first kept hint low is among =
    let (number, left, here) = numbered kept.places.items (hint - first) among in
    let least = at_least kept.places.items number is.in_order left in
    record {
      number = number;
      left = left;
      at = here;
      inside = All-contains (λ place. place < length kept.numbers.items) kept.places.items (hint - first) is.inside among;
      numbers = subst (λ place. get_or kept.numbers.items place 0 ≡ number) here (is.numbers number left);
      small = omega (arith, least, here, low);
    }

-- a hint of an earlier step is moved
pub moved_hint : (first : ℕ) (kept : Kept) (place hint : ℕ) → first ≤ hint → hint - first < place → IsFound first kept hint
    → (again : ℕ) → again ≡ first + get_or kept.numbers.items (hint - first) 0 → IsRenamed first kept.places.items place hint again
moved_hint first kept place hint low small is again e =
    inl (record {
      number = is.number;
      left = is.left;
      named = omega (arith, is.at, low);
      earlier = omega (arith, is.at, small);
      moved = e ∙ ap (λ n. first + n) is.numbers;
    })

-- a step that is left names none that isn't
pub named_left : (log : LogParts) (kept : List ℕ) (number place first : ℕ) (s : Step) → AreNeeded log kept → number < length kept → place ≡ get_or kept number place → first ≡ log.first
    → slice_get log.steps place ≡ Some s → (k : ℕ) → k < place → Contains (hints_of s) (first + k) → Contains kept k
named_left log kept number place first s needed small at same got k less among =
    needed.closed place (number, small, sym at) k less
    (subst (λ n. Contains (hints_of (step_at log.steps place)) (n + k)) same (subst (λ t. Contains (hints_of t) (first + k)) (sym (got_at log.steps place (Lemma [] []) s got)) among))

-- one step more
pub left_more : (log : LogParts) (kept : List ℕ) (number place first : ℕ) (s again : Step) (steps : List Step) → number < length kept → place ≡ get_or kept number place → first ≡ log.first
    → slice_get log.steps place ≡ Some s → IsRenumbered first kept place s again → AllZip (IsLeft log kept) (take number kept) steps
    → AllZip (IsLeft log kept) (take (number + 1) kept) (steps ++ again ∷ [])
left_more log kept number place first s again steps small at same got is so_far =
    let here : IsRenumbered log.first kept place (step_at log.steps place) again =
    subst (λ n. IsRenumbered n kept place (step_at log.steps place) again) same
    (subst (λ t. IsRenumbered first kept place t again) (sym (got_at log.steps place (Lemma [] []) s got)) is) in
    subst (λ places. AllZip (IsLeft log kept) places (steps ++ again ∷ []))
    (sym (take_more kept number place small ∙ ap (λ p. take number kept ++ p ∷ []) (sym at)))
    (all_zipped_more (IsLeft log kept) (take number kept) steps place again so_far (record { inside = got_within log.steps place s got; renumbered = here }))
