-- The places that have marks, and their numbers.
use Rattle.std.proofs.Common.{◌≡◌, ◌≢◌, ℕ, ◌+◌, ◌-◌, ◌<◌, ◌≤◌, inl, inr, arith, Bool, false, List, [], ◌∷◌, ◌++◌, length, get_or, set, take, sym, subst, ap, ◌∙◌}
use Rattle.std.specs.Prelude.{AllPairs, Contains}
use Rattle.std.proofs.lemmas.Bool.{false≢true}
use Rattle.std.proofs.lemmas.List.{get_or-set_other, get_or-set_same, get_or-take, length-take-le}
use Rattle.std.proofs.lemmas.List.Elements.{All-contains, All-push, All-weaker, Contains-append_left, Contains-push}
use Rattle.std.proofs.lemmas.List.Quantifiers.{all_pairs_push}
use Rattle.bt_cnf.proofs.Lists.{lt_or_eq}
use Rattle.bt_log.specs.Logs.{LogParts}
use Rattle.bt_log.specs.inner.Needed.{AreNeeded, AreThose}
use Rattle.bt_log.specs.inner.Marking.{AreMarked, IsMarked}
use Rattle.bt_log.proofs.Marked.{marked_inside}

-- what is marked among the first so many
marked_front : (marks : List Bool) (i k : ℕ) → i ≤ length marks → IsMarked (take i marks) k → (k < i) × IsMarked marks k
marked_front marks i k within is =
    let small : k < i = subst (λ n. k < n) (length-take-le i marks within) (marked_inside (take i marks) k is) in
    (small, sym (get_or-take i marks k false small) ∙ is)

front_marked : (marks : List Bool) (i k : ℕ) → k < i → IsMarked marks k → IsMarked (take i marks) k
front_marked marks i k small is = get_or-take i marks k false small ∙ is

pub those_passed : (marks : List Bool) (place : ℕ) (places : List ℕ) → place < length marks → get_or marks place false ≡ false → AreThose (take place marks) places
    → AreThose (take (place + 1) marks) places
those_passed marks place places inside not are = record {
  in_order = are.in_order;
  all = λ k is.
      let front = marked_front marks (place + 1) k (omega (arith, inside)) is in
      elim (lt_or_eq k place front.0) [
        | inl small ↦ are.all k (front_marked marks place k small front.1)
        | inr same ↦ absurd (false≢true (sym not ∙ subst (IsMarked marks) same front.1))
      ];
  only = All-weaker (IsMarked (take place marks)) (IsMarked (take (place + 1) marks))
      (λ k is. let front = marked_front marks place k (omega (arith, inside)) is in front_marked marks (place + 1) k (omega (arith, front.0)) front.1) places are.only;
}

pub those_added : (marks : List Bool) (place : ℕ) (places : List ℕ) → place < length marks → IsMarked marks place → AreThose (take place marks) places
    → AreThose (take (place + 1) marks) (places ++ place ∷ [])
those_added marks place places inside is_marked are = record {
  in_order = all_pairs_push (λ one other. one < other) places place are.in_order
      (λ k d small. (marked_front marks place (get_or places k d) (omega (arith, inside)) (are.only k d small)).0);
  all = λ k is.
      let front = marked_front marks (place + 1) k (omega (arith, inside)) is in
      elim (lt_or_eq k place front.0) [
        | inl small ↦ Contains-append_left places (place ∷ []) k (are.all k (front_marked marks place k small front.1))
        | inr same ↦ subst (Contains (places ++ place ∷ [])) (sym same) (Contains-push places place)
      ];
  only = All-push (IsMarked (take (place + 1) marks)) places place
      (All-weaker (IsMarked (take place marks)) (IsMarked (take (place + 1) marks))
      (λ k is. let front = marked_front marks place k (omega (arith, inside)) is in front_marked marks (place + 1) k (omega (arith, front.0)) front.1) places are.only)
      (front_marked marks (place + 1) place (omega arith) is_marked);
}

-- the numbers of the first so many places
abbrev pub AreSoFar : List ℕ → List ℕ → ℕ → Type 0
AreSoFar places numbers count = (number : ℕ) → number < count → get_or numbers (get_or places number 0) 0 ≡ number

pub numbers_more : (places numbers : List ℕ) (number : ℕ) → AllPairs (λ one other. one < other) places → number < length places → get_or places number 0 < length numbers
    → AreSoFar places numbers number → AreSoFar places (set numbers (get_or places number 0) number) (number + 1)
numbers_more places numbers number in_order small inside are k less =
    let place = get_or places number 0 in
    elim (lt_or_eq k number less) [
      | inl before ↦
          let lower : get_or places k 0 < place = in_order k number 0 before small in
          let differs : get_or places k 0 ≢ place = λ same. absurd (omega (arith, same, lower)) in
          get_or-set_other numbers place (get_or places k 0) number 0 differs ∙ are k before
      | inr same ↦
          ap (λ i. get_or (set numbers place number) (get_or places i 0) 0) same ∙ get_or-set_same numbers place number 0 inside ∙ sym same
    ]

-- the marked places are those of the steps that are needed
pub are_needed : (log : LogParts) (marks : List Bool) (places : List ℕ) → AreMarked log 0 marks → AreThose marks places → AreNeeded log places
are_needed log marks places are those =
    let marked : (k : ℕ) → Contains places k → IsMarked marks k = λ k among. All-contains (IsMarked marks) places k those.only among in
    let below : (k : ℕ) → IsMarked marks k → k < length log.steps = λ k is. subst (λ n. k < n) are.count (marked_inside marks k is) in record {
      in_order = those.in_order;
      inside = All-weaker (IsMarked marks) (λ place. place < length log.steps) below places those.only;
      last = λ some. those.all (length log.steps - 1) (are.last some);
      closed = λ place among k less named.
          let is = marked place among in
          those.all k (are.closed place (omega arith) (below place is) is k less named);
      needed = λ place among. elim (are.needed place (marked place among)) [
        | inl last ↦ inl last
        | inr asked ↦ inr (record { later = asked.later; after = asked.after; left = those.all asked.later asked.marked; named = asked.named })
      ];
    }
