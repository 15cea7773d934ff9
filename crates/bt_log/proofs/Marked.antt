-- Marks of the steps that are needed.
use Rattle.std.proofs.Common.{◌≡◌, ℕ, ◌+◌, ◌-◌, ◌<◌, ◌≤◌, inl, inr, arith, Bool, true, false, List, [], ◌∷◌, ◌++◌, length, sym, subst, ◌∙◌}
use Rattle.std.specs.Prelude.{Contains}
use Rattle.std.proofs.lemmas.Bool.{false≢true}
use Rattle.std.proofs.lemmas.List.{get_or_past}
use Rattle.std.proofs.lemmas.List.Elements.{Contains-append_cases, Contains-append_left, Contains-append_right}
use Rattle.bt_cnf.proofs.Lists.{first_or, lt_or, nat_or, none_in}
use Rattle.bt_log.specs.Logs.{LogParts}
use Rattle.bt_log.specs.Trimming.{Names}
use Rattle.bt_log.specs.inner.Marking.{AreMarked, IsMarked, MarksNamed, MarksOf}

-- a place with a mark is one of the list
pub marked_inside : (marks : List Bool) (k : ℕ) → IsMarked marks k → k < length marks
marked_inside marks k is = elim (lt_or k (length marks)) [ inl small ↦ small | inr past ↦ absurd (false≢true (sym (get_or_past marks k false past) ∙ is)) ]

-- a list of one item has no other
pub only_one : (x y : ℕ) → Contains (x ∷ []) y → x ≡ y
only_one x y among = elim (first_or x y [] among) [ inl same ↦ same | inr none ↦ absurd (none_in y none) ]

pub named_more : (first : ℕ) (a b : List ℕ) (place : ℕ) (old mid new : List Bool) → MarksNamed first a place old mid → MarksNamed first b place mid new → MarksNamed first (a ++ b) place old new
named_more first a b place old mid new one two = record {
  count = two.count ∙ one.count;
  grows = λ k is. two.grows k (one.grows k is);
  all = λ k small among. elim (Contains-append_cases a b (first + k) among) [
    | inl early ↦ two.grows k (one.all k small early)
    | inr late ↦ two.all k small late
  ];
  only = λ k is. elim (two.only k is) [
    | inl was ↦ elim (one.only k was) [ inl before ↦ inl before | inr named ↦ inr (named.0, Contains-append_left a b (first + k) named.1) ]
    | inr named ↦ inr (named.0, Contains-append_right a b (first + k) named.1)
  ];
}

-- from one place on to the one before
pub marked_on : (log : LogParts) (place : ℕ) (old new : List Bool) → place < length log.steps → AreMarked log (place + 1) old → MarksOf log place old new → AreMarked log place new
marked_on log place old new inside are marks =
    let stayed : (k : ℕ) → place ≤ k → IsMarked new k → IsMarked old k = λ k from is. elim (marks.only k is) [ inl was ↦ was | inr named ↦ absurd (omega (arith, named.1, from)) ] in record {
      count = marks.count ∙ are.count;
      last = λ some. marks.grows _ (are.last some);
      closed = λ p from within is k less named. elim (nat_or p place) [
        | inl same ↦
            marks.all (subst (IsMarked old) same (stayed p from is)) k (omega (arith, same, less))
            (subst (λ q. Names log q k) same named)
        | inr differs ↦ marks.grows k (are.closed p (omega (arith, from, differs)) within (stayed p from is) k less named)
      ];
      needed = λ p is. elim (marks.only p is) [
        | inl was ↦ elim (are.needed p was) [
          | inl last ↦ inl last
          | inr asked ↦ inr (record { later = asked.later; after = asked.after; inside = asked.inside; marked = marks.grows asked.later asked.marked; named = asked.named })
        ]
        | inr named ↦ inr (record { later = place; after = named.1; inside = inside; marked = marks.grows place named.0; named = named.2 })
      ];
    }
