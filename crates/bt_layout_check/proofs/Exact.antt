-- Orders in which only equal things tie: of numbers, of joins and of marks.
use Rattle.std.proofs.Common.{◌≡◌, ◌↔◌, ℕ, ◌+◌, ◌<◌, Bool, true, false, IsTrue, IsPermutation, IsSortedBy, is_lt, List, length, get_or, map, Ordering, Less, Equal, Greater, nat_cmp, refl, sym, ◌∙◌, subst, arith}
use Rattle.std.specs.Ordering.{bool_cmp, ordering_then}
use Rattle.std.proofs.lemmas.List.{get_or-map, length-map}
use Rattle.std.proofs.lemmas.Cmp.{nat_cmp_total, ranked}
use Rattle.bt_layout_check.specs.declared.joins.Join.{Join}
use Rattle.bt_layout_check.specs.contracts.joins.JoinOrd.TheImpl as join_ord
use Rattle.bt_layout_check.specs.contracts.joins.JoinOrd.TheImpl.Laws.{total-law}
use Rattle.std.proofs.lemmas.List.Sorted.{IsPermutation-map, IsPermutation-sym, IsPermutation-trans}
use Rattle.bt_layout_check.specs.declared.preferring.Marked.{Marked}
use Rattle.bt_layout_check.specs.contracts.preferring.MarkedOrd.TheImpl as marked_ord
use Rattle.bt_layout_check.specs.contracts.preferring.MarkedOrd.TheImpl.Laws as marked_laws
use Rattle.bt_layout_check.specs.inner.Handed.{AreMatched, join_in}
use Rattle.bt_layout_check.proofs.Alike.{IsExact, sorted_alike}

same_number : (x y : ℕ) → nat_cmp x y ≡ Equal → x ≡ y
same_number x y h = ranked x y Equal (sym h)

pub numbers_exact : IsExact nat_cmp
numbers_exact = record { total = nat_cmp_total; same = same_number }

-- how two joins compare
abbrev pub join_order : Join → Join → Ordering
join_order = (join_ord.ghosts).cmp

then_equal : (o p : Ordering) → ordering_then o p ≡ Equal → (o ≡ Equal) × (p ≡ Equal)
then_equal Less p h = absurd (cc)
then_equal Equal p h = (refl, h)
then_equal Greater p h = absurd (cc)

same_join : (a b : Join) → join_order a b ≡ Equal → a ≡ b
same_join a b h =
    let first = then_equal (nat_cmp a.start b.start) (ordering_then (nat_cmp a.target b.target) (nat_cmp a.cap b.cap)) h in
    let rest = then_equal (nat_cmp a.target b.target) (nat_cmp a.cap b.cap) first.1 in
    let s = same_number a.start b.start first.0 in
    let t = same_number a.target b.target rest.0 in
    let c = same_number a.cap b.cap rest.1 in
    λ i. record { start = s i; target = t i; cap = c i }

pub joins_exact : IsExact join_order
joins_exact = record { total = total-law; same = same_join }

-- two lists are rearranged where they are the same once they are sorted
pub rearranged_told : {X : Type 0} (R : X → X → Ordering) → IsExact R → (one other up down : List X) (b : Bool) → IsPermutation one up → IsPermutation other down
    → IsSortedBy (λ x y. is_lt (R x y)) up → IsSortedBy (λ x y. is_lt (R x y)) down → (IsTrue b ↔ (up ≡ down)) → IsTrue b ↔ IsPermutation one other
rearranged_told R exact one other up down b to_up to_down sorted_up sorted_down tells = (
  λ t. IsPermutation-trans one up other to_up (subst (λ l. IsPermutation l other) (sym (tells.0 t)) (IsPermutation-sym other down to_down)),
  λ moved. tells.1 (sorted_alike R exact one other up down to_up to_down sorted_up sorted_down moved),
)

-- what is told of two lists is told of those that they are
pub told_of : {X : Type 0} (one other up down : List X) (b : Bool) → one ≡ up → other ≡ down → (IsTrue b ↔ (one ≡ other)) → IsTrue b ↔ (up ≡ down)
told_of one other up down b e f tells = (λ t. sym e ∙ tells.0 t ∙ f, λ same. tells.1 (e ∙ same ∙ sym f))

-- how two marks compare
abbrev pub mark_order : Marked → Marked → Ordering
mark_order = (marked_ord.ghosts).cmp

same_bool : (x y : Bool) → bool_cmp x y ≡ Equal → x ≡ y
same_bool true true h = refl
same_bool true false h = absurd (cc)
same_bool false true h = absurd (cc)
same_bool false false h = refl

same_mark : (a b : Marked) → mark_order a b ≡ Equal → a ≡ b
same_mark a b h =
    let start = then_equal (nat_cmp a.start b.start) (ordering_then (nat_cmp a.target b.target) (ordering_then (nat_cmp a.cap b.cap) (ordering_then (bool_cmp a.given b.given) (bool_cmp a.taken b.taken)))) h in
    let target = then_equal (nat_cmp a.target b.target) (ordering_then (nat_cmp a.cap b.cap) (ordering_then (bool_cmp a.given b.given) (bool_cmp a.taken b.taken))) start.1 in
    let cap = then_equal (nat_cmp a.cap b.cap) (ordering_then (bool_cmp a.given b.given) (bool_cmp a.taken b.taken)) target.1 in
    let flags = then_equal (bool_cmp a.given b.given) (bool_cmp a.taken b.taken) cap.1 in
    let s = same_number a.start b.start start.0 in
    let t = same_number a.target b.target target.0 in
    let c = same_number a.cap b.cap cap.0 in
    let g = same_bool a.given b.given flags.0 in
    let k = same_bool a.taken b.taken flags.1 in
    λ i. record { start = s i; target = t i; cap = c i; given = g i; taken = k i }

pub marks_exact : IsExact mark_order
marks_exact = record { total = marked_laws.total-law; same = same_mark }

-- what is no less by all is no less by the first three of all
first_three : (a b c d e : Ordering) → is_lt (ordering_then a (ordering_then b (ordering_then c (ordering_then d e)))) ≡ false → is_lt (ordering_then a (ordering_then b c)) ≡ false
first_three Less b c d e h = h
first_three Greater b c d e h = refl
first_three Equal Less c d e h = h
first_three Equal Greater c d e h = refl
first_three Equal Equal Less d e h = h
first_three Equal Equal Greater d e h = refl
first_three Equal Equal Equal d e h = refl

-- marks that ascend have joins that do
joins_ascend : (marks : List Marked) → IsSortedBy (λ x y. is_lt (mark_order x y)) marks → IsSortedBy (λ x y. is_lt (join_order x y)) (map join_in marks)
joins_ascend marks up k d low high =
    let long = length-map marks join_in in
    let lt : k + 1 < length marks = omega (arith, high, long) in
    let one : get_or (map join_in marks) (k + 1) d ≡ join_in (get_or marks (k + 1) zero) = get_or-map join_in marks (k + 1) zero d lt in
    let other : get_or (map join_in marks) k d ≡ join_in (get_or marks k zero) = get_or-map join_in marks k zero d (omega (arith, lt)) in
    let x = get_or marks (k + 1) zero in
    let y = get_or marks k zero in
    let here : is_lt (mark_order x y) ≡ false = up k zero low lt in
    let joined : is_lt (join_order (join_in x) (join_in y)) ≡ false = first_three (nat_cmp x.start y.start) (nat_cmp x.target y.target) (nat_cmp x.cap y.cap) (bool_cmp x.given y.given) (bool_cmp x.taken y.taken) here in
    subst (λ j. is_lt (join_order j (get_or (map join_in marks) k d)) ≡ false) (sym one) (subst (λ j. is_lt (join_order (join_in x) j) ≡ false) (sym other) joined)
  where
    zero : Marked
    zero = record { start = 0; target = 0; cap = 0; given = false; taken = false }

-- marks of which each join stands as often in both lists are matched once they are sorted
pub matched_sorted : (first second halves wishes : List Marked) → IsPermutation (map join_in first) (map join_in second) → IsPermutation first halves → IsPermutation second wishes
    → IsSortedBy (λ x y. is_lt (mark_order x y)) halves → IsSortedBy (λ x y. is_lt (mark_order x y)) wishes → AreMatched first second halves wishes
matched_sorted first second halves wishes same to_halves to_wishes up down = record {
  halves_moved = to_halves;
  wishes_moved = to_wishes;
  same = sorted_alike join_order joins_exact (map join_in first) (map join_in second) (map join_in halves) (map join_in wishes)
      (IsPermutation-map join_in first halves to_halves) (IsPermutation-map join_in second wishes to_wishes) (joins_ascend halves up) (joins_ascend wishes down) same;
}
