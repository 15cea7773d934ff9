-- What rows over the columns say of values that are whole numbers over one denominator.
use Rattle.std.proofs.Common.{◌≡◌, ℕ, ◌<◌, ◌+◌, ◌*◌, ◌↔◌, Bool, true, false, ℤ, pos, ◌+ℤ◌, ◌*ℤ◌, neg_ℤ, ◌≤ℤ◌, ◌<ℤ◌, List, [], ◌∷◌, ◌++◌, length, map, get_or, cond, ltb, ap, sym, ◌∙◌, refl, subst, arith, suc}
use Rattle.std.specs.List.{range_with_len}
use Rattle.std.proofs.lemmas.Int.{ints}
use Rattle.std.proofs.lemmas.Bool.{ltb-false}
use Rattle.std.proofs.Math.IntN.{*ℤ_comm, *ℤ-one}
use Rattle.bt_frac.specs.Ratio.{Ratio, IsOver, negated}
use Rattle.bt_frac.specs.Values as values
use Rattle.bt_frac.specs.Values.{RowHolds, sum_of_products, valued, nothing}
use Rattle.bt_frac.specs.declared.relation.Relation.TheVariants.{Equal}
use Rattle.bt_frac.proofs.Over.{over_sum, over_zero, over_at_most, over_less, over_same, under_positive}
use Rattle.bt_frac.proofs.Ring.{neg_mul, mul_assoc}
use Rattle.bt_net.specs.declared.network.Edge.{Edge}
use Rattle.bt_net.specs.Network.{Network, leaves, enters}
use Rattle.bt_flow.specs.Ports.{numbers_where}
use Rattle.bt_flow.specs.Properties.{is_last, total}
use Rattle.bt_flow.specs.Steady.{sum_where}
use Rattle.bt_flow.proofs.Compared.{over_cap}
use Rattle.bt_flow_formula.specs.Columns.{plus, minus, whole, zero_row, at_least, at_most, below, beyond, less, not_below, above, in_less_out, above_outputs}

one_times : (x : ℤ) → pos 1 *ℤ x ≡ x
unfolding lib.IntN.one
one_times x = *ℤ_comm (pos 1) x ∙ *ℤ-one x

neg_one_times : (x : ℤ) → neg_ℤ (pos 1) *ℤ x ≡ neg_ℤ x
neg_one_times x = neg_mul (pos 1) x ∙ ap neg_ℤ (one_times x)

term_over : (o a x y : ℤ) (u d : ℕ) → a *ℤ pos d ≡ x *ℤ pos u → o *ℤ x ≡ y → IsOver (record { over = o *ℤ a; under = 1 * u }) y d
term_over o a x y u d e f =
    mul_assoc o a (pos d) ∙ ap (λ t. o *ℤ t) e ∙ sym (mul_assoc o x (pos u)) ∙ ap (λ t. t *ℤ pos u) f ∙ ap (λ k. y *ℤ pos k) (let s : u ≡ 1 * u = omega arith in s)

cap_below : (k d : ℕ) → IsOver (negated (whole k)) (neg_ℤ (pos (k * d))) d
cap_below k d = neg_mul (pos k) (pos d) ∙ ap neg_ℤ (over_cap k d) ∙ sym (neg_mul (pos (k * d)) (pos 1))

one : 0 < 1
one = omega arith

module _ (v : ℕ → Ratio) (d : ℕ) (some : 0 < d) where
  -- a column has the value of a whole number over the denominator
  abbrev pub At : ℕ → ℤ → Type 0
  At c x = (0 < (v c).under) × IsOver (v c) x d

  -- from a number on the columns have the values of a list
  abbrev pub AllAt : ℕ → List ℤ → Type 0
  AllAt first xs = (i : ℕ) → i < length xs → At (first + i) (get_or xs i (pos 0))

  head_at : (first : ℕ) (x : ℤ) (xs : List ℤ) → AllAt first (x ∷ xs) → At first x
  head_at first x xs h = subst (λ c. At c x) (let z : first + 0 ≡ first = omega arith in z) (h 0 (omega arith))

  tail_at : (first : ℕ) (x : ℤ) (xs : List ℤ) → AllAt first (x ∷ xs) → AllAt (first + 1) xs
  tail_at first x xs h = λ i l. subst (λ c. At c (get_or xs i (pos 0))) (let z : first + suc i ≡ first + 1 + i = omega arith in z) (h (suc i) (omega arith))

  -- the terms add up to a whole number over the denominator
  abbrev pub AddsUp : List (ℕ × Ratio) → ℤ → Type 0
  AddsUp terms z = (0 < (sum_of_products (valued v terms)).under) × IsOver (sum_of_products (valued v terms)) z d

  pub adds_none : AddsUp [] (pos 0)
  adds_none = (omega arith, over_zero nothing d refl)

  adds_term : (o : ℤ) (c : ℕ) (x y z : ℤ) (terms : List (ℕ × Ratio)) → At c x → o *ℤ x ≡ y → AddsUp terms z → AddsUp ((c, record { over = o; under = 1 }) ∷ terms) (y +ℤ z)
  adds_term o c x y z terms at e h =
      let t : Ratio = record { over = o *ℤ (v c).over; under = 1 * (v c).under } in
      let rest = sum_of_products (valued v terms) in
      let positive : 0 < 1 * (v c).under = under_positive 1 (v c).under one at.0 in
      (under_positive (1 * (v c).under) rest.under positive h.0, over_sum t rest (values.plus t rest) y z d positive h.0 (term_over o (v c).over x y (v c).under d at.1 e) h.1 refl)

  pub adds_plus : (c : ℕ) (x z : ℤ) (terms : List (ℕ × Ratio)) → At c x → AddsUp terms z → AddsUp (plus c ∷ terms) (x +ℤ z)
  adds_plus c x z terms at h = adds_term (pos 1) c x x z terms at (one_times x) h

  pub adds_minus : (c : ℕ) (x z : ℤ) (terms : List (ℕ × Ratio)) → At c x → AddsUp terms z → AddsUp (minus c ∷ terms) (neg_ℤ x +ℤ z)
  adds_minus c x z terms at h = adds_term (neg_ℤ (pos 1)) c x (neg_ℤ x) z terms at (neg_one_times x) h

  adds_same : (terms : List (ℕ × Ratio)) (x y : ℤ) → x ≡ y → AddsUp terms x → AddsUp terms y
  adds_same terms x y e h = subst (AddsUp terms) e h

  pub at_least_says : (c k : ℕ) (x : ℤ) → At c x → RowHolds (at_least c k) v ↔ (pos (k * d) ≤ℤ x)
  at_least_says c k x at =
      let s = adds_plus c x (pos 0) [] at adds_none in
      let both = over_at_most (whole k) _ (pos (k * d)) (x +ℤ pos 0) d some one s.0 (over_cap k d) s.1 in
      (λ r. let l = both.0 r in omega (arith, ints, l), λ l. both.1 (omega (arith, ints, l)))

  pub at_most_says : (c k : ℕ) (x : ℤ) → At c x → RowHolds (at_most c k) v ↔ (x ≤ℤ pos (k * d))
  at_most_says c k x at =
      let s = adds_minus c x (pos 0) [] at adds_none in
      let both = over_at_most (negated (whole k)) _ (neg_ℤ (pos (k * d))) (neg_ℤ x +ℤ pos 0) d some one s.0 (cap_below k d) s.1 in
      (λ r. let l = both.0 r in omega (arith, ints, l), λ l. both.1 (omega (arith, ints, l)))

  pub below_says : (c k : ℕ) (x : ℤ) → At c x → RowHolds (below c k) v ↔ (x <ℤ pos (k * d))
  below_says c k x at =
      let s = adds_minus c x (pos 0) [] at adds_none in
      let both = over_less (negated (whole k)) _ (neg_ℤ (pos (k * d))) (neg_ℤ x +ℤ pos 0) d some one s.0 (cap_below k d) s.1 in
      (λ r. let l = both.0 r in omega (arith, ints, l), λ l. both.1 (omega (arith, ints, l)))

  pub beyond_says : (c k : ℕ) (x : ℤ) → At c x → RowHolds (beyond c k) v ↔ (pos (k * d) <ℤ x)
  beyond_says c k x at =
      let s = adds_plus c x (pos 0) [] at adds_none in
      let both = over_less (whole k) _ (pos (k * d)) (x +ℤ pos 0) d some one s.0 (over_cap k d) s.1 in
      (λ r. let l = both.0 r in omega (arith, ints, l), λ l. both.1 (omega (arith, ints, l)))

  -- a column has one value
  one_at : (a b : ℕ) (x y : ℤ) → a ≡ b → At a x → At b y → x ≡ y
  one_at a b x y e h g =
      let f : At a y = subst (λ c. At c y) (sym e) g in
      (over_same (v a) (v a) x y d some h.0 f.0 h.1 f.1).0 refl

  less_by : (a b : ℕ) (x y : ℤ) (t u : Bool) → ltb a b ≡ t → ltb b a ≡ u → At a x → At b y → AddsUp (cond t (plus a ∷ minus b ∷ []) (cond u (minus b ∷ plus a ∷ []) [])) (x +ℤ neg_ℤ y)
  less_by a b x y true u e f h g =
      adds_same (plus a ∷ minus b ∷ []) (x +ℤ (neg_ℤ y +ℤ pos 0)) (x +ℤ neg_ℤ y) (omega (arith, ints)) (adds_plus a x (neg_ℤ y +ℤ pos 0) (minus b ∷ []) h (adds_minus b y (pos 0) [] g adds_none))
  less_by a b x y false true e f h g =
      adds_same (minus b ∷ plus a ∷ []) (neg_ℤ y +ℤ (x +ℤ pos 0)) (x +ℤ neg_ℤ y) (omega (arith, ints)) (adds_minus b y (x +ℤ pos 0) (plus a ∷ []) g (adds_plus a x (pos 0) [] h adds_none))
  less_by a b x y false false e f h g =
      let same : x ≡ y = one_at a b x y (omega (arith, ltb-false a b e, ltb-false b a f)) h g in
      adds_same [] (pos 0) (x +ℤ neg_ℤ y) (omega (arith, ints, same)) adds_none

  adds_less : (a b : ℕ) (x y : ℤ) → At a x → At b y → AddsUp (less a b) (x +ℤ neg_ℤ y)
  adds_less a b x y h g = less_by a b x y (ltb a b) (ltb b a) refl refl h g

  zero_over : IsOver (whole 0) (pos 0) d
  zero_over = over_zero (whole 0) d refl

  pub not_below_says : (a b : ℕ) (x y : ℤ) → At a x → At b y → RowHolds (not_below a b) v ↔ (y ≤ℤ x)
  not_below_says a b x y h g =
      let s = adds_less a b x y h g in
      let both = over_at_most (whole 0) _ (pos 0) (x +ℤ neg_ℤ y) d some one s.0 zero_over s.1 in
      (λ r. let l = both.0 r in omega (arith, ints, l), λ l. both.1 (omega (arith, ints, l)))

  pub above_says : (a b : ℕ) (x y : ℤ) → At a x → At b y → RowHolds (above a b) v ↔ (y <ℤ x)
  above_says a b x y h g =
      let s = adds_less a b x y h g in
      let both = over_less (whole 0) _ (pos 0) (x +ℤ neg_ℤ y) d some one s.0 zero_over s.1 in
      (λ r. let l = both.0 r in omega (arith, ints, l), λ l. both.1 (omega (arith, ints, l)))

  -- the flows into a splitter less those out of it
  edge_adds : (b c : Bool) (m : ℕ) (f x y : ℤ) (terms : List (ℕ × Ratio)) → At m f → AddsUp terms (x +ℤ neg_ℤ y)
      → AddsUp (cond b (cond c [] (plus m ∷ [])) (cond c (minus m ∷ []) []) ++ terms) (cond b f (pos 0) +ℤ x +ℤ neg_ℤ (cond c f (pos 0) +ℤ y))
  edge_adds true true m f x y terms at h = adds_same terms (x +ℤ neg_ℤ y) (f +ℤ x +ℤ neg_ℤ (f +ℤ y)) (omega (arith, ints)) h
  edge_adds true false m f x y terms at h = adds_same (plus m ∷ terms) (f +ℤ (x +ℤ neg_ℤ y)) (f +ℤ x +ℤ neg_ℤ (pos 0 +ℤ y)) (omega (arith, ints)) (adds_plus m f (x +ℤ neg_ℤ y) terms at h)
  edge_adds false true m f x y terms at h = adds_same (minus m ∷ terms) (neg_ℤ f +ℤ (x +ℤ neg_ℤ y)) (pos 0 +ℤ x +ℤ neg_ℤ (f +ℤ y)) (omega (arith, ints)) (adds_minus m f (x +ℤ neg_ℤ y) terms at h)
  edge_adds false false m f x y terms at h = adds_same terms (x +ℤ neg_ℤ y) (pos 0 +ℤ x +ℤ neg_ℤ (pos 0 +ℤ y)) (omega (arith, ints)) h

  adds_conserve : (k m : ℕ) (es : List Edge) (fs : List ℤ) → length fs ≡ length es → AllAt m fs
      → AddsUp (in_less_out k m es) (sum_where (enters k) es fs +ℤ neg_ℤ (sum_where (leaves k) es fs))
  adds_conserve k m [] fs l h = adds_same [] (pos 0) (pos 0 +ℤ neg_ℤ (pos 0)) (omega (arith, ints)) adds_none
  adds_conserve k m (e ∷ es) [] l h = absurd (omega arith)
  adds_conserve k m (e ∷ es) (f ∷ fs) l h =
      edge_adds (enters k e) (leaves k e) m f (sum_where (enters k) es fs) (sum_where (leaves k) es fs) (in_less_out k (m + 1) es)
      (head_at m f fs h) (adds_conserve k (m + 1) es fs (omega arith) (tail_at m f fs h))

  pub conserve_says : (k : ℕ) (es : List Edge) (fs : List ℤ) → length fs ≡ length es → AllAt 0 fs
      → RowHolds (zero_row (in_less_out k 0 es) Equal) v ↔ (sum_where (enters k) es fs ≡ sum_where (leaves k) es fs)
  conserve_says k es fs l h =
      let s = adds_conserve k 0 es fs l h in
      let both = over_same _ (whole 0) (sum_where (enters k) es fs +ℤ neg_ℤ (sum_where (leaves k) es fs)) (pos 0) d some s.0 one s.1 zero_over in
      (λ r. let e = both.0 r in omega (arith, ints, e), λ e. both.1 (omega (arith, ints, e)))

  -- columns that are counted from one on, added
  adds_counted : (first : ℕ) (xs : List ℤ) → AllAt first xs → AddsUp (map plus (range_with_len first (length xs))) (total xs)
  adds_counted first [] h = adds_none
  adds_counted first (x ∷ xs) h =
      adds_plus first x (total xs) (map plus (range_with_len (first + 1) (length xs))) (head_at first x xs h) (adds_counted (first + 1) xs (tail_at first x xs h))

  -- the flows of edges that pass a test, subtracted from more
  adds_without : (p : Edge → Bool) (m : ℕ) (es : List Edge) (fs : List ℤ) (more : List (ℕ × Ratio)) (y : ℤ) → length fs ≡ length es
      → AllAt m fs → AddsUp more y → AddsUp (map minus (numbers_where p m es) ++ more) (neg_ℤ (sum_where p es fs) +ℤ y)
  adds_without p m [] fs more y l h g = adds_same more y (neg_ℤ (pos 0) +ℤ y) (omega (arith, ints)) g
  adds_without p m (e ∷ es) [] more y l h g = absurd (omega arith)
  adds_without p m (e ∷ es) (f ∷ fs) more y l h g =
      edge_without (p e) m f (sum_where p es fs) y (numbers_where p (m + 1) es) more (head_at m f fs h) (adds_without p (m + 1) es fs more y (omega arith) (tail_at m f fs h) g)
    where
      edge_without : (b : Bool) (m : ℕ) (f x y : ℤ) (numbers : List ℕ) (more : List (ℕ × Ratio)) → At m f → AddsUp (map minus numbers ++ more) (neg_ℤ x +ℤ y)
          → AddsUp (map minus (cond b (m ∷ numbers) numbers) ++ more) (neg_ℤ (cond b f (pos 0) +ℤ x) +ℤ y)
      edge_without true m f x y numbers more at h =
          adds_same (minus m ∷ (map minus numbers ++ more)) (neg_ℤ f +ℤ (neg_ℤ x +ℤ y)) (neg_ℤ (f +ℤ x) +ℤ y) (omega (arith, ints)) (adds_minus m f (neg_ℤ x +ℤ y) (map minus numbers ++ more) at h)
      edge_without false m f x y numbers more at h = adds_same (map minus numbers ++ more) (neg_ℤ x +ℤ y) (neg_ℤ (pos 0 +ℤ x) +ℤ y) (omega (arith, ints)) h

  -- more than the flows to outputs
  pub above_outputs_says : (n : Network) (fs xs : List ℤ) (first count : ℕ) → length xs ≡ count → length fs ≡ length n.edges → AllAt 0 fs → AllAt first xs
      → RowHolds (above_outputs n first count) v ↔ (sum_where is_last n.edges fs <ℤ total xs)
  above_outputs_says n fs xs first count e l f g =
      let terms : ℕ → List (ℕ × Ratio) = λ c. map minus (numbers_where is_last 0 n.edges) ++ map plus (range_with_len first c) in
      let z : ℤ = neg_ℤ (sum_where is_last n.edges fs) +ℤ total xs in
      let s : AddsUp (terms (length xs)) z = adds_without is_last 0 n.edges fs (map plus (range_with_len first (length xs))) (total xs) l f (adds_counted first xs g) in
      let t : AddsUp (terms count) z = subst (λ c. AddsUp (terms c) z) e s in
      let both = over_less (whole 0) _ (pos 0) z d some one t.0 zero_over t.1 in
      (λ r. let o = both.0 r in omega (arith, ints, o), λ o. both.1 (omega (arith, ints, o)))

-- the values of columns that are whole numbers over a denominator
abbrev pub over : (ℕ → ℤ) → ℕ → ℕ → Ratio
over w d column = record { over = w column; under = d }

module _ (w : ℕ → ℤ) (d : ℕ) (some : 0 < d) where
  own : (c : ℕ) → At (over w d) d some c (w c)
  own c = (some, refl)

  all_own : (first : ℕ) (xs : List ℤ) → ((i : ℕ) → i < length xs → w (first + i) ≡ get_or xs i (pos 0)) → AllAt (over w d) d some first xs
  all_own first xs h = λ i l. subst (At (over w d) d some (first + i)) (h i l) (own (first + i))

  flows_own : (es : List Edge) (fs : List ℤ) → length fs ≡ length es → ((i : ℕ) → i < length es → w i ≡ get_or fs i (pos 0)) → AllAt (over w d) d some 0 fs
  flows_own es fs l h = all_own 0 fs (λ i b. ap w (let z : 0 + i ≡ i = omega arith in z) ∙ h i (omega (arith, l, b)))

  pub at_least_holds : (c k : ℕ) → pos (k * d) ≤ℤ w c → RowHolds (at_least c k) (over w d)
  at_least_holds c k = (at_least_says (over w d) d some c k (w c) (own c)).1

  pub at_most_holds : (c k : ℕ) → w c ≤ℤ pos (k * d) → RowHolds (at_most c k) (over w d)
  at_most_holds c k = (at_most_says (over w d) d some c k (w c) (own c)).1

  pub below_holds : (c k : ℕ) → w c <ℤ pos (k * d) → RowHolds (below c k) (over w d)
  below_holds c k = (below_says (over w d) d some c k (w c) (own c)).1

  pub beyond_holds : (c k : ℕ) → pos (k * d) <ℤ w c → RowHolds (beyond c k) (over w d)
  beyond_holds c k = (beyond_says (over w d) d some c k (w c) (own c)).1

  pub not_below_holds : (a b : ℕ) → w b ≤ℤ w a → RowHolds (not_below a b) (over w d)
  not_below_holds a b = (not_below_says (over w d) d some a b (w a) (w b) (own a) (own b)).1

  pub above_holds : (a b : ℕ) → w b <ℤ w a → RowHolds (above a b) (over w d)
  above_holds a b = (above_says (over w d) d some a b (w a) (w b) (own a) (own b)).1

  pub conserve_holds : (k : ℕ) (es : List Edge) (fs : List ℤ) → length fs ≡ length es → ((i : ℕ) → i < length es → w i ≡ get_or fs i (pos 0))
      → sum_where (enters k) es fs ≡ sum_where (leaves k) es fs → RowHolds (zero_row (in_less_out k 0 es) Equal) (over w d)
  conserve_holds k es fs l h = (conserve_says (over w d) d some k es fs l (flows_own es fs l h)).1

  pub above_outputs_holds : (n : Network) (fs xs : List ℤ) (first count : ℕ) → length xs ≡ count → length fs ≡ length n.edges
      → ((i : ℕ) → i < length n.edges → w i ≡ get_or fs i (pos 0)) → ((i : ℕ) → i < length xs → w (first + i) ≡ get_or xs i (pos 0))
      → sum_where is_last n.edges fs <ℤ total xs → RowHolds (above_outputs n first count) (over w d)
  above_outputs_holds n fs xs first count e l f g = (above_outputs_says (over w d) d some n fs xs first count e l (flows_own n.edges fs l f) (all_own first xs g)).1
