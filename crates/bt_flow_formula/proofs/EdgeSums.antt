-- The flows of all edges, counted once at their starts and once at their targets.
use Rattle.std.proofs.Common.{◌≡◌, ℕ, ◌<◌, ◌≤◌, ◌+◌, ◌==◌, Bool, true, false, inl, inr, ℤ, pos, ◌+ℤ◌, ◌≤ℤ◌, List, [], ◌∷◌, length, map, get_or, cond, ap, sym, ◌∙◌, refl, subst, arith, zero, suc}
use Rattle.std.specs.List.{AllByRecursion}
use Rattle.std.proofs.lemmas.Int.{ints}
use Rattle.std.proofs.lemmas.Bool.{cases_eq, eq-eqb, ne_eqb}
use Rattle.bt_net.specs.declared.network.Edge.{Edge}
use Rattle.bt_net.specs.declared.network.Start.{Start}
use Rattle.bt_net.specs.declared.network.Start.TheVariants as from
use Rattle.bt_net.specs.declared.network.Target.{Target}
use Rattle.bt_net.specs.declared.network.Target.TheVariants as to
use Rattle.bt_net.specs.Network.{Network, StartsIn, EndsIn, leaves, enters, is_input, is_output}
use Rattle.bt_flow.specs.Ports.{numbers_where}
use Rattle.bt_flow.specs.Steady.{sum_where}
use Rattle.bt_flow.specs.Properties.{is_last, total}

-- the sums of the flows at so many places from one on
abbrev pub sums_from : (ℕ → Edge → Bool) → ℕ → ℕ → List Edge → List ℤ → ℤ
sums_from p a zero es fs = pos 0
sums_from p a (suc c) es fs = sum_where (p a) es fs +ℤ sums_from p (a + 1) c es fs

-- one flow, added at each of so many places from one on that pass a test
abbrev pub added : (ℕ → Bool) → ℤ → ℕ → ℕ → ℤ
added q f a zero = pos 0
added q f a (suc c) = cond (q a) f (pos 0) +ℤ added q f (a + 1) c

sums_none : (p : ℕ → Edge → Bool) (a c : ℕ) (fs : List ℤ) → sums_from p a c [] fs ≡ pos 0
sums_none p a zero fs = refl
sums_none p a (suc c) fs = ap (λ z. pos 0 +ℤ z) (sums_none p (a + 1) c fs)

regroup : (f s r o u : ℤ) → r ≡ o +ℤ u → f +ℤ s +ℤ r ≡ f +ℤ o +ℤ (s +ℤ u)
regroup f s r o u e = omega (arith, ints, e)

sums_more : (p : ℕ → Edge → Bool) (a c : ℕ) (e : Edge) (f : ℤ) (es : List Edge) (fs : List ℤ) → sums_from p a c (e ∷ es) (f ∷ fs) ≡ added (λ k. p k e) f a c +ℤ sums_from p a c es fs
sums_more p a zero e f es fs = refl
sums_more p a (suc c) e f es fs =
    regroup (cond (p a e) f (pos 0)) (sum_where (p a) es fs) (sums_from p (a + 1) c (e ∷ es) (f ∷ fs)) (added (λ k. p k e) f (a + 1) c) (sums_from p (a + 1) c es fs)
    (sums_more p (a + 1) c e f es fs)

plus_none : (f z : ℤ) → z ≡ pos 0 → f +ℤ z ≡ f
plus_none f z e = omega (arith, ints, e)

none_plus : (f z : ℤ) → z ≡ f → pos 0 +ℤ z ≡ f
none_plus f z e = omega (arith, ints, e)

added_none : (q : ℕ → Bool) (f : ℤ) (a c : ℕ) → ((k : ℕ) → a ≤ k → q k ≡ false) → added q f a c ≡ pos 0
added_none q f a zero h = refl
added_none q f a (suc c) h =
    ap (λ b. cond b f (pos 0) +ℤ added q f (a + 1) c) (h a (omega arith)) ∙ none_plus (pos 0) (added q f (a + 1) c) (added_none q f (a + 1) c (λ k l. h k (omega (arith, l))))

-- at one place alone
added_once : (q : ℕ → Bool) (f : ℤ) (j a c : ℕ) → q j ≡ true → ((k : ℕ) → (k ≡ j → ⊥) → q k ≡ false) → a ≤ j → j < a + c → added q f a c ≡ f
added_once q f j a zero hit miss l m = absurd (omega arith)
added_once q f j a (suc c) hit miss l m =
    elim (cases_eq a j) [
      | inl e ↦ ap (λ b. cond b f (pos 0) +ℤ added q f (a + 1) c) (ap q e ∙ hit)
          ∙ plus_none f (added q f (a + 1) c) (added_none q f (a + 1) c (λ k g. miss k (λ s. omega (arith, e, g, s))))
      | inr o ↦ ap (λ b. cond b f (pos 0) +ℤ added q f (a + 1) c) (miss a o)
          ∙ none_plus f (added q f (a + 1) c) (added_once q f j (a + 1) c hit miss (omega (arith, o, l)) (omega (arith, m)))
    ]

equals_once : (j c : ℕ) (f : ℤ) → j < c → added (λ k. j == k) f 0 c ≡ f
equals_once j c f l = added_once (λ k. j == k) f j 0 c (eq-eqb j j refl) (λ k o. ne_eqb j k (λ e. o (sym e))) (omega arith) (omega (arith, l))

never : (c : ℕ) (f : ℤ) → added (λ k. false) f 0 c ≡ pos 0
never c f = added_none (λ k. false) f 0 c (λ k l. refl)

first_only : (f x y : ℤ) → x ≡ f → y ≡ pos 0 → x +ℤ y ≡ f
first_only f x y e g = omega (arith, ints, e, g)

second_only : (f x y : ℤ) → x ≡ pos 0 → y ≡ f → x +ℤ y ≡ f
second_only f x y e g = omega (arith, ints, e, g)

more_starts : (si sl ai al ri rl f t : ℤ) → si ≡ ai +ℤ ri → sl ≡ al +ℤ rl → ai +ℤ al ≡ f → ri +ℤ rl ≡ t → si +ℤ sl ≡ f +ℤ t
more_starts si sl ai al ri rl f t a b c d = omega (arith, ints, a, b, c, d)

none_at_all : (x y : ℤ) → x ≡ pos 0 → y ≡ pos 0 → x +ℤ y ≡ pos 0
none_at_all x y e g = omega (arith, ints, e, g)

module _ (n : Network) where
  -- an edge starts at one input or one splitter
  start_once : (st : Start) (t : Target) (cap : ℕ) (f : ℤ) → StartsIn n st
      → added (λ k. is_input k (record { start = st; target = t; cap = cap })) f 0 n.inputs +ℤ added (λ k. leaves k (record { start = st; target = t; cap = cap })) f 0 n.splitters ≡ f
  start_once (from.Input i) t cap f h = first_only f _ _ (equals_once i n.inputs f h) (never n.splitters f)
  start_once (from.Split k) t cap f h = second_only f _ _ (never n.inputs f) (equals_once k n.splitters f h)

  -- an edge ends at an output or at one splitter
  end_once : (st : Start) (t : Target) (cap : ℕ) (f : ℤ) → EndsIn n t
      → cond (is_last (record { start = st; target = t; cap = cap })) f (pos 0) +ℤ added (λ k. enters k (record { start = st; target = t; cap = cap })) f 0 n.splitters ≡ f
  end_once st (to.Output o) cap f h = first_only f _ _ refl (never n.splitters f)
  end_once st (to.Split k) cap f h = second_only f _ _ refl (equals_once k n.splitters f h)

  -- an edge that ends at an output ends at one
  output_once : (st : Start) (t : Target) (cap : ℕ) (f : ℤ) → EndsIn n t
      → cond (is_last (record { start = st; target = t; cap = cap })) f (pos 0) ≡ added (λ k. is_output k (record { start = st; target = t; cap = cap })) f 0 n.outputs
  output_once st (to.Output o) cap f h = sym (equals_once o n.outputs f h)
  output_once st (to.Split k) cap f h = sym (never n.outputs f)

  -- the flows from inputs and from splitters are all flows
  pub starts_total : (es : List Edge) (fs : List ℤ) → length fs ≡ length es → AllByRecursion (λ e. StartsIn n e.start) es
      → sums_from is_input 0 n.inputs es fs +ℤ sums_from leaves 0 n.splitters es fs ≡ total fs
  starts_total [] [] l h = none_at_all _ _ (sums_none is_input 0 n.inputs []) (sums_none leaves 0 n.splitters [])
  starts_total [] (f ∷ fs) l h = absurd (omega arith)
  starts_total (e ∷ es) [] l h = absurd (omega arith)
  starts_total (e ∷ es) (f ∷ fs) l h =
      more_starts _ _ (added (λ k. is_input k e) f 0 n.inputs) (added (λ k. leaves k e) f 0 n.splitters) (sums_from is_input 0 n.inputs es fs) (sums_from leaves 0 n.splitters es fs) f (total fs)
      (sums_more is_input 0 n.inputs e f es fs) (sums_more leaves 0 n.splitters e f es fs) (start_once e.start e.target e.cap f h.0) (starts_total es fs (omega arith) h.1)

  -- the flows to outputs and to splitters are all flows
  pub ends_total : (es : List Edge) (fs : List ℤ) → length fs ≡ length es → AllByRecursion (λ e. EndsIn n e.target) es
      → sum_where is_last es fs +ℤ sums_from enters 0 n.splitters es fs ≡ total fs
  ends_total [] [] l h = none_at_all _ _ refl (sums_none enters 0 n.splitters [])
  ends_total [] (f ∷ fs) l h = absurd (omega arith)
  ends_total (e ∷ es) [] l h = absurd (omega arith)
  ends_total (e ∷ es) (f ∷ fs) l h =
      more_starts _ _ (cond (is_last e) f (pos 0)) (added (λ k. enters k e) f 0 n.splitters) (sum_where is_last es fs) (sums_from enters 0 n.splitters es fs) f (total fs)
      refl (sums_more enters 0 n.splitters e f es fs) (end_once e.start e.target e.cap f h.0) (ends_total es fs (omega arith) h.1)

  -- the flows to outputs are those to each output
  pub outputs_total : (es : List Edge) (fs : List ℤ) → length fs ≡ length es → AllByRecursion (λ e. EndsIn n e.target) es
      → sum_where is_last es fs ≡ sums_from is_output 0 n.outputs es fs
  outputs_total [] fs l h = sym (sums_none is_output 0 n.outputs fs)
  outputs_total (e ∷ es) [] l h = absurd (omega arith)
  outputs_total (e ∷ es) (f ∷ fs) l h =
      ap (λ z. z +ℤ sum_where is_last es fs) (output_once e.start e.target e.cap f h.0)
      ∙ ap (λ z. added (λ k. is_output k e) f 0 n.outputs +ℤ z) (outputs_total es fs (omega arith) h.1)
      ∙ sym (sums_more is_output 0 n.outputs e f es fs)

-- sums that are equal at each place are equal
pub sums_same : (p q : ℕ → Edge → Bool) (a c : ℕ) (es : List Edge) (fs : List ℤ) → ((k : ℕ) → a ≤ k → k < a + c → sum_where (p k) es fs ≡ sum_where (q k) es fs)
    → sums_from p a c es fs ≡ sums_from q a c es fs
sums_same p q a zero es fs h = refl
sums_same p q a (suc c) es fs h =
    ap (λ z. z +ℤ sums_from p (a + 1) c es fs) (h a (omega arith) (omega arith))
    ∙ ap (λ z. sum_where (q a) es fs +ℤ z) (sums_same p q (a + 1) c es fs (λ k l m. h k (omega arith) (omega arith)))

both_at_most : (x y u v : ℤ) → x ≤ℤ u → y ≤ℤ v → (x +ℤ y) ≤ℤ (u +ℤ v)
both_at_most x y u v l m = omega (arith, ints, l, m)

-- sums that are at most numbers at each place are at most the sum of these
pub sums_at_most : (p : ℕ → Edge → Bool) (a : ℕ) (xs : List ℤ) (es : List Edge) (fs : List ℤ) → ((i : ℕ) → i < length xs → sum_where (p (a + i)) es fs ≤ℤ get_or xs i (pos 0))
    → sums_from p a (length xs) es fs ≤ℤ total xs
sums_at_most p a [] es fs h = omega (arith, ints)
sums_at_most p a (x ∷ xs) es fs h =
    both_at_most (sum_where (p a) es fs) (sums_from p (a + 1) (length xs) es fs) x (total xs)
    (subst (λ k. sum_where (p k) es fs ≤ℤ x) (let z : a + 0 ≡ a = omega arith in z) (h 0 (omega arith)))
    (sums_at_most p (a + 1) xs es fs (λ i l. subst (λ k. sum_where (p k) es fs ≤ℤ get_or xs i (pos 0)) (let z : a + suc i ≡ a + 1 + i = omega arith in z) (h (suc i) (omega arith))))

module _ (w : ℕ → ℤ) where
  -- the numbers in the columns of the edges that pass a test add up to the sum of their flows
  pub picked : (p : Edge → Bool) (m : ℕ) (es : List Edge) (fs : List ℤ) → length fs ≡ length es → ((i : ℕ) → i < length es → w (m + i) ≡ get_or fs i (pos 0))
      → total (map w (numbers_where p m es)) ≡ sum_where p es fs
  picked p m [] fs l h = refl
  picked p m (e ∷ es) [] l h = absurd (omega arith)
  picked p m (e ∷ es) (f ∷ fs) l h =
      let first : w m ≡ f = ap w (let z : m ≡ m + 0 = omega arith in z) ∙ h 0 (omega arith) in
      let again = picked p (m + 1) es fs (omega arith) (λ i b. ap w (let z : m + 1 + i ≡ m + suc i = omega arith in z) ∙ h (suc i) (omega arith)) in
      elim (p e) as (λ b. total (map w (cond b (m ∷ numbers_where p (m + 1) es) (numbers_where p (m + 1) es))) ≡ cond b f (pos 0) +ℤ sum_where p es fs) [
        | true ↦ ap (λ z. z +ℤ total (map w (numbers_where p (m + 1) es))) first ∙ ap (λ z. f +ℤ z) again
        | false ↦ sym (none_plus (sum_where p es fs) (sum_where p es fs) refl ∙ sym again)
      ]

  -- one column alone
  pub one_listed : (numbers : List ℕ) → length numbers ≡ 1 → total (map w numbers) ≡ w (get_or numbers 0 0)
  one_listed [] l = absurd (omega arith)
  one_listed (x ∷ []) l = plus_none (w x) (pos 0) refl
  one_listed (x ∷ y ∷ numbers) l = absurd (omega arith)
