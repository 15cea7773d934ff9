-- Lists of edges in which one stands for another and all others are moved.
use Rattle.std.proofs.Common.{◌≡◌, ℕ, zero, suc, ◌⊎◌, inl, inr, Bool, List, [], ◌∷◌, ◌++◌, length, get_or, slice_get, map, Some, ℤ, pos, ◌+ℤ◌, cond, ap, sym, ◌∙◌, refl, arith}
use Rattle.std.proofs.lemmas.Int.{ints}
use Rattle.bt_net.specs.declared.network.Edge.{Edge}
use Rattle.bt_flow.specs.Steady.{sum_where}

pub same_edge : (x e : Edge) → Some x ≡ Some e → e ≡ x
same_edge x e s = cc

-- an edge of a list that is moved comes of one at its place
read_mapped : (g : Edge → Edge) (es : List Edge) (m : ℕ) (e : Edge) → slice_get (map g es) m ≡ Some e → (d : Edge) × (slice_get es m ≡ Some d) × (e ≡ g d)
read_mapped g [] m e s = absurd cc
read_mapped g (x ∷ es) zero e s = (x, refl, same_edge (g x) e s)
read_mapped g (x ∷ es) (suc m) e s = read_mapped g es m e s

written_mapped : (g : Edge → Edge) (es : List Edge) (m : ℕ) (d : Edge) → slice_get es m ≡ Some d → slice_get (map g es) m ≡ Some (g d)
written_mapped g [] m d s = absurd cc
written_mapped g (x ∷ es) zero d s = ap (λ y. Some (g y)) (sym (same_edge x d s))
written_mapped g (x ∷ es) (suc m) d s = written_mapped g es m d s

module _ (g : Edge → Edge) (j z : Edge) (behind : List Edge) where
  -- the edges with the one, and those that are moved with the other
  abbrev pub own : List Edge → List Edge
  own before = before ++ j ∷ behind

  abbrev pub replaced : List Edge → List Edge
  replaced before = map g before ++ z ∷ map g behind

  pub own_at : (before : List Edge) → slice_get (own before) (length before) ≡ Some j
  own_at [] = refl
  own_at (b ∷ before) = own_at before

  pub replaced_at : (before : List Edge) → slice_get (replaced before) (length before) ≡ Some z
  replaced_at [] = refl
  replaced_at (b ∷ before) = replaced_at before

  -- an edge there is the other one at its place, or comes of one elsewhere
  pub read_replaced : (before : List Edge) (m : ℕ) (e : Edge) → slice_get (replaced before) m ≡ Some e
      → ((m ≡ length before) × (e ≡ z)) ⊎ ((d : Edge) × (m ≡ length before → ⊥) × (slice_get (own before) m ≡ Some d) × (e ≡ g d))
  read_replaced [] zero e s = inl (refl, same_edge z e s)
  read_replaced [] (suc m) e s = let r = read_mapped g behind m e s in inr (r.0, (λ q. omega (arith, q)), r.1, r.2)
  read_replaced (b ∷ before) zero e s = inr (b, (λ q. omega (arith, q)), refl, same_edge (g b) e s)
  read_replaced (b ∷ before) (suc m) e s =
      elim (read_replaced before m e s) [ inl h ↦ inl (let q = h.0 in omega (arith, q), h.1) | inr h ↦ inr (h.0, (λ q. h.1 (omega (arith, q))), h.2, h.3) ]

  pub written_replaced : (before : List Edge) (m : ℕ) (d : Edge) → slice_get (own before) m ≡ Some d
      → ((m ≡ length before) × (d ≡ j)) ⊎ (slice_get (replaced before) m ≡ Some (g d))
  written_replaced [] zero d s = inl (refl, same_edge j d s)
  written_replaced [] (suc m) d s = inr (written_mapped g behind m d s)
  written_replaced (b ∷ before) zero d s = inr (ap (λ y. Some (g y)) (sym (same_edge b d s)))
  written_replaced (b ∷ before) (suc m) d s =
      elim (written_replaced before m d s) [ inl h ↦ inl (let q = h.0 in omega (arith, q), h.1) | inr h ↦ inr h ]

  pub replaced_length : (before : List Edge) → length (replaced before) ≡ length (own before)
  replaced_length [] = mapped_length behind
    where
      mapped_length : (es : List Edge) → length (z ∷ map g es) ≡ length (j ∷ es)
      mapped_length [] = refl
      mapped_length (e ∷ es) = let h = mapped_length es in omega (arith, h)
  replaced_length (b ∷ before) = let h = replaced_length before in omega (arith, h)

  -- ---- sums of flows over them

  mapped_sum : (p : Edge → Bool) → ((e : Edge) → p (g e) ≡ p e) → (es : List Edge) (fs : List ℤ) → sum_where p (map g es) fs ≡ sum_where p es fs
  mapped_sum p same [] fs = refl
  mapped_sum p same (e ∷ es) [] = refl
  mapped_sum p same (e ∷ es) (f ∷ fs) = ap (λ b. cond b f (pos 0) +ℤ sum_where p (map g es) fs) (same e) ∙ ap (λ t. cond (p e) f (pos 0) +ℤ t) (mapped_sum p same es fs)

  crossed : (x y s t : ℤ) → s ≡ t → x +ℤ s +ℤ y ≡ y +ℤ t +ℤ x
  crossed x y s t e = omega (arith, ints, e)

  carried : (x y s t u v : ℤ) → x ≡ y → s +ℤ u ≡ t +ℤ v → x +ℤ s +ℤ u ≡ y +ℤ t +ℤ v
  carried x y s t u v e h = omega (arith, ints, e, h)

  -- the sums differ by what stands at the one place
  pub replaced_sum : (p : Edge → Bool) → ((e : Edge) → p (g e) ≡ p e) → (before : List Edge) (fs : List ℤ) → length fs ≡ length (own before)
      → sum_where p (replaced before) fs +ℤ cond (p j) (get_or fs (length before) (pos 0)) (pos 0) ≡ sum_where p (own before) fs +ℤ cond (p z) (get_or fs (length before) (pos 0)) (pos 0)
  replaced_sum p same [] [] l = absurd (omega (arith, l))
  replaced_sum p same [] (f ∷ fs) l =
      crossed (cond (p z) f (pos 0)) (cond (p j) f (pos 0)) (sum_where p (map g behind) fs) (sum_where p behind fs) (mapped_sum p same behind fs)
  replaced_sum p same (b ∷ before) [] l = absurd (omega (arith, l))
  replaced_sum p same (b ∷ before) (f ∷ fs) l =
      carried (cond (p (g b)) f (pos 0)) (cond (p b) f (pos 0)) (sum_where p (replaced before) fs) (sum_where p (own before) fs)
      (cond (p j) (get_or fs (length before) (pos 0)) (pos 0)) (cond (p z) (get_or fs (length before) (pos 0)) (pos 0))
      (ap (λ q. cond q f (pos 0)) (same b)) (replaced_sum p same before fs (omega (arith, l)))
