-- The list of a basis: its members, and that it ascends.
use Rattle.std.proofs.Common.{◌≡◌, ◌⊎◌, inl, inr, zero, suc, ◌+◌, ◌≤◌, arith, List, ◌∷◌, length, Some, None, refl, subst, ℕ, []}
use Rattle.bt_simplex.specs.Counting.{AscendsFrom}
use Rattle.bt_pivot.specs.SolvedForms.{Slots, basis_from, basis_of, InBasis}

-- a number is one of a list
IsOneOf : List ℕ → ℕ → Type 0
IsOneOf [] q = ⊥
IsOneOf (x ∷ xs) q = (x ≡ q) ⊎ IsOneOf xs q

listed : (slots : Slots) (k p q : ℕ) → k + p ≡ q → InBasis slots p → IsOneOf (basis_from k slots) q
unfolding IsOneOf
listed [] k p q e has = let none : None ≡ Some has.0 = has.1 in absurd cc
listed (None ∷ slots) k zero q e has = let none : None ≡ Some has.0 = has.1 in absurd cc
listed (None ∷ slots) k (suc p) q e has = listed slots (k + 1) p q (omega (arith, e)) has
listed (Some terms ∷ slots) k zero q e has = inl (omega (arith, e))
listed (Some terms ∷ slots) k (suc p) q e has = inr (listed slots (k + 1) p q (omega (arith, e)) has)

from_list : (slots : Slots) (k q : ℕ) → IsOneOf (basis_from k slots) q → (p : ℕ) × (k + p ≡ q) × InBasis slots p
unfolding IsOneOf
from_list [] k q one = absurd one
from_list (None ∷ slots) k q one = let rest = from_list slots (k + 1) q one in let e = rest.1 in (suc rest.0, omega (arith, e), rest.2)
from_list (Some terms ∷ slots) k q (inl here) = (zero, omega (arith, here), (terms, refl))
from_list (Some terms ∷ slots) k q (inr later) = let rest = from_list slots (k + 1) q later in let e = rest.1 in (suc rest.0, omega (arith, e), rest.2)

-- where the lists are the same, the same positions are in both
pub same_members : (slots slots' : Slots) → basis_of slots ≡ basis_of slots' → (p : ℕ) → InBasis slots p → InBasis slots' p
same_members slots slots' same p has =
    let found = from_list slots' 0 p (subst (λ l. IsOneOf l p) same (listed slots 0 p p (omega arith) has)) in
    let e = found.1 in
    let is : found.0 ≡ p = omega (arith, e) in
    subst (λ n. InBasis slots' n) is found.2

-- the list of a basis ascends
pub basis_ascends : (slots : Slots) (least k limit : ℕ) → least ≤ k → k + length slots ≤ limit → AscendsFrom least limit (basis_from k slots)
basis_ascends [] least k limit low high = tt
basis_ascends (None ∷ slots) least k limit low high = basis_ascends slots least (k + 1) limit (omega (arith, low)) (omega (arith, high))
basis_ascends (Some terms ∷ slots) least k limit low high = (low, omega (arith, high), basis_ascends slots (k + 1) (k + 1) limit (omega arith) (omega (arith, high)))
