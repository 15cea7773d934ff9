-- What holds at each edge of a port holds of each edge with a role at a number.
use Rattle.std.proofs.Common.{◌≡◌, ℕ, ◌<◌, ◌+◌, Bool, true, false, IsTrue, ◌↔◌, List, [], ◌∷◌, length, slice_get, Some, cond, sym, subst, refl, ap, ◌∙◌, arith, zero, suc}
use Rattle.std.specs.List.{AllByRecursion}
use Rattle.std.proofs.lemmas.Option.{slice_get_within}
use Rattle.bt_net.specs.declared.network.Edge.{Edge}
use Rattle.bt_net.specs.Network.{Network}
use Rattle.bt_flow.specs.declared.ports.Port.{Port}
use Rattle.bt_flow.specs.declared.ports.Role.{Role}
use Rattle.bt_flow.specs.Ports.{numbers_of, numbers_where, plays, IsPort}
use Rattle.bt_flow.specs.Steady.{HasEdge}

at_head : (P : ℕ → Type 0) (m : ℕ) (b : Bool) (rest : List ℕ) → b ≡ true → AllByRecursion P (cond b (m ∷ rest) rest) → P m
at_head P m b rest e h = (subst (λ c. AllByRecursion P (cond c (m ∷ rest) rest)) e h).0

at_tail : (P : ℕ → Type 0) (m : ℕ) (b : Bool) (rest : List ℕ) → AllByRecursion P (cond b (m ∷ rest) rest) → AllByRecursion P rest
at_tail P m true rest h = h.1
at_tail P m false rest h = h

from_both : (P : ℕ → Type 0) (m : ℕ) (b : Bool) (rest : List ℕ) → (b ≡ true → P m) → AllByRecursion P rest → AllByRecursion P (cond b (m ∷ rest) rest)
from_both P m true rest f h = (f refl, h)
from_both P m false rest f h = h

pub numbers_all : (p : Edge → Bool) (P : ℕ → Type 0) (m : ℕ) (es : List Edge) → AllByRecursion P (numbers_where p m es)
    → (i : ℕ) (e : Edge) → slice_get es i ≡ Some e → p e ≡ true → P (m + i)
numbers_all p P m [] h i e is t = absurd (cc)
numbers_all p P m (x ∷ es) h zero e is t =
    let same : x ≡ e = cc in
    subst P (let z : m ≡ m + 0 = omega arith in z) (at_head P m (p x) (numbers_where p (m + 1) es) (ap p same ∙ t) h)
numbers_all p P m (x ∷ es) h (suc i) e is t =
    subst P (let z : m + 1 + i ≡ m + suc i = omega arith in z) (numbers_all p P (m + 1) es (at_tail P m (p x) (numbers_where p (m + 1) es) h) i e is t)

pub numbers_from : (p : Edge → Bool) (P : ℕ → Type 0) (m : ℕ) (es : List Edge) → ((i : ℕ) (e : Edge) → slice_get es i ≡ Some e → p e ≡ true → P (m + i))
    → AllByRecursion P (numbers_where p m es)
numbers_from p P m [] f = tt
numbers_from p P m (x ∷ es) f =
    from_both P m (p x) (numbers_where p (m + 1) es) (λ t. subst P (let z : m + 0 ≡ m = omega arith in z) (f 0 x refl t))
    (numbers_from p P (m + 1) es (λ i e is t. subst P (let z : m + suc i ≡ m + 1 + i = omega arith in z) (f (suc i) e is t)))

module _ (n : Network) (r : Role) (k : ℕ) (port : Port) (is_port : IsPort n r k port) where
  pub each_edge : (P : ℕ → Type 0) → AllByRecursion P (numbers_of port) → (a : ℕ) (e : Edge) → HasEdge n a e → IsTrue (plays r k e) → P a
  each_edge P h a e is t =
      subst P (let z : 0 + a ≡ a = omega arith in z) (numbers_all (plays r k) P 0 n.edges (subst (λ l. AllByRecursion P l) is_port h) a e is t)

  pub from_each : (P : ℕ → Type 0) → ((a : ℕ) (e : Edge) → HasEdge n a e → IsTrue (plays r k e) → P a) → AllByRecursion P (numbers_of port)
  from_each P f =
      subst (λ l. AllByRecursion P l) (sym is_port)
      (numbers_from (plays r k) P 0 n.edges (λ i e is t. subst P (let z : i ≡ 0 + i = omega arith in z) (f i e is t)))

  -- its edges are edges of the network
  pub port_within : AllByRecursion (λ a. a < length n.edges) (numbers_of port)
  port_within = from_each (λ a. a < length n.edges) (λ a e is t. slice_get_within n.edges a e is)

  pub each_with : (P : ℕ → Edge → Type 0) → AllByRecursion (λ a. (e : Edge) → HasEdge n a e → P a e) (numbers_of port)
      ↔ ((a : ℕ) (e : Edge) → HasEdge n a e → IsTrue (plays r k e) → P a e)
  each_with P = (
    λ h a e is t. each_edge (λ a. (e : Edge) → HasEdge n a e → P a e) h a e is t e is,
    λ f. from_each (λ a. (e : Edge) → HasEdge n a e → P a e) (λ a e is t g js. f a g js (let same : e ≡ g = cc in subst (λ x. IsTrue (plays r k x)) same t)),
  )

  pub each : (P : ℕ → Type 0) → AllByRecursion P (numbers_of port) ↔ ((a : ℕ) (e : Edge) → HasEdge n a e → IsTrue (plays r k e) → P a)
  each P = (each_edge P, from_each P)

  pub port_below : (m : ℕ) → m ≡ length n.edges → AllByRecursion (λ a. a < m) (numbers_of port)
  port_below m same = from_each (λ a. a < m) (λ a e is t. let l = slice_get_within n.edges a e is in omega (arith, same, l))
