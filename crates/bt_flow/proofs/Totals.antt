-- Sums of fractions as sums of whole numbers over one denominator.
use Rattle.std.proofs.Common.{◌≡◌, ℕ, ◌+◌, Bool, true, false, ℤ, pos, ◌+ℤ◌, List, [], ◌∷◌, length, map, drop, get_or, cond, sym, subst, refl, ap, ◌∙◌, arith, zero, suc}
use Rattle.std.proofs.lemmas.Int.{ints}
use Rattle.bt_frac.specs.Ratio.{Ratio, IsOver, AreOver}
use Rattle.bt_frac.proofs.Over.{over_sum, over_zero}
use Rattle.bt_net.specs.declared.network.Edge.{Edge}
use Rattle.bt_net.specs.Network.{Network}
use Rattle.bt_flow.specs.declared.ports.Port.{Port}
use Rattle.bt_flow.specs.declared.ports.Role.{Role}
use Rattle.bt_flow.specs.Ports.{numbers_of, numbers_where, plays, IsPort}
use Rattle.bt_flow.specs.Steady.{sum_where}
use Rattle.bt_flow.specs.Properties.{total}
use Rattle.bt_flow.specs.Sums.{nothing, AddsTo, RunsTo, fractions_where}

step : (a b c : ℤ) → a +ℤ b +ℤ c ≡ a +ℤ (b +ℤ c)
step a b c = omega (arith, ints)

no_more : (a : ℤ) → a ≡ a +ℤ pos 0
no_more a = omega (arith, ints)

no_less : (a : ℤ) → pos 0 +ℤ a ≡ a
no_less a = omega (arith, ints)

one_over : (a b r : Ratio) (x y : ℤ) (d : ℕ) → AddsTo a b r → IsOver a x d → IsOver b y d → IsOver r (x +ℤ y) d
one_over a b r x y d h ea eb = over_sum a b r x y d h.left.positive h.right.positive ea eb h.sum

runs_over : (a r : Ratio) (fs : List Ratio) (ws : List ℤ) (x : ℤ) (d : ℕ) → RunsTo a fs r → AreOver fs ws d → IsOver a x d → IsOver r (x +ℤ total ws) d
runs_over a r [] [] x d h k e = subst (λ q. IsOver q (x +ℤ pos 0) d) h (subst (λ z. IsOver a z d) (no_more x) e)
runs_over a r [] (w ∷ ws) x d h k e = absurd k
runs_over a r (f ∷ fs) [] x d h k e = absurd k
runs_over a r (f ∷ fs) (w ∷ ws) x d h k e =
    subst (λ z. IsOver r z d) (step x w (total ws)) (runs_over h.0 r fs ws (x +ℤ w) d h.2 k.1 (one_over a f h.0 x w d h.1 e k.0))

-- a sum of fractions is the sum of their whole numbers
pub total_over : (r : Ratio) (fs : List Ratio) (ws : List ℤ) (d : ℕ) → RunsTo nothing fs r → AreOver fs ws d → IsOver r (total ws) d
total_over r fs ws d h k = subst (λ z. IsOver r z d) (no_less (total ws)) (runs_over nothing r fs ws (pos 0) d h k (over_zero nothing d refl))

runs_where : (p : Edge → Bool) (a r : Ratio) (es : List Edge) (fs : List Ratio) (ws : List ℤ) (x : ℤ) (d : ℕ) → RunsTo a (fractions_where p es fs) r → AreOver fs ws d → IsOver a x d
    → IsOver r (x +ℤ sum_where p es ws) d
runs_where p a r [] fs ws x d h k e = subst (λ q. IsOver q (x +ℤ pos 0) d) h (subst (λ z. IsOver a z d) (no_more x) e)
runs_where p a r (g ∷ es) [] [] x d h k e = subst (λ q. IsOver q (x +ℤ pos 0) d) h (subst (λ z. IsOver a z d) (no_more x) e)
runs_where p a r (g ∷ es) [] (w ∷ ws) x d h k e = absurd k
runs_where p a r (g ∷ es) (f ∷ fs) [] x d h k e = absurd k
runs_where p a r (g ∷ es) (f ∷ fs) (w ∷ ws) x d h k e =
    at (p g) (λ b y m n. runs_where p b r es fs ws y d m k.1 n) h
  where
    at : (b : Bool) → ((b : Ratio) (y : ℤ) → RunsTo b (fractions_where p es fs) r → IsOver b y d → IsOver r (y +ℤ sum_where p es ws) d)
        → RunsTo a (cond b (f ∷ fractions_where p es fs) (fractions_where p es fs)) r → IsOver r (x +ℤ (cond b w (pos 0) +ℤ sum_where p es ws)) d
    at true again h = subst (λ z. IsOver r z d) (step x w (sum_where p es ws)) (again h.0 (x +ℤ w) h.2 (one_over a f h.0 x w d h.1 e k.0))
    at false again h = subst (λ z. IsOver r z d) (ap (λ z. x +ℤ z) (sym (no_less (sum_where p es ws)))) (again a x h e)

-- a sum of the fractions of edges that pass a test
pub sum_over : (p : Edge → Bool) (r : Ratio) (es : List Edge) (fs : List Ratio) (ws : List ℤ) (d : ℕ) → RunsTo nothing (fractions_where p es fs) r → AreOver fs ws d
    → IsOver r (sum_where p es ws) d
sum_over p r es fs ws d h k = subst (λ z. IsOver r z d) (no_less (sum_where p es ws)) (runs_where p nothing r es fs ws (pos 0) d h k (over_zero nothing d refl))

drop_one : (flows : List Ratio) (m : ℕ) (f : Ratio) (fs : List Ratio) → drop m flows ≡ f ∷ fs → (get_or flows m nothing ≡ f) × (drop (m + 1) flows ≡ fs)
drop_one [] zero f fs e = absurd (cc)
drop_one [] (suc m) f fs e = absurd (cc)
drop_one (x ∷ xs) zero f fs e = let p : x ≡ f = cc in let q : xs ≡ fs = cc in (p, q)
drop_one (x ∷ xs) (suc m) f fs e = rw suc_add_one (drop_one xs m f fs e)
  where
    suc_add_one : suc m + 1 ≡ suc (m + 1)
    suc_add_one = omega arith

picked : (p : Edge → Bool) (flows : List Ratio) (m : ℕ) (es : List Edge) (fs : List Ratio) → length fs ≡ length es → drop m flows ≡ fs
    → map (λ a. get_or flows a nothing) (numbers_where p m es) ≡ fractions_where p es fs
picked p flows m [] fs l h = refl
picked p flows m (e ∷ es) [] l h = absurd (omega arith)
picked p flows m (e ∷ es) (f ∷ fs) l h =
    let d = drop_one flows m f fs h in
    let again = picked p flows (m + 1) es fs (omega arith) d.1 in
    elim (p e) as (λ b. map (λ a. get_or flows a nothing) (cond b (m ∷ numbers_where p (m + 1) es) (numbers_where p (m + 1) es)) ≡ cond b (f ∷ fractions_where p es fs) (fractions_where p es fs))
    [ true ↦ ap (λ x. x ∷ map (λ a. get_or flows a nothing) (numbers_where p (m + 1) es)) d.0 ∙ ap (λ l. f ∷ l) again | false ↦ again ]

-- the flows of the edges of a port are those of the edges with the role
port_flows : (n : Network) (r : Role) (k : ℕ) (port : Port) (flows : List Ratio) → IsPort n r k port → length flows ≡ length n.edges
    → map (λ a. get_or flows a nothing) (numbers_of port) ≡ fractions_where (plays r k) n.edges flows
port_flows n r k port flows e l = ap (map (λ a. get_or flows a nothing)) e ∙ picked (plays r k) flows 0 n.edges flows l refl

pub port_flows_at : (n : Network) (r : Role) (k : ℕ) (port : Port) (flows read : List Ratio) → IsPort n r k port → length flows ≡ length n.edges → read ≡ flows
    → map (λ a. get_or read a nothing) (numbers_of port) ≡ fractions_where (plays r k) n.edges flows
port_flows_at n r k port flows read e l same = ap (λ x. map (λ a. get_or x a nothing) (numbers_of port)) same ∙ port_flows n r k port flows e l

pub same_fractions : (p : Edge → Bool) (es gs : List Edge) (fs hs : List Ratio) → es ≡ gs → fs ≡ hs → fractions_where p es fs ≡ fractions_where p gs hs
same_fractions p es gs fs hs e f = ap (λ x. fractions_where p x fs) e ∙ ap (λ x. fractions_where p gs x) f
