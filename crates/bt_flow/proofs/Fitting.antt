-- Fractions that stand for a state of a network fit it.
use Rattle.std.proofs.Common.{◌≡◌, ℕ, ℤ, List, [], ◌∷◌, length, refl, ◌∙◌, ap, arith}
use Rattle.bt_frac.specs.Ratio.{Ratio, AreOver}
use Rattle.bt_net.specs.Network.{Network}
use Rattle.bt_flow.specs.States.{Flows, Fractions, Fits, StandsFor}

-- there are as many fractions as whole numbers
over_many : (rs : List Ratio) (ws : List ℤ) (d : ℕ) → AreOver rs ws d → length rs ≡ length ws
over_many [] [] d h = refl
over_many [] (w ∷ ws) d h = absurd h
over_many (r ∷ rs) [] d h = absurd h
over_many (r ∷ rs) (w ∷ ws) d h = omega (arith, over_many rs ws d h.1)

-- there are as many as the network asks for
pub state_fits : (n : Network) (t : Fractions) (s : Flows) → StandsFor n t s → Fits n t
state_fits n t s g = record {
  flows = over_many t.flows s.flows s.denominator g.flows ∙ g.is_state.flows;
  backed = ap (λ xs. length xs) g.backed ∙ g.is_state.backed;
  loads = over_many t.loads s.loads s.denominator g.loads ∙ g.is_state.loads;
  rooms = over_many t.rooms s.rooms s.denominator g.rooms ∙ g.is_state.rooms;
}
