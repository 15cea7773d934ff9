-- Properties of a network's steady states, and the states that break them.
use Rattle.std.specs.Prelude.{◌≡◌, ℕ, ◌<◌, Bool, true, false, IsTrue, List, [], ◌∷◌, ℤ, pos, ◌+ℤ◌, ◌≤ℤ◌, ◌<ℤ◌, ◌⊎◌}
use Rattle.bt_net.specs.declared.network.Edge.{Edge}
use Rattle.bt_net.specs.declared.network.Target.{Target}
use Rattle.bt_net.specs.declared.network.Target.TheVariants as to
use Rattle.bt_net.specs.Network.{Network, is_input, is_output}
use Rattle.bt_flow.specs.declared.property.Property.{Property}
use Rattle.bt_flow.specs.declared.property.Property.TheVariants.{Balanced, DrawnEvenly, Unlimited, Full, Fair, DrawnFairly}
use Rattle.bt_flow.specs.States.{AreLowest, Flows, Fractions, IsStateOf, IsTrueOf, flow_at, load_at, room_at, cap_in}
use Rattle.bt_flow.specs.Steady.{HasEdge, IsSteady, sum_where}

-- the load of an input is from 0 to the cap of its edge
abbrev pub AdmitsLoad : Network → Flows → ℕ → Type 0
AdmitsLoad n s i = (a : ℕ) (e : Edge) → HasEdge n a e → IsTrue (is_input i e) → (pos 0 ≤ℤ load_at s i) × (load_at s i ≤ℤ cap_in s e)

-- the room of an output is from 0 to the cap of its edge
abbrev pub AdmitsRoom : Network → Flows → ℕ → Type 0
AdmitsRoom n s o = (a : ℕ) (e : Edge) → HasEdge n a e → IsTrue (is_output o e) → (pos 0 ≤ℤ room_at s o) × (room_at s o ≤ℤ cap_in s e)

-- each load and each room is admitted
pub record IsAdmissible (n : Network) (s : Flows) : Type 0 where
  pub loads : (i : ℕ) → i < n.inputs → AdmitsLoad n s i
  pub rooms : (o : ℕ) → o < n.outputs → AdmitsRoom n s o

-- an input is fully loaded: its load is the cap of its edge
abbrev pub IsLoaded : Network → Flows → ℕ → Type 0
IsLoaded n s i = (a : ℕ) (e : Edge) → HasEdge n a e → IsTrue (is_input i e) → load_at s i ≡ cap_in s e

-- an output is not blocked: its room is the cap of its edge
abbrev pub IsOpen : Network → Flows → ℕ → Type 0
IsOpen n s o = (a : ℕ) (e : Edge) → HasEdge n a e → IsTrue (is_output o e) → room_at s o ≡ cap_in s e

-- whether a property asks every load to be at its cap
abbrev pub asks_loads : Property → Bool
asks_loads Balanced = false
asks_loads DrawnEvenly = true
asks_loads Unlimited = false
asks_loads Full = true
asks_loads Fair = false
asks_loads DrawnFairly = false

-- whether a property asks every room to be at its cap
abbrev pub asks_rooms : Property → Bool
asks_rooms Balanced = true
asks_rooms DrawnEvenly = false
asks_rooms Unlimited = false
asks_rooms Full = true
asks_rooms Fair = false
asks_rooms DrawnFairly = false

-- the state meets the condition of a property on loads and rooms
pub record Meets (p : Property) (n : Network) (s : Flows) : Type 0 where
  pub loads : IsTrue (asks_loads p) → (i : ℕ) → i < n.inputs → IsLoaded n s i
  pub rooms : IsTrue (asks_rooms p) → (o : ℕ) → o < n.outputs → IsOpen n s o

-- all output flows are equal
abbrev pub HasEqualOutputs : Network → Flows → Type 0
HasEqualOutputs n s = (o p a b : ℕ) (e f : Edge) → HasEdge n a e → HasEdge n b f → IsTrue (is_output o e) → IsTrue (is_output p f)
    → flow_at s a ≡ flow_at s b

-- all input flows are equal
abbrev pub HasEqualInputs : Network → Flows → Type 0
HasEqualInputs n s = (i j a b : ℕ) (e f : Edge) → HasEdge n a e → HasEdge n b f → IsTrue (is_input i e) → IsTrue (is_input j f)
    → flow_at s a ≡ flow_at s b

-- each output that is short, whose flow is less than its room, carries at least as much as every other output
abbrev pub SharesFairly : Network → Flows → Type 0
SharesFairly n s = (o p a b : ℕ) (e f : Edge) → HasEdge n a e → HasEdge n b f → IsTrue (is_output o e) → IsTrue (is_output p f)
    → flow_at s a <ℤ room_at s o → flow_at s b ≤ℤ flow_at s a

-- each input that is short, whose flow is less than its load, gives at least as much as every other input
abbrev pub DrawsFairly : Network → Flows → Type 0
DrawsFairly n s = (i j a b : ℕ) (e f : Edge) → HasEdge n a e → HasEdge n b f → IsTrue (is_input i e) → IsTrue (is_input j f)
    → flow_at s a <ℤ load_at s i → flow_at s b ≤ℤ flow_at s a

-- the edge ends at an output
abbrev pub is_last : Edge → Bool
is_last e = at_target e.target
  where
    at_target : Target → Bool
    at_target (to.Output o) = true
    at_target (to.Split s) = false

-- the sum of whole numbers
abbrev pub total : List ℤ → ℤ
total [] = pos 0
total (z ∷ zs) = z +ℤ total zs

-- a whole number is the lesser of two
abbrev pub IsLesser : ℤ → ℤ → ℤ → Type 0
IsLesser z x y = ((z ≡ x) × (x ≤ℤ y)) ⊎ ((z ≡ y) × (y ≤ℤ x))

-- the sum of output flows is the lesser of the sum of loads and the sum of rooms
abbrev pub PassesAll : Network → Flows → Type 0
PassesAll n s = IsLesser (sum_where is_last n.edges s.flows) (total s.loads) (total s.rooms)

-- the conclusion of a property is true of the state
abbrev pub Concludes : Property → Network → Flows → Type 0
Concludes Balanced n s = HasEqualOutputs n s
Concludes DrawnEvenly n s = HasEqualInputs n s
Concludes Unlimited n s = PassesAll n s
Concludes Full n s = PassesAll n s
Concludes Fair n s = SharesFairly n s
Concludes DrawnFairly n s = DrawsFairly n s

-- the network has the property: each admissible steady state that meets its condition has its conclusion
abbrev pub Holds : Network → Property → Type 0
Holds n p = (s : Flows) → IsStateOf n s → IsAdmissible n s → Meets p n s → IsSteady n s → Concludes p n s

-- the state breaks the property: it is admissible, meets the condition, is steady, and fails the conclusion
pub record Breaks (n : Network) (p : Property) (s : Flows) : Type 0 where
  pub state : IsStateOf n s
  pub admissible : IsAdmissible n s
  pub meets : Meets p n s
  pub steady : IsSteady n s
  pub fails : Concludes p n s → ⊥

-- the fractions are a state that breaks the property, in lowest terms
abbrev pub IsBreaking : Network → Property → Fractions → Type 0
IsBreaking n p state = IsTrueOf n state (Breaks n p) × AreLowest state
