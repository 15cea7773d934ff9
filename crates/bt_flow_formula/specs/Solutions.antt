-- States whose marks and values are those of an assignment that meets the flow formula.
use Rattle.std.specs.Prelude.{◌≡◌, ℕ, ◌<◌, Bool, length, map}
use Rattle.std.specs.List.{range_with_len}
use Rattle.bt_frac.specs.Ratio.{Ratio, IsOver}
use Rattle.bt_frac.specs.Values.{AreValues}
use Rattle.bt_net.specs.Network.{Network, IsNetwork}
use Rattle.bt_flow.specs.declared.property.Property.{Property}
use Rattle.bt_flow.specs.States.{Flows, Fractions, IsStateOf, IsTrueOf, flow_at, backed_at, load_at, room_at}
use Rattle.bt_flow.specs.Steady.{IsSteady}
use Rattle.bt_flow.specs.Properties.{IsAdmissible, Breaks}
use Rattle.bt_cnf.specs.Meeting.{Meets}
use Rattle.bt_flow.specs.EndEdges.{load_column, room_column}
use Rattle.bt_flow_formula.specs.FlowFormula.{flow_formula, steady_formula}

-- the state has these marks, and its flows, loads and rooms are the values of their columns
pub record HasValues (n : Network) (s : Flows) (mark : ℕ → Bool) (values : ℕ → Ratio) : Type 0 where
  pub state : IsStateOf n s
  pub marks : (a : ℕ) → a < length n.edges → backed_at s a ≡ mark a
  pub flows : (a : ℕ) → a < length n.edges → IsOver (values a) (flow_at s a) s.denominator
  pub loads : (i : ℕ) → i < n.inputs → IsOver (values (load_column n i)) (load_at s i) s.denominator
  pub rooms : (o : ℕ) → o < n.outputs → IsOver (values (room_column n o)) (room_at s o) s.denominator

-- where an assignment with values, which may be any fractions, meets the flow formula of a network and a property,
-- each state with these marks and values breaks the property
abbrev pub MeetingBreaks : Type 0
MeetingBreaks = (n : Network) (p : Property) (assignment : ℕ → Bool) (values : ℕ → Ratio) (s : Flows) → IsNetwork n → AreValues values
    → Meets (flow_formula n p) assignment values → HasValues n s assignment values → Breaks n p s

-- where an assignment with values meets the formula of a network's steady states, each state with these marks and
-- values is admissible and steady
abbrev pub MeetingIsSteady : Type 0
MeetingIsSteady = (n : Network) (assignment : ℕ → Bool) (values : ℕ → Ratio) (s : Flows) → IsNetwork n → AreValues values
    → Meets (steady_formula n) assignment values → HasValues n s assignment values → IsAdmissible n s × IsSteady n s

-- the state of marks and values: a mark and a flow for each edge, a load for each input, a room for each output
abbrev pub state_at : Network → (ℕ → Bool) → (ℕ → Ratio) → Fractions
state_at n mark values = record {
  flows = map values (range_with_len 0 (length n.edges));
  backed = map mark (range_with_len 0 (length n.edges));
  loads = map values (range_with_len (load_column n 0) n.inputs);
  rooms = map values (range_with_len (room_column n 0) n.outputs);
}

-- the state breaks each property whose flow formula the marks and values meet
abbrev pub BreaksWhatIsMet : Network → (ℕ → Bool) → (ℕ → Ratio) → Fractions → Type 0
BreaksWhatIsMet n assignment values t = (p : Property) → Meets (flow_formula n p) assignment values → IsTrueOf n t (Breaks n p)
