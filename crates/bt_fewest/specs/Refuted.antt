-- Trees of partial networks that refute all networks of a number of splitters.
use Rattle.std.specs.Prelude.{◌≡◌, ℕ, ◌<◌, ◌⊎◌, ℤ, List, [], ◌∷◌, Contains, Some}
use Rattle.bt_flow.specs.declared.property.Property.{Property}
use Rattle.bt_flow.specs.declared.property.Property.TheVariants.{DrawnEvenly}
use Rattle.bt_flow.specs.States.{Flows}
use Rattle.bt_flow.specs.Properties.{Breaks}
use Rattle.bt_fewest.specs.Starts.{IsStart}
use Rattle.bt_fewest.specs.Partial.{Partial, Side, Branch, begun, turned}
use Rattle.bt_fewest.specs.Branches.{MayChoose, choosing, Joins}
use Rattle.bt_fewest.specs.Completed.{IsComplete, IsDead, completed}
use Rattle.bt_fewest.specs.Rows.{Rows, share_rows, flow_rows, weight_of, IsFalseSum}

-- the kinds of rows: F and X, and B and Z, which are these with in and out exchanged
pub data Kind : Type 0 where
  F : Kind
  X : Kind
  B : Kind
  Z : Kind

-- a leaf: a kind of rows, the number of an end, and weights of splitters by their numbers
pub record Leaf : Type 0 where
  pub kind : Kind
  pub end : ℕ
  pub weights : List (ℕ × ℤ)

-- the rows of a kind and an end
abbrev pub rows_of : Kind → Partial → ℕ → Rows
rows_of F p e = share_rows p e
rows_of X p e = flow_rows p e
rows_of B p e = share_rows (turned p) e
rows_of Z p e = flow_rows (turned p) e

-- a kind may stand with this end: the partial network has it, and B and Z need a wish for drawn evenly
abbrev pub MayName : List Property → Partial → Kind → ℕ → Type 0
MayName wish p F e = e < p.outputs
MayName wish p X e = e < p.inputs
MayName wish p B e = (e < p.inputs) × Contains wish DrawnEvenly
MayName wish p Z e = (e < p.outputs) × Contains wish DrawnEvenly

-- the leaf refutes the partial network: its kind may stand, and no unknowns meet the weighted sum of its rows
pub record Refutes (wish : List Property) (p : Partial) (leaf : Leaf) : Type 0 where
  pub may_stand : MayName wish p leaf.kind leaf.end
  pub false_sum : IsFalseSum (rows_of leaf.kind p leaf.end) (weight_of leaf.weights)

-- a tree refutes the partial network: a leaf does; or it is complete, and some splitter has no way from an input or to
-- an output, or a state breaks a property that is wished for; or a branch chooses a splitter, and each way to join its
-- next port leads to a tree; or so does each way of the branch that goes on
pub data IsRefuted (wish : List Property) : Partial → Type 0 where
  leaf : (p : Partial) (l : Leaf) → Refutes wish p l → IsRefuted wish p
  dead : (p : Partial) → IsComplete p → IsDead (completed p) → IsRefuted wish p
  broken : (p : Partial) (property : Property) (s : Flows) → Contains wish property → IsComplete p → Breaks (completed p) property s
      → IsRefuted wish p
  chosen : (p : Partial) (side : Side) (s : ℕ) → MayChoose p side s
      → ((t : ℕ) (q : Partial) → Joins (choosing p side s) t q → IsRefuted wish q) → IsRefuted wish p
  next : (p : Partial) (branch : Branch) → p.branch ≡ Some branch
      → ((t : ℕ) (q : Partial) → Joins p t q → IsRefuted wish q) → IsRefuted wish p

-- a class standing alone as splitter 0
abbrev pub alone : ℕ → ℕ → ℕ → Partial
alone inputs outputs k = begun inputs outputs (k ∷ [])

-- a leaf refutes the class, standing alone
abbrev pub IsClassRefuted : List Property → ℕ → ℕ → ℕ → Type 0
IsClassRefuted wish inputs outputs k = (leaf : Leaf) × Refutes wish (alone inputs outputs k) leaf

-- the start is refuted: a leaf refutes a class of it, or a tree refutes its partial network
abbrev pub IsStartRefuted : List Property → ℕ → ℕ → List ℕ → Type 0
IsStartRefuted wish inputs outputs start =
    ((k : ℕ) × Contains start k × IsClassRefuted wish inputs outputs k) ⊎ IsRefuted wish (begun inputs outputs start)

-- all networks of so many splitters are refuted: each start is. Without splitters, there must be a second input or
-- output.
pub record AreRefuted (wish : List Property) (inputs outputs splitters : ℕ) : Type 0 where
  pub not_one_edge : (0 < splitters) ⊎ (1 < inputs) ⊎ (1 < outputs)
  pub starts : (start : List ℕ) → IsStart inputs outputs splitters start → IsStartRefuted wish inputs outputs start
