-- Starts: lists of the classes that the splitters of a network have.
use Rattle.std.specs.Prelude.{◌≡◌, ⊤, ℕ, ◌+◌, ◌<◌, ◌≤◌, List, [], ◌∷◌, map, length, All}
use Rattle.bt_fewest.specs.Classes.{Class, class_at, sum_of_classes}

-- none of the numbers is below the one before it
abbrev pub IsAscending : List ℕ → Type 0
IsAscending [] = ⊤
IsAscending (k ∷ ks) = All (λ j. k ≤ j) ks × IsAscending ks

-- the sum of a number of each class
abbrev pub sum_of : (Class → ℕ) → List ℕ → ℕ
sum_of number start = sum_of_classes number (map class_at start)

-- a splitter of the class is joined to no other one: inputs feed all its in ports, and its out ports feed outputs
pub record IsSeparate (c : Class) : Type 0 where
  pub fed : c.fed ≡ c.ins
  pub feeding : c.feeding ≡ c.outs

-- a start of so many splitters from inputs to outputs: a class for each splitter, none below the one before; inputs feed
-- as many in ports as there are inputs, as many out ports feed outputs, and as many out ports as in ports are left. Of
-- more than one splitter none is joined to no other.
pub record IsStart (inputs outputs splitters : ℕ) (start : List ℕ) : Type 0 where
  pub many : length start ≡ splitters
  pub classes : All (λ k. k < 21) start
  pub ascending : IsAscending start
  pub inputs_are : sum_of (λ c. c.fed) start ≡ inputs
  pub outputs_are : sum_of (λ c. c.feeding) start ≡ outputs
  pub ports : sum_of (λ c. c.outs) start + inputs ≡ sum_of (λ c. c.ins) start + outputs
  pub joined : 1 < splitters → All (λ k. IsSeparate (class_at k) → ⊥) start
