-- Classes of splitters: how many ports a splitter has on each side, and how many of them inputs feed and feed outputs.
use Rattle.std.specs.Prelude.{ℕ, ◌+◌, List, [], ◌∷◌, slice_index_or}

-- how many in ports and out ports a splitter has, how many in ports inputs feed, and how many out ports feed outputs;
-- and the number of its class
pub record Class : Type 0 where
  pub number : ℕ
  pub ins : ℕ
  pub outs : ℕ
  pub fed : ℕ
  pub feeding : ℕ

-- a class by its number, its in and out ports, and how many of these inputs feed and feed outputs
abbrev pub class_of : ℕ → ℕ → ℕ → ℕ → ℕ → Class
class_of number ins outs fed feeding = record { number = number; ins = ins; outs = outs; fed = fed; feeding = feeding }

-- the classes by their numbers: splitters of 1 in and 2 out ports, of 2 and 1, and of 2 and 2
abbrev pub classes : List Class
classes =
    class_of 0 1 2 1 2 ∷ class_of 1 1 2 1 1 ∷ class_of 2 1 2 1 0 ∷ class_of 3 1 2 0 2 ∷ class_of 4 1 2 0 1 ∷ class_of 5 1 2 0 0
    ∷ class_of 6 2 1 2 1 ∷ class_of 7 2 1 2 0 ∷ class_of 8 2 1 1 1 ∷ class_of 9 2 1 1 0 ∷ class_of 10 2 1 0 1 ∷ class_of 11 2 1 0 0
    ∷ class_of 12 2 2 2 2 ∷ class_of 13 2 2 2 1 ∷ class_of 14 2 2 2 0 ∷ class_of 15 2 2 1 2 ∷ class_of 16 2 2 1 1 ∷ class_of 17 2 2 1 0
    ∷ class_of 18 2 2 0 2 ∷ class_of 19 2 2 0 1 ∷ class_of 20 2 2 0 0 ∷ []

-- a class without ports
abbrev pub no_ports : Class
no_ports = class_of 21 0 0 0 0

-- the class with this number
abbrev pub class_at : ℕ → Class
class_at number = slice_index_or classes number no_ports

-- a class with in and out exchanged
abbrev pub turned_class : Class → Class
turned_class c = class_of c.number c.outs c.ins c.feeding c.fed

-- the sum of a number of each class
abbrev pub sum_of_classes : (Class → ℕ) → List Class → ℕ
sum_of_classes number [] = 0
sum_of_classes number (c ∷ cs) = number c + sum_of_classes number cs
