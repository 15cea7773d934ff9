-- Partial networks: splitters of which some ports are joined, out to in.
use Rattle.std.specs.Prelude.{ℕ, ◌+◌, ◌-◌, ◌==◌, ◌⊎◌, Bool, ◌&&◌, not, nat_lt, List, [], map, count_by, take, Contains, Option, None, slice_index_or}
use Rattle.bt_fewest.specs.Classes.{Class, class_at, no_ports, sum_of_classes, turned_class}

-- an out port of one splitter joined to an in port of another, by their numbers
pub record Join : Type 0 where
  pub from : ℕ
  pub to : ℕ

-- a branch joins the out ports of a splitter one after another, or its in ports
pub data Side : Type 0 where
  Outs : Side
  Ins : Side

-- a branch that goes on: the splitter whose ports are joined on a side, and, where one port was joined by it already,
-- the other splitter of that join and whether that was touched before
pub record Branch : Type 0 where
  pub side : Side
  pub splitter : ℕ
  pub first : Option (ℕ × Bool)

-- the numbers of inputs and outputs, the class of each splitter, the joins in the order in which they were made, the
-- splitters that branches chose, and the branch that goes on, where one does
pub record Partial : Type 0 where
  pub inputs : ℕ
  pub outputs : ℕ
  pub classes : List Class
  pub joins : List Join
  pub chosen : List ℕ
  pub branch : Option Branch

-- the partial network of a start: nothing is joined or chosen
abbrev pub begun : ℕ → ℕ → List ℕ → Partial
begun inputs outputs start =
    record { inputs = inputs; outputs = outputs; classes = map class_at start; joins = []; chosen = []; branch = None }

-- a join with its ends exchanged
abbrev pub turned_join : Join → Join
turned_join j = record { from = j.to; to = j.from }

-- the other side
abbrev pub turned_side : Side → Side
turned_side Outs = Ins
turned_side Ins = Outs

-- a partial network with in and out exchanged; of the branch that goes on nothing is said
abbrev pub turned : Partial → Partial
turned p = record { inputs = p.outputs; outputs = p.inputs; classes = map turned_class p.classes; joins = map turned_join p.joins; chosen = p.chosen; branch = None }

-- the partial network, in which in and out are exchanged for a branch of in ports
abbrev pub seen_from : Side → Partial → Partial
seen_from Outs p = p
seen_from Ins p = turned p

-- the class of a splitter
abbrev pub class_in : Partial → ℕ → Class
class_in p s = slice_index_or p.classes s no_ports

-- the join leaves this splitter
abbrev pub is_from : ℕ → Join → Bool
is_from s j = j.from == s

-- the join goes to this splitter
abbrev pub is_to : ℕ → Join → Bool
is_to s j = j.to == s

-- how many out ports of a splitter are open: they feed no output and are not joined
abbrev pub open_outs : Partial → ℕ → ℕ
open_outs p s = (class_in p s).outs - ((class_in p s).feeding + count_by (is_from s) p.joins)

-- how many in ports of a splitter are open: no input feeds them and they are not joined
abbrev pub open_ins : Partial → ℕ → ℕ
open_ins p s = (class_in p s).ins - ((class_in p s).fed + count_by (is_to s) p.joins)

-- how many inputs feed splitters before this one: inputs are numbered along the list
abbrev pub inputs_before : Partial → ℕ → ℕ
inputs_before p s = sum_of_classes (λ c. c.fed) (take s p.classes)

-- how many outputs splitters before this one feed: outputs are numbered along the list
abbrev pub outputs_before : Partial → ℕ → ℕ
outputs_before p s = sum_of_classes (λ c. c.feeding) (take s p.classes)

-- the splitter feeds this output
abbrev pub feeds_output : Partial → ℕ → ℕ → Bool
feeds_output p s o = not (nat_lt o (outputs_before p s)) && nat_lt o (outputs_before p s + (class_in p s).feeding)

-- an input feeds the splitter
abbrev pub is_fed : Partial → ℕ → Bool
is_fed p s = nat_lt 0 (class_in p s).fed

-- one splitter is joined to another
abbrev pub IsJoined : Partial → ℕ → ℕ → Type 0
IsJoined p s t = Contains p.joins (record { from = s; to = t })

-- a splitter is touched once it is chosen or a port of it is joined
abbrev pub IsTouched : Partial → ℕ → Type 0
IsTouched p s = Contains p.chosen s ⊎ ((t : ℕ) × IsJoined p s t) ⊎ ((r : ℕ) × IsJoined p r s)
