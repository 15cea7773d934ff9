-- Rules that count: so many cells hold halves as there are halves, and halves and ends have room.
use Rattle.std.specs.List.{range_with_len}
use Rattle.std.specs.Prelude.{ℕ, ◌+◌, ◌*◌, nat_lt, Bool, not, ◌&&◌, List, ◌++◌, length, count_by}
use Rattle.bt_model.specs.Requests.{LayoutRequest}
use Rattle.bt_demands.specs.Classes.{is_through}
use Rattle.bt_facts.specs.Rules.{Rule}
use Rattle.bt_facts.specs.Counters.{counter_rules, all_held_rules}
use Rattle.bt_facts.specs.Spots.{cells_of, border_of}

-- the number of halves
abbrev pub halves_of : LayoutRequest → ℕ
halves_of r = r.net.splitters * 2

-- the number of inputs that don't lead to outputs
abbrev pub inputs_apart : LayoutRequest → ℕ
inputs_apart r = count_by (λ i. not (is_through r i)) (range_with_len 0 r.net.inputs)

-- the number of cells that ends need: each has one of its own, but an input and the output to which it leads may share
-- theirs
abbrev pub ends_apart : LayoutRequest → ℕ
ends_apart r = r.net.outputs + inputs_apart r

-- so many cells, with so many on the border, are enough for so many halves and ends
abbrev pub are_enough : ℕ → ℕ → ℕ → ℕ → Bool
are_enough cells border halves ends = not (nat_lt border ends) && not (nat_lt cells (halves + ends))

-- the rectangle has room: as many cells on its border as ends need, and as many cells as halves and ends need
abbrev pub has_room : LayoutRequest → Bool
has_room r = are_enough (length (cells_of r.rect)) (length (border_of r.rect)) (halves_of r) (ends_apart r)

-- all halves are among the cells
abbrev pub count_rules : LayoutRequest → List Rule
count_rules r = counter_rules (cells_of r.rect) (halves_of r) ++ all_held_rules (length (cells_of r.rect)) (halves_of r)
