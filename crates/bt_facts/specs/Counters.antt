-- A counter: so many of some cells hold halves.
use Rattle.std.specs.List.{range_with_len, flat_map}
use Rattle.std.specs.Prelude.{ℕ, zero, suc, ◌+◌, ◌-◌, List, [], ◌∷◌, ◌++◌, length, slice_index_or}
use Rattle.bt_parts.specs.declared.part.Cell.{Cell}
use Rattle.bt_parts.specs.Cells.{cell_at}
use Rattle.bt_facts.specs.declared.fact.Fact.{Fact}
use Rattle.bt_facts.specs.declared.fact.Fact.TheVariants.{HalfOn, Held}
use Rattle.bt_facts.specs.Rules.{Rule, rule, some_of}

-- as many halves among one cell less, where some cells may hold none
abbrev pub among_less : ℕ → ℕ → List Fact
among_less zero half = []
among_less (suc spare) half = Held spare half ∷ []

-- so many cells hold halves only where as many of those before the last one do, or it holds one
abbrev pub last_cell_rule : List Cell → ℕ → ℕ → Rule
last_cell_rule cells spare half =
    rule (Held spare half ∷ []) (among_less spare half ++ HalfOn (slice_index_or cells (spare + half) (cell_at 0 0)) ∷ [])

-- and only where as many of those before the last one do, or one fewer
abbrev pub one_fewer_rules : ℕ → ℕ → List Rule
one_fewer_rules spare zero = []
one_fewer_rules spare (suc half) = rule (Held spare (suc half) ∷ []) (among_less spare (suc half) ++ Held spare half ∷ []) ∷ []

-- the rules of so many cells that may hold none, and of the half of this number
abbrev pub held_rules : List Cell → ℕ → ℕ → List Rule
held_rules cells spare half = last_cell_rule cells spare half ∷ one_fewer_rules spare half

-- all of them: for each number of cells that may hold none, those of each half
abbrev pub counter_rules : List Cell → ℕ → List Rule
counter_rules cells halves =
    flat_map (λ spare. flat_map (held_rules cells spare) (range_with_len 0 halves)) (range_with_len 0 (length cells + 1 - halves))

-- so many halves are among so many cells
abbrev pub all_held_rules : ℕ → ℕ → List Rule
all_held_rules cells zero = []
all_held_rules cells (suc half) = some_of (Held (cells - suc half) half ∷ []) ∷ []
