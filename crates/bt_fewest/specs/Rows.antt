-- Rows of small flows that the splitters of a partial network meet in whatever network it becomes; and weighted sums of
-- rows that no flows meet.
use Rattle.std.specs.Prelude.{◌≡◌, ℕ, ℤ, pos, negsuc, neg_ℤ, ◌+ℤ◌, ◌-ℤ◌, ◌*ℤ◌, ◌<ℤ◌, ◌==◌, ◌⊎◌, Bool, true, false, List, map, if◌then◌else◌, length}
use Rattle.std.specs.List.{range_with_len, filter}
use Rattle.bt_flow.specs.Properties.{total}
use Rattle.bt_fewest.specs.Partial.{Partial, Join, class_in, open_outs, open_ins, feeds_output, is_fed, is_to, turned, turned_join}

-- the rows of a kind and an end, one for each splitter, in one unknown for each splitter: so many times a splitter's own
-- unknown is the sum of those to which joins lead from it, of 1 where the end is at it, and of an unknown for each open
-- port. What is known of a splitter is 1 over the number of lines. Unknowns are at least 0, and where they are bounded
-- at most 1.
pub record Rows : Type 0 where
  pub splitters : ℕ
  pub times : ℕ → ℕ
  pub joins : List Join
  pub has_end : ℕ → Bool
  pub open_ports : ℕ → ℕ
  pub is_known : ℕ → Bool
  pub lines : ℕ
  pub bounded : Bool

-- F: of what a splitter has, how much of each belt comes to this output; each output gets an equal share of an input
abbrev pub share_rows : Partial → ℕ → Rows
share_rows p e = record {
  splitters = length p.classes;
  times = λ s. (class_in p s).outs;
  joins = p.joins;
  has_end = λ s. feeds_output p s e;
  open_ports = open_outs p;
  is_known = is_fed p;
  lines = p.outputs;
  bounded = true;
}

-- X: how much of a belt at this input goes out by each out port of a splitter; each output gets an equal share
abbrev pub flow_rows : Partial → ℕ → Rows
flow_rows p e = record {
  splitters = length p.classes;
  times = λ s. (class_in p s).outs;
  joins = map turned_join p.joins;
  has_end = λ s. feeds_output (turned p) s e;
  open_ports = open_ins p;
  is_known = is_fed (turned p);
  lines = p.outputs;
  bounded = false;
}

-- the weight of a splitter: 0 where none is named
abbrev pub weight_of : List (ℕ × ℤ) → ℕ → ℤ
weight_of weights s = total (map (λ w. if w.0 == s then w.1 else pos 0) weights)

-- in the weighted sum of the rows, left less right side, the coefficient of a splitter's unknown
abbrev pub coefficient : Rows → (ℕ → ℤ) → ℕ → ℤ
coefficient rows weight s = (pos (rows.times s) *ℤ weight s) -ℤ total (map (λ j. weight j.from) (filter (is_to s) rows.joins))

-- the sum of a number of each splitter
abbrev pub sum_over : Rows → (ℕ → ℤ) → ℤ
sum_over rows number = total (map number (range_with_len 0 rows.splitters))

-- the number where it is below 0, else 0
abbrev pub negative_part : ℤ → ℤ
negative_part (pos k) = pos 0
negative_part (negsuc k) = negsuc k

-- with what is known put in, the sum says: coefficients times unknowns are this, all times the number of lines
abbrev pub constant : Rows → (ℕ → ℤ) → ℤ
constant rows weight = (pos rows.lines *ℤ sum_over rows (λ s. if rows.has_end s then weight s else pos 0))
    -ℤ sum_over rows (λ s. if rows.is_known s then coefficient rows weight s else pos 0)

-- the sum of the negative coefficients of unknowns: those of splitters and those of open ports
abbrev pub sum_of_negatives : Rows → (ℕ → ℤ) → ℤ
sum_of_negatives rows weight = sum_over rows (λ s. if rows.is_known s then pos 0 else negative_part (coefficient rows weight s))
    +ℤ sum_over rows (λ s. pos (rows.open_ports s) *ℤ negative_part (neg_ℤ (weight s)))

-- no unknowns meet the sum: no coefficient is negative and the constant is; or unknowns are bounded, and the negative
-- coefficients sum to more than the constant
abbrev pub IsFalseSum : Rows → (ℕ → ℤ) → Type 0
IsFalseSum rows weight = ((sum_of_negatives rows weight ≡ pos 0) × (constant rows weight <ℤ pos 0))
    ⊎ ((rows.bounded ≡ true) × (constant rows weight <ℤ (pos rows.lines *ℤ sum_of_negatives rows weight)))
