-- Sums of rows that say that 0 is at least a number above 0, or that 0 is above 0.
use Rattle.std.specs.Prelude.{◌≡◌, ◌⊎◌, ℕ, List, pos, ◌<ℤ◌, ◌≤ℤ◌}
use Rattle.std.specs.List.{All, Any}
use Rattle.bt_frac.specs.Ratio.{Ratio}
use Rattle.bt_frac.specs.Rows.{RowParts}
use Rattle.bt_frac.specs.Values.{sum_of_products}
use Rattle.bt_frac.specs.declared.relation.Relation.{Relation}
use Rattle.bt_frac.specs.declared.relation.Relation.TheVariants.{Equal, Above}
use Rattle.bt_farkas.specs.WeightedRows.{pairs_at}
use Rattle.bt_farkas.specs.declared.places.Place.TheVariants.{Column, Bound}

-- a row of this relation may have this weight: any for an equation, and else one that isn't negative
abbrev pub MayHave : Relation → Ratio → Type 0
MayHave relation weight = (relation ≡ Equal) ⊎ (pos 0 ≤ℤ weight.over)

-- the row says that its sum is above its bound, and its weight is positive
abbrev pub MakesStrict : Relation → Ratio → Type 0
MakesStrict relation weight = (relation ≡ Above) × (pos 0 <ℤ weight.over)

-- the row may have its weight
abbrev pub MayWeigh : RowParts × Ratio → Type 0
MayWeigh r = MayHave r.0.relation r.1

-- the row with its weight makes a sum strict
abbrev pub IsStrict : RowParts × Ratio → Type 0
IsStrict r = MakesStrict r.0.relation r.1

-- 0 can't stand to this bound: it is above 0, or it is 0 and the sum is strict
abbrev pub IsFalseBound : Ratio → Type 0 → Type 0
IsFalseBound bound strict = (pos 0 <ℤ bound.over) ⊎ ((bound.over ≡ pos 0) × strict)

-- the weighted coefficients of a column add up to 0
abbrev pub Cancels : List (RowParts × Ratio) → ℕ → Type 0
Cancels sum column = (sum_of_products (pairs_at (Column column) sum)).over ≡ pos 0

-- the weighted rows add up to a row that no values meet: only an equation has a negative weight, each column
-- cancels, and the bounds add up to one to which 0 can't stand
pub record IsFalseSum (sum : List (RowParts × Ratio)) : Type 0 where
  pub weights : All MayWeigh sum
  pub columns : (column : ℕ) → Cancels sum column
  pub bounds : IsFalseBound (sum_of_products (pairs_at Bound sum)) (Any IsStrict sum)
