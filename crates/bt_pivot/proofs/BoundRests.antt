-- Whether a position is a bound row, told by where it rests.
use Rattle.std.proofs.Common.{◌≡◌, Option, Some, None, sym, ◌∙◌, refl}
use Rattle.bt_frac.specs.Rows.{RowParts}
use Rattle.bt_frac.specs.declared.relation.Relation.{Relation}
use Rattle.bt_pivot.specs.Points.{bound_value, relation_of}
use Rattle.bt_pivot.specs.inner.Rests.{rest_point, IsRestOf}
use Rattle.bt_pivot.specs.declared.rests.Rest.{Rest}

same_relation : (row : RowParts) (relation : Relation) → Some row.relation ≡ Some relation → row.relation ≡ relation
same_relation row relation is = cc

-- the row that a position is whose rest has a relation
pub bound_by : (o : Option RowParts) (rest : Rest) (relation : Relation) → IsRestOf o rest → rest.relation ≡ Some relation
    → (row : RowParts) × (o ≡ Some row) × (row.relation ≡ relation) × (bound_value row ≡ rest_point rest)
bound_by (Some row) rest relation is there = (row, refl, same_relation row relation (sym is.1 ∙ there), is.0)
bound_by None rest relation is there = let both : None ≡ Some relation = sym is.1 ∙ there in cc

pub row_of : (o : Option RowParts) (relation : Relation) → relation_of o ≡ Some relation → (row : RowParts) × (o ≡ Some row) × (row.relation ≡ relation)
row_of (Some row) relation is = (row, refl, same_relation row relation is)
row_of None relation is = cc
