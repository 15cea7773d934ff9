use Rattle.std.proofs.Common.{◌≡◌, ℕ, subst, refl, List}
use Rattle.std.specs.List.{All}
use Rattle.bt_frac.specs.Ratio.{Ratio, IsLowest}
use Rattle.bt_frac.specs.Rows.{HaveColumns, IsRow}
use Rattle.bt_frac.specs.declared.relation.Relation.{Relation}
use Rattle.bt_frac.proofs.row.Row.from_vec.Goals as goal

made : (terms seen : List (ℕ × Ratio)) (relation : Relation) (bound : Ratio) → seen ≡ terms → HaveColumns seen → All (λ t. IsLowest t.1) seen → IsLowest bound
    → IsRow (record { terms = terms; relation = relation; bound = bound })
made terms seen relation bound same columns coefficients low =
    record { columns = subst HaveColumns same columns; coefficients = subst (λ ts. All (λ t. IsLowest t.1) ts) same coefficients; bound = low }

pub invariant_of-result : goal.invariant_of-result
invariant_of-result c =
    let are = c.if-not-have_columns.ensures in
    made c.args.terms.items c.deref.result.now c.args.relation c.args.bound c.deref.ensures.value (are.columns.0 refl) (are.known refl) c.denominator.ensures.known

pub returns : goal.returns
returns c = (invariant_of-result c, refl)
