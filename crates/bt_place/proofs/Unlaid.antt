-- A request whose formula can be met has a layout: the parts that are kept of what an assignment says, cell by cell.
use Rattle.std.proofs.Common.{◌≡◌, ℕ, zero, suc, ◌+◌, ◌<◌, ◌≤◌, List, [], ◌∷◌, ◌++◌, subst, arith}
use Rattle.bt_parts.specs.declared.part.Part.{Part}
use Rattle.bt_place.specs.Laws.{UnlaidIsUnmet}
use Rattle.bt_place.specs.inner.Grid.{spots_in}
use Rattle.bt_place.specs.inner.Told.{Told, told_of, IsSolved}
use Rattle.bt_place.proofs.Gathering.{IsGathered, gathered_kept, gathered_lays, gathered_same, none_gathered}
use Rattle.bt_place.proofs.Solving.{solved_by}

-- of the cells before each number some parts are those that are kept
gathered : (t : Told) → IsSolved t → (n : ℕ) → n ≤ spots_in t.request.rect → ((parts : List Part) → IsGathered t n parts → ⊥) → ⊥
gathered t solved zero within absent = absent [] (none_gathered t)
gathered t solved (suc n) within absent =
    let lt : n < spots_in t.request.rect = omega (arith, within) in
    let next : n + 1 ≡ suc n = omega arith in
    gathered t solved n (omega (arith, within)) (λ parts on.
    absent parts (subst (λ m. IsGathered t m parts) next (gathered_same t solved n lt parts on
    (λ part kept at. absent (parts ++ part ∷ []) (subst (λ m. IsGathered t m (parts ++ part ∷ [])) next (gathered_kept t solved n lt parts on part kept at))))))

pub unlaid_is_unmet : UnlaidIsUnmet
unlaid_is_unmet = λ r assignment is unlaid solution.
    let t = told_of r assignment in
    let solved : IsSolved t = solved_by r assignment is solution in
    gathered t solved (spots_in r.rect) (omega arith) (λ parts on. unlaid parts (gathered_lays t solved parts on))
