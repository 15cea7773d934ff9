-- The columns of a row's terms, one after another.
use Rattle.std.proofs.Common.{◌≡◌, ℕ, ◌+◌, ◌-◌, ◌^◌, ◌<◌, ◌≤◌, ◌↔◌, List, ◌∷◌, length, get_or, drop, subst, sym, ◌∙◌, ap, drop-cons, add-one, suc}
use Rattle.bt_frac.specs.Ratio.{Ratio}
use Rattle.bt_frac.specs.Columns.{AreColumnsFrom}
use Rattle.bt_frac.specs.Rows.{columns_of}

-- what is left from a place on begins with the item there
pub left_from : {X : Type 0} (xs : List X) (i : ℕ) (x : X) → i < length xs → x ≡ get_or xs i x → drop i xs ≡ x ∷ drop (i + 1) xs
left_from xs i x inside is = rw add-one (drop-cons xs i x inside ∙ ap (λ y. y ∷ drop (suc i) xs) (sym is))

-- one more column ascends
pub column_more : (P : Type 0) (terms : List (ℕ × Ratio)) (i least : ℕ) (term : ℕ × Ratio) → i < length terms → term ≡ get_or terms i term
    → least ≤ term.0 → term.0 < 2 ^ 64 - 1 → (P ↔ AreColumnsFrom least (columns_of (drop i terms))) → P ↔ AreColumnsFrom (term.0 + 1) (columns_of (drop (i + 1) terms))
column_more P terms i least term inside is order below before =
    let rest = subst (λ ts. P ↔ AreColumnsFrom least (columns_of ts)) (left_from terms i term inside is) before in
    (λ p. (rest.0 p).2, λ q. rest.1 (order, below, q))
