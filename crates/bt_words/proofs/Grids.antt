-- Words for grids and for tiers.
use Rattle.std.proofs.Common.{◌≡◌, ℕ, ◌^◌, ◌<◌, List, get_or, nat_eq, refl, sym, ◌∙◌, ap, arith}
use Rattle.std.specs.Prelude.{cond, decimal}
use Rattle.bt_frac.proofs.Numerals.{decimal-lacks, decimal_apart}
use Rattle.bt_parts.specs.declared.part.Rect.{Rect}
use Rattle.bt_parts.specs.declared.part.Tier.{Tier}
use Rattle.bt_parts.specs.declared.part.Tier.TheVariants.{Basic, Fast, Express, Turbo}
use Rattle.bt_text.specs.Lines.{Lacks, SplitsAt}
use Rattle.bt_text.proofs.FirstLines.{split_apart, SplitsAt-lacks}
use Rattle.bt_words.specs.Arguments.{IsGridWord, tier_name}

-- no `x` stands in a numeral
no_x : (n : ℕ) → n < 10 ^ 64 → Lacks 120 (decimal n)
no_x n small = decimal-lacks n 120 small (λ r. omega (arith, r.1))

-- how the word of a grid splits at its `x`
grid_splits : (grid : Rect) (word : List ℕ) → IsGridWord grid word → SplitsAt 120 word (decimal grid.width) (decimal grid.height)
grid_splits grid word (is, e) = record { first = no_x grid.width (omega (arith, is.few_across)); text_is = e }

-- the sides of a word that splits at an `x` are those of the grid that it is
pub sides_are : (grid : Rect) (word left right : List ℕ) → IsGridWord grid word → SplitsAt 120 word left right
    → (left ≡ decimal grid.width) × (right ≡ decimal grid.height)
sides_are grid word left right is s =
    split_apart 120 left (decimal grid.width) right (decimal grid.height) s.first (grid_splits grid word is).first (sym s.text_is ∙ is.1)

-- a word without `x` is no grid
pub no_grid : (word : List ℕ) → Lacks 120 word → (grid : Rect) → IsGridWord grid word → ⊥
no_grid word lacks grid is = SplitsAt-lacks (grid_splits grid word is) lacks

-- a word is one grid at most
pub same_grid : (one other : Rect) (word : List ℕ) → IsGridWord one word → IsGridWord other word → one ≡ other
same_grid one other word (is, e) (at, f) =
    let sides = sides_are other word (decimal one.width) (decimal one.height) (at, f) (grid_splits one word (is, e)) in
    let width = decimal_apart one.width other.width (omega (arith, is.few_across)) (omega (arith, at.few_across)) sides.0 in
    let height = decimal_apart one.height other.height (omega (arith, is.few_down)) (omega (arith, at.few_down)) sides.1 in
    λ i. record { width = width i; height = height i }

-- the tier whose name begins with this byte
abbrev begun_by : ℕ → Tier
begun_by byte = cond (nat_eq byte 98) Basic (cond (nat_eq byte 102) Fast (cond (nat_eq byte 101) Express Turbo))

begins : (t : Tier) → begun_by (get_or (tier_name t) 0 0) ≡ t
begins Basic = refl
begins Fast = refl
begins Express = refl
begins Turbo = refl

-- tiers with one name are one
pub same_tier : (one other : Tier) → tier_name one ≡ tier_name other → one ≡ other
same_tier one other e = sym (begins one) ∙ ap (λ name. begun_by (get_or name 0 0)) e ∙ begins other
