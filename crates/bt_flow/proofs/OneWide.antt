-- A list of sums forms one first wide addition, or none where all additions fit.
use Rattle.std.proofs.Common.{◌≡◌, ◌*◌, List, [], ◌∷◌, ◌++◌, inl, inr, sym, subst, ◌∙◌, pos, ◌*ℤ◌, ◌+ℤ◌}
use Rattle.bt_frac.specs.Ratio.{Ratio, IsWide}
use Rattle.bt_frac.proofs.Euclid.{over_unique}
use Rattle.bt_frac.proofs.Over.{under_positive}
use Rattle.bt_frac.proofs.Sums.{wide_apart}
use Rattle.bt_flow.specs.Sums.{nothing, AddsTo, RunsTo, IsWideIn, IsFirstWide, AllFit}

-- two fractions have one sum in lowest terms
adds_one : (a b q r : Ratio) → AddsTo a b q → AddsTo a b r → q ≡ r
adds_one a b q r h k =
    over_unique q r (a.over *ℤ pos b.under +ℤ b.over *ℤ pos a.under) (a.under * b.under) (under_positive a.under b.under h.left.positive h.right.positive) h.lowest k.lowest h.sum k.sum

runs_apart : (a c left right : Ratio) (front rest : List Ratio) → RunsTo a (front ++ right ∷ rest) c → RunsTo a front left → IsWide left right → ⊥
runs_apart a c left right [] rest h e w = wide_apart left right w (subst (λ q. AddsTo q right h.0) e h.1).fits
runs_apart a c left right (x ∷ front) rest h k w =
    runs_apart h.0 c left right front rest h.2 (subst (λ q. RunsTo q front left) (adds_one a x k.0 h.0 k.1 h.1) k.2) w

-- a sum doesn't both fit and leave the bits
fits_or_wide : (left right whole : Ratio) (sum : List Ratio) → RunsTo nothing sum whole → IsWideIn left right sum → ⊥
fits_or_wide left right whole sum h w =
    runs_apart nothing whole left right w.front w.rest (subst (λ l. RunsTo nothing l whole) w.is_split h) w.runs w.wide

wide_same : (a l r m s : Ratio) (front rest other after : List Ratio) → front ++ r ∷ rest ≡ other ++ s ∷ after → RunsTo a front l → RunsTo a other m → IsWide l r → IsWide m s
    → (l ≡ m) × (r ≡ s)
wide_same a l r m s [] rest [] after e h k w v = let q : r ≡ s = cc in (sym h ∙ k, q)
wide_same a l r m s [] rest (y ∷ other) after e h k w v =
    let q : r ≡ y = cc in
    absurd (wide_apart l r w (subst (λ x. AddsTo l x k.0) (sym q) (subst (λ x. AddsTo x y k.0) h k.1)).fits)
wide_same a l r m s (x ∷ front) rest [] after e h k w v =
    let q : x ≡ s = cc in
    absurd (wide_apart m s v (subst (λ y. AddsTo m y h.0) q (subst (λ y. AddsTo y x h.0) k h.1)).fits)
wide_same a l r m s (x ∷ front) rest (y ∷ other) after e h k w v =
    let q : x ≡ y = cc in
    let tails : front ++ r ∷ rest ≡ other ++ s ∷ after = cc in
    let one : k.0 ≡ h.0 = adds_one a x k.0 h.0 (subst (λ z. AddsTo a z k.0) (sym q) k.1) h.1 in
    wide_same h.0 l r m s front rest other after tails h.2 (subst (λ z. RunsTo z other m) one k.2) w v

one_wide_in : (l r m s : Ratio) (sum : List Ratio) → IsWideIn l r sum → IsWideIn m s sum → (l ≡ m) × (r ≡ s)
one_wide_in l r m s sum h k =
    wide_same nothing l r m s h.front h.rest k.front k.rest (sym h.is_split ∙ k.is_split) h.runs k.runs h.wide k.wide

pub one_first_wide : (l r m s : Ratio) (sums : List (List Ratio)) → IsFirstWide l r sums → IsFirstWide m s sums → (l ≡ m) × (r ≡ s)
one_first_wide l r m s [] h k = absurd h
one_first_wide l r m s (sum ∷ sums) (inl h) (inl k) = one_wide_in l r m s sum h k
one_first_wide l r m s (sum ∷ sums) (inl h) (inr k) = absurd (fits_or_wide l r k.0 sum k.1 h)
one_first_wide l r m s (sum ∷ sums) (inr h) (inl k) = absurd (fits_or_wide m s h.0 sum h.1 k)
one_first_wide l r m s (sum ∷ sums) (inr h) (inr k) = one_first_wide l r m s sums h.2 k.2

pub all_fit_or_wide : (l r : Ratio) (sums : List (List Ratio)) → AllFit sums → IsFirstWide l r sums → ⊥
all_fit_or_wide l r [] f h = h
all_fit_or_wide l r (sum ∷ sums) f (inl h) = fits_or_wide l r f.0.0 sum f.0.1 h
all_fit_or_wide l r (sum ∷ sums) f (inr h) = all_fit_or_wide l r sums f.1 h.2
