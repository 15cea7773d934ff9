-- Running sums of fractions.
use Rattle.std.proofs.Common.{◌≡◌, ℕ, ◌<◌, ◌+◌, Bool, true, false, List, [], ◌∷◌, ◌++◌, length, map, take, drop, get_or, cond, sym, subst, refl, ap, ◌∙◌, arith, suc, add-one, append-nil}
use Rattle.std.proofs.lemmas.List.{take_more, take-append-drop, length-take-le, get_or_default}
use Rattle.std.proofs.Math.Seq.{drop-cons}
use Rattle.bt_flow.specs.declared.ports.Port.{Port}
use Rattle.bt_flow.specs.declared.ports.Port.TheVariants.{One, Two}
use Rattle.bt_flow.specs.Ports.{numbers_of}
use Rattle.bt_frac.specs.Ratio.{Ratio, IsWide}
use Rattle.bt_net.specs.declared.network.Edge.{Edge}
use Rattle.bt_net.specs.declared.network.Start.TheVariants as from
use Rattle.bt_net.specs.declared.network.Target.TheVariants as to
use Rattle.bt_flow.specs.Properties.{is_last}
use Rattle.bt_flow.specs.Sums.{nothing, AddsTo, RunsTo, IsWideIn, fractions_where}

-- one number more
pub runs_more : (a b r c : Ratio) (xs : List Ratio) → RunsTo a xs b → r ≡ b → (x : Ratio) → AddsTo r x c → RunsTo a (xs ++ x ∷ []) c
runs_more a b r c [] e s x h = (c, subst (λ q. AddsTo q x c) (s ∙ sym e) h, refl)
runs_more a b r c (y ∷ xs) e s x h = (e.0, e.1, runs_more e.0 b r c xs e.2 s x h)

-- an addition that doesn't fit, after the numbers before it
pub wide_at : (xs front rest : List Ratio) (left right : Ratio) → xs ≡ front ++ right ∷ rest → RunsTo nothing front left → IsWide left right → IsWideIn left right xs
wide_at xs front rest left right e h w = record { front = front; rest = rest; is_split = e; runs = h; wide = w }

-- a list at a place: what is before it, the item, and what is after it
pub split_at : {A : Type 0} (xs : List A) (i : ℕ) (x : A) → i < length xs → x ≡ get_or xs i x → xs ≡ take i xs ++ x ∷ drop (i + 1) xs
split_at xs i x l e =
    sym (take-append-drop i xs) ∙ ap (λ ys. take i xs ++ ys) (drop-cons xs i x l ∙ ap (λ y. y ∷ drop (suc i) xs) (sym e) ∙ ap (λ m. x ∷ drop m xs) (sym (add-one i)))

-- the first numbers of a sum, one more
pub runs_on : (xs : List Ratio) (i : ℕ) (b c x : Ratio) → i < length xs → x ≡ get_or xs i x → RunsTo nothing (take i xs) b → AddsTo b x c → RunsTo nothing (take (i + 1) xs) c
runs_on xs i b c x l e h s =
    subst (λ ys. RunsTo nothing ys c) (ap (λ y. take i xs ++ y ∷ []) e ∙ sym (take_more xs i x l)) (runs_more nothing b b c (take i xs) h refl x s)

-- the first numbers of a sum, and an addition that doesn't fit
pub wide_on : (xs : List Ratio) (i : ℕ) (b x left right : Ratio) → i < length xs → x ≡ get_or xs i x → RunsTo nothing (take i xs) b
    → (left ≡ b) × (right ≡ x) × IsWide b x → IsWideIn left right xs
wide_on xs i b x left right l e h w =
    subst (λ y. IsWideIn y right xs) (sym w.0) (subst (λ y. IsWideIn b y xs) (sym w.1) (wide_at xs (take i xs) (drop (i + 1) xs) b x (split_at xs i x l e) h w.2))

fractions_where-append : (p : Edge → Bool) (es gs : List Edge) (fs hs : List Ratio) → length fs ≡ length es
    → fractions_where p (es ++ gs) (fs ++ hs) ≡ fractions_where p es fs ++ fractions_where p gs hs
fractions_where-append p [] gs [] hs l = refl
fractions_where-append p [] gs (f ∷ fs) hs l = absurd (omega arith)
fractions_where-append p (e ∷ es) gs [] hs l = absurd (omega arith)
fractions_where-append p (e ∷ es) gs (f ∷ fs) hs l =
    let again = fractions_where-append p es gs fs hs (omega arith) in
    elim (p e) as (λ b. cond b (f ∷ fractions_where p (es ++ gs) (fs ++ hs)) (fractions_where p (es ++ gs) (fs ++ hs))
    ≡ cond b (f ∷ fractions_where p es fs) (fractions_where p es fs) ++ fractions_where p gs hs)
    [ true ↦ ap (λ l. f ∷ l) again | false ↦ again ]

module _ (p : Edge → Bool) (es : List Edge) (fs : List Ratio) (same : length fs ≡ length es) (i : ℕ) (l : i < length es) (d : Edge) (f : Ratio) (is : f ≡ get_or fs i f) where
  few : length (take i fs) ≡ length (take i es)
  few = length-take-le i fs (omega arith) ∙ sym (length-take-le i es (omega arith))

  picked : (b : Bool) → p (get_or es i d) ≡ b → fractions_where p (get_or es i d ∷ []) (f ∷ []) ≡ cond b (f ∷ []) []
  picked b e = subst (λ c. cond c (f ∷ []) [] ≡ cond b (f ∷ []) []) (sym e) refl

  one_more : fractions_where p (take (i + 1) es) (take (i + 1) fs) ≡ fractions_where p (take i es) (take i fs) ++ fractions_where p (get_or es i d ∷ []) (f ∷ [])
  one_more =
      ap (λ x. fractions_where p x (take (i + 1) fs)) (take_more es i d l)
      ∙ ap (λ x. fractions_where p (take i es ++ get_or es i d ∷ []) x) (take_more fs i f (omega arith) ∙ ap (λ y. take i fs ++ y ∷ []) (sym is))
      ∙ fractions_where-append p (take i es) (get_or es i d ∷ []) (take i fs) (f ∷ []) few

  -- an edge that passes the test adds its fraction
  pub picks : p (get_or es i d) ≡ true → (b c : Ratio) → RunsTo nothing (fractions_where p (take i es) (take i fs)) b → AddsTo b f c
      → RunsTo nothing (fractions_where p (take (i + 1) es) (take (i + 1) fs)) c
  picks e b c h s =
      subst (λ ys. RunsTo nothing ys c) (sym (one_more ∙ ap (λ y. fractions_where p (take i es) (take i fs) ++ y) (picked true e)))
      (runs_more nothing b b c (fractions_where p (take i es) (take i fs)) h refl f s)

  -- another adds nothing
  pub skips : p (get_or es i d) ≡ false → (b : Ratio) → RunsTo nothing (fractions_where p (take i es) (take i fs)) b
      → RunsTo nothing (fractions_where p (take (i + 1) es) (take (i + 1) fs)) b
  skips e b h =
      subst (λ ys. RunsTo nothing ys b)
      (sym (one_more ∙ ap (λ y. fractions_where p (take i es) (take i fs) ++ y) (picked false e) ∙ append-nil (fractions_where p (take i es) (take i fs)))) h

  whole : p (get_or es i d) ≡ true → fractions_where p es fs ≡ fractions_where p (take i es) (take i fs) ++ f ∷ fractions_where p (drop (i + 1) es) (drop (i + 1) fs)
  whole e =
      let es_split = split_at es i (get_or es i d) l (get_or_default es i d (get_or es i d) l) in
      let fs_split = split_at fs i f (omega arith) is in
      ap (λ x. fractions_where p x fs) es_split ∙ ap (λ x. fractions_where p (take i es ++ get_or es i d ∷ drop (i + 1) es) x) fs_split
      ∙ fractions_where-append p (take i es) (get_or es i d ∷ drop (i + 1) es) (take i fs) (f ∷ drop (i + 1) fs) few
      ∙ ap (λ b. fractions_where p (take i es) (take i fs) ++ cond b (f ∷ fractions_where p (drop (i + 1) es) (drop (i + 1) fs)) (fractions_where p (drop (i + 1) es) (drop (i + 1) fs))) e

  -- its addition doesn't fit
  pub picks_wide : p (get_or es i d) ≡ true → (b left right : Ratio) → RunsTo nothing (fractions_where p (take i es) (take i fs)) b
      → (left ≡ b) × (right ≡ f) × IsWide b f → IsWideIn left right (fractions_where p es fs)
  picks_wide e b left right h w =
      subst (λ y. IsWideIn y right (fractions_where p es fs)) (sym w.0) (subst (λ y. IsWideIn b y (fractions_where p es fs)) (sym w.1)
      (wide_at (fractions_where p es fs) (fractions_where p (take i es) (take i fs)) (fractions_where p (drop (i + 1) es) (drop (i + 1) fs)) b f (whole e) h w.2))

-- sums of at most two numbers
sum_one : (z x r : Ratio) → z ≡ nothing → AddsTo z x r → RunsTo nothing (x ∷ []) r
sum_one z x r e h = (r, subst (λ q. AddsTo q x r) e h, refl)

pub wide_first : (z x left right : Ratio) (rest : List Ratio) → z ≡ nothing → (left ≡ z) × (right ≡ x) × IsWide z x → IsWideIn left right (x ∷ rest)
wide_first z x left right rest e w =
    subst (λ y. IsWideIn left y (x ∷ rest)) (sym w.1) (wide_at (x ∷ rest) [] rest left x refl (sym e ∙ sym w.0) (subst (λ y. IsWide y x) (sym w.0) w.2))

pub wide_second : (z x y q left right : Ratio) → z ≡ nothing → AddsTo z x q → (left ≡ q) × (right ≡ y) × IsWide q y → IsWideIn left right (x ∷ y ∷ [])
wide_second z x y q left right e h w =
    subst (λ v. IsWideIn left v (x ∷ y ∷ [])) (sym w.1)
    (wide_at (x ∷ y ∷ []) (x ∷ []) [] left y refl (subst (λ v. RunsTo nothing (x ∷ []) v) (sym w.0) (sum_one z x q e h)) (subst (λ v. IsWide v y) (sym w.0) w.2))

-- the flows of the edges of a port
pub flows_one : (flows : List Ratio) (port : Port) (a : ℕ) (x : Ratio) → port ≡ One a → a < length flows → x ≡ get_or flows a x
    → map (λ b. get_or flows b nothing) (numbers_of port) ≡ x ∷ []
flows_one flows port a x e l is = ap (λ p. map (λ b. get_or flows b nothing) (numbers_of p)) e ∙ ap (λ v. v ∷ []) (get_or_default flows a nothing x l ∙ sym is)

pub flows_two : (flows : List Ratio) (port : Port) (a b : ℕ) (x y : Ratio) → port ≡ Two a b → a < length flows → b < length flows → x ≡ get_or flows a x → y ≡ get_or flows b y
    → map (λ c. get_or flows c nothing) (numbers_of port) ≡ x ∷ y ∷ []
flows_two flows port a b x y e l m is js =
    ap (λ p. map (λ c. get_or flows c nothing) (numbers_of p)) e ∙ ap (λ v. v ∷ get_or flows b nothing ∷ []) (get_or_default flows a nothing x l ∙ sym is)
    ∙ ap (λ v. x ∷ v ∷ []) (get_or_default flows b nothing y m ∙ sym js)

-- a port of two of which the first is known
pub flows_first : (flows : List Ratio) (port : Port) (a b : ℕ) (x : Ratio) → port ≡ Two a b → a < length flows → x ≡ get_or flows a x
    → map (λ c. get_or flows c nothing) (numbers_of port) ≡ x ∷ get_or flows b nothing ∷ []
flows_first flows port a b x e l is =
    ap (λ p. map (λ c. get_or flows c nothing) (numbers_of p)) e ∙ ap (λ v. v ∷ get_or flows b nothing ∷ []) (get_or_default flows a nothing x l ∙ sym is)

-- the edge that is read past the end of a list
abbrev pub no_edge : Edge
no_edge = record { start = from.Input 0; target = to.Split 0; cap = 0 }

pub is_last-yes : (e : Edge) (o : ℕ) → e.target ≡ to.Output o → is_last e ≡ true
is_last-yes e o h = ap (λ t. is_last (record { start = e.start; target = t; cap = e.cap })) h

pub is_last-no : (e : Edge) (k : ℕ) → e.target ≡ to.Split k → is_last e ≡ false
is_last-no e k h = ap (λ t. is_last (record { start = e.start; target = t; cap = e.cap })) h
