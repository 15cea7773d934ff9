-- Words begin with one argument at most.
use Rattle.std.proofs.Common.{◌≡◌, ◌≢◌, ℕ, ◌^◌, ◌<◌, List, [], ◌∷◌, ◌++◌, get_or, drop, refl, sym, ◌∙◌, ap, subst, arith}
use Rattle.std.specs.Prelude.{codes, decimal}
use Rattle.std.specs.Int.{IsInRange}
use Rattle.std.proofs.lemmas.List.{append-nil}
use Rattle.std.proofs.lemmas.List.Elements.{All-head}
use Rattle.bt_frac.proofs.Numerals.{decimal-lacks, decimal_apart}
use Rattle.bt_text.specs.Lines.{Lacks, SplitsAt}
use Rattle.bt_text.proofs.FirstLines.{split_apart, SplitsAt-lacks}
use Rattle.bt_gen.specs.declared.wish.Wish.{Wish}
use Rattle.bt_gen.specs.Wishes.{IsWishWord}
use Rattle.bt_gen.proofs.OneWish.{same_wish, begins_with_letter}
use Rattle.bt_words.specs.declared.argument.Argument.{Argument}
use Rattle.bt_words.specs.declared.argument.Argument.TheVariants.{Wished, Number, Chain, Learnt, Pivots, Grid, OfTier, Most, From, Found, Sides, Request}
use Rattle.bt_words.specs.Arguments.{IsPlain, IsValued}
use Rattle.bt_words.proofs.Grids.{same_grid, same_tier}
use Rattle.bt_words.specs.inner.Reading.{BeginsWith}
use Rattle.bt_words.proofs.Fronts.{Front, alone, apart, joined, front_of, name_lacks, some_word}

-- a numeral begins with a digit
digit_first : (k byte : ℕ) (rest : List ℕ) → k < 10 ^ 64 → ¬ IsInRange 48 57 byte → byte ∷ rest ≡ decimal k → ⊥
digit_first k byte rest small other e =
    All-head (λ other. other ≢ byte) byte rest (subst (Lacks byte) (sym e) (decimal-lacks k byte small other)) refl

-- no names of properties are a numeral
no_number : (w : Wish) (word : List ℕ) (k : ℕ) → k < 10 ^ 64 → IsWishWord w word → word ≡ decimal k → ⊥
no_number w word k small h e =
    let b = begins_with_letter w word h in digit_first k b.byte b.rest small (λ r. omega (arith, r.1, b.low)) (sym b.is ∙ e)

-- and none begin with a dash
no_dash : (w : Wish) (word rest : List ℕ) → IsWishWord w word → word ≡ 45 ∷ rest → ⊥
no_dash w word rest h e = let b = begins_with_letter w word h in omega (arith, b.low, ap (λ x. get_or x 0 0) (sym b.is ∙ e))

-- a word is one argument for itself
plain_apart : (a b : Argument) (word : List ℕ) → IsPlain a word → IsPlain b word → a ≡ b
plain_apart (Wished v) (Wished w) word h k = ap Wished (same_wish v w word h k)
plain_apart (Wished w) (Number j) word h (small, k) = absurd (no_number w word j (omega arith) h k)
plain_apart (Wished w) Chain word h k = absurd (no_dash w word (drop 1 (codes "--chain")) h k)
plain_apart (Number i) (Wished w) word (small, h) k = absurd (no_number w word i (omega arith) k h)
plain_apart (Number i) (Number j) word (small, h) (smaller, k) = ap Number (decimal_apart i j (omega arith) (omega arith) (sym h ∙ k))
plain_apart (Number i) Chain word (small, h) k = absurd (digit_first i 45 (drop 1 (codes "--chain")) (omega arith) (λ r. omega (arith, r.0)) (sym k ∙ h))
plain_apart Chain (Wished w) word h k = absurd (no_dash w word (drop 1 (codes "--chain")) k h)
plain_apart Chain (Number j) word h (small, k) = absurd (digit_first j 45 (drop 1 (codes "--chain")) (omega arith) (λ r. omega (arith, r.0)) (sym h ∙ k))
plain_apart Chain Chain word h k = refl
plain_apart (Wished w) Found word h k = absurd (no_dash w word (drop 1 (codes "--found")) h k)
plain_apart (Number i) Found word (small, h) k = absurd (digit_first i 45 (drop 1 (codes "--found")) (omega arith) (λ r. omega (arith, r.0)) (sym k ∙ h))
plain_apart Found (Wished w) word h k = absurd (no_dash w word (drop 1 (codes "--found")) k h)
plain_apart Found (Number j) word h (small, k) = absurd (digit_first j 45 (drop 1 (codes "--found")) (omega arith) (λ r. omega (arith, r.0)) (sym h ∙ k))
plain_apart Chain Found word h k = absurd (omega (arith, ap (λ w. get_or w 2 0) (sym h ∙ k)))
plain_apart Found Chain word h k = absurd (omega (arith, ap (λ w. get_or w 2 0) (sym h ∙ k)))
plain_apart Found Found word h k = refl
plain_apart (Wished w) Sides word h k = absurd (no_dash w word (drop 1 (codes "--sides")) h k)
plain_apart (Number i) Sides word (small, h) k = absurd (digit_first i 45 (drop 1 (codes "--sides")) (omega arith) (λ r. omega (arith, r.0)) (sym k ∙ h))
plain_apart Sides (Wished w) word h k = absurd (no_dash w word (drop 1 (codes "--sides")) k h)
plain_apart Sides (Number j) word h (small, k) = absurd (digit_first j 45 (drop 1 (codes "--sides")) (omega arith) (λ r. omega (arith, r.0)) (sym h ∙ k))
plain_apart Chain Sides word h k = absurd (omega (arith, ap (λ w. get_or w 2 0) (sym h ∙ k)))
plain_apart Sides Chain word h k = absurd (omega (arith, ap (λ w. get_or w 2 0) (sym h ∙ k)))
plain_apart Found Sides word h k = absurd (omega (arith, ap (λ w. get_or w 2 0) (sym h ∙ k)))
plain_apart Sides Found word h k = absurd (omega (arith, ap (λ w. get_or w 2 0) (sym h ∙ k)))
plain_apart Sides Sides word h k = refl
plain_apart (Wished w) Request word h k = absurd (no_dash w word (drop 1 (codes "--request")) h k)
plain_apart (Number i) Request word (small, h) k = absurd (digit_first i 45 (drop 1 (codes "--request")) (omega arith) (λ r. omega (arith, r.0)) (sym k ∙ h))
plain_apart Request (Wished w) word h k = absurd (no_dash w word (drop 1 (codes "--request")) k h)
plain_apart Request (Number j) word h (small, k) = absurd (digit_first j 45 (drop 1 (codes "--request")) (omega arith) (λ r. omega (arith, r.0)) (sym h ∙ k))
plain_apart Chain Request word h k = absurd (omega (arith, ap (λ w. get_or w 2 0) (sym h ∙ k)))
plain_apart Request Chain word h k = absurd (omega (arith, ap (λ w. get_or w 2 0) (sym h ∙ k)))
plain_apart Found Request word h k = absurd (omega (arith, ap (λ w. get_or w 2 0) (sym h ∙ k)))
plain_apart Request Found word h k = absurd (omega (arith, ap (λ w. get_or w 2 0) (sym h ∙ k)))
plain_apart Request Request word h k = refl
plain_apart Sides Request word h k = absurd (omega (arith, ap (λ w. get_or w 2 0) (sym h ∙ k)))
plain_apart Request Sides word h k = absurd (omega (arith, ap (λ w. get_or w 2 0) (sym h ∙ k)))
plain_apart (Learnt m) b word h k = absurd h
plain_apart (Pivots m) b word h k = absurd h
plain_apart (Grid m) b word h k = absurd h
plain_apart (OfTier m) b word h k = absurd h
plain_apart (Most m) b word h k = absurd h
plain_apart (From m) b word h k = absurd h
plain_apart a (Learnt n) word h k = absurd k
plain_apart a (Pivots n) word h k = absurd k
plain_apart a (Grid n) word h k = absurd k
plain_apart a (OfTier n) word h k = absurd k
plain_apart a (Most n) word h k = absurd k
plain_apart a (From n) word h k = absurd k

-- the name of an option
abbrev option_name : Argument → List ℕ
option_name (Learnt n) = codes "learnt"
option_name (Pivots n) = codes "pivots"
option_name (Grid grid) = codes "grid"
option_name (OfTier tier) = codes "tier"
option_name (Most grid) = codes "most"
option_name (From grid) = codes "from"
option_name other = []

has_name : (a : Argument) (name value : List ℕ) → IsValued a name value → name ≡ option_name a
has_name (Learnt n) name value v = v.0
has_name (Pivots n) name value v = v.0
has_name (Grid grid) name value v = v.0
has_name (OfTier tier) name value v = v.0
has_name (Most grid) name value v = v.0
has_name (From grid) name value v = v.0
has_name (Wished w) name value v = absurd v
has_name (Number k) name value v = absurd v
has_name Chain name value v = absurd v
has_name Found name value v = absurd v
has_name Sides name value v = absurd v
has_name Request name value v = absurd v

-- a name and a value are one option
valued_apart : (a b : Argument) (name value : List ℕ) → IsValued a name value → IsValued b name value → a ≡ b
valued_apart (Learnt m) (Learnt n) name value (e, small, h) (f, smaller, k) = ap Learnt (decimal_apart m n (omega arith) (omega arith) (sym h ∙ k))
valued_apart (Pivots m) (Pivots n) name value (e, small, h) (f, smaller, k) = ap Pivots (decimal_apart m n (omega arith) (omega arith) (sym h ∙ k))
valued_apart (Grid one) (Grid other) name value (e, h) (f, k) = ap Grid (same_grid one other value h k)
valued_apart (OfTier one) (OfTier other) name value (e, h) (f, k) = ap OfTier (same_tier one other (sym h ∙ k))
valued_apart (Most one) (Most other) name value (e, h) (f, k) = ap Most (same_grid one other value h k)
valued_apart (From one) (From other) name value (e, h) (f, k) = ap From (same_grid one other value h k)
valued_apart (Wished p) b name value h k = absurd h
valued_apart (Number p) b name value h k = absurd h
valued_apart Chain b name value h k = absurd h
valued_apart Found b name value h k = absurd h
valued_apart Sides b name value h k = absurd h
valued_apart Request b name value h k = absurd h
valued_apart a (Wished p) name value h k = absurd k
valued_apart a (Number p) name value h k = absurd k
valued_apart a Chain name value h k = absurd k
valued_apart a Found name value h k = absurd k
valued_apart a Sides name value h k = absurd k
valued_apart a Request name value h k = absurd k
valued_apart a b name value h k = absurd (omega (arith, ap (λ w. get_or w 0 0) (sym (has_name a name value h) ∙ has_name b name value k)))

-- the third byte of an option is none of `--chain`
not_chain : (b : Argument) (name value more : List ℕ) → IsValued b name value → codes "--chain" ≡ codes "--" ++ name ++ more → ⊥
not_chain (Wished p) name value more v is = absurd v
not_chain (Number p) name value more v is = absurd v
not_chain Chain name value more v is = absurd v
not_chain Found name value more v is = absurd v
not_chain Sides name value more v is = absurd v
not_chain Request name value more v is = absurd v
not_chain b name value more v is = omega (arith, ap (λ w. get_or w 2 0) (is ∙ ap (λ x. codes "--" ++ x ++ more) (has_name b name value v)))

-- nor of `--found`
not_found : (b : Argument) (name value more : List ℕ) → IsValued b name value → codes "--found" ≡ codes "--" ++ name ++ more → ⊥
not_found (Wished p) name value more v is = absurd v
not_found (Number p) name value more v is = absurd v
not_found Chain name value more v is = absurd v
not_found Found name value more v is = absurd v
not_found Sides name value more v is = absurd v
not_found Request name value more v is = absurd v
not_found (From grid) name value more v is = omega (arith, ap (λ w. get_or w 3 0) (is ∙ ap (λ x. codes "--" ++ x ++ more) (has_name (From grid) name value v)))
not_found b name value more v is = omega (arith, ap (λ w. get_or w 2 0) (is ∙ ap (λ x. codes "--" ++ x ++ more) (has_name b name value v)))

-- nor of `--sides`
not_sides : (b : Argument) (name value more : List ℕ) → IsValued b name value → codes "--sides" ≡ codes "--" ++ name ++ more → ⊥
not_sides (Wished p) name value more v is = absurd v
not_sides (Number p) name value more v is = absurd v
not_sides Chain name value more v is = absurd v
not_sides Found name value more v is = absurd v
not_sides Sides name value more v is = absurd v
not_sides Request name value more v is = absurd v
not_sides b name value more v is = omega (arith, ap (λ w. get_or w 2 0) (is ∙ ap (λ x. codes "--" ++ x ++ more) (has_name b name value v)))

-- nor of `--request`
not_request : (b : Argument) (name value more : List ℕ) → IsValued b name value → codes "--request" ≡ codes "--" ++ name ++ more → ⊥
not_request (Wished p) name value more v is = absurd v
not_request (Number p) name value more v is = absurd v
not_request Chain name value more v is = absurd v
not_request Found name value more v is = absurd v
not_request Sides name value more v is = absurd v
not_request Request name value more v is = absurd v
not_request b name value more v is = omega (arith, ap (λ w. get_or w 2 0) (is ∙ ap (λ x. codes "--" ++ x ++ more) (has_name b name value v)))

-- a word that is an argument for itself begins no option
plain_is_none : (a b : Argument) (word name value more : List ℕ) → IsPlain a word → IsValued b name value → word ≡ codes "--" ++ name ++ more → ⊥
plain_is_none (Wished w) b word name value more h k is = no_dash w word (45 ∷ (name ++ more)) h is
plain_is_none (Number i) b word name value more (small, h) k is = digit_first i 45 (45 ∷ (name ++ more)) (omega arith) (λ r. omega (arith, r.0)) (sym is ∙ h)
plain_is_none Chain b word name value more h k is = not_chain b name value more k (sym h ∙ is)
plain_is_none Found b word name value more h k is = not_found b name value more k (sym h ∙ is)
plain_is_none Sides b word name value more h k is = not_sides b name value more k (sym h ∙ is)
plain_is_none Request b word name value more h k is = not_request b name value more k (sym h ∙ is)
plain_is_none (Learnt n) b word name value more h k is = absurd h
plain_is_none (Pivots n) b word name value more h k is = absurd h
plain_is_none (Grid n) b word name value more h k is = absurd h
plain_is_none (OfTier n) b word name value more h k is = absurd h
plain_is_none (Most n) b word name value more h k is = absurd h
plain_is_none (From n) b word name value more h k is = absurd h

no_name : (a b : Argument) (word name value : List ℕ) → IsPlain a word → IsValued b name value → word ≡ codes "--" ++ name → ⊥
no_name a b word name value h k is = plain_is_none a b word name value [] h k (is ∙ ap (λ x. codes "--" ++ x) (sym (append-nil name)))

-- a name without `=` is none that is joined to a value
not_joined : (a b : Argument) (word m n v w : List ℕ) → IsValued a m v → IsValued b n w → word ≡ codes "--" ++ m → word ≡ codes "--" ++ n ++ 61 ∷ w → ⊥
not_joined a b word m n v w h k p q =
    let same : codes "--" ++ m ≡ codes "--" ++ (n ++ 61 ∷ w) = sym p ∙ q in
    let s : SplitsAt 61 m n w = record { first = name_lacks b n w k; text_is = cc } in
    SplitsAt-lacks s (name_lacks a m v h)

-- one way in which a word and those behind it begin with an argument
front_apart : (word : List ℕ) (rest : List (List ℕ)) (a b : Argument) (more others : List (List ℕ)) → Front word rest a more → Front word rest b others
    → (a ≡ b) × (more ≡ others)
front_apart word rest a b more others (alone p q) (alone r s) = (plain_apart a b word p r, q ∙ sym s)
front_apart word rest a b more others (alone p q) (apart n v k is s) = absurd (no_name a b word n v p k is)
front_apart word rest a b more others (alone p q) (joined n v k is s) = absurd (plain_is_none a b word n v (61 ∷ v) p k is)
front_apart word rest a b more others (apart m u h is q) (alone r s) = absurd (no_name b a word m u r h is)
front_apart word rest a b more others (apart m u h is q) (apart n v k at s) =
    let names : codes "--" ++ m ≡ codes "--" ++ n = sym is ∙ at in
    let values : u ∷ more ≡ v ∷ others = sym q ∙ s in
    let name : m ≡ n = cc in
    let value : u ≡ v = cc in
    (valued_apart a b n v (subst (λ x. IsValued a x v) name (subst (λ x. IsValued a m x) value h)) k, cc)
front_apart word rest a b more others (apart m u h is q) (joined n v k at s) = absurd (not_joined a b word m n u v h k is at)
front_apart word rest a b more others (joined m u h is q) (alone r s) = absurd (plain_is_none b a word m u (61 ∷ u) r h is)
front_apart word rest a b more others (joined m u h is q) (apart n v k at s) = absurd (not_joined b a word n m v u k h at is)
front_apart word rest a b more others (joined m u h is q) (joined n v k at s) =
    let texts : codes "--" ++ (m ++ 61 ∷ u) ≡ codes "--" ++ (n ++ 61 ∷ v) = sym is ∙ at in
    let same = split_apart 61 m n u v (name_lacks a m u h) (name_lacks b n v k) cc in
    (valued_apart a b n v (subst (λ x. IsValued a x v) same.0 (subst (λ x. IsValued a m x) same.1 h)) k, q ∙ sym s)

-- words begin with one argument, and have one rest behind it
pub one_front : (words : List (List ℕ)) (a b : Argument) (more others : List (List ℕ)) → BeginsWith words a more → BeginsWith words b others → (a ≡ b) × (more ≡ others)
one_front [] a b more others h k = absurd (omega (arith, some_word [] a more h))
one_front (word ∷ rest) a b more others h k =
    front_apart word rest a b more others (front_of (word ∷ rest) word rest a more refl h) (front_of (word ∷ rest) word rest b others refl k)
