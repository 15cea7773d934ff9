-- The argument at the front of words.
use Rattle.std.proofs.Common.{◌≡◌, ℕ, ◌<◌, List, [], ◌∷◌, ◌++◌, length, refl, sym, ◌∙◌, ap, subst, inl, inr, arith}
use Rattle.std.specs.Prelude.{codes}
use Rattle.bt_text.specs.Lines.{Lacks, SplitsAt}
use Rattle.bt_text.proofs.Lacking.{lacks}
use Rattle.bt_text.proofs.FirstLines.{split_apart, SplitsAt-lacks}
use Rattle.bt_words.specs.declared.argument.Argument.{Argument}
use Rattle.bt_words.specs.declared.argument.Argument.TheVariants.{Wished, Number, Chain, Learnt, Pivots, Grid, OfTier, Most, From, Found, Sides, Request}
use Rattle.bt_words.specs.Arguments.{IsPlain, IsValued}
use Rattle.bt_words.specs.inner.Reading.{BeginsWith}

-- how an argument stands at the front of a word and the words behind it: as the word, as it and the next one, or joined
-- by `=`
pub data Front (word : List ℕ) (rest : List (List ℕ)) (a : Argument) (more : List (List ℕ)) : Type 0 where
  alone : IsPlain a word → more ≡ rest → Front word rest a more
  apart : (name value : List ℕ) → IsValued a name value → word ≡ codes "--" ++ name → rest ≡ value ∷ more → Front word rest a more
  joined : (name value : List ℕ) → IsValued a name value → word ≡ codes "--" ++ name ++ 61 ∷ value → more ≡ rest → Front word rest a more

-- an argument at the front stands there in one of these ways
pub front_of : (words : List (List ℕ)) (word : List ℕ) (rest : List (List ℕ)) (a : Argument) (more : List (List ℕ)) → words ≡ word ∷ rest
    → BeginsWith words a more → Front word rest a more
front_of words word rest a more e (front, inl (w, plain, is), begins) =
    let same : word ∷ rest ≡ w ∷ more = sym e ∙ begins ∙ ap (λ f. f ++ more) is in
    let at : w ≡ word = cc in
    alone (subst (λ x. IsPlain a x) at plain) cc
front_of words word rest a more e (front, inr (name, value, valued, inl is), begins) =
    let same : word ∷ rest ≡ (codes "--" ++ name) ∷ value ∷ more = sym e ∙ begins ∙ ap (λ f. f ++ more) is in
    let first : word ≡ codes "--" ++ name = cc in
    let second : rest ≡ value ∷ more = cc in
    apart name value valued first second
front_of words word rest a more e (front, inr (name, value, valued, inr is), begins) =
    let same : word ∷ rest ≡ (codes "--" ++ name ++ 61 ∷ value) ∷ more = sym e ∙ begins ∙ ap (λ f. f ++ more) is in
    let first : word ≡ codes "--" ++ name ++ 61 ∷ value = cc in
    let second : more ≡ rest = cc in
    joined name value valued first second

-- and each of them is an argument at the front
pub begins_alone : (words : List (List ℕ)) (word : List ℕ) (rest : List (List ℕ)) (a : Argument) → words ≡ word ∷ rest → IsPlain a word → BeginsWith words a rest
begins_alone words word rest a e p = (word ∷ [], inl (word, p, refl), e)

pub begins_apart : (words : List (List ℕ)) (word name value : List ℕ) (rest : List (List ℕ)) (a : Argument) → words ≡ word ∷ value ∷ rest → word ≡ codes "--" ++ name
    → IsValued a name value → BeginsWith words a rest
begins_apart words word name value rest a e is v = ((codes "--" ++ name) ∷ value ∷ [], inr (name, value, v, inl refl), e ∙ ap (λ w. w ∷ value ∷ rest) is)

pub begins_joined : (words : List (List ℕ)) (word option name value : List ℕ) (rest : List (List ℕ)) (a : Argument) → words ≡ word ∷ rest → word ≡ codes "--" ++ option
    → SplitsAt 61 option name value → IsValued a name value → BeginsWith words a rest
begins_joined words word option name value rest a e is s v =
    ((codes "--" ++ name ++ 61 ∷ value) ∷ [], inr (name, value, v, inr refl), e ∙ ap (λ w. w ∷ rest) (is ∙ ap (λ x. codes "--" ++ x) s.text_is))

-- an argument is a word at least
pub some_word : (words : List (List ℕ)) (a : Argument) (rest : List (List ℕ)) → BeginsWith words a rest → length rest < length words
some_word words a rest (front, inl (w, p, is), e) = omega (arith, ap (λ x. length x) (e ∙ ap (λ f. f ++ rest) is))
some_word words a rest (front, inr (name, value, v, inl is), e) = omega (arith, ap (λ x. length x) (e ∙ ap (λ f. f ++ rest) is))
some_word words a rest (front, inr (name, value, v, inr is), e) = omega (arith, ap (λ x. length x) (e ∙ ap (λ f. f ++ rest) is))

-- no `=` stands in the name of an option
pub name_lacks : (a : Argument) (name value : List ℕ) → IsValued a name value → Lacks 61 name
name_lacks (Learnt n) name value (e, fits, is) = subst (Lacks 61) (sym e) (lacks 61 (codes "learnt") refl)
name_lacks (Pivots n) name value (e, fits, is) = subst (Lacks 61) (sym e) (lacks 61 (codes "pivots") refl)
name_lacks (Grid grid) name value (e, is) = subst (Lacks 61) (sym e) (lacks 61 (codes "grid") refl)
name_lacks (OfTier tier) name value (e, is) = subst (Lacks 61) (sym e) (lacks 61 (codes "tier") refl)
name_lacks (Most grid) name value (e, is) = subst (Lacks 61) (sym e) (lacks 61 (codes "most") refl)
name_lacks (From grid) name value (e, is) = subst (Lacks 61) (sym e) (lacks 61 (codes "from") refl)
name_lacks (Wished w) name value v = absurd v
name_lacks (Number k) name value v = absurd v
name_lacks Chain name value v = absurd v
name_lacks Found name value v = absurd v
name_lacks Sides name value v = absurd v
name_lacks Request name value v = absurd v

-- the two bytes in front of an option's name
after_dashes : (word option other : List ℕ) → word ≡ codes "--" ++ option → word ≡ codes "--" ++ other → option ≡ other
after_dashes word option other p q = let e : codes "--" ++ option ≡ codes "--" ++ other = sym p ∙ q in cc

module _ (words : List (List ℕ)) (word : List ℕ) (rest : List (List ℕ)) (e : words ≡ word ∷ rest) (no_plain : (a : Argument) → IsPlain a word → ⊥) where
  module _ (option : List ℕ) (dashes : word ≡ codes "--" ++ option) where
    -- an option that is joined to a value, and isn't one
    pub none_joined : (name value : List ℕ) → SplitsAt 61 option name value → ((a : Argument) → IsValued a name value → ⊥) → (a : Argument) (more : List (List ℕ))
        → BeginsWith words a more → ⊥
    none_joined name value s none a more b = elim (front_of words word rest a more e b) [
      | alone p q ↦ no_plain a p
      | apart n v valued is q ↦ SplitsAt-lacks s (subst (Lacks 61) (after_dashes word n option is dashes) (name_lacks a n v valued))
      | joined n v valued is q ↦
          let same = split_apart 61 n name v value (name_lacks a n v valued) s.first (after_dashes word (n ++ 61 ∷ v) option is dashes ∙ s.text_is) in
          none a (subst (λ x. IsValued a x value) same.0 (subst (λ x. IsValued a n x) same.1 valued))
    ]

    -- an option without `=` is joined to no value
    not_joined : Lacks 61 option → (n v : List ℕ) (a : Argument) → IsValued a n v → word ≡ codes "--" ++ n ++ 61 ∷ v → ⊥
    not_joined lacks n v a valued is =
        let s : SplitsAt 61 option n v = record { first = name_lacks a n v valued; text_is = after_dashes word option (n ++ 61 ∷ v) dashes is } in SplitsAt-lacks s lacks

    -- an option without a value
    pub none_bare : Lacks 61 option → rest ≡ [] → (a : Argument) (more : List (List ℕ)) → BeginsWith words a more → ⊥
    none_bare lacks ended a more b = elim (front_of words word rest a more e b) [
      | alone p q ↦ no_plain a p
      | apart n v valued is q ↦ let x : [] ≡ v ∷ more = sym ended ∙ q in cc
      | joined n v valued is q ↦ not_joined lacks n v a valued is
    ]

    -- an option whose value is the next word, and isn't one
    pub none_apart : (value : List ℕ) (behind : List (List ℕ)) → Lacks 61 option → rest ≡ value ∷ behind → ((a : Argument) → IsValued a option value → ⊥) → (a : Argument)
        (more : List (List ℕ)) → BeginsWith words a more → ⊥
    none_apart value behind lacks next none a more b = elim (front_of words word rest a more e b) [
      | alone p q ↦ no_plain a p
      | apart n v valued is q ↦
          let same : v ≡ value = let x : v ∷ more ≡ value ∷ behind = sym q ∙ next in cc in
          none a (subst (λ x. IsValued a x value) (after_dashes word n option is dashes) (subst (λ x. IsValued a n x) same valued))
      | joined n v valued is q ↦ not_joined lacks n v a valued is
    ]
