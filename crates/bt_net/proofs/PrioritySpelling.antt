-- The spelling of priority lines.
use Rattle.std.proofs.Common.{◌≡◌, ◌≢◌, ◌⊎◌, inl, inr, ℕ, ◌<◌, ◌≤◌, ◌^◌, List, ◌++◌, length, get_or, drop, refl, sym, ◌∙◌, ap, subst, arith}
use Rattle.std.specs.Prelude.{codes, decimal, Option, Some, None, IfNone}
use Rattle.std.proofs.lemmas.List.{append_assoc}
use Rattle.std.proofs.lemmas.List.Elements.{All-append}
use Rattle.std.proofs.lemmas.Option.{slice_get_within}
use Rattle.bt_text.specs.Lines.{Lacks, SplitsAt}
use Rattle.bt_text.proofs.FirstLines.{split_apart}
use Rattle.bt_text.proofs.Lacking.{lacks}
use Rattle.bt_frac.proofs.Numerals.{decimal_apart, decimal-lacks}
use Rattle.bt_net.specs.declared.network.Priority.{Priority}
use Rattle.bt_net.specs.declared.network.Priority.TheVariants.{Give, Take, Any}
use Rattle.bt_net.specs.declared.network.TheConstants.{MOST_OF_EACH}
use Rattle.bt_net.specs.Network.{Network}
use Rattle.bt_net.specs.Priorities.{priority_text, Owns, IsPriorityLine, IsPriorityHere}
use Rattle.bt_net.specs.declared.network.Admitted.{Admitted}
use Rattle.bt_net.specs.Wiring.{HasSmallSizes}
use Rattle.bt_net.specs.inner.Preferred.{PriorityFits}
use Rattle.bt_net.proofs.PinSpelling.{some_bytes}

-- two numbers with a space between them are split there, and are those two alone
number_lacks : (byte n : ℕ) → n < 2 ^ 32 → byte < 48 → Lacks byte (decimal n)
number_lacks byte n small low = decimal-lacks n byte (omega arith) (λ r. omega (arith, r.0, low))

pub cut_numbers : (words front back : List ℕ) (k a : ℕ) → k < 2 ^ 32 → words ≡ decimal k ++ codes " " ++ decimal a → SplitsAt 32 words front back → (front ≡ decimal k) × (back ≡ decimal a)
cut_numbers words front back k a small is splits =
    split_apart 32 front (decimal k) back (decimal a) splits.first (number_lacks 32 k small (omega arith)) (sym splits.text_is ∙ is ∙ append_assoc (decimal k) (codes " ") (decimal a))

numbers_apart : (k a j b : ℕ) → k < 2 ^ 32 → a < 2 ^ 32 → j < 2 ^ 32 → b < 2 ^ 32 → decimal k ++ codes " " ++ decimal a ≡ decimal j ++ codes " " ++ decimal b → (k ≡ j) × (a ≡ b)
numbers_apart k a j b p q r s e =
    let splits : SplitsAt 32 (decimal k ++ codes " " ++ decimal a) (decimal k) (decimal a) = record { first = number_lacks 32 k p (omega arith); text_is = append_assoc (decimal k) (codes " ") (decimal a) } in
    let cut = cut_numbers _ (decimal k) (decimal a) j b r e splits in
    (decimal_apart k j (omega arith) (omega arith) cut.0, decimal_apart a b (omega arith) (omega arith) cut.1)

-- the words behind the first one
give_words : (k a : ℕ) → priority_text (Give k a) ≡ codes "give s" ++ (decimal k ++ codes " " ++ decimal a)
give_words k a = simp append_assoc

take_words : (k a : ℕ) → priority_text (Take k a) ≡ codes "take s" ++ (decimal k ++ codes " " ++ decimal a)
take_words k a = simp append_assoc

any_words : (k : ℕ) → priority_text (Any k) ≡ codes "take s" ++ (decimal k ++ codes " any")
any_words k = simp append_assoc

-- the word `any` is no number
any_is_no_number : (a : ℕ) → a < 2 ^ 32 → decimal a ≡ codes "any" → ⊥
any_is_no_number a small e = decimal-lacks a 97 (omega arith) (λ r. omega (arith, r.1)) 0 97 (subst (λ l. 0 < length l) (sym e) (omega arith)) (ap (λ l. get_or l 0 97) e)

pub cut_any : (words front back : List ℕ) (k : ℕ) → k < 2 ^ 32 → words ≡ decimal k ++ codes " any" → SplitsAt 32 words front back → (front ≡ decimal k) × (back ≡ codes "any")
cut_any words front back k small is splits =
    split_apart 32 front (decimal k) back (codes "any") splits.first (number_lacks 32 k small (omega arith)) (sym splits.text_is ∙ is)

splits_any : (k : ℕ) → k < 2 ^ 32 → SplitsAt 32 (decimal k ++ codes " any") (decimal k) (codes "any")
splits_any k small = record { first = number_lacks 32 k small (omega arith); text_is = refl }

take_or_any : (k a j : ℕ) → k < 2 ^ 32 → a < 2 ^ 32 → j < 2 ^ 32 → priority_text (Take k a) ≡ priority_text (Any j) → ⊥
take_or_any k a j x y z e =
    let cut = cut_numbers _ (decimal j) (codes "any") k a x (ap (drop 6) (sym (any_words j) ∙ sym e ∙ take_words k a)) (splits_any j z) in
    any_is_no_number a y (sym cut.1)

-- a line is that of one priority
pub text_apart : (p q : Priority) → PriorityFits p → PriorityFits q → priority_text p ≡ priority_text q → p ≡ q
text_apart (Give k a) (Give j b) x y e =
    let same = numbers_apart k a j b x.0 x.1 y.0 y.1 (ap (drop 6) (sym (give_words k a) ∙ e ∙ give_words j b)) in
    ap (λ i. Give i a) same.0 ∙ ap (Give j) same.1
text_apart (Give k a) (Take j b) x y e = absurd (omega (arith, ap (λ l. get_or l 0 0) (sym (give_words k a) ∙ e ∙ take_words j b)))
text_apart (Take k a) (Give j b) x y e = absurd (omega (arith, ap (λ l. get_or l 0 0) (sym (take_words k a) ∙ e ∙ give_words j b)))
text_apart (Take k a) (Take j b) x y e =
    let same = numbers_apart k a j b x.0 x.1 y.0 y.1 (ap (drop 6) (sym (take_words k a) ∙ e ∙ take_words j b)) in
    ap (λ i. Take i a) same.0 ∙ ap (Take j) same.1
text_apart (Give k a) (Any j) x y e = absurd (omega (arith, ap (λ l. get_or l 0 0) (sym (give_words k a) ∙ e ∙ any_words j)))
text_apart (Any k) (Give j b) x y e = absurd (omega (arith, ap (λ l. get_or l 0 0) (sym (any_words k) ∙ e ∙ give_words j b)))
text_apart (Take k a) (Any j) x y e = absurd (take_or_any k a j x.0 x.1 y e)
text_apart (Any k) (Take j b) x y e = absurd (take_or_any j b k y.0 y.1 x (sym e))
text_apart (Any k) (Any j) x y e =
    let cut = cut_any _ (decimal k) (codes "any") j y (ap (drop 6) (sym (any_words k) ∙ e ∙ any_words j)) (splits_any k x) in
    ap Any (decimal_apart k j (omega arith) (omega arith) cut.0)

-- the priorities of a small network fit
pub owned_fits : (n : Network) (p : Priority) → HasSmallSizes n → length n.edges ≤ MOST_OF_EACH → Owns n p → PriorityFits p
owned_fits n (Give k a) small few owns = (omega (arith, small.few_splitters, owns.0), omega (arith, few, slice_get_within n.edges a owns.1.0 owns.1.1))
owned_fits n (Take k a) small few owns = (omega (arith, small.few_splitters, owns.0), omega (arith, few, slice_get_within n.edges a owns.1.0 owns.1.1))
owned_fits n (Any k) small few owns = omega (arith, small.few_splitters, owns)

module _ (n : Network) (small : HasSmallSizes n) (few : length n.edges ≤ MOST_OF_EACH) where
  pub priority_apart : (number : ℕ) (bytes : List ℕ) (p q : Priority) → IsPriorityLine n number bytes p → IsPriorityLine n number bytes q → p ≡ q
  priority_apart number bytes p q a b = text_apart p q (owned_fits n p small few a.1) (owned_fits n q small few b.1) (sym a.0 ∙ b.0)

  pub priority-lacks : (number : ℕ) (bytes : List ℕ) (p : Priority) → IsPriorityLine n number bytes p → Lacks 10 bytes
  priority-lacks number bytes p is = subst (Lacks 10) (sym is.0) (text_lacks p (owned_fits n p small few is.1))
    where
      with_numbers : (word : List ℕ) (k a : ℕ) → Lacks 10 word → k < 2 ^ 32 → a < 2 ^ 32 → Lacks 10 (word ++ decimal k ++ codes " " ++ decimal a)
      with_numbers word k a w x y =
          All-append (λ b. b ≢ 10) (word ++ decimal k ++ codes " ") (decimal a)
          (All-append (λ b. b ≢ 10) (word ++ decimal k) (codes " ") (All-append (λ b. b ≢ 10) word (decimal k) w (number_lacks 10 k x (omega arith))) (lacks 10 (codes " ") refl))
          (number_lacks 10 a y (omega arith))

      text_lacks : (p : Priority) → PriorityFits p → Lacks 10 (priority_text p)
      text_lacks (Give k a) fits = with_numbers (codes "give s") k a (lacks 10 (codes "give s") refl) fits.0 fits.1
      text_lacks (Take k a) fits = with_numbers (codes "take s") k a (lacks 10 (codes "take s") refl) fits.0 fits.1
      text_lacks (Any k) fits =
          All-append (λ b. b ≢ 10) (codes "take s" ++ decimal k) (codes " any")
          (All-append (λ b. b ≢ 10) (codes "take s") (decimal k) (lacks 10 (codes "take s") refl) (number_lacks 10 k fits (omega arith)))
          (lacks 10 (codes " any") refl)

-- what is told where there is none
pub none_so : {X : Type 0} {P Q : Type 0} (o : Option X) → IfNone o P → (P → Q) → IfNone o Q
none_so None p so = so p
none_so (Some x) p so = p

-- its first byte tells it from other lines
text_first : (p : Priority) → (get_or (priority_text p) 0 0 ≡ 103) ⊎ (get_or (priority_text p) 0 0 ≡ 116)
text_first (Give k a) = inl (ap (λ l. get_or l 0 0) (give_words k a))
text_first (Take k a) = inr (ap (λ l. get_or l 0 0) (take_words k a))
text_first (Any k) = inr (ap (λ l. get_or l 0 0) (any_words k))

priority_first : (n : Network) (number : ℕ) (bytes : List ℕ) (p : Priority) → IsPriorityLine n number bytes p → (get_or bytes 0 0 ≡ 103) ⊎ (get_or bytes 0 0 ≡ 116)
priority_first n number bytes p is = subst (λ b. (get_or b 0 0 ≡ 103) ⊎ (get_or b 0 0 ≡ 116)) (sym is.0) (text_first p)

priority-some : (n : Network) (number : ℕ) (bytes : List ℕ) (p : Priority) → IsPriorityLine n number bytes p → 0 < length bytes
priority-some n number bytes p is = elim (priority_first n number bytes p is) [ inl g ↦ some_bytes bytes 103 g (omega arith) | inr t ↦ some_bytes bytes 116 t (omega arith) ]

-- of a line that begins otherwise there is no priority
pub other_first : (n : Network) (number : ℕ) (bytes : List ℕ) (p : Priority) (byte : ℕ) → IsPriorityLine n number bytes p → get_or bytes 0 0 ≡ byte → byte < 103 → ⊥
other_first n number bytes p byte is first low = elim (priority_first n number bytes p is) [ inl g ↦ omega (arith, g, first, low) | inr t ↦ omega (arith, t, first, low) ]

-- ---- the same of lines that may stand

module _ (may : Admitted) (n : Network) (small : HasSmallSizes n) (few : length n.edges ≤ MOST_OF_EACH) where
  pub here_apart : (number : ℕ) (bytes : List ℕ) (p q : Priority) → IsPriorityHere may n number bytes p → IsPriorityHere may n number bytes q → p ≡ q
  here_apart number bytes p q a b = priority_apart n small few number bytes p q a.1 b.1

  pub here-lacks : (number : ℕ) (bytes : List ℕ) (p : Priority) → IsPriorityHere may n number bytes p → Lacks 10 bytes
  here-lacks number bytes p is = priority-lacks n small few number bytes p is.1

pub here-some : (may : Admitted) (n : Network) (number : ℕ) (bytes : List ℕ) (p : Priority) → IsPriorityHere may n number bytes p → 0 < length bytes
here-some may n number bytes p is = priority-some n number bytes p is.1

pub other_here : (may : Admitted) (n : Network) (number : ℕ) (bytes : List ℕ) (p : Priority) (byte : ℕ) → IsPriorityHere may n number bytes p → get_or bytes 0 0 ≡ byte → byte < 103 → ⊥
other_here may n number bytes p byte is first low = other_first n number bytes p byte is.1 first low

-- nor of one that begins with another letter
pub letter_here : (may : Admitted) (n : Network) (number : ℕ) (bytes : List ℕ) (p : Priority) → IsPriorityHere may n number bytes p → 103 < get_or bytes 0 0 → get_or bytes 0 0 < 116 → ⊥
letter_here may n number bytes p is high low = elim (priority_first n number bytes p is.1) [ inl g ↦ omega (arith, g, high) | inr t ↦ omega (arith, t, low) ]
