-- What the words of a network's text spell.
use Rattle.std.proofs.Common.{◌≡◌, ◌≢◌, ℕ, ◌-◌, ◌^◌, ◌<◌, ◌≤◌, min, List, [], ◌∷◌, ◌++◌, drop, refl, sym, ◌∙◌, ap, subst, inl, inr, arith}
use Rattle.std.specs.Prelude.{codes, decimal}
use Rattle.std.specs.Int.{IsInRange}
use Rattle.std.proofs.lemmas.List.{append_assoc}
use Rattle.std.proofs.lemmas.List.Elements.{All-cons}
use Rattle.bt_text.specs.Lines.{Lacks, SplitsAt}
use Rattle.bt_frac.specs.Numbers.{Spells}
use Rattle.bt_frac.proofs.Numerals.{decimal_apart, Spells-decimal, Spells-unique, Spells-lacks, decimal-from_spells, decimal-lacks}
use Rattle.bt_text.proofs.FirstLines.{split_apart, SplitsAt-lacks}
use Rattle.bt_net.specs.declared.network.Edge.{Edge}
use Rattle.bt_net.specs.declared.network.Start.{Start}
use Rattle.bt_net.specs.declared.network.Start.TheVariants as from
use Rattle.bt_net.specs.declared.network.Target.{Target}
use Rattle.bt_net.specs.declared.network.Target.TheVariants as to
use Rattle.bt_net.specs.Network.{Network, IsCap}
use Rattle.bt_net.specs.NetText.{start_text, target_text, cap_text, header, IsEdgeLine}
use Rattle.bt_net.specs.Refusals.{IsHeader}
use Rattle.bt_net.specs.declared.network.TheConstants.{MOST_OF_EACH}
use Rattle.bt_net.specs.Wiring.{HasSmallSizes}
use Rattle.bt_net.specs.inner.Lines.{StartFits, TargetFits, EdgeFits, IsTargetAndCap}

-- a number that is read, and limited, and is small, is the one written
pub small_number : (w : List ℕ) (v n : ℕ) → Spells w n → v ≡ min n (2 ^ 128 - 1) → v < 2 ^ 32 → w ≡ decimal v
small_number w v n s is small = let same : n ≡ v = omega arith in subst (λ m. w ≡ decimal m) same (decimal-from_spells w n s (omega arith))

-- a number that is read and is not small is none that is written
pub large_number : (w : List ℕ) (v n m : ℕ) → Spells w n → v ≡ min n (2 ^ 128 - 1) → 2 ^ 32 ≤ v → m < 2 ^ 32 → w ≡ decimal m → ⊥
large_number w v n m s is large small e =
    let same = Spells-unique (rw e at s) (Spells-decimal m (omega arith)) in omega arith

-- no space in the word of an end
pub start-lacks : (byte : ℕ) (s : Start) → StartFits s → ¬ IsInRange 48 57 byte → byte ≢ 105 → byte ≢ 115 → Lacks byte (start_text s)
start-lacks byte (from.Input i) fits digit apart_i apart_s = All-cons (λ b. b ≢ byte) 105 (decimal i) (λ e. apart_i (sym e)) (decimal-lacks i byte (omega arith) digit)
start-lacks byte (from.Split i) fits digit apart_i apart_s = All-cons (λ b. b ≢ byte) 115 (decimal i) (λ e. apart_s (sym e)) (decimal-lacks i byte (omega arith) digit)

pub target-lacks : (byte : ℕ) (t : Target) → TargetFits t → ¬ IsInRange 48 57 byte → byte ≢ 111 → byte ≢ 115 → Lacks byte (target_text t)
target-lacks byte (to.Output i) fits digit apart_o apart_s = All-cons (λ b. b ≢ byte) 111 (decimal i) (λ e. apart_o (sym e)) (decimal-lacks i byte (omega arith) digit)
target-lacks byte (to.Split i) fits digit apart_o apart_s = All-cons (λ b. b ≢ byte) 115 (decimal i) (λ e. apart_s (sym e)) (decimal-lacks i byte (omega arith) digit)

-- a word spells one cap
pub cap_apart : (w : List ℕ) (n cap : ℕ) → w ≡ decimal n → n < 2 ^ 32 → IsCap cap → w ≡ decimal cap → n ≡ cap
cap_apart w n cap is small most other = decimal_apart n cap (omega arith) (omega (arith, most.1)) (sym is ∙ other)

-- no space in the word of a start or a target
pub start_lacks_space : (s : Start) → StartFits s → Lacks 32 (start_text s)
start_lacks_space s fits = start-lacks 32 s fits (λ r. omega (arith, r.0)) (λ e. omega arith) (λ e. omega arith)

pub target_lacks_space : (t : Target) → TargetFits t → Lacks 32 (target_text t)
target_lacks_space t fits = target-lacks 32 t fits (λ r. omega (arith, r.0)) (λ e. omega arith) (λ e. omega arith)

-- the words of an edge line behind its first word and its start
pub edge_words : (bytes : List ℕ) (e : Edge) → IsEdgeLine bytes e
    → (words : List ℕ) × (bytes ≡ codes "edge " ++ (start_text e.start ++ 32 ∷ words)) × IsTargetAndCap words e.target e.cap
edge_words bytes e (inl is) = (target_text e.target ++ cap_text e.cap, is ∙ simp append_assoc, inl refl)
edge_words bytes e (inr is) = (target_text e.target, is.0 ∙ simp append_assoc, inr (refl, is.1))

-- an edge line that was cut at its first word and at the space behind its start
pub cut_words : (bytes ends front back : List ℕ) (e : Edge) → EdgeFits e → bytes ≡ codes "edge " ++ ends → SplitsAt 32 ends front back → IsEdgeLine bytes e
    → (front ≡ start_text e.start) × IsTargetAndCap back e.target e.cap
cut_words bytes ends front back e fits cut splits is =
    let words = edge_words bytes e is in
    let apart = split_apart 32 front (start_text e.start) back words.0 splits.first (start_lacks_space e.start fits.0) (sym splits.text_is ∙ ap (drop 5) (sym cut ∙ words.1)) in
    (apart.0, subst (λ w. IsTargetAndCap w e.target e.cap) (sym apart.1) words.2)

-- a target and a cap are cut at the space between them, or without a space are the target
pub cut_cap : (words front back : List ℕ) (t : Target) (cap : ℕ) → TargetFits t → SplitsAt 32 words front back → IsTargetAndCap words t cap → (front ≡ target_text t) × (back ≡ decimal cap)
cut_cap words front back t cap fits splits (inl is) = split_apart 32 front (target_text t) back (decimal cap) splits.first (target_lacks_space t fits) (sym splits.text_is ∙ is)
cut_cap words front back t cap fits splits (inr is) = absurd (SplitsAt-lacks splits (rw (← is.0) at (target_lacks_space t fits)))

pub uncut_cap : (words : List ℕ) (t : Target) (cap : ℕ) → TargetFits t → Lacks 32 words → IsTargetAndCap words t cap → (words ≡ target_text t) × (cap ≡ 1)
uncut_cap words t cap fits none (inl is) =
    let splits : SplitsAt 32 words (target_text t) (decimal cap) = record { first = target_lacks_space t fits; text_is = is } in absurd (SplitsAt-lacks splits none)
uncut_cap words t cap fits none (inr is) = is

three_words : (a b c : List ℕ) → a ++ 32 ∷ [] ++ b ++ 32 ∷ [] ++ c ≡ a ++ 32 ∷ (b ++ 32 ∷ c)
three_words a b c = simp append_assoc

-- what follows the first word of a header
after_net : (text front rest : List ℕ) (i o s : ℕ) (h : IsHeader text i o s) → text ≡ front ++ rest → front ≡ codes "net " → rest ≡ h.inputs_word ++ 32 ∷ (h.outputs_word ++ 32 ∷ h.splitters_word)
after_net text front rest i o s h cut is =
    ap (drop 4) (sym (cut ∙ ap (λ f. f ++ rest) is) ∙ h.bytes_are) ∙ three_words h.inputs_word h.outputs_word h.splitters_word

word-lacks : (w : List ℕ) (n : ℕ) → Spells w n → Lacks 32 w
word-lacks w n s = Spells-lacks w n 32 s (λ r. omega (arith, r.0))

-- the numbers of a header, by its three words
pub header_words : (text front rest f back g d : List ℕ) (i o s : ℕ) → text ≡ front ++ rest → front ≡ codes "net " → SplitsAt 32 rest f back → SplitsAt 32 back g d → IsHeader text i o s → Spells f i × Spells g o × Spells d s
header_words text front rest f back g d i o s cut is one two h =
    let all = after_net text front rest i o s h cut is in
    let first = split_apart 32 f h.inputs_word back (h.outputs_word ++ 32 ∷ h.splitters_word) one.first (word-lacks h.inputs_word i h.inputs_spelled) (sym one.text_is ∙ all) in
    let second = split_apart 32 g h.outputs_word d h.splitters_word two.first (word-lacks h.outputs_word o h.outputs_spelled) (sym two.text_is ∙ first.1) in
    (rw first.0 h.inputs_spelled, rw second.0 h.outputs_spelled, rw second.1 h.splitters_spelled)

-- a header has a second space
pub header_spaces : (text front rest f back : List ℕ) (i o s : ℕ) → text ≡ front ++ rest → front ≡ codes "net " → SplitsAt 32 rest f back → Lacks 32 back → IsHeader text i o s → ⊥
header_spaces text front rest f back i o s cut is one none h =
    let all = after_net text front rest i o s h cut is in
    let first = split_apart 32 f h.inputs_word back (h.outputs_word ++ 32 ∷ h.splitters_word) one.first (word-lacks h.inputs_word i h.inputs_spelled) (sym one.text_is ∙ all) in
    let two : SplitsAt 32 back h.outputs_word h.splitters_word = record { first = word-lacks h.outputs_word o h.outputs_spelled; text_is = first.1 } in
    SplitsAt-lacks two none

-- three words that spell numbers make a header
pub header_of : (text front rest f back g d : List ℕ) (i o s : ℕ) → text ≡ front ++ rest → front ≡ codes "net " → SplitsAt 32 rest f back → SplitsAt 32 back g d → Spells f i → Spells g o → Spells d s → IsHeader text i o s
header_of text front rest f back g d i o s all is one two a b c = record {
  inputs_word = f;
  outputs_word = g;
  splitters_word = d;
  inputs_spelled = a;
  outputs_spelled = b;
  splitters_spelled = c;
  bytes_are = all ∙ ap (λ x. x ++ rest) is ∙ ap (λ x. codes "net " ++ x) (one.text_is ∙ ap (λ x. f ++ 32 ∷ x) two.text_is) ∙ sym (simp append_assoc);
}

-- the header of small numbers is the one that is written
pub header_is : (text : List ℕ) (i o s : ℕ) → IsHeader text i o s → i ≤ MOST_OF_EACH → o ≤ MOST_OF_EACH → s ≤ MOST_OF_EACH → text ≡ codes "net " ++ decimal i ++ codes " " ++ decimal o ++ codes " " ++ decimal s
header_is text i o s h a b c =
    let p = decimal-from_spells h.inputs_word i h.inputs_spelled (omega arith) in
    let q = decimal-from_spells h.outputs_word o h.outputs_spelled (omega arith) in
    let r = decimal-from_spells h.splitters_word s h.splitters_spelled (omega arith) in
    h.bytes_are ∙ (λ k. codes "net " ++ p k ++ codes " " ++ q k ++ codes " " ++ r k)

-- what is written of a network is a header
pub IsHeader-header : (n : Network) → HasSmallSizes n → IsHeader (header n) n.inputs n.outputs n.splitters
IsHeader-header n small = record {
  inputs_word = decimal n.inputs;
  outputs_word = decimal n.outputs;
  splitters_word = decimal n.splitters;
  inputs_spelled = Spells-decimal n.inputs (omega (arith, small.few_inputs));
  outputs_spelled = Spells-decimal n.outputs (omega (arith, small.few_outputs));
  splitters_spelled = Spells-decimal n.splitters (omega (arith, small.few_splitters));
  bytes_are = refl;
}

-- a line is the header of one triple of numbers
pub header_unique : (text : List ℕ) (i o s j p t : ℕ) → IsHeader text i o s → IsHeader text j p t → (i ≡ j) × (o ≡ p) × (s ≡ t)
header_unique text i o s j p t h g =
    let cut = g.bytes_are ∙ ap (λ x. codes "net " ++ x) (three_words g.inputs_word g.outputs_word g.splitters_word) in
    let one : SplitsAt 32 (g.inputs_word ++ 32 ∷ (g.outputs_word ++ 32 ∷ g.splitters_word)) g.inputs_word (g.outputs_word ++ 32 ∷ g.splitters_word) = record { first = word-lacks g.inputs_word j g.inputs_spelled; text_is = refl } in
    let two : SplitsAt 32 (g.outputs_word ++ 32 ∷ g.splitters_word) g.outputs_word g.splitters_word = record { first = word-lacks g.outputs_word p g.outputs_spelled; text_is = refl } in
    let spelled = header_words text (codes "net ") (g.inputs_word ++ 32 ∷ (g.outputs_word ++ 32 ∷ g.splitters_word)) g.inputs_word (g.outputs_word ++ 32 ∷ g.splitters_word) g.outputs_word g.splitters_word i o s cut refl one two h in
    (Spells-unique spelled.0 g.inputs_spelled, Spells-unique spelled.1 g.outputs_spelled, Spells-unique spelled.2 g.splitters_spelled)
