-- Priorities, one after another.
use Rattle.std.proofs.Common.{◌≡◌, ℕ, ◌+◌, ◌<◌, ◌≤◌, List, [], ◌∷◌, ◌++◌, length, get_or, set, slice_get, replicate, true, false, IsTrue, Some, None, refl, sym, ◌∙◌, ap, subst, inl, inr, ◌⊎◌, arith, length-append}
use Rattle.std.proofs.lemmas.Bool.{cases_eq, cases_lt}
use Rattle.std.proofs.lemmas.List.{get_or-set_same, get_or-set_other, set_past, length-set, length-replicate}
use Rattle.bt_text.specs.Lines.{IsFirstLine}
use Rattle.bt_text.proofs.FirstLines.{IsFirstLine-unique}
use Rattle.bt_net.specs.declared.network.Edge.{Edge}
use Rattle.bt_net.specs.declared.network.Priority.{Priority}
use Rattle.bt_net.specs.declared.network.Priority.TheVariants.{Give, Take, Any}
use Rattle.bt_net.specs.declared.network.TheConstants.{MOST_OF_EACH}
use Rattle.bt_net.specs.declared.priority.Preferred.{Preferred}
use Rattle.bt_net.specs.inner.Preferred.{HasPlace, told}
use Rattle.bt_net.specs.Network.{Network, none_each, HasNoPriorities, IsPrioritised, preferred_in, give_of, take_of, merges_any, leaves, enters}
use Rattle.bt_net.specs.PinRefusals.{BeginsWithItems}
use Rattle.bt_net.specs.declared.network.Admitted.{Admitted}
use Rattle.bt_net.specs.Priorities.{Owns, IsPriorityHere, IsFreeFor, with_priority, Becomes}
use Rattle.bt_net.specs.Wiring.{HasSmallSizes}
use Rattle.bt_net.proofs.PrioritySpelling.{here_apart, here-lacks, here-some}
use Rattle.bt_net.proofs.ItemLines.{items_push, shorter}
use Rattle.bt_net.proofs.Preference.{none_long}

-- one more priority
pub becomes_push : (m n : Network) (ps : List Priority) (p : Priority) → Becomes m ps n → IsFreeFor n p → Becomes m (ps ++ p ∷ []) (with_priority n p)
becomes_push m n [] p is free = subst (λ x. IsFreeFor x p × (with_priority x p ≡ with_priority n p)) (sym is) (free, refl)
becomes_push m n (q ∷ ps) p is free = (is.0, becomes_push (with_priority m q) n ps p is.1 free)

-- the same edges and splitters
pub record SameWires (m n : Network) : Type 0 where
  pub inputs : m.inputs ≡ n.inputs
  pub outputs : m.outputs ≡ n.outputs
  pub splitters : m.splitters ≡ n.splitters
  pub edges : m.edges ≡ n.edges

same_with : (m : Network) (p : Priority) → SameWires m (with_priority m p)
same_with m (Give k a) = record { inputs = refl; outputs = refl; splitters = refl; edges = refl }
same_with m (Take k a) = record { inputs = refl; outputs = refl; splitters = refl; edges = refl }
same_with m (Any k) = record { inputs = refl; outputs = refl; splitters = refl; edges = refl }

pub becomes_wires : (m n : Network) (ps : List Priority) → Becomes m ps n → SameWires m n
becomes_wires m n [] is = subst (SameWires m) is (record { inputs = refl; outputs = refl; splitters = refl; edges = refl })
becomes_wires m n (p ∷ ps) is =
    let one = same_with m p in
    let rest = becomes_wires (with_priority m p) n ps is.1 in
    record { inputs = one.inputs ∙ rest.inputs; outputs = one.outputs ∙ rest.outputs; splitters = one.splitters ∙ rest.splitters; edges = one.edges ∙ rest.edges }

pub owns_same : (w m : Network) (p : Priority) → SameWires w m → Owns w p → Owns m p
owns_same w m (Give k a) same owns =
    (subst (λ s. k < s) same.splitters owns.0, subst (λ es. (f : Edge) × (slice_get es a ≡ Some f) × IsTrue (leaves k f)) same.edges owns.1)
owns_same w m (Take k a) same owns =
    (subst (λ s. k < s) same.splitters owns.0, subst (λ es. (f : Edge) × (slice_get es a ≡ Some f) × IsTrue (enters k f)) same.edges owns.1)
owns_same w m (Any k) same owns = subst (λ s. k < s) same.splitters owns

-- a text has one longest list of priorities that may stand
module _ (may : Admitted) (n : Network) (small : HasSmallSizes n) (few : length n.edges ≤ MOST_OF_EACH) where
  -- no priority that may stand follows
  abbrev pub NoneFollows : Network → List ℕ → Type 0
  NoneFollows m rest = (bytes after : List ℕ) → IsFirstLine rest bytes after → (p : Priority) → IsPriorityHere may n 0 bytes p → IsFreeFor m p → ⊥

  pub same_priorities : (number : ℕ) (w : Network) (text r s : List ℕ) (ps qs : List Priority) (m o : Network) → BeginsWithItems (IsPriorityHere may n) number text ps r → BeginsWithItems (IsPriorityHere may n) number text qs s
      → Becomes w ps m → Becomes w qs o → NoneFollows m r → NoneFollows o s → (ps ≡ qs) × (m ≡ o) × (r ≡ s)
  same_priorities number w text r s [] [] m o p q f g none non = (refl, sym f ∙ g, sym p ∙ q)
  same_priorities number w text r s [] (y ∷ ys) m o p q f g none non =
      absurd (none q.0 q.1 (subst (λ t. IsFirstLine t q.0 q.1) p q.2) y q.3 (subst (λ x. IsFreeFor x y) f g.0))
  same_priorities number w text r s (x ∷ xs) [] m o p q f g none non =
      absurd (non p.0 p.1 (subst (λ t. IsFirstLine t p.0 p.1) q p.2) x p.3 (subst (λ z. IsFreeFor z x) g f.0))
  same_priorities number w text r s (x ∷ xs) (y ∷ ys) m o p q f g none non =
      let line = IsFirstLine-unique text p.0 q.0 p.1 q.1 p.2 q.2 in
      let head = here_apart may n small few number q.0 x y (subst (λ b. IsPriorityHere may n number b x) line.0 p.3) q.3 in
      let tail = same_priorities (number + 1) (with_priority w y) q.1 r s xs ys m o (subst (λ t. BeginsWithItems (IsPriorityHere may n) (number + 1) t xs r) line.1 p.4) q.4
      (subst (λ z. Becomes (with_priority w z) xs m) head f.1) g.1 none non in
      ((λ i. head i ∷ tail.0 i), tail.1, tail.2)

-- a splitter that prefers an edge of its own
module _ (m : Network) (is : IsPrioritised m) where
  set_gives : (k a j b : ℕ) → preferred_in (set m.gives k (Some a)) j ≡ Some b → ((j ≡ k) × (b ≡ a)) ⊎ (give_of m j ≡ Some b)
  set_gives k a j b e = elim (cases_lt k (length m.gives)) [
    | inl inside ↦ elim (cases_eq j k) [
      | inl same ↦
          let here : get_or (set m.gives k (Some a)) j None ≡ Some a = ap (λ i. get_or (set m.gives k (Some a)) i None) same ∙ get_or-set_same m.gives k (Some a) None inside in
          let both : Some a ≡ Some b = sym here ∙ e in
          let value : a ≡ b = cc in
          inl (same, sym value)
      | inr other ↦ inr (sym (get_or-set_other m.gives k j (Some a) None other) ∙ e)
    ]
    | inr outside ↦ inr (ap (λ l. get_or l j None) (sym (set_past m.gives k (Some a) outside)) ∙ e)
  ]

  set_takes : (k a j b : ℕ) → preferred_in (set m.takes k (Some a)) j ≡ Some b → ((j ≡ k) × (b ≡ a)) ⊎ (take_of m j ≡ Some b)
  set_takes k a j b e = elim (cases_lt k (length m.takes)) [
    | inl inside ↦ elim (cases_eq j k) [
      | inl same ↦
          let here : get_or (set m.takes k (Some a)) j None ≡ Some a = ap (λ i. get_or (set m.takes k (Some a)) i None) same ∙ get_or-set_same m.takes k (Some a) None inside in
          let both : Some a ≡ Some b = sym here ∙ e in
          let value : a ≡ b = cc in
          inl (same, sym value)
      | inr other ↦ inr (sym (get_or-set_other m.takes k j (Some a) None other) ∙ e)
    ]
    | inr outside ↦ inr (ap (λ l. get_or l j None) (sym (set_past m.takes k (Some a) outside)) ∙ e)
  ]

  -- where a splitter may prefer any in edge, it prefers none that is named
  set_merges : (k j : ℕ) → get_or (set m.merges k true) j false ≡ true → (j ≡ k) ⊎ (merges_any m j ≡ true)
  set_merges k j e = elim (cases_eq j k) [
    | inl same ↦ inl same
    | inr other ↦ inr (sym (get_or-set_other m.merges k j true false other) ∙ e)
  ]

  one_prioritised : (p : Priority) → Owns m p → IsFreeFor m p → IsPrioritised (with_priority m p)
  one_prioritised (Give k a) owns free = record {
    gives_each = length-set m.gives k (Some a) ∙ is.gives_each;
    takes_each = is.takes_each;
    merges_each = is.merges_each;
    gives = λ j b e. elim (set_gives k a j b e) [
      | inl same ↦ subst (λ x. (f : Edge) × (slice_get m.edges x ≡ Some f) × IsTrue (leaves j f)) (sym same.1)
          (subst (λ i. (f : Edge) × (slice_get m.edges a ≡ Some f) × IsTrue (leaves i f)) (sym same.0) owns.1)
      | inr before ↦ is.gives j b before
    ];
    takes = is.takes;
    one_of_both = is.one_of_both;
  }
  one_prioritised (Take k a) owns free = record {
    gives_each = is.gives_each;
    takes_each = length-set m.takes k (Some a) ∙ is.takes_each;
    merges_each = is.merges_each;
    gives = is.gives;
    takes = λ j b e. elim (set_takes k a j b e) [
      | inl same ↦ subst (λ x. (f : Edge) × (slice_get m.edges x ≡ Some f) × IsTrue (enters j f)) (sym same.1)
          (subst (λ i. (f : Edge) × (slice_get m.edges a ≡ Some f) × IsTrue (enters i f)) (sym same.0) owns.1)
      | inr before ↦ is.takes j b before
    ];
    one_of_both = λ j any. elim (cases_eq j k) [
      | inl same ↦ absurd (let none : merges_any m j ≡ false = ap (merges_any m) same ∙ free.1 in cc)
      | inr other ↦ get_or-set_other m.takes k j (Some a) None other ∙ is.one_of_both j any
    ];
  }
  one_prioritised (Any k) owns free = record {
    gives_each = is.gives_each;
    takes_each = is.takes_each;
    merges_each = length-set m.merges k true ∙ is.merges_each;
    gives = is.gives;
    takes = is.takes;
    one_of_both = λ j any. elim (set_merges k j any) [
      | inl same ↦ ap (take_of m) same ∙ free.0
      | inr before ↦ is.one_of_both j before
    ];
  }

-- so is it where each priority of a list is one of the network's own
pub becomes_prioritised : (may : Admitted) (w m n : Network) (number : ℕ) (text rest : List ℕ) (ps : List Priority) → SameWires w m → IsPrioritised m → BeginsWithItems (IsPriorityHere may w) number text ps rest → Becomes m ps n → IsPrioritised n
becomes_prioritised may w m n number text rest [] same is lines becomes = subst IsPrioritised becomes is
becomes_prioritised may w m n number text rest (p ∷ ps) same is lines becomes =
    let one = same_with m p in
    let wires : SameWires w (with_priority m p) = record { inputs = same.inputs ∙ one.inputs; outputs = same.outputs ∙ one.outputs; splitters = same.splitters ∙ one.splitters; edges = same.edges ∙ one.edges } in
    becomes_prioritised may w (with_priority m p) n (number + 1) lines.1 rest ps wires (one_prioritised m is p (owns_same w m p same lines.3.1.1) becomes.0) lines.4 becomes.1

-- what was read of priority lines so far
pub record SoFar (may : Admitted) (n : Network) (text : List ℕ) (preferred : Preferred) (count : ℕ) (rest : List ℕ) : Type 0 where
  pub priorities : List Priority
  pub lines : BeginsWithItems (IsPriorityHere may n) (length n.edges + 2) text priorities rest
  pub becomes : Becomes n priorities (told n preferred)
  pub count_is : count ≡ length priorities
  pub gives_long : length preferred.gives.items ≡ n.splitters
  pub takes_long : length preferred.takes.items ≡ n.splitters
  pub merges_long : length preferred.merges.items ≡ n.splitters
  pub short : count + length rest ≤ length text

-- no line yet
pub none_so_far : (may : Admitted) (n : Network) (text : List ℕ) (preferred : Preferred) → HasNoPriorities n → preferred.gives.items ≡ none_each n.splitters → preferred.takes.items ≡ none_each n.splitters → preferred.merges.items ≡ replicate n.splitters false
    → SoFar may n text preferred 0 text
none_so_far may n text preferred plain gives takes merges =
    let g : n.gives ≡ preferred.gives.items = plain.gives ∙ sym gives in
    let t : n.takes ≡ preferred.takes.items = plain.takes ∙ sym takes in
    let u : n.merges ≡ preferred.merges.items = plain.merges ∙ sym merges in
    record {
      priorities = [];
      lines = refl;
      becomes = λ i. record { inputs = n.inputs; outputs = n.outputs; splitters = n.splitters; edges = n.edges; gives = g i; takes = t i; merges = u i };
      count_is = refl;
      gives_long = ap length gives ∙ none_long n.splitters;
      takes_long = ap length takes ∙ none_long n.splitters;
      merges_long = ap length merges ∙ length-replicate n.splitters false;
      short = omega arith;
    }

kept_long : (m : Network) (p : Priority) → (length (with_priority m p).gives ≡ length m.gives) × (length (with_priority m p).takes ≡ length m.takes) × (length (with_priority m p).merges ≡ length m.merges)
kept_long m (Give k a) = (length-set m.gives k (Some a), refl, refl)
kept_long m (Take k a) = (refl, length-set m.takes k (Some a), refl)
kept_long m (Any k) = (refl, refl, length-set m.merges k true)

-- one more
pub one_more_priority : (may : Admitted) (n : Network) (small : HasSmallSizes n) (few : length n.edges ≤ MOST_OF_EACH) (text bytes rest after : List ℕ) (old new : Preferred) (count : ℕ) (p : Priority) → SoFar may n text old count rest
    → IsFirstLine rest bytes after → IsPriorityHere may n 0 bytes p → IsFreeFor (told n old) p
    → told n new ≡ with_priority (told n old) p → SoFar may n text new (count + 1) after
one_more_priority may n small few text bytes rest after old new count p so next is free same =
    let lines = items_push (IsPriorityHere may n) (here_apart may n small few) (here-some may n) (here-lacks may n small few) (length n.edges + 2) text rest bytes after so.priorities p so.lines next is in
    let wires = kept_long (told n old) p in
    record {
      priorities = so.priorities ++ p ∷ [];
      lines = lines;
      becomes = subst (Becomes n (so.priorities ++ p ∷ [])) (sym same) (becomes_push n (told n old) so.priorities p so.becomes free);
      count_is = omega (arith, so.count_is, length-append so.priorities (p ∷ []));
      gives_long = ap (λ m. length m.gives) same ∙ wires.0 ∙ so.gives_long;
      takes_long = ap (λ m. length m.takes) same ∙ wires.1 ∙ so.takes_long;
      merges_long = ap (λ m. length m.merges) same ∙ wires.2 ∙ so.merges_long;
      short = omega (arith, so.short, shorter rest bytes after next (here-some may n 0 bytes p is));
    }

-- a priority of the network has a place
pub has_place : (n : Network) (preferred : Preferred) (p : Priority) → Owns n p → length preferred.gives.items ≡ n.splitters → length preferred.takes.items ≡ n.splitters → length preferred.merges.items ≡ n.splitters → HasPlace preferred p
has_place n preferred (Give k a) owns g t u = omega (arith, owns.0, g)
has_place n preferred (Take k a) owns g t u = omega (arith, owns.0, t)
has_place n preferred (Any k) owns g t u = omega (arith, owns, u)
