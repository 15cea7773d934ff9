-- The priorities of a network, as they are printed and read, one after another.
use Rattle.std.proofs.Common.{◌≡◌, ℕ, ◌+◌, ◌<◌, ◌≤◌, zero, suc, Bool, true, false, List, [], ◌∷◌, ◌++◌, length, get_or, set, map, replicate, Option, Some, None, refl, sym, ◌∙◌, ap, subst, inl, inr, arith}
use Rattle.std.specs.Prelude.{codes}
use Rattle.std.specs.List.{flat_map, range_with_len, AllByRecursion}
use Rattle.std.proofs.lemmas.Bool.{cases_lt}
use Rattle.std.proofs.lemmas.List.{append_assoc, append-nil, map-append, get_or-set_same, get_or-set_other, length-set, length-replicate, same_lists, get_or_default}
use Rattle.std.proofs.lemmas.List.Concat.{flat_map-append}
use Rattle.bt_net.specs.declared.network.Priority.{Priority}
use Rattle.bt_net.specs.declared.network.Priority.TheVariants.{Give, Take, Any}
use Rattle.bt_net.specs.Network.{Network, IsPrioritised, none_each, preferred_in, give_of, take_of, merges_any}
use Rattle.bt_net.specs.NetText.{line, alone}
use Rattle.bt_net.specs.PinText.{AreLinesFrom}
use Rattle.bt_net.specs.Priorities.{priority_text, preference_text, merge_text, splitter_text, priorities_text, gives_at, takes_at, merges_at, priorities_at, priorities_of, Owns, IsPriorityLine, Becomes}
use Rattle.bt_net.proofs.Preference.{none_long, none_preferred, none_any}
use Rattle.bt_net.proofs.Preferring.{SameWires}

-- what is printed of them is a line for each
one_give : (k : ℕ) (o : Option ℕ) → preference_text (codes "give s") k o ≡ flat_map line (map priority_text (gives_at k o))
one_give k None = refl
one_give k (Some a) = sym (append-nil (line (priority_text (Give k a))))

one_take : (k : ℕ) (o : Option ℕ) → preference_text (codes "take s") k o ≡ flat_map line (map priority_text (takes_at k o))
one_take k None = refl
one_take k (Some a) = sym (append-nil (line (priority_text (Take k a))))

one_merge : (k : ℕ) (b : Bool) → merge_text k b ≡ flat_map line (map priority_text (merges_at k b))
one_merge k false = refl
one_merge k true = sym (append-nil (line (priority_text (Any k))))

joined_lines : (ps qs : List Priority) → flat_map line (map priority_text ps) ++ flat_map line (map priority_text qs) ≡ flat_map line (map priority_text (ps ++ qs))
joined_lines ps qs = sym (flat_map-append line (map priority_text ps) (map priority_text qs)) ∙ ap (flat_map line) (sym (map-append priority_text ps qs))

splitter_lines : (n : Network) (k : ℕ) → splitter_text n k ≡ flat_map line (map priority_text (priorities_at n k))
splitter_lines n k =
    let edges : preference_text (codes "give s") k (give_of n k) ++ preference_text (codes "take s") k (take_of n k) ≡ flat_map line (map priority_text (gives_at k (give_of n k) ++ takes_at k (take_of n k)))
    = (λ i. one_give k (give_of n k) i ++ one_take k (take_of n k) i) ∙ joined_lines (gives_at k (give_of n k)) (takes_at k (take_of n k)) in
    (λ i. edges i ++ one_merge k (merges_any n k) i) ∙ joined_lines (gives_at k (give_of n k) ++ takes_at k (take_of n k)) (merges_at k (merges_any n k))

lines_at : (n : Network) (ks : List ℕ) → flat_map (splitter_text n) ks ≡ flat_map line (map priority_text (flat_map (priorities_at n) ks))
lines_at n [] = refl
lines_at n (k ∷ ks) = (λ i. splitter_lines n k i ++ lines_at n ks i) ∙ joined_lines (priorities_at n k) (flat_map (priorities_at n) ks)

pub priority_lines : (n : Network) → priorities_text n ≡ flat_map line (map priority_text (priorities_of n))
priority_lines n = lines_at n (range_with_len 0 n.splitters)

all_joined : (P : Priority → Type 0) (ps qs : List Priority) → AllByRecursion P ps → AllByRecursion P qs → AllByRecursion P (ps ++ qs)
all_joined P [] qs ps-all qs-all = qs-all
all_joined P (p ∷ ps) qs ps-all qs-all = (ps-all.0, all_joined P ps qs ps-all.1 qs-all)

-- lines of priorities that the network may have
lines_are : (w : Network) (number : ℕ) (ps : List Priority) → AllByRecursion (Owns w) ps → AreLinesFrom (IsPriorityLine w) number (map priority_text ps) ps
lines_are w number [] all = tt
lines_are w number (p ∷ ps) all = ((refl, all.0), lines_are w (number + 1) ps all.1)

-- what is said of splitters, up to one from which on nothing is yet
record AgreeTill {A : Type 0} (d : A) (k splitters : ℕ) (xs ys : List A) : Type 0 where
  pub long : length xs ≡ splitters
  pub as_long : length ys ≡ splitters
  pub below : (j : ℕ) → j < k → get_or xs j d ≡ get_or ys j d
  pub beyond : (j : ℕ) → k ≤ j → get_or xs j d ≡ d

-- the edges with that of one more splitter, where it prefers one
abbrev filled : List (Option ℕ) → ℕ → Option ℕ → List (Option ℕ)
filled xs k None = xs
filled xs k (Some a) = set xs k (Some a)

-- and with one more that may prefer any
abbrev filled_any : List Bool → ℕ → Bool → List Bool
filled_any xs k false = xs
filled_any xs k true = set xs k true

module _ {A : Type 0} (d : A) (k splitters : ℕ) (xs ys : List A) (inside : k < splitters) (agree : AgreeTill d k splitters xs ys) where
  agree_kept : get_or ys k d ≡ d → AgreeTill d (k + 1) splitters xs ys
  agree_kept is = record {
    long = agree.long;
    as_long = agree.as_long;
    below = λ j small. elim (cases_lt j k) [
      | inl lower ↦ agree.below j lower
      | inr higher ↦
          let here : j ≡ k = omega (arith, small, higher) in
          ap (λ i. get_or xs i d) here ∙ agree.beyond k (omega arith) ∙ sym is ∙ ap (λ i. get_or ys i d) (sym here)
    ];
    beyond = λ j large. agree.beyond j (omega (arith, large));
  }

  agree_set : (x : A) → get_or ys k d ≡ x → AgreeTill d (k + 1) splitters (set xs k x) ys
  agree_set x is = record {
    long = length-set xs k x ∙ agree.long;
    as_long = agree.as_long;
    below = λ j small. elim (cases_lt j k) [
      | inl lower ↦ get_or-set_other xs k j x d (λ e. omega (arith, e, lower)) ∙ agree.below j lower
      | inr higher ↦
          let here : j ≡ k = omega (arith, small, higher) in
          ap (λ i. get_or (set xs k x) i d) here ∙ get_or-set_same xs k x d (omega (arith, inside, agree.long)) ∙ sym is ∙ ap (λ i. get_or ys i d) (sym here)
    ];
    beyond = λ j large. get_or-set_other xs k j x d (λ e. omega (arith, e, large)) ∙ agree.beyond j (omega (arith, large));
  }

agree_next : (k splitters : ℕ) (xs ys : List (Option ℕ)) (o : Option ℕ) → k < splitters → preferred_in ys k ≡ o → AgreeTill None k splitters xs ys → AgreeTill None (k + 1) splitters (filled xs k o) ys
agree_next k splitters xs ys None inside is agree = agree_kept None k splitters xs ys inside agree is
agree_next k splitters xs ys (Some a) inside is agree = agree_set None k splitters xs ys inside agree (Some a) is

agree_any : (k splitters : ℕ) (xs ys : List Bool) (b : Bool) → k < splitters → get_or ys k false ≡ b → AgreeTill false k splitters xs ys → AgreeTill false (k + 1) splitters (filled_any xs k b) ys
agree_any k splitters xs ys false inside is agree = agree_kept false k splitters xs ys inside agree is
agree_any k splitters xs ys true inside is agree = agree_set false k splitters xs ys inside agree true is

agree_whole : {A : Type 0} (d : A) (splitters : ℕ) (xs ys : List A) → AgreeTill d splitters splitters xs ys → xs ≡ ys
agree_whole d splitters xs ys agree = same_lists xs ys (agree.long ∙ sym agree.as_long)
    (λ j e inside. get_or_default xs j e d inside ∙ agree.below j (omega (arith, inside, agree.long)) ∙ sym (get_or_default ys j e d (omega (arith, inside, agree.long, agree.as_long))))

-- a network becomes another by the priorities of a splitter, and then by others
give_first : (m n : Network) (k : ℕ) (o : Option ℕ) (ps : List Priority) → give_of m k ≡ None → Becomes (record m { gives = filled m.gives k o }) ps n → Becomes m (gives_at k o ++ ps) n
give_first m n k None ps free on = on
give_first m n k (Some a) ps free on = (free, on)

take_first : (m n : Network) (k : ℕ) (o : Option ℕ) (ps : List Priority) → (take_of m k ≡ None) × (merges_any m k ≡ false) → Becomes (record m { takes = filled m.takes k o }) ps n → Becomes m (takes_at k o ++ ps) n
take_first m n k None ps free on = on
take_first m n k (Some a) ps free on = (free, on)

merge_first : (m n : Network) (k : ℕ) (b : Bool) (ps : List Priority) → (b ≡ true → take_of m k ≡ None) → merges_any m k ≡ false → Becomes (record m { merges = filled_any m.merges k b }) ps n
    → Becomes m (merges_at k b ++ ps) n
merge_first m n k false ps none free on = on
merge_first m n k true ps none free on = ((none refl, free), on)

module _ (n : Network) (is : IsPrioritised n) where
  gives_owned : (k : ℕ) (o : Option ℕ) → k < n.splitters → give_of n k ≡ o → AllByRecursion (Owns (alone n)) (gives_at k o)
  gives_owned k None inside e = tt
  gives_owned k (Some a) inside e = ((inside, is.gives k a e), tt)

  takes_owned : (k : ℕ) (o : Option ℕ) → k < n.splitters → take_of n k ≡ o → AllByRecursion (Owns (alone n)) (takes_at k o)
  takes_owned k None inside e = tt
  takes_owned k (Some a) inside e = ((inside, is.takes k a e), tt)

  merges_owned : (k : ℕ) (b : Bool) → k < n.splitters → AllByRecursion (Owns (alone n)) (merges_at k b)
  merges_owned k false inside = tt
  merges_owned k true inside = (inside, tt)

  owned_from : (c k : ℕ) → k + c ≤ n.splitters → AllByRecursion (Owns (alone n)) (flat_map (priorities_at n) (range_with_len k c))
  owned_from zero k most = tt
  owned_from (suc c) k most =
      let inside : k < n.splitters = omega (arith, most) in
      all_joined (Owns (alone n)) (priorities_at n k) (flat_map (priorities_at n) (range_with_len (k + 1) c))
      (all_joined (Owns (alone n)) (gives_at k (give_of n k) ++ takes_at k (take_of n k)) (merges_at k (merges_any n k))
      (all_joined (Owns (alone n)) (gives_at k (give_of n k)) (takes_at k (take_of n k)) (gives_owned k (give_of n k) inside refl) (takes_owned k (take_of n k) inside refl))
      (merges_owned k (merges_any n k) inside))
      (owned_from c (k + 1) (omega (arith, most)))

  -- the lines that are printed are those of its priorities
  pub are_priority_lines : (number : ℕ) → AreLinesFrom (IsPriorityLine (alone n)) number (map priority_text (priorities_of n)) (priorities_of n)
  are_priority_lines number = lines_are (alone n) number (priorities_of n) (owned_from n.splitters 0 (omega arith))

  becomes_from : (c k : ℕ) (m : Network) → k + c ≡ n.splitters → SameWires m n → AgreeTill None k n.splitters m.gives n.gives → AgreeTill None k n.splitters m.takes n.takes
      → AgreeTill false k n.splitters m.merges n.merges → Becomes m (flat_map (priorities_at n) (range_with_len k c)) n
  becomes_from zero k m all wires gives takes merges =
      let end : k ≡ n.splitters = omega (arith, all) in
      let inputs = wires.inputs in
      let outputs = wires.outputs in
      let splitters = wires.splitters in
      let edges = wires.edges in
      let g = agree_whole None n.splitters m.gives n.gives (subst (λ j. AgreeTill None j n.splitters m.gives n.gives) end gives) in
      let t = agree_whole None n.splitters m.takes n.takes (subst (λ j. AgreeTill None j n.splitters m.takes n.takes) end takes) in
      let u = agree_whole false n.splitters m.merges n.merges (subst (λ j. AgreeTill false j n.splitters m.merges n.merges) end merges) in
      λ i. record { inputs = inputs i; outputs = outputs i; splitters = splitters i; edges = edges i; gives = g i; takes = t i; merges = u i }
  becomes_from (suc c) k m all wires gives takes merges =
      let inside : k < n.splitters = omega (arith, all) in
      let g = give_of n k in
      let t = take_of n k in
      let b = merges_any n k in
      let rest = flat_map (priorities_at n) (range_with_len (k + 1) c) in
      let given : Network = record m { gives = filled m.gives k g } in
      let taken : Network = record given { takes = filled m.takes k t } in
      let merged : Network = record taken { merges = filled_any m.merges k b } in
      let same : SameWires merged n = record { inputs = wires.inputs; outputs = wires.outputs; splitters = wires.splitters; edges = wires.edges } in
      let none : b ≡ true → take_of taken k ≡ None = λ any. ap (λ o. preferred_in (filled m.takes k o) k) (is.one_of_both k any) ∙ takes.beyond k (omega arith) in
      let free : merges_any m k ≡ false = merges.beyond k (omega arith) in
      let parts : ((gives_at k g ++ takes_at k t) ++ merges_at k b) ++ rest ≡ gives_at k g ++ (takes_at k t ++ (merges_at k b ++ rest))
      = append_assoc (gives_at k g ++ takes_at k t) (merges_at k b) rest ∙ append_assoc (gives_at k g) (takes_at k t) (merges_at k b ++ rest) in
      subst (λ ps. Becomes m ps n) (sym parts)
      (give_first m n k g (takes_at k t ++ (merges_at k b ++ rest)) (gives.beyond k (omega arith))
      (take_first given n k t (merges_at k b ++ rest) (takes.beyond k (omega arith), free)
      (merge_first taken n k b rest none free
      (becomes_from c (k + 1) merged (omega (arith, all)) same (agree_next k n.splitters m.gives n.gives g inside refl gives) (agree_next k n.splitters m.takes n.takes t inside refl takes)
      (agree_any k n.splitters m.merges n.merges b inside refl merges)))))

  none_agree : (ys : List (Option ℕ)) → length ys ≡ n.splitters → AgreeTill None 0 n.splitters (none_each n.splitters) ys
  none_agree ys long = record { long = none_long n.splitters; as_long = long; below = λ j small. absurd (omega (arith, small)); beyond = λ j large. none_preferred n.splitters j }

  even_agree : AgreeTill false 0 n.splitters (replicate n.splitters false) n.merges
  even_agree = record { long = length-replicate n.splitters false; as_long = is.merges_each; below = λ j small. absurd (omega (arith, small)); beyond = λ j large. none_any n.splitters j }

  -- by its priorities a network becomes itself, from one without them
  pub becomes_itself : Becomes (alone n) (priorities_of n) n
  becomes_itself = becomes_from n.splitters 0 (alone n) (omega arith) (record { inputs = refl; outputs = refl; splitters = refl; edges = refl }) (none_agree n.gives is.gives_each) (none_agree n.takes is.takes_each)
      even_agree
