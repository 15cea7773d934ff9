-- How many edges there are at each end, when one more edge comes.
use Rattle.std.proofs.Common.{eq-eqb, ◌≡◌, ℕ, ◌+◌, ◌<◌, ◌≤◌, Bool, true, false, cond, eqb, List, [], ◌∷◌, ◌++◌, length, refl, sym, ◌∙◌, subst, ⊎_elim, arith}
use Rattle.std.specs.List.{All, count_by}
use Rattle.std.proofs.lemmas.Bool.{cases_eq, ne_eqb}
use Rattle.std.proofs.lemmas.List.{length_push, get_or_push}
use Rattle.std.proofs.lemmas.List.Sums.{sum_by_push}
use Rattle.std.proofs.lemmas.List.Elements.{All-push, All-get_or, All-from_get_or}
use Rattle.bt_net.specs.declared.network.Edge.{Edge}
use Rattle.bt_net.specs.declared.network.Start.{Start}
use Rattle.bt_net.specs.declared.network.Start.TheVariants as from
use Rattle.bt_net.specs.declared.network.Target.{Target}
use Rattle.bt_net.specs.declared.network.Target.TheVariants as to
use Rattle.bt_net.specs.Network.{IsCap, IsWired, StartsIn, EndsIn, is_input, is_output, leaves, enters}
use Rattle.bt_net.specs.Wiring.{IsPartlyWired}
use Rattle.bt_net.specs.inner.Tallies.{AreTallied, tallied, IsFreeStart, IsFreeTarget}

module _ (at : ℕ → Edge → Bool) (es : List Edge) (e : Edge) where
  -- the edge is at no such end
  abbrev IsNone : Type 0
  IsNone = (i : ℕ) → at i e ≡ false

  -- the edge is at this end
  abbrev IsAt : ℕ → Type 0
  IsAt k = (i : ℕ) → at i e ≡ eqb k i

  count_none : (i : ℕ) → at i e ≡ false → count_by (at i) (es ++ e ∷ []) ≡ count_by (at i) es
  count_none i no_more = sum_by_push (λ x. cond (at i x) 1 0) es e ∙ rw no_more (omega arith)

  count_one : (i : ℕ) → at i e ≡ true → count_by (at i) (es ++ e ∷ []) ≡ count_by (at i) es + 1
  count_one i one = sum_by_push (λ x. cond (at i x) 1 0) es e ∙ rw one refl

  -- at most so many edges at each end, and fewer at this one, and then one more there
  most_one : (k m size : ℕ) → IsAt k → ((i : ℕ) → i < size → count_by (at i) es ≤ m) → count_by (at k) es < m → (i : ℕ) → i < size → count_by (at i) (es ++ e ∷ []) ≤ m
  most_one k m size is most below i h = ⊎_elim
      (λ same. let one : at i e ≡ true = is i ∙ rw same (eq-eqb i i refl) in omega (arith, count_one i one, rw same at below))
      (λ other. let none : at i e ≡ false = is i ∙ ne_eqb k i other in omega (arith, count_none i none, most i h))
      (cases_eq k i)

  most_none : (m size : ℕ) → IsNone → ((i : ℕ) → i < size → count_by (at i) es ≤ m) → (i : ℕ) → i < size → count_by (at i) (es ++ e ∷ []) ≤ m
  most_none m size none most i h = omega (arith, count_none i (none i), most i h)

-- the last of the edges
last : {X : Type 0} (P : X → Type 0) (xs : List X) (x : X) → All P (xs ++ x ∷ []) → P x
last P xs x all = subst P (get_or_push xs x x (length xs) refl) (All-get_or P (xs ++ x ∷ []) (length xs) x (omega (arith, length_push xs x)) all)

module _ (i o l n : List ℕ) (es : List Edge) (old : AreTallied i o l n es) where
  free_start : (start : Start) (target : Target) (cap : ℕ) → IsPartlyWired (tallied i o l (es ++ (record { start = start; target = target; cap = cap }) ∷ [])) → IsFreeStart i l start
  free_start (from.Input k) target cap new =
      let e : Edge = record { start = from.Input k; target = target; cap = cap } in
      let inside : k < length i = last (λ x. StartsIn (tallied i o l es) x.start) es e new.starts in
      (inside, omega (arith, old.of_inputs k inside, new.one_in k inside, count_one is_input es e k (eq-eqb k k refl)))
  free_start (from.Split k) target cap new =
      let e : Edge = record { start = from.Split k; target = target; cap = cap } in
      let inside : k < length l = last (λ x. StartsIn (tallied i o l es) x.start) es e new.starts in
      (inside, omega (arith, old.of_leaving k inside, new.few_out k inside, count_one leaves es e k (eq-eqb k k refl)))

  free_target : (start : Start) (target : Target) (cap : ℕ) → IsPartlyWired (tallied i o l (es ++ (record { start = start; target = target; cap = cap }) ∷ [])) → IsFreeTarget n o target
  free_target start (to.Split k) cap new =
      let e : Edge = record { start = start; target = to.Split k; cap = cap } in
      let inside : k < length l = last (λ x. EndsIn (tallied i o l es) x.target) es e new.targets in
      (omega (arith, inside, old.splitters), omega (arith, old.of_entering k (omega (arith, old.splitters)), new.few_in k inside, count_one enters es e k (eq-eqb k k refl)))
  free_target start (to.Output k) cap new =
      let e : Edge = record { start = start; target = to.Output k; cap = cap } in
      let inside : k < length o = last (λ x. EndsIn (tallied i o l es) x.target) es e new.targets in
      (inside, omega (arith, old.of_outputs k inside, new.one_out k inside, count_one is_output es e k (eq-eqb k k refl)))

  -- an edge that may come next is at a free start and a free target, and has a cap that an edge may have
  pub admitted : (e : Edge) → IsPartlyWired (tallied i o l (es ++ e ∷ [])) → IsFreeStart i l e.start × IsFreeTarget n o e.target × (IsCap e.cap)
  admitted e new = (free_start e.start e.target e.cap new, free_target e.start e.target e.cap new, last (λ x. IsCap x.cap) es e new.caps)

  start_in : (start : Start) → IsFreeStart i l start → StartsIn (tallied i o l es) start
  start_in (from.Input k) free = free.0
  start_in (from.Split k) free = free.0

  target_in : (target : Target) → IsFreeTarget n o target → EndsIn (tallied i o l es) target
  target_in (to.Split k) free = omega (arith, free.0, old.splitters)
  target_in (to.Output k) free = free.0

  more_in : (start : Start) (target : Target) (cap : ℕ) → IsFreeStart i l start → (k : ℕ) → k < length i → count_by (is_input k) (es ++ (record { start = start; target = target; cap = cap }) ∷ []) ≤ 1
  more_in (from.Input k) target cap free =
      most_one is_input es (record { start = from.Input k; target = target; cap = cap }) k 1 (length i) (λ _. refl) old.wired.one_in (omega (arith, free.1, old.of_inputs k free.0))
  more_in (from.Split k) target cap free =
      most_none is_input es (record { start = from.Split k; target = target; cap = cap }) 1 (length i) (λ _. refl) old.wired.one_in

  more_out : (start : Start) (target : Target) (cap : ℕ) → IsFreeStart i l start → (k : ℕ) → k < length l → count_by (leaves k) (es ++ (record { start = start; target = target; cap = cap }) ∷ []) ≤ 2
  more_out (from.Input k) target cap free =
      most_none leaves es (record { start = from.Input k; target = target; cap = cap }) 2 (length l) (λ _. refl) old.wired.few_out
  more_out (from.Split k) target cap free =
      most_one leaves es (record { start = from.Split k; target = target; cap = cap }) k 2 (length l) (λ _. refl) old.wired.few_out (omega (arith, free.1, old.of_leaving k free.0))

  more_entering : (start : Start) (target : Target) (cap : ℕ) → IsFreeTarget n o target → (k : ℕ) → k < length l → count_by (enters k) (es ++ (record { start = start; target = target; cap = cap }) ∷ []) ≤ 2
  more_entering start (to.Split k) cap free =
      most_one enters es (record { start = start; target = to.Split k; cap = cap }) k 2 (length l) (λ _. refl) old.wired.few_in (omega (arith, free.1, old.of_entering k free.0))
  more_entering start (to.Output k) cap free =
      most_none enters es (record { start = start; target = to.Output k; cap = cap }) 2 (length l) (λ _. refl) old.wired.few_in

  more_ending : (start : Start) (target : Target) (cap : ℕ) → IsFreeTarget n o target → (k : ℕ) → k < length o → count_by (is_output k) (es ++ (record { start = start; target = target; cap = cap }) ∷ []) ≤ 1
  more_ending start (to.Split k) cap free =
      most_none is_output es (record { start = start; target = to.Split k; cap = cap }) 1 (length o) (λ _. refl) old.wired.one_out
  more_ending start (to.Output k) cap free =
      most_one is_output es (record { start = start; target = to.Output k; cap = cap }) k 1 (length o) (λ _. refl) old.wired.one_out (omega (arith, free.1, old.of_outputs k free.0))

  -- an edge at a free start and a free target with such a cap may come next
  pub admits : (e : Edge) → IsFreeStart i l e.start → IsFreeTarget n o e.target → IsCap e.cap → IsPartlyWired (tallied i o l (es ++ e ∷ []))
  admits e start target cap = record {
    starts = All-push (λ x. StartsIn (tallied i o l es) x.start) es e old.wired.starts (start_in e.start start);
    targets = All-push (λ x. EndsIn (tallied i o l es) x.target) es e old.wired.targets (target_in e.target target);
    caps = All-push (λ x. IsCap x.cap) es e old.wired.caps cap;
    one_in = more_in e.start e.target e.cap start;
    one_out = more_ending e.start e.target e.cap target;
    few_in = more_entering e.start e.target e.cap target;
    few_out = more_out e.start e.target e.cap start;
  }

  -- the network is wired where each input and each output has its edge
  pub completes : All (λ count. count ≡ 1) i → All (λ count. count ≡ 1) o → IsWired (tallied i o l es)
  completes ins outs = record {
    starts = old.wired.starts;
    targets = old.wired.targets;
    caps = old.wired.caps;
    one_in = λ k inside. sym (old.of_inputs k inside) ∙ ins k 0 inside;
    one_out = λ k inside. sym (old.of_outputs k inside) ∙ outs k 0 inside;
    few_in = old.wired.few_in;
    few_out = old.wired.few_out;
  }

  pub completed : IsWired (tallied i o l es) → All (λ count. count ≡ 1) i × All (λ count. count ≡ 1) o
  completed whole = (
    All-from_get_or (λ count. count ≡ 1) i 0 (λ k inside. old.of_inputs k inside ∙ whole.one_in k inside),
    All-from_get_or (λ count. count ≡ 1) o 0 (λ k inside. old.of_outputs k inside ∙ whole.one_out k inside),
  )
