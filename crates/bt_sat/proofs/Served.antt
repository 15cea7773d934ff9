-- What choosers are told of more steps.
use Rattle.std.proofs.Common.{◌≡◌, ℕ, ◌≤◌, ◌<◌, ◌+◌, ◌-◌, ◌*◌, ◌⊎◌, inl, inr, arith, List, [], ◌∷◌, ◌++◌, length, map, sym, subst, refl, ap, ◌∙◌, Option, None, Some, length-append, append-nil, append_assoc, true, false, Bool}
use Rattle.std.specs.Prelude.{◌≢◌, drop, set, take, slice_get, nat_lt, if◌then◌else◌, get_or}
use Rattle.std.proofs.Math.ListN.{get_or-map}
use Rattle.std.proofs.lemmas.Bool.{cases_lt, ltb-true, ltb-false}
use Rattle.std.proofs.lemmas.List.{length-drop, length-map, length-set, get_or-set_other, get_or-set_same, map-append, take_all, drop_all, take-append-le, drop-append-le}
use Rattle.std.proofs.lemmas.Option.{get_or_from_slice_get, slice_get_within, slice_get-get_or}
use Rattle.bt_cnf.specs.Choosing.{Gains}
use Rattle.bt_cnf.specs.declared.literal.Lit.{Lit}
use Rattle.bt_log.specs.Logs.{Step, clause_of}
use Rattle.bt_sat.specs.Serving.{HearsOf, TellsSteps, epoch}
use Rattle.bt_sat.specs.declared.serving.TheConstants.{EPOCH_STEPS}
use Rattle.bt_sat.specs.inner.Telling.{IsServing, TellsOne}
use borrow.Rule.Slice.PartMut.{mid_of, post_of, put_mid, put_same}

gains_more : (a b c : Option (List (List Lit))) (xs ys : List (List Lit)) → Gains a b xs → Gains b c ys → Gains a c (xs ++ ys)
gains_more None None None xs ys p q = tt
gains_more None None (Some c) xs ys p q = absurd q
gains_more None (Some b) c xs ys p q = absurd p
gains_more (Some a) None c xs ys p q = absurd p
gains_more (Some a) (Some b) None xs ys p q = absurd q
gains_more (Some a) (Some b) (Some c) xs ys p q = q ∙ ap (λ ls. ls ++ ys) p ∙ append_assoc a xs ys

gains_none : (a : Option (List (List Lit))) → Gains a a []
gains_none None = tt
gains_none (Some a) = sym (append-nil a)

same_some : {X : Type 0} (a b : X) (o : Option X) → o ≡ Some a → o ≡ Some b → a ≡ b
same_some a b o p q =
    let both : Some a ≡ Some b = sym p ∙ q in
    cc

hears_none : (choosers place : ℕ) (steps : List Step) (was is : Option (List (List Lit))) → is ≡ was → HearsOf choosers place steps steps was is
hears_none choosers place steps was is same = record {
  added = [];
  grows = sym (append-nil (epoch choosers place steps));
  told = subst (λ o. Gains was o []) (sym same) (gains_none was);
}

-- at first no step was added
pub tells_none : (steps : List Step) (old : List (Option (List (List Lit)))) → TellsSteps steps steps old old
tells_none steps old = record {
  count = refl;
  each = λ place was is p q. hears_none (length old) place steps was is (same_some is was (slice_get old place) q p);
}

hears_more : (choosers place : ℕ) (a b c : List Step) (x y z : Option (List (List Lit))) → HearsOf choosers place a b x y → HearsOf choosers place b c y z → HearsOf choosers place a c x z
hears_more choosers place a b c x y z was is = record {
  added = was.added ++ is.added;
  grows = is.grows ∙ ap (λ steps. steps ++ is.added) was.grows ∙ append_assoc (epoch choosers place a) was.added is.added;
  told = subst (Gains x z) (sym (map-append clause_of was.added is.added)) (gains_more x y z (map clause_of was.added) (map clause_of is.added) was.told is.told);
}

-- some steps, and then others
pub tells_more : (a b c : List Step) (old mid new : List (Option (List (List Lit)))) → TellsSteps a b old mid → TellsSteps b c mid new → TellsSteps a c old new
tells_more a b c old mid new was is = record {
  count = is.count ∙ was.count;
  each = λ place x z p q.
      let inside : place < length old = slice_get_within old place x p in
      let among : place < length mid = omega (arith, inside, was.count) in
      let y = get_or mid place x in
      let at : slice_get mid place ≡ Some y = slice_get-get_or mid place x among in
      hears_more (length old) place a b c x y z (was.each place x y p at) (subst (λ n. HearsOf n place b c y z) was.count (is.each place y z at q));
}

-- the epoch of the chooser that serves has one step more
epoch_grows : (choosers place : ℕ) (steps : List Step) (step : Step) → IsServing choosers (length steps) place
    → epoch choosers place (steps ++ step ∷ []) ≡ epoch choosers place steps ++ step ∷ []
epoch_grows choosers place steps step serves =
    by_last (nat_lt (place + 1) choosers) refl
    (drop-append-le (EPOCH_STEPS * place) steps (step ∷ []) serves.begun)
    (length-drop (EPOCH_STEPS * place) steps)
    (length-append (drop (EPOCH_STEPS * place) steps) (step ∷ []))
  where
    rest : List Step
    rest = drop (EPOCH_STEPS * place) steps

    more : List Step
    more = drop (EPOCH_STEPS * place) (steps ++ step ∷ [])

    by_last : (b : Bool) → nat_lt (place + 1) choosers ≡ b → more ≡ rest ++ step ∷ [] → length rest ≡ length steps - EPOCH_STEPS * place
        → length (rest ++ step ∷ []) ≡ length rest + 1 → (if b then take EPOCH_STEPS more else more) ≡ (if b then take EPOCH_STEPS rest else rest) ++ step ∷ []
    by_last true before same size added =
        let others : place + 1 < choosers = ltb-true (place + 1) choosers before in
        let small : length rest + 1 ≤ EPOCH_STEPS = elim serves.goes_on [
          | inl within ↦ omega (arith, within, size, serves.begun)
          | inr last ↦ omega (arith, others, last)
        ] in
        ap (take EPOCH_STEPS) same ∙ take_all EPOCH_STEPS (rest ++ step ∷ []) (omega (arith, small, added))
        ∙ ap (λ all. all ++ step ∷ []) (sym (take_all EPOCH_STEPS rest (omega (arith, small))))
    by_last false before same size added = same

-- the epochs of the others stay
epoch_stays : (choosers place : ℕ) (steps : List Step) (step : Step) → place < choosers → (IsServing choosers (length steps) place → ⊥)
    → epoch choosers place (steps ++ step ∷ []) ≡ epoch choosers place steps
epoch_stays choosers place steps step inside waits = by_begun (cases_lt (length steps) (EPOCH_STEPS * place))
  where
    rest : List Step
    rest = drop (EPOCH_STEPS * place) steps

    more : List Step
    more = drop (EPOCH_STEPS * place) (steps ++ step ∷ [])

    by_last : (b : Bool) → nat_lt (place + 1) choosers ≡ b → EPOCH_STEPS * place ≤ length steps → more ≡ rest ++ step ∷ [] → length rest ≡ length steps - EPOCH_STEPS * place
        → (if b then take EPOCH_STEPS more else more) ≡ (if b then take EPOCH_STEPS rest else rest)
    by_last true before begun same size =
        let full : EPOCH_STEPS * (place + 1) ≤ length steps = elim (cases_lt (length steps) (EPOCH_STEPS * (place + 1))) [
          | inr full ↦ full
          | inl within ↦ absurd (waits (record { inside = inside; begun = begun; goes_on = inl within }))
        ] in
        ap (take EPOCH_STEPS) same ∙ take-append-le EPOCH_STEPS rest (step ∷ []) (omega (arith, full, size))
    by_last false before begun same size =
        let end : choosers ≤ place + 1 = ltb-false (place + 1) choosers before in
        absurd (waits (record { inside = inside; begun = begun; goes_on = inr (omega (arith, end, inside)) }))

    by_begun : (length steps < EPOCH_STEPS * place) ⊎ (EPOCH_STEPS * place ≤ length steps) → epoch choosers place (steps ++ step ∷ []) ≡ epoch choosers place steps
    by_begun (inr begun) =
        by_last (nat_lt (place + 1) choosers) refl begun (drop-append-le (EPOCH_STEPS * place) steps (step ∷ []) begun) (length-drop (EPOCH_STEPS * place) steps)
    by_begun (inl later) =
        let size : length (steps ++ step ∷ []) ≡ length steps + 1 = length-append steps (step ∷ []) in
        let none : more ≡ [] = drop_all (EPOCH_STEPS * place) (steps ++ step ∷ []) (omega (arith, later, size)) in
        let none_before : rest ≡ [] = drop_all (EPOCH_STEPS * place) steps (omega (arith, later)) in
        ap (λ all. if nat_lt (place + 1) choosers then take EPOCH_STEPS all else all) (none ∙ sym none_before)

-- one step more
pub tells_step : (steps : List Step) (step : Step) (old new : List (Option (List (List Lit)))) → TellsOne (length steps) old (clause_of step) new → TellsSteps steps (steps ++ step ∷ []) old new
tells_step steps step old new tells = record {
  count = tells.count;
  each = λ place was is p q. elim (tells.each place was is p q) [
    | inl told ↦ record { added = step ∷ []; grows = epoch_grows (length old) place steps step told.0; told = told.1 }
    | inr waits ↦ record {
      added = [];
      grows = epoch_stays (length old) place steps step (slice_get_within old place was p) waits.0 ∙ sym (append-nil (epoch (length old) place steps));
      told = subst (λ o. Gains was o []) (sym waits.1) (gains_none was);
    }
  ];
}

-- two places can't both serve
one_serves : (choosers steps one other : ℕ) → IsServing choosers steps one → IsServing choosers steps other → one ≡ other
one_serves choosers steps one other a b = elim a.goes_on [
  | inl within ↦ elim b.goes_on [
    | inl also ↦ omega (arith, a.begun, b.begun, within, also)
    | inr last ↦ omega (arith, a.begun, b.begun, a.inside, b.inside, within, last)
  ]
  | inr last ↦ elim b.goes_on [
    | inl also ↦ omega (arith, a.begun, b.begun, a.inside, b.inside, last, also)
    | inr both ↦ omega (arith, last, both)
  ]
]

-- the chooser at the place that serves is told
pub one_told : {X : Type 0} (f : X → Option (List (List Lit))) (old : List X) (place steps : ℕ) (clause : List Lit) (new d : X) → IsServing (length old) steps place
    → Gains (f (get_or old place d)) (f new) (clause ∷ []) → TellsOne steps (map f old) clause (map f (set old place new))
one_told f old place steps clause new d serves gains = record {
  count = length-map (set old place new) f ∙ length-set old place new ∙ sym size;
  each = λ at was is p q.
      let before : f (get_or old at d) ≡ was = sym (get_or-map f old at d) ∙ get_or_from_slice_get (map f old) at was (f d) p in
      let after : f (get_or (set old place new) at d) ≡ is = sym (get_or-map f (set old place new) at d) ∙ get_or_from_slice_get (map f (set old place new)) at is (f d) q in
      elim (cases_lt at place) [
        | inl below ↦ inr (waits at (omega (arith, below)), sym after ∙ ap f (get_or-set_other old place at new d (apart at (inl below))) ∙ before)
        | inr above ↦ elim (cases_lt place at) [
          | inl beyond ↦ inr (waits at (omega (arith, beyond)), sym after ∙ ap f (get_or-set_other old place at new d (apart at (inr beyond))) ∙ before)
          | inr low ↦ here at was is (omega (arith, above, low)) before after
        ]
      ];
}
  where
    size : length (map f old) ≡ length old
    size = length-map old f

    apart : (at : ℕ) → (at < place) ⊎ (place < at) → at ≢ place
    apart at (inl below) same = absurd (omega (arith, below, same))
    apart at (inr beyond) same = absurd (omega (arith, beyond, same))

    waits : (at : ℕ) → (at ≡ place → ⊥) → IsServing (length (map f old)) steps at → ⊥
    waits at other also = other (one_serves (length old) steps at place (subst (λ n. IsServing n steps at) size also) serves)

    here : (at : ℕ) (was is : Option (List (List Lit))) → at ≡ place → f (get_or old at d) ≡ was → f (get_or (set old place new) at d) ≡ is
        → (IsServing (length (map f old)) steps at × Gains was is (clause ∷ [])) ⊎ ((IsServing (length (map f old)) steps at → ⊥) × (is ≡ was))
    here at was is same before after =
        let told : f (get_or (set old place new) place d) ≡ f new = ap f (get_or-set_same old place new d serves.inside) in
        let moved : f (get_or (set old place new) at d) ≡ f new = ap (λ n. f (get_or (set old place new) n d)) same ∙ told in
        inl (
          subst (λ n. IsServing n steps at) (sym size) (subst (IsServing (length old) steps) (sym same) serves),
          subst (λ o. Gains was o (clause ∷ [])) (sym moved ∙ after) (subst (λ o. Gains o (f new) (clause ∷ [])) (ap (λ n. f (get_or old n d)) (sym same) ∙ before) gains),
        )

-- choosers some of which were asked tell what they told
pub same_part : {X Y : Type 0} (f : X → Y) (a k : ℕ) (xs ys : List X) → map f ys ≡ map f (mid_of a k xs) → map f (put_mid a k xs ys) ≡ map f xs
same_part f a k xs ys same =
    map-append f (take a xs) (ys ++ post_of a k xs)
    ∙ ap (λ rest. map f (take a xs) ++ rest) (map-append f ys (post_of a k xs) ∙ ap (λ part. part ++ map f (post_of a k xs)) same ∙ sym (map-append f (mid_of a k xs) (post_of a k xs)))
    ∙ sym (map-append f (take a xs) (mid_of a k xs ++ post_of a k xs)) ∙ ap (map f) (put_same a k xs)
