-- Tracing a conflict back.
use Rattle.std.proofs.Common.{◌≡◌, ◌≢◌, ℕ, ◌≤◌, ◌<◌, ◌+◌, ◌⊎◌, inl, inr, arith, List, [], ◌∷◌, ◌++◌, length, map, reverse, get_or, sym, subst, refl, ap, ◌∙◌, None, length-append}
use Rattle.std.specs.Prelude.{Contains, take}
use Rattle.std.specs.List.{All}
use Rattle.std.proofs.lemmas.List.{get_or_default, get_or-take, get_or_append_left, get_or_push, length-take, reverse-append}
use Rattle.std.proofs.lemmas.List.Elements.{All-contains, All-nil, All-push, Contains-append_left, Contains-push, Contains-push_cases}
use Rattle.bt_cnf.specs.declared.literal.Lit.{Lit}
use Rattle.bt_cnf.specs.Truths.{IsFalseIn}
use Rattle.bt_cnf.specs.Units.{opposite, IsUnit, clause_at}
use Rattle.bt_log.specs.Units.{UnitsRefute}
use Rattle.bt_watch.specs.declared.search.Search.{Search}
use Rattle.bt_watch.specs.Watched.{no_lit}
use Rattle.bt_watch.specs.Levels.{start_of, IsOrdered}
use Rattle.bt_watch.specs.Reasons.{lit_at, IsReason}
use Rattle.bt_sat.specs.declared.analysis.ConflictLevel.{ConflictLevel}
use Rattle.bt_watch.specs.Agendas.{IsGreatest}
use Rattle.bt_sat.specs.inner.Analysing.{false_at, falses_at, IsSeen, MarksSeen, IsUnderway, IsDerived, IsLevelled, IsGrounded, IsTracing, IsTaken, IsTraced, MayTrace, IsLearnable}
use Rattle.bt_cnf.proofs.Lists.{contains_here, contains_there, first_or, none_in, nat_or, lt_or_eq, all_of, lt_or}
use Rattle.bt_watch.proofs.Backjumped.{apart_places}
use Rattle.bt_watch.proofs.Ending.{twice_opposite}
use Rattle.bt_watch.proofs.Keeping.{not_both}
use Rattle.bt_watch.proofs.Reasoning.{lit_in}

pub nil_or : {X : Type 0} (xs : List X) → (xs ≡ []) ⊎ (0 < length xs)
nil_or [] = inl refl
nil_or (x ∷ xs) = inr (omega arith)

no_length : {X : Type 0} (xs : List X) → 0 < length xs → xs ≡ [] → ⊥
no_length [] some e = omega (arith, some)
no_length (x ∷ xs) some e = cc

-- the last of a list comes first where it is reversed
reverse_push : {X : Type 0} (xs : List X) (x : X) → reverse (xs ++ x ∷ []) ≡ x ∷ reverse xs
reverse_push xs x = reverse-append xs (x ∷ [])

-- one more clause that is a unit
units_more : (falses clause : List Lit) (l : Lit) (clauses : List (List Lit)) → IsUnit falses clause l → UnitsRefute (opposite l ∷ falses) clauses → UnitsRefute falses (clause ∷ clauses)
units_more falses clause l [] unit rest = absurd rest
units_more falses clause l (next ∷ more) unit rest = (l, unit, rest)

-- where an item of a list lies
pub in_map : {X Y : Type 0} (f : X → Y) (xs : List X) (y : Y) → Contains (map f xs) y → (x : X) × Contains xs x × (f x ≡ y)
in_map f [] y among = absurd (none_in y among)
in_map f (x ∷ xs) y among =
    elim (first_or (f x) y (map f xs) among) [
      | inl same ↦ (x, contains_here x x xs refl, same)
      | inr rest ↦
          let found = in_map f xs y rest in
          (found.0, contains_there x found.0 xs found.1, found.2)
    ]

pub map_in : {X Y : Type 0} (f : X → Y) (xs : List X) (x : X) → Contains xs x → Contains (map f xs) (f x)
map_in f [] x among = absurd (none_in x among)
map_in f (y ∷ xs) x among =
    elim (first_or y x xs among) [
      | inl same ↦ contains_here (f y) (f x) (map f xs) (ap f same)
      | inr rest ↦ contains_there (f y) (f x) (map f xs) (map_in f xs x rest)
    ]

-- a literal that is true before a place stands before it
pub before_place : (trail : List Lit) (place : ℕ) (m : Lit) → Contains (take place trail) m → (q : ℕ) × (q < place) × (q < length trail) × (lit_at trail q ≡ m)
before_place trail place m (q, small, is) =
    let size = length-take place trail in
    let early : q < place = omega (arith, small, size) in
    let inside : q < length trail = omega (arith, small, size) in
    (q, early, inside, get_or_default trail q no_lit m inside ∙ sym (get_or-take place trail q m early) ∙ is)

module _ (all : List (List Lit)) (s : Search) (ordered : IsOrdered all s) where
  -- two false literals of the trail are the same at one place alone
  false_once : (j k : ℕ) → j < length s.assignment.trail.items → k < length s.assignment.trail.items → false_at s.assignment.trail.items j ≡ false_at s.assignment.trail.items k → j ≡ k
  false_once j k small_j small_k same = apart_places s.assignment ordered.reasoned.placed j k small_j small_k (ap (λ (m : Lit). m.var) same)

  -- the place of a literal that is false
  false_place : (m : Lit) (q : ℕ) → q < length s.assignment.trail.items → lit_at s.assignment.trail.items q ≡ opposite m → get_or s.assignment.places.items m.var 0 ≡ q
  false_place m q small is = ap (λ (x : Lit). get_or s.assignment.places.items x.var 0) (sym is) ∙ ordered.reasoned.placed q small

  pub var_below : (q : ℕ) → q < length s.assignment.trail.items → (lit_at s.assignment.trail.items q).var < length s.assignment.places.items
  var_below q small = subst (λ n. (lit_at s.assignment.trail.items q).var < n) (sym ordered.reasoned.room) (ordered.whole.truths.below q no_lit small)

  false_is : (m : Lit) (q : ℕ) → lit_at s.assignment.trail.items q ≡ opposite m → false_at s.assignment.trail.items q ≡ m
  false_is m q is = ap opposite is ∙ twice_opposite m

  -- its place is seen
  is_seen : (clause : List Lit) (m : Lit) (q but : ℕ) → Contains clause m → q < length s.assignment.trail.items → lit_at s.assignment.trail.items q ≡ opposite m → q ≢ but
      → IsSeen s.assignment.places.items clause but (length clause) q
  is_seen clause m q but (i, small, at) inside is differs =
      (i, small, ap (λ (x : Lit). get_or s.assignment.places.items x.var 0) (get_or_default clause i no_lit m small ∙ at) ∙ false_place m q inside is, differs)

  -- the literals of a reason are of variables
  pub reason_below : (place n : ℕ) → place < length s.assignment.trail.items → IsReason all (take place s.assignment.trail.items) (lit_at s.assignment.trail.items place) n
      → All (λ (l : Lit). l.var < length s.assignment.places.items) (clause_at all n)
  reason_below place n inside reason = all_of (λ (l : Lit). l.var < length s.assignment.places.items) (clause_at all n) (λ m among.
      elim (All-contains (λ x. (x ≡ lit_at s.assignment.trail.items place) ⊎ Contains (take place s.assignment.trail.items) (opposite x)) (clause_at all n) m reason.others among) [
        | inl same ↦ subst (λ (x : Lit). x.var < length s.assignment.places.items) (sym same) (var_below place inside)
        | inr before ↦
            let (q, early, small, is) = before_place s.assignment.trail.items place (opposite m) before in
            subst (λ (x : Lit). x.var < length s.assignment.places.items) is (var_below q small)
      ])

  -- levels ascend
  pub ascends : (i j : ℕ) → i ≤ j → j < length s.starts.items → start_of s i ≤ start_of s j
  ascends i j order small = elim (lt_or_eq i j (omega (arith, order))) [
    | inl less ↦ omega (arith, ordered.levels.ascend i j less small)
    | inr same ↦ subst (λ k. start_of s i ≤ start_of s k) same (omega arith)
  ]

  root_below : (conflict_level : ConflictLevel) (level : ℕ) → level < length s.starts.items → conflict_level.root ≡ start_of s 0 → conflict_level.current ≡ start_of s level → conflict_level.root ≤ conflict_level.current
  root_below conflict_level level small root current =
      let order = ascends 0 level (omega arith) small in
      omega (arith, order, root, current)

  module _ (conflict_level : ConflictLevel) (place : ℕ) (agenda picked hints : List ℕ) (taken : IsTaken all s conflict_level place agenda picked hints) where
    below_place : (k : ℕ) → Contains agenda k → k < place
    below_place k among =
        let was = (taken.takes.1 k).0 among in
        let bound = taken.takes.0.1 k was.0 in
        omega (arith, bound, was.1)

    -- what was on the agenda is the place, or is there still
    place_or : (k : ℕ) → Contains taken.before k → (k ≡ place) ⊎ Contains agenda k
    place_or k among = elim (nat_or k place) [ inl same ↦ inl same | inr differs ↦ inr ((taken.takes.1 k).1 (among, differs)) ]

    pub place_inside : place < length s.assignment.trail.items
    place_inside = omega (arith, taken.tracing.derived.before place taken.takes.0.0, taken.tracing.derived.bounded)

    module _ (n : ℕ) (now : List ℕ) (reason : IsReason all (take place s.assignment.trail.items) (lit_at s.assignment.trail.items place) n)
        (marks : MarksSeen s.assignment.places.items (clause_at all n) place agenda now) where
      -- another literal of the clause is false at an earlier place
      other_place : (m : Lit) → Contains (clause_at all n) m
          → (m ≡ lit_at s.assignment.trail.items place) ⊎ ((q : ℕ) × (q < place) × (q < length s.assignment.trail.items) × (lit_at s.assignment.trail.items q ≡ opposite m))
      other_place m among =
          elim (All-contains (λ x. (x ≡ lit_at s.assignment.trail.items place) ⊎ Contains (take place s.assignment.trail.items) (opposite x)) (clause_at all n) m reason.others among) [
            | inl same ↦ inl same
            | inr before ↦ inr (before_place s.assignment.trail.items place (opposite m) before)
          ]

      now_before : (k : ℕ) → Contains now k → k < place
      now_before k among = elim ((marks k).0 among) [
        | inl old ↦ below_place k old
        | inr (i, small, is, differs) ↦
            let m = lit_at (clause_at all n) i in
            let there : Contains (clause_at all n) m = (i, small, get_or_default (clause_at all n) i m no_lit small) in
            elim (other_place m there) [
              | inl same ↦ absurd (differs (sym is ∙ ap (λ (x : Lit). get_or s.assignment.places.items x.var 0) same ∙ ordered.reasoned.placed place place_inside))
              | inr (q, before, small_q, at) ↦ subst (λ j. j < place) (sym (false_place m q small_q at) ∙ is) before
            ]
      ]

      units : (falses : List Lit) → IsUnderway s.assignment.trail.items now picked place falses → UnitsRefute falses (map (clause_at all) (reverse (hints ++ n ∷ [])))
      units falses way =
          let truths = ordered.whole.truths in
          let T = s.assignment.trail.items in
          let here : Contains T (lit_at T place) = lit_in T place place_inside in
          let unset : Contains falses (lit_at T place) → ⊥ = λ among.
          not_both s.assignment.values (lit_at T place) (truths.true_in (lit_at T place) here) (truths.true_in (opposite (lit_at T place)) (way.among (lit_at T place) among)) in
          let not_true : Contains falses (opposite (lit_at T place)) → ⊥ = λ among.
          let again : taken.bound ≤ place = (taken.tracing.derived.after place (way.beyond place (omega arith) place_inside among)).0 in
          absurd (omega (arith, again, taken.tracing.derived.before place taken.takes.0.0)) in
          let P : Lit → Type 0 = λ m. (m ≡ lit_at T place) ⊎ Contains falses m in
          let unit : IsUnit falses (clause_at all n) (lit_at T place) = record {
            among = reason.among;
            unset = unset;
            not_true = not_true;
            others = all_of P (clause_at all n) (λ m among. elim (other_place m among) [
              | inl same ↦ inl same
              | inr (q, before, small_q, at) ↦
                  let differs : q ≢ place = λ e. absurd (omega (arith, before, e)) in
                  let waits : Contains now q = (marks q).1 (inr (is_seen (clause_at all n) m q place among small_q at differs)) in
                  inr (subst (Contains falses) (false_is m q at) (way.waits q waits))
            ]);
          } in
          let more : List Lit = opposite (lit_at T place) ∷ falses in
          let later : IsUnderway T taken.before picked taken.bound more = record {
            among = λ m among. elim (first_or (opposite (lit_at T place)) m falses among) [
              | inl same ↦ subst (Contains T) (sym (twice_opposite (lit_at T place)) ∙ ap opposite same) here
              | inr rest ↦ way.among m rest
            ];
            waits = λ k among. elim (place_or k among) [
              | inl same ↦ contains_here (opposite (lit_at T place)) (false_at T k) falses (ap (false_at T) (sym same))
              | inr rest ↦ contains_there (opposite (lit_at T place)) (false_at T k) falses (way.waits k ((marks k).1 (inl rest)))
            ];
            picks = λ k among. contains_there (opposite (lit_at T place)) (false_at T k) falses (way.picks k among);
            beyond = λ k after small among. elim (first_or (opposite (lit_at T place)) (false_at T k) falses among) [
              | inl same ↦
                  let e : place ≡ k = false_once place k place_inside small same in
                  absurd (omega (arith, e, after, taken.tracing.derived.before place taken.takes.0.0))
              | inr rest ↦ way.beyond k (omega (arith, after, taken.tracing.derived.before place taken.takes.0.0)) small rest
            ];
          } in
          subst (λ ns. UnitsRefute falses (map (clause_at all) ns)) (sym (reverse_push hints n))
          (units_more falses (clause_at all n) (lit_at T place) (map (clause_at all) (reverse hints)) unit (taken.tracing.derived.refutes more later))

      pub resolved : IsDerived all s.assignment.trail.items now picked place (hints ++ n ∷ [])
      resolved = record {
        refutes = units;
        numbers = All-push (λ k. k < length all) hints n taken.tracing.derived.numbers reason.below;
        before = now_before;
        bounded = omega (arith, place_inside);
        after = λ k among.
            let was = taken.tracing.derived.after k among in
            (omega (arith, was.0, taken.tracing.derived.before place taken.takes.0.0), was.1);
        descend = taken.tracing.derived.descend;
      }

      pub resolved_cuts : MayTrace conflict_level agenda place → IsGrounded s now picked ⊎ IsLevelled s conflict_level now picked
      resolved_cuts traced = elim taken.tracing.cuts [
        | inl ground ↦ inl (record {
          none = ground.none;
          under = λ k among. omega (arith, now_before k among, ground.under place taken.takes.0.0);
        })
        | inr is ↦ inr (record {
          level = is.level;
          within = is.within;
          current = is.current;
          under = λ k among. omega (arith, now_before k among, is.under place taken.takes.0.0);
          none = λ e.
              let (k, among, high) = is.none e in
              let top = taken.takes.0.1 k among in
              elim traced [
                | inl has ↦ elim has [
                  | inl low ↦
                      let order = root_below conflict_level is.level is.within taken.tracing.root is.current in
                      absurd (omega (arith, low, high, top, order))
                  | inr (above, (i, waits, reached)) ↦ (i, (marks i).1 (inl waits), reached)
                ]
                | inr low ↦ absurd (omega (arith, low, high, top))
              ];
          first = is.first;
          rest = is.rest;
          left = λ some k among. omega (arith, now_before k among, is.left some place taken.takes.0.0);
        })
      ]

    -- the place is picked
    pub picked_up : IsDerived all s.assignment.trail.items agenda (picked ++ place ∷ []) place hints
    picked_up =
        let old = taken.tracing.derived in
        let before : place < taken.bound = old.before place taken.takes.0.0 in
        let size : length (picked ++ place ∷ []) ≡ length picked + 1 = length-append picked (place ∷ []) in
        record {
          refutes = λ falses way. old.refutes falses (record {
            among = way.among;
            waits = λ k among. elim (place_or k among) [
              | inl same ↦ subst (λ j. Contains falses (false_at s.assignment.trail.items j)) (sym same) (way.picks place (Contains-push picked place))
              | inr rest ↦ way.waits k rest
            ];
            picks = λ k among. way.picks k (Contains-append_left picked (place ∷ []) k among);
            beyond = λ k after small among. elim (Contains-push_cases picked place k (way.beyond k (omega (arith, after, before)) small among)) [
              | inl there ↦ there
              | inr same ↦ absurd (omega (arith, same, after, before))
            ];
          });
          numbers = old.numbers;
          before = below_place;
          bounded = omega (arith, place_inside);
          after = λ k among. elim (Contains-push_cases picked place k among) [
            | inl there ↦
                let was = old.after k there in
                (omega (arith, was.0, before), was.1)
            | inr same ↦ (omega (arith, same), subst (λ j. j < length s.assignment.trail.items) same place_inside)
          ];
          descend = λ i j order small. elim (lt_or_eq j (length picked) (omega (arith, small, size))) [
            | inl earlier ↦
                let lower = old.descend i j order earlier in
                let at_i = get_or_append_left picked (place ∷ []) 0 i (omega (arith, order, earlier)) in
                let at_j = get_or_append_left picked (place ∷ []) 0 j earlier in
                omega (arith, lower, at_i, at_j)
            | inr last ↦
                let small_i : i < length picked = omega (arith, order, last) in
                let at_i = get_or_append_left picked (place ∷ []) 0 i small_i in
                let at_j = get_or_push picked place 0 j (sym last) in
                let high = (old.after (get_or picked i 0) (i, small_i, get_or_default picked i (get_or picked i 0) 0 small_i)).0 in
                omega (arith, at_i, at_j, high, before)
          ];
        }

    pub picked_cuts : (IsTraced conflict_level agenda place → ⊥) → IsGrounded s agenda (picked ++ place ∷ []) ⊎ IsLevelled s conflict_level agenda (picked ++ place ∷ [])
    picked_cuts not_traced =
        let size : length (picked ++ place ∷ []) ≡ length picked + 1 = length-append picked (place ∷ []) in
        elim taken.tracing.cuts [
          | inl ground ↦
              let low = ground.under place taken.takes.0.0 in
              absurd (not_traced (inl (omega (arith, low, taken.tracing.root))))
          | inr is ↦
              let order = root_below conflict_level is.level is.within taken.tracing.root is.current in
              let high_if : picked ≡ [] → conflict_level.current ≤ place = λ e.
              let reached = is.none e in
              let top = taken.takes.0.1 reached.0 reached.1 in
              omega (arith, reached.2, top) in
              inr (record {
                level = is.level;
                within = is.within;
                current = is.current;
                under = λ k among. is.under k ((taken.takes.1 k).0 among).0;
                none = λ e. absurd (no_length (picked ++ place ∷ []) (omega (arith, size)) e);
                first = λ some. elim (nil_or picked) [
                  | inl none ↦
                      let at = get_or_push picked place 0 0 (ap length none) in
                      omega (arith, at, high_if none)
                  | inr more ↦
                      let at = get_or_append_left picked (place ∷ []) 0 0 more in
                      omega (arith, at, is.first more)
                ];
                rest = λ i after small. elim (lt_or_eq i (length picked) (omega (arith, small, size))) [
                  | inl earlier ↦
                      let at = get_or_append_left picked (place ∷ []) 0 i earlier in
                      omega (arith, at, is.rest i after earlier)
                  | inr last ↦
                      let at = get_or_push picked place 0 i (sym last) in
                      let left = is.left (omega (arith, after, last)) place taken.takes.0.0 in
                      omega (arith, at, left)
                ];
                left = λ some k among. elim (nil_or picked) [
                  | inl none ↦ elim (lt_or k conflict_level.current) [
                    | inl less ↦ less
                    | inr reached ↦ absurd (not_traced (inr (high_if none, (k, among, reached))))
                  ]
                  | inr more ↦ is.left more k ((taken.takes.1 k).0 among).0
                ];
              })
        ]

    -- what is traced back wasn't chosen
    pub not_chosen : IsTraced conflict_level agenda place → get_or s.assignment.reasons.items place None ≡ None → ⊥
    not_chosen traced none =
        let (j, small, is) = ordered.reasoned.chosen place place_inside none in
        let at : start_of s j ≡ place = get_or_default s.starts.items j (length s.assignment.trail.items) place small ∙ is in
        let first = ascends 0 j (omega arith) small in
        elim traced [
          | inl low ↦ omega (arith, low, at, first, taken.tracing.root)
          | inr (high, (k, among, reached)) ↦
              let before = below_place k among in
              elim taken.tracing.cuts [
                | inl ground ↦ omega (arith, ground.under place taken.takes.0.0, at, first)
                | inr level ↦ elim (lt_or level.level j) [
                  | inl later ↦
                      let order = ascends (level.level + 1) j (omega (arith, later)) small in
                      omega (arith, order, at, level.under place taken.takes.0.0)
                  | inr earlier ↦
                      let order = ascends j level.level earlier level.within in
                      omega (arith, order, at, level.current, reached, before)
                ]
              ]
        ]

  -- the literals of a clause that is false stand on the trail
  module _ (conflict : ℕ) (falses : All (IsFalseIn s.assignment.values) (clause_at all conflict)) where
    conflict_place : (m : Lit) → Contains (clause_at all conflict) m → (q : ℕ) × (q < length s.assignment.trail.items) × (lit_at s.assignment.trail.items q ≡ opposite m)
    conflict_place m among =
        let (q, small, is) = ordered.whole.truths.in_trail (opposite m) (All-contains (IsFalseIn s.assignment.values) (clause_at all conflict) m falses among) in
        (q, small, get_or_default s.assignment.trail.items q no_lit (opposite m) small ∙ is)

    pub false_below : All (λ (l : Lit). l.var < length s.assignment.places.items) (clause_at all conflict)
    false_below = all_of (λ (l : Lit). l.var < length s.assignment.places.items) (clause_at all conflict) (λ m among.
        let (q, small, is) = conflict_place m among in
        subst (λ (x : Lit). x.var < length s.assignment.places.items) is (var_below q small))

  -- the conflict is the first clause of all
  module _ (conflict : ℕ) (agenda : List ℕ) (below : conflict < length all) (falses : All (IsFalseIn s.assignment.values) (clause_at all conflict))
      (marks : MarksSeen s.assignment.places.items (clause_at all conflict) (length s.assignment.trail.items) [] agenda) where
    pub conflict_inside : (k : ℕ) → Contains agenda k → k < length s.assignment.trail.items
    conflict_inside k among = elim ((marks k).0 among) [
      | inl never ↦ absurd (none_in k never)
      | inr (i, small, is, differs) ↦
          let m = lit_at (clause_at all conflict) i in
          let (q, inside, at) = conflict_place conflict falses m (i, small, get_or_default (clause_at all conflict) i m no_lit small) in
          subst (λ j. j < length s.assignment.trail.items) (sym (false_place m q inside at) ∙ is) inside
    ]

    pub begun : IsDerived all s.assignment.trail.items agenda [] (length s.assignment.trail.items) (conflict ∷ [])
    begun = record {
      refutes = λ lits way. all_of (Contains lits) (clause_at all conflict) (λ m among.
          let (q, inside, at) = conflict_place conflict falses m among in
          let waits : Contains agenda q = (marks q).1 (inr (is_seen (clause_at all conflict) m q (length s.assignment.trail.items) among inside at (λ e. absurd (omega (arith, e, inside))))) in
          subst (Contains lits) (false_is m q at) (way.waits q waits));
      numbers = All-push (λ n. n < length all) [] conflict (All-nil (λ n. n < length all)) below;
      before = conflict_inside;
      bounded = omega arith;
      after = λ k among. absurd (none_in k among);
      descend = λ i j order small. absurd (omega (arith, small));
    }

  -- where the agenda is empty, all is learnt
  pub learnt : (conflict_level : ConflictLevel) (agenda picked hints back : List ℕ) (bound : ℕ) → IsTracing all s conflict_level agenda picked bound hints → IsGreatest agenda None → back ≡ reverse hints → IsLearnable all s picked back
  learnt conflict_level agenda picked hints back bound tracing empty is =
      let T = s.assignment.trail.items in
      let d = tracing.derived in
      let way : IsUnderway T agenda picked bound (falses_at T picked) = record {
        among = λ m among.
            let (k, there, at) = in_map (false_at T) picked m among in
            subst (Contains T) (sym (twice_opposite (lit_at T k)) ∙ ap opposite at) (lit_in T k (d.after k there).1);
        waits = λ k among. absurd (empty k among);
        picks = λ k among. map_in (false_at T) picked k among;
        beyond = λ k after small among.
            let (j, there, at) = in_map (false_at T) picked (false_at T k) among in
            subst (Contains picked) (false_once j k (d.after j there).1 small at) there;
      } in
      let units : UnitsRefute (falses_at T picked) (map (clause_at all) back) = subst (λ ns. UnitsRefute (falses_at T picked) (map (clause_at all) ns)) (sym is) (d.refutes (falses_at T picked) way) in
      let numbers : All (λ n. n < length all) back =
      all_of (λ n. n < length all) back (λ n among. All-contains (λ m. m < length all) hints n d.numbers (reversed hints n (subst (λ ns. Contains ns n) is among))) in
      elim tracing.cuts [
        | inl ground ↦ record {
          units = units;
          numbers = numbers;
          within = λ k among. (d.after k among).1;
          descend = d.descend;
          level = 0;
          known = λ some. absurd (no_length picked some ground.none);
          first = λ some. absurd (no_length picked some ground.none);
          rest = λ i after small. absurd (no_length picked (omega (arith, small)) ground.none);
        }
        | inr cuts ↦ record {
          units = units;
          numbers = numbers;
          within = λ k among. (d.after k among).1;
          descend = d.descend;
          level = cuts.level;
          known = λ some. cuts.within;
          first = λ some. omega (arith, cuts.first some, cuts.current);
          rest = λ i after small. omega (arith, cuts.rest i after small, cuts.current);
        }
      ]
    where
      reversed : {X : Type 0} (xs : List X) (x : X) → Contains (reverse xs) x → Contains xs x
      reversed [] x among = absurd (none_in x among)
      reversed {X} (y ∷ xs) x among = elim (Contains-push_cases (reverse xs) y x (subst (λ (ys : List X). Contains ys x) (reverse-append (y ∷ []) xs) among)) [
        | inl before ↦ contains_there y x xs (reversed xs x before)
        | inr same ↦ contains_here y x xs same
      ]
