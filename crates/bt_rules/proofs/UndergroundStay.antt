-- Layouts keep the rules of underground pairs.
use Rattle.std.proofs.Common.{◌≡◌, ◌⊎◌, inl, inr, ℕ, zero, suc, ◌<◌, ◌≤◌, ◌+◌, ◌-◌, cond, List, [], ◌∷◌, ◌++◌, map, refl, sym, ◌∙◌, ap, subst, ⊎_elim, arith}
use Rattle.std.specs.List.{flat_map, range_with_len}
use Rattle.bt_parts.specs.declared.part.Cell.{Cell}
use Rattle.bt_parts.specs.declared.part.Dir.{Dir}
use Rattle.bt_parts.specs.declared.part.Part.{Part}
use Rattle.std.proofs.lemmas.Bool.{cases_lt}
use Rattle.std.proofs.lemmas.Option.{slice_get_within, get_or_from_slice_get}
use Rattle.bt_parts.specs.Cells.{Covers, step, steps, opposite, IsInside}
use Rattle.bt_parts.specs.Tiers.{reach_of}
use Rattle.bt_parts.specs.Layouts.{HasPart, IsAt, Pairs}
use Rattle.bt_parts.proofs.Places.{same_part, one_there, covers_at}
use Rattle.bt_parts.proofs.Steps.{steps_none}
use Rattle.bt_model.specs.Chains.{IsLink}
use Rattle.bt_model.specs.Laying.{Lays}
use Rattle.bt_model.specs.Requests.{LayoutRequest}
use Rattle.bt_model.proofs.HandLaws.{pair_enters}
use Rattle.bt_model.proofs.SightLemmas.{not_opposite}
use Rattle.bt_facts.specs.declared.fact.Fact.{Fact}
use Rattle.bt_facts.specs.declared.fact.Fact.TheVariants.{Pair, Tunnel}
use Rattle.bt_facts.specs.declared.fact.Class.{Class}
use Rattle.bt_facts.specs.declared.fact.Shape.{Shape}
use Rattle.bt_facts.specs.declared.fact.Shape.TheVariants as shape
use Rattle.bt_facts.specs.Rules.{rule, not_all, at_most_one}
use Rattle.bt_facts.specs.Spots.{dirs, behind, where_inside, where_outside}
use Rattle.bt_facts.specs.Facts.{holds}
use Rattle.bt_demands.specs.Classes.{classes_of}
use Rattle.bt_rules.specs.Underground.{most_distance, tunnel_into, tunnel_rules, pairs_from, back, pairs_into, paired_rules, way_rules, pair_class_rules, pair_rules, piece_rules, underground_rules}
use Rattle.bt_rules.proofs.Chaining.{goes_on}
use Rattle.bt_rules.proofs.Classed.{class_there, one_class}
use Rattle.bt_rules.proofs.StandingStay.{HasSaid}
use Rattle.bt_model.proofs.ChainLemmas.{no_link}
use Rattle.bt_rules.proofs.Deciding.{pair_of, same_pair, stands_at}
use Rattle.bt_facts.proofs.Geometry.{inside_between, inside_cases, steps_plus, behind_step, steps_back, back_steps}
use Rattle.bt_facts.proofs.Keeping.{In, from_map, from_flat, in_range, from_range, Distinct, distinct_flat, distinct_range, each_both, each_three, each_flat, each_map, said_flat, at_most_stays, AllStay, Stays, OneSaid}
use Rattle.bt_rules.proofs.Laid.{Said, match_of, is_orderly, placed_of, inside_at, stands_as, from_inside, one_inside, each_inside, each_outside}
use Rattle.bt_rules.specs.Kept.{kind_of}
use Rattle.bt_rules.proofs.Reading.{Stands, Runs, Reaches}

module _ (r : LayoutRequest) (parts : List Part) (lays : Lays parts r) where
  abbrev S : Fact → Type 0
  S = Said r parts lays

  -- the cells of a pair and between are inside
  entrance_at : (a b : ℕ) (p : Pairs parts a b) → IsAt parts a p.entrance.cell
  entrance_at a b p = record { part = p.entrance; is_i = p.is_a; covers = inl refl }

  exit_at : (a b : ℕ) (p : Pairs parts a b) → IsAt parts b (steps p.distance p.entrance.dir p.entrance.cell)
  exit_at a b p = record { part = p.exit; is_i = p.is_b; covers = inl (sym p.ahead) }

  pub way_inside : (a b : ℕ) (p : Pairs parts a b) (j : ℕ) → j ≤ p.distance → IsInside r.rect (steps j p.entrance.dir p.entrance.cell)
  way_inside a b p j le = inside_between r.rect p.entrance.dir j p.distance p.entrance.cell
      (inside_at r parts lays a p.entrance.cell (entrance_at a b p)) (inside_at r parts lays b _ (exit_at a b p)) le

  -- each part has the request's tier
  pub tier : (i : ℕ) (part : Part) → HasPart parts i part → part.tier ≡ r.tier
  tier i part is = subst (λ p. p.tier ≡ r.tier) (get_or_from_slice_get parts i part part is) (lays.fits.one_tier i part (slice_get_within parts i part is))

  -- no piece of the axis stands where a tunnel passes, but that of the entrance where it begins and that of the exit
  -- behind
  clear_of : (c : Cell) (dir : Dir) (run : Runs parts c dir) (of : Shape) (d : Dir) → (of ≡ shape.Entrance) ⊎ (of ≡ shape.Exit) → (d ≡ dir) ⊎ (d ≡ opposite dir)
      → 0 < run.so_far → Stands parts c of d → ⊥
  clear_of c dir run of d piece axis some s =
      run.pair.none_between run.so_far s.index s.part some run.before_end s.is_part
      (subst (Covers s.part) (run.here ∙ ap (λ g. steps run.so_far g run.pair.entrance.cell) (sym run.along)) (covers_at parts s.index s.part c s.is_part (stands_at parts (is_orderly r parts lays) c of d s))) (
        ⊎_elim (λ e. inl (s.kind ∙ ap kind_of e)) (λ e. inr (s.kind ∙ ap kind_of e)) piece,
        tier s.index s.part s.is_part ∙ sym (tier run.from run.pair.entrance run.pair.is_a),
        ⊎_elim (λ e. inl (s.turned ∙ e ∙ sym run.along)) (λ e. inr (s.turned ∙ e ∙ ap opposite (sym run.along))) axis,
      )

  -- the pair of an entrance that stands
  pair_there : (c : Cell) (dir : Dir) → (s : Stands parts c shape.Entrance dir) → (b : ℕ) × (p : Pairs parts s.index b) × (p.entrance ≡ s.part)
  pair_there c dir s =
      let pair = pair_of parts (is_orderly r parts lays) s.index s.part s.is_part s.kind in
      (pair.0, pair.1, same_part parts s.index pair.1.entrance s.part pair.1.is_a s.is_part)

  -- a tunnel from an entrance
  abbrev run_from : (c : Cell) (dir : Dir) (a b : ℕ) (p : Pairs parts a b) (j : ℕ) → p.entrance.dir ≡ dir → j < p.distance → c ≡ steps j dir p.entrance.cell → Runs parts c dir
  run_from c dir a b p j along lt here = record { from = a; to = b; pair = p; along = along; so_far = j; before_end = lt; here = here }

  begins_run : (c : Cell) (dir : Dir) → Stands parts c shape.Entrance dir → Runs parts c dir
  begins_run c dir s =
      let pair = pair_there c dir s in
      run_from c dir s.index pair.0 pair.1 0 (ap (λ p. p.dir) pair.2 ∙ s.turned) pair.1.apart
      (s.cell ∙ ap (λ p. p.cell) (sym pair.2) ∙ sym (steps_none dir pair.1.entrance.cell))

  one_back : (dir : Dir) (j : ℕ) (c from : Cell) → c ≡ steps (j + 1) dir from → behind dir c ≡ steps j dir from
  one_back dir j c from e =
      ap (behind dir) (e ∙ ap (λ n. steps n dir from) (let z : j + 1 ≡ 1 + j = omega arith in z) ∙ sym (steps_plus dir 1 j from)) ∙ behind_step dir (steps j dir from)

  one_on : (dir : Dir) (j : ℕ) (c from : Cell) → c ≡ steps j dir from → step dir c ≡ steps (j + 1) dir from
  one_on dir j c from e = ap (step dir) e ∙ steps_plus dir 1 j from ∙ ap (λ n. steps n dir from) (let z : 1 + j ≡ j + 1 = omega arith in z)

  -- where a tunnel runs is inside
  run_inside : (c : Cell) (dir : Dir) → Runs parts c dir → IsInside r.rect c
  run_inside c dir run =
      let lt = run.before_end in
      subst (IsInside r.rect) (ap (λ d. steps run.so_far d run.pair.entrance.cell) run.along ∙ sym run.here) (way_inside run.from run.to run.pair run.so_far (omega (arith, lt)))

  ends_run : (c : Cell) (dir : Dir) → Stands parts c shape.Exit dir → OneSaid S (tunnel_into r.rect c dir)
  ends_run c dir s =
      let paired = (is_orderly r parts lays).paired s.index (s.part, s.is_part, inr s.kind) in
      ⊎_elim
      (λ p. absurd (let a = s.kind in let b = pair_enters parts s.index paired.other s.part s.is_part p in cc))
      (λ p.
      let exit : p.exit ≡ s.part = same_part parts s.index p.exit s.part p.is_b s.is_part in
      let along : p.entrance.dir ≡ dir = sym p.same_dir ∙ ap (λ q. q.dir) exit ∙ s.turned in
      let apart = p.apart in
      let here : c ≡ steps (p.distance - 1 + 1) dir p.entrance.cell = s.cell ∙ ap (λ q. q.cell) (sym exit) ∙ p.ahead
      ∙ ap (λ d. steps p.distance d p.entrance.cell) along ∙ ap (λ n. steps n dir p.entrance.cell) (let z : p.distance ≡ p.distance - 1 + 1 = omega (arith, apart) in z) in
      let run : Runs parts (behind dir c) dir = run_from (behind dir c) dir paired.other s.index p (p.distance - 1) along (omega (arith, apart)) (one_back dir (p.distance - 1) c p.entrance.cell here) in
      one_inside S r.rect (behind dir c) (Tunnel (behind dir c) dir ∷ [])
      (run_inside (behind dir c) dir run) (inl run))
      paired.paired

  comes_run : (c : Cell) (dir : Dir) (run : Runs parts c dir) (n : ℕ) → run.so_far ≡ n → OneSaid S (holds c shape.Entrance dir ∷ tunnel_into r.rect c dir)
  comes_run c dir run zero e = inl (record {
    index = run.from;
    part = run.pair.entrance;
    is_part = run.pair.is_a;
    kind = run.pair.enters;
    turned = run.along;
    cell = run.here ∙ ap (λ n. steps n dir run.pair.entrance.cell) e ∙ steps_none dir run.pair.entrance.cell;
  })
  comes_run c dir run (suc j) e =
      let lt = run.before_end in
      let back : Runs parts (behind dir c) dir = run_from (behind dir c) dir run.from run.to run.pair j run.along (omega (arith, lt, e))
      (one_back dir j c run.pair.entrance.cell (run.here ∙ ap (λ n. steps n dir run.pair.entrance.cell) (let z : run.so_far ≡ j + 1 = omega (arith, e) in z))) in
      inr (one_inside S r.rect (behind dir c) (Tunnel (behind dir c) dir ∷ []) (run_inside (behind dir c) dir back) (inl back))

  no_exit : (c : Cell) (dir : Dir) (run : Runs parts c dir) (n : ℕ) → run.so_far ≡ n → Stands parts c shape.Exit dir → ⊥
  no_exit c dir run zero e s =
      let here : c ≡ run.pair.entrance.cell = run.here ∙ ap (λ n. steps n dir run.pair.entrance.cell) e ∙ steps_none dir run.pair.entrance.cell in
      let same = stands_as r parts lays c shape.Exit dir s run.from (record { part = run.pair.entrance; is_i = run.pair.is_a; covers = inl here }) in
      let a = s.kind in let b = run.pair.enters in let p = ap (λ q. q.kind) same.1 in cc
  no_exit c dir run (suc j) e s = clear_of c dir run shape.Exit dir (inr refl) (inl refl) (omega (arith, e)) s

  -- the next cell of a tunnel is inside, and what stands there is no entrance and nothing that points back
  next_inside : (c : Cell) (dir : Dir) → Runs parts c dir → IsInside r.rect (step dir c)
  next_inside c dir run =
      let lt = run.before_end in
      subst (IsInside r.rect) (ap (λ d. steps (run.so_far + 1) d run.pair.entrance.cell) run.along ∙ sym (one_on dir run.so_far c run.pair.entrance.cell run.here))
      (way_inside run.from run.to run.pair (run.so_far + 1) (omega (arith, lt)))

  next_clear : (c : Cell) (dir : Dir) (of : Shape) (d : Dir) → (of ≡ shape.Entrance) ⊎ (of ≡ shape.Exit) → (d ≡ dir) ⊎ (d ≡ opposite dir)
      → (of ≡ shape.Exit → d ≡ dir → ⊥) → Runs parts c dir → Stands parts (step dir c) of d → ⊥
  next_clear c dir of d piece axis other run s =
      let lt = run.before_end in
      let on = one_on dir run.so_far c run.pair.entrance.cell run.here in
      ⊎_elim
      (λ more. clear_of (step dir c) dir (run_from (step dir c) dir run.from run.to run.pair (run.so_far + 1) run.along more on) of d piece axis (let z : 0 < run.so_far + 1 = omega arith in z) s)
      (λ end.
      let e : run.so_far + 1 ≡ run.pair.distance = omega (arith, end, lt) in
      let there : step dir c ≡ run.pair.exit.cell = on ∙ ap (λ n. steps n dir run.pair.entrance.cell) e ∙ ap (λ g. steps run.pair.distance g run.pair.entrance.cell) (sym run.along) ∙ sym run.pair.ahead in
      let same = stands_as r parts lays (step dir c) of d s run.to (record { part = run.pair.exit; is_i = run.pair.is_b; covers = inl there }) in
      ⊎_elim
      (λ k. let a = s.kind ∙ ap kind_of k in let b = run.pair.leaves in let p = ap (λ q. q.kind) same.1 in cc)
      (λ k. other k (sym s.turned ∙ ap (λ q. q.dir) same.1 ∙ run.pair.same_dir ∙ run.along))
      piece)
      (cases_lt (run.so_far + 1) run.pair.distance)

  -- what a tunnel doesn't pass
  abbrev passed : Cell → Dir → List Fact
  passed c dir = holds (step dir c) shape.Entrance dir ∷ holds (step dir c) shape.Entrance (opposite dir) ∷ holds (step dir c) shape.Exit (opposite dir) ∷ []

  tunnels_stay : (c : Cell) (dir : Dir) → AllStay S (tunnel_rules r.rect c dir)
  tunnels_stay c dir = (
    λ given. inl (begins_run c dir given.0),
    (
      (λ given. ends_run c dir given.0),
      (
        (λ given. comes_run c dir given.0 given.0.so_far refl),
        (
          (λ given. absurd (no_exit c dir given.0 given.0.so_far refl given.1.0)),
          each_both (Stays S) (where_outside r.rect (step dir c) (not_all (Tunnel c dir ∷ []) ∷ []))
              (where_inside r.rect (step dir c) (map (λ fact. not_all (Tunnel c dir ∷ fact ∷ [])) (passed c dir)))
              (each_outside S r.rect (step dir c) (Stays S) (not_all (Tunnel c dir ∷ []) ∷ []) (λ out. ((λ given. absurd (out (next_inside c dir given.0))), tt)))
              (each_inside S r.rect (step dir c) (Stays S) (map (λ fact. not_all (Tunnel c dir ∷ fact ∷ [])) (passed c dir)) (λ here. (
                λ given. absurd (next_clear c dir shape.Entrance dir (inl refl) (inl refl) (λ e. cc) given.0 given.1.0),
                (
                  (λ given. absurd (next_clear c dir shape.Entrance (opposite dir) (inl refl) (inr refl) (λ e. cc) given.0 given.1.0)),
                  ((λ given. absurd (next_clear c dir shape.Exit (opposite dir) (inr refl) (inr refl) (λ e d. not_opposite dir (sym d)) given.0 given.1.0)), tt),
                ),
              ))),
        ),
      ),
    ),
  )

  -- ---- pairs

  -- the exit so far ahead
  abbrev pub exit_there : (c : Cell) (dir : Dir) (k : ℕ) → (q : Reaches parts c k) → q.pair.entrance.dir ≡ dir → Stands parts (steps k dir c) shape.Exit dir
  exit_there c dir k q along = record {
    index = q.to;
    part = q.pair.exit;
    is_part = q.pair.is_b;
    kind = q.pair.leaves;
    turned = q.pair.same_dir ∙ along;
    cell = ap (steps k dir) q.here ∙ ap (λ n. steps n dir q.pair.entrance.cell) (sym q.far) ∙ ap (λ d. steps q.pair.distance d q.pair.entrance.cell) (sym along) ∙ sym q.pair.ahead;
  }

  pub exit_on : (c : Cell) (dir : Dir) (k : ℕ) → (q : Reaches parts c k) → q.pair.entrance.dir ≡ dir → IsAt parts q.to (steps k dir c)
  exit_on c dir k q along = record { part = q.pair.exit; is_i = q.pair.is_b; covers = inl (exit_there c dir k q along).cell }

  abbrev from_on : (c : Cell) (k : ℕ) → (q : Reaches parts c k) → IsAt parts q.from c
  from_on c k q = record { part = q.pair.entrance; is_i = q.pair.is_a; covers = inl q.here }

  -- a pair of the direction in which the entrance on the cell is turned
  pub pair_along : (c : Cell) (dir : Dir) (k : ℕ) → (p : S (Pair c dir k)) → p.1.pair.entrance.dir ≡ dir
  pair_along c dir k p = ap (λ x. x.dir) (sym (stands_as r parts lays c shape.Entrance dir p.0 p.1.from (from_on c k p.1)).1) ∙ p.0.turned

  -- two pairs of one entrance are of one distance
  one_distance : (c b : Cell) (k l : ℕ) → (p : Reaches parts c k) → (q : Reaches parts b l) → p.from ≡ q.from → k ≡ l
  one_distance c b k l p q same = sym p.far ∙ (same_pair parts (placed_of r parts lays) p.from q.from p.to q.to same p.pair q.pair).2 ∙ q.far

  one_from : (c : Cell) (dir : Dir) (k l : ℕ) → S (Pair c dir k) → S (Pair c dir l) → k ≡ l
  one_from c dir k l p q = one_distance c c k l p.1 q.1 (one_there parts (placed_of r parts lays) p.1.from q.1.from c (from_on c k p.1) (from_on c l q.1))

  one_into : (c : Cell) (dir : Dir) (k l : ℕ) → S (Pair (back k dir c) dir k) → S (Pair (back l dir c) dir l) → k ≡ l
  one_into c dir k l p q =
      let at_p : IsAt parts p.1.to c = subst (IsAt parts p.1.to) (steps_back dir k c) (exit_on (back k dir c) dir k p.1 (pair_along (back k dir c) dir k p)) in
      let at_q : IsAt parts q.1.to c = subst (IsAt parts q.1.to) (steps_back dir l c) (exit_on (back l dir c) dir l q.1 (pair_along (back l dir c) dir l q)) in
      let exits : p.1.to ≡ q.1.to = one_there parts (placed_of r parts lays) p.1.to q.1.to c at_p at_q in
      let paired = (is_orderly r parts lays).paired q.1.to (q.1.pair.exit, q.1.pair.is_b, inr q.1.pair.leaves) in
      one_distance (back k dir c) (back l dir c) k l p.1 q.1
      (paired.no_other p.1.from (inr (subst (λ j. Pairs parts p.1.from j) exits p.1.pair)) ∙ sym (paired.no_other q.1.from (inr q.1.pair)))

  -- a pair among those of a list by distances
  from_pairs : (cell : ℕ → Cell) (end : ℕ → Cell) (dir : Dir) (ks : List ℕ) (f : Fact) → In (flat_map (λ k. where_inside r.rect (end k) (Pair (cell k) dir k ∷ [])) ks) f
      → (k : ℕ) × In ks k × (f ≡ Pair (cell k) dir k)
  from_pairs cell end dir ks f h =
      let found = from_flat (λ k. where_inside r.rect (end k) (Pair (cell k) dir k ∷ [])) ks f h in
      (found.0, found.1, ⊎_elim (λ e. e) (λ n. absurd n) (from_inside r.rect (end found.0) (Pair (cell found.0) dir found.0 ∷ []) f found.2).1)

  one_of_pairs : (cell : ℕ → Cell) (end : ℕ → Cell) (dir : Dir) (ks : List ℕ) → Distinct ks → ((k l : ℕ) → S (Pair (cell k) dir k) → S (Pair (cell l) dir l) → k ≡ l)
      → AllStay S (at_most_one (flat_map (λ k. where_inside r.rect (end k) (Pair (cell k) dir k ∷ [])) ks))
  one_of_pairs cell end dir ks distinct one = at_most_stays S (flat_map (λ k. where_inside r.rect (end k) (Pair (cell k) dir k ∷ [])) ks)
      (distinct_flat (λ k. where_inside r.rect (end k) (Pair (cell k) dir k ∷ [])) ks distinct
      (λ k. ⊎_elim
      (λ i. subst (λ b. Distinct (cond b (Pair (cell k) dir k ∷ []) [])) (sym i.1) ((λ n. n), tt))
      (λ o. subst (λ b. Distinct {X = Fact} (cond b (Pair (cell k) dir k ∷ []) [])) (sym o.1) tt) (inside_cases r.rect (end k)))
      (λ k l f h i.
      let a = (from_inside r.rect (end k) (Pair (cell k) dir k ∷ []) f h).1 in
      let b = (from_inside r.rect (end l) (Pair (cell l) dir l ∷ []) f i).1 in
      let same : Pair (cell k) dir k ≡ Pair (cell l) dir l = sym (⊎_elim (λ e. e) (λ n. absurd n) a) ∙ ⊎_elim (λ e. e) (λ n. absurd n) b in cc))
      (λ f g in_f in_g p q.
      let a = from_pairs cell end dir ks f in_f in
      let b = from_pairs cell end dir ks g in_g in
      a.2 ∙ ap (λ k. Pair (cell k) dir k) (one a.0 b.0 (subst S a.2 p) (subst S b.2 q)) ∙ sym b.2)

  -- a distance is within reach
  in_reach : (a b : ℕ) (p : Pairs parts a b) → In (range_with_len 1 (most_distance r)) p.distance
  in_reach a b p =
      let some = p.apart in let within = p.within in
      let same : reach_of p.entrance.tier ≡ reach_of r.tier = ap reach_of (tier a p.entrance p.is_a) in
      in_range 1 (most_distance r) p.distance (omega (arith, some)) (omega (arith, within, same))

  from_stays : (c : Cell) (dir : Dir) → Stays S (rule (holds c shape.Entrance dir ∷ []) (pairs_from r.rect (most_distance r) c dir))
  from_stays c dir given =
      let s = given.0 in
      let pair = pair_there c dir s in
      let p = pair.1 in
      let reach : Reaches parts c p.distance = record { from = s.index; to = pair.0; pair = p; here = s.cell ∙ ap (λ q. q.cell) (sym pair.2); far = refl } in
      said_flat S (λ k. where_inside r.rect (steps k dir c) (Pair c dir k ∷ [])) (range_with_len 1 (most_distance r)) p.distance (in_reach s.index pair.0 p)
      (one_inside S r.rect (steps p.distance dir c) (Pair c dir p.distance ∷ [])
      (inside_at r parts lays pair.0 (steps p.distance dir c) (exit_on c dir p.distance reach (pair_along c dir p.distance (s, reach)))) (inl (s, reach)))

  into_stays : (c : Cell) (dir : Dir) → Stays S (rule (holds c shape.Exit dir ∷ []) (pairs_into r.rect (most_distance r) c dir))
  into_stays c dir given =
      let s = given.0 in
      let paired = (is_orderly r parts lays).paired s.index (s.part, s.is_part, inr s.kind) in
      ⊎_elim
      (λ p. absurd (let a = s.kind in let b = pair_enters parts s.index paired.other s.part s.is_part p in cc))
      (λ p.
      let exit : p.exit ≡ s.part = same_part parts s.index p.exit s.part p.is_b s.is_part in
      let along : p.entrance.dir ≡ dir = sym p.same_dir ∙ ap (λ q. q.dir) exit ∙ s.turned in
      let there : c ≡ steps p.distance dir p.entrance.cell = s.cell ∙ ap (λ q. q.cell) (sym exit) ∙ p.ahead ∙ ap (λ d. steps p.distance d p.entrance.cell) along in
      let here : back p.distance dir c ≡ p.entrance.cell = ap (back p.distance dir) there ∙ back_steps dir p.distance p.entrance.cell in
      let stands : Stands parts (back p.distance dir c) shape.Entrance dir = record { index = paired.other; part = p.entrance; is_part = p.is_a; kind = p.enters; turned = along; cell = here } in
      let reach : Reaches parts (back p.distance dir c) p.distance = record { from = paired.other; to = s.index; pair = p; here = here; far = refl } in
      said_flat S (λ k. where_inside r.rect (back k dir c) (Pair (back k dir c) dir k ∷ [])) (range_with_len 1 (most_distance r)) p.distance (in_reach paired.other s.index p)
      (one_inside S r.rect (back p.distance dir c) (Pair (back p.distance dir c) dir p.distance ∷ [])
      (inside_at r parts lays paired.other (back p.distance dir c) (from_on (back p.distance dir c) p.distance reach)) (inl (stands, reach))))
      paired.paired

  paired_stay : (c : Cell) (dir : Dir) → AllStay S (paired_rules r.rect (most_distance r) c dir)
  paired_stay c dir = each_both (Stays S)
      (rule (holds c shape.Entrance dir ∷ []) (pairs_from r.rect (most_distance r) c dir) ∷ at_most_one (pairs_from r.rect (most_distance r) c dir))
      (rule (holds c shape.Exit dir ∷ []) (pairs_into r.rect (most_distance r) c dir) ∷ at_most_one (pairs_into r.rect (most_distance r) c dir))
      (from_stays c dir, one_of_pairs (λ k. c) (λ k. steps k dir c) dir (range_with_len 1 (most_distance r)) (distinct_range 1 (most_distance r)) (one_from c dir))
      (into_stays c dir, one_of_pairs (λ k. back k dir c) (λ k. back k dir c) dir (range_with_len 1 (most_distance r)) (distinct_range 1 (most_distance r)) (one_into c dir))

  ways_stay : (c : Cell) (dir : Dir) (k : ℕ) → AllStay S (way_rules c dir k)
  ways_stay c dir k = each_map (Stays S) (λ fact. rule (Pair c dir k ∷ []) (fact ∷ []))
      (holds c shape.Entrance dir ∷ holds (steps k dir c) shape.Exit dir ∷ map (λ j. Tunnel (steps j dir c) dir) (range_with_len 1 (k - 1)))
      (λ fact at given. inl (by fact given.0 at))
    where
      by : (fact : Fact) → (p : S (Pair c dir k)) → In (holds c shape.Entrance dir ∷ holds (steps k dir c) shape.Exit dir ∷ map (λ j. Tunnel (steps j dir c) dir) (range_with_len 1 (k - 1))) fact
          → S fact
      by fact p (inl e) = subst S (sym e) p.0
      by fact p (inr (inl e)) = subst S (sym e) (exit_there c dir k p.1 (pair_along c dir k p))
      by fact p (inr (inr h)) =
          let found = from_map (λ j. Tunnel (steps j dir c) dir) (range_with_len 1 (k - 1)) fact h in
          let bounds = from_range 1 (k - 1) found.0 found.1 in
          let q = p.1 in
          let le = bounds.0 in let lt = bounds.1 in let far = q.far in
          subst S (sym found.2) (run_from (steps found.0 dir c) dir q.from q.to q.pair found.0 (pair_along c dir k p) (omega (arith, le, lt, far)) (ap (steps found.0 dir) q.here))

  exit_link : (a b : ℕ) → Pairs parts a b → IsLink parts b
  exit_link a b p = (p.exit, p.is_b, λ e. let k = p.leaves in cc)

  entrance_link : (a b : ℕ) → Pairs parts a b → IsLink parts a
  entrance_link a b p = (p.entrance, p.is_a, λ e. let k = p.enters in cc)

  -- the class of an entrance is that of its exit
  class_through : (a b : ℕ) (class : Class) → Pairs parts a b → HasSaid r parts lays a class → HasSaid r parts lays b class
  class_through a b class p (inl h) = absurd (no_link parts a h.0 (entrance_link a b p))
  class_through a b class p (inr h) = inr (
    h.0,
    (h.1.0, goes_on parts lays.shows.clean ((match_of r parts lays).chain_of h.0) a b ((match_of r parts lays).is_chain h.0 h.1.0) h.1.1 (inl p) (exit_link a b p)),
    h.2,
  )

  class_back : (a b : ℕ) (c : Cell) (class : Class) → Pairs parts a b → IsAt parts a c → HasSaid r parts lays b class → HasSaid r parts lays a class
  class_back a b c class p at h =
      let there = class_there r parts lays a c at in
      subst (HasSaid r parts lays a) (one_class r parts lays b there.0 class (class_through a b there.0 p there.1) h) there.1

  pair_classes_stay : (c : Cell) (dir : Dir) (k : ℕ) (class : Class) → AllStay S (pair_class_rules c dir k class)
  pair_classes_stay c dir k class = (
    λ given.
        let p = given.0 in let carries = given.1.0 in
        let index : carries.0 ≡ p.1.from = one_there parts (placed_of r parts lays) carries.0 p.1.from c carries.1 (from_on c k p.1) in
        inl (p.1.to, exit_on c dir k p.1 (pair_along c dir k p), class_through p.1.from p.1.to class p.1.pair (subst (λ i. HasSaid r parts lays i class) index carries.2)),
    (
      (λ given.
          let p = given.0 in let carries = given.1.0 in
          let index : carries.0 ≡ p.1.to = one_there parts (placed_of r parts lays) carries.0 p.1.to (steps k dir c) carries.1 (exit_on c dir k p.1 (pair_along c dir k p)) in
          inl (p.1.from, from_on c k p.1, class_back p.1.from p.1.to c class p.1.pair (from_on c k p.1) (subst (λ i. HasSaid r parts lays i class) index carries.2))),
      tt,
    ),
  )

  pairs_stay : (c : Cell) (dir : Dir) (k : ℕ) → AllStay S (pair_rules r c dir k)
  pairs_stay c dir k = each_inside S r.rect (steps k dir c) (Stays S) (way_rules c dir k ++ flat_map (pair_class_rules c dir k) (classes_of r))
      (λ here. each_both (Stays S) (way_rules c dir k) (flat_map (pair_class_rules c dir k) (classes_of r)) (ways_stay c dir k)
      (each_flat (Stays S) (pair_class_rules c dir k) (classes_of r) (λ class at. pair_classes_stay c dir k class)))

  pieces_stay : (c : Cell) (dir : Dir) → AllStay S (piece_rules r c dir)
  pieces_stay c dir = each_three (Stays S) (tunnel_rules r.rect c dir) (paired_rules r.rect (most_distance r) c dir) (flat_map (pair_rules r c dir) (range_with_len 1 (most_distance r)))
      (tunnels_stay c dir) (paired_stay c dir)
      (each_flat (Stays S) (pair_rules r c dir) (range_with_len 1 (most_distance r)) (λ k at. pairs_stay c dir k))

  pub underground_stay : (c : Cell) → AllStay S (underground_rules r c)
  underground_stay c = each_flat (Stays S) (piece_rules r c) dirs (λ d at. pieces_stay c d)
