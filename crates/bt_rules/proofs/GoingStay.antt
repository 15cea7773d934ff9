-- Layouts keep the rules of what is handed on.
use Rattle.std.proofs.Common.{◌≡◌, ◌≢◌, ◌⊎◌, inl, inr, ℕ, cond, List, [], ◌∷◌, ◌++◌, map, refl, sym, ◌∙◌, ap, subst, ⊎_elim}
use Rattle.std.specs.List.{flat_map}
use Rattle.std.proofs.lemmas.Bool.{cases_eq}
use Rattle.bt_parts.specs.declared.part.Cell.{Cell}
use Rattle.bt_parts.specs.declared.part.Dir.{Dir}
use Rattle.bt_parts.specs.declared.part.Kind.{Kind}
use Rattle.bt_parts.specs.declared.part.Kind.TheVariants as kind
use Rattle.bt_parts.specs.declared.part.Part.{Part}
use Rattle.bt_parts.specs.declared.part.Side.{Side}
use Rattle.bt_parts.specs.declared.part.Side.TheVariants.{Behind, Ahead}
use Rattle.bt_parts.specs.Cells.{Covers, step, opposite, IsInside}
use Rattle.bt_parts.specs.Handing.{ComesFrom, TakesFrom}
use Rattle.bt_parts.specs.Layouts.{HasPart, IsAt}
use Rattle.bt_parts.proofs.Places.{same_part, one_there, covers_at, own_cell}
use Rattle.bt_parts.proofs.Steps.{opposite-opposite}
use Rattle.bt_model.specs.Chains.{IsLink, IsInput, IsOutput}
use Rattle.bt_model.specs.Handing.{FeedsFrom, Feeds}
use Rattle.bt_model.specs.Laying.{Lays}
use Rattle.bt_model.specs.Requests.{LayoutRequest, IsRequest}
use Rattle.bt_model.proofs.ExistLemmas.{at_cases, giver_cases, unhanded_input, input_no_splitter}
use Rattle.bt_model.proofs.HandLaws.{front_fed, takes_at, comes_at, pair_leaves}
use Rattle.bt_model.proofs.SightLemmas.{one_side}
use Rattle.bt_facts.specs.declared.fact.Content.TheVariants.{Empty}
use Rattle.bt_facts.specs.declared.fact.Fact.{Fact}
use Rattle.bt_facts.specs.declared.fact.Fact.TheVariants.{Carries, Begins, Goes}
use Rattle.bt_facts.specs.declared.fact.Fact.TheVariants as fact
use Rattle.bt_facts.specs.declared.fact.Half.TheVariants.{Lesser, Greater}
use Rattle.bt_facts.specs.declared.fact.Shape.{Shape}
use Rattle.bt_facts.specs.declared.fact.Shape.TheVariants as shape
use Rattle.bt_facts.specs.Rules.{rule, not_all, at_most_one}
use Rattle.bt_facts.specs.Spots.{dirs, halves, sides_of, behind, where_outside}
use Rattle.bt_facts.specs.Facts.{holds}
use Rattle.bt_rules.specs.Going.{runners, givers, takers, inner_rules, going_rules, begins_there, fed_belt, fed_entrance, starters, begin_rules, once_rules, handing_rules}
use Rattle.bt_facts.specs.Facts.{goes_into}
use Rattle.bt_rules.proofs.Deciding.{stands_at}
use Rattle.bt_facts.proofs.Decided.{same_dir}
use Rattle.bt_facts.proofs.Geometry.{inside_cases, in_dirs, in_halves, in_sides, distinct_dirs, behind_step, step_behind}
use Rattle.bt_facts.proofs.Keeping.{In, from_map, from_flat, Distinct, distinct_map, distinct_flat, each_both, each_four, each_flat, each_map, one_of_map, said_left, said_right, said_flat, at_most_stays, AllStay, Stays, OneSaid}
use Rattle.bt_rules.proofs.Classed.{class_at, lies_class, input_lies, input_listed}
use Rattle.bt_demands.specs.Classes.{input_classes}
use Rattle.bt_rules.proofs.Laid.{Said, stands_as, one_inside, is_orderly, placed_of, inside_at, one_outside, from_inside, shape_on}
use Rattle.bt_rules.specs.Kept.{kind_of}
use Rattle.bt_rules.proofs.Reading.{cell_of, Stands, GoesOn}

module _ (r : LayoutRequest) (parts : List Part) (lays : Lays parts r) where
  abbrev S : Fact → Type 0
  S = Said r parts lays

  -- ---- what goes on

  -- what hands on is of a shape that does
  pub goes_shape : (c : Cell) (dir : Dir) → GoesOn parts c dir → (of : Shape) × In givers of × Stands parts c of dir
  goes_shape c dir g =
      let giver = g.feeds.look.giver in
      let found = shape_on giver.part c giver.covers in (
        found.0,
        by found.0 (λ e. g.feeds.look.no_entrance (found.1 ∙ e)),
        record { index = g.giver; part = giver.part; is_part = giver.is_i; kind = found.1; turned = g.along; cell = found.2 },
      )
    where
      by : (of : Shape) → kind_of of ≢ kind.Entrance → In givers of
      by shape.Belt n = inl refl
      by shape.Entrance n = absurd (n refl)
      by shape.Exit n = inr (inl refl)
      by (shape.Half Lesser) n = inr (inr (inl refl))
      by (shape.Half Greater) n = inr (inr (inr (inl refl)))

  -- what is handed to stands in front
  pub taker_there : (c : Cell) (dir : Dir) → (g : GoesOn parts c dir) → IsAt parts g.taker (step dir c)
  taker_there c dir g = subst (λ d. IsAt parts g.taker (step d c)) g.along g.feeds.look.taker

  -- what isn't an entrance hands to what is in front
  pub goes_to : (c : Cell) (of : Shape) (dir : Dir) (q : ℕ) → (s : Stands parts c of dir) → kind_of of ≢ kind.Entrance → IsAt parts q (step dir c) → GoesOn parts c dir
  goes_to c of dir q s above there =
      let feeds = front_fed parts (is_orderly r parts lays) s.index q c s.part s.is_part (stands_at parts (is_orderly r parts lays) c of dir s)
      (λ e. above (sym s.kind ∙ e)) (subst (λ d. IsAt parts q (step d c)) (sym s.turned) there) in
      record {
        giver = s.index;
        taker = q;
        feeds = feeds;
        along = ap (λ p. p.dir) (same_part parts s.index feeds.look.giver.part s.part feeds.look.giver.is_i s.is_part) ∙ s.turned;
      }

  -- what takes there
  pub taker_said : (c : Cell) (dir : Dir) → GoesOn parts c dir → OneSaid S (takers (step dir c) dir)
  taker_said c dir g =
      let at = g.feeds.look.taker in
      let found = shape_on at.part (step dir c) (subst (λ d. Covers at.part (step d c)) g.along at.covers) in
      let stands : Stands parts (step dir c) found.0 at.part.dir = record { index = g.taker; part = at.part; is_part = at.is_i; kind = found.1; turned = refl; cell = found.2 } in
      by found.0 at.part.dir stands (subst (λ k. TakesFrom k g.feeds.side) found.1 g.feeds.takes) (subst (λ d. ComesFrom d at.part.dir g.feeds.side) g.along g.feeds.look.comes)
    where
      side : Side
      side = g.feeds.side

      straight : (of : Shape) (d : Dir) → Stands parts (step dir c) of d → dir ≡ d → S (holds (step dir c) of dir)
      straight of d s e = subst (Stands parts (step dir c) of) (sym e) s

      by : (of : Shape) (d : Dir) → Stands parts (step dir c) of d → TakesFrom (kind_of of) g.feeds.side → ComesFrom dir d g.feeds.side → OneSaid S (takers (step dir c) dir)
      by shape.Belt d s takes comes = inl (d, s)
      by shape.Entrance d s takes comes = inr (inl (straight shape.Entrance d s (subst (ComesFrom dir d) takes comes)))
      by shape.Exit d s takes comes = absurd takes
      by (shape.Half half) d s takes comes = inr (inr (one_of_map S (λ h. holds (step dir c) (shape.Half h) dir) halves half (in_halves half)
          (straight (shape.Half half) d s (subst (ComesFrom dir d) takes comes))))

  -- what is handed on isn't handed to a belt that points back
  belt_back : (c : Cell) (dir : Dir) → GoesOn parts c dir → Stands parts (step dir c) shape.Belt (opposite dir) → ⊥
  belt_back c dir g s =
      let at = taker_there c dir g in
      let same = stands_as r parts lays (step dir c) shape.Belt (opposite dir) s g.taker at in
      let taker = g.feeds.look.taker in
      let part : s.part ≡ taker.part = same.1 ∙ same_part parts g.taker at.part taker.part at.is_i taker.is_i in
      subst (λ k. TakesFrom k g.feeds.side) (ap (λ p. p.kind) (sym part) ∙ s.kind) g.feeds.takes
      (one_side g.feeds.look.giver.part.dir taker.part.dir g.feeds.side Ahead g.feeds.look.comes
      (g.along ∙ sym (opposite-opposite dir) ∙ ap opposite (sym s.turned ∙ ap (λ p. p.dir) part)))

  -- ---- inputs and outputs

  -- a belt or an exit
  abbrev pub IsRunner : Shape → Type 0
  IsRunner of = (of ≡ shape.Belt) ⊎ (of ≡ shape.Exit)

  pub runner_cases : (of : Shape) → In runners of → IsRunner of
  runner_cases of (inl e) = inl e
  runner_cases of (inr (inl e)) = inr e
  runner_cases of (inr (inr h)) = absurd h

  pub runner_above : (of : Shape) → IsRunner of → kind_of of ≢ kind.Entrance
  runner_above of (inl e) k = let a = ap kind_of e in cc
  runner_above of (inr e) k = let a = ap kind_of e in cc

  runner_kind : (of : Shape) (k : Kind) → IsRunner of → k ≡ kind_of of → (k ≡ kind.Belt) ⊎ (k ≡ kind.Exit)
  runner_kind of k (inl e) h = inl (h ∙ ap kind_of e)
  runner_kind of k (inr e) h = inr (h ∙ ap kind_of e)

  runner_cell : (of : Shape) (part : Part) → IsRunner of → cell_of of part ≡ part.cell
  runner_cell of part (inl e) = ap (λ s. cell_of s part) e
  runner_cell of part (inr e) = ap (λ s. cell_of s part) e

  -- a belt or an exit in front of which nothing is is an output
  pub runs_out : (c : Cell) (of : Shape) (dir : Dir) → IsRunner of → (s : Stands parts c of dir) → ((q : ℕ) → IsAt parts q (step dir c) → ⊥) → IsOutput parts s.index
  runs_out c of dir runs s none = record {
    part = s.part;
    is_i = s.is_part;
    kind = runner_kind of s.part.kind runs s.kind;
    clear = λ q at. none q (subst (λ d. IsAt parts q (step d c)) s.turned
        (subst (λ x. IsAt parts q (step s.part.dir x)) (sym (s.cell ∙ runner_cell of s.part runs)) at));
  }

  pub runner_link : (of : Shape) (dir : Dir) (c : Cell) → IsRunner of → (s : Stands parts c of dir) → IsLink parts s.index
  runner_link of dir c runs s = (s.part, s.is_part, λ e. ⊎_elim (λ k. let z = k in cc) (λ k. let z = k in cc) (runner_kind of s.part.kind runs s.kind))

  -- where the rectangle goes on, a belt or an exit hands on
  pub runs_on : (c : Cell) (of : Shape) (dir : Dir) → IsRunner of → IsInside r.rect (step dir c) → (s : Stands parts c of dir) → GoesOn parts c dir
  runs_on c of dir runs here s =
      ⊎_elim (λ found. goes_to c of dir found.0 s (runner_above of runs) found.1)
      (λ none. absurd (lays.fits.outputs s.index s.part (runs_out c of dir runs s none) s.is_part
      (subst (λ d. IsInside r.rect (step d s.part.cell)) (sym s.turned) (subst (λ x. IsInside r.rect (step dir x)) (s.cell ∙ runner_cell of s.part runs) here))))
      (at_cases parts (step dir c))

  -- ---- rules

  inner_stay : (c : Cell) (dir : Dir) → IsInside r.rect (step dir c) → AllStay S (inner_rules c dir)
  inner_stay c dir here = (
    λ given. let found = goes_shape c dir given.0 in one_of_map S (λ of. holds c of dir) givers found.0 found.1 found.2,
    (
      (λ given. taker_said c dir given.0),
      (
        (λ given. absurd (belt_back c dir given.0 given.1.0)),
        each_both (Stays S) (map (λ of. rule (holds c of dir ∷ []) (Goes c dir ∷ [])) runners) (map (λ half. rule (holds c (shape.Half half) dir ∷ []) (Goes c dir ∷ fact.Kind (step dir c) Empty ∷ [])) halves)
            (each_map (Stays S) (λ of. rule (holds c of dir ∷ []) (Goes c dir ∷ [])) runners (λ of at given. inl (runs_on c of dir (runner_cases of at) here given.0)))
            (each_map (Stays S) (λ half. rule (holds c (shape.Half half) dir ∷ []) (Goes c dir ∷ fact.Kind (step dir c) Empty ∷ [])) halves
            (λ half at given. ⊎_elim (λ found. inl (goes_to c (shape.Half half) dir found.0 given.0 (λ e. cc) found.1)) (λ none. inr (inl none)) (at_cases parts (step dir c)))),
      ),
    ),
  )

  -- what is outside is handed nothing
  pub still_out : (c : Cell) (dir : Dir) → (IsInside r.rect (step dir c) → ⊥) → GoesOn parts c dir → ⊥
  still_out c dir out g = out (inside_at r parts lays g.taker (step dir c) (taker_there c dir g))

  going_stay : (c : Cell) (dir : Dir) → AllStay S (going_rules r.rect c dir)
  going_stay c dir = ⊎_elim
      (λ i. subst (λ b. AllStay S (cond b (inner_rules c dir) (not_all (Goes c dir ∷ []) ∷ []))) (sym i.1) (inner_stay c dir i.0))
      (λ o. subst (λ b. AllStay S (cond b (inner_rules c dir) (not_all (Goes c dir ∷ []) ∷ []))) (sym o.1) ((λ given. absurd (still_out c dir o.0 given.0)), tt))
      (inside_cases r.rect (step dir c))

  -- ---- what is fed

  -- what feeds a part of one cell hands on from behind, as it is turned
  pub fed_from : (c : Cell) (p i : ℕ) (half : Cell) (part : Part) → HasPart parts i part → part.kind ≢ kind.Splitter → c ≡ part.cell → (f : FeedsFrom parts p half i)
      → GoesOn parts (behind f.look.giver.part.dir c) f.look.giver.part.dir
  fed_from c p i half part is_i single e f =
      let dir = f.look.giver.part.dir in
      let there : step dir half ≡ part.cell = own_cell part (step dir half) single (covers_at parts i part (step dir half) is_i f.look.taker) in
      let from : half ≡ behind dir c = sym (behind_step dir half) ∙ ap (behind dir) (there ∙ sym e) in
      subst (λ h. GoesOn parts h dir) from (record { giver = p; taker = i; feeds = f; along = refl })

  -- what comes from behind is told
  pub into_said : (c : Cell) (dir : Dir) → GoesOn parts (behind dir c) dir → OneSaid S (goes_into r.rect c dir)
  into_said c dir g = one_inside S r.rect (behind dir c) (Goes (behind dir c) dir ∷ []) (inside_at r parts lays g.giver (behind dir c) g.feeds.look.giver) (inl g)

  pub from_into : (c : Cell) (dir : Dir) (f : Fact) → In (goes_into r.rect c dir) f → f ≡ Goes (behind dir c) dir
  from_into c dir f h = ⊎_elim (λ e. e) (λ n. absurd n) (from_inside r.rect (behind dir c) (Goes (behind dir c) dir ∷ []) f h).1

  begun_said : (c : Cell) (dir : Dir) (i : ℕ) (part : Part) → HasPart parts i part → IsInput parts i → IsAt parts i c → c ≡ part.cell → part.dir ≡ dir → OneSaid S (begins_there r.rect c dir)
  begun_said c dir i part is_i input at cell turned = one_outside S r.rect (behind dir c) (Begins c ∷ [])
      (subst (λ d. IsInside r.rect (behind d c) → ⊥) turned (subst (λ x. IsInside r.rect (behind part.dir x) → ⊥) (sym cell) (lays.fits.inputs i part input is_i)))
      (inl (i, input, at))

  feeds_dir : (p i : ℕ) (half : Cell) (part : Part) → HasPart parts i part → (f : FeedsFrom parts p half i) → part.kind ≡ kind.Belt → f.look.giver.part.dir ≡ opposite part.dir → ⊥
  feeds_dir p i half part is_i f k e =
      subst (λ x. TakesFrom x f.side) k (takes_at parts p i half part is_i f) (one_side f.look.giver.part.dir part.dir f.side Ahead (comes_at parts p i half part is_i f) e)

  belts_stay : (c : Cell) (dir : Dir) → Stays S (fed_belt r.rect c dir)
  belts_stay c dir given =
      let s = given.0 in
      let link : IsLink parts s.index = (s.part, s.is_part, λ e. let k = s.kind in cc) in
      ⊎_elim
      (λ giver. ⊎_elim
      (λ pair. absurd (let a = s.kind in let b = pair_leaves parts giver.0 s.index s.part s.is_part pair in cc))
      (λ feeds.
      let f = feeds.1 in
      let from = f.look.giver.part.dir in
      let goes = fed_from c giver.0 s.index feeds.0 s.part s.is_part link.2 s.cell f in
      said_left S (goes_into r.rect c dir ++ flat_map (goes_into r.rect c) (sides_of dir)) (begins_there r.rect c dir)
      (⊎_elim
      (λ e. said_left S (goes_into r.rect c dir) (flat_map (goes_into r.rect c) (sides_of dir)) (subst (λ d. OneSaid S (goes_into r.rect c d)) e (into_said c from goes)))
      (λ n. said_right S (goes_into r.rect c dir) (flat_map (goes_into r.rect c) (sides_of dir))
      (said_flat S (goes_into r.rect c) (sides_of dir) from
      (in_sides dir from n (λ e. feeds_dir giver.0 s.index feeds.0 s.part s.is_part f s.kind (e ∙ ap opposite (sym s.turned)))) (into_said c from goes)))
      (same_dir from dir)))
      giver.1)
      (λ none. said_right S (goes_into r.rect c dir ++ flat_map (goes_into r.rect c) (sides_of dir)) (begins_there r.rect c dir)
      (begun_said c dir s.index s.part s.is_part (unhanded_input parts (is_orderly r parts lays) s.index link none) (stands_at parts (is_orderly r parts lays) c shape.Belt dir s) s.cell s.turned))
      (giver_cases parts (is_orderly r parts lays) s.index link)

  entrances_stay : (c : Cell) (dir : Dir) → Stays S (fed_entrance r.rect c dir)
  entrances_stay c dir given =
      let s = given.0 in
      let link : IsLink parts s.index = (s.part, s.is_part, λ e. let k = s.kind in cc) in
      ⊎_elim
      (λ giver. ⊎_elim
      (λ pair. absurd (let a = s.kind in let b = pair_leaves parts giver.0 s.index s.part s.is_part pair in cc))
      (λ feeds.
      let f = feeds.1 in
      let from = f.look.giver.part.dir in
      let goes = fed_from c giver.0 s.index feeds.0 s.part s.is_part link.2 s.cell f in
      let side : f.side ≡ Behind = subst (λ x. TakesFrom x f.side) s.kind (takes_at parts giver.0 s.index feeds.0 s.part s.is_part f) in
      let along : from ≡ dir = subst (ComesFrom from s.part.dir) side (comes_at parts giver.0 s.index feeds.0 s.part s.is_part f) ∙ s.turned in
      said_left S (goes_into r.rect c dir) (begins_there r.rect c dir) (subst (λ d. OneSaid S (goes_into r.rect c d)) along (into_said c from goes)))
      giver.1)
      (λ none. said_right S (goes_into r.rect c dir) (begins_there r.rect c dir)
      (begun_said c dir s.index s.part s.is_part (unhanded_input parts (is_orderly r parts lays) s.index link none) (stands_at parts (is_orderly r parts lays) c shape.Entrance dir s) s.cell s.turned))
      (giver_cases parts (is_orderly r parts lays) s.index link)

  -- ---- where inputs begin

  pub input_cell : (i : ℕ) (c : Cell) (input : IsInput parts i) → IsAt parts i c → c ≡ input.part.cell
  input_cell i c input at = own_cell input.part c (input_no_splitter parts i input) (covers_at parts i input.part c input.is_i at)

  starts_said : (i : ℕ) (c : Cell) (input : IsInput parts i) → IsAt parts i c → OneSaid S (starters r.rect c)
  starts_said i c input at =
      let dir = input.part.dir in
      let cell = input_cell i c input at in
      said_flat S (λ d. where_outside r.rect (behind d c) (holds c shape.Belt d ∷ holds c shape.Entrance d ∷ [])) dirs dir (in_dirs dir)
      (one_outside S r.rect (behind dir c) (holds c shape.Belt dir ∷ holds c shape.Entrance dir ∷ [])
      (subst (λ x. IsInside r.rect (behind dir x) → ⊥) (sym cell) (lays.fits.inputs i input.part input input.is_i))
      (⊎_elim
      (λ k. inl (record { index = i; part = input.part; is_part = input.is_i; kind = k; turned = refl; cell = cell }))
      (λ k. inr (inl (record { index = i; part = input.part; is_part = input.is_i; kind = k; turned = refl; cell = cell })))
      input.kind))

  begins_stay : IsRequest r → (c : Cell) → AllStay S (begin_rules r c)
  begins_stay is c = (
    λ given. starts_said given.0.0 c given.0.1 given.0.2,
    (
      (λ given.
          let e = input_lies r parts lays given.0.0 given.0.1 in
          one_of_map S (Carries c) (input_classes r) (class_at r parts lays e.0) (input_listed r parts lays is e.0 e.2.0 e.1.0 e.2.1)
          (given.0.0, given.0.2, lies_class r parts lays given.0.0 e.0 e.1)),
      tt,
    ),
  )

  -- ---- once

  -- a cell hands on in one direction
  one_way : (c : Cell) (d e : Dir) → GoesOn parts c d → GoesOn parts c e → d ≡ e
  one_way c d e g h =
      let index : g.giver ≡ h.giver = one_there parts (placed_of r parts lays) g.giver h.giver c g.feeds.look.giver h.feeds.look.giver in
      let part = same_part parts h.giver g.feeds.look.giver.part h.feeds.look.giver.part
      (subst (λ j. HasPart parts j g.feeds.look.giver.part) index g.feeds.look.giver.is_i) h.feeds.look.giver.is_i in
      sym g.along ∙ ap (λ p. p.dir) part ∙ h.along

  -- a cell is handed to from one direction
  pub one_into : (c : Cell) (d e : Dir) → GoesOn parts (behind d c) d → GoesOn parts (behind e c) e → d ≡ e
  one_into c d e g h =
      let there_g : IsAt parts g.taker c = subst (IsAt parts g.taker) (step_behind d c) (taker_there (behind d c) d g) in
      let there_h : IsAt parts h.taker c = subst (IsAt parts h.taker) (step_behind e c) (taker_there (behind e c) e h) in
      let index : h.taker ≡ g.taker = one_there parts (placed_of r parts lays) h.taker g.taker c there_h there_g in
      let taker = g.feeds.look.taker.part in
      let is_taker = g.feeds.look.taker.is_i in
      let h_taker = subst (λ j. HasPart parts j h.feeds.look.taker.part) index h.feeds.look.taker.is_i in
      let same : h.feeds.look.taker.part ≡ taker = same_part parts g.taker h.feeds.look.taker.part taker h_taker is_taker in
      by taker taker.kind refl is_taker g.feeds.takes g.feeds.look.comes
      (subst (λ p. TakesFrom p.kind h.feeds.side) same h.feeds.takes) (subst (λ p. ComesFrom h.feeds.look.giver.part.dir p.dir h.feeds.side) same h.feeds.look.comes)
      (subst (λ j. Feeds parts h.giver j) index (behind e c, h.feeds))
    where
      by : (taker : Part) (k : Kind) → taker.kind ≡ k → HasPart parts g.taker taker → TakesFrom taker.kind g.feeds.side → ComesFrom g.feeds.look.giver.part.dir taker.dir g.feeds.side
          → TakesFrom taker.kind h.feeds.side → ComesFrom h.feeds.look.giver.part.dir taker.dir h.feeds.side → Feeds parts h.giver g.taker → d ≡ e
      by taker kind.Belt k is takes comes takes2 comes2 other =
          ⊎_elim
          (λ same. sym g.along ∙ ap (λ p. p.dir) (same_part parts h.giver g.feeds.look.giver.part h.feeds.look.giver.part
          (subst (λ j. HasPart parts j g.feeds.look.giver.part) same g.feeds.look.giver.is_i) h.feeds.look.giver.is_i) ∙ h.along)
          (λ apart. absurd (lays.shows.clean.no_side_load g.taker (inl (record {
            belt = taker;
            is_i = is;
            kind = k;
            one = g.giver;
            two = h.giver;
            apart = apart;
            one_feeds = (behind d c, g.feeds);
            two_feeds = other;
          }))))
          (cases_eq g.giver h.giver)
      by taker kind.Exit k is takes comes takes2 comes2 other = absurd (subst (λ x. TakesFrom x g.feeds.side) k takes)
      by taker kind.Entrance k is takes comes takes2 comes2 other =
          straight g.feeds.side h.feeds.side (subst (λ x. TakesFrom x g.feeds.side) k takes) (subst (λ x. TakesFrom x h.feeds.side) k takes2) comes comes2
        where
          straight : (s t : Side) → s ≡ Behind → t ≡ Behind → ComesFrom g.feeds.look.giver.part.dir taker.dir s → ComesFrom h.feeds.look.giver.part.dir taker.dir t → d ≡ e
          straight s t es et cs ct = sym g.along ∙ subst (ComesFrom g.feeds.look.giver.part.dir taker.dir) es cs ∙ sym (subst (ComesFrom h.feeds.look.giver.part.dir taker.dir) et ct) ∙ h.along
      by taker kind.Splitter k is takes comes takes2 comes2 other =
          straight g.feeds.side h.feeds.side (subst (λ x. TakesFrom x g.feeds.side) k takes) (subst (λ x. TakesFrom x h.feeds.side) k takes2) comes comes2
        where
          straight : (s t : Side) → s ≡ Behind → t ≡ Behind → ComesFrom g.feeds.look.giver.part.dir taker.dir s → ComesFrom h.feeds.look.giver.part.dir taker.dir t → d ≡ e
          straight s t es et cs ct = sym g.along ∙ subst (ComesFrom g.feeds.look.giver.part.dir taker.dir) es cs ∙ sym (subst (ComesFrom h.feeds.look.giver.part.dir taker.dir) et ct) ∙ h.along

  -- an input isn't handed to
  input_still : (c : Cell) (i : ℕ) (d : Dir) → IsInput parts i → IsAt parts i c → GoesOn parts (behind d c) d → ⊥
  input_still c i d input at g =
      let there : IsAt parts g.taker c = subst (IsAt parts g.taker) (step_behind d c) (taker_there (behind d c) d g) in
      input.unfed g.giver (behind d c, subst (λ j. FeedsFrom parts g.giver (behind d c) j) (one_there parts (placed_of r parts lays) g.taker i c there at) g.feeds)

  -- what may be handed into a cell is told of different cells
  into_of : (c : Cell) (f : Fact) → In (flat_map (goes_into r.rect c) dirs) f → (d : Dir) × (f ≡ Goes (behind d c) d)
  into_of c f h =
      let found = from_flat (goes_into r.rect c) dirs f h in
      (found.0, from_into c found.0 f found.2)

  distinct_into : (c : Cell) → Distinct (flat_map (goes_into r.rect c) dirs)
  distinct_into c = distinct_flat (goes_into r.rect c) dirs distinct_dirs
      (λ d. ⊎_elim
      (λ i. subst (λ b. Distinct (cond b (Goes (behind d c) d ∷ []) [])) (sym i.1) ((λ n. n), tt))
      (λ o. subst (λ b. Distinct {X = Fact} (cond b (Goes (behind d c) d ∷ []) [])) (sym o.1) tt) (inside_cases r.rect (behind d c)))
      (λ d e f h k. let same : Goes (behind d c) d ≡ Goes (behind e c) e = sym (from_into c d f h) ∙ from_into c e f k in cc)

  -- two that come into a cell are one
  one_comes : (c : Cell) (f g : Fact) → In (Begins c ∷ flat_map (goes_into r.rect c) dirs) f → In (Begins c ∷ flat_map (goes_into r.rect c) dirs) g → S f → S g → f ≡ g
  one_comes c f g (inl e) (inl h) p q = e ∙ sym h
  one_comes c f g (inl e) (inr h) p q =
      let a = into_of c g h in let begins = subst S e p in
      absurd (input_still c begins.0 a.0 begins.1 begins.2 (subst S a.1 q))
  one_comes c f g (inr h) (inl e) p q =
      let a = into_of c f h in let begins = subst S e q in
      absurd (input_still c begins.0 a.0 begins.1 begins.2 (subst S a.1 p))
  one_comes c f g (inr h) (inr k) p q =
      let a = into_of c f h in
      let b = into_of c g k in
      a.1 ∙ ap (λ d. Goes (behind d c) d) (one_into c a.0 b.0 (subst S a.1 p) (subst S b.1 q)) ∙ sym b.1

  onces_stay : (c : Cell) → AllStay S (once_rules r.rect c)
  onces_stay c = each_both (Stays S)
      (at_most_one (map (Goes c) dirs)) (at_most_one (Begins c ∷ flat_map (goes_into r.rect c) dirs))
      (at_most_stays S (map (Goes c) dirs) (distinct_map (Goes c) (λ x y e. cc) dirs distinct_dirs)
      (λ f g in_f in_g p q.
      let a = from_map (Goes c) dirs f in_f in
      let b = from_map (Goes c) dirs g in_g in
      a.2 ∙ ap (Goes c) (one_way c a.0 b.0 (subst S a.2 p) (subst S b.2 q)) ∙ sym b.2))
      (at_most_stays S (Begins c ∷ flat_map (goes_into r.rect c) dirs)
      ((λ h. let a = into_of c (Begins c) h in let e = a.1 in cc), distinct_into c) (one_comes c))

  pub handing_stay : IsRequest r → (c : Cell) → AllStay S (handing_rules r c)
  handing_stay is c =
      let going = flat_map (going_rules r.rect c) dirs in
      each_both (Stays S) (going ++ map (fed_belt r.rect c) dirs ++ map (fed_entrance r.rect c) dirs ++ begin_rules r c) (once_rules r.rect c)
      (each_four (Stays S) going (map (fed_belt r.rect c) dirs) (map (fed_entrance r.rect c) dirs) (begin_rules r c)
      (each_flat (Stays S) (going_rules r.rect c) dirs (λ d at. going_stay c d))
      (each_map (Stays S) (fed_belt r.rect c) dirs (λ d at. belts_stay c d))
      (each_map (Stays S) (fed_entrance r.rect c) dirs (λ d at. entrances_stay c d))
      (begins_stay is c))
      (onces_stay c)
