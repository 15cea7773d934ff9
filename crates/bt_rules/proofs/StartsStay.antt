-- Layouts keep the rules of inputs that lead to outputs.
use Rattle.std.proofs.Common.{◌≡◌, inl, ℕ, ◌<◌, Bool, true, false, ◌&&◌, cond, List, [], ◌++◌, length, map, get_or, refl, sym, ◌∙◌, ap, subst, arith}
use Rattle.std.specs.List.{flat_map}
use Rattle.std.proofs.lemmas.Option.{slice_get-get_or, same_Some}
use Rattle.bt_parts.specs.declared.part.Cell.{Cell}
use Rattle.bt_parts.specs.declared.part.Part.{Part}
use Rattle.bt_parts.specs.Cells.{opposite}
use Rattle.bt_parts.specs.Layouts.{IsAt}
use Rattle.bt_net.specs.declared.network.End.TheVariants as end
use Rattle.bt_net.specs.declared.network.Start.{Start}
use Rattle.bt_net.specs.declared.network.Start.TheVariants as from
use Rattle.bt_net.specs.declared.network.Target.{Target}
use Rattle.bt_net.specs.declared.network.Target.TheVariants as to
use Rattle.bt_net.specs.Network.{is_input}
use Rattle.bt_model.specs.Chains.{IsInput}
use Rattle.bt_model.specs.Laying.{Lays}
use Rattle.bt_model.specs.Requests.{LayoutRequest}
use Rattle.bt_facts.specs.declared.fact.Class.TheVariants.{Shared, Input}
use Rattle.bt_facts.specs.declared.fact.Fact.{Fact}
use Rattle.bt_facts.specs.declared.fact.Fact.TheVariants.{Starts}
use Rattle.bt_demands.specs.Classes.{is_pinned, side_of, class_between, leads_out, is_through}
use Rattle.bt_facts.specs.Rules.{exactly_one}
use Rattle.bt_facts.specs.Spots.{border_of}
use Rattle.bt_demands.specs.Starts.{start_rules, input_rules}
use Rattle.bt_rules.proofs.CarryingStay.{there_has}
use Rattle.bt_rules.proofs.Classed.{the_edge, class_at, one_class, lies_class, input_lies, from_start, input_start, out_target}
use Rattle.bt_facts.proofs.Decided.{contains_at}
use Rattle.bt_facts.proofs.Geometry.{in_border, distinct_border}
use Rattle.bt_rules.proofs.GoingStay.{input_cell}
use Rattle.bt_facts.proofs.Keeping.{from_map, place_of, from_any, both_true, distinct_map, each_both, each_flat, one_of_map, at_most_stays, AllStay, Stays}
use Rattle.bt_rules.proofs.Laid.{Said, inside_at}
use Rattle.bt_rules.proofs.Reading.{Bears, no_edge}
use Rattle.bt_rules.proofs.StandingStay.{HasSaid}

module _ (r : LayoutRequest) (parts : List Part) (lays : Lays parts r) where
  abbrev S : Fact → Type 0
  S = Said r parts lays

  -- the part that bears the number of an input is one
  pub named_input : (k i : ℕ) → Bears lays.naming.inputs k i → IsInput parts i
  named_input k i named = lays.shows.names.inputs.only i (contains_at lays.naming.inputs k i named)

  -- the edge of an input that leads to an output
  through_edge : (i : ℕ) → is_through r i ≡ true
      → (e : ℕ) × (e < length r.net.edges) × ((the_edge r parts lays e).start ≡ from.Input i) × ((o : ℕ) × ((the_edge r parts lays e).target ≡ to.Output o))
  through_edge i t =
      let found = from_any (λ edge. is_input i edge && leads_out edge) r.net.edges t in
      let place = place_of r.net.edges found.0 found.1 in
      let tests = both_true (is_input i found.0) (leads_out found.0) found.2 in
      let out = out_target found.0 tests.1 in (
        place.0,
        place.1,
        ap (λ x. x.start) (place.2 no_edge) ∙ input_start i found.0 tests.0,
        (out.0, ap (λ x. x.target) (place.2 no_edge) ∙ out.1),
      )

  -- the class of an edge between these
  class_at_is : (e : ℕ) (start : Start) (target : Target) → (the_edge r parts lays e).start ≡ start → (the_edge r parts lays e).target ≡ target → class_at r parts lays e ≡ class_between r.demands start target
  class_at_is e start target s t = ap (λ x. class_between r.demands x (the_edge r parts lays e).target) s ∙ ap (class_between r.demands start) t

  -- a class that is an input's is that of its edge
  own_class : (k i : ℕ) (target : Target) → class_between r.demands (from.Input k) target ≡ Input i → k ≡ i
  own_class k i (to.Output o) e = cc
  own_class k i (to.Split t) e = by (is_pinned r.demands k) e
    where
      by : (b : Bool) → cond b (Input k) (Shared t (side_of r.demands (end.Input k))) ≡ Input i → k ≡ i
      by true e = cc
      by false e = absurd (cc)

  starts_stay : (i : ℕ) → is_through r i ≡ true → (c : Cell) → AllStay S (start_rules i c)
  starts_stay i t c = (
    λ given. let named = given.0 in inl (named.index, named_input i named.index named.named, named.at),
    (
      (λ given.
          let named = given.0 in
          let edge = through_edge i t in
          inl (
            named.index,
            named.at,
            subst (HasSaid r parts lays named.index) (class_at_is edge.0 (from.Input i) (to.Output edge.3.0) edge.2 edge.3.1)
                (lies_class r parts lays named.index edge.0 (from_start r parts lays edge.0 i named.index edge.1 edge.2 named.named)),
          )),
      (
        (λ given.
            let begins = given.0 in
            let lies = input_lies r parts lays begins.0 begins.1 in
            let same : class_at r parts lays lies.0 ≡ Input i = one_class r parts lays begins.0 (class_at r parts lays lies.0) (Input i)
            (lies_class r parts lays begins.0 lies.0 lies.1) (there_has r parts lays c begins.0 (Input i) begins.2 given.1.0) in
            let number : lies.2.0 ≡ i = own_class lies.2.0 i (the_edge r parts lays lies.0).target
            (sym (ap (λ x. class_between r.demands x (the_edge r parts lays lies.0).target) lies.2.1) ∙ same) in
            inl (record { index = begins.0; named = subst (λ k. Bears lays.naming.inputs k begins.0) number lies.2.2; at = begins.2 })),
        tt,
      ),
    ),
  )

  starts_once : (k : ℕ) → k < r.net.inputs → AllStay S (exactly_one (map (λ c. Starts c k) (border_of r.rect)))
  starts_once k lt = (
    λ none.
        let names = lays.shows.names in
        let count = names.input_count in
        let index = get_or lays.naming.inputs k 0 in
        let named : Bears lays.naming.inputs k index = slice_get-get_or lays.naming.inputs k 0 (omega (arith, count, lt)) in
        let input = named_input k index named in
        let cell = input.part.cell in
        let at : IsAt parts index cell = record { part = input.part; is_i = input.is_i; covers = inl refl } in
        one_of_map S (λ c. Starts c k) (border_of r.rect) cell
        (in_border r.rect (opposite input.part.dir) cell (inside_at r parts lays index cell at) (lays.fits.inputs index input.part input input.is_i))
        (record { index = index; named = named; at = at }),
    at_most_stays S (map (λ c. Starts c k) (border_of r.rect)) (distinct_map (λ c. Starts c k) (λ x y e. cc) (border_of r.rect) (distinct_border r.rect))
        (λ f g in_f in_g p q.
        let a = from_map (λ c. Starts c k) (border_of r.rect) f in_f in
        let b = from_map (λ c. Starts c k) (border_of r.rect) g in_g in
        let one = subst S a.2 p in let other = subst S b.2 q in
        let index : one.index ≡ other.index = same_Some one.index other.index (sym one.named ∙ other.named) in
        let input = named_input k other.index other.named in
        let same : a.0 ≡ b.0 = input_cell r parts lays other.index a.0 input (subst (λ j. IsAt parts j a.0) index one.at) ∙ sym (input_cell r parts lays other.index b.0 input other.at) in
        a.2 ∙ ap (λ c. Starts c k) same ∙ sym b.2),
  )

  pub inputs_stay : (k : ℕ) → k < r.net.inputs → AllStay S (input_rules r k)
  inputs_stay k lt = by (is_through r k) refl
    where
      by : (b : Bool) → is_through r k ≡ b → AllStay S (cond b (exactly_one (map (λ c. Starts c k) (border_of r.rect)) ++ flat_map (start_rules k) (border_of r.rect)) [])
      by true t = each_both (Stays S) (exactly_one (map (λ c. Starts c k) (border_of r.rect))) (flat_map (start_rules k) (border_of r.rect)) (starts_once k lt)
          (each_flat (Stays S) (start_rules k) (border_of r.rect) (λ c h. starts_stay k t c))
      by false t = tt
