-- Pins: on the cell of a pin stands its end, with the class of its edge.
use Rattle.std.proofs.Common.{◌≡◌, ◌⊎◌, ◌≢◌, ℕ, suc, ◌&&◌, Bool, true, false, List, [], ◌∷◌, ◌++◌, map, Option, Some, None, get_or, refl, sym, ◌∙◌, ap, subst, inl, inr, ⊎_elim}
use Rattle.std.specs.Option.{IfSome}
use Rattle.std.specs.Prelude.{◌==◌}
use Rattle.std.specs.List.{AllByRecursion, filter, slice_get}
use Rattle.std.proofs.lemmas.Bool.{cases_eq, cases_order, eq-eqb, false≢true}
use Rattle.std.proofs.lemmas.Option.{slice_get_within, get_or_from_slice_get}
use Rattle.bt_parts.specs.declared.part.Dir.{Dir}
use Rattle.bt_parts.specs.Cells.{step, IsInside}
use Rattle.bt_net.specs.declared.network.Demand.{Demand}
use Rattle.bt_net.specs.declared.network.Demand.TheVariants as demand
use Rattle.bt_net.specs.declared.network.Edge.{Edge}
use Rattle.bt_net.specs.declared.network.End.{End}
use Rattle.bt_net.specs.declared.network.End.TheVariants.{Input, Output}
use Rattle.bt_net.specs.declared.network.Pin.{Pin}
use Rattle.bt_net.specs.declared.network.Side.{Side}
use Rattle.bt_net.specs.declared.network.Start.TheVariants as from
use Rattle.bt_net.specs.declared.network.Target.TheVariants as to
use Rattle.bt_model.specs.Requests.{Names, NameOneEnd, pinned}
use Rattle.bt_facts.specs.declared.fact.Fact.{Fact}
use Rattle.bt_facts.specs.declared.fact.Fact.TheVariants.{Carries, Begins}
use Rattle.bt_facts.specs.declared.fact.Shape.{Shape}
use Rattle.bt_facts.specs.declared.fact.Shape.TheVariants as shape
use Rattle.bt_demands.specs.Classes.{class_of, is_end_input, pins_input, is_pinned, names}
use Rattle.bt_demands.specs.Enders.{enders}
use Rattle.bt_facts.specs.Facts.{holds}
use Rattle.bt_rules.specs.Going.{runners}
use Rattle.bt_demands.specs.Pinning.{is_edge_of, pin_class_rules, end_facts, end_shapes, turned_rules, same_kind, pins_clash, clashes, clash_rules}
use Rattle.bt_facts.specs.Rules.{some_of, not_all, OneHolds, Keeps}
use Rattle.bt_facts.specs.Spots.{dirs, others_than, where_outside}
use Rattle.bt_facts.proofs.Decided.{contains_at, same_dir}
use Rattle.bt_facts.proofs.Geometry.{in_others}
use Rattle.bt_facts.proofs.Keeping.{In, from_flat, in_filter}
use Rattle.bt_demands.proofs.Sharing.{names_true, true_names}
use Rattle.bt_rules.proofs.kept.Readings.{all_left, all_right, all_mapped, all_flat, one_in, one_from}
use Rattle.bt_rules.proofs.kept.ListFacts.{contains_in}
use Rattle.bt_rules.proofs.kept.RankFacts.{has_any}
use Rattle.bt_rules.proofs.kept.NetFacts.{IsEdge, input_by, output_by}
use Rattle.bt_rules.proofs.kept.Solved.{Solved, Says, Kept, one_outside, demand_kept, clashes_kept}

pub in_at : {X : Type 0} (xs : List X) (k : ℕ) (x : X) → slice_get xs k ≡ Some x → In xs x
in_at xs k x at = contains_in xs x (contains_at xs k x at)

pub in_place : {X : Type 0} (xs : List X) (x : X) → In xs x → (k : ℕ) × (slice_get xs k ≡ Some x)
in_place [] x h = absurd h
in_place (y ∷ ys) x (inl e) = (0, ap Some (sym e))
in_place (y ∷ ys) x (inr h) = let found = in_place ys x h in (suc found.0, found.1)

end_cases : (a b : End) → (a ≡ b) ⊎ (a ≢ b)
end_cases (Input i) (Input j) = ⊎_elim (λ e. inl (ap Input e)) (λ apart. inr (λ e. apart (cc))) (cases_eq i j)
end_cases (Input i) (Output j) = inr (λ e. cc)
end_cases (Output i) (Input j) = inr (λ e. cc)
end_cases (Output i) (Output j) = ⊎_elim (λ e. inl (ap Output e)) (λ apart. inr (λ e. apart (cc))) (cases_eq i j)

-- the end is pinned, or it isn't
pub pin_cases : (demands : List Demand) (end : End) → ((pin : Pin) × In demands (demand.Pin pin) × (pin.end ≡ end)) ⊎ ((pin : Pin) → In demands (demand.Pin pin) → pin.end ≡ end → ⊥)
pin_cases [] end = inr (λ pin there e. there)
pin_cases (demand.Side s ∷ demands) end =
    ⊎_elim (λ found. inl (found.0, inr found.1, found.2)) (λ none. inr (λ pin there e. ⊎_elim (λ same. cc) (λ h. none pin h e) there)) (pin_cases demands end)
pin_cases (demand.Row row ∷ demands) end =
    ⊎_elim (λ found. inl (found.0, inr found.1, found.2)) (λ none. inr (λ pin there e. ⊎_elim (λ same. cc) (λ h. none pin h e) there)) (pin_cases demands end)
pin_cases (demand.Pin p ∷ demands) end =
    ⊎_elim (λ e. inl (p, inl refl, e))
    (λ apart. ⊎_elim (λ found. inl (found.0, inr found.1, found.2)) (λ none. inr (λ pin there e. later pin apart none there e)) (pin_cases demands end))
    (end_cases p.end end)
  where
    later : (pin : Pin) → p.end ≢ end → ((q : Pin) → In demands (demand.Pin q) → q.end ≡ end → ⊥) → In (demand.Pin p ∷ demands) (demand.Pin pin) → pin.end ≡ end → ⊥
    later pin apart none (inl same) e = let pins : pin ≡ p = cc in apart (ap (λ z. z.end) (sym pins) ∙ e)
    later pin apart none (inr there) e = none pin there e

-- a side is said of the end, or none is
pub side_cases : (demands : List Demand) (e : End) → ((side : Side) × In demands (demand.Side side) × Names side.ends e) ⊎ ((side : Side) → In demands (demand.Side side) → Names side.ends e → ⊥)
side_cases [] e = inr (λ side there named. there)
side_cases (demand.Pin p ∷ demands) e =
    ⊎_elim (λ found. inl (found.0, inr found.1, found.2)) (λ none. inr (λ side there named. ⊎_elim (λ same. cc) (λ h. none side h named) there)) (side_cases demands e)
side_cases (demand.Row row ∷ demands) e =
    ⊎_elim (λ found. inl (found.0, inr found.1, found.2)) (λ none. inr (λ side there named. ⊎_elim (λ same. cc) (λ h. none side h named) there)) (side_cases demands e)
side_cases (demand.Side s ∷ demands) e = by (names s.ends e) refl (side_cases demands e) where
  later : (side : Side) → (names s.ends e ≡ false) → ((q : Side) → In demands (demand.Side q) → Names q.ends e → ⊥) → In (demand.Side s ∷ demands) (demand.Side side) → Names side.ends e → ⊥
  later side f none (inl same) named = let sides : side ≡ s = cc in false≢true (sym f ∙ names_true s.ends e (subst (λ z. Names z.ends e) sides named))
  later side f none (inr there) named = none side there named

  by : (b : Bool) → names s.ends e ≡ b
      → ((side : Side) × In demands (demand.Side side) × Names side.ends e) ⊎ ((side : Side) → In demands (demand.Side side) → Names side.ends e → ⊥)
      → ((side : Side) × In (demand.Side s ∷ demands) (demand.Side side) × Names side.ends e)
      ⊎ ((side : Side) → In (demand.Side s ∷ demands) (demand.Side side) → Names side.ends e → ⊥)
  by true t rest = inl (s, inl refl, true_names s.ends e t)
  by false f rest = ⊎_elim (λ found. inl (found.0, inr found.1, found.2)) (λ none. inr (λ side there named. later side f none there named)) rest

three_true : (a b c : Bool) → a ≡ true → b ≡ true → c ≡ true → (a && b && c) ≡ true
three_true true true c e f g = g
three_true true false c e f g = absurd (false≢true f)
three_true false b c e f g = absurd (false≢true e)

-- two outputs on one cell clash
outputs_clash : (p q : Pin) (o u : ℕ) → p.end ≡ Output o → q.end ≡ Output u → pinned p ≡ pinned q → pins_clash p q ≡ true
outputs_clash p q o u e f same =
    let x : p.x ≡ q.x = let h = ap (λ c. c.x) same in cc in
    let y : p.y ≡ q.y = let h = ap (λ c. c.y) same in cc in
    three_true (same_kind p.end q.end) (p.x == q.x) (p.y == q.y)
    (ap (λ z. same_kind z q.end) e ∙ ap (λ z. same_kind (Output o) z) f) (eq-eqb p.x q.x x) (eq-eqb p.y q.y y)

no_clash : (reading : Fact → Bool) (demands : List Demand) (p q : Demand) → AllByRecursion (Keeps reading) (clash_rules demands) → In demands p → In demands q
    → clashes p q ≡ true → clashes q p ≡ true → p ≡ q
no_clash reading [] p q kept a b one other = absurd a
no_clash reading (x ∷ xs) p q kept (inl e) (inl f) one other = e ∙ sym f
no_clash reading (x ∷ xs) p q kept (inl e) (inr b) one other =
    absurd (all_mapped (Keeps reading) (λ z. some_of []) q (filter (clashes x) xs)
    (all_left (Keeps reading) (map (λ z. some_of []) (filter (clashes x) xs)) (clash_rules xs) kept)
    (in_filter (clashes x) xs q b (subst (λ z. clashes z q ≡ true) e one)) tt)
no_clash reading (x ∷ xs) p q kept (inr a) (inl f) one other =
    absurd (all_mapped (Keeps reading) (λ z. some_of []) p (filter (clashes x) xs)
    (all_left (Keeps reading) (map (λ z. some_of []) (filter (clashes x) xs)) (clash_rules xs) kept)
    (in_filter (clashes x) xs p a (subst (λ z. clashes z p ≡ true) f other)) tt)
no_clash reading (x ∷ xs) p q kept (inr a) (inr b) one other =
    no_clash reading xs p q (all_right (Keeps reading) (map (λ z. some_of []) (filter (clashes x) xs)) (clash_rules xs) kept) a b one other

-- the pin is one of the request
abbrev pub HasPin : Solved → Pin → Type 0
HasPin w pin = In w.r.demands (demand.Pin pin)

module _ (w : Solved) where
  -- an end is named by one line
  pub one_demand : (p q : Demand) → In w.r.demands p → In w.r.demands q → NameOneEnd p q → p ≡ q
  one_demand p q a b share =
      let i = in_place w.r.demands p a in
      let j = in_place w.r.demands q b in
      let at_i = get_or_from_slice_get w.r.demands i.0 p p i.1 in
      let at_j = get_or_from_slice_get w.r.demands j.0 q p j.1 in
      ⊎_elim (λ same. sym at_i ∙ ap (λ k. get_or w.r.demands k p) same ∙ at_j)
      (λ apart. ⊎_elim
      (λ lt. absurd (w.is_request.demands_apart i.0 j.0 p lt (slice_get_within w.r.demands j.0 q j.1)
      (subst (λ z. NameOneEnd z (get_or w.r.demands j.0 p)) (sym at_i) (subst (λ z. NameOneEnd p z) (sym at_j) share))))
      (λ gt. absurd (w.is_request.demands_apart j.0 i.0 p gt (slice_get_within w.r.demands i.0 p i.1)
      (subst (λ z. NameOneEnd z (get_or w.r.demands i.0 p)) (sym at_j) (subst (λ z. NameOneEnd q z) (sym at_i) (sym share.0, (share.1.0, share.1.2, share.1.1)))))) apart)
      (cases_order i.0 j.0)

  -- an end has one pin
  pub one_pin : (p q : Pin) → HasPin w p → HasPin w q → p.end ≡ q.end → p ≡ q
  one_pin p q a b e = let same = one_demand (demand.Pin p) (demand.Pin q) a b (refl, (p.end, refl, e)) in cc

  -- and two outputs don't stand on one cell
  pub one_output : (p q : Pin) (o u : ℕ) → HasPin w p → HasPin w q → p.end ≡ Output o → q.end ≡ Output u → pinned p ≡ pinned q → p ≡ q
  one_output p q o u a b e f same =
      let demands = no_clash w.reading w.r.demands (demand.Pin p) (demand.Pin q) (clashes_kept w) a b (outputs_clash p q o u e f same) (outputs_clash q p u o f e (sym same)) in cc

  module _ (pin : Pin) (there : HasPin w pin) where
    kept : Kept w (pin_class_rules w.r pin ++ (some_of (end_facts w.r.rect (pinned pin) pin.end) ∷ turned_rules (pinned pin) pin.end pin.dir))
    kept = demand_kept w (demand.Pin pin) there

    -- the class of its end's edge
    pub pin_class : (e : ℕ) (edge : Edge) → IsEdge w e edge → is_edge_of pin.end edge ≡ true → Says w (Carries (pinned pin) (class_of w.r.demands edge))
    pin_class e edge is own =
        ⊎_elim (λ s. s) (λ none. absurd none)
        (all_mapped (Keeps w.reading) (λ x. some_of (Carries (pinned pin) (class_of w.r.demands x) ∷ [])) edge (filter (is_edge_of pin.end) w.r.net.edges)
        (all_left (Keeps w.reading) (pin_class_rules w.r pin) (some_of (end_facts w.r.rect (pinned pin) pin.end) ∷ turned_rules (pinned pin) pin.end pin.dir) kept)
        (in_filter (is_edge_of pin.end) w.r.net.edges edge (in_at w.r.net.edges e edge is) own) tt)

    rest : Kept w (some_of (end_facts w.r.rect (pinned pin) pin.end) ∷ turned_rules (pinned pin) pin.end pin.dir)
    rest = all_right (Keeps w.reading) (pin_class_rules w.r pin) (some_of (end_facts w.r.rect (pinned pin) pin.end) ∷ turned_rules (pinned pin) pin.end pin.dir) kept

    pub pin_class_input : (i e : ℕ) (edge : Edge) → pin.end ≡ Input i → IsEdge w e edge → edge.start ≡ from.Input i → Says w (Carries (pinned pin) (class_of w.r.demands edge))
    pin_class_input i e edge ends is starts = pin_class e edge is (ap (λ z. is_edge_of z edge) ends ∙ input_by i edge starts)

    pub pin_class_output : (o e : ℕ) (edge : Edge) → pin.end ≡ Output o → IsEdge w e edge → edge.target ≡ to.Output o → Says w (Carries (pinned pin) (class_of w.r.demands edge))
    pin_class_output o e edge ends is targets = pin_class e edge is (ap (λ z. is_edge_of z edge) ends ∙ output_by o edge targets)

    -- an input begins there
    pub pin_begins : (i : ℕ) → pin.end ≡ Input i → Says w (Begins (pinned pin))
    pin_begins i ends = ⊎_elim (λ s. s) (λ none. absurd none) (subst (λ z. OneHolds w.reading (end_facts w.r.rect (pinned pin) z)) ends (rest.0 tt))

    -- an output ends there
    pub pin_ends : (o : ℕ) → pin.end ≡ Output o
        → (dir : Dir) × (of : Shape) × In runners of × (IsInside w.r.rect (step dir (pinned pin)) → ⊥) × Says w (holds (pinned pin) of dir)
    pin_ends o ends =
        let found = one_in w.reading (enders w.r.rect (pinned pin)) (subst (λ z. OneHolds w.reading (end_facts w.r.rect (pinned pin) z)) ends (rest.0 tt)) in
        let dir = from_flat (λ d. where_outside w.r.rect (step d (pinned pin)) (holds (pinned pin) shape.Belt d ∷ holds (pinned pin) shape.Exit d ∷ [])) dirs found.0 found.1 in
        let got = one_outside w (step dir.0 (pinned pin)) (holds (pinned pin) shape.Belt dir.0 ∷ holds (pinned pin) shape.Exit dir.0 ∷ []) (one_from w.reading found.0 _ dir.2 found.2) in
        ⊎_elim (λ e. (dir.0, shape.Belt, inl refl, got.0, e))
        (λ more. ⊎_elim (λ e. (dir.0, shape.Exit, inr (inl refl), got.0, e)) (λ none. absurd none) more) got.1

    -- the part of a pinned end is turned as the pin says
    pub pin_turned : (of : Shape) (dir : Dir) → In (end_shapes pin.end) of → Says w (holds (pinned pin) of dir) → IfSome pin.dir (λ d. dir ≡ d)
    pin_turned of dir shaped s = by pin.dir rest.1 where
      by : (wanted : Option Dir) → Kept w (turned_rules (pinned pin) pin.end wanted) → IfSome wanted (λ d. dir ≡ d)
      by None rules = tt
      by (Some d) rules =
          ⊎_elim (λ e. sym e)
          (λ apart. absurd (all_mapped (Keeps w.reading) (λ other. not_all (holds (pinned pin) of other ∷ [])) dir (others_than d)
          (all_flat (Keeps w.reading) (λ x. map (λ other. not_all (holds (pinned pin) x other ∷ [])) (others_than d)) of (end_shapes pin.end) rules shaped)
          (in_others d dir (λ e. apart (sym e))) (s, tt)))
          (same_dir d dir)

    -- an input that is pinned is known to be
    pub pinned_input : (i : ℕ) → pin.end ≡ Input i → is_pinned w.r.demands i ≡ true
    pinned_input i ends =
        let place = in_place w.r.demands (demand.Pin pin) there in
        has_any (pins_input i) w.r.demands place.0 (demand.Pin pin) place.1 (ap (λ z. is_end_input i z) ends ∙ eq-eqb i i refl)
