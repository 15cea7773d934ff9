-- The classes of edges from inputs by splitters and sides, and tests of directions and of ends.
use Rattle.std.proofs.Common.{◌≡◌, ◌⊎◌, ℕ, suc, Bool, true, false, cond, List, [], ◌∷◌, Option, Some, None, eqb-true, eq-eqb, refl, sym, ◌∙◌, ap, subst, inl, inr, arith}
use Rattle.std.specs.List.{AllPairs, flat_map}
use Rattle.std.proofs.lemmas.Bool.{false≢true}
use Rattle.bt_parts.specs.declared.part.Dir.{Dir}
use Rattle.bt_parts.specs.declared.part.Dir.TheVariants.{North, East, South, West}
use Rattle.bt_net.specs.declared.network.Demand.{Demand}
use Rattle.bt_net.specs.declared.network.Demand.TheVariants as demand
use Rattle.bt_net.specs.declared.network.End.{End}
use Rattle.bt_net.specs.declared.network.End.TheVariants as end
use Rattle.bt_net.specs.declared.network.Ends.{Ends}
use Rattle.bt_net.specs.declared.network.Ends.TheVariants.{One, Inputs, Outputs}
use Rattle.bt_net.specs.declared.network.Side.{Side}
use Rattle.bt_net.specs.declared.network.Start.TheVariants as from
use Rattle.bt_net.specs.declared.network.Target.{Target}
use Rattle.bt_net.specs.declared.network.Target.TheVariants as to
use Rattle.bt_model.proofs.Sorted.{pairs_tail}
use Rattle.bt_model.specs.Requests.{Names, NameOneEnd}
use Rattle.bt_facts.specs.declared.fact.Class.{Class}
use Rattle.bt_facts.specs.declared.fact.Class.TheVariants.{Shared, Input}
use Rattle.bt_demands.specs.Classes.{is_pinned, same_end, names, side_by, side_of, class_between, same_dir, same_way, ways, shared_into}
use Rattle.bt_facts.specs.Spots.{dirs}
use Rattle.bt_facts.proofs.Geometry.{in_dirs, distinct_dirs}
use Rattle.bt_facts.proofs.Keeping.{In, place_of, in_flat, from_flat, in_map, from_map, Distinct, distinct_map, distinct_flat}

-- ---- directions and sides that are found the same

dir_same : (d e : Dir) → same_dir d e ≡ true → d ≡ e
dir_same North North h = refl
dir_same East East h = refl
dir_same South South h = refl
dir_same West West h = refl
dir_same North East h = absurd (false≢true h)
dir_same North South h = absurd (false≢true h)
dir_same North West h = absurd (false≢true h)
dir_same East North h = absurd (false≢true h)
dir_same East South h = absurd (false≢true h)
dir_same East West h = absurd (false≢true h)
dir_same South North h = absurd (false≢true h)
dir_same South East h = absurd (false≢true h)
dir_same South West h = absurd (false≢true h)
dir_same West North h = absurd (false≢true h)
dir_same West East h = absurd (false≢true h)
dir_same West South h = absurd (false≢true h)

dir_itself : (d : Dir) → same_dir d d ≡ true
dir_itself North = refl
dir_itself East = refl
dir_itself South = refl
dir_itself West = refl

pub way_same : (v w : Option Dir) → same_way v w ≡ true → v ≡ w
way_same None None h = refl
way_same None (Some e) h = absurd (false≢true h)
way_same (Some d) None h = absurd (false≢true h)
way_same (Some d) (Some e) h = ap Some (dir_same d e h)

pub way_itself : (w : Option Dir) → same_way w w ≡ true
way_itself None = refl
way_itself (Some d) = dir_itself d

-- ---- the classes of edges from inputs into splitters

in_ways : (w : Option Dir) → In ways w
in_ways None = inl refl
in_ways (Some d) = inr (in_map Some dirs d (in_dirs d))

distinct_ways : Distinct ways
distinct_ways = ((λ there. let found = from_map Some dirs None there in let e = found.2 in cc), distinct_map Some (λ x y e. cc) dirs distinct_dirs)

pub in_shared : (ts : List ℕ) (t : ℕ) (w : Option Dir) → In ts t → In (flat_map shared_into ts) (Shared t w)
in_shared ts t w there = in_flat shared_into ts t (Shared t w) there (in_map (Shared t) ways w (in_ways w))

pub from_shared : (ts : List ℕ) (k : Class) → In (flat_map shared_into ts) k → (t : ℕ) × (w : Option Dir) × (k ≡ Shared t w)
from_shared ts k there =
    let found = from_flat shared_into ts k there in
    let at = from_map (Shared found.0) ways k found.2 in
    (found.0, at.0, at.2)

pub distinct_shared : (ts : List ℕ) → Distinct ts → Distinct (flat_map shared_into ts)
distinct_shared ts h = distinct_flat shared_into ts h (λ t. distinct_map (Shared t) (λ x y e. cc) ways distinct_ways)
    (λ x y z a b.
    let p = from_map (Shared x) ways z a in
    let q = from_map (Shared y) ways z b in
    let e : Shared x p.0 ≡ Shared y q.0 = sym p.2 ∙ q.2 in cc)

-- ---- ends that are named

end_same : (d e : End) → same_end d e ≡ true → d ≡ e
end_same (end.Input i) (end.Input j) h = ap end.Input (eqb-true i j h)
end_same (end.Input i) (end.Output o) h = absurd (false≢true h)
end_same (end.Output o) (end.Input i) h = absurd (false≢true h)
end_same (end.Output o) (end.Output u) h = ap end.Output (eqb-true o u h)

same_itself : (e : End) → same_end e e ≡ true
same_itself (end.Input i) = eq-eqb i i refl
same_itself (end.Output o) = eq-eqb o o refl

pub names_true : (ends : Ends) (e : End) → Names ends e → names ends e ≡ true
names_true (One one) e h = subst (λ x. same_end e x ≡ true) h (same_itself e)
names_true Inputs (end.Input i) h = refl
names_true Inputs (end.Output o) h = absurd h
names_true Outputs (end.Input i) h = absurd h
names_true Outputs (end.Output o) h = refl

pub true_names : (ends : Ends) (e : End) → names ends e ≡ true → Names ends e
true_names (One one) e h = end_same e one h
true_names Inputs (end.Input i) h = tt
true_names Inputs (end.Output o) h = absurd (false≢true h)
true_names Outputs (end.Input i) h = absurd (false≢true h)
true_names Outputs (end.Output o) h = tt

-- what tells whether the end is named
pub told_names : (b : Bool) (ends : Ends) (e : End) → (b ≡ true → Names ends e) → (Names ends e → b ≡ true) → b ≡ names ends e
told_names true ends e to from = sym (names_true ends e (to refl))
told_names false ends e to from = by (names ends e) refl
  where
    by : (c : Bool) → names ends e ≡ c → false ≡ names ends e
    by true is = absurd (false≢true (from (true_names ends e is)))
    by false is = sym is

-- ---- lines that name no end both

-- the two name no end both
abbrev pub NameApart : Demand → Demand → Type 0
NameApart one other = NameOneEnd one other → ⊥

pub head_apart : (x : Demand) (xs : List Demand) → AllPairs NameApart (x ∷ xs) → (y : Demand) → In xs y → NameOneEnd x y → ⊥
head_apart x xs all y there share =
    let place = place_of xs y there in
    let lt = place.1 in
    all 0 (suc place.0) y (omega arith) (omega (arith, lt)) (subst (λ z. NameOneEnd x z) (sym (place.2 y)) share)

-- ---- the side of an end

-- it is said by a line
pub side_from : (demands : List Demand) (e : End) (dir : Dir) → side_of demands e ≡ Some dir → (side : Side) × In demands (demand.Side side) × Names side.ends e × (side.dir ≡ dir)
side_from [] e dir h = absurd (cc)
side_from (demand.Pin pin ∷ demands) e dir h = let found = side_from demands e dir h in (found.0, inr found.1, found.2, found.3)
side_from (demand.Row row ∷ demands) e dir h = let found = side_from demands e dir h in (found.0, inr found.1, found.2, found.3)
side_from (demand.Side side ∷ demands) e dir h = by (names side.ends e) refl h (side_from demands e dir) where
  by : (b : Bool) → names side.ends e ≡ b → cond b (Some side.dir) (side_of demands e) ≡ Some dir
      → (side_of demands e ≡ Some dir → (s : Side) × In demands (demand.Side s) × Names s.ends e × (s.dir ≡ dir))
      → (s : Side) × In (demand.Side side ∷ demands) (demand.Side s) × Names s.ends e × (s.dir ≡ dir)
  by true t h rest = (side, inl refl, true_names side.ends e t, let same = h in cc)
  by false t h rest = let found = rest h in (found.0, inr found.1, found.2, found.3)

-- and by one alone, where no two name an end
pub side_is : (demands : List Demand) → AllPairs NameApart demands
    → (side : Side) (e : End) → In demands (demand.Side side) → Names side.ends e → side_of demands e ≡ Some side.dir
side_is [] apart side e there named = absurd there
side_is (d ∷ demands) apart side e (inl same) named =
    subst (λ x. side_by x e (side_of demands e) ≡ Some side.dir) same (ap (λ b. cond b (Some side.dir) (side_of demands e)) (names_true side.ends e named))
side_is (demand.Pin pin ∷ demands) apart side e (inr there) named =
    side_is demands (pairs_tail NameApart (demand.Pin pin) demands apart) side e there named
side_is (demand.Row row ∷ demands) apart side e (inr there) named =
    side_is demands (pairs_tail NameApart (demand.Row row) demands apart) side e there named
side_is (demand.Side s ∷ demands) apart side e (inr there) named =
    by (names s.ends e) refl (side_is demands (pairs_tail NameApart (demand.Side s) demands apart) side e there named)
  where
    by : (b : Bool) → names s.ends e ≡ b → side_of demands e ≡ Some side.dir → side_of (demand.Side s ∷ demands) e ≡ Some side.dir
    by true t rest = absurd (head_apart (demand.Side s) demands apart (demand.Side side) there (refl, (e, true_names s.ends e t, named)))
    by false t rest = ap (λ b. cond b (Some s.dir) (side_of demands e)) t ∙ rest

-- ---- inputs of one class stand at one side

pub class_side : (demands : List Demand) (j k : ℕ) (a b : Target) (dir : Dir) → class_between demands (from.Input j) a ≡ class_between demands (from.Input k) b
    → side_of demands (end.Input j) ≡ Some dir → (j ≡ k) ⊎ (side_of demands (end.Input k) ≡ Some dir)
class_side demands j k (to.Output o) (to.Output u) dir e h = inl (cc)
class_side demands j k (to.Output o) (to.Split t) dir e h = by (is_pinned demands k) e where
  by : (b : Bool) → Input j ≡ cond b (Input k) (Shared t (side_of demands (end.Input k))) → (j ≡ k) ⊎ (side_of demands (end.Input k) ≡ Some dir)
  by true e = inl (cc)
  by false e = absurd (cc)
class_side demands j k (to.Split s) (to.Output u) dir e h = by (is_pinned demands j) e where
  by : (b : Bool) → cond b (Input j) (Shared s (side_of demands (end.Input j))) ≡ Input k → (j ≡ k) ⊎ (side_of demands (end.Input k) ≡ Some dir)
  by true e = inl (cc)
  by false e = absurd (cc)
class_side demands j k (to.Split s) (to.Split t) dir e h = by (is_pinned demands j) (is_pinned demands k) e where
  by : (a b : Bool) → cond a (Input j) (Shared s (side_of demands (end.Input j))) ≡ cond b (Input k) (Shared t (side_of demands (end.Input k)))
      → (j ≡ k) ⊎ (side_of demands (end.Input k) ≡ Some dir)
  by true true e = inl (cc)
  by true false e = absurd (cc)
  by false true e = absurd (cc)
  by false false e = inr (let same : side_of demands (end.Input j) ≡ side_of demands (end.Input k) = cc in sym same ∙ h)
