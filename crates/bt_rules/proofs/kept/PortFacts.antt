-- Which half of a splitter takes which of its in edges, and which gives.
use Rattle.std.proofs.Common.{◌≡◌, ℕ, zero, suc, ◌<◌, Bool, true, false, List, [], ◌∷◌, ◌++◌, length, cond, Some, refl, sym, subst, inl, ⊎_elim, arith}
use Rattle.std.specs.List.{flat_map, filter, slice_get}
use Rattle.std.proofs.lemmas.Bool.{both_ways}
use Rattle.std.proofs.lemmas.Option.{same_Some, none-some}
use Rattle.bt_parts.specs.declared.part.Cell.{Cell}
use Rattle.bt_parts.specs.declared.part.Dir.{Dir}
use Rattle.bt_parts.specs.Cells.{IsInside}
use Rattle.bt_net.specs.declared.network.Edge.{Edge}
use Rattle.bt_net.specs.Network.{leaves}
use Rattle.bt_facts.specs.declared.fact.Class.{Class}
use Rattle.bt_facts.specs.declared.fact.Fact.{Fact}
use Rattle.bt_facts.specs.declared.fact.Fact.TheVariants.{Carries, Goes, At, EntersLesser, LeavesLesser}
use Rattle.bt_facts.specs.declared.fact.Half.{Half}
use Rattle.bt_facts.specs.declared.fact.Half.TheVariants.{Lesser, Greater}
use Rattle.bt_demands.specs.Classes.{same_class, classes_into}
use Rattle.bt_facts.specs.Facts.{goes_into}
use Rattle.bt_rules.specs.Ports.{carries_into, two_in_rules, in_rules, out_rules, standing_port_rules}
use Rattle.bt_facts.specs.Rules.{Rule, rule, not_all, rule_by, AllHold, OneHolds, Keeps}
use Rattle.bt_facts.specs.Spots.{dirs, halves, other_half, mate, half_at, behind, cells_of}
use Rattle.bt_facts.proofs.Geometry.{in_cells, in_dirs, in_halves}
use Rattle.bt_facts.proofs.Keeping.{In}
use Rattle.bt_rules.proofs.kept.Readings.{all_left, all_right, all_flat, all_mapped}
use Rattle.bt_rules.proofs.kept.Geometry.{where_in}
use Rattle.bt_rules.proofs.Classed.{class_same}
use Rattle.bt_rules.proofs.kept.Solved.{Solved, Says, Kept, one_inside, port_kept}
use Rattle.bt_rules.proofs.kept.SplitFacts.{half_cases, other_apart}

-- the half of which a fact tells
abbrev pub half_by : Bool → Half
half_by true = Lesser
half_by false = Greater

-- the half at a rank: the first one, and then the other
abbrev pub placed : Half → ℕ → Half
placed first zero = first
placed first (suc j) = other_half first

pub placed_one : (first : Half) (i j : ℕ) → i < 2 → j < 2 → placed first i ≡ placed first j → i ≡ j
placed_one first zero zero lt_i lt_j e = refl
placed_one first zero (suc j) lt_i lt_j e = absurd (other_apart first e)
placed_one first (suc i) zero lt_i lt_j e = absurd (other_apart first (sym e))
placed_one first (suc i) (suc j) lt_i lt_j e = omega arith

-- a rule that goes by this half holds for it
ruled : (reading : Fact → Bool) (half : Half) (by_lesser : Fact) (given one_of : List Fact) → half ≡ half_by (reading by_lesser)
    → Keeps reading (rule_by half by_lesser given one_of) → AllHold reading given → OneHolds reading one_of
ruled reading half by_lesser given one_of is kept all = by half (reading by_lesser) refl is kept where
  by : (half : Half) (b : Bool) → reading by_lesser ≡ b → half ≡ half_by b → Keeps reading (rule_by half by_lesser given one_of) → OneHolds reading one_of
  by Lesser true e is kept = kept (e, all)
  by Lesser false e is kept = absurd (cc)
  by Greater true e is kept = absurd (cc)
  by Greater false e is kept = ⊎_elim (λ t. absurd (both_ways (reading by_lesser) e t)) (λ more. more) (kept all)

module _ (w : Solved) (s : ℕ) (lt : s < w.r.net.splitters) (c : Cell) (dir : Dir) (h : IsInside w.r.rect c) (near : IsInside w.r.rect (mate Lesser dir c)) (at : Says w (At s c dir)) where
  -- something comes to the half
  abbrev pub Taken : Half → Type 0
  Taken half = IsInside w.r.rect (behind dir (half_at half dir c)) × Says w (Goes (behind dir (half_at half dir c)) dir)

  -- with this class
  abbrev pub TakenAs : Half → Class → Type 0
  TakenAs half k = Taken half × Says w (Carries (behind dir (half_at half dir c)) k)

  -- the half hands on
  abbrev pub Given : Half → Type 0
  Given half = Says w (Goes (half_at half dir c) dir)

  ins : Half → List Rule
  ins half = in_rules w.r.rect s (At s c dir) c dir (classes_into w.r s) half

  outs : Half → List Rule
  outs half = out_rules w.r s (At s c dir) c dir (filter (leaves s) w.r.net.edges) half

  ports_kept : Kept w (flat_map ins halves ++ flat_map outs halves)
  unfolding ins outs
  ports_kept =
      subst (Kept w) (where_in w.r.rect (mate Lesser dir c) (flat_map (in_rules w.r.rect s (At s c dir) c dir (classes_into w.r s)) halves
      ++ flat_map (out_rules w.r s (At s c dir) c dir (filter (leaves s) w.r.net.edges)) halves) near)
      (all_flat (Keeps w.reading) (standing_port_rules w.r s c) dir dirs
      (all_flat (Keeps w.reading) (λ x. flat_map (standing_port_rules w.r s x) dirs) c (cells_of w.r.rect) (port_kept w s lt) (in_cells w.r.rect c h)) (in_dirs dir))

  pub in_kept : (half : Half) → Kept w (in_rules w.r.rect s (At s c dir) c dir (classes_into w.r s) half)
  unfolding ins
  in_kept half = all_flat (Keeps w.reading) ins half halves (all_left (Keeps w.reading) (flat_map ins halves) (flat_map outs halves) ports_kept) (in_halves half)

  pub out_kept : (half : Half) → Kept w (out_rules w.r s (At s c dir) c dir (filter (leaves s) w.r.net.edges) half)
  unfolding outs
  out_kept half = all_flat (Keeps w.reading) outs half halves (all_right (Keeps w.reading) (flat_map ins halves) (flat_map outs halves) ports_kept) (in_halves half)

  taken_of : (half : Half) → OneHolds w.reading (goes_into w.r.rect (half_at half dir c) dir) → Taken half
  taken_of half one =
      let got = one_inside w (behind dir (half_at half dir c)) (Goes (behind dir (half_at half dir c)) dir ∷ []) one in
      (got.0, ⊎_elim (λ e. e) (λ none. absurd none) got.1)

  class_of_half : (half : Half) (k : Class) → OneHolds w.reading (carries_into w.r.rect (half_at half dir c) dir k) → Says w (Carries (behind dir (half_at half dir c)) k)
  class_of_half half k one =
      let got = one_inside w (behind dir (half_at half dir c)) (Carries (behind dir (half_at half dir c)) k ∷ []) one in
      ⊎_elim (λ e. e) (λ none. absurd none) got.1

  in_goes : (half : Half) → Taken half → In (goes_into w.r.rect (half_at half dir c) dir) (Goes (behind dir (half_at half dir c)) dir)
  in_goes half taken = subst (λ facts. In facts (Goes (behind dir (half_at half dir c)) dir))
      (sym (where_in w.r.rect (behind dir (half_at half dir c)) (Goes (behind dir (half_at half dir c)) dir ∷ []) taken.0)) (inl refl)

  -- ---- in edges

  -- the half by which the first of the edges into the splitter comes in
  abbrev pub in_first : Half
  in_first = half_by (w.reading (EntersLesser s))

  abbrev InKept : List Class → Type 0
  InKept classes = (half : Half) → Kept w (in_rules w.r.rect s (At s c dir) c dir classes half)

  two_kept : (half : Half) (k l : Class) → half ≡ in_first → Kept w (two_in_rules w.r.rect s (At s c dir) c dir half k l)
      → Kept w (two_in_rules w.r.rect s (At s c dir) c dir (other_half half) k l)
      → Says w (Carries (behind dir (half_at half dir c)) k) × Says w (Carries (behind dir (half_at (other_half half) dir c)) l)
  two_kept half k l is one other = by (same_class k l) refl one other where
    by : (b : Bool) → same_class k l ≡ b
        → Kept w (cond b (rule (At s c dir ∷ []) (carries_into w.r.rect (half_at half dir c) dir k) ∷ [])
        (rule_by half (EntersLesser s) (At s c dir ∷ []) (carries_into w.r.rect (half_at half dir c) dir k)
        ∷ rule_by half (EntersLesser s) (At s c dir ∷ []) (carries_into w.r.rect (half_at (other_half half) dir c) dir l) ∷ []))
        → Kept w (cond b (rule (At s c dir ∷ []) (carries_into w.r.rect (half_at (other_half half) dir c) dir k) ∷ [])
        (rule_by (other_half half) (EntersLesser s) (At s c dir ∷ []) (carries_into w.r.rect (half_at (other_half half) dir c) dir k)
        ∷ rule_by (other_half half) (EntersLesser s) (At s c dir ∷ []) (carries_into w.r.rect (half_at (other_half (other_half half)) dir c) dir l) ∷ []))
        → Says w (Carries (behind dir (half_at half dir c)) k) × Says w (Carries (behind dir (half_at (other_half half) dir c)) l)
    by true e x y = (
      class_of_half half k (x.0 (at, tt)),
      subst (λ z. Says w (Carries (behind dir (half_at (other_half half) dir c)) z)) (class_same k l e) (class_of_half (other_half half) k (y.0 (at, tt))),
    )
    by false e x y = (
      class_of_half half k (ruled w.reading half (EntersLesser s) (At s c dir ∷ []) (carries_into w.r.rect (half_at half dir c) dir k) is x.0 (at, tt)),
      class_of_half (other_half half) l
          (ruled w.reading half (EntersLesser s) (At s c dir ∷ []) (carries_into w.r.rect (half_at (other_half half) dir c) dir l) is x.1.0 (at, tt)),
    )

  taken_at : (classes : List Class) → InKept classes → (j : ℕ) (k : Class) → j < 2 → slice_get classes j ≡ Some k → TakenAs (placed in_first j) k
  taken_at [] kept j k few there = absurd (none-some k there)
  taken_at (l ∷ []) kept zero k few there =
      let same : l ≡ k = same_Some l k there in
      let rules = kept in_first in (
        taken_of in_first (ruled w.reading in_first (EntersLesser s) (At s c dir ∷ []) (goes_into w.r.rect (half_at in_first dir c) dir) refl rules.0 (at, tt)),
        subst (λ z. Says w (Carries (behind dir (half_at in_first dir c)) z)) same
            (class_of_half in_first l (ruled w.reading in_first (EntersLesser s) (At s c dir ∷ []) (carries_into w.r.rect (half_at in_first dir c) dir l) refl rules.1.0 (at, tt))),
      )
  taken_at (l ∷ []) kept (suc j) k few there = absurd (none-some k there)
  taken_at (l ∷ m ∷ more) kept zero k few there =
      let same : l ≡ k = same_Some l k there in
      let rules = kept in_first in (
        taken_of in_first (rules.0 (at, tt)),
        subst (λ z. Says w (Carries (behind dir (half_at in_first dir c)) z)) same
            (two_kept in_first l m refl rules.1 (kept (other_half in_first)).1).0,
      )
  taken_at (l ∷ m ∷ more) kept (suc zero) k few there =
      let same : m ≡ k = same_Some m k there in
      let rules = kept (other_half in_first) in (
        taken_of (other_half in_first) (rules.0 (at, tt)),
        subst (λ z. Says w (Carries (behind dir (half_at (other_half in_first) dir c)) z)) same
            (two_kept in_first l m refl (kept in_first).1 rules.1).1,
      )
  taken_at (l ∷ m ∷ more) kept (suc (suc j)) k few there = absurd (omega arith)

  edge_of_taken : (classes : List Class) → InKept classes → (half : Half) → Taken half → (j : ℕ) × (j < length classes) × (placed in_first j ≡ half)
  edge_of_taken [] kept half taken =
      absurd (all_mapped (Keeps w.reading) (λ going. not_all (At s c dir ∷ going ∷ [])) (Goes (behind dir (half_at half dir c)) dir)
      (goes_into w.r.rect (half_at half dir c) dir) (kept half) (in_goes half taken) (at, (taken.1, tt)))
  edge_of_taken (l ∷ []) kept half taken =
      ⊎_elim (λ e. (0, omega arith, sym e))
      (λ e.
      let other : Taken (other_half in_first) = subst Taken e taken in
      absurd (ruled w.reading in_first (EntersLesser s) (At s c dir ∷ Goes (behind dir (half_at (other_half in_first) dir c)) dir ∷ []) [] refl
      (all_mapped (Keeps w.reading) (λ going. rule_by in_first (EntersLesser s) (At s c dir ∷ going ∷ []) []) (Goes (behind dir (half_at (other_half in_first) dir c)) dir)
      (goes_into w.r.rect (half_at (other_half in_first) dir c) dir) (kept in_first).1.1 (in_goes (other_half in_first) other)) (at, (other.1, tt))))
      (half_cases in_first half)
  edge_of_taken (l ∷ m ∷ more) kept half taken =
      ⊎_elim (λ e. (0, omega arith, sym e)) (λ e. (1, omega arith, sym e)) (half_cases in_first half)

  -- the edge at a rank is taken by its half
  pub in_taken : (j : ℕ) (k : Class) → j < 2 → slice_get (classes_into w.r s) j ≡ Some k → TakenAs (placed in_first j) k
  in_taken = taken_at (classes_into w.r s) in_kept

  -- what a half takes is an edge
  pub in_edge : (half : Half) → Taken half → (j : ℕ) × (j < length (classes_into w.r s)) × (placed in_first j ≡ half)
  in_edge = edge_of_taken (classes_into w.r s) in_kept

  -- ---- out edges

  abbrev OutKept : List Edge → Type 0
  OutKept edges = (half : Half) → Kept w (out_rules w.r s (At s c dir) c dir edges half)

  -- how the halves hand on the out edges: none, or one by one of them alone, or more by both
  pub data Outs : List Edge → Type 0 where
    out_none : ((half : Half) → Given half → ⊥) → Outs []
    out_one : (edge : Edge) (first : Half) → Given first → (Given (other_half first) → ⊥) → Outs (edge ∷ [])
    out_two : (one other : Edge) (more : List Edge) → ((half : Half) → Given half) → Outs (one ∷ other ∷ more)

  outs_of : (edges : List Edge) → OutKept edges → Outs edges
  outs_of [] kept = out_none (λ half given. (kept half).0 (at, (given, tt)))
  outs_of (edge ∷ []) kept =
      let first = half_by (w.reading (LeavesLesser s)) in
      out_one edge first
      (⊎_elim (λ e. e) (λ none. absurd none)
      (ruled w.reading first (LeavesLesser s) (At s c dir ∷ []) (Goes (half_at first dir c) dir ∷ []) refl (kept first).0 (at, tt)))
      (λ given. ruled w.reading first (LeavesLesser s) (At s c dir ∷ Goes (half_at (other_half first) dir c) dir ∷ []) [] refl (kept first).1.1.0 (at, (given, tt)))
  outs_of (one ∷ other ∷ more) kept = out_two one other more (λ half. ⊎_elim (λ e. e) (λ none. absurd none) ((kept half).0 (at, tt)))

  pub outs_here : Outs (filter (leaves s) w.r.net.edges)
  outs_here = outs_of (filter (leaves s) w.r.net.edges) out_kept
