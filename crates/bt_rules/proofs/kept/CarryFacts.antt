-- How classes go on from cell to cell.
use Rattle.std.proofs.Common.{◌≡◌, true, not, List, [], ◌∷◌, ◌++◌, map, cond, ap, subst, ⊎_elim}
use Rattle.std.specs.List.{flat_map, filter}
use Rattle.std.proofs.lemmas.Bool.{cases_Bool}
use Rattle.bt_parts.specs.declared.part.Cell.{Cell}
use Rattle.bt_parts.specs.declared.part.Dir.{Dir}
use Rattle.bt_parts.specs.Cells.{step, IsInside}
use Rattle.bt_facts.specs.declared.fact.Class.{Class}
use Rattle.bt_facts.specs.declared.fact.Fact.TheVariants.{Carries, HalfOn, Goes}
use Rattle.bt_facts.specs.declared.fact.Shape.{Shape}
use Rattle.bt_rules.specs.Carrying.{carried_rules, taken_rule, kept_in_rules, onward_rules}
use Rattle.bt_demands.specs.Classes.{classes_of, splitters_of, ends_out}
use Rattle.bt_facts.specs.Facts.{holds}
use Rattle.bt_rules.specs.Going.{runners}
use Rattle.bt_facts.specs.Rules.{Rule, not_all, Keeps}
use Rattle.bt_facts.specs.Spots.{dirs, is_inside}
use Rattle.bt_facts.proofs.Geometry.{in_dirs}
use Rattle.bt_facts.proofs.Keeping.{In, in_filter}
use Rattle.bt_rules.proofs.kept.Readings.{all_left, all_mapped, all_flat}
use Rattle.bt_rules.proofs.kept.Geometry.{inside_true, inside_false}
use Rattle.bt_rules.proofs.kept.Solved.{Solved, Says, Kept, carrying_kept}

module _ (w : Solved) (c : Cell) (h : IsInside w.r.rect c) (dir : Dir) where
  going_on : List Rule
  going_on = flat_map (carried_rules w.r c dir) (classes_of w.r)

  taken_in : List Rule
  taken_in = map (taken_rule w.r c dir) (splitters_of w.r)

  kept_in : List Rule
  kept_in = flat_map (kept_in_rules c dir) (filter (λ k. not (ends_out w.r k)) (classes_of w.r))

  onward_kept : Kept w (cond {A = List Rule} (is_inside w.r.rect (step dir c)) (going_on ++ taken_in) kept_in)
  unfolding going_on taken_in kept_in
  onward_kept = all_flat (Keeps w.reading) (onward_rules w.r c) dir dirs (carrying_kept w c h) (in_dirs dir)

  on_kept : IsInside w.r.rect (step dir c) → Kept w (going_on ++ taken_in)
  on_kept i = subst (λ b. Kept w (cond {A = List Rule} b (going_on ++ taken_in) kept_in)) (inside_true w.r.rect (step dir c) i) onward_kept

  out_kept : (IsInside w.r.rect (step dir c) → ⊥) → Kept w kept_in
  out_kept o = subst (λ b. Kept w (cond {A = List Rule} b (going_on ++ taken_in) kept_in)) (inside_false w.r.rect (step dir c) o) onward_kept

  module _ (k : Class) (there : In (classes_of w.r) k) where
    -- the class goes on to a part that is no half
    pub class_on : IsInside w.r.rect (step dir c) → Says w (Goes c dir) → Says w (Carries c k) → (Says w (HalfOn (step dir c)) → ⊥) → Says w (Carries (step dir c) k)
    unfolding going_on
    class_on i goes s no_half =
        let kept = all_flat (Keeps w.reading) (carried_rules w.r c dir) k (classes_of w.r)
        (all_left (Keeps w.reading) going_on taken_in (on_kept i)) there in
        ⊎_elim (λ half. absurd (no_half half)) (λ more. ⊎_elim (λ t. t) (λ none. absurd none) more) (kept.0 (goes, (s, tt)))

    -- out of the rectangle goes only a class of which an edge ends at an output
    pub class_ends : (of : Shape) → In runners of → (IsInside w.r.rect (step dir c) → ⊥) → Says w (Carries c k) → Says w (holds c of dir) → ends_out w.r k ≡ true
    unfolding kept_in
    class_ends of runs out s t =
        ⊎_elim (λ yes. yes)
        (λ no. absurd (all_mapped (Keeps w.reading) (λ x. not_all (Carries c k ∷ holds c x dir ∷ [])) of runners
        (all_flat (Keeps w.reading) (kept_in_rules c dir) k (filter (λ x. not (ends_out w.r x)) (classes_of w.r)) (out_kept out)
        (in_filter (λ x. not (ends_out w.r x)) (classes_of w.r) k there (ap not no))) runs (s, (t, tt))))
        (cases_Bool (ends_out w.r k))
