-- The kept parts fit the request.
use Rattle.std.proofs.Common.{◌≡◌, ◌⊎◌, ◌≢◌, ℕ, List, refl, sym, ◌∙◌, ap, subst, inl, inr, ⊎_elim}
use Rattle.bt_parts.specs.declared.part.Kind.TheVariants as kind
use Rattle.bt_parts.specs.declared.part.Part.{Part}
use Rattle.bt_parts.specs.Cells.{step, opposite, IsInside}
use Rattle.bt_parts.specs.Layouts.{HasPart, IsAt}
use Rattle.bt_parts.proofs.Places.{same_part}
use Rattle.bt_model.specs.Chains.{IsInput, IsOutput}
use Rattle.bt_model.specs.Laying.{Fits}
use Rattle.bt_model.specs.Requests.{blocked}
use Rattle.bt_model.specs.Shown.{ListsEach}
use Rattle.bt_facts.specs.declared.fact.Fact.TheVariants.{Begins}
use Rattle.bt_facts.specs.declared.fact.Half.{Half}
use Rattle.bt_facts.specs.declared.fact.Shape.{Shape}
use Rattle.bt_facts.specs.declared.fact.Shape.TheVariants as shape
use Rattle.bt_facts.specs.Facts.{holds}
use Rattle.bt_rules.specs.Going.{runners}
use Rattle.bt_facts.specs.Spots.{behind}
use Rattle.bt_rules.specs.Kept.{kind_of, IsKeptPart}
use Rattle.bt_facts.proofs.Keeping.{In}
use Rattle.bt_rules.proofs.kept.ListFacts.{contains_in, all_from}
use Rattle.bt_rules.proofs.kept.Solved.{Solved, Says, block_kept}
use Rattle.bt_rules.proofs.kept.CellFacts.{one_dir, not_empty}
use Rattle.bt_rules.proofs.kept.GoingFacts.{runner_goes, giver_there, begun_there}
use Rattle.bt_rules.proofs.kept.Arrivals.{reached_inside, FromCell, taken_reached}
use Rattle.bt_rules.proofs.kept.PartFacts.{standing, kept_part, part_there, at_there, own_at}
use Rattle.bt_rules.proofs.kept.HandFacts.{going_feeds, next_there}

-- ---- shapes by kinds

end_shape : (of : Shape) (part : Part) → part.kind ≡ kind_of of → (part.kind ≡ kind.Belt) ⊎ (part.kind ≡ kind.Entrance)
    → ((half : Half) → of ≢ shape.Half half) × (of ≢ shape.Exit)
end_shape of part is (inl k) = (λ half e. let a = ap kind_of e in cc, λ e. let a = ap kind_of e in cc)
end_shape of part is (inr k) = (λ half e. let a = ap kind_of e in cc, λ e. let a = ap kind_of e in cc)

runner_shape : (of : Shape) → (kind_of of ≡ kind.Belt) ⊎ (kind_of of ≡ kind.Exit) → In runners of
runner_shape shape.Belt k = inl refl
runner_shape shape.Entrance (inl k) = absurd (cc)
runner_shape shape.Entrance (inr k) = absurd (cc)
runner_shape shape.Exit k = inr (inl refl)
runner_shape (shape.Half half) (inl k) = absurd (cc)
runner_shape (shape.Half half) (inr k) = absurd (cc)

module _ (w : Solved) (parts : List Part) (lists : ListsEach (IsKeptPart w.r w.reading) parts) where
  -- a belt or an entrance that nothing feeds begins an input
  pub input_begins : (i : ℕ) (part : Part) → HasPart parts i part → IsInput parts i → Says w (Begins part.cell)
  input_begins i part is_i input =
      let kept = kept_part w parts lists i part is_i in
      let kinds : (part.kind ≡ kind.Belt) ⊎ (part.kind ≡ kind.Entrance) =
      subst (λ p. (p.kind ≡ kind.Belt) ⊎ (p.kind ≡ kind.Entrance)) (same_part parts i input.part part input.is_i is_i) input.kind in
      let plain = end_shape kept.of part kept.is_kind kinds in
      ⊎_elim (λ begins. begins) (λ from. absurd (fed from))
      (taken_reached w part.cell kept.of part.dir kept.reached kept.stands plain.0 plain.1)
    where
      fed : FromCell w part.cell → ⊥
      fed from =
          let giver = giver_there w from.near (reached_inside w from.near from.reached) from.way from.goes in
          let there = part_there w parts lists giver.0 from.way from.near from.reached giver.2 in
          input.unfed there.0 (
            from.near,
            going_feeds w parts lists from.near from.way from.reached from.goes there.0 i (at_there w parts lists there.0 giver.0 from.way from.near there.1)
                (subst (IsAt parts i) from.ahead (own_at w parts lists i part is_i)),
          )

  -- an output faces the outside, with a belt or an exit
  pub output_faces : (i : ℕ) (part : Part) → HasPart parts i part → IsOutput parts i
      → (of : Shape) × In runners of × Says w (holds part.cell of part.dir) × (IsInside w.r.rect (step part.dir part.cell) → ⊥)
  output_faces i part is_i output =
      let kept = kept_part w parts lists i part is_i in
      let same = same_part parts i output.part part output.is_i is_i in
      let runs = runner_shape kept.of (subst (λ k. (k ≡ kind.Belt) ⊎ (k ≡ kind.Exit)) (ap (λ p. p.kind) same ∙ kept.is_kind) output.kind) in (
        kept.of,
        runs,
        kept.stands,
        λ inside.
            let goes = runner_goes w part.cell (reached_inside w part.cell kept.reached) kept.of part.dir runs inside kept.stands in
            let next = next_there w parts lists part.cell part.dir kept.reached goes in
            output.clear next.0 (subst (λ p. IsAt parts next.0 (step p.dir p.cell)) (sym same) next.1),
      )

  pub fits : Fits parts w.r
  fits = record {
    inside = λ i c at. reached_inside w c (standing w parts lists i c at).reached;
    unblocked = λ i block there at.
        let here = standing w parts lists i (blocked block) at in
        not_empty w (blocked block) (reached_inside w (blocked block) here.reached) here.of here.dir here.says
        (⊎_elim (λ e. e) (λ none. absurd none) (block_kept w block (contains_in w.r.blocks block there) tt));
    one_tier = all_from (λ part. part.tier ≡ w.r.tier) parts (λ i part is_i. (kept_part w parts lists i part is_i).tier);
    inputs = λ i part input is_i inside. behind_outside i part input is_i inside;
    outputs = λ i part output is_i inside. (output_faces i part is_i output).3 inside;
  } where
    behind_outside : (i : ℕ) (part : Part) → IsInput parts i → HasPart parts i part → IsInside w.r.rect (step (opposite part.dir) part.cell) → ⊥
    behind_outside i part input is_i inside =
        let kept = kept_part w parts lists i part is_i in
        let here = reached_inside w part.cell kept.reached in
        let begins = begun_there w part.cell here (input_begins i part is_i input) in
        let same : begins.0 ≡ part.dir = ⊎_elim
        (λ s. one_dir w part.cell here shape.Belt kept.of begins.0 part.dir s kept.stands)
        (λ s. one_dir w part.cell here shape.Entrance kept.of begins.0 part.dir s kept.stands) begins.2 in
        begins.1 (subst (λ d. IsInside w.r.rect (behind d part.cell)) (sym same) inside)
