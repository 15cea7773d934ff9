use Rattle.std.proofs.Common.{FitsSigned, rules, arith, ap, ◌∙◌, ◌++◌, ◌∷◌, [], ◌≡◌, ◌≢◌, ◌≤◌, pos, length, drop, ◌+◌, sym, subst}
use Rattle.std.specs.Int.{w64}
use Rattle.std.proofs.lemmas.Int.{to_z-of_z, ints}
use Rattle.std.proofs.lemmas.List.{drop_all}
use Rattle.bt_linear_forms.specs.Shorts.{IsSmall}
use Rattle.bt_linear_forms.proofs.ShortWalks.{IsShortWalk, rest_left, rest_right, short_begins, short_stays, short_grows, short_ends}
use Rattle.bt_linear_forms.proofs.short.merging.merged.Goals.{then-loop-first-test+else-second-right, else-loop-first-test}
use Rattle.bt_linear_forms.proofs.short.merging.merged.Goals as goal

pub loop-first-init : goal.loop-first-init
loop-first-init c = record {
  walk = subst (λ l. IsShortWalk c.args.left.now c.args.right.now c.args.scales.now.left c.args.scales.now.right c.args.scales.now.under l c.args.left.now c.args.right.now) (sym c.requires.empty)
      (short_begins c.args.left.now c.args.right.now c.args.scales.now.left c.args.scales.now.right c.args.scales.now.under);
  first_within = omega arith;
  second_within = omega arith;
  room = omega arith;
}

pub loop-first-preserved-then-step-ne0 : goal.loop-first-preserved-then-step-ne0
loop-first-preserved-then-step-ne0 c =
    let step = c.first_step-step.result in
    let number_fits : FitsSigned w64 step.number = search rules in
    let not : step.number ≢ pos 0 = λ e. grind (arith, ints) in
    let small_is = simp to_z-of_z at c.is_small.ensures in
    let small : IsSmall step.number = search rules in
    let made = simp to_z-of_z at c.of.ensures in
    let items = c.push_reserved.ensures.items ∙ ap (λ e. c.loop-first.terms.items ++ e ∷ []) made in
    record {
      walk = subst (λ l. IsShortWalk c.args.left.now c.args.right.now c.args.scales.now.left c.args.scales.now.right c.args.scales.now.under l (drop step.left c.args.left.now) (drop step.right c.args.right.now)) (sym items)
          (short_grows c.args.left.now c.args.right.now c.args.scales.now.left c.args.scales.now.right c.args.scales.now.under c.loop-first.terms.items (drop c.loop-first.first c.args.left.now)
          (drop c.loop-first.second c.args.right.now) (drop step.left c.args.left.now) (drop step.right c.args.right.now) step.position step.number c.loop-first.invariant.walk c.first_step-step.ensures.step not small);
      first_within = omega arith;
      second_within = omega arith;
      room = omega arith;
    }

pub loop-first-preserved : goal.loop-first-preserved
loop-first-preserved c =
    let step = c.first_step-step.result in
    let number_fits : FitsSigned w64 step.number = search rules in
    let none : step.number ≡ pos 0 = grind (arith, ints) in
    record {
      walk =
          short_stays c.args.left.now c.args.right.now c.args.scales.now.left c.args.scales.now.right c.args.scales.now.under c.loop-first.terms.items (drop c.loop-first.first c.args.left.now)
          (drop c.loop-first.second c.args.right.now) (drop step.left c.args.left.now) (drop step.right c.args.right.now) step.position step.number c.loop-first.invariant.walk c.first_step-step.ensures.step none;
      first_within = omega arith;
      second_within = omega arith;
      room = omega arith;
    }

pub loop-first-2-init : goal.loop-first-2-init
loop-first-2-init c = record {
  merge = c.loop-first.invariant;
  past = elim c.loop-first-test.branch [
    | then-loop-first-test+else-second-right w ↦ λ h. omega arith
    | else-loop-first-test w ↦ λ h. absurd (omega arith)
  ];
}

pub loop-first-2-preserved-then-scaled-ne0 : goal.loop-first-2-preserved-then-scaled-ne0
loop-first-2-preserved-then-scaled-ne0 c =
    let t = c.term_at-position.result in
    let number = c.product-scaled.result in
    let t_fits : FitsSigned w64 t.1 = search rules in
    let by_fits : FitsSigned w64 c.args.scales.now.left = search rules in
    let number_fits : FitsSigned w64 number = search rules in
    let product = simp to_z-of_z at c.product-scaled.ensures in
    let step = rest_left c.args.left.now c.args.right.now c.args.scales.now.left c.args.scales.now.right c.args.scales.now.under c.loop-first-2.first c.loop-first.second t number c.term_at-position.ensures.rest c.term_at-position.ensures.small (c.loop-first-2.invariant.past c.loop-first-2-test.true) product in
    let not : number ≢ pos 0 = λ e. grind (arith, ints) in
    let small_is = simp to_z-of_z at c.is_small-then-scaled-ne0.ensures in
    let small : IsSmall number = small_is.0 c.if-not-is_small-2.false in
    let made = simp to_z-of_z at c.of-then-scaled-ne0.ensures in
    let items = c.push_reserved-then-scaled-ne0.ensures.items ∙ ap (λ e. c.loop-first-2.terms.items ++ e ∷ []) made in
    record {
      merge = record {
        walk = subst (λ l. IsShortWalk c.args.left.now c.args.right.now c.args.scales.now.left c.args.scales.now.right c.args.scales.now.under l (drop (c.loop-first-2.first + 1) c.args.left.now) (drop c.loop-first.second c.args.right.now)) (sym items)
            (short_grows c.args.left.now c.args.right.now c.args.scales.now.left c.args.scales.now.right c.args.scales.now.under c.loop-first-2.terms.items (drop c.loop-first-2.first c.args.left.now) (drop c.loop-first.second c.args.right.now) (drop (c.loop-first-2.first + 1) c.args.left.now) (drop c.loop-first.second c.args.right.now) t.0 number c.loop-first-2.invariant.merge.walk step not small);
        first_within = omega arith;
        second_within = omega arith;
        room = omega arith;
      };
      past = λ h. c.loop-first-2.invariant.past c.loop-first-2-test.true;
    }

pub loop-first-2-preserved : goal.loop-first-2-preserved
loop-first-2-preserved c =
    let t = c.term_at-position.result in
    let number = c.product-scaled.result in
    let t_fits : FitsSigned w64 t.1 = search rules in
    let by_fits : FitsSigned w64 c.args.scales.now.left = search rules in
    let number_fits : FitsSigned w64 number = search rules in
    let product = simp to_z-of_z at c.product-scaled.ensures in
    let step = rest_left c.args.left.now c.args.right.now c.args.scales.now.left c.args.scales.now.right c.args.scales.now.under c.loop-first-2.first c.loop-first.second t number c.term_at-position.ensures.rest c.term_at-position.ensures.small (c.loop-first-2.invariant.past c.loop-first-2-test.true) product in
    let none : number ≡ pos 0 = grind (arith, ints) in
    record {
      merge = record {
        walk = short_stays c.args.left.now c.args.right.now c.args.scales.now.left c.args.scales.now.right c.args.scales.now.under c.loop-first-2.terms.items (drop c.loop-first-2.first c.args.left.now) (drop c.loop-first.second c.args.right.now) (drop (c.loop-first-2.first + 1) c.args.left.now) (drop c.loop-first.second c.args.right.now) t.0 number c.loop-first-2.invariant.merge.walk step none;
        first_within = omega arith;
        second_within = omega arith;
        room = omega arith;
      };
      past = λ h. c.loop-first-2.invariant.past c.loop-first-2-test.true;
    }

pub loop-second-preserved-then-other_scaled-ne0 : goal.loop-second-preserved-then-other_scaled-ne0
loop-second-preserved-then-other_scaled-ne0 c =
    let t = c.term_at-other_position.result in
    let number = c.product-other_scaled.result in
    let t_fits : FitsSigned w64 t.1 = search rules in
    let by_fits : FitsSigned w64 c.args.scales.now.right = search rules in
    let number_fits : FitsSigned w64 number = search rules in
    let product = simp to_z-of_z at c.product-other_scaled.ensures in
    let step = rest_right c.args.left.now c.args.right.now c.args.scales.now.left c.args.scales.now.right c.args.scales.now.under c.loop-first-2.first c.loop-second.second t number c.term_at-other_position.ensures.rest c.term_at-other_position.ensures.small c.loop-second.invariant.past product in
    let not : number ≢ pos 0 = λ e. grind (arith, ints) in
    let small_is = simp to_z-of_z at c.is_small-then-other_scaled-ne0.ensures in
    let small : IsSmall number = small_is.0 c.if-not-is_small-3.false in
    let made = simp to_z-of_z at c.of-then-other_scaled-ne0.ensures in
    let items = c.push_reserved-then-other_scaled-ne0.ensures.items ∙ ap (λ e. c.loop-second.terms.items ++ e ∷ []) made in
    record {
      merge = record {
        walk = subst (λ l. IsShortWalk c.args.left.now c.args.right.now c.args.scales.now.left c.args.scales.now.right c.args.scales.now.under l (drop c.loop-first-2.first c.args.left.now) (drop (c.loop-second.second + 1) c.args.right.now)) (sym items)
            (short_grows c.args.left.now c.args.right.now c.args.scales.now.left c.args.scales.now.right c.args.scales.now.under c.loop-second.terms.items (drop c.loop-first-2.first c.args.left.now) (drop c.loop-second.second c.args.right.now) (drop c.loop-first-2.first c.args.left.now) (drop (c.loop-second.second + 1) c.args.right.now) t.0 number c.loop-second.invariant.merge.walk step not small);
        first_within = omega arith;
        second_within = omega arith;
        room = omega arith;
      };
      past = c.loop-second.invariant.past;
    }

pub loop-second-preserved : goal.loop-second-preserved
loop-second-preserved c =
    let t = c.term_at-other_position.result in
    let number = c.product-other_scaled.result in
    let t_fits : FitsSigned w64 t.1 = search rules in
    let by_fits : FitsSigned w64 c.args.scales.now.right = search rules in
    let number_fits : FitsSigned w64 number = search rules in
    let product = simp to_z-of_z at c.product-other_scaled.ensures in
    let step = rest_right c.args.left.now c.args.right.now c.args.scales.now.left c.args.scales.now.right c.args.scales.now.under c.loop-first-2.first c.loop-second.second t number c.term_at-other_position.ensures.rest c.term_at-other_position.ensures.small c.loop-second.invariant.past product in
    let none : number ≡ pos 0 = grind (arith, ints) in
    record {
      merge = record {
        walk = short_stays c.args.left.now c.args.right.now c.args.scales.now.left c.args.scales.now.right c.args.scales.now.under c.loop-second.terms.items (drop c.loop-first-2.first c.args.left.now) (drop c.loop-second.second c.args.right.now) (drop c.loop-first-2.first c.args.left.now) (drop (c.loop-second.second + 1) c.args.right.now) t.0 number c.loop-second.invariant.merge.walk step none;
        first_within = omega arith;
        second_within = omega arith;
        room = omega arith;
      };
      past = c.loop-second.invariant.past;
    }

pub returns : goal.returns
returns c =
    let past : length c.args.right.now ≤ c.loop-second.second = omega arith in
    short_ends c.args.left.now c.args.right.now c.args.scales.now.left c.args.scales.now.right c.args.scales.now.under c.loop-second.terms.items (drop c.loop-first-2.first c.args.left.now)
    (drop c.loop-second.second c.args.right.now) c.loop-second.invariant.merge.walk (drop_all c.loop-first-2.first c.args.left.now c.loop-second.invariant.past) (drop_all c.loop-second.second c.args.right.now past)
