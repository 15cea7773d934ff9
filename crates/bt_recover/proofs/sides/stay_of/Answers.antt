use Rattle.std.proofs.Common.{◌≡◌, true, false, inl, inr, refl, sym, subst, ◌∙◌}
use Rattle.bt_recover.specs.Sides.{IsAtSideOf}
use Rattle.bt_recover.proofs.SideLemmas.{one_across}
use Rattle.bt_recover.proofs.sides.stay_of.Goals as goal

pub returns-then-is_at_side : goal.returns-then-is_at_side
returns-then-is_at_side c = inl (c.side_ahead-dir.result, (c.side_ahead-dir.ensures, c.if-is_at_side.ensures.0 refl), refl)

pub returns-else-is_at_side : goal.returns-else-is_at_side
returns-else-is_at_side c = inr (
  λ dir looks.
      let same = one_across c.args.end dir c.side_ahead-dir.result (sym looks.0 ∙ c.side_ahead-dir.ensures) in
      let f : false ≡ true = c.if-is_at_side.ensures.1 (subst (λ d. IsAtSideOf c.args.parts.now d c.args.part.now.cell) same looks.1) in
      cc,
  refl,
)
