use Rattle.std.proofs.Common.{subst, ◌∷◌}
use Rattle.bt_text.specs.Blanks.{SkipsBlanks}
use Rattle.bt_designs.proofs.Blanks.{one_rest}
use Rattle.bt_designs.proofs.design.is_json.Goals as goal

pub returns : goal.returns
returns c = (
  λ h. let found = c.begins_with_brace.ensures.0 h in (found.0, subst (λ x. SkipsBlanks c.args.bytes.now x) found.1 c.skip_blanks.ensures),
  λ j. c.begins_with_brace.ensures.1 (j.0, one_rest c.args.bytes.now c.skip_blanks.result.now (123 ∷ j.0) c.skip_blanks.ensures j.1),
)
