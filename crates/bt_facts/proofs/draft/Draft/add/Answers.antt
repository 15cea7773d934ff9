use Rattle.std.proofs.Common.{◌++◌, ◌∷◌, [], map, true, false, ◌∙◌, ap}
use Rattle.bt_facts.specs.Rules.{rule}
use Rattle.bt_facts.specs.Drafts.{claim, rule_of}
use Rattle.bt_facts.proofs.DraftLemmas.{rule_added}
use Rattle.bt_facts.proofs.draft.Draft.add.Goals as goal

pub returns : goal.returns
returns c =
    let first = c.in_ok-push_claims.ensures in
    let second = c.in_ok-push_claims-2.ensures in
    let claims = c.deref.ensures.value ∙ second ∙ ap (λ l. l ++ map (claim true) c.args.one_of.now) (first ∙ ap (λ l. l ++ map (claim false) c.args.given.now) c.clear.ensures.items) in
    ap (map rule_of) (c.in_ok-add_slice.ensures.added.right.0) ∙ rule_added c.self.inside.rules c.deref.result.now c.args.given.now c.args.one_of.now claims
    ∙ ap (λ l. l ++ rule c.args.given.now c.args.one_of.now ∷ []) c.self.view_is
