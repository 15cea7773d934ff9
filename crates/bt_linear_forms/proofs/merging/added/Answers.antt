use Rattle.std.proofs.Common.{refl, ◌≢◌, ◌∙◌, sym, pos}
use Rattle.std.proofs.lemmas.Bool.{false≢true}
use Rattle.bt_linear_forms.proofs.merging.added.Goals as goal

pub returns-clause-term : goal.returns-clause-term
returns-clause-term c =
    let some : c.in-Some-add.sum.over ≢ pos 0 = λ e. false≢true (sym c.if-is_zero.false ∙ c.is_zero.ensures.1 e) in
    record {
      product = c.in-Some.product;
      product_lowest = c.in-Some.ensures.lowest;
      is_product = c.in-Some.ensures.some;
      sum = c.in-Some-add.sum;
      sum_lowest = c.in-Some-add.ensures.lowest;
      is_sum = c.in-Some-add.ensures.sum;
      is_term = (refl, some);
    }
