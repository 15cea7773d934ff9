use Rattle.std.proofs.Common.{ap, ◌∙◌}
use Rattle.bt_place.proofs.Encoded.{encoding_of, formula_written}
use Rattle.bt_place.proofs.encoding.encode_place.Goals as goal

pub write_all-requires : goal.write_all-requires
write_all-requires c = record {
  encoding = encoding_of c.args.request.now c.in_ok-numbers.ensures.known c.in_ok-numbers.numbers c.in_ok-formula.formula.vars c.in_ok-numbers.ensures.sizes
      (ap (λ f. f.vars) c.in_ok-formula.ensures ∙ c.variables.ensures);
}

pub returns-clause-formula : goal.returns-clause-formula
returns-clause-formula c = formula_written c.args.request.now c.in_ok-numbers.numbers c.in_ok-formula.formula c.write_all.new.formula c.variables.result c.in_ok-numbers.ensures.sizes c.variables.ensures c.in_ok-formula.ensures c.in_ok-write_all.ensures
