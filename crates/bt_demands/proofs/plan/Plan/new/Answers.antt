use Rattle.std.proofs.Common.{◌∙◌, not, ap}
use Rattle.std.specs.List.{filter}
use Rattle.bt_demands.specs.Classes.{ends_out}
use Rattle.bt_facts.specs.declared.fact.Class.{Class}
use Rattle.bt_demands.proofs.plan.Plan.new.Goals as goal

pub returns : goal.returns
returns c =
    let r = c.args.request.now in
    record {
      is_request = c.in_ok-gates.ensures.request;
      classes = c.in_ok-classes.ensures;
      inputs = c.in_ok-inputs.ensures;
      kept = c.in_ok-kept.ensures ∙ ap (filter (λ (k : Class). not (ends_out r k))) (c.deref-2.ensures.value ∙ c.in_ok-classes.ensures);
      ways_of = c.in_ok-ways.ensures.of ∙ c.deref-3.ensures.value ∙ c.in_ok-classes.ensures;
      ways = c.in_ok-ways.ensures.ways;
      gates_of = c.in_ok-gates.ensures.of;
      gates = c.in_ok-gates.ensures.gates;
    }
