use Rattle.bt_json.proofs.Closing.{closed_list, closed_object, full_list, full_object}
use Rattle.bt_json.proofs.nested.Nested.close.Goals as goal

pub returns-in-None-clause-value : goal.returns-in-None-clause-value
returns-in-None-clause-value c = closed_list c.args.self c.shrink_to_fit.new.self c.in-None.is c.shrink_to_fit.ensures.items

pub returns-in-None-clause-full : goal.returns-in-None-clause-full
returns-in-None-clause-full c = full_list c.args.self c.shrink_to_fit.new.self c.shrink_to_fit.ensures.items

pub returns-in_ok-finish-in-Some-clause-value : goal.returns-in_ok-finish-in-Some-clause-value
returns-in_ok-finish-in-Some-clause-value c =
    closed_object c.args.self c.in-Some.names c.in_ok-finish-in-Some.field-0 c.shrink_to_fit.new.self c.in-Some.is c.in_ok-finish-in-Some.ensures c.shrink_to_fit.ensures.items

pub returns-in_ok-finish-in-Some-clause-full : goal.returns-in_ok-finish-in-Some-clause-full
returns-in_ok-finish-in-Some-clause-full c =
    full_object c.args.self c.in-Some.names c.in_ok-finish-in-Some.field-0 c.shrink_to_fit.new.self c.in-Some.is c.in_ok-finish-in-Some.ensures c.shrink_to_fit.ensures.items
