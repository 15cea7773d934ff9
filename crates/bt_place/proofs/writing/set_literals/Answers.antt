use Rattle.bt_place.proofs.Written.{claims_within, clause_written}
use Rattle.bt_place.proofs.writing.set_literals.Goals as goal

pub push_all_given-requires-clause-within : goal.push_all_given-requires-clause-within
push_all_given-requires-clause-within c = claims_within c.args.numbers.now c.args.claims.now c.requires.within

pub push_all_following-requires-clause-within : goal.push_all_following-requires-clause-within
push_all_following-requires-clause-within c = claims_within c.args.numbers.now c.args.claims.now c.requires.within

pub returns : goal.returns
returns c = clause_written c.args.numbers.now c.args.claims.now c.clear.new.self.items c.push_all_given.new.lits.items c.push_all_following.new.lits.items c.clear.ensures.items c.in_ok-push_all_given.ensures c.in_ok-push_all_following.ensures
