use Rattle.bt_words.proofs.Placed.{wish_placed, number_placed}
use Rattle.bt_words.proofs.given.Given.with.Goals as goal

pub returns-in-Wished : goal.returns-in-Wished
returns-in-Wished c = rw c.in-Wished.is (wish_placed c.args.self c.in-Wished.wish c.with_wish.result c.with_places.result c.with_places.ensures c.with_wish.ensures)

pub returns-in-Number : goal.returns-in-Number
returns-in-Number c = rw c.in-Number.is (number_placed c.args.self c.in-Number.number c.with_number.result c.with_places-in-Number.result c.with_places-in-Number.ensures c.with_number.ensures)
