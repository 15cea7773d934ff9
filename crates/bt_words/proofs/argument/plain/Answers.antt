use Rattle.bt_words.proofs.Placed.{mark_is_plain, placed_or_none}
use Rattle.bt_words.proofs.argument.plain.Goals as goal

pub returns-in-Some : goal.returns-in-Some
returns-in-Some c = mark_is_plain c.in-Some.argument c.args.word.now c.in-Some.ensures

pub returns-in-None : goal.returns-in-None
returns-in-None c = placed_or_none c.args.word.now c.as_bytes.result.now c.placed.result c.as_bytes.ensures.value c.in-None.ensures c.placed.ensures
