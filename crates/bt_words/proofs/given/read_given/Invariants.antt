use Rattle.std.proofs.Common.{length, map, string_bytes}
use Rattle.bt_words.specs.inner.Reading.{LeadsTo}
use Rattle.bt_words.proofs.given.read_given.Given as goal

abbrev pub invariant-loop-rest : goal.invariant-loop-rest
invariant-loop-rest l = LeadsTo (map string_bytes l.fn.words) l.given (map string_bytes l.rest)

abbrev pub decreases-loop-rest : goal.decreases-loop-rest
decreases-loop-rest l = length l.rest
