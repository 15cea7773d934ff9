use Rattle.std.proofs.Common.{◌≡◌, ◌++◌, length}
use Rattle.bt_extend.specs.inner.Told.{words_of}
use Rattle.bt_extend.proofs.reading.terms_of.Given as goal

-- the words so far are those of the terms
abbrev pub invariant-loop-rest : goal.invariant-loop-rest
invariant-loop-rest l = l.words ≡ words_of l.terms.items ++ l.rest

abbrev pub decreases-loop-rest : goal.decreases-loop-rest
decreases-loop-rest l = length l.rest
