use Rattle.std.proofs.Common.{◌≡◌, ◌+◌, [], length, refl, arith}
use Rattle.bt_cert.specs.StepLines.{WrittenStep}
use Rattle.bt_cert.proofs.Stages.{nothing_read}
use Rattle.bt_cert.proofs.reading.Reading.new.Goals as goal

pub returns-clause-read : goal.returns-clause-read
returns-clause-read c = nothing_read c.args.first _ c.args.formula.now c.in_ok-new.ensures.start c.new-3.ensures.items (let e : c.args.first ≡ c.args.first + length {A = WrittenStep} [] = omega arith in e) refl
