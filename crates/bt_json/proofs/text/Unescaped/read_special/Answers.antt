use Rattle.std.proofs.Common.{arith, get_or}
use Rattle.bt_json.specs.inner.Unescaping.{around}
use Rattle.bt_json.proofs.Running.{moved2, moved2_err}
use Rattle.bt_json.proofs.Texts.{control_breaks, backslash, must_be_wide}
use Rattle.bt_json.proofs.text.Unescaped.read_special.Goals as goal

pub read_wide-requires-clause-wide : goal.read_wide-requires-clause-wide
read_wide-requires-clause-wide c = must_be_wide (get_or c.args.bytes.now c.args.start 0) c.requires.special c.requires.no_quote c.if-bytes-start-eq92.false (omega arith)

pub returns-then-bytes-start-lt32-clause-err : goal.returns-then-bytes-start-lt32-clause-err
returns-then-bytes-start-lt32-clause-err c = λ role k. control_breaks c.args.bytes.now c.args.start (around c.args.self.now role k) c.requires.within (omega arith)

pub returns-then-bytes-start-eq92-clause-ok : goal.returns-then-bytes-start-eq92-clause-ok
returns-then-bytes-start-eq92-clause-ok c = moved2 c.read_escape.result _ _ _ (λ role k. backslash c.args.bytes.now c.args.start (around c.args.self.now role k) c.requires.within c.if-bytes-start-eq92.true) c.read_escape.ensures.ok

pub returns-then-bytes-start-eq92-clause-err : goal.returns-then-bytes-start-eq92-clause-err
returns-then-bytes-start-eq92-clause-err c = moved2_err c.read_escape.result _ _ (λ role k. backslash c.args.bytes.now c.args.start (around c.args.self.now role k) c.requires.within c.if-bytes-start-eq92.true) c.read_escape.ensures.err
