use Rattle.std.proofs.Common.{arith}
use Rattle.bt_json.proofs.Running.{word_begins, word_goes_on, word_breaks, word_ends}
use Rattle.bt_json.proofs.scan.skip_word.Goals as goal
use Rattle.bt_json.proofs.scan.skip_word.Goals.{then-at-bytes-via-then-at-bytes, then-at-bytes-via-else-at-bytes+then-bytes-at}

pub returns-then-at-bytes : goal.returns-then-at-bytes
returns-then-at-bytes c = λ word. word_breaks c.args.bytes.now c.loop-letter.at c.args.letters.now c.loop-letter.letter-index word.0 word.1 _ (omega arith)
    (λ lt same. elim c.then-at-bytes.branch [
      | then-at-bytes-via-then-at-bytes w ↦ omega (arith, w.if-at-bytes.true)
      | then-at-bytes-via-else-at-bytes+then-bytes-at w ↦ w.if-bytes-at.true same
    ])
    (c.loop-letter.invariant.spelled word.0 word.1)

pub loop-letter-init : goal.loop-letter-init
loop-letter-init c = record {
  from = omega arith;
  within = c.requires.within;
  spelled = λ v k. word_begins c.args.bytes.now c.args.start c.args.letters.now c.requires.some v k;
}

pub loop-letter-preserved : goal.loop-letter-preserved
loop-letter-preserved c = record {
  from = omega arith;
  within = omega arith;
  spelled = λ v k. word_goes_on c.args.bytes.now c.loop-letter.at c.args.letters.now c.loop-letter.letter-index v k _ (omega arith) (omega arith) c.if-bytes-at.false (c.loop-letter.invariant.spelled v k);
}

pub returns : goal.returns
returns c = ((c.loop-letter.invariant.from, c.loop-letter.invariant.within), λ word. word_ends c.args.bytes.now c.loop-letter.at c.args.letters.now c.loop-letter.letter-index word.0 word.1 _ (omega arith) (c.loop-letter.invariant.spelled word.0 word.1))
