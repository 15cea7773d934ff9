use Rattle.std.proofs.Common.{ℕ, List, String, Global, map, string_bytes, arith}
use Rattle.std.proofs.lemmas.List.{length-map}
use Rattle.std.proofs.lemmas.Grind.{common_steps}
use Rattle.bt_words.proofs.Fronts.{some_word}
use Rattle.bt_words.proofs.Readings.{no_words, some_words, leads_at_first, leads_on, no_argument, no_place, all_given}
use Rattle.bt_words.proofs.given.read_given.Goals as goal

pub loop-rest-init : goal.loop-rest-init
loop-rest-init c = leads_at_first (map string_bytes c.args.words.now)

pub returns-in_err-argument : goal.returns-in_err-argument
returns-in_err-argument c =
    rw c.from_residual.ensures (no_argument (map string_bytes c.args.words.now) (map string_bytes c.loop-rest.rest.now) c.loop-rest.given c.loop-rest.invariant (some_words c.loop-rest.rest.now c.is_empty.result c.is_empty.ensures c.loop-rest-test.true) c.in_err-argument.ensures)

pub returns-in_err-given : goal.returns-in_err-given
returns-in_err-given c =
    rw c.from_residual-in_err-given.ensures
    (no_place (map string_bytes c.args.words.now) (map string_bytes c.loop-rest.rest.now) (map string_bytes c.in_ok-argument.behind.now) c.loop-rest.given c.in_ok-argument.argument
    c.loop-rest.invariant c.in_ok-argument.ensures c.in_err-given.ensures)

pub loop-rest-smaller : goal.loop-rest-smaller
loop-rest-smaller c =
    omega (
      arith,
      some_word (map string_bytes c.loop-rest.rest.now) c.in_ok-argument.argument (map string_bytes c.in_ok-argument.behind.now) c.in_ok-argument.ensures,
      length-map {A = String Global} {B = List ℕ} c.loop-rest.rest.now string_bytes,
      length-map {A = String Global} {B = List ℕ} c.in_ok-argument.behind.now string_bytes,
    )

pub loop-rest-preserved : goal.loop-rest-preserved
loop-rest-preserved c =
    leads_on (map string_bytes c.args.words.now) (map string_bytes c.loop-rest.rest.now) (map string_bytes c.in_ok-argument.behind.now) c.loop-rest.given c.in_ok-given.given
    c.in_ok-argument.argument c.loop-rest.invariant c.in_ok-argument.ensures c.in_ok-given.ensures

pub returns : goal.returns
returns c = all_given (map string_bytes c.args.words.now) (map string_bytes c.loop-rest.rest.now) c.loop-rest.given c.loop-rest.invariant (no_words c.loop-rest.rest.now (grind (arith, common_steps)))
