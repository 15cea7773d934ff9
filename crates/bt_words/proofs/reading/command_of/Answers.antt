use Rattle.std.proofs.Common.{◌∷◌, map, string_bytes, ◌∙◌, refl, ap}
use Rattle.bt_words.proofs.Readings.{first_word}
use Rattle.bt_words.proofs.OneCommand.{none_given, command_is}
use Rattle.bt_words.proofs.reading.command_of.Goals as goal

pub returns-in_err-read_given : goal.returns-in_err-read_given
returns-in_err-read_given c =
    rw c.from_residual-in_err-read_given.ensures
    (none_given (map string_bytes c.args.words.now) c.as_str.result.now (map string_bytes c.in_ok-word.behind.now)
    (first_word c.args.words.now c.in_ok-word.word.now c.in_ok-word.behind.now c.as_str.result.now c.in_ok-word.ensures.cases c.as_str.ensures.value) c.in_err-read_given.ensures)

pub returns : goal.returns
returns c =
    let name = (c.in_ok-verb.ensures c.in_ok-verb.verb).0 refl in
    command_is (map string_bytes c.args.words.now) (map string_bytes c.in_ok-word.behind.now) c.in_ok-verb.verb c.in_ok-read_given.field-0 c.with_given.result
    (first_word c.args.words.now c.in_ok-word.word.now c.in_ok-word.behind.now c.as_str.result.now c.in_ok-word.ensures.cases c.as_str.ensures.value
    ∙ ap (λ w. w ∷ map string_bytes c.in_ok-word.behind.now) name)
    c.in_ok-read_given.ensures c.with_given.ensures
