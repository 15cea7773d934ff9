use Rattle.std.proofs.Common.{◌∷◌, map, string_bytes, sym, ◌∙◌, ap}
use Rattle.bt_words.proofs.Fronts.{begins_alone, begins_apart, begins_joined, none_joined, none_bare, none_apart}
use Rattle.bt_words.proofs.Readings.{first_word, no_words}
use Rattle.bt_words.proofs.argument.next_argument.Goals as goal

pub returns-in-Some : goal.returns-in-Some
returns-in-Some c =
    begins_alone (map string_bytes c.args.words.now) c.as_str.result.now (map string_bytes c.in_ok-word.rest.now) c.in-Some.argument
    (first_word c.args.words.now c.in_ok-word.word.now c.in_ok-word.rest.now c.as_str.result.now c.in_ok-word.ensures.cases c.as_str.ensures.value) c.in-Some.ensures

pub returns-in_err-valued : goal.returns-in_err-valued
returns-in_err-valued c =
    rw c.from_residual-in_err-valued.ensures
    (none_joined (map string_bytes c.args.words.now) c.as_str.result.now (map string_bytes c.in_ok-word.rest.now)
    (first_word c.args.words.now c.in_ok-word.word.now c.in_ok-word.rest.now c.as_str.result.now c.in_ok-word.ensures.cases c.as_str.ensures.value) c.in_default.ensures
    c.in_ok-option.option.now (c.as_str.ensures.value ∙ sym c.as_bytes.ensures.value ∙ c.in_ok-option.ensures.some)
    c.in-Some-split_once.name.now c.in-Some-split_once.value.now c.in-Some-split_once.ensures.some c.in_err-valued.ensures)

pub returns-in-Some-split_once : goal.returns-in-Some-split_once
returns-in-Some-split_once c =
    begins_joined (map string_bytes c.args.words.now) c.as_str.result.now c.in_ok-option.option.now c.in-Some-split_once.name.now c.in-Some-split_once.value.now (map string_bytes c.in_ok-word.rest.now) c.in_ok-valued.field-0
    (first_word c.args.words.now c.in_ok-word.word.now c.in_ok-word.rest.now c.as_str.result.now c.in_ok-word.ensures.cases c.as_str.ensures.value)
    (c.as_str.ensures.value ∙ sym c.as_bytes.ensures.value ∙ c.in_ok-option.ensures.some) c.in-Some-split_once.ensures.some c.in_ok-valued.ensures

pub returns-in_err-value : goal.returns-in_err-value
returns-in_err-value c =
    rw c.from_residual-in_err-value.ensures
    (none_bare (map string_bytes c.args.words.now) c.as_str.result.now (map string_bytes c.in_ok-word.rest.now)
    (first_word c.args.words.now c.in_ok-word.word.now c.in_ok-word.rest.now c.as_str.result.now c.in_ok-word.ensures.cases c.as_str.ensures.value) c.in_default.ensures
    c.in_ok-option.option.now (c.as_str.ensures.value ∙ sym c.as_bytes.ensures.value ∙ c.in_ok-option.ensures.some)
    c.in_default-split_once.ensures.none (no_words c.in_ok-word.rest.now c.in_err-value.ensures.cases))

pub returns-in_err-valued-2 : goal.returns-in_err-valued-2
returns-in_err-valued-2 c =
    rw c.from_residual-in_err-valued-2.ensures
    (none_apart (map string_bytes c.args.words.now) c.as_str.result.now (map string_bytes c.in_ok-word.rest.now)
    (first_word c.args.words.now c.in_ok-word.word.now c.in_ok-word.rest.now c.as_str.result.now c.in_ok-word.ensures.cases c.as_str.ensures.value) c.in_default.ensures
    c.in_ok-option.option.now (c.as_str.ensures.value ∙ sym c.as_bytes.ensures.value ∙ c.in_ok-option.ensures.some)
    c.as_bytes-2.result.now (map string_bytes c.in_ok-value.rest.now) c.in_default-split_once.ensures.none
    (first_word c.in_ok-word.rest.now c.in_ok-value.value.now c.in_ok-value.rest.now c.as_bytes-2.result.now c.in_ok-value.ensures.cases c.as_bytes-2.ensures.value) c.in_err-valued-2.ensures)

pub returns : goal.returns
returns c =
    begins_apart (map string_bytes c.args.words.now) c.as_str.result.now c.in_ok-option.option.now c.as_bytes-2.result.now (map string_bytes c.in_ok-value.rest.now) c.in_ok-valued-2.field-0
    (first_word c.args.words.now c.in_ok-word.word.now c.in_ok-word.rest.now c.as_str.result.now c.in_ok-word.ensures.cases c.as_str.ensures.value
    ∙ ap (λ r. c.as_str.result.now ∷ r) (first_word c.in_ok-word.rest.now c.in_ok-value.value.now c.in_ok-value.rest.now c.as_bytes-2.result.now c.in_ok-value.ensures.cases c.as_bytes-2.ensures.value))
    (c.as_str.ensures.value ∙ sym c.as_bytes.ensures.value ∙ c.in_ok-option.ensures.some) c.in_ok-valued-2.ensures
