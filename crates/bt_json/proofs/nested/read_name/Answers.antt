use Rattle.std.proofs.Common.{true, arith, List, ℕ, ◌+◌, ◌-◌, ◌∷◌, sym, ap, ◌∙◌, subst}
use Rattle.std.proofs.lemmas.Result.{err_from_is_err_and}
use Rattle.bt_json.specs.inner.Names.{names_of}
use Rattle.bt_json.specs.inner.Reading.{has_name, name_due, colon_due, as_name, due, in_object}
use Rattle.bt_json.specs.inner.Running.{Faults, rest_of}
use Rattle.bt_json.proofs.Levels.{quote_opens, name_breaks, colon_goes_on, colon_breaks, name_twice, name_new}
use Rattle.bt_json.proofs.Blanks.{skips_name_due, skips_colon_due}
use Rattle.bt_json.proofs.NameLemmas.{taken_before, taken_first}
use Rattle.bt_json.proofs.nested.read_name.Goals as goal

pub returns-in_err-expect_byte-clause-read : goal.returns-in_err-expect_byte-clause-read
returns-in_err-expect_byte-clause-read c =
    let bs = c.args.bytes.now in
    let q = c.skip_blanks-quote in
    let names = names_of c.args.names.now in
    let p = err_from_is_err_and c.from_residual.result c.from_residual.ensures.1 in
    rw (p.1, p.2, c.in_err-expect_byte.ensures.err.0) (λ o.
    let vs = o.0 in
    let k = o.1 in
    q.ensures.blanks (name_due names vs k) (skips_name_due true names vs k) ∙ name_breaks bs q.result names vs k q.ensures.ends c.in_err-expect_byte.ensures.err.1)

pub returns-in_err-added-clause-read : goal.returns-in_err-added-clause-read
returns-in_err-added-clause-read c =
    let bs = c.args.bytes.now in
    let q = c.skip_blanks-quote in
    let names = names_of c.args.names.now in
    let p = err_from_is_err_and c.from_residual-in_err-added.result c.from_residual-in_err-added.ensures.1 in
    rw (p.1, p.2) (λ o. let vs = o.0 in let k = o.1 in subst (Faults c.in_err-added.field-0.0)
    (sym (q.ensures.blanks (name_due names vs k) (skips_name_due true names vs k) ∙ quote_opens bs q.result names vs k c.in_ok-expect_byte.ensures.ok.0 c.in_ok-expect_byte.ensures.ok.1))
    (c.in_err-added.ensures (as_name names vs q.result) k))

pub returns-then-not-added-clause-read : goal.returns-then-not-added-clause-read
returns-then-not-added-clause-read c = λ o.
    let vs = o.0 in
    let k = o.1 in
    let bs = c.args.bytes.now in
    let q = c.skip_blanks-quote in
    let names = names_of c.args.names.now in
    let taken = c.in_ok-added.ensures in
    let there = taken_before c.in_ok-added.added (has_name names taken.name) taken.adds.added c.if-not-added.true in
    let end = c.in_ok-added.end in (
      end - 1,
      q.ensures.blanks (name_due names vs k) (skips_name_due true names vs k) ∙ quote_opens bs q.result names vs k c.in_ok-expect_byte.ensures.ok.0 c.in_ok-expect_byte.ensures.ok.1
          ∙ taken.read (as_name names vs q.result) k ∙ name_twice bs end (end - 1) q.result names vs taken.name k there,
    )

pub returns-in_err-expect_byte-2-clause-read : goal.returns-in_err-expect_byte-2-clause-read
returns-in_err-expect_byte-2-clause-read c =
    let bs = c.args.bytes.now in
    let q = c.skip_blanks-quote in
    let d = c.skip_blanks-colon in
    let names = names_of c.args.names.now in
    let taken = c.in_ok-added.ensures in
    let first = taken_first c.in_ok-added.added (has_name names taken.name) taken.adds.added c.if-not-added.false in
    let end = c.in_ok-added.end in
    let p = err_from_is_err_and c.from_residual-in_err-expect_byte-2.result c.from_residual-in_err-expect_byte-2.ensures.1 in
    rw (p.1, p.2, c.in_err-expect_byte-2.ensures.err.0) (λ o.
    let vs = o.0 in
    let k = o.1 in
    q.ensures.blanks (name_due names vs k) (skips_name_due true names vs k) ∙ quote_opens bs q.result names vs k c.in_ok-expect_byte.ensures.ok.0 c.in_ok-expect_byte.ensures.ok.1
    ∙ taken.read (as_name names vs q.result) k ∙ name_new bs end (end - 1) q.result names vs taken.name k first
    ∙ d.ensures.blanks (colon_due names vs taken.name k) (skips_colon_due true names vs taken.name k) ∙ colon_breaks bs d.result names vs taken.name k d.ensures.ends c.in_err-expect_byte-2.ensures.err.1)

pub returns-clause-read : goal.returns-clause-read
returns-clause-read c = (
  (let a = c.skip_blanks-quote.ensures.later in let b = c.in_ok-added.ensures.later in let d = c.skip_blanks-colon.ensures.later in let e = c.in_ok-expect_byte-2.ensures.ok.0 in (omega arith, omega arith)),
  λ o.
      let vs = o.0 in
      let k = o.1 in
      let bs = c.args.bytes.now in
      let q = c.skip_blanks-quote in
      let d = c.skip_blanks-colon in
      let names = names_of c.args.names.now in
      let taken = c.in_ok-added.ensures in
      let first = taken_first c.in_ok-added.added (has_name names taken.name) taken.adds.added c.if-not-added.false in
      let end = c.in_ok-added.end in
      q.ensures.blanks (name_due names vs k) (skips_name_due true names vs k) ∙ quote_opens bs q.result names vs k c.in_ok-expect_byte.ensures.ok.0 c.in_ok-expect_byte.ensures.ok.1
      ∙ taken.read (as_name names vs q.result) k ∙ name_new bs end (end - 1) q.result names vs taken.name k first
      ∙ d.ensures.blanks (colon_due names vs taken.name k) (skips_colon_due true names vs taken.name k) ∙ colon_goes_on bs d.result names vs taken.name k c.in_ok-expect_byte-2.ensures.ok.0 c.in_ok-expect_byte-2.ensures.ok.1
      ∙ ap (λ (ns : List (List ℕ)). rest_of bs (d.result + 1) (due (in_object ns vs ∷ k))) (sym (taken.adds.names c.if-not-added.false)),
)
